-- How the connected sets of places that have given ones are found: free places join a set one after another.
use Rattle.std.specs.Prelude.{ℕ, ◌≡◌, ◌≢◌, ◌≤◌, ◌<◌, Bool, true, false, ◌||◌, ◌&&◌, not, ◌==◌, nat_lt, List, filter}
use Rattle.std.specs.Prelude.{length, AllPairs, Contains, ◌⊎◌, ◌↔◌}
use Rattle.grouping_laws.specs.Sets.{contains}
use Rattle.grouping_laws.specs.Problem.{Problem, Suits, people_of, Connected}
use Rattle.grouping_laws.specs.Places.{places_below}
use Rattle.place_sets.specs.PlaceSets.{places_of}
pub use Rattle.place_sets.specs.PlaceSets.{sort_key}

-- a connected list of places, ascending, that has all of a set, else only free places, and is not too long
pub record IsExtension (p : Problem) (n limit : ℕ) (set free : ℕ → Bool) (g : List ℕ) : Type 0 where
  pub in_order : filter (contains g) (places_below n) ≡ g
  pub connected : Connected p g
  pub small : length g ≤ limit
  pub has : (c : ℕ) → set c ≡ true → contains g c ≡ true
  pub within : (c : ℕ) → contains g c ≡ true → (set c || free c) ≡ true

-- all of them that pass a test, each once
pub record AreKept (p : Problem) (n limit : ℕ) (keep : List ℕ → Bool) (set free : ℕ → Bool)
    (sets : List (List ℕ)) : Type 0 where
  pub each : (g : List ℕ) → Contains sets g ↔ (IsExtension p n limit set free g × (keep g ≡ true))
  pub once : AllPairs (λ g h. g ≢ h) sets

-- where the search stands: a connected set of places, and places that may still join it
pub record IsGrowth (p : Problem) (n limit : ℕ) (set free : ℕ → Bool) : Type 0 where
  pub connected : Connected p (places_of n set)
  pub small : length (places_of n set) ≤ limit
  pub below : (c : ℕ) → set c ≡ true → c < n
  pub free_below : (c : ℕ) → free c ≡ true → c < n
  pub apart : (c : ℕ) → set c ≡ true → free c ≡ false

-- a free place that is adjacent to the set
pub record IsCandidate (p : Problem) (set free : ℕ → Bool) (c : ℕ) : Type 0 where
  pub is_free : free c ≡ true
  pub from : ℕ
  pub from_set : set from ≡ true
  pub touch : p.adjacent from c ≡ true

-- nothing free is adjacent to the set, or the set is as large as may be
abbrev pub IsWhole : Problem → ℕ → ℕ → (ℕ → Bool) → (ℕ → Bool) → Type 0
IsWhole p n limit set free =
    ((x y : ℕ) → set x ≡ true → free y ≡ true → p.adjacent x y ≡ false) ⊎ (length (places_of n set) ≡ limit)

-- more is the set with c, and less is what is free without c
pub record IsMove (set free more less : ℕ → Bool) (c : ℕ) : Type 0 where
  pub with : (x : ℕ) → more x ≡ (set x || (x == c))
  pub without : (x : ℕ) → less x ≡ (free x && not (x == c))

-- where the sets from a place begin: that place alone, and the later ones free
pub record IsStart (n at : ℕ) (set free : ℕ → Bool) : Type 0 where
  pub there : at < n
  pub set_is : (x : ℕ) → set x ≡ true → x ≡ at
  pub set_has : set at ≡ true
  pub free_later : (x : ℕ) → free x ≡ true → (at < x) × (x < n)
  pub later_free : (x : ℕ) → at < x → x < n → free x ≡ true

-- the test passes the sets whose people suit some number of seats
pub record TestsSuiting (p : Problem) (keep : List ℕ → Bool) : Type 0 where
  pub passes : (g : List ℕ) → keep g ≡ true → (k : ℕ) × Suits p (people_of p g) k
  pub every : (g : List ℕ) (k : ℕ) → Suits p (people_of p g) k → keep g ≡ true

-- the free places that are adjacent to the set
pub record IsFront (p : Problem) (set free front : ℕ → Bool) : Type 0 where
  pub each : (c : ℕ) → front c ≡ true → IsCandidate p set free c
  pub all : (x y : ℕ) → set x ≡ true → free y ≡ true → p.adjacent x y ≡ true → front y ≡ true

-- the set of one place alone
abbrev pub only : ℕ → ℕ → Bool
only place x = x == place

-- the places after one
abbrev pub later : ℕ → ℕ → ℕ → Bool
later n place x = nat_lt x n && nat_lt place x
