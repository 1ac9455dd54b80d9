-- What a region keeps where a group is taken out of it.
use Rattle.std.proofs.Common.{◌≡◌, ℕ, ◌+◌, ◌≤◌, Bool, true, false, ◌&&◌, not, List, refl, sym, ap, ◌∙◌, arith}
use Rattle.std.proofs.lemmas.Bool.{and_parts, false≢true}
use Rattle.grouping_laws.specs.Sets.{indicator, count, contains}
use Rattle.grouping_laws.specs.Problem.{Problem}
use Rattle.grouping_laws.specs.Parts.{IsPart}
use Rattle.place_sets.proofs.Sums.{often_none, often_some}
use Rattle.certificate_laws.specs.Regions.{without}

and_yes : (b : Bool) → indicator (b && not false) ≡ indicator b
and_yes true = refl
and_yes false = refl

-- a county of a region is in a group inside it or in the region without the group
pub split_one : (region : ℕ → Bool) (g : List ℕ) → ((c : ℕ) → count c g ≤ 1) → ((c : ℕ) → contains g c ≡ true → region c ≡ true) → (x : ℕ) → count x g + indicator (without g region x) ≡ indicator (region x)
split_one region g once inside x = go (contains g x) refl
  where
    go : (b : Bool) → contains g x ≡ b → count x g + indicator (region x && not b) ≡ indicator (region x)
    go true e = rw (inside x e) (omega (arith, often_some x g e, once x))
    go false e = omega (arith, often_none x g e, and_yes (region x))

pub without_not : (g : List ℕ) (region : ℕ → Bool) (x : ℕ) → without g region x ≡ true → contains g x ≡ false
without_not g region x e = go (contains g x) (and_parts (region x) (not (contains g x)) e).1
  where
    go : (b : Bool) → not b ≡ true → b ≡ false
    go true h = absurd (false≢true h)
    go false h = refl

pub without_in : (g : List ℕ) (region : ℕ → Bool) (x : ℕ) → without g region x ≡ true → region x ≡ true
without_in g region x e = (and_parts (region x) (not (contains g x)) e).0

-- what groups with the same codes leave has the same parts
pub without_same : (p : Problem) (region : ℕ → Bool) (g k xs : List ℕ) → ((x : ℕ) → contains g x ≡ contains k x) → IsPart p (without k region) xs → IsPart p (without g region) xs
without_same p region g k xs same a = record {
  once = a.once;
  connected = a.connected;
  inside = λ x e. ap (λ b. region x && not b) (same x) ∙ a.inside x e;
  whole = λ x y m r t. a.whole x y m (ap (λ b. region y && not b) (sym (same y)) ∙ r) t;
}
