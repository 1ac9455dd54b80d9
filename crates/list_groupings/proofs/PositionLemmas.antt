-- Positions: what closing a group and raising a county does to them, and what they say of open counties.
use Rattle.std.proofs.Common.{◌≡◌, ℕ, ◌+◌, ◌≤◌, ◌<◌, Bool, true, false, cond, not, ◌&&◌, ◌==◌, nat_le, List, [], ◌∷◌, ◌++◌, map, filter, take, length, get_or, refl, sym, ap, ◌∙◌, arith, inl, inr}
use Rattle.std.proofs.lemmas.Bool.Decides.{nat_tests}
use Rattle.std.proofs.lemmas.List.{length-map}
use Rattle.grouping_laws.specs.Sets.{sum_by, contains}
use Rattle.grouping_laws.specs.Problem.{Problem}
use Rattle.grouping_laws.proofs.Elements.{Has}
use Rattle.grouping_laws.proofs.Places.{has_member}
use Rattle.place_sets.proofs.Sums.{sum_by-map, sum_by-append, total_ones}
use Rattle.certificate_laws.specs.State.{State, close, raise, open_to}
use Rattle.certificate_laws.specs.Regions.{without, listed}
use Rattle.certificate_data.proofs.ListLaws.{taken_more}
use Rattle.list_groupings.specs.declared.position.Waiting.{Waiting}
use Rattle.list_groupings.specs.declared.position.Position.{Position}
use Rattle.list_groupings.specs.Positions.{waiting, raised_past, IsPosition}

pub within : (a b n : ℕ) → a ≤ b → cond (nat_le a b) n 0 ≡ n
within a b n h = grind (arith, nat_tests)

pub beyond : (a b n : ℕ) → b < a → cond (nat_le a b) n 0 ≡ 0
beyond a b n h = grind (arith, nat_tests)

kept_all : (t : ℕ → Bool) (xs : List ℕ) → ((x : ℕ) → Has xs x → t x ≡ true) → filter t xs ≡ xs
kept_all t [] all = refl
kept_all t (x ∷ xs) all = rw (all x (inl refl)) (ap (λ l. x ∷ l) (kept_all t xs (λ y h. all y (inr h))))

pub kept_own : (xs : List ℕ) → filter (contains xs) xs ≡ xs
kept_own xs = kept_all (contains xs) xs (has_member xs)

pub mapped_codes : {X : Type 0} (code : X → ℕ) (least : ℕ → ℕ) (xs : List X) → map (λ x. waiting least (code x)) xs ≡ map (waiting least) (map code xs)
mapped_codes code least [] = refl
mapped_codes code least (x ∷ xs) = ap (λ l. waiting least (code x) ∷ l) (mapped_codes code least xs)

close_rest : (g : List ℕ) (least : ℕ → ℕ) (t : ℕ → Bool) (cs : List ℕ)
    → filter (λ w. not (contains g w.code)) (map (waiting least) (filter t cs)) ≡ map (waiting (λ c. cond (contains g c) 0 (least c))) (filter (without g t) cs)
close_rest g least t [] = refl
close_rest g least t (c ∷ cs) = go (t c) (contains g c) refl refl (close_rest g least t cs)
  where
    go : (a b : Bool) → t c ≡ a → contains g c ≡ b → filter (λ w. not (contains g w.code)) (map (waiting least) (filter t cs)) ≡ map (waiting (λ c. cond (contains g c) 0 (least c))) (filter (without g t) cs)
        → filter (λ w. not (contains g w.code)) (map (waiting least) (filter t (c ∷ cs))) ≡ map (waiting (λ c. cond (contains g c) 0 (least c))) (filter (without g t) (c ∷ cs))
    go true true e f h = rw (e, f) h
    go true false e f h =
        rw (e, f)
        (ap (λ l. waiting least c ∷ l) h
        ∙ ap (λ b. waiting (λ x. cond b 0 (least x)) c ∷ map (waiting (λ x. cond (contains g x) 0 (least x))) (filter (without g t) cs)) (sym f))
    go false true e f h = rw (e) h
    go false false e f h = rw (e) h

pub closed_position : (p : Problem) (s : State) (g : List ℕ) (old new : Position) → IsPosition p s old → new.closed.items ≡ old.closed.items ++ g ∷ [] → new.rest.items ≡ filter (λ w. not (contains g w.code)) old.rest.items
    → IsPosition p (close g s) new
closed_position p s g old new h closed rest = record {
  closed = closed ∙ ap (λ l. l ++ g ∷ []) h.closed;
  rest = rest ∙ (ap (filter (λ w. not (contains g w.code))) h.rest ∙ close_rest g s.least s.rest p.counties);
}

raise_rest : (county j : ℕ) (least : ℕ → ℕ) (xs : List ℕ) → map (raised_past county j) (map (waiting least) xs) ≡ map (waiting (λ c. cond (c == county) (j + 1) (least c))) xs
raise_rest county j least [] = refl
raise_rest county j least (x ∷ xs) = ap (λ l. waiting (λ c. cond (c == county) (j + 1) (least c)) x ∷ l) (raise_rest county j least xs)

pub raised_position : (p : Problem) (s : State) (county j : ℕ) (old new : Position) → IsPosition p s old → new.closed.items ≡ old.closed.items → new.rest.items ≡ map (raised_past county j) old.rest.items
    → IsPosition p (raise county j s) new
raised_position p s county j old new h closed rest = record {
  closed = closed ∙ h.closed;
  rest = rest ∙ (ap (map (raised_past county j)) h.rest ∙ raise_rest county j s.least (filter s.rest p.counties));
}

open_codes : (least : ℕ → ℕ) (t : ℕ → Bool) (i : ℕ) (cs : List ℕ)
    → map (λ w. w.code) (filter (λ w. nat_le w.least i) (map (waiting least) (filter t cs))) ≡ filter (λ c. t c && nat_le (least c) i) cs
open_codes least t i [] = refl
open_codes least t i (c ∷ cs) = go (t c) (nat_le (least c) i) refl refl (open_codes least t i cs)
  where
    go : (a b : Bool) → t c ≡ a → nat_le (least c) i ≡ b → map (λ w. w.code) (filter (λ w. nat_le w.least i) (map (waiting least) (filter t cs))) ≡ filter (λ c. t c && nat_le (least c) i) cs
        → map (λ w. w.code) (filter (λ w. nat_le w.least i) (map (waiting least) (filter t (c ∷ cs)))) ≡ filter (λ c. t c && nat_le (least c) i) (c ∷ cs)
    go true true e f h = rw (e, f) (ap (λ l. c ∷ l) h)
    go true false e f h = rw (e, f) h
    go false b e f h = rw (e) h

-- the codes of the counties that are open to a group of i
pub are_open : (p : Problem) (s : State) (position : Position) (i : ℕ) → IsPosition p s position → map (λ w. w.code) (filter (λ w. nat_le w.least i) position.rest.items) ≡ listed p (open_to s i)
are_open p s position i h = ap (λ l. map (λ w. w.code) (filter (λ w. nat_le w.least i) l)) h.rest ∙ open_codes s.least s.rest i p.counties

pub open_number : (p : Problem) (s : State) (position : Position) (i : ℕ) → IsPosition p s position → length (filter (λ w. nat_le w.least i) position.rest.items) ≡ length (listed p (open_to s i))
open_number p s position i h = sym (length-map (filter (λ w. nat_le w.least i) position.rest.items) (λ (w : Waiting). w.code)) ∙ ap length (are_open p s position i h)

pub open_total : (f : ℕ → ℕ) (p : Problem) (s : State) (position : Position) (i : ℕ) → IsPosition p s position → sum_by (λ w. f w.code) (filter (λ w. nat_le w.least i) position.rest.items) ≡ sum_by f (listed p (open_to s i))
open_total f p s position i h = sym (sum_by-map f (λ (w : Waiting). w.code) (filter (λ w. nat_le w.least i) position.rest.items)) ∙ ap (sum_by f) (are_open p s position i h)

pub kept_number : {X : Type 0} (q : X → Bool) (xs : List X) → sum_by (λ x. 1) (filter q xs) ≡ length (filter q xs)
kept_number q xs = total_ones (filter q xs)

filter_append : {X : Type 0} (q : X → Bool) (xs ys : List X) → filter q (xs ++ ys) ≡ filter q xs ++ filter q ys
filter_append q [] ys = refl
filter_append {X = X} q (x ∷ xs) ys = go (q x) refl (filter_append q xs ys)
  where
    go : (b : Bool) → q x ≡ b → filter q (xs ++ ys) ≡ filter q xs ++ filter q ys → filter q (x ∷ xs ++ ys) ≡ filter q (x ∷ xs) ++ filter q ys
    go true e h = rw (e) (ap (λ (l : List X). x ∷ l) h)
    go false e h = rw (e) h

-- one more of a list whose kept elements are added up
pub kept_more : {X : Type 0} (q : X → Bool) (f : X → ℕ) (xs : List X) (i : ℕ) (x : X) → x ≡ get_or xs i x → i < length xs → sum_by f (filter q (take (i + 1) xs)) ≡ sum_by f (filter q (take i xs)) + cond (q x) (f x) 0
kept_more {X = X} q f xs i x is inside =
    ap (λ l. sum_by f (filter q l)) (taken_more xs i x is inside)
    ∙ (ap (sum_by f) (filter_append q (take i xs) (x ∷ []))
    ∙ (sum_by-append f (filter q (take i xs)) (filter q (x ∷ [])) ∙ ap (λ n. sum_by f (filter q (take i xs)) + n) (one (q x) refl)))
  where
    one : (b : Bool) → q x ≡ b → sum_by f (filter q (x ∷ [])) ≡ cond b (f x) 0
    one true e = rw (e) (omega arith)
    one false e = rw (e) refl
