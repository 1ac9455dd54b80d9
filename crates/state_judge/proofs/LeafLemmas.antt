-- Leaves by places and by codes.
use Rattle.std.proofs.Common.{◌≡◌, ℕ, ◌<◌, true, false, ◌&&◌, List, [], ◌∷◌, ◌++◌, map, length, refl, sym, ap, ◌∙◌, subst, arith, inl, inr, ◌⊎◌, ⊎_elim, ◌↔◌}
use Rattle.std.specs.List.{AllZip}
use Rattle.std.proofs.lemmas.Bool.{lt-ltb}
use Rattle.std.proofs.lemmas.List.{map-append}
use Rattle.grouping_laws.specs.Sets.{sum_by, contains}
use Rattle.grouping_laws.specs.Problem.{Problem, Suits, people_of, IsProblem}
use Rattle.grouping_laws.specs.Parts.{IsPart, AreParts}
use Rattle.grouping_laws.specs.Ranges.{IsLeast, IsMost, SuitAll}
use Rattle.grouping_laws.specs.GroupsFrom.{IsOrder, place}
use Rattle.grouping_laws.specs.Places.{codes_at}
use Rattle.grouping_laws.proofs.Elements.{Has, has_all, has_append, has_left}
use Rattle.grouping_laws.proofs.Digits.{true_digit}
use Rattle.grouping_laws.proofs.Places.{has_member}
use Rattle.grouping_laws.proofs.PlaceCodes.{mapped_has, member_code}
use Rattle.grouping_laws.proofs.PlaceProblem.{order_once, suits_codes, suits_places}
use Rattle.grouping_laws.proofs.Ranges.{people_have_ranges}
use Rattle.grouping_laws.proofs.Seated.{set_from_stands}
use Rattle.county_problem.specs.OrderedValue.{code_at, at_places}
use Rattle.certificate_laws.specs.State.{State}
use Rattle.certificate_laws.specs.Leaves.{IsStuck, IsOffSeats}
use Rattle.certificate_laws.specs.Places.{IsStateAt, in_codes}
use Rattle.certificate_laws.proofs.StateLemmas.{all_below}
use Rattle.certificate_laws.proofs.Decided.{leaves_are_decided}
use Rattle.certificate_laws.proofs.Places.{places_serve}
use Rattle.certificate_laws.proofs.PlaceStates.{states_have_codes}

-- the rest by codes, at a place and off the order
pub rest_none : (order : List ℕ) (t : State) (c : ℕ) → contains order c ≡ false → (in_codes order t).rest c ≡ false
rest_none order t c e = ap (λ b. b && t.rest (place order c)) e

zip_has : {A B : Type 0} (R : A → B → Type 0) (xs : List A) (ys : List B) (x : A) → AllZip R xs ys → Has xs x → (y : B) × R x y
zip_has R [] ys x h i = absurd i
zip_has R (a ∷ xs) [] x h i = absurd h
zip_has R (a ∷ xs) (b ∷ ys) x h (inl e) = (b, subst (λ z. R z b) e h.0)
zip_has R (a ∷ xs) (b ∷ ys) x h (inr i) = zip_has R xs ys x h.1 i

zip_mapped : {A B X : Type 0} (R : A → X → Type 0) (Q : B → X → Type 0) (f : A → B) (xs : List A) (ks : List X) → ((x : A) (k : X) → R x k → Q (f x) k) → AllZip R xs ks → AllZip Q (map f xs) ks
zip_mapped R Q f [] [] h z = tt
zip_mapped R Q f [] (k ∷ ks) h z = absurd z
zip_mapped R Q f (x ∷ xs) [] h z = absurd z
zip_mapped R Q f (x ∷ xs) (k ∷ ks) h z = (h x k z.0, zip_mapped R Q f xs ks h z.1)

-- the least and the greatest numbers of seats by places are those of the codes
all_least : (p : Problem) (order : List ℕ) (closed parts : List (List ℕ)) (ks : List ℕ) → AllZip (IsLeast (at_places p order)) (closed ++ parts) ks → AllZip (IsLeast p) (map (codes_at order) closed ++ map (codes_at order) parts) ks
all_least p order closed parts ks z =
    subst (λ sets. AllZip (IsLeast p) sets ks) (map-append (codes_at order) closed parts)
    (zip_mapped (IsLeast (at_places p order)) (IsLeast p) (codes_at order) (closed ++ parts) ks
    (λ g k h. record { suits = suits_codes p order g k h.suits; least = λ j u. h.least j (suits_places p order g j u) }) z)

all_most : (p : Problem) (order : List ℕ) (closed parts : List (List ℕ)) (ks : List ℕ) → AllZip (IsMost (at_places p order)) (closed ++ parts) ks → AllZip (IsMost p) (map (codes_at order) closed ++ map (codes_at order) parts) ks
all_most p order closed parts ks z =
    subst (λ sets. AllZip (IsMost p) sets ks) (map-append (codes_at order) closed parts)
    (zip_mapped (IsMost (at_places p order)) (IsMost p) (codes_at order) (closed ++ parts) ks
    (λ g k h. record { suits = suits_codes p order g k h.suits; most = λ j u. h.most j (suits_places p order g j u) }) z)

-- where a seats leaf is valid, each closed group suits some seats
some_suits : (p : Problem) (s : State) → IsOffSeats p s → (g : List ℕ) → Has s.closed g → (k : ℕ) × Suits p (people_of p g) k
some_suits p s v g h = ⊎_elim
    (λ o. let k = zip_has (IsLeast p) (s.closed ++ v.parts) v.ranges g o.0 (has_left s.closed v.parts g h) in (k.0, k.1.suits))
    (λ o. let k = zip_has (IsMost p) (s.closed ++ v.parts) v.ranges g o.0 (has_left s.closed v.parts g h) in (k.0, k.1.suits))
    v.off

-- sets that suit some seats have a least and a greatest number
ranges_for : (p : Problem) → IsProblem p → (sets : List (List ℕ)) → ((g : List ℕ) → Has sets g → (k : ℕ) × Suits p (people_of p g) k) → (lows : List ℕ) × (highs : List ℕ) × AllZip (IsLeast p) sets lows × AllZip (IsMost p) sets highs
ranges_for p is [] some = ([], [], tt, tt)
ranges_for p is (g ∷ sets) some =
    let r = ranges_for p is sets (λ k h. some k (inr h)) in
    let k = some g (inl refl) in
    ⊎_elim
    (λ none. absurd (none k.0 k.1))
    (λ o. (o.0 ∷ r.0, o.1 ∷ r.1, (record { suits = o.2; least = λ j u. (o.4 j u).0 }, r.2), (record { suits = o.3; most = λ j u. (o.4 j u).1 }, r.3)))
    (people_have_ranges p is.some_people is.tolerated (people_of p g))

module _ (p : Problem) (order : List ℕ) (whole : IsOrder p order) (t : State) (below : (x : ℕ) → t.rest x ≡ true → x < length order) where
  abbrev s : State
  s = in_codes order t

  abbrev q : Problem
  q = at_places p order

  at : IsStateAt order s t
  at = states_have_codes.there order t (order_once p order whole) below

  pub rest_at : (i c : ℕ) → i < length order → code_at order i ≡ c → s.rest c ≡ t.rest i
  rest_at i c l e = ap s.rest (sym e) ∙ sym (at.rest.same i l)

  part_below : (xs : List ℕ) → IsPart q t.rest xs → (i : ℕ) → contains xs i ≡ true → i < length order
  part_below xs is i m = below i (is.inside i m)

  around_codes : (xs : List ℕ) (i : ℕ) → IsPart q t.rest xs → i < length order → contains xs i ≡ true → contains (codes_at order xs) (code_at order i) ≡ true
  around_codes xs i is l m = member_code order (order_once p order whole) xs (λ k h. part_below xs is k (has_member xs k h)) i l ∙ m

  stuck_codes : (i : ℕ) → i < length order → IsStuck q t i → IsStuck p s (code_at order i)
  stuck_codes i l v = record {
    part = codes_at order v.part;
    is_part = places_serve.part p order s.rest t.rest v.part whole at.rest v.is_part;
    around = around_codes v.part i v.is_part l v.around;
    cannot_fill = (places_serve.cannot_fill p order s t v.part whole at (part_below v.part v.is_part)).0 v.cannot_fill;
  }

  parts_here : IsProblem q → (parts : List (List ℕ)) × AreParts q t.rest parts
  parts_here is = leaves_are_decided.parts q is t.rest (λ c e. sym (all_below (length order) c) ∙ lt-ltb c (length order) (below c e))

  stuck_places : (i : ℕ) → IsProblem q → i < length order → t.rest i ≡ true → IsStuck p s (code_at order i) → IsStuck q t i
  stuck_places i is l here v =
      let parts = parts_here is in
      let r = set_from_stands i parts.0 (omega (arith, parts.1.once i, true_digit (t.rest i) here)) in
      let part = has_all (IsPart q t.rest) parts.0 parts.1.each r.0 r.1 in
      let cannot = leaves_are_decided.stuck p s (codes_at order r.0) (code_at order i) (places_serve.part p order s.rest t.rest r.0 whole at.rest part) (around_codes r.0 i part l r.2) v in
      record { part = r.0; is_part = part; around = r.2; cannot_fill = (places_serve.cannot_fill p order s t r.0 whole at (part_below r.0 part)).1 cannot }

  pub stuck_both : (i c : ℕ) → IsProblem q → i < length order → t.rest i ≡ true → code_at order i ≡ c → IsStuck q t i ↔ IsStuck p s c
  stuck_both i c is l here e = (λ v. subst (IsStuck p s) e (stuck_codes i l v), λ v. stuck_places i is l here (subst (IsStuck p s) (sym e) v))

  seats_codes : IsOffSeats q t → IsOffSeats p s
  seats_codes v = record {
    parts = map (codes_at order) v.parts;
    are_parts = places_serve.parts p order s.rest t.rest v.parts whole at.rest v.are_parts;
    ranges = v.ranges;
    off = ⊎_elim (λ o. inl (all_least p order t.closed v.parts v.ranges o.0, o.1)) (λ o. inr (all_most p order t.closed v.parts v.ranges o.0, o.1)) v.off;
  }

  seats_places : IsProblem q → IsOffSeats p s → IsOffSeats q t
  seats_places is v = ⊎_elim
      (λ o. record { parts = parts.0; are_parts = parts.1; ranges = r.0; off = inl (r.2, o) })
      (λ o. record { parts = parts.0; are_parts = parts.1; ranges = r.1; off = inr (r.3, o) })
      off
    where
      parts : (parts : List (List ℕ)) × AreParts q t.rest parts
      parts = parts_here is

      decided : ((ks : List ℕ) × SuitAll p (map (codes_at order) parts.0) ks)
          × ((lows highs : List ℕ) → AllZip (IsLeast p) (s.closed ++ map (codes_at order) parts.0) lows → AllZip (IsMost p) (s.closed ++ map (codes_at order) parts.0) highs → (p.seats_left < sum_by (λ k. k) lows) ⊎ (sum_by (λ k. k) highs < p.seats_left))
      decided = leaves_are_decided.seats p s (map (codes_at order) parts.0) (places_serve.parts p order s.rest t.rest parts.0 whole at.rest parts.1) v

      suits : (xs : List ℕ) → Has (t.closed ++ parts.0) xs → (k : ℕ) × Suits q (people_of q xs) k
      suits xs h = ⊎_elim
          (λ i. let k = some_suits p s v (codes_at order xs) (mapped_has (codes_at order) t.closed xs i) in (k.0, suits_places p order xs k.0 k.1))
          (λ i. let k = zip_has (λ codes k. Suits p (people_of p codes) k) (map (codes_at order) parts.0) decided.0.0 (codes_at order xs) decided.0.1 (mapped_has (codes_at order) parts.0 xs i) in (k.0, suits_places p order xs k.0 k.1))
          (has_append t.closed parts.0 xs h)

      r : (lows : List ℕ) × (highs : List ℕ) × AllZip (IsLeast q) (t.closed ++ parts.0) lows × AllZip (IsMost q) (t.closed ++ parts.0) highs
      r = ranges_for q is (t.closed ++ parts.0) suits

      off : (p.seats_left < sum_by (λ k. k) r.0) ⊎ (sum_by (λ k. k) r.1 < p.seats_left)
      off = decided.1 r.0 r.1 (all_least p order t.closed parts.0 r.0 r.2) (all_most p order t.closed parts.0 r.1 r.3)

  pub seats_both : IsProblem q → IsOffSeats q t ↔ IsOffSeats p s
  seats_both is = (seats_codes, seats_places is)
