-- Groupings in order: those with the same sets have the same list of sets, and lists of them with the same groupings
-- are the same.
use Rattle.std.proofs.Common.{◌≡◌, ℕ, ◌<◌, List, [], ◌∷◌, map, refl, sym, ap, ◌∙◌, subst, arith, inl, inr, ⊎_elim, ◌⊎◌, AllPairs}
use Rattle.std.specs.List.Sorted.{IsStrictlyIncreasing}
use Rattle.std.proofs.lemmas.List.Kept.{AllPairs-from_increasing}
use Rattle.grouping_laws.specs.Sets.{SameSet}
use Rattle.grouping_laws.specs.Problem.{Problem}
use Rattle.grouping_laws.specs.Grouping.{Grouping, IsBest, sets_of}
use Rattle.grouping_laws.specs.GroupsFrom.{IsLesser}
use Rattle.grouping_laws.proofs.Elements.{Has, has_all, has_from_contains}
use Rattle.grouping_laws.proofs.Places.{has_member}
use Rattle.grouping_laws.proofs.PlaceCodes.{member_has, mapped_has, has_mapped}
use Rattle.certificate_laws.proofs.Kept.{head_before, tail_pairs, cons_pairs}
use Rattle.list_laws.specs.AllBest.{HasSet, SameSets, AreAllBest}
use Rattle.list_groupings.specs.ListOrder.{IsLesserSet, IsLesserList, IsInOrder, AreInOrder}

-- two lists in one strict order that have the same elements are the same
pub same_sorted : {X : Type 0} (R : X → X → Type 0) → ((x y : X) → R x y → R y x → ⊥) → (xs ys : List X) → AllPairs R xs → AllPairs R ys → ((x : X) → Has xs x → Has ys x) → ((x : X) → Has ys x → Has xs x) → xs ≡ ys
same_sorted R one [] [] a b there back = refl
same_sorted R one [] (y ∷ ys) a b there back = absurd (back y (inl refl))
same_sorted R one (x ∷ xs) [] a b there back = absurd (there x (inl refl))
same_sorted {X = X} R one (x ∷ xs) (y ∷ ys) a b there back = go (same_sorted R one xs ys (tail_pairs R x xs a) (tail_pairs R y ys b)) (there x (inl refl)) (back y (inl refl))
  where
    itself : (z : X) → R z z → ⊥
    itself z r = one z z r r

    both : (((z : X) → Has xs z → Has ys z) → ((z : X) → Has ys z → Has xs z) → xs ≡ ys) → x ≡ y → x ∷ xs ≡ y ∷ ys
    both next e = ap (λ z. z ∷ xs) e ∙ ap (λ (l : List X). y ∷ l) (next
        (λ z h. ⊎_elim (λ d. absurd (itself z (subst (λ w. R w z) (e ∙ d) (head_before R x xs a z h)))) (λ k. k) (there z (inr h)))
        (λ z h. ⊎_elim (λ d. absurd (itself z (subst (λ w. R w z) (sym e ∙ d) (head_before R y ys b z h)))) (λ k. k) (back z (inr h))))

    go : (((z : X) → Has xs z → Has ys z) → ((z : X) → Has ys z → Has xs z) → xs ≡ ys) → (y ≡ x) ⊎ Has ys x → (x ≡ y) ⊎ Has xs y → x ∷ xs ≡ y ∷ ys
    go next (inl e) k = both next (sym e)
    go next (inr h) (inl e) = both next e
    go next (inr h) (inr k) = absurd (one x y (head_before R x xs a y k) (head_before R y ys b x h))

lesser_once : (xs ys : List ℕ) → IsLesser xs ys → IsLesser ys xs → ⊥
lesser_once [] ys a b = absurd a
lesser_once (x ∷ xs) [] a b = absurd a
lesser_once (x ∷ xs) (y ∷ ys) (inl a) (inl b) = omega arith
lesser_once (x ∷ xs) (y ∷ ys) (inl a) (inr b) = omega (arith, b.0)
lesser_once (x ∷ xs) (y ∷ ys) (inr a) (inl b) = omega (arith, a.0)
lesser_once (x ∷ xs) (y ∷ ys) (inr a) (inr b) = lesser_once xs ys a.1 b.1

set_once : (g h : List ℕ) → IsLesserSet g h → IsLesserSet h g → ⊥
set_once g h (inl a) (inl b) = omega arith
set_once g h (inl a) (inr b) = omega (arith, b.0)
set_once g h (inr a) (inl b) = omega (arith, a.0)
set_once g h (inr a) (inr b) = lesser_once g h a.1 b.1

list_once : (xs ys : List (List ℕ)) → IsLesserList xs ys → IsLesserList ys xs → ⊥
list_once [] [] a b = absurd a
list_once [] (y ∷ ys) a b = absurd b
list_once (x ∷ xs) [] a b = absurd a
list_once (x ∷ xs) (y ∷ ys) (inl a) (inl b) = set_once x y a b
list_once (x ∷ xs) (y ∷ ys) (inl a) (inr b) = set_once x x (subst (IsLesserSet x) b.0 a) (subst (IsLesserSet x) b.0 a)
list_once (x ∷ xs) (y ∷ ys) (inr a) (inl b) = set_once y y (subst (IsLesserSet y) a.0 b) (subst (IsLesserSet y) a.0 b)
list_once (x ∷ xs) (y ∷ ys) (inr a) (inr b) = list_once xs ys a.1 b.1

-- sets whose codes ascend
same_codes : (x y : List ℕ) → IsStrictlyIncreasing x → IsStrictlyIncreasing y → SameSet y x → y ≡ x
same_codes x y a b same = same_sorted (λ m n. m < n) (λ m n l k. omega arith) y x (AllPairs-from_increasing y b) (AllPairs-from_increasing x a)
    (λ c h. member_has x c (sym (same c) ∙ has_member y c h)) (λ c h. member_has y c (same c ∙ has_member x c h))

pub same_in_order : (g h : Grouping) → IsInOrder g → IsInOrder h → SameSets (sets_of g) (sets_of h) → sets_of g ≡ sets_of h
same_in_order g h a b same = same_sorted IsLesserSet set_once (sets_of g) (sets_of h) a.groups b.groups
    (λ x i. let r = has_all (HasSet (sets_of h)) (sets_of g) same.there x i in
    let j = has_from_contains (sets_of h) r.0 r.1 in
    subst (Has (sets_of h)) (same_codes x r.0 (has_all (λ x. IsStrictlyIncreasing x) (sets_of g) a.codes x i) (has_all (λ x. IsStrictlyIncreasing x) (sets_of h) b.codes r.0 j) r.2) j)
    (λ x i. let r = has_all (HasSet (sets_of g)) (sets_of h) same.back x i in
    let j = has_from_contains (sets_of g) r.0 r.1 in
    subst (Has (sets_of g)) (same_codes x r.0 (has_all (λ x. IsStrictlyIncreasing x) (sets_of h) b.codes x i) (has_all (λ x. IsStrictlyIncreasing x) (sets_of g) a.codes r.0 j) r.2) j)

-- what holds of the sets of each pair
mapped_pairs : (R : List (List ℕ) → List (List ℕ) → Type 0) (xs : List Grouping) → AllPairs (λ g h. R (sets_of g) (sets_of h)) xs → AllPairs R (map sets_of xs)
mapped_pairs R [] a = λ i j d l m. absurd (omega (arith, m))
mapped_pairs R (x ∷ xs) a = cons_pairs R (sets_of x) (map sets_of xs)
    (λ k h. let r = has_mapped sets_of xs k h in subst (R (sets_of x)) r.2 (head_before (λ g h. R (sets_of g) (sets_of h)) x xs a r.0 r.1))
    (mapped_pairs R xs (tail_pairs (λ g h. R (sets_of g) (sets_of h)) x xs a))

-- the groupings of one list are among those of the other
among : (p : Problem) (xs ys : List Grouping) → AreAllBest p xs → AreAllBest p ys → AreInOrder xs → AreInOrder ys → (k : List (List ℕ)) → Has (map sets_of xs) k → Has (map sets_of ys) k
among p xs ys a b u v k h =
    let r = has_mapped sets_of xs k h in
    let q = b.complete r.0 (has_all (IsBest p) xs a.best r.0 r.1) in
    let i = has_from_contains ys q.0 q.1 in
    subst (Has (map sets_of ys)) (sym (same_in_order r.0 q.0 (has_all IsInOrder xs u.each r.0 r.1) (has_all IsInOrder ys v.each q.0 i) q.2) ∙ r.2) (mapped_has sets_of ys q.0 i)

pub lists_same : (p : Problem) (xs ys : List Grouping) → AreAllBest p xs → AreAllBest p ys → AreInOrder xs → AreInOrder ys → map sets_of xs ≡ map sets_of ys
lists_same p xs ys a b u v = same_sorted IsLesserList list_once (map sets_of xs) (map sets_of ys) (mapped_pairs IsLesserList xs u.groupings) (mapped_pairs IsLesserList ys v.groupings) (among p xs ys a b u v) (among p ys xs b a v u)
