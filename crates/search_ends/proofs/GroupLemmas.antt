-- The lines of a grouping's groups.
use Rattle.std.proofs.Common.{◌≡◌, ℕ, ◌+◌, ◌≤◌, ◌<◌, List, [], ◌∷◌, ◌++◌, append-nil, map, drop, length, get_or, sym, ap, ◌∙◌, subst, arith, All}
use Rattle.std.proofs.lemmas.List.{length-map, drop_more, drop_all, append_assoc}
use Rattle.std.proofs.lemmas.List.Elements.{recursion_from_All, All-append}
use Rattle.county_codes.specs.Limits.{most_counties}
use Rattle.county_codes.specs.declared.group.Group.{Group}
use Rattle.certificate_lines.specs.Fitting.{IsWanted}
use Rattle.certificate_lines.specs.declared.item.Item.TheVariants.{Grouped}
use Rattle.certificate_lines.specs.declared.item.Wanted.TheVariants as want
use Rattle.grouping_laws.specs.Sets.{sum_by}
use Rattle.grouping_laws.specs.Problem.{Problem}
use Rattle.grouping_laws.specs.Grouping.{Grouping, sets_of}
use Rattle.grouping_laws.specs.GroupsFrom.{IsOrder}
use Rattle.grouping_laws.specs.Ranges.{seated}
use Rattle.grouping_laws.proofs.Elements.{Has, has_all, all_from_has, has_set}
use Rattle.state_groups.proofs.PlacedLemmas.{all_one}
use Rattle.certificate_text.specs.TreeItems.{HasTargetLines}
use Rattle.search_ends.specs.FinishedStates.{CoverOnce, HasNumbers}
use Rattle.search_ends.proofs.Covering.{size_covered, one_size, few_sets}

-- one more set with its seats
pub seated_more : {C : Type 0} (f : C → List ℕ) (sets : List C) (ks : List ℕ) (olds news whole : Grouping) (i : ℕ) (set : C) (k : ℕ) (group : Group) → i < length sets → i < length ks → set ≡ get_or sets i set → k ≡ get_or ks i 0 → news ≡ olds ++ group ∷ []
    → group ≡ record { seats = k; codes = f set } → olds ++ seated (map f (drop i sets)) (drop i ks) ≡ whole → news ++ seated (map f (drop (i + 1) sets)) (drop (i + 1) ks) ≡ whole
seated_more {C = C} f sets ks olds news whole i set k group l m at there push same e =
    ap (λ z. z ++ rest) push
    ∙ (append_assoc olds (group ∷ []) rest
    ∙ (ap (λ z. olds ++ z ∷ rest) same
    ∙ (sym (ap (λ (z : List C). olds ++ seated (map f z) (drop i ks)) sets_here ∙ ap (λ z. olds ++ seated (map f (set ∷ drop (i + 1) sets)) z) seats_here) ∙ e)))
  where
    rest : Grouping
    rest = seated (map f (drop (i + 1) sets)) (drop (i + 1) ks)

    sets_here : drop i sets ≡ set ∷ drop (i + 1) sets
    sets_here = drop_more sets i set l ∙ ap (λ z. z ∷ drop (i + 1) sets) (sym at)

    seats_here : drop i ks ≡ k ∷ drop (i + 1) ks
    seats_here = drop_more ks i 0 m ∙ ap (λ z. z ∷ drop (i + 1) ks) (sym there)

-- groups whose numbers are in their ranges, and that have each county once, have the lines of a target
pub lines_of_groups : (p : Problem) (order : List ℕ) (groups : Grouping) → IsOrder p order → length order ≤ most_counties → CoverOnce p (sets_of groups) → ((g : List ℕ) → Has (sets_of groups) g → 1 ≤ length g) → All HasNumbers groups → HasTargetLines groups
lines_of_groups p order groups whole small once some numbers = record {
  few = omega (arith, few_sets (sets_of groups) some, size, small, length-map groups (λ (m : Group). m.codes));
  each = recursion_from_All (λ m. IsWanted (want.Groups 1) (Grouped m)) groups (all_from_has (λ m. IsWanted (want.Groups 1) (Grouped m)) groups fits);
}
  where
    size : sum_by (λ g. length g) (sets_of groups) ≡ length order
    size = size_covered p order (sets_of groups) whole once

    fits : (m : Group) → Has groups m → IsWanted (want.Groups 1) (Grouped m)
    fits m h =
        let n = has_all HasNumbers groups numbers m h in
        let i = has_set groups m h in (
          n.seats,
          record {
            some = some m.codes i;
            few = omega (arith, one_size (sets_of groups) m.codes i, size, small);
            small = recursion_from_All (λ c. c ≤ 99999) m.codes n.codes;
          },
        )

-- one more group whose numbers are in their ranges
pub numbers_more : (olds news : Grouping) (group : Group) → news ≡ olds ++ group ∷ [] → HasNumbers group → All HasNumbers olds → All HasNumbers news
numbers_more olds news group push small all = subst (All HasNumbers) (sym push) (All-append HasNumbers olds (group ∷ []) all (all_one HasNumbers group small))

-- all sets have their seats
pub seated_end : {C : Type 0} (f : C → List ℕ) (sets : List C) (ks : List ℕ) (olds whole : Grouping) (i : ℕ) → length sets ≤ i → olds ++ seated (map f (drop i sets)) (drop i ks) ≡ whole → olds ≡ whole
seated_end {C = C} f sets ks olds whole i l e = sym (append-nil olds) ∙ (sym (ap (λ (z : List C). olds ++ seated (map f z) (drop i ks)) (drop_all i sets l)) ∙ e)
