-- What the calls that keep lists of groups of parts come to, step by step.
use Rattle.std.proofs.Common.{◌≡◌, ℕ, ◌+◌, ◌≤◌, ◌<◌, Bool, true, List, [], ◌∷◌, ◌++◌, map, take, length, get_or, refl, sym, ap, ◌∙◌, subst, arith, inl, inr, All}
use mathlib.Core.Path.{fun_ext}
use Rattle.std.proofs.Math.ListN.{set}
use Rattle.std.proofs.lemmas.List.{append_assoc, map-append, map_push, take_more, take_all}
use Rattle.std.proofs.lemmas.List.Elements.{All-append, All-set}
use Rattle.grouping_laws.proofs.Elements.{Has, has_all, has_get, all_from_has}
use Rattle.grouping_laws.specs.Problem.{Problem}
use Rattle.connected_laws.specs.Listing.{AreBelow, lists_of}
use Rattle.search_groups.specs.declared.part_lists.PartList.{PartList}
use Rattle.search_groups.specs.PartLists.{AreGroupsAlone, IsPartList, IsListFor, ArePut}

module _ {X Y : Type 0} (f : X → Y) (old : List Y) (copies sets : List X) where
  -- one more copy is put behind those that were there
  pub put_more : (more : List X) (i : ℕ) (x y : X) → i < length sets → x ≡ get_or sets i x → more ≡ copies ++ y ∷ [] → f y ≡ f x → map f copies ≡ old ++ map f (take i sets) → map f more ≡ old ++ map f (take (i + 1) sets)
  put_more more i x y l at push same e =
      ap (map f) push
      ∙ (map_push f copies y
      ∙ (ap (λ z. z ++ f y ∷ []) e
      ∙ (append_assoc old (map f (take i sets)) (f y ∷ [])
      ∙ (ap (λ z. old ++ (map f (take i sets) ++ z ∷ [])) same
      ∙ ap (λ z. old ++ z) (sym (ap (map f) (take_more sets i x l ∙ ap (λ z. take i sets ++ z ∷ []) (sym at)) ∙ map-append f (take i sets) (x ∷ [])))))))

  pub put_all : (i : ℕ) → length sets ≤ i → map f copies ≡ old ++ map f (take i sets) → map f copies ≡ old ++ map f sets
  put_all i over e = e ∙ ap (λ z. old ++ map f z) (take_all i sets over)

-- it has only places below a bound, as the set of which it is a copy
pub below_more : (C : Type 0) (test : C → ℕ → Bool) (n : ℕ) (sets olds news : List C) (i : ℕ) (item copy : C) → i < length sets → item ≡ get_or sets i item → news ≡ olds ++ copy ∷ [] → ((x : ℕ) → test copy x ≡ test item x)
    → AreBelow n test sets → AreBelow n test olds → AreBelow n test news
below_more C test n sets olds news i item copy l at push same low below =
    subst (AreBelow n test) (sym push) (All-append P olds (copy ∷ []) below (all_from_has P (copy ∷ []) only))
  where
    P : C → Type 0
    P z = (x : ℕ) → test z x ≡ true → x < n

    item_low : P item
    item_low = subst P (sym at) (has_all P sets low (get_or sets i item) (has_get sets i item l))

    only : (z : C) → Has (copy ∷ []) z → P z
    only z (inl e) = subst P e (λ x t. item_low x (sym (same x) ∙ t))
    only z (inr h) = absurd h

-- what holds of each of a list, and of one more behind it
pub one_more : {S : Type 0} (P : S → Type 0) (olds news : List S) (s : S) → P s → news ≡ olds ++ s ∷ [] → All P olds → All P news
one_more {S = S} P olds news s is push all = subst (All P) (sym push) (All-append P olds (s ∷ []) all (all_from_has P (s ∷ []) only))
  where
    only : (z : S) → Has (s ∷ []) z → P z
    only z (inl e) = subst P e is
    only z (inr h) = absurd h

pub none_held : {S : Type 0} (P : S → Type 0) → All P []
none_held P = λ k d l. absurd (omega (arith, l))

-- copies of the groups of the list of a part and a size are put behind sets that were there
pub put_list : (C : Type 0) (test : C → ℕ → Bool) (p : Problem) (n : ℕ) (part : C) (size : ℕ) (list : PartList C) (old new : List C) → IsListFor test part size list → IsPartList test p n list
    → lists_of n test new ≡ lists_of n test old ++ lists_of n test list.groups.items → (AreBelow n test list.groups.items → AreBelow n test old → AreBelow n test new) → ArePut test p n part size old new
put_list C test p n part size list old new for_it is more below = record {
  found = found;
  more = more;
  groups = subst (λ z. AreGroupsAlone p n z size found) (fun_ext for_it.same_part) (subst (λ k. AreGroupsAlone p n (test list.part) k found) for_it.same_size is.groups);
  below = below is.below;
}
  where
    found : List (List ℕ)
    found = lists_of n test list.groups.items

-- what holds of each of a list holds of one that stands there
pub held_at : {S : Type 0} (P : S → Type 0) (list same : List S) (i : ℕ) (s : S) → same ≡ list → i < length same → s ≡ get_or same i s → All P list → P s
held_at P list same i s e l at all = subst P (sym at) (subst (All P) (sym e) all i s l)

-- where one of a list is changed, each still holds what held before
pub held_changed : {S T : Type 0} (items : S → List T) (Q : T → Type 0) (list : List S) (i : ℕ) (old new : S) → old ≡ get_or list i old → i < length list → (All Q (items old) → All Q (items new)) → All (λ s. All Q (items s)) list → All (λ s. All Q (items s)) (set list i new)
held_changed {S = S} items Q list i old new at l change all = All-set (λ (s : S). All Q (items s)) list i new (change (held_at (λ (s : S). All Q (items s)) list list i old refl l at all)) all
