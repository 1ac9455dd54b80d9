-- The ends of a complete proof tree are the sets of all groupings that are not lesser than the target.
use Rattle.std.proofs.Common.{◌≡◌, ℕ, ◌≤◌, sym, subst, ⊎_elim}
use Rattle.grouping_laws.specs.Grouping.{Grouping, counts, sets_of, IsGreater}
use Rattle.grouping_laws.proofs.Elements.{has_from_contains, contains_from_has}
use Rattle.grouping_laws.proofs.Order.{greater_total}
use Rattle.certificate_laws.specs.Certificate.{Beats}
use Rattle.certificate_laws.proofs.Agreement.{proof_tree_excludes}
use Rattle.list_laws.specs.Ends.{ends}
use Rattle.list_laws.specs.Listing.{CompleteTreesList}
use Rattle.list_laws.proofs.Ending.{tree_end, finds}
use Rattle.list_laws.proofs.Apart.{tree_apart}

-- counts that are neither greater nor lesser are the same
pub same_counts : (f g : Grouping) → (IsGreater (counts (sets_of f)) (counts (sets_of g)) → ⊥) → (IsGreater (counts (sets_of g)) (counts (sets_of f)) → ⊥) → (i : ℕ) → 1 ≤ i → counts (sets_of f) i ≡ counts (sets_of g) i
same_counts f g not_more not_less = ⊎_elim (λ h. absurd (not_more h)) (λ o. ⊎_elim (λ h. absurd (not_less h)) (λ same. same) o) (greater_total (sets_of f) (sets_of g))

pub complete_tree_lists : CompleteTreesList
complete_tree_lists p round s tree t order is_target fits state v c = record {
  all = λ g lawful agrees not_lesser.
      let q = finds p round t is_target fits order g lawful
      (same_counts g t (λ h. proof_tree_excludes p round s tree order fits state v g lawful agrees (subst (λ z. Beats z (counts (sets_of g))) (sym is_target) h)) not_lesser)
      tree s state v c agrees in
      (q.0, contains_from_has (ends tree p round s) q.0 q.1, q.2);
  some = λ k h. (tree_end p round t is_target fits tree s state v c k (has_from_contains (ends tree p round s) k h)).some;
  each = λ k h. (tree_end p round t is_target fits tree s state v c k (has_from_contains (ends tree p round s) k h)).each;
  apart = tree_apart p round t is_target fits tree s state v c;
}
