-- Lists of all best groupings: complete certificates show them, and the groups that all groupings of a list have are
-- shared.
use Rattle.std.proofs.Common.{◌≡◌, ℕ, ◌≤◌, List, [], ◌∷◌, refl, ◌∙◌, subst, arith, inl, inr, Some, AllPairs}
use Rattle.grouping_laws.specs.Problem.{Problem}
use Rattle.grouping_laws.specs.Grouping.{Grouping, Lawful, counts, sets_of, IsBest}
use Rattle.grouping_laws.proofs.Elements.{Has, has_all, all_from_has, has_from_contains, contains_from_has}
use Rattle.certificate_data.specs.Round.{Round}
use Rattle.certificate_laws.specs.State.{empty_state}
use Rattle.certificate_data.specs.Tree.{Tree}
use Rattle.certificate_laws.specs.Certificate.{IsCertificate, Conclusion}
use Rattle.certificate_laws.proofs.Agreement.{certificate_shows}
use Rattle.certificate_laws.proofs.Branches.{branch_keeps_state}
use Rattle.certificate_laws.proofs.Kept.{head_before, tail_pairs, cons_pairs}
use Rattle.list_laws.specs.AllBest.{HasSet, SameSets, AreAllBest, SharedGroups}
use Rattle.list_laws.specs.Ends.{ends}
use Rattle.list_laws.specs.Completeness.{IsComplete}
use Rattle.list_laws.specs.Listing.{ListsAll, HaveSets, CompleteCertificatesList}
use Rattle.list_laws.proofs.Same.{find_back, same_turned, same_through}
use Rattle.list_laws.proofs.Apart.{Differ}
use Rattle.list_laws.proofs.Listed.{complete_tree_lists}

pub shared_group : SharedGroups
shared_group p list x all shared g best =
    let r = all.complete g best in
    find_back (sets_of g) (sets_of r.0) r.2 x (has_all (λ h. HasSet (sets_of h) x) list shared r.0 (has_from_contains list r.0 r.1))

-- lists that stand side by side
pick_left : (p : Problem) (list : List Grouping) (lists : List (List (List ℕ))) → HaveSets p list lists → (g : Grouping) → Has list g → (k : List (List ℕ)) × Has lists k × Lawful p g × SameSets (sets_of g) k
pick_left p [] lists z g h = absurd h
pick_left p (f ∷ list) [] z g h = absurd z
pick_left p (f ∷ list) (k ∷ lists) z g (inl e) = (k, inl refl, subst (Lawful p) e z.0.0, subst (λ y. SameSets (sets_of y) k) e z.0.1)
pick_left p (f ∷ list) (k ∷ lists) z g (inr h) = let r = pick_left p list lists z.1 g h in (r.0, inr r.1, r.2, r.3)

pick_right : (p : Problem) (list : List Grouping) (lists : List (List (List ℕ))) → HaveSets p list lists → (k : List (List ℕ)) → Has lists k → (g : Grouping) × Has list g × SameSets (sets_of g) k
pick_right p list [] z k h = absurd h
pick_right p [] (j ∷ lists) z k h = absurd z
pick_right p (g ∷ list) (j ∷ lists) z k (inl e) = (g, inl refl, subst (SameSets (sets_of g)) e z.0.1)
pick_right p (g ∷ list) (j ∷ lists) z k (inr h) = let r = pick_right p list lists z.1 k h in (r.0, inr r.1, r.2)

kept_apart : (p : Problem) (list : List Grouping) (lists : List (List (List ℕ))) → HaveSets p list lists → AllPairs Differ lists → AllPairs (λ g h. ¬ SameSets (sets_of g) (sets_of h)) list
kept_apart p [] lists z a = λ i j d l m. absurd (omega arith)
kept_apart p (g ∷ list) [] z a = absurd z
kept_apart p (g ∷ list) (k ∷ lists) z a =
    cons_pairs (λ g h. ¬ SameSets (sets_of g) (sets_of h)) g list
    (λ h i same. let r = pick_left p list lists z.1 h i in
    head_before Differ k lists a r.0 r.1 (same_through k (sets_of g) r.0 (same_turned (sets_of g) k z.0.1) (same_through (sets_of g) (sets_of h) r.0 same r.3)))
    (kept_apart p list lists z.1 (tail_pairs Differ k lists a))

-- a grouping for each
some_groupings : (p : Problem) (lists : List (List (List ℕ))) → ((k : List (List ℕ)) → Has lists k → (g : Grouping) × Lawful p g × SameSets (sets_of g) k) → (list : List Grouping) × HaveSets p list lists
some_groupings p [] some = ([], tt)
some_groupings p (k ∷ lists) some =
    let r = some k (inl refl) in
    let rest = some_groupings p lists (λ j h. some j (inr h)) in
    (r.0 ∷ rest.0, ((r.1, r.2), rest.1))

module _ (p : Problem) (round : Round) (tree : Tree) (t : Grouping) (is_target : round.target ≡ Some t) (is : IsCertificate p round tree) (c : IsComplete tree p round (empty_state p)) where
  best : IsBest p t
  best = subst (Conclusion p) is_target (certificate_shows p round tree is)

  lists : ListsAll p (empty_state p) t (ends tree p round (empty_state p))
  lists = complete_tree_lists p round (empty_state p) tree t is.order is_target is.target ((branch_keeps_state).first_state p round) is.proof c

  -- a lawful grouping with the target's counts is best
  equally_good : (g : Grouping) → Lawful p g → ((i : ℕ) → 1 ≤ i → counts (sets_of g) i ≡ counts (sets_of t) i) → IsBest p g
  equally_good g lawful same = record {
    lawful = lawful;
    none_greater = λ h l more. best.none_greater h l (record {
      size = more.size;
      some_county = more.some_county;
      same_before = λ j a b. more.same_before j a b ∙ same j a;
      more = omega (arith, more.more, same more.size more.some_county);
    });
  }

  pub all_best : (list : List Grouping) → HaveSets p list (ends tree p round (empty_state p)) → AreAllBest p list
  all_best list z = record {
    best = all_from_has (IsBest p) list (λ g h.
        let r = pick_left p list (ends tree p round (empty_state p)) z g h in
        equally_good g r.2 (lists.each r.0 (contains_from_has (ends tree p round (empty_state p)) r.0 r.1) g r.2 r.3).1);
    apart = kept_apart p list (ends tree p round (empty_state p)) z lists.apart;
    complete = λ g b.
        let r = lists.all g b.lawful ((branch_keeps_state).first_agrees p g b.lawful) (b.none_greater t best.lawful) in
        let q = pick_right p list (ends tree p round (empty_state p)) z r.0 (has_from_contains (ends tree p round (empty_state p)) r.0 r.1) in
        (q.0, contains_from_has list q.0 q.1, same_through (sets_of g) r.0 (sets_of q.0) r.2 (same_turned (sets_of q.0) r.0 q.2));
  }

  pub have_sets : (list : List Grouping) × HaveSets p list (ends tree p round (empty_state p))
  have_sets = some_groupings p (ends tree p round (empty_state p)) (λ k h. lists.some k (contains_from_has (ends tree p round (empty_state p)) k h))

pub complete_certificate_lists : CompleteCertificatesList
complete_certificate_lists = record { some = have_sets; all = all_best }
