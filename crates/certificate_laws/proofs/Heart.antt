-- Where a proof tree exists at a state, no completion is greater than the target: by induction over the tree.
use Rattle.std.proofs.Common.{◌≡◌, ℕ, ◌≤◌, true, List, filter, length, sym, subst, arith, inl, inr, ⊎_elim, All}
use Rattle.std.proofs.lemmas.List.Elements.{filter_agree}
use Rattle.county_codes.specs.declared.group.Group.{Group}
use Rattle.grouping_laws.specs.Sets.{contains}
use Rattle.grouping_laws.specs.Problem.{Problem}
use Rattle.grouping_laws.specs.Grouping.{Grouping, Lawful, counts, sets_of, IsGreater}
use Rattle.grouping_laws.specs.GroupsFrom.{IsOrder}
use Rattle.grouping_laws.proofs.Elements.{Has, has_all, has_from_contains}
use Rattle.grouping_laws.proofs.Sizes.{below_first}
use Rattle.grouping_laws.proofs.Alike.{Alike, in_order_alike, member_alike, member_same, length_alike}
use Rattle.certificate_data.specs.Round.{Round}
use Rattle.certificate_laws.specs.State.{State, close, raise}
use Rattle.certificate_data.specs.Tree.{Leaf, stuck, seats, bound, Tree, leaf, branch, Takes, no_take, take, groups_of}
use Rattle.certificate_laws.specs.BoundLines.{IsBound}
use Rattle.certificate_laws.specs.Leaves.{IsValidLeaf}
use Rattle.certificate_laws.specs.Proving.{Proves, EachProves, limit_of}
use Rattle.certificate_laws.specs.Groups.{IsGroupAt}
use Rattle.certificate_laws.specs.Certificate.{Beats, TargetFits}
use Rattle.certificate_laws.proofs.Completion.{IsWhole, Completes, group_lawful}
use Rattle.certificate_laws.proofs.LeafLemmas.{part_is_filled, seats_fit}
use Rattle.certificate_laws.proofs.BoundLemmas.{excluded}
use Rattle.certificate_laws.proofs.Living.{group_fits}
use Rattle.certificate_laws.proofs.Steps.{others_of, find_small, counts_with, beats_same, close_whole, close_completes, close_counts, raise_completes}

bound_excludes : (p : Problem) (round : Round) (s : State) → IsWhole p s → TargetFits p round.limit round.target → (lines : List _) → IsBound p round s lines
    → (opens : Grouping) → Completes p s opens → Beats round.target (counts_with s opens) → ⊥
bound_excludes p round s whole fits lines b opens c beats =
    let f : Lawful p b.0 × All (λ m. length m.codes ≤ round.limit) b.0 = subst (TargetFits p round.limit) b.1 fits in
    let g : IsGreater (counts_with s opens) (counts (sets_of b.0)) = subst (λ t. Beats t (counts_with s opens)) b.1 beats in
    excluded round.format p s whole opens c round.limit b.0 f.0 (has_all (λ m. length m.codes ≤ round.limit) b.0 f.1) g.size g.same_before g.more lines 1 0 b.2 (omega arith) g.some_county (sym (below_first (sets_of opens)))

leaf_excludes : (p : Problem) (round : Round) (s : State) → IsWhole p s → TargetFits p round.limit round.target → (l : Leaf) → IsValidLeaf p round s l
    → (opens : Grouping) → Completes p s opens → Beats round.target (counts_with s opens) → ⊥
leaf_excludes p round s whole fits (stuck county) v opens c beats = part_is_filled p s whole opens c v.part v.is_part v.cannot_fill
leaf_excludes p round s whole fits seats v opens c beats = seats_fit p s whole opens c v
leaf_excludes p round s whole fits (bound lines) v opens c beats = bound_excludes p round s whole fits lines v opens c beats

-- a completing group of at most `limit` counties, in the order of places, is a group of the branch
pub group_there : (p : Problem) (round : Round) (s : State) → IsOrder p round.order → (whole : IsWhole p s) (opens : Grouping) (c : Completes p s opens) (county limit : ℕ) (m : Group) → Has opens m → contains m.codes county ≡ true → length m.codes ≤ limit
    → Alike m.codes (filter (contains m.codes) round.order) × IsGroupAt p round s county limit (filter (contains m.codes) round.order)
group_there p round s order whole opens c county limit m h has small =
    let lawful = group_lawful p s whole opens c m h in
    let g = filter (contains m.codes) round.order in
    let same : Alike m.codes g = in_order_alike round.order p.counties m.codes order lawful.once lawful.listed in (
      same,
      record {
        fits = group_fits p s whole opens c round.format m h g same;
        in_order = filter_agree (contains g) (contains m.codes) (λ x. sym (member_same m.codes g same x)) round.order;
        has = member_alike m.codes g same county has;
        small = omega (arith, length_alike m.codes g same);
      },
    )

mutual
  pub no_greater : (tree : Tree) (p : Problem) (round : Round) (s : State) → IsOrder p round.order → TargetFits p round.limit round.target → IsWhole p s → Proves tree p round s
      → (opens : Grouping) → Completes p s opens → Beats round.target (counts_with s opens) → ⊥
  no_greater (leaf l) p round s order fits whole v opens c beats = leaf_excludes p round s whole fits l v opens c beats
  no_greater (branch county limit takes raised) p round s order fits whole v opens c beats =
      ⊎_elim
      (λ r. let g = filter (contains r.0.codes) round.order in
      let there = group_there p round s order whole opens c county (limit_of round limit) r.0 r.1 r.2 r.3 in
      none_greater_at takes p round s order fits v.3 g (has_from_contains (groups_of takes) g ((v.2.each g).1 there.1))
      (close_whole p s whole opens c r.0 r.1 g there.0)
      (others_of opens r.0 r.1) (close_completes p s whole opens c r.0 r.1 g there.0)
      (beats_same round.target (counts_with s opens) (counts_with (close g s) (others_of opens r.0 r.1)) (close_counts p s whole opens c r.0 r.1 g there.0) beats))
      (λ l. no_greater raised p round (raise county (limit_of round limit) s) order fits whole v.4
      opens (raise_completes p s county (limit_of round limit) opens c l) beats)
      (find_small (limit_of round limit) county opens)

  pub none_greater_at : (takes : Takes) (p : Problem) (round : Round) (s : State) → IsOrder p round.order → TargetFits p round.limit round.target → EachProves takes p round s
      → (g : List ℕ) → Has (groups_of takes) g → IsWhole p (close g s) → (opens : Grouping) → Completes p (close g s) opens → Beats round.target (counts_with (close g s) opens) → ⊥
  none_greater_at no_take p round s order fits v g has whole opens c beats = absurd has
  none_greater_at (take codes tree others) p round s order fits v g (inl e) whole opens c beats = no_greater tree p round (close codes s) order fits (subst (λ z. IsWhole p (close z s)) (sym e) whole) v.0 opens (subst (λ z. Completes p (close z s) opens) (sym e) c) (subst (λ z. Beats round.target (counts_with (close z s) opens)) (sym e) beats)
  none_greater_at (take codes tree others) p round s order fits v g (inr has) whole opens c beats = none_greater_at others p round s order fits v.1 g has whole opens c beats
