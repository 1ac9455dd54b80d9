-- How deep branches may be opened at a state: each take and each raise leaves fewer levels.
use Rattle.std.proofs.Common.{◌≡◌, ℕ, ◌-◌, ◌≤◌, ◌<◌, Bool, true, false, not, List, [], ◌∷◌, filter, length, refl, subst, arith, inl, inr}
use Rattle.grouping_laws.specs.Sets.{contains}
use Rattle.grouping_laws.specs.Problem.{Problem}
use Rattle.grouping_laws.specs.GroupsFrom.{IsOrder}
use Rattle.place_sets.proofs.Sums.{member_from_often}
use Rattle.grouping_laws.proofs.Elements.{Has, contains_from_has}
use Rattle.grouping_laws.proofs.Digits.{true_digit}
use Rattle.grouping_laws.proofs.Parts.{member_head}
use Rattle.certificate_data.specs.declared.format.Format.{Format}
use Rattle.certificate_data.specs.declared.format.Format.TheVariants.{Plain, Wide}
use Rattle.certificate_data.specs.Round.{Round}
use Rattle.certificate_data.specs.Tree.{Tree, leaf, branch, Takes, no_take, take, groups_of}
use Rattle.certificate_laws.specs.State.{State, IsState, open_to, close, raise}
use Rattle.certificate_laws.specs.Proving.{limit_of, Proves, EachProves, CanBranch, GoesInOrder}
use Rattle.certificate_laws.specs.Groups.{AreGroupsAt}
use Rattle.certificate_laws.specs.Depth.{IsWithin, EachWithin, after_raise}
use Rattle.certificate_laws.proofs.Completion.{open_rest, open_least, rest_listed}
use Rattle.certificate_laws.proofs.WithoutGroup.{without_in}
use Rattle.certificate_laws.proofs.Counting.{fewer_kept}
use Rattle.std.proofs.lemmas.List.Filters.{length-filter_both}
use Rattle.certificate_laws.proofs.Branches.{branch_keeps_state, open_above, closed_open, raised_open, settled_shut, raised_shut, settled_out}

-- how many counties a path can still use up, in order: of the rest, in a plain round of those open to groups of at most
-- the limit
abbrev pub depth_left : Format → Round → State → ℕ
depth_left Plain round s = length (filter (open_to s round.limit) round.order)
depth_left Wide round s = length (filter s.rest round.order)

in_order : (p : Problem) (order : List ℕ) → IsOrder p order → (c : ℕ) → contains p.counties c ≡ true → contains order c ≡ true
in_order p order whole c m = member_from_often c order (omega (arith, whole c, true_digit (contains p.counties c) m))

module _ (p : Problem) (round : Round) (order : IsOrder p round.order) (s : State) (state : IsState p round s) (c j : ℕ) (can : CanBranch round s c j) where
  here : contains round.order c ≡ true
  here = in_order p round.order order c (rest_listed p s state.once c (open_rest s j c can.is_open))

  closed_depth : (format : Format) (g : List ℕ) → contains g c ≡ true → depth_left format round (close g s) < depth_left format round s
  closed_depth Plain g m = fewer_kept (open_to (close g s) round.limit) (open_to s round.limit) round.order c (closed_open s g round.limit) here (settled_shut s g round.limit c m) (open_above s j round.limit c can.small can.is_open)
  closed_depth Wide g m = fewer_kept (close g s).rest s.rest round.order c (without_in g s.rest) here (settled_out s g c m) (open_rest s j c can.is_open)

  pub some_depth : (format : Format) → 1 ≤ depth_left format round s
  some_depth format = omega (arith, closed_depth format (c ∷ []) (head c))
    where
      head : (c : ℕ) → contains (c ∷ []) c ≡ true
      head c = member_head c []

  pub raised_depth : (format : Format) (n : ℕ) → GoesInOrder format round s c j → depth_left format round s ≤ n → depth_left format round (raise c j s) ≤ after_raise format n
  raised_depth Plain n turn few =
      let shut : open_to (raise c j s) round.limit c ≡ false = subst (λ i. open_to (raise c j s) i c ≡ false) turn.0 (raised_shut s c j) in
      omega (arith, few, fewer_kept (open_to (raise c j s) round.limit) (open_to s round.limit) round.order c (raised_open s c j (omega (arith, open_least s j c can.is_open)) round.limit) here shut (open_above s j round.limit c can.small can.is_open))
  raised_depth Wide n turn few = few

  -- the states where the groups of the branch are closed
  pub closed_states : (groups : List (List ℕ)) (n : ℕ) → AreGroupsAt p round s c j groups → depth_left round.format round s ≤ n → (g : List ℕ) → Has groups g → IsState p round (close g s) × (depth_left round.format round (close g s) ≤ n - 1)
  closed_states groups n are few g h =
      let from = (are.each g).0 (contains_from_has groups g h) in
      ((branch_keeps_state).closed_state p round s g state from.fits (omega (arith, from.small, can.small)), omega (arith, few, closed_depth round.format g from.has))

mutual
  pub within_tree : (tree : Tree) (p : Problem) (round : Round) (s : State) (n : ℕ) → IsOrder p round.order → IsState p round s → Proves tree p round s → depth_left round.format round s ≤ n → IsWithin round.format n tree
  within_tree (leaf l) p round s n order state v few = tt
  within_tree (branch county limit takes raised) p round s n order state v few = (
    omega (arith, few, some_depth p round order s state county (limit_of round limit) v.1 round.format),
    within_takes takes p round s (n - 1) order (closed_states p round order s state county (limit_of round limit) v.1 (groups_of takes) n v.2 few) v.3,
    within_tree raised p round (raise county (limit_of round limit) s) (after_raise round.format n) order ((branch_keeps_state).raised_state p round s county (limit_of round limit) state v.1) v.4
        (raised_depth p round order s state county (limit_of round limit) v.1 round.format n (v.1).in_turn few),
  )

  within_takes : (takes : Takes) (p : Problem) (round : Round) (s : State) (n : ℕ) → IsOrder p round.order → ((g : List ℕ) → Has (groups_of takes) g → IsState p round (close g s) × (depth_left round.format round (close g s) ≤ n)) → EachProves takes p round s
      → EachWithin round.format n takes
  within_takes no_take p round s n order each v = tt
  within_takes (take codes tree others) p round s n order each v =
      let first = each codes (inl refl) in
      (within_tree tree p round (close codes s) n order first.0 v.0 first.1, within_takes others p round s n order (λ g h. each g (inr h)) v.1)

-- no path uses up more counties than the order has
kept : (q : ℕ → Bool) (xs : List ℕ) → length (filter q xs) ≤ length xs
kept q xs = omega (arith, length-filter_both q (λ x. not (q x)) (λ x. refl) xs)

pub at_most : (format : Format) (round : Round) (s : State) → depth_left format round s ≤ length round.order
at_most Plain round s = kept (open_to s round.limit) round.order
at_most Wide round s = kept s.rest round.order
