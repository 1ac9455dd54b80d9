-- How deep proof trees are.
use Rattle.std.proofs.Common.{◌≡◌, ℕ, ◌+◌, ◌-◌, ◌*◌, ◌≤◌, ◌<◌, Bool, true, false, cond, not, ◌&&◌, ◌==◌, List, [], ◌∷◌, filter, length, max, refl, ap, subst, arith, inl, inr}
use Rattle.std.proofs.lemmas.Bool.{eqb-true, eq-eqb}
use Rattle.grouping_laws.specs.Sets.{sum_by, contains}
use Rattle.grouping_laws.specs.Problem.{Problem}
use Rattle.grouping_laws.specs.GroupsFrom.{IsOrder}
use Rattle.place_sets.proofs.Sums.{member_from_often, total_le, total_times, total_ones}
use Rattle.grouping_laws.proofs.Elements.{Has, contains_from_has}
use Rattle.grouping_laws.proofs.Digits.{true_digit}
use Rattle.grouping_laws.proofs.Parts.{member_head}
use Rattle.certificate_data.specs.declared.format.Format.{Format}
use Rattle.certificate_data.specs.declared.format.Format.TheVariants.{Plain, Wide}
use Rattle.certificate_data.specs.Round.{Round}
use Rattle.certificate_laws.specs.Regions.{without, listed}
use Rattle.certificate_laws.specs.State.{State, IsState, open_to, close, raise}
use Rattle.certificate_data.specs.Tree.{Tree, leaf, branch, Takes, no_take, take, groups_of}
use Rattle.certificate_laws.specs.Proving.{limit_of, Proves, EachProves, CanBranch, GoesInOrder}
use Rattle.certificate_laws.specs.Groups.{IsGroupAt}
use Rattle.certificate_laws.specs.Branching.{steps_left}
use Rattle.certificate_laws.specs.Depth.{IsWithin, EachWithin, after_raise, branches_on, branches_in, HasLimits, EachHasLimits, TreesAreShallow}
use Rattle.certificate_laws.proofs.Completion.{open_rest, open_least, rest_listed}
use Rattle.certificate_laws.proofs.WithoutGroup.{without_in}
use Rattle.certificate_laws.proofs.Counting.{fewer_kept, no_more_kept, sum_by-filter, total_less}
use Rattle.certificate_laws.proofs.Branches.{branch_keeps_state, open_above, closed_open, raised_open, settled_shut, raised_shut, settled_out}

-- how many counties a path can still use up, in order: of the rest, in a plain round of those open to groups of at most
-- the limit
abbrev depth_left : Format → Round → State → ℕ
depth_left Plain round s = length (filter (open_to s round.limit) round.order)
depth_left Wide round s = length (filter s.rest round.order)

in_order : (p : Problem) (order : List ℕ) → IsOrder p order → (c : ℕ) → contains p.counties c ≡ true → contains order c ≡ true
in_order p order whole c m = member_from_often c order (omega (arith, whole c, true_digit (contains p.counties c) m))

module _ (p : Problem) (round : Round) (order : IsOrder p round.order) (s : State) (state : IsState p round s) (c j : ℕ) (can : CanBranch round s c j) where
  here : contains round.order c ≡ true
  here = in_order p round.order order c (rest_listed p s state.once c (open_rest s j c can.is_open))

  closed_depth : (format : Format) (g : List ℕ) → contains g c ≡ true → depth_left format round (close g s) < depth_left format round s
  closed_depth Plain g m = fewer_kept (open_to (close g s) round.limit) (open_to s round.limit) round.order c (closed_open s g round.limit) here (settled_shut s g round.limit c m) (open_above s j round.limit c can.small can.is_open)
  closed_depth Wide g m = fewer_kept (close g s).rest s.rest round.order c (without_in g s.rest) here (settled_out s g c m) (open_rest s j c can.is_open)

  some_depth : (format : Format) → 1 ≤ depth_left format round s
  some_depth format = omega (arith, closed_depth format (c ∷ []) (head c))
    where
      head : (c : ℕ) → contains (c ∷ []) c ≡ true
      head c = member_head c []

  raised_depth : (format : Format) (n : ℕ) → GoesInOrder format round s c j → depth_left format round s ≤ n → depth_left format round (raise c j s) ≤ after_raise format n
  raised_depth Plain n turn few =
      let shut : open_to (raise c j s) round.limit c ≡ false = subst (λ i. open_to (raise c j s) i c ≡ false) turn.0 (raised_shut s c j) in
      omega (arith, few, fewer_kept (open_to (raise c j s) round.limit) (open_to s round.limit) round.order c (raised_open s c j (omega (arith, open_least s j c can.is_open)) round.limit) here shut (open_above s j round.limit c can.small can.is_open))
  raised_depth Wide n turn few = few

mutual
  within_tree : (tree : Tree) (p : Problem) (round : Round) (s : State) (n : ℕ) → IsOrder p round.order → IsState p round s → Proves tree p round s → depth_left round.format round s ≤ n → IsWithin round.format n tree
  within_tree (leaf l) p round s n order state v few = tt
  within_tree (branch county limit takes raised) p round s n order state v few = (
    omega (arith, few, some_depth p round order s state county (limit_of round limit) v.1 round.format),
    within_takes takes p round s (n - 1) order
        (λ g h.
        let from = (v.2.each g).0 (contains_from_has (groups_of takes) g h) in
        ((branch_keeps_state).closed_state p round s g state from.fits (omega (arith, from.small, (v.1).small)), omega (arith, few, closed_depth p round order s state county (limit_of round limit) v.1 round.format g from.has)))
        v.3,
    within_tree raised p round (raise county (limit_of round limit) s) (after_raise round.format n) order ((branch_keeps_state).raised_state p round s county (limit_of round limit) state v.1) v.4
        (raised_depth p round order s state county (limit_of round limit) v.1 round.format n (v.1).in_turn few),
  )

  within_takes : (takes : Takes) (p : Problem) (round : Round) (s : State) (n : ℕ) → IsOrder p round.order → ((g : List ℕ) → Has (groups_of takes) g → IsState p round (close g s) × (depth_left round.format round (close g s) ≤ n)) → EachProves takes p round s
      → EachWithin round.format n takes
  within_takes no_take p round s n order each v = tt
  within_takes (take codes tree others) p round s n order each v =
      let first = each codes (inl refl) in
      (within_tree tree p round (close codes s) n order first.0 v.0 first.1, within_takes others p round s n order (λ g h. each g (inr h)) v.1)

mutual
  few_on : (tree : Tree) (p : Problem) (round : Round) (s : State) → IsState p round s → Proves tree p round s → branches_on tree ≤ steps_left p round.limit s
  few_on (leaf l) p round s state v = omega arith
  few_on (branch county limit takes raised) p round s state v =
      let keep = branch_keeps_state in
      let later = few_on raised p round (raise county (limit_of round limit) s) (keep.raised_state p round s county (limit_of round limit) state v.1) v.4 in
      let fall = keep.raised_fewer p round s county (limit_of round limit) state v.1 in
      let each = few_in takes p round s (steps_left p round.limit s - 1)
      (λ g h.
      let from = (v.2.each g).0 (contains_from_has (groups_of takes) g h) in
      (keep.closed_state p round s g state from.fits (omega (arith, from.small, (v.1).small)), omega (arith, keep.closed_fewer p round s county (limit_of round limit) g v.1 from)))
      v.3 in
      most (branches_in takes) (branches_on raised) (steps_left p round.limit s) each (omega (arith, later, fall)) (omega (arith, fall))
    where
      most : (a b n : ℕ) → a ≤ n - 1 → b ≤ n - 1 → 1 ≤ n → 1 + max a b ≤ n
      most a b n h k l = omega arith

  few_in : (takes : Takes) (p : Problem) (round : Round) (s : State) (n : ℕ) → ((g : List ℕ) → Has (groups_of takes) g → IsState p round (close g s) × (steps_left p round.limit (close g s) ≤ n)) → EachProves takes p round s → branches_in takes ≤ n
  few_in no_take p round s n each v = omega arith
  few_in (take codes tree others) p round s n each v =
      let first = each codes (inl refl) in
      let one = few_on tree p round (close codes s) first.0 v.0 in
      let more = few_in others p round s n (λ g h. each g (inr h)) v.1 in
      greatest (branches_on tree) (branches_in others) n (omega (arith, one, first.1)) more
    where
      greatest : (a b n : ℕ) → a ≤ n → b ≤ n → max a b ≤ n
      greatest a b n h k = omega arith

-- in a plain text the depth counts the branches
most_of : (a b n : ℕ) → a ≤ n - 1 → b ≤ n - 1 → 1 ≤ n → 1 + max a b ≤ n
most_of a b n h k l = omega arith

mutual
  within_few : (tree : Tree) (n : ℕ) → IsWithin Plain n tree → branches_on tree ≤ n
  within_few (leaf l) n v = omega arith
  within_few (branch county limit takes raised) n v = most_of (branches_in takes) (branches_on raised) n (each_few takes (n - 1) v.1) (within_few raised (n - 1) v.2) v.0

  each_few : (takes : Takes) (n : ℕ) → EachWithin Plain n takes → branches_in takes ≤ n
  each_few no_take n v = omega arith
  each_few (take codes tree others) n v = greatest_of (branches_on tree) (branches_in others) n (within_few tree n v.0) (each_few others n v.1)
    where
      greatest_of : (a b n : ℕ) → a ≤ n → b ≤ n → max a b ≤ n
      greatest_of a b n h k = omega arith

-- where limits are at least 1, a least size of 0 is as good as 1
abbrev spare : Problem → ℕ → State → ℕ
spare p limit s = sum_by (λ c. limit - (s.least c - 1)) (listed p s.rest)

module _ (p : Problem) (round : Round) (s : State) (state : IsState p round s) (c j : ℕ) (can : CanBranch round s c j) (some : 1 ≤ j) where
  closed_spare : (g : List ℕ) → IsGroupAt p round s c j g → spare p round.limit (close g s) < spare p round.limit s
  closed_spare g from =
      let less = total_less (λ x. cond (without g s.rest x) (round.limit - (cond (contains g x) 0 (s.least x) - 1)) 0) (λ x. cond (s.rest x) (round.limit - (s.least x - 1)) 0) p.counties c (from.fits.lawful.listed c from.has) fewer (λ x. each (s.rest x) (contains g x) (s.least x)) in
      omega (arith, less, sum_by-filter (λ x. round.limit - (cond (contains g x) 0 (s.least x) - 1)) (without g s.rest) p.counties, sum_by-filter (λ x. round.limit - (s.least x - 1)) s.rest p.counties)
    where
      fewer : cond (without g s.rest c) (round.limit - (cond (contains g c) 0 (s.least c) - 1)) 0 < cond (s.rest c) (round.limit - (s.least c - 1)) 0
      fewer = rw (from.has, open_rest s j c can.is_open) (omega (arith, open_least s j c can.is_open, can.small, some))

      each : (a b : Bool) (k : ℕ) → cond (a && not b) (round.limit - (cond b 0 k - 1)) 0 ≤ cond a (round.limit - (k - 1)) 0
      each true true k = omega arith
      each true false k = omega arith
      each false b k = omega arith

  raised_spare : spare p round.limit (raise c j s) < spare p round.limit s
  raised_spare =
      let less = total_less (λ x. cond (s.rest x) (round.limit - (cond (x == c) (j + 1) (s.least x) - 1)) 0) (λ x. cond (s.rest x) (round.limit - (s.least x - 1)) 0) p.counties c (rest_listed p s state.once c (open_rest s j c can.is_open)) fewer (λ x. each x (x == c) refl (s.rest x)) in
      omega (arith, less, sum_by-filter (λ x. round.limit - (cond (x == c) (j + 1) (s.least x) - 1)) s.rest p.counties, sum_by-filter (λ x. round.limit - (s.least x - 1)) s.rest p.counties)
    where
      fewer : cond (s.rest c) (round.limit - (cond (c == c) (j + 1) (s.least c) - 1)) 0 < cond (s.rest c) (round.limit - (s.least c - 1)) 0
      fewer = rw (open_rest s j c can.is_open, eq-eqb c c refl) (omega (arith, open_least s j c can.is_open, can.small, some))

      each : (x : ℕ) → (b : Bool) → (x == c) ≡ b → (a : Bool) → cond a (round.limit - (cond b (j + 1) (s.least x) - 1)) 0 ≤ cond a (round.limit - (s.least x - 1)) 0
      each x true e true = omega (arith, open_least s j c can.is_open, ap s.least (eqb-true x c e), some)
      each x false e true = omega arith
      each x b e false = omega arith

few_spare : (p : Problem) (limit : ℕ) (s : State) → spare p limit s ≤ length p.counties * limit
few_spare p limit s =
    omega (
      arith,
      sum_by-filter (λ x. limit - (s.least x - 1)) s.rest p.counties,
      total_le (λ x. cond (s.rest x) (limit - (s.least x - 1)) 0) (λ x. 1 * limit) p.counties (λ x. each (s.rest x) (s.least x)),
      total_times (λ x. 1) limit p.counties,
      ap (λ z. z * limit) (total_ones p.counties),
    )
  where
    each : (a : Bool) (k : ℕ) → cond a (limit - (k - 1)) 0 ≤ 1 * limit
    each true k = omega arith
    each false k = omega arith

mutual
  spare_on : (tree : Tree) (p : Problem) (round : Round) (s : State) → IsState p round s → Proves tree p round s → HasLimits round tree → branches_on tree ≤ spare p round.limit s
  spare_on (leaf l) p round s state v limits = omega arith
  spare_on (branch county limit takes raised) p round s state v limits =
      let keep = branch_keeps_state in
      let later = spare_on raised p round (raise county (limit_of round limit) s) (keep.raised_state p round s county (limit_of round limit) state v.1) v.4 limits.2 in
      let fall = raised_spare p round s state county (limit_of round limit) v.1 limits.0 in
      let each = spare_in takes p round s (spare p round.limit s - 1)
      (λ g h.
      let from = (v.2.each g).0 (contains_from_has (groups_of takes) g h) in
      (keep.closed_state p round s g state from.fits (omega (arith, from.small, (v.1).small)), omega (arith, closed_spare p round s state county (limit_of round limit) v.1 limits.0 g from)))
      v.3 limits.1 in
      most_of (branches_in takes) (branches_on raised) (spare p round.limit s) each (omega (arith, later, fall)) (omega (arith, fall))

  spare_in : (takes : Takes) (p : Problem) (round : Round) (s : State) (n : ℕ) → ((g : List ℕ) → Has (groups_of takes) g → IsState p round (close g s) × (spare p round.limit (close g s) ≤ n)) → EachProves takes p round s → EachHasLimits round takes
      → branches_in takes ≤ n
  spare_in no_take p round s n each v limits = omega arith
  spare_in (take codes tree others) p round s n each v limits =
      let first = each codes (inl refl) in
      let one = spare_on tree p round (close codes s) first.0 v.0 limits.0 in
      let more = spare_in others p round s n (λ g h. each g (inr h)) v.1 limits.1 in
      greatest (branches_on tree) (branches_in others) n (omega (arith, one, first.1)) more
    where
      greatest : (a b n : ℕ) → a ≤ n → b ≤ n → max a b ≤ n
      greatest a b n h k = omega arith

pub trees_are_shallow : TreesAreShallow
trees_are_shallow = record {
  within = λ p round s tree order state v. within_tree tree p round s (length round.order) order state v (at_most round.format round s);
  few_branches = λ p round s tree state v. few_on tree p round s state v;
  few_with_limits = λ p round s tree state v limits. omega (arith, spare_on tree p round s state v limits, few_spare p round.limit s);
  few_in_order = λ p round s tree plainly order state v. within_few tree (length round.order) (subst (λ l. IsWithin l (length round.order) tree) plainly (within_tree tree p round s (length round.order) order state v (at_most round.format round s)));
}
  where
    kept : (q : ℕ → Bool) (xs : List ℕ) → length (filter q xs) ≤ length xs
    kept q xs = omega (arith, no_more_kept q (λ x. true) xs (λ x e. refl), all_kept xs)
      where
        all_kept : (xs : List ℕ) → length (filter (λ x. true) xs) ≡ length xs
        all_kept [] = refl
        all_kept (x ∷ xs) = omega (arith, all_kept xs)

    at_most : (format : Format) (round : Round) (s : State) → depth_left format round s ≤ length round.order
    at_most Plain round s = kept (open_to s round.limit) round.order
    at_most Wide round s = kept s.rest round.order
