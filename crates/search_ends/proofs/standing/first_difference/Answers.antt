use Rattle.std.proofs.Common.{◌≡◌, ◌+◌, sym, ◌∙◌, subst, arith, ⊎_elim}
use Rattle.std.proofs.lemmas.Bool.{cases_lt}
use Rattle.grouping_laws.specs.Grouping.{counts, sets_of}
use Rattle.search_groups.specs.Positions.{search_state}
use Rattle.search_ends.proofs.standing.first_difference.Goals as goal

pub returns-then-closed-groups_of_size : goal.returns-then-closed-groups_of_size
returns-then-closed-groups_of_size g c = record {
  some = omega arith;
  small = omega (arith, c.loop-below-test.true);
  level = λ i from to. c.loop-below.invariant i from (omega (arith, to));
  other = λ same. c.if-closed-groups_of_size.true (c.closed_of_size-closed.ensures.value ∙ same ∙ sym c.groups_of_size.ensures);
}

pub loop-below-preserved : goal.loop-below-preserved
loop-below-preserved g c i from to =
    let s = search_state c.args.input.now g.C.CountySet.test c.args.state.now in
    let here = sym c.closed_of_size-closed.ensures.value ∙ c.if-closed-groups_of_size.false ∙ c.groups_of_size.ensures in
    ⊎_elim (λ l. c.loop-below.invariant i from (omega (arith, l)))
    (λ l.
    let last : c.loop-below.below + 1 ≡ i = omega (arith, l, to) in
    subst (λ z. counts s.closed z ≡ counts (sets_of c.args.target.now.groups.items) z) last here) (cases_lt i (c.loop-below.below + 1))
