use Rattle.std.proofs.Common.{ℕ, ◌+◌, Bool, subst, refl, ◌∙◌, arith}
use Rattle.certificate_laws.specs.Leaves.{IsStuck}
use Rattle.certificate_laws.specs.Groups.{AreGroupsOf}
use Rattle.state_groups.specs.PlacedValues.{codes_of_sets}
use Rattle.search_groups.specs.declared.input.SearchInput.{SearchInput}
use Rattle.search_groups.specs.declared.position.Position.{Position}
use Rattle.branch_bound.specs.declared.outcome.Next.{Next}
use Rattle.branch_bound.specs.Searching.{search_problem, search_round, search_state, IsEnd, IsBetter, IsNextSize, IsNextMove}
use Rattle.branch_bound.proofs.Searches.{own}
use Rattle.search_groups.proofs.NextMoves.{sized_at}
use Rattle.branch_bound.proofs.judging.move_at_sizes.Goals as goal

-- what follows where no group of at most the size of the position fits
abbrev NextHere : {C : Type 0} → (C → ℕ → Bool) → SearchInput C → Position C → Next C → Type 0
NextHere test g at next = IsNextSize test g (search_state g test at.state) at.size next

pub next_size-requires-clause-no_stuck : goal.next_size-requires-clause-no_stuck
next_size-requires-clause-no_stuck g c = λ x stuck. c.requires.no_stuck x (subst (λ z. IsStuck (search_problem c.args.input.now) (search_state c.args.input.now g.C.CountySet.test z) x) c.loop-position.invariant.state stuck)

pub loop-position-preserved : goal.loop-position-preserved
loop-position-preserved g c =
    let test = g.C.CountySet.test in
    let input = c.args.input.now in
    let inv = c.loop-position.invariant in
    let at = c.loop-position.position in
    let found = subst (NextHere test input at) c.in-Ok-Groups.field-0-is c.in-Ok-Groups.ensures.next in
    record {
      at = sized_at g.row.C.Denot test g.C.CountySet.PLACES input c.requires.input c.requires.input.graph.order (search_state input test c.args.position.state) at inv.at _ c.in-Ok-Groups.ensures.none refl refl found.0 found.1 (subst (λ z. AreGroupsOf (search_problem input) (search_round input) (search_state input test z) (at.size + 1) (codes_of_sets input.graph.now.ordered.now.order test c.in-Ok-Groups.groups.items)) inv.state found.2) refl;
      state = inv.state;
      lists = c.next_size.ensures.lists;
      more = omega (arith, inv.more, c.next_size.ensures.more);
      limit = c.next_size.ensures.limit ∙ inv.limit;
    }

pub returns-in-Ok-Leaf-clause-next_move : goal.returns-in-Ok-Leaf-clause-next_move
returns-in-Ok-Leaf-clause-next_move g c =
    subst (λ z. IsEnd (search_problem c.args.input.now) (search_round c.args.input.now) (search_state c.args.input.now g.C.CountySet.test z) c.in-Ok-Leaf.leaf) c.loop-position.invariant.state
    (subst (NextHere g.C.CountySet.test c.args.input.now c.loop-position.position) c.in-Ok-Leaf.field-0-is c.in-Ok-Leaf.ensures.next)

pub returns-in-Ok-Better-clause-next_move : goal.returns-in-Ok-Better-clause-next_move
returns-in-Ok-Better-clause-next_move g c =
    subst (λ z. IsBetter (search_problem c.args.input.now) (search_round c.args.input.now) (search_state c.args.input.now g.C.CountySet.test z) c.in-Ok-Better.found) c.loop-position.invariant.state
    (subst (NextHere g.C.CountySet.test c.args.input.now c.loop-position.position) c.in-Ok-Better.field-0-is c.in-Ok-Better.ensures.next)

pub move_at_groups-requires-clause-at : goal.move_at_groups-requires-clause-at
move_at_groups-requires-clause-at g c =
    own g.row.C.Denot g.C.CountySet.test c.args.input.now (search_state c.args.input.now g.C.CountySet.test c.args.position.state) c.loop-position.position c.loop-position.invariant.at

pub next_size-requires-clause-at : goal.next_size-requires-clause-at
next_size-requires-clause-at g c =
    own g.row.C.Denot g.C.CountySet.test c.args.input.now (search_state c.args.input.now g.C.CountySet.test c.args.position.state) c.loop-position.position c.loop-position.invariant.at

pub returns-in-Ok-clause-next_move : goal.returns-in-Ok-clause-next_move
returns-in-Ok-clause-next_move g c =
    subst (λ z. IsNextMove g.C.CountySet.test c.args.input.now (search_state c.args.input.now g.C.CountySet.test z) c.in-Ok.next_move) c.loop-position.invariant.state c.in-Ok.ensures
