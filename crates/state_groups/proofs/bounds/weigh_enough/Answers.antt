use Rattle.std.proofs.Common.{ℕ, ◌≤◌, subst, sym, length, get_or, arith}
use Rattle.std.proofs.lemmas.Bool.{false≢true}
use Rattle.place_sets.specs.Lists.{sum_by}
use Rattle.place_sets.specs.PlaceSets.{places_of}
use Rattle.state_groups.proofs.bounds.weigh_enough.Goals as goal

pub returns-then-weight_in-quota : goal.returns-then-weight_in-quota
returns-then-weight_in-quota g c =
    let test = g.C.CountySet.test in
    let weight = λ (z : g.row.C.Denot). sum_by (λ (i : ℕ). get_or c.args.weights.now i 0) (places_of (length c.args.weights.now) (test z)) in (
      λ e. absurd (false≢true e),
      λ all.
          let heavy : c.args.quota ≤ weight c.group-item.result = subst (λ (z : g.row.C.Denot). c.args.quota ≤ weight z) (sym c.group-item.is) (all c.loop-group.group-index c.group-item.result c.loop-group-test.true) in
          absurd (omega (arith, heavy, c.weight_in.ensures, c.if-weight_in-quota.true)),
    )
