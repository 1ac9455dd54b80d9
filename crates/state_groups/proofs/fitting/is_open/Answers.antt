use Rattle.std.proofs.Common.{length}
use Rattle.std.proofs.lemmas.Bool.{false≢true}
use Rattle.place_sets.specs.PlaceSets.{places_of}
use Rattle.state_groups.specs.StateValue.{state_of}
use Rattle.state_groups.proofs.FitLemmas.{open_by, shut_by}
use Rattle.state_groups.proofs.fitting.is_open.Goals as goal

pub returns-then-not-within : goal.returns-then-not-within
returns-then-not-within g c =
    let test = g.C.CountySet.test in
    let n = length c.args.state.now.least.items in
    let t = test c.args.group.now in
    let out = c.if-not-within.ensures.each in
    (λ e. absurd (false≢true e), λ k. absurd (shut_by (state_of test c.args.state.now) n (length (places_of n t)) out.0 t c.requires.below out.1 out.2 k))

pub returns : goal.returns
returns g c =
    let test = g.C.CountySet.test in
    let n = length c.args.state.now.least.items in
    let t = test c.args.group.now in
    open_by (state_of test c.args.state.now) n c.size.result t c.asks_more.result c.requires.below (c.size.ensures.count n c.requires.below) c.if-not-within.ensures.each c.asks_more.ensures
