use Rattle.std.proofs.Common.{sym, ap, ◌∙◌, ◌≡◌, ◌<◌, ℕ, true, length, arith}
use Rattle.std.proofs.lemmas.Bool.{false≢true}
use Rattle.std.proofs.lemmas.Result.{IfOk-from_err}
use Rattle.county_problem.specs.ProblemValue.{problem_of}
use Rattle.grouping_laws.specs.Sets.{contains}
use Rattle.place_sets.specs.PlaceSets.{places_of}
use Rattle.connected_laws.proofs.PlaceLists.{placed_below}
use Rattle.certificate_laws.specs.Fitting.{IsLive}
use Rattle.state_groups.specs.StateValue.{state_of}
use Rattle.state_groups.specs.PlacedValues.{state_at, codes_of_set}
use Rattle.search_groups.proofs.KeptSteps.{kept_in, kept_out}
use Rattle.search_groups.proofs.LivePlaces.{live_codes, live_places}
use Rattle.search_groups.proofs.kept_groups.live_groups.Goals as goal
use Rattle.search_groups.proofs.kept_groups.live_groups.Goals.{then-branch+in_ok-copy+in_default, else-branch}

pub loop-group-preserved : goal.loop-group-preserved
loop-group-preserved g c =
    let C = g.row.C.Denot in
    let test = g.C.CountySet.test in
    let p = problem_of c.args.graph.now.ordered.now.problem in
    let order = c.args.graph.now.ordered.now.order in
    let t = state_of test c.args.state.now in
    let groups = c.args.groups.now in
    let Is = IsLive p (state_at order test c.args.state.now) in
    let i = c.loop-group.group-index in
    let item = c.group-item.result in
    let set = places_of (length order) (test item) in
    let olds = c.loop-group.live.items in
    let news = c.if-branch.live.items in
    let inv = c.loop-group.invariant in
    let laws = c.requires.graph in
    let low : (x : ℕ) → contains set x ≡ true → x < length order = λ x m. placed_below (length order) x (test item) m in
    elim c.if-branch.branch [
      | then-branch+in_ok-copy+in_default w ↦
          let is = live_codes p order laws.order t c.requires.placed.rest laws.rows.problem set low (c.in_ok-is_live.ensures.0 w.if-branch.true) in
          let r = kept_in C test order Is groups c.requires.below i item w.in_ok-copy.copy olds w.push.new.self.items news c.loop-group-test.true c.group-item.is w.in_default.ensures.items (ap (λ z. z.items) w.live-is) w.in_ok-copy.ensures.places is inv.those inv.below in
          record { those = r.0; below = r.1; steps = omega (arith, c.if-not-tick.ensures.used, inv.steps); more = omega (arith, c.if-not-tick.ensures.used, inv.more); limit = c.if-not-tick.ensures.limit ∙ inv.limit }
      | else-branch w ↦
          let isnt : Is (codes_of_set order test item) → ⊥ = λ l. false≢true (sym w.if-branch.false ∙ c.in_ok-is_live.ensures.1 (live_places p order laws.order t c.requires.placed.rest laws.rows.problem set low l)) in
          let r = kept_out C test order Is groups i item olds news c.loop-group-test.true c.group-item.is (ap (λ z. z.items) w.live-is) isnt inv.those inv.below in
          record { those = r.0; below = r.1; steps = omega (arith, c.if-not-tick.ensures.used, inv.steps); more = omega (arith, c.if-not-tick.ensures.used, inv.more); limit = c.if-not-tick.ensures.limit ∙ inv.limit }
    ]

pub returns-in_err-is_live-clause-those : goal.returns-in_err-is_live-clause-those
returns-in_err-is_live-clause-those g c = IfOk-from_err c.from_residual.result _ c.from_residual.ensures.0

pub returns-in_err-is_live-clause-below : goal.returns-in_err-is_live-clause-below
returns-in_err-is_live-clause-below g c = IfOk-from_err c.from_residual.result _ c.from_residual.ensures.0

pub returns-in_err-is_live-clause-steps : goal.returns-in_err-is_live-clause-steps
returns-in_err-is_live-clause-steps g c = omega (arith, c.if-not-tick.ensures.used, c.loop-group.invariant.steps, c.loop-group-test.true)

pub returns-in_err-is_live-clause-counted : goal.returns-in_err-is_live-clause-counted
returns-in_err-is_live-clause-counted g c = IfOk-from_err c.from_residual.result _ c.from_residual.ensures.0

pub returns-in_err-is_live-clause-more : goal.returns-in_err-is_live-clause-more
returns-in_err-is_live-clause-more g c = omega (arith, c.if-not-tick.ensures.used, c.loop-group.invariant.more)

pub returns-in_err-is_live-clause-limit : goal.returns-in_err-is_live-clause-limit
returns-in_err-is_live-clause-limit g c = c.if-not-tick.ensures.limit ∙ c.loop-group.invariant.limit

pub returns-in_err-copy-clause-those : goal.returns-in_err-copy-clause-those
returns-in_err-copy-clause-those g c = IfOk-from_err c.from_residual-in_err-copy.result _ c.from_residual-in_err-copy.ensures.0

pub returns-in_err-copy-clause-below : goal.returns-in_err-copy-clause-below
returns-in_err-copy-clause-below g c = IfOk-from_err c.from_residual-in_err-copy.result _ c.from_residual-in_err-copy.ensures.0

pub returns-in_err-copy-clause-steps : goal.returns-in_err-copy-clause-steps
returns-in_err-copy-clause-steps g c = omega (arith, c.if-not-tick.ensures.used, c.loop-group.invariant.steps, c.loop-group-test.true)

pub returns-in_err-copy-clause-counted : goal.returns-in_err-copy-clause-counted
returns-in_err-copy-clause-counted g c = IfOk-from_err c.from_residual-in_err-copy.result _ c.from_residual-in_err-copy.ensures.0

pub returns-in_err-copy-clause-more : goal.returns-in_err-copy-clause-more
returns-in_err-copy-clause-more g c = omega (arith, c.if-not-tick.ensures.used, c.loop-group.invariant.more)

pub returns-in_err-copy-clause-limit : goal.returns-in_err-copy-clause-limit
returns-in_err-copy-clause-limit g c = c.if-not-tick.ensures.limit ∙ c.loop-group.invariant.limit

pub returns-in-Err-clause-steps : goal.returns-in-Err-clause-steps
returns-in-Err-clause-steps g c = omega (arith, c.if-not-tick.ensures.used, c.loop-group.invariant.steps, c.loop-group-test.true)

pub returns-in-Err-clause-more : goal.returns-in-Err-clause-more
returns-in-Err-clause-more g c = omega (arith, c.if-not-tick.ensures.used, c.loop-group.invariant.more)

pub returns-in-Err-clause-limit : goal.returns-in-Err-clause-limit
returns-in-Err-clause-limit g c = c.if-not-tick.ensures.limit ∙ c.loop-group.invariant.limit

pub returns-clause-below : goal.returns-clause-below
returns-clause-below g c = c.loop-group.invariant.below

pub returns-clause-steps : goal.returns-clause-steps
returns-clause-steps g c = omega (arith, c.loop-group.invariant.steps, c.loop-group.auto.group-index-end)

pub returns-clause-counted : goal.returns-clause-counted
returns-clause-counted g c = omega (arith, c.loop-group.invariant.steps, c.loop-group.auto.group-index-end)

pub returns-clause-more : goal.returns-clause-more
returns-clause-more g c = c.loop-group.invariant.more

pub returns-clause-limit : goal.returns-clause-limit
returns-clause-limit g c = c.loop-group.invariant.limit

pub returns-clause-stopped : goal.returns-clause-stopped
returns-clause-stopped g c = λ h. cc
