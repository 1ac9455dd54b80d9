use Rattle.std.proofs.Common.{◌≡◌, ℕ, List, Some, length, refl, sym, subst, arith}
use Rattle.county_problem.specs.OrderedValue.{problem_at}
use Rattle.county_problem.specs.ProblemValue.{problem_of}
use Rattle.certificate_data.specs.declared.format.Format.TheVariants.{Wide}
use Rattle.certificate_laws.specs.State.{empty_state}
use Rattle.partial_trees.specs.PartialValue.{partial_of}
use Rattle.branch_bound.specs.Parts.{IsOpenPart}
use Rattle.branch_bound.specs.Resuming.{round_over}
use Rattle.branch_bound.specs.Searching.{IsStopped, IsOutcome}
use Rattle.branch_bound.proofs.Orders.{stands_in_order}
use Rattle.branch_bound.proofs.solving.improve.Goals as goal

pub returns-in-Ok-Open : goal.returns-in-Ok-Open
returns-in-Ok-Open g c =
    let ordered = c.args.graph.now.ordered.now in
    let p = problem_of ordered.problem in
    let target = c.loop-tree.invariant.target in
    let all : c.used.result ≡ c.args.steps.now.limit =
    omega (arith, c.used.ensures.value, c.in-Ok-Open.ensures.stopped (subst IsStopped (sym c.in-Ok-Open.field-0-is) tt), c.prove_round.ensures.limit, c.loop-tree.invariant.limit) in
    let here = subst (λ o. IsOutcome p (round_over p ordered.order c.min-limit.result (Some c.loop-tree.target.groups.items) Wide) (empty_state p) o) c.in-Ok-Open.field-0-is c.in-Ok-Open.ensures.outcome in
    let part =
    c.best_part-part.ensures p c.loop-tree.target.groups.items c.largest_size-largest.ensures.longest
    (subst (λ (order : List ℕ). IsOpenPart p (round_over p order c.min-limit.result (Some c.loop-tree.target.groups.items) Wide) (empty_state p) (partial_of c.in-Ok-Open.part)) c.requires.listed here) in
    record { answer = (all, (target.lawful, stands_in_order ordered.order c.requires.order c.loop-tree.target.groups.items target.sorted, part)); complete = tt }

pub loop-tree-init : goal.loop-tree-init
loop-tree-init g c = record {
  target = c.requires.target;
  lists = c.new-lists.ensures.lists (problem_at c.args.graph.now.ordered.now) (length c.args.graph.now.ordered.now.order);
  limit = refl;
}
