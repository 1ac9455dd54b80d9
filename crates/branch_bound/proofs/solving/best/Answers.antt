use Rattle.std.proofs.Common.{◌≡◌, List, Some, ap, ◌∙◌, arith}
use Rattle.county_codes.specs.declared.group.Group.{Group}
use Rattle.county_problem.specs.ProblemValue.{problem_of}
use Rattle.certificate_data.specs.declared.format.Format.TheVariants.{Wide}
use Rattle.certificate_data.specs.RoundValue.{round_of}
use Rattle.branch_bound.specs.Resuming.{round_over}
use Rattle.branch_bound.proofs.Rounds.{best_answer, best_complete}
use Rattle.branch_bound.proofs.solving.best.Goals as goal

pub returns : goal.returns
returns c =
    let ordered = c.args.ordered.now in
    let of_target = λ (g : List Group). round_over (problem_of ordered.problem) ordered.order c.args.limit (Some g) Wide in
    let value : round_of c.in_ok-round.round ≡ of_target c.args.target.groups.items = c.in_ok-round.ensures.value ∙ ap of_target c.in_ok-copy.ensures in
    record {
      answer =
          best_answer
          (problem_of ordered.problem)
          ordered.order
          c.args.limit
          c.args.target
          c.in_ok-round.round
          c.args.tree
          c.places-places.ensures.order
          (omega (arith, c.places-places.ensures.value, c.places-places.ensures.few))
          c.requires.order
          c.requires.target
          c.requires.small
          c.requires.large
          value
          c.in_ok-round.ensures.codes
          c.in_ok-round.ensures.range
          c.requires.tree;
      complete = best_complete (problem_of ordered.problem) ordered.order c.args.limit c.args.target c.in_ok-round.round c.args.tree c.requires.target c.requires.large value c.requires.tree;
    }
