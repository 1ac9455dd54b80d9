use Rattle.std.proofs.Common.{◌≡◌, ◌+◌, subst, arith}
use Rattle.county_problem.specs.ProblemValue.{problem_of}
use Rattle.certificate_data.specs.RoundValue.{round_of}
use Rattle.certificate_laws.specs.State.{empty_state}
use Rattle.certificate_data.specs.TreeValue.{tree_of, certificate_of}
use Rattle.list_groupings.specs.Gaps.{IsFirstGap, first_gap_line}
use Rattle.checker_laws.specs.Lines.{tree_lines}
use Rattle.list_laws.specs.Completeness.{IsComplete}
use Rattle.list_laws.specs.Ends.{ends}
use Rattle.list_groupings.proofs.WalkLemmas.{opened}
use Rattle.list_groupings.proofs.Whole.{begins, line_is, few_lines, listed}
use Rattle.list_groupings.proofs.answering.listing_of.Goals as goal

pub put_tree-requires-clause-at : goal.put_tree-requires-clause-at
put_tree-requires-clause-at c =
    let p = problem_of c.args.problem.now in
    (empty_state p, (c.in_ok-position.ensures, begins p c.args.text.now c.args.certificate.now c.args.target.now c.args.wanted.now c.requires.ready))

pub put_tree-requires-clause-lines : goal.put_tree-requires-clause-lines
put_tree-requires-clause-lines c =
    let p = problem_of c.args.problem.now in
    let few = few_lines p c.args.text.now c.args.certificate.now c.args.target.now c.args.wanted.now c.requires.ready in
    omega (arith, few)

pub returns-in-Ok-clause-listing : goal.returns-in-Ok-clause-listing
returns-in-Ok-clause-listing c = λ budget.
    let p = problem_of c.args.problem.now in
    let done = c.in-Ok.ensures.walked (empty_state p) (c.in_ok-position.ensures, begins p c.args.text.now c.args.certificate.now c.args.target.now c.args.wanted.now c.requires.ready) in
    (certificate_of c.args.certificate.now, c.requires.ready.spells, done.0)

pub returns-in-Ok-clause-all : goal.returns-in-Ok-clause-all
returns-in-Ok-clause-all c =
    let p = problem_of c.args.problem.now in
    let done = c.in-Ok.ensures.walked (empty_state p) (c.in_ok-position.ensures, begins p c.args.text.now c.args.certificate.now c.args.target.now c.args.wanted.now c.requires.ready) in
    listed p c.args.text.now c.args.certificate.now c.args.target.now c.args.wanted.now c.requires.ready done.0 c.new.result.items c.put_tree.new.found.list.items c.new.ensures.items done.2
    c.in_ok-sorted_groupings-in-Ok.field-0.items c.in_ok-sorted_groupings-in-Ok.ensures.same c.in_ok-sorted_groupings-in-Ok.ensures.sorted

pub returns-in-Err-Open-clause-listing : goal.returns-in-Err-Open-clause-listing
returns-in-Err-Open-clause-listing c = λ budget.
    let p = problem_of c.args.problem.now in
    let r = round_of c.args.certificate.now.round in
    let tree = tree_of c.args.certificate.now.tree in
    let gap = opened p (IsComplete tree p r (empty_state p)) (IsFirstGap tree p r (empty_state p) (c.line_behind.result + c.len.result)) (ends tree p r (empty_state p)) (tree_lines tree) (record { line = c.line_behind.result + c.len.result; list = c.new.result }) c.put_tree.new.found c.in-Err-Open.field-0 c.in-Err-Open.gap c.in-Err-Open.line c.in-Err-Open.field-0-is
    (c.in-Err-Open.ensures.walked (empty_state p) (c.in_ok-position.ensures, begins p c.args.text.now c.args.certificate.now c.args.target.now c.args.wanted.now c.requires.ready)) in
    let line : c.line_behind.result + c.len.result ≡ first_gap_line r = omega (arith, c.line_behind.ensures.value, line_is p c.args.text.now c.args.certificate.now c.args.target.now c.args.wanted.now c.requires.ready) in
    (certificate_of c.args.certificate.now, c.requires.ready.spells, subst (λ z. IsFirstGap (tree_of c.args.certificate.now.tree) p r (empty_state p) z c.in-Err-Open.gap c.in-Err-Open.line) line gap)
