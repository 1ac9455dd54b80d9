use Rattle.std.proofs.Common.{Ok}
use Rattle.county_problem.specs.ProblemValue.{problem_of}
use Rattle.std.specs.declared.alloc.AllocError.{AllocError}
use Rattle.certificate_checker.proofs.Answering.{checked_bytes, bytes_best, bytes_impossible}
use Rattle.certificate_checker.proofs.checking.check_from_over.Goals as goal

pub returns-in-Ok-checked-clause-verdict : goal.returns-in-Ok-checked-clause-verdict
returns-in-Ok-checked-clause-verdict g c =
    checked_bytes (problem_of c.args.problem.now) (g.S.Source.given c.args.source.now) (g.S.Source.given c.check_source-checked.new.from) c.args.budget c.in-Ok.items c.in-Ok.ensures.made c.in-Ok-checked.verdict c.in-Ok-checked.ensures

pub returns-in-Ok-checked-clause-best : goal.returns-in-Ok-checked-clause-best
returns-in-Ok-checked-clause-best g c =
    bytes_best (problem_of c.args.problem.now) (g.S.Source.given c.args.source.now) (g.S.Source.given c.check_source-checked.new.from) c.args.budget {E = AllocError} (Ok c.in-Ok-checked.verdict)
    (checked_bytes (problem_of c.args.problem.now) (g.S.Source.given c.args.source.now) (g.S.Source.given c.check_source-checked.new.from) c.args.budget c.in-Ok.items c.in-Ok.ensures.made c.in-Ok-checked.verdict c.in-Ok-checked.ensures)

pub returns-in-Ok-checked-clause-impossible : goal.returns-in-Ok-checked-clause-impossible
returns-in-Ok-checked-clause-impossible g c =
    bytes_impossible (problem_of c.args.problem.now) (g.S.Source.given c.args.source.now) (g.S.Source.given c.check_source-checked.new.from) c.args.budget {E = AllocError} (Ok c.in-Ok-checked.verdict)
    (checked_bytes (problem_of c.args.problem.now) (g.S.Source.given c.args.source.now) (g.S.Source.given c.check_source-checked.new.from) c.args.budget c.in-Ok.items c.in-Ok.ensures.made c.in-Ok-checked.verdict c.in-Ok-checked.ensures)
