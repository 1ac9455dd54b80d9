use Rattle.std.proofs.Common.{◌++◌, map}
use Rattle.cli_file_stores.specs.Sums.{sum_value}
use Rattle.cli_record.specs.RunRecord.{read_line_of}
use Rattle.cli_record.specs.RecordFiles.{block_files, plan_files, problem_files}
use Rattle.cli_record.proofs.LineLemmas.{on_ok, read_on}
use Rattle.cli_record.proofs.reads.push_audit.Goals as goal

pub returns : goal.returns
returns c =
    let words = c.args.words.now in
    let sums = map sum_value c.args.sums.now in
    let problem = map read_line_of c.push_problem.new.reads.items in
    let blocks = block_files words.problem.common.counties words.census in
    on_ok c.push_plan.result c.push_plan.ensures (λ next.
    let both = read_on problem blocks (plan_files words) sums c.in_ok-push_blocks.ensures next in
    read_on (map read_line_of c.args.reads.now.items) (problem_files words.problem) (blocks ++ plan_files words) sums c.in_ok-push_problem.ensures both)
