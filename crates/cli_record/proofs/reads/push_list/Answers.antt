use Rattle.std.proofs.Common.{◌∷◌, [], ◌++◌, map}
use Rattle.cli_file_stores.specs.Sums.{sum_value}
use Rattle.cli_record.specs.declared.run.ReadFile.TheVariants as files
use Rattle.cli_record.specs.RunRecord.{read_line_of}
use Rattle.cli_record.specs.RecordFiles.{file_named, if_named, problem_files}
use Rattle.cli_record.proofs.LineLemmas.{on_ok, read_on}
use Rattle.cli_record.proofs.reads.push_list.Goals as goal

pub returns : goal.returns
returns c =
    let words = c.args.words.now in
    let sums = map sum_value c.args.sums.now in
    let problem = map read_line_of c.push_problem.new.reads.items in
    let grouping = if_named files.Grouping words.which in
    let certificate = file_named files.Certificate words.check.certificate.now ∷ [] in
    on_ok c.push_read.result c.push_read.ensures (λ next.
    let both = read_on problem grouping certificate sums c.in_ok-push_if_named.ensures next in
    read_on (map read_line_of c.args.reads.now.items) (problem_files words.check.problem) (grouping ++ certificate) sums c.in_ok-push_problem.ensures both)
