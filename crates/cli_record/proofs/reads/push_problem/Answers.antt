use Rattle.std.proofs.Common.{◌∷◌, [], ◌++◌, map}
use Rattle.cli_file_stores.specs.Sums.{sum_value}
use Rattle.cli_record.specs.declared.run.ReadFile.TheVariants as files
use Rattle.cli_record.specs.RunRecord.{read_line_of}
use Rattle.cli_record.specs.RecordFiles.{county_files, if_named, file_named}
use Rattle.cli_record.proofs.LineLemmas.{on_ok, read_on}
use Rattle.cli_record.proofs.reads.push_problem.Goals as goal

pub returns : goal.returns
returns c =
    let words = c.args.words.now in
    let sums = map sum_value c.args.sums.now in
    let counties = map read_line_of c.push_counties.new.reads.items in
    let pairs = map read_line_of c.push_read.new.reads.items in
    let adjacency = file_named files.Adjacency words.adjacency.now ∷ [] in
    let linked = if_named files.Links words.links in
    let withdrawn = if_named files.Withdrawn words.withdrawn in
    on_ok c.push_if_named-2.result c.push_if_named-2.ensures (λ next.
    let both = read_on pairs linked withdrawn sums c.in_ok-push_if_named.ensures next in
    let three = read_on counties adjacency (linked ++ withdrawn) sums c.in_ok-push_read.ensures both in
    read_on (map read_line_of c.args.reads.now.items) (county_files words.common.counties) (adjacency ++ (linked ++ withdrawn)) sums c.in_ok-push_counties.ensures three)
