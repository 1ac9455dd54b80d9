-- The problem that steps over the files that a run was given come to is the problem of these files.
use Rattle.std.proofs.Common.{ℕ, List, Option, Some, None}
use Rattle.std.specs.Prelude.{Ok}
use Rattle.std.specs.Borrow.{Bor}
use Rattle.grouping_laws.specs.Grouping as groups
use Rattle.county_codes.specs.declared.county.County.{County}
use Rattle.county_problem.specs.ProblemValue.{ProblemValue}
use Rattle.pl94_counties.specs.declared.blocks.Block.{Block}
use Rattle.pl94_counties.proofs.ListedLemmas.{are_blocks}
use Rattle.baf_auditor.specs.declared.assignments.Assignment.{Assignment}
use Rattle.cli_words.specs.declared.words.CommonWords.{CommonWords}
use Rattle.cli_words.specs.declared.words.CensusWords.{CensusWords}
use Rattle.cli_words.specs.declared.words.ProblemWords.{ProblemWords}
use Rattle.cli_file_stores.specs.Files.{Files}
use Rattle.cli_file_stores.specs.History.{History}
use Rattle.run_laws.specs.ProblemSteps.{counties_steps, problem_steps, grouping_of}
use Rattle.run_laws.specs.PlanSteps.{blocks_of, plan_assignments}
use Rattle.run_laws.specs.ListSteps.{which_of}
use Rattle.run_laws.specs.FilesProblem.{AreCountiesOfFiles, AreBlocksOfFiles, IsProblemOfFiles, IsGroupingOfFile, IsGroupingIfNamed, AreAssignmentsOfFile}
use Rattle.run_laws.proofs.Texts.{given_of_both_found}
use Rattle.run_laws.proofs.FilesRead.{went, problem_reads, counties_told, problem_of_files}

module _ (files : Files) where
  pub counties_found : (words : CommonWords) (before after : History) (counties : List County) → counties_steps (Some files) words before after (Ok counties) → AreCountiesOfFiles files words counties
  counties_found words before after counties h = counties_told files words.state words.counties before after counties h

  pub blocks_found : (census : CensusWords) (state : ℕ) (before after : History) (blocks : List Block) → blocks_of (Some files) census state before after (Ok blocks) → AreBlocksOfFiles files state census blocks
  blocks_found census state before after blocks h =
      let t = went _ _ before after blocks h in
      let begun = given_of_both_found files census.geo.now census.segment.now before t.between t.value t.given in
      record {
        geo = begun.0.text;
        segment = begun.1.text;
        geo_is = begun.0.is;
        segment_is = begun.1.is;
        faultless = t.goes_on.1 begun.0.text begun.1.text begun.0.sees begun.1.sees;
        are = are_blocks begun.0.text begun.1.text state blocks (t.goes_on.1 begun.0.text begun.1.text begun.0.sees begun.1.sees);
      }

  pub problem_found : (words : ProblemWords) (before after : History) (v : ProblemValue) → problem_steps (Some files) words before after (Ok v) → IsProblemOfFiles files words v
  problem_found words before after v h = problem_of_files files words v (problem_reads files words before after v h)

  pub grouping_found : (name : List ℕ) (before after : History) (grouping : groups.Grouping) → grouping_of (Some files) name before after (Ok grouping) → IsGroupingOfFile files name grouping
  grouping_found name before after grouping h =
      let t = went _ _ before after grouping h in
      (t.value, t.given.0, t.goes_on.1)

  pub which_found : (name : Option (Bor (List ℕ))) (before after : History) (which : Option groups.Grouping) → which_of (Some files) name before after (Ok which) → IsGroupingIfNamed files name which
  which_found None before after which h = h.1
  which_found (Some name) before after which h =
      let g = went _ _ before after which h in
      (g.value, g.goes_on.1, grouping_found name.now before g.between g.value g.given)

  pub assignments_found : (name : List ℕ) (before after : History) (lines : List Assignment) → plan_assignments (Some files) name before after (Ok lines) → AreAssignmentsOfFile files name lines
  assignments_found name before after lines h =
      let t = went _ _ before after lines h in
      (t.value, t.given.0, t.goes_on.1)
