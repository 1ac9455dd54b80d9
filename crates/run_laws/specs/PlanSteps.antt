-- The steps from files to census blocks, and to the assignments of a plan.
use Rattle.std.specs.Prelude.{◌≡◌, ℕ, List, Option}
use Rattle.pl94_counties.specs.declared.blocks.Block.{Block}
use Rattle.pl94_counties.specs.Counties.{block_list}
use Rattle.baf_auditor.specs.declared.assignments.Assignment.{Assignment}
use Rattle.baf_auditor.specs.Assignments.{assignment_list}
use Rattle.cli_words.specs.declared.words.CensusWords.{CensusWords}
use Rattle.cli_file_stores.specs.Files.{Files}
use Rattle.cli_answers.specs.Refusals.{pl94_answer, assignment_answer}
use Rattle.field_lines.specs.Source.{Given}
use Rattle.run_laws.specs.Reading.{given_of_both, OfTexts}
use Rattle.run_laws.specs.Steps.{Steps, ◌>>=◌, load_step, call_step}

-- The blocks that two files give, or their first fault: those of each two texts that begin with what was read.
abbrev pub blocks_in : ℕ → Given → Given → Steps (List Block)
blocks_in state geo segment =
    call_step pl94_answer (λ blocks. OfTexts (λ g s. block_list g s state ≡ blocks) geo segment)

-- The census blocks of the state: the geographic header and segment 1 are opened anew, and each is read once.
abbrev pub blocks_of : Option Files → CensusWords → ℕ → Steps (List Block)
blocks_of files census state =
    given_of_both files census.geo.now census.segment.now >>= λ given. blocks_in state given.0 given.1

-- the assignments that a file gives
abbrev pub assignments_in : List ℕ → Steps (List Assignment)
assignments_in text = call_step assignment_answer (λ lines. assignment_list text ≡ lines)

-- the assignments of a file
abbrev pub plan_assignments : Option Files → List ℕ → Steps (List Assignment)
plan_assignments files name = load_step files name >>= assignments_in
