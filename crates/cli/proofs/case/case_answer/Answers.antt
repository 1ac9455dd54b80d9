use Rattle.std.proofs.Common.{◌≡◌, true, rules}
use Rattle.field_lines.specs.RawPieces.{raw_lines}
use Rattle.cli_file_stores.specs.Memory.{files_of}
use Rattle.cli.specs.Case.{case_files, first_case_line, is_case}
use Rattle.cli.proofs.CaseLemmas.{case_over}
use Rattle.cli.proofs.case.case_answer.Goals as goal

pub returns-in_ok-words_over_files-in-Some : goal.returns-in_ok-words_over_files-in-Some
returns-in_ok-words_over_files-in-Some c =
    let case : is_case c.args.text.now ≡ true = search rules in
    let line : c.in-Some.line.now ≡ first_case_line (raw_lines c.args.text.now) = search rules in
    let files : files_of c.in-Some.files.items ≡ case_files c.args.text.now = search rules in
    case_over c.args.text.now c.in-Some.line.now (files_of c.in-Some.files.items) _ case line files c.in_ok-words_over_files-in-Some.ensures
