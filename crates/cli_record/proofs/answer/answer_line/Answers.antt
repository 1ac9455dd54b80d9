use Rattle.std.proofs.Common.{rules, tests}
use Rattle.std.proofs.lemmas.Iterator.Search.{find_from_yields_List}
use Rattle.std.proofs.lemmas.Iterator.Splits.{YieldsList-from_slice_split}
use Rattle.std.specs.List.{slice_split}
use Rattle.cli_record.specs.Answers.{is_line_feed, is_answer_line}
use Rattle.cli_record.proofs.AnswerLemmas.{long_found}
use Rattle.cli_record.proofs.answer.answer_line.Goals as goal

pub returns : goal.returns
returns c =
    let value =
    find_from_yields_List is_answer_line _ _ c.find.result c.find.ensures.ran
    (YieldsList-from_slice_split _ is_line_feed c.args.text.now c.split.ensures.rest c.split.ensures.done c.split.ensures.closure (λ x b q k. search (rules, tests)))
    (λ x b q k. search (rules, tests)) in
    record { value = value; long = long_found (λ line. line.now) c.find.result (slice_split is_line_feed c.args.text.now) value }
