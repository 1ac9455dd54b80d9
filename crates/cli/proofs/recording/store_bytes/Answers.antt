use Rattle.cli.specs.Ends.{refusal_by}
use Rattle.cli.proofs.recording.store_bytes.Goals as goal

pub returns : goal.returns
returns g c =
    let handed_over = c.store_named-handed_over in
    (handed_over.ensures.0, refusal_by handed_over.result, handed_over.ensures.1, handed_over.ensures.2, c.answer_after.ensures)
