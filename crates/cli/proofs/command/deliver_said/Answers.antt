use Rattle.std.proofs.Common.{ℕ, List, ◌++◌, subst, sym}
use Rattle.std.specs.Prelude.{Result}
use Rattle.std.specs.declared.alloc.AllocError.{AllocError}
use Rattle.cli_answers.specs.declared.answer.RunAnswer.{RunAnswer}
use Rattle.run_laws.specs.Spoken.{behind}
use Rattle.cli.specs.Delivery.{Delivers}
use Rattle.cli.specs.Ends.{said_of}
use Rattle.cli.proofs.command.deliver_said.Goals as goal

pub returns-in-Ok : goal.returns-in-Ok
returns-in-Ok g c = λ begun fresh front is h.
    let failed = g.W.Sink.is_failed c.deliver_rest.new.out in
    let before = g.W.Sink.contents begun in
    let after = g.W.Sink.contents c.deliver_rest.new.out in
    subst (λ (said : Result RunAnswer AllocError). Delivers failed before after (behind front (said_of said)) c.deliver_rest.result) (sym c.in-Ok.is)
    (subst (λ (text : List ℕ). Delivers failed before after (record { text = front ++ text; status = c.in-Ok.answer.status }) c.deliver_rest.result) c.deref.ensures.value (c.deliver_rest.ensures begun fresh front is h))
