use Rattle.std.proofs.Common.{List, map, subst}
use Rattle.cli_file_stores.specs.Sums.{SumOfEvent}
use Rattle.cli_record.specs.RunRecord.{IsRecord}
use Rattle.cli_record.proofs.run_record.record_since.Goals as goal

pub returns-in-Ok : goal.returns-in-Ok
returns-in-Ok g c = λ before is.
    subst (λ (sums : List SumOfEvent). IsRecord (map (λ w. w.now) c.args.words.now) c.args.command.now sums c.args.status c.args.text.now c.in-Ok.bytes.items) (c.in-Some.ensures before is) c.in-Ok.ensures
