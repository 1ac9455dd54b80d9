use Rattle.std.proofs.lemmas.List.{at_drop_all}
use Rattle.baf_auditor.specs.Districts.{crossings_with}
use Rattle.baf_auditor.proofs.LoopLemmas.{step_done}
use Rattle.baf_auditor.proofs.crossings.add_crossings_with.Goals as goal

pub returns : goal.returns
returns c = step_done c.loop-key.findings.items (at_drop_all (crossings_with c.args.groups c.args.first.now) c.args.rest.now c.loop-key.key-index c.loop-key-test.false) c.loop-key.invariant
