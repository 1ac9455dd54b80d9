use Rattle.field_lines.proofs.PulledLemmas.{taken_more, held_less}
use Rattle.field_lines.proofs.pulled_bytes.PulledBytes.take.Goals as goal

pub returns-clause-taken : goal.returns-clause-taken
returns-clause-taken c =
    let p = c.self.inside in
    rw (← c.self.view_is) (taken_more p.buffer.items p.start p.end c.args.count (rw (← c.self.view_is) at c.requires))

pub returns-clause-bytes : goal.returns-clause-bytes
returns-clause-bytes c =
    let p = c.self.inside in
    rw (← c.self.view_is) (held_less p.buffer.items p.start p.end c.args.count (rw (← c.self.view_is) at c.requires))
