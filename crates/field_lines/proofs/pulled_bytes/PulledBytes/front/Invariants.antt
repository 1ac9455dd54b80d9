use Rattle.std.proofs.Common.{◌≡◌, ◌+◌, ◌-◌, ◌≤◌, false, length, take, if◌then◌else◌}
use Rattle.field_lines.specs.HeldBytes.{Pulls}
use Rattle.field_lines.specs.Front.{HasNoLf}
use Rattle.field_lines.proofs.pulled_bytes.PulledBytes.front.Given as goal

-- no LF stands among the bytes that were searched
abbrev pub invariant-loop-length : goal.invariant-loop-length
invariant-loop-length g l = record {
  pulls : Pulls (g.S.Source.given l.fn.source) (g.S.Source.given l.source) l.fn.self l.self;
  within : l.searched ≤ length l.self.bytes;
  none : HasNoLf (take l.searched l.self.bytes);
  sound : g.S.Source.is_failed l.fn.source ≡ false → g.S.Source.is_failed l.source ≡ false;
}

-- a pull gives bytes, or the source has ended
abbrev pub decreases-loop-length : goal.decreases-loop-length
decreases-loop-length g l = 131072 - length l.self.bytes + (if (g.S.Source.given l.source).ended then 0 else 1)
