use Rattle.std.proofs.Common.{◌<◌, ℕ, [], refl, sym, arith}
use Rattle.std.proofs.lemmas.List.{append-nil}
use Rattle.field_lines.proofs.pulled_bytes.PulledBytes.front.Goals as goal

pub loop-length-init : goal.loop-length-init
loop-length-init g c = record {
  pulls = record { pulled = []; given = sym (append-nil _); held = sym (append-nil _); end = λ is. (refl, is) };
  within = omega arith;
  none = λ (k d : ℕ) (lt : k < 0). absurd (omega arith);
  sound = λ is. is;
}
