use Rattle.std.proofs.Common.{◌≡◌, ◌≤◌, ◌+◌, ◌++◌, ℕ, List, take, slice_range, refl, ap, ◌∙◌, arith}
use Rattle.field_lines.proofs.FrontLemmas.{with_end, taken_at, takes_first}
use Rattle.field_lines.proofs.pulled_bytes.PulledBytes.take_piece.Goals as goal
use Rattle.field_lines.proofs.pulled_bytes.PulledBytes.take_piece.Goals.{then-front, else-front}

pub returns-clause-first : goal.returns-clause-first
returns-clause-first c = λ ended front.
    let held = c.args.self.now in
    let count = c.args.front.length in
    let after = c.take-from.new.self in
    let taken : c.if-front.take ≡ with_end count c.args.front.ended =
    elim c.if-front.branch [ then-front w ↦ rw w.if-front.true w.take-is | else-front w ↦ rw w.if-front.false w.take-is ] in
    let more : count ≤ c.if-front.take = elim c.if-front.branch [ then-front w ↦ omega (arith, w.take-is) | else-front w ↦ omega (arith, w.take-is) ] in
    let bytes : slice_range after.taken c.take-from.result (c.take-from.result + count) ≡ take count held.bytes =
    ap (λ (l : List ℕ). slice_range l c.take-from.result (c.take-from.result + count)) c.take-from.ensures.taken
    ∙ ap (λ (k : ℕ). slice_range (held.taken ++ take c.if-front.take held.bytes) k (k + count)) c.take-from.ensures.place
    ∙ taken_at held.taken held.bytes count c.if-front.take more in
    takes_first held.bytes ended c.args.front.ended count c.if-front.take after (record { from = c.take-from.result; to = c.take-from.result + count; ended = c.args.front.ended })
    front c.requires.short taken bytes refl c.take-from.ensures.bytes
