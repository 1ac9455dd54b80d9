use Rattle.std.proofs.Common.{◌≡◌, ℕ, ◌++◌, ◌+◌, ◌≤◌, List, length, take, drop, slice_range, sym, ap, ◌∙◌, arith}
use Rattle.std.proofs.Math.Seq.{take-append_seam}
use Rattle.std.proofs.lemmas.Bool.{false≢true}
use Rattle.field_lines.specs.HeldBytes.{Pulled}
use Rattle.field_lines.proofs.PulledLemmas.{held_more}
use Rattle.field_lines.proofs.pulled_bytes.PulledBytes.pull.Goals as goal

pub returns-clause-pulls : goal.returns-clause-pulls
returns-clause-pulls g c =
    let p = c.self.inside in
    let ys : List ℕ = c.pull_behind.new.buffer in
    let n = c.in_ok-count.count in
    let long : p.buffer.len ≡ length ys = omega (arith, c.deref_mut.ensures.len, c.pull_behind.auto.buffer) in
    let whole : take p.buffer.len (ys ++ drop (length ys) p.buffer.items) ≡ ys = ap (λ k. take k (ys ++ drop (length ys) p.buffer.items)) long ∙ take-append_seam ys (drop (length ys) p.buffer.items) in
    let same : take p.end ys ≡ take p.end p.buffer.items = c.pull_behind.ensures.same ∙ ap (take p.end) c.deref_mut.ensures.value in
    let ordered : p.start ≤ p.end = c.self.invariant.0 in
    let held : slice_range p.buffer.items p.start p.end ≡ c.args.self.now.bytes = ap (λ (q : Pulled). q.bytes) c.self.view_is ∙ c.move_to_front.ensures.bytes in
    record {
      pulled = slice_range ys p.end (p.end + n);
      given = c.in_ok-count.ensures.given;
      held = ap (λ (l : List ℕ). slice_range l p.start (p.end + n)) whole
          ∙ held_more p.buffer.items ys p.start p.end n ordered same
          ∙ ap (λ (l : List ℕ). l ++ slice_range ys p.end (p.end + n)) held;
      end = λ is. absurd (false≢true (sym c.requires.open ∙ is));
    }
