use Rattle.std.proofs.Common.{◌+◌, ◌≡◌, ◌-◌, ◌≤◌, take, length, replicate, subst, sym, ap, ◌∙◌, arith, vec_len}
use Rattle.worker_texts.specs.TextForms.{PullsOnto}
use Rattle.worker_texts.proofs.WholeLines.{kept_front, pulled_onto}
use Rattle.worker_texts.proofs.coming_texts.pull_onto.Goals as goal

pub returns-in-Ok-clause-pulls : goal.returns-in-Ok-clause-pulls
returns-in-Ok-clause-pulls g c =
    let start = c.len-start.result in
    let room = start + c.args.pull in
    let buffer = c.pull_behind.new.buffer in
    let many : start ≡ length c.args.held.now.items = omega (arith, c.len-start.ensures) in
    let same : take start buffer ≡ take start c.resize.new.self.items = c.in-Ok.ensures.same ∙ ap (take start) c.deref_mut.ensures.value in
    let below : start + c.in-Ok.count ≤ vec_len c.resize.new.self = omega (arith, c.in-Ok.ensures.bound, c.pull_behind.auto.buffer, c.deref_mut.ensures.len, ap length c.deref_mut.ensures.value) in
    let cut : c.truncate.new.self.items ≡ take (start + c.in-Ok.count) buffer = c.truncate.ensures.items ∙ kept_front (start + c.in-Ok.count) (vec_len c.resize.new.self) buffer _ below c.in-Ok.ensures.bound in
    subst (PullsOnto (g.S.Source.given c.args.source.now) (g.S.Source.given c.pull_behind.new.source) c.args.held.now.items) (sym cut)
    (pulled_onto _ _ c.args.held.now.items (replicate (room - vec_len c.args.held.now) 0) c.resize.new.self.items buffer start room c.in-Ok.count many (omega arith)
    c.in_ok-resize.ensures.items same c.in-Ok.ensures.bound c.in-Ok.ensures.given)
