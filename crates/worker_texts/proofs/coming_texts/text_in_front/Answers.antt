use Rattle.std.proofs.Common.{◌≡◌, take, length, sym, ◌∙◌, arith, length-take}
use Rattle.certificate_lines.specs.declared.fault.TextKind.TheVariants.{CutShort, Memory}
use Rattle.worker_texts.proofs.ComingLaws.{in_lines, none_empty, held_fault, no_read_fault}
use Rattle.worker_texts.proofs.coming_texts.text_in_front.Goals as goal

memory_not_cut : Memory ≡ CutShort → ⊥
memory_not_cut e = cc

pub returns-then-count-eq0-clause-waits : goal.returns-then-count-eq0-clause-waits
returns-then-count-eq0-clause-waits g c = λ none has.
    let form = g.F.TextForm.form c.args.form.now in
    let laws = c.requires.by_lines in
    let count = c.readable-count.result in
    let few : length (take count c.args.held.now) ≡ 0 = omega (arith, length-take count c.args.held.now, c.if-count-eq0.true) in
    none_empty form laws (take count c.args.held.now) few (in_lines form laws c.args.held.now count c.readable-count.ensures.last has)

pub returns-then-may_pass-clause-waits : goal.returns-then-may_pass-clause-waits
returns-then-may_pass-clause-waits g c = λ none has.
    let form = g.F.TextForm.form c.args.form.now in
    let laws = c.requires.by_lines in
    let memory = c.in-Err.ensures.only (in_lines form laws c.args.held.now c.readable-count.result c.readable-count.ensures.last has) in
    memory_not_cut (sym memory ∙ c.may_pass.ensures.passes c.if-may_pass.true)

pub returns-else-may_pass-clause-only : goal.returns-else-may_pass-clause-only
returns-else-may_pass-clause-only g c has =
    c.in-Err.ensures.only (in_lines (g.F.TextForm.form c.args.form.now) c.requires.by_lines c.args.held.now c.readable-count.result c.readable-count.ensures.last has)

pub returns-else-may_pass-clause-fault : goal.returns-else-may_pass-clause-fault
returns-else-may_pass-clause-fault g c mem =
    held_fault (g.F.TextForm.form c.args.form.now) c.requires.by_lines c.args.held.now c.in-Err.fault c.args.ended c.readable-count.result
    c.readable-count.ensures.place c.readable-count.ensures.all c.readable-count.ensures.lf (omega (arith, c.if-count-eq0.false)) (c.may_pass.ensures.stays c.if-may_pass.false)
    (c.in-Err.ensures.fault mem)

pub returns-else-may_pass-clause-unfailed : goal.returns-else-may_pass-clause-unfailed
returns-else-may_pass-clause-unfailed g c =
    no_read_fault (g.F.TextForm.form c.args.form.now) c.requires.by_lines (take c.readable-count.result c.args.held.now) c.in-Err.fault c.in-Err.ensures.fault
