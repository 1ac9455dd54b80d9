use Rattle.std.proofs.Common.{◌∙◌, ◌<◌, ◌*◌, ◌%◌, ℕ, refl, sym, arith}
use Rattle.cli_words.proofs.ToleranceLemmas.{least_behind, no_whole_number, tolerance_at, tolerance_nowhere, tolerance_of_many, whole_number}
use Rattle.cli_words.proofs.tolerance_text.tolerance_of.Goals as goal
use Rattle.cli_words.proofs.tolerance_text.tolerance_of.Goals.{then-whole-eq0-via-then-whole-eq0, then-whole-eq0-via-else-whole-eq0+then-part-whole}

pub returns-then-whole-eq0 : goal.returns-then-whole-eq0
returns-then-whole-eq0 c = elim c.then-whole-eq0.branch [
  | then-whole-eq0-via-then-whole-eq0 w ↦ rw w.if-whole-eq0.true refl
  | then-whole-eq0-via-else-whole-eq0+then-part-whole w ↦ sym (tolerance_of_many (c.args.part, c.args.whole) (omega (arith, w.if-whole-eq0.false)) (omega (arith, w.if-part-whole.true)))
]

pub returns-then-product-whole-eq0 : goal.returns-then-product-whole-eq0
returns-then-product-whole-eq0 c =
    let f : ℕ × ℕ = (c.args.part, c.args.whole) in
    c.at_most_500.ensures
    ∙ sym (tolerance_at f (omega (arith, c.if-whole-eq0.false)) c.loop-least.least (omega (arith, c.loop-least-test.true)) (whole_number f c.loop-least.least c.if-product-whole-eq0.true) c.loop-least.invariant.rest)

pub loop-least-preserved : goal.loop-least-preserved
loop-least-preserved c =
    let f : ℕ × ℕ = (c.args.part, c.args.whole) in
    let some : 0 < (c.args.part * c.loop-least.least) % c.args.whole = omega (arith, c.if-product-whole-eq0.false) in
    record {
      some = omega arith;
      rest = sym (least_behind f c.loop-least.least (omega (arith, c.loop-least-test.true)) (no_whole_number f c.loop-least.least some)) ∙ c.loop-least.invariant.rest;
    }

pub returns : goal.returns
returns c =
    let f : ℕ × ℕ = (c.args.part, c.args.whole) in
    sym (tolerance_nowhere f (omega (arith, c.if-whole-eq0.false)) c.loop-least.least (omega (arith, c.loop-least-test.false)) c.loop-least.invariant.rest)
