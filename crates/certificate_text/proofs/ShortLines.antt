-- Lines of weights are short.
use Rattle.std.proofs.Common.{◌≡◌, ℕ, ◌*◌, ◌≤◌, true, List, [], ◌∷◌, ◌++◌, length, codes, ap, arith, lit<, length-append}
use Rattle.std.specs.Fmt.{decimal}
use Rattle.std.specs.List.{AllByRecursion, flat_map, join_with_byte}
use Rattle.std.proofs.lemmas.Fmt.{length-decimal-le}
use Rattle.field_lines.specs.Fault.{most_bytes}
use Rattle.certificate_lines.specs.Lines.{most, ascend}
use Rattle.county_codes.specs.Digits.{five_digits}
use Rattle.certificate_lines.specs.Spelling.{weight_word, item_words}
use Rattle.certificate_lines.specs.Fitting.{FitsWeight, AreWeights}
use Rattle.certificate_data.specs.declared.weights.Weight.{Weight}
use Rattle.certificate_data.specs.declared.allowance.Allowance.TheVariants.{Weigh}
use Rattle.certificate_lines.specs.declared.item.Item.TheVariants.{Allows}
use Rattle.certificate_lines.proofs.WordsWritten.{weights_line}

-- five digits, a colon and at most seven digits
word_short : (w : Weight) → FitsWeight w → length (weight_word w) ≤ 13
word_short w f =
    let number = length-decimal-le 7 w.weight (lit< tt) (omega (arith, f.to)) (omega (arith, f.to)) in
    omega (arith, length-append (five_digits w.county) (58 ∷ decimal w.weight), number)

-- each after a blank
words_short : (ws : List Weight) → AllByRecursion FitsWeight ws → length (flat_map (λ w. 32 ∷ weight_word w) ws) ≤ 14 * length ws
words_short [] h = omega arith
words_short (w ∷ ws) h = omega (arith, length-append (32 ∷ weight_word w) (flat_map (λ w. 32 ∷ weight_word w) ws), word_short w h.0, words_short ws h.1)

line_short : (quota : ℕ) (ws : List Weight) → quota ≤ 256000000 → length ws ≤ most → AllByRecursion FitsWeight ws → length (join_with_byte 32 (item_words (Allows (Weigh quota ws)))) ≤ most_bytes
line_short quota ws to few h =
    let number = length-decimal-le 9 quota (lit< tt) (omega (arith, to)) (omega (arith, to)) in
    omega (arith, ap length (weights_line quota ws), length-append (codes "weigh ") (decimal quota ++ flat_map (λ w. 32 ∷ weight_word w) ws), length-append (decimal quota) (flat_map (λ w. 32 ∷ weight_word w) ws), number, words_short ws h, few)

pub weights_fit : (quota : ℕ) (weights : List Weight) → 1 ≤ quota → quota ≤ 256000000 → length weights ≤ most → AllByRecursion FitsWeight weights → ascend weights ≡ true → AreWeights quota weights
weights_fit quota weights from to few each ascending = record { from = from; to = to; each = each; ascending = ascending; short = line_short quota weights to few each }
