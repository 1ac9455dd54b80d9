use Rattle.std.proofs.Common.{◌∙◌, ◌<◌, ◌^◌, ◌∷◌, ◌++◌, [], List, ℕ, codes, decimal, ap, sym, arith, append_assoc}
use Rattle.std.specs.List.{flat_map}
use Rattle.certificate_lines.specs.Spelling.{weight_word}
use Rattle.certificate_lines.proofs.WordsWritten.{weights_line}
use Rattle.certificate_data.specs.declared.allowance.Allowance.TheVariants as allowance
use Rattle.certificate_lines.specs.declared.item.Item.TheVariants as item
use Rattle.certificate_text.proofs.AddedLaws.{added_line, weights_range}
use Rattle.certificate_text.proofs.lines.push_weigh_line.Goals as goal

pub returns : goal.returns
returns c =
    let quota = c.args.quota in
    let ws = c.args.weights.now in
    let line = codes "weigh " ++ (decimal quota ++ flat_map (λ w. 32 ∷ weight_word w) ws) in
    let words = c.in_ok-push_number_and_weights.ensures in
    let small : quota < 2 ^ 64 = omega (arith, c.ranges.quota.fits) in
    added_line (item.Allows (allowance.Weigh quota ws)) c.args.out.now.items c.extend_from_slice.new.self.items (line ++ 10 ∷ [])
    (ap (λ (l : List ℕ). l ++ 10 ∷ []) (sym (weights_line quota ws)))
    (c.in_ok-extend_from_slice.ensures.items ∙ ap (λ (l : List ℕ). l ++ 10 ∷ []) words.text ∙ append_assoc c.args.out.now.items line (10 ∷ []))
    (small, weights_range ws words.small words.numbers)
