use Rattle.std.proofs.Common.{◌≤◌, ◌∷◌, ◌++◌, [], All, ℕ, codes, sym}
use Rattle.std.specs.List.{flat_map}
use Rattle.county_codes.specs.Digits.{five_digits}
use Rattle.certificate_lines.proofs.WordsWritten.{codes_line, are_codes}
use Rattle.certificate_lines.specs.declared.item.Item.TheVariants as item
use Rattle.certificate_text.proofs.AddedLaws.{adds_line}
use Rattle.certificate_text.proofs.lines.push_take_line.Goals as goal

pub returns : goal.returns
returns c =
    let cs = c.args.codes.now in
    adds_line (All (λ (x : ℕ). x ≤ 99999) cs) (item.Takes cs) c.args.out.now.items c.push_codes_line.new.out.items (codes "take" ++ (flat_map (λ x. 32 ∷ five_digits x) cs ++ 10 ∷ [])) c.push_codes_line.result
    (sym (codes_line (codes "take") cs)) (are_codes cs) c.push_codes_line.ensures.text c.push_codes_line.ensures.small
