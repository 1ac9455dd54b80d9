use Rattle.std.proofs.Common.{◌++◌, List, ℕ, map, sym, ap, ◌∙◌, subst, ◌≤◌}
use Rattle.certificate_lines.specs.Fitting.{AllFit}
use Rattle.certificate_lines.specs.Items.{groups_wanted}
use Rattle.certificate_lines.specs.Lines.{most}
use Rattle.certificate_lines.specs.Spelling.{text_of_items}
use Rattle.certificate_lines.specs.declared.item.Item.TheVariants.{Grouped}
use Rattle.piece_states.specs.Text.{line_of}
use Rattle.piece_states.proofs.ReadSteps.{bytes_taken}
use Rattle.worker_texts.proofs.FirstLines.{first_words, round_read}
use Rattle.worker_texts.proofs.GroupsFit.{groups_fit}
use Rattle.worker_texts.proofs.reading.front_round.Goals as goal

pub returns-clause-found : goal.returns-clause-found
returns-clause-found c =
    let number = c.in_ok-number.number in
    let limit = c.in_ok-number.limit in
    let groups = c.in_ok-groups.groups.items in
    let told = text_of_items (map Grouped groups) in
    let takes = c.in_ok-number.ensures in
    let mid = c.first_line.new.cursor.text in
    let many = (groups_fit _ _ _ groups c.in_ok-groups.ensures.read).number in
    let line = λ (n : ℕ). line_of (first_words (number, limit, n)) in
    let cut = ap (λ r. r.text) (sym c.new-cursor.ensures) ∙ (takes.text ∙ ap (λ (t : List ℕ). t ++ mid) ((round_read takes.piece (number, limit, c.in_ok-number.count) takes.value).bytes ∙ ap line (sym many))) in
    bytes_taken c.args.text.now (line _) told mid c.rest.result.now cut (c.in_ok-groups.ensures.text ∙ ap (λ (t : List ℕ). told ++ t) (sym c.rest.ensures))

pub returns-clause-spelled : goal.returns-clause-spelled
returns-clause-spelled c =
    let takes = c.in_ok-number.ensures in
    let fits = (round_read takes.piece (c.in_ok-number.number, c.in_ok-number.limit, c.in_ok-number.count) takes.value).fits in
    let groups = c.in_ok-groups.groups.items in
    let are = groups_fit _ _ _ groups c.in_ok-groups.ensures.read in
    record {
      number = fits.number;
      limit = fits.limit;
      groups = subst (λ (n : ℕ). n ≤ most) (sym are.number) fits.groups;
      each = subst (λ (n : ℕ). AllFit (groups_wanted n) (map Grouped groups)) (sym are.number) are.each;
    }
