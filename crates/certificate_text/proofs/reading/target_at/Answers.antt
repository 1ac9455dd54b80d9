use Rattle.std.proofs.Common.{ℕ, [], ◌∷◌, Option, Some, None, map, refl, ap, sym, subst}
use Rattle.certificate_lines.specs.Items.{by_words, groups_wanted}
use Rattle.certificate_lines.specs.Lines as line
use Rattle.certificate_lines.specs.Rest.{TakesTextLine}
use Rattle.certificate_lines.specs.declared.item.Item.TheVariants as item
use Rattle.certificate_lines.specs.declared.item.Wanted.TheVariants as want
use Rattle.certificate_lines.proofs.ReadLaws.{reads_then, reads_line}
use Rattle.certificate_text.proofs.LoopLaws.{reads_as}
use Rattle.certificate_text.proofs.reading.target_at.Goals as goal

pub returns-in_ok-groups-in-Some : goal.returns-in_ok-groups-in-Some
returns-in_ok-groups-in-Some c =
    let here = c.in_ok-groups-in-Some.ensures in
    let groups = map item.Grouped c.in_ok-groups-in-Some.groups.items in
    let taken = subst (λ (t : Option ℕ). TakesTextLine (by_words line.target_on) t c.args.cursor.now c.target.new.self) c.in-Some.is c.in_ok-count.ensures in
    reads_as (want.Target ∷ []) [] c.args.cursor.now c.groups_at.new.cursor _ _ (ap (λ (n : ℕ). item.Target (Some n) ∷ groups) (sym here.number))
    (reads_then (want.Target ∷ []) (groups_wanted c.in-Some.count) [] c.args.cursor.now c.target.new.self c.groups_at.new.cursor (item.Target (Some c.in-Some.count) ∷ []) groups
    (reads_line want.Target (by_words line.target_on) item.Target (λ piece. refl) (Some c.in-Some.count) c.args.cursor.now c.target.new.self taken) here.read)

pub returns-in-None : goal.returns-in-None
returns-in-None c =
    let taken = subst (λ (t : Option ℕ). TakesTextLine (by_words line.target_on) t c.args.cursor.now c.target.new.self) c.in-None.is c.in_ok-count.ensures in
    reads_line want.Target (by_words line.target_on) item.Target (λ piece. refl) None c.args.cursor.now c.target.new.self taken
