use Rattle.std.proofs.Common.{◌≡◌, ◌∙◌, ◌-◌, ◌++◌, ◌∷◌, [], ℕ, List, length, take, ap, sym, subst, refl, arith, append-nil, length-append}
use Rattle.std.proofs.Math.Seq.{take-append_seam}
use Rattle.std.proofs.lemmas.Result.{err_from_is_err_and}
use Rattle.certificate_data.specs.declared.format.Format.{Format}
use Rattle.certificate_lines.specs.Rest.{Rest}
use Rattle.certificate_lines.specs.Reading.{ReadsItems, items_at}
use Rattle.certificate_lines.specs.Spelling.{text_of_items}
use Rattle.certificate_lines.specs.Fitting.{AllFit}
use Rattle.certificate_lines.specs.declared.item.Item.{Item}
use Rattle.certificate_lines.specs.declared.item.Wanted.TheVariants as want
use Rattle.certificate_text.proofs.FrontLaws.{memory_refused}
use Rattle.board_laws.specs.PartialTrees.{PartialTree as PartValue}
use Rattle.partial_trees.specs.PartialValue.{partial_of}
use Rattle.partial_trees.specs.OpenBranches.{BranchesAreOpen}
use Rattle.partial_text.specs.PartItems.{items_of_part}
use Rattle.partial_text.specs.Spelling.{IsPartSpelling}
use Rattle.partial_text.proofs.OnePart.{one_front, one_part}
use Rattle.partial_text.proofs.reading.front_part.Goals as goal

-- the items that were read spell the front before what is left
front_spelled : (format : Format) (counties : ℕ) (t : PartValue) (old new : Rest) → BranchesAreOpen t → ReadsItems (want.Part format counties ∷ []) old (items_of_part t) [] new → IsPartSpelling format counties (text_of_items (items_of_part t)) t
front_spelled format counties t old new opened read = record {
  opened = opened;
  fits = subst (λ (l : List Item). AllFit (want.Part format counties ∷ []) l) (append-nil (items_of_part t)) (read.fits [] [] tt);
  text_is = refl;
}

-- the place of what is left, and what is in front of it
place_is : (text front rest : List ℕ) → text ≡ front ++ rest → length text - length rest ≡ length front
place_is text front rest whole = omega (arith, ap length whole, length-append front rest)

front_taken : (text front rest : List ℕ) → text ≡ front ++ rest → take (length text - length rest) text ≡ front
front_taken text front rest whole = ap (λ (n : ℕ). take n text) (place_is text front rest whole) ∙ ap (λ (l : List ℕ). take (length front) l) whole ∙ take-append_seam front rest

pub returns-clause-found : goal.returns-clause-found
returns-clause-found c =
    let part = partial_of c.in_ok-part.part in
    let whole : c.args.text.now ≡ text_of_items (items_of_part part) ++ c.rest.result.now =
    ap (λ (r : Rest). r.text) (sym c.new-cursor.ensures) ∙ c.in_ok-part.ensures.read.text ∙ ap (λ (l : List ℕ). text_of_items (items_of_part part) ++ l) (sym c.rest.ensures) in
    subst (λ (l : List ℕ). IsPartSpelling c.args.format c.args.counties l part) (sym (front_taken c.args.text.now (text_of_items (items_of_part part)) c.rest.result.now whole))
    (front_spelled c.args.format c.args.counties part _ _ c.in_ok-part.ensures.opened c.in_ok-part.ensures.read)

pub returns-clause-only : goal.returns-clause-only
returns-clause-only c front rest t begins is =
    let part = partial_of c.in_ok-part.part in
    let own = text_of_items (items_of_part part) in
    let whole : c.args.text.now ≡ own ++ c.rest.result.now =
    ap (λ (r : Rest). r.text) (sym c.new-cursor.ensures) ∙ c.in_ok-part.ensures.read.text ∙ ap (λ (l : List ℕ). own ++ l) (sym c.rest.ensures) in
    let spelled = front_spelled c.args.format c.args.counties part _ _ c.in_ok-part.ensures.opened c.in_ok-part.ensures.read in
    let same : own ≡ front = one_front c.args.format c.args.counties own c.rest.result.now front rest part t (sym whole ∙ begins) spelled is in
    let part_is : part ≡ t = one_part c.args.format c.args.counties front part t (subst (λ (l : List ℕ). IsPartSpelling c.args.format c.args.counties l part) same spelled) is in
    let place : length c.args.text.now - length c.rest.result.now ≡ length front = place_is c.args.text.now own c.rest.result.now whole ∙ ap length same in
    cc (part_is, place)

pub returns-in_err-part-clause-only : goal.returns-in_err-part-clause-only
returns-in_err-part-clause-only c front rest t begins is =
    let p = err_from_is_err_and c.from_residual.result c.from_residual.ensures.1 in
    let here = c.in_err-part.ensures in
    rw (p.1, p.2) (memory_refused (want.Part c.args.format c.args.counties ∷ []) c.args.text.now front rest (items_of_part t) _ is.fits is.text_is begins
    (λ mem more. ap (items_at (want.Part c.args.format c.args.counties ∷ more)) (sym c.new-cursor.ensures) ∙ here.read mem more))
