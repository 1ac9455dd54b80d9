-- A text spells a certificate, whose items are the text's, or has a fault.
use Rattle.std.proofs.Common.{◌≡◌, ℕ, List, [], ◌∷◌, length, Option, Some, None, Ok, refl, ap, sym, subst, ◌∙◌, inl, inr, ◌⊎◌}
use Rattle.field_lines.specs.RawPieces.{raw_lines}
use Rattle.certificate_lines.specs.Items.{items_from}
use Rattle.certificate_lines.specs.ItemReadings.{certificate_reading, whole}
use Rattle.certificate_lines.specs.Fitting.{AllFit}
use Rattle.certificate_lines.specs.Spelling.{text_of_items}
use Rattle.certificate_lines.specs.declared.fault.TextFault.{TextFault}
use Rattle.certificate_lines.specs.declared.item.Item.{Item}
use Rattle.certificate_lines.specs.declared.item.Wanted.TheVariants as want
use Rattle.certificate_lines.proofs.FitsLaws.{items_fit}
use Rattle.certificate_lines.proofs.TextLaws.{text_ok}
use Rattle.certificate_data.specs.TreeValue.{Certificate}
use Rattle.certificate_text.specs.Trees.{items_of_certificate}
use Rattle.certificate_text.specs.Spelling.{IsSpelling}
use Rattle.certificate_text.proofs.TextBack.{items_back}
use Rattle.certificate_text.proofs.ItemReadingLaws.{readings_are_items}
use Rattle.checker_laws.specs.Lines.{certificate_lines}
use Rattle.checker_laws.specs.TextVerdict.{HasTextFault}
use Rattle.checker_laws.specs.TextCost.{line_feeds}
use Rattle.checker_laws.specs.TextLaws.{TextsSpell}
use Rattle.checker_laws.proofs.CertificatesFound.{certificate_found}
use Rattle.checker_laws.proofs.TextKinds.{faults_of_lines}
use Rattle.checker_laws.proofs.LineFeeds.{fault_line, lines, text_feeds}
use Rattle.checker_laws.proofs.Lengths.{certificate_length}

pub spelled : (text : List ℕ) → (certificate_reading text).fault ≡ None → (c : Certificate) × IsSpelling text c × ((certificate_reading text).items ≡ items_of_certificate c)
spelled text none =
    let items = (certificate_reading text).items in
    let read : items_from (want.Head ∷ []) 1 (raw_lines text) ≡ Ok items = sym (readings_are_items (want.Head ∷ []) 1 (raw_lines text)) ∙ ap (λ (f : Option TextFault). whole items f) none in
    let fit = items_fit (want.Head ∷ []) 1 (raw_lines text) items read in
    let found = certificate_found items fit in (
      found.0,
      record { fits = subst (λ (l : List Item). AllFit (want.Head ∷ []) l) found.1 fit; text_is = text_ok (want.Head ∷ []) 1 text items read ∙ ap text_of_items found.1 },
      found.1,
    )

whole_ok : (items others : List Item) (fault : Option TextFault) → whole items fault ≡ Ok others → (items ≡ others) × (fault ≡ None)
whole_ok items others None e = (cc, refl)
whole_ok items others (Some fault) e =
    let never : ⊥ = cc in
    absurd never

pub spelling : (text : List ℕ) (c : Certificate) → IsSpelling text c → ((certificate_reading text).items ≡ items_of_certificate c) × ((certificate_reading text).fault ≡ None)
spelling text c s =
    let read : items_from (want.Head ∷ []) 1 (raw_lines text) ≡ Ok (items_of_certificate c) =
    ap (λ (t : List ℕ). items_from (want.Head ∷ []) 1 (raw_lines t)) s.text_is ∙ items_back (want.Head ∷ []) 1 (items_of_certificate c) s.fits in
    whole_ok (certificate_reading text).items (items_of_certificate c) (certificate_reading text).fault (readings_are_items (want.Head ∷ []) 1 (raw_lines text) ∙ read)

pub apart : (text : List ℕ) (fault : TextFault) (c : Certificate) → HasTextFault text fault → IsSpelling text c → ⊥
apart text fault c h s = never fault (sym h ∙ (spelling text c s).1)
  where
    never : (f : TextFault) → Some f ≡ None → ⊥
    never f e = cc

pub either : (text : List ℕ) → ((c : Certificate) × IsSpelling text c) ⊎ ((fault : TextFault) × HasTextFault text fault)
either text = go (certificate_reading text).fault refl
  where
    go : (f : Option TextFault) → (certificate_reading text).fault ≡ f → ((c : Certificate) × IsSpelling text c) ⊎ ((fault : TextFault) × HasTextFault text fault)
    go None e =
        let s = spelled text e in
        inl (s.0, s.1)
    go (Some fault) e = inr (fault, e)

pub all_lines : (text : List ℕ) (c : Certificate) → IsSpelling text c → (line_feeds text ≡ length (items_of_certificate c)) × (length (items_of_certificate c) ≡ certificate_lines c.round c.tree)
all_lines text c s = (ap line_feeds s.text_is ∙ text_feeds (want.Head ∷ []) (items_of_certificate c) s.fits, certificate_length c)

pub texts_spell : TextsSpell
texts_spell = record { spelled = spelled; spelling = spelling; either = either; apart = apart; faults = faults_of_lines; fault_line = fault_line; lines = lines; all_lines = all_lines }
