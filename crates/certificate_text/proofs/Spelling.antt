-- The lines of a tree spell it, or have a fault.
use Rattle.std.proofs.Common.{◌≡◌, ◌≢◌, ℕ, List, [], ◌∷◌, Option, Some, None, Ok, refl, ap, sym, subst, ◌∙◌, inl, inr, ◌⊎◌}
use Rattle.field_lines.specs.RawPieces.{raw_lines}
use Rattle.certificate_data.specs.Tree.{Tree}
use Rattle.certificate_data.specs.declared.format.Format.{Format}
use Rattle.certificate_lines.specs.Items.{items_from}
use Rattle.certificate_lines.specs.ItemReadings.{tree_reading, whole}
use Rattle.certificate_lines.specs.Fitting.{AllFit}
use Rattle.certificate_lines.specs.declared.fault.TextKind.TheVariants.{ReadFault, Memory}
use Rattle.certificate_lines.specs.declared.fault.TextFault.{TextFault}
use Rattle.certificate_lines.specs.declared.item.Item.{Item}
use Rattle.certificate_lines.specs.declared.item.Wanted.TheVariants as want
use Rattle.certificate_lines.proofs.FitsLaws.{items_fit}
use Rattle.certificate_lines.proofs.TextLaws.{text_ok}
use Rattle.certificate_text.specs.Trees.{items_of_tree}
use Rattle.certificate_text.specs.Spelling.{IsTreeSpelling}
use Rattle.certificate_text.proofs.TextBack.{items_back}
use Rattle.certificate_text.proofs.ItemReadingLaws.{readings_are_items}
use Rattle.certificate_text.proofs.TextKinds.{OfText, SaidFault, reading_said}
use Rattle.certificate_text.specs.Ranges.{AreTreeNumbers}
use Rattle.certificate_text.specs.TreeFault.{lines_of_tree, HasTreeFault}
use Rattle.certificate_text.specs.LineLaws.{TreesSpell}
use Rattle.certificate_text.proofs.InRange.{all_in_range}
use Rattle.certificate_text.proofs.SameTexts.{texts_same}

whole_ok : (items others : List Item) (fault : Option TextFault) → whole items fault ≡ Ok others → (items ≡ others) × (fault ≡ None)
whole_ok items others None e = (cc, refl)
whole_ok items others (Some fault) e =
    let never : ⊥ = cc in
    absurd never

never : (f : TextFault) → Some f ≡ None → ⊥
never f e = cc

module _ (format : Format) (counties : ℕ) where
  spelled : (tree : Tree) → AreTreeNumbers tree → (tree_reading format counties (lines_of_tree tree)).fault ≡ None
      → IsTreeSpelling format counties (lines_of_tree tree) tree × ((tree_reading format counties (lines_of_tree tree)).items ≡ items_of_tree tree)
  spelled tree range none =
      let wanted = want.Tree format counties ∷ [] in
      let text = lines_of_tree tree in
      let items = (tree_reading format counties text).items in
      let read : items_from wanted 1 (raw_lines text) ≡ Ok items = sym (readings_are_items wanted 1 (raw_lines text)) ∙ ap (λ (f : Option TextFault). whole items f) none in
      let fit = items_fit wanted 1 (raw_lines text) items read in
      let same : items ≡ items_of_tree tree = texts_same items (items_of_tree tree) (all_in_range wanted items (tt, tt) fit) range (sym (text_ok wanted 1 text items read)) in
      (record { fits = subst (λ (l : List Item). AllFit wanted l) same fit; text_is = refl }, same)

  spelling : (text : List ℕ) (tree : Tree) → IsTreeSpelling format counties text tree
      → ((tree_reading format counties text).items ≡ items_of_tree tree) × ((tree_reading format counties text).fault ≡ None)
  spelling text tree s =
      let wanted = want.Tree format counties ∷ [] in
      let read : items_from wanted 1 (raw_lines text) ≡ Ok (items_of_tree tree) =
      ap (λ (t : List ℕ). items_from wanted 1 (raw_lines t)) s.text_is ∙ items_back wanted 1 (items_of_tree tree) s.fits in
      whole_ok (tree_reading format counties text).items (items_of_tree tree) (tree_reading format counties text).fault (readings_are_items wanted 1 (raw_lines text) ∙ read)

  unspelled : (tree : Tree) (fault : TextFault) → HasTreeFault format counties tree fault → (text : List ℕ) → ¬ IsTreeSpelling format counties text tree
  unspelled tree fault h text s =
      let none : (tree_reading format counties (lines_of_tree tree)).fault ≡ None = subst (λ (t : List ℕ). (tree_reading format counties t).fault ≡ None) s.text_is (spelling text tree s).1 in
      never fault (sym h ∙ none)

  either : (tree : Tree) → AreTreeNumbers tree → IsTreeSpelling format counties (lines_of_tree tree) tree ⊎ ((fault : TextFault) × HasTreeFault format counties tree fault)
  either tree range = go (tree_reading format counties (lines_of_tree tree)).fault refl
    where
      go : (f : Option TextFault) → (tree_reading format counties (lines_of_tree tree)).fault ≡ f → IsTreeSpelling format counties (lines_of_tree tree) tree ⊎ ((fault : TextFault) × HasTreeFault format counties tree fault)
      go None e = inl (spelled tree range e).0
      go (Some fault) e = inr (fault, e)

  faults : (tree : Tree) (fault : TextFault) → HasTreeFault format counties tree fault → (fault.kind ≢ Memory) × (fault.kind ≢ ReadFault)
  faults tree fault h =
      let said : OfText fault.kind = subst SaidFault h (reading_said (want.Tree format counties ∷ []) 1 (raw_lines (lines_of_tree tree))) in
      ((λ e. subst OfText e said), (λ e. subst OfText e said))

pub spell : TreesSpell
spell = record { spelled = spelled; spelling = spelling; unspelled = unspelled; either = either; faults = faults }
