-- What is given is spelled, and what is spelled is given.
use Rattle.std.proofs.Common.{◌≡◌, ℕ, List, Result, Ok, Err, refl, ap, sym, ◌∙◌}
use Rattle.std.specs.Result.{IfOk, IfErr}
use Rattle.field_lines.specs.RawPieces.{raw_lines}
use Rattle.certificate_lines.specs.Items.{items_from}
use Rattle.certificate_lines.specs.Rest.{IsTextMemory}
use Rattle.certificate_lines.specs.Reading.{GivesItems, IsUnlessMemory}
use Rattle.certificate_lines.specs.declared.fault.TextKind.{TextKind}
use Rattle.certificate_lines.specs.declared.fault.TextKind.TheVariants.{BadHead, BadWord, BadNumber, NotCanonical, CutShort, AfterEnd, TooDeep, ReadFault, Memory}
use Rattle.certificate_lines.specs.Spelling.{text_of_items}
use Rattle.certificate_lines.specs.Fitting.{AllFit}
use Rattle.certificate_lines.proofs.TextLaws.{text_ok}
use Rattle.certificate_text.proofs.TextBack.{items_back}
use Rattle.certificate_lines.proofs.FitsLaws.{items_fit}
use Rattle.certificate_lines.specs.declared.fault.TextFault.{TextFault}
use Rattle.certificate_lines.specs.declared.item.Item.{Item}
use Rattle.certificate_lines.specs.declared.item.Wanted.{Wanted}

module _ {X : Type 0} (items : X → List Item) (wanted : List Wanted) (text : List ℕ) where
  pub gives_found : (P : X → Type 0) → ((x : X) → AllFit wanted (items x) → text ≡ text_of_items (items x) → P x) → (r : Result X TextFault) → GivesItems items r (items_from wanted 1 (raw_lines text)) → IfOk r P
  gives_found P make (Ok x) h = make x (items_fit wanted 1 (raw_lines text) (items x) h) (text_ok wanted 1 text (items x) h)
  gives_found P make (Err fault) h = tt

  pub gives_fault : (r : Result X TextFault) → GivesItems items r (items_from wanted 1 (raw_lines text)) → IfErr r (λ f. (IsTextMemory f → ⊥) → items_from wanted 1 (raw_lines text) ≡ Err f)
  gives_fault (Ok x) h = tt
  gives_fault (Err fault) h = h

-- a fault that can't be other than that memory was refused
pub memory_only : (kind : TextKind) → ((kind ≡ Memory → ⊥) → ⊥) → kind ≡ Memory
memory_only Memory h = refl
memory_only BadHead h = absurd (h (λ e. cc))
memory_only BadWord h = absurd (h (λ e. cc))
memory_only BadNumber h = absurd (h (λ e. cc))
memory_only NotCanonical h = absurd (h (λ e. cc))
memory_only CutShort h = absurd (h (λ e. cc))
memory_only AfterEnd h = absurd (h (λ e. cc))
memory_only TooDeep h = absurd (h (λ e. cc))
memory_only ReadFault h = absurd (h (λ e. cc))

ok_not_fault : (items : List Item) (fault : TextFault) → ◌≡◌ {A = Result (List Item) TextFault} (Ok items) (Err fault) → ⊥
ok_not_fault items fault e = cc

same_ok : (is js : List Item) → ◌≡◌ {A = Result (List Item) TextFault} (Ok is) (Ok js) → is ≡ js
same_ok is js e = cc

-- what is spelled is given
module _ {X V : Type 0} (view : X → V) (items : V → List Item) (told : (a b : V) → items a ≡ items b → a ≡ b) (wanted : List Wanted) (text : List ℕ) (v : V) where
  pub gives_only : (r : Result X TextFault) → AllFit wanted (items v) → text ≡ text_of_items (items v) → GivesItems (λ x. items (view x)) r (items_from wanted 1 (raw_lines text)) → IsUnlessMemory view r v
  gives_only (Ok x) fit same h =
      let read : items_from wanted 1 (raw_lines text) ≡ Ok (items v) = ap (λ (t : List ℕ). items_from wanted 1 (raw_lines t)) same ∙ items_back wanted 1 (items v) fit in
      told (view x) v (same_ok (items (view x)) (items v) (sym h ∙ read))
  gives_only (Err fault) fit same h =
      let read : items_from wanted 1 (raw_lines text) ≡ Ok (items v) = ap (λ (t : List ℕ). items_from wanted 1 (raw_lines t)) same ∙ items_back wanted 1 (items v) fit in
      memory_only fault.kind (λ other. ok_not_fault (items v) fault (sym read ∙ h other))
