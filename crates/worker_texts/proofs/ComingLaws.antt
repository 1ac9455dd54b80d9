-- Texts of a form at the front of what is held, and faults of what is held, which stay behind whole lines.
use Rattle.std.proofs.Common.{◌≡◌, ℕ, ◌+◌, ◌-◌, ◌≤◌, ◌<◌, ◌^◌, Bool, true, false, List, [], ◌∷◌, ◌++◌, length, take, drop, inl, get_or, refl, ap, sym, subst, ◌∙◌, arith, append_assoc, append-nil, length-append, add-one, take_all, ⊎_elim}
use Rattle.std.proofs.Math.Seq.{take-suc, take-append-add, get_or-append_seam}
use Rattle.std.proofs.lemmas.List.{take-append-drop}
use Rattle.certificate_lines.specs.Rest.{IsTextMemory, text_fault_at}
use Rattle.certificate_lines.specs.declared.fault.TextFault.{TextFault}
use Rattle.certificate_lines.specs.declared.fault.TextKind.{TextKind}
use Rattle.certificate_lines.specs.declared.fault.TextKind.TheVariants.{BadHead, BadWord, BadNumber, NotCanonical, CutShort, AfterEnd, TooDeep, ReadFault, Memory}
use Rattle.certificate_text.proofs.PrefixLaws.{one_begins}
use Rattle.worker_texts.specs.TextForms.{Form, IsByLines, Held, BeginsWithText, HaveFault, TellsFault, is_read_kind}
use Rattle.worker_texts.proofs.WholeLines.{at_least}

module _ {X T : Type 0} (form : Form X T) (laws : IsByLines form) where
  -- a text that stands at the front stands in the whole lines
  pub in_lines : (held : List ℕ) (count : ℕ) → ((k : ℕ) → count ≤ k → k < length held → get_or held k 0 ≡ 10 → ⊥) → BeginsWithText form held → BeginsWithText form (take count held)
  in_lines held count none has =
      let text = form.text_of has.told in
      let ends = laws.ends has.told in
      let many : length text ≡ length ends.front + 1 = omega (arith, ap length ends.is, length-append ends.front (10 ∷ [])) in
      let all : length held ≡ length text + length has.rest = omega (arith, ap length has.text_is, length-append text has.rest) in
      let cut : held ≡ ends.front ++ 10 ∷ has.rest = has.text_is ∙ ap (λ (t : List ℕ). t ++ has.rest) ends.is ∙ append_assoc ends.front (10 ∷ []) has.rest in
      let lf : get_or held (length ends.front) 0 ≡ 10 = ap (λ (t : List ℕ). get_or t (length ends.front) 0) cut ∙ get_or-append_seam ends.front 10 has.rest 0 in
      let go : (n : ℕ) → n + length text ≡ count → BeginsWithText form (take count held) =
      λ (n : ℕ). λ e. record {
        told = has.told;
        rest = take n has.rest;
        spelled = has.spelled;
        text_is = ap (λ (t : List ℕ). take count t) has.text_is ∙ ap (λ (k : ℕ). take k (text ++ has.rest)) (omega (arith, e)) ∙ take-append-add text has.rest n;
      } in
      ⊎_elim
      (λ low. absurd (none (length ends.front) low (omega (arith, many, all)) lf))
      (λ high. go (count - length text) (omega (arith, many, high)))
      (at_least count (length ends.front))

  -- none stands where nothing stands
  pub none_empty : (held : List ℕ) → length held ≡ 0 → BeginsWithText form held → ⊥
  none_empty held none has =
      let ends = laws.ends has.told in
      omega (arith, none, ap length has.text_is, length-append (form.text_of has.told) has.rest, ap length ends.is, length-append ends.front (10 ∷ []))

  -- at most the bytes of one pull stand behind a text that came by it
  pub came_by : (held pulled text : List ℕ) → text ≡ held ++ pulled → (BeginsWithText form held → ⊥) → (has : BeginsWithText form text) → length has.rest ≤ length pulled
  came_by held pulled text is none has =
      one_begins (length has.rest ≤ length pulled) (form.text_of has.told) has.rest held pulled (sym has.text_is ∙ is)
      (λ m e. absurd (none (record { told = has.told; rest = m; spelled = has.spelled; text_is = e })))
      (λ m e. omega (arith, ap length e, length-append held m, ap length (sym has.text_is ∙ is), length-append held pulled, length-append (form.text_of has.told) has.rest))

  module _ (held : List ℕ) (fault : TextFault) where
    -- the fault of whole lines is that of each text which begins with them
    lines_fault : (k : ℕ) → k < length held → get_or held k 0 ≡ 10 → (fault.kind ≡ CutShort → ⊥) → form.HasFault (take (k + 1) held) fault
        → (later : List ℕ) → form.HasFault (held ++ later) fault
    lines_fault k lt lf whole h later =
        let front = take k held in
        let line : take (k + 1) held ≡ front ++ 10 ∷ [] = rw add-one (take-suc held k 0 lt) ∙ ap (λ (b : ℕ). front ++ b ∷ []) lf in
        let cut : held ++ later ≡ front ++ 10 ∷ (drop (k + 1) held ++ later) =
        ap (λ (t : List ℕ). t ++ later) (sym (take-append-drop (k + 1) held) ∙ ap (λ (t : List ℕ). t ++ drop (k + 1) held) line)
        ∙ append_assoc (front ++ 10 ∷ []) (drop (k + 1) held) later ∙ append_assoc front (10 ∷ []) (drop (k + 1) held ++ later) in
        subst (λ (t : List ℕ). form.HasFault t fault) (sym cut)
        (laws.stays front (drop (k + 1) held ++ later) fault whole (subst (λ (t : List ℕ). form.HasFault t fault) line h))

    -- the fault of what can be read is that of each text which begins with what is held
    pub held_fault : (ended : Bool) (count : ℕ) → count ≤ length held → (ended ≡ true → count ≡ length held) → (ended ≡ false → 0 < count → get_or held (count - 1) 0 ≡ 10)
        → 0 < count → (ended ≡ false → fault.kind ≡ CutShort → ⊥) → form.HasFault (take count held) fault → HaveFault form held ended fault
    held_fault true count place all lf some whole h = λ later may.
        let same : held ++ later ≡ take count held = ap (λ (t : List ℕ). held ++ t) (may refl) ∙ append-nil held ∙ sym (take_all count held (omega (arith, all refl))) in
        subst (λ (t : List ℕ). form.HasFault t fault) (sym same) h
    held_fault false count place all lf some whole h = λ later may.
        let same : count ≡ (count - 1) + 1 = omega (arith, some) in
        lines_fault (count - 1) (omega (arith, some, place)) (lf refl some) (whole refl) (subst (λ (n : ℕ). form.HasFault (take n held) fault) same h) later

    -- a fault that was moved is the fault of the text at its own line
    own_line : (ended : Bool) (lines : ℕ) (told : TextFault) → told.kind ≡ fault.kind → (fault.line + lines < 2 ^ 64 → told.line ≡ fault.line + lines)
        → HaveFault form held ended fault → lines + (length held + 1) < 2 ^ 64 → HaveFault form held ended (text_fault_at told.kind (told.line - lines))
    own_line ended lines told kind moved have small =
        let own : form.HasFault held fault = subst (λ (t : List ℕ). form.HasFault t fault) (append-nil held) (have [] (λ e. refl)) in
        let low : fault.line ≤ 1 + length held = laws.within held fault own in
        let line : fault.line ≡ told.line - lines = omega (arith, moved (omega (arith, low, small))) in
        subst (HaveFault form held ended) (ap (λ (k : TextKind). text_fault_at k fault.line) (sym kind) ∙ ap (text_fault_at told.kind) line) have

  -- the fault of what is held is told with its line in all that was given
  pub tells_fault : (self : Held) (lines own_lines : ℕ) (held : List ℕ) (held_ended ended : Bool) (fault told : TextFault)
      → (BeginsWithText form held → IsTextMemory fault) → self.lines ≡ lines → own_lines ≡ self.lines → held ≡ self.bytes → held_ended ≡ ended
      → told.kind ≡ fault.kind → (fault.line + own_lines < 2 ^ 64 → told.line ≡ fault.line + own_lines)
      → ((IsTextMemory fault → ⊥) → HaveFault form held held_ended fault)
      → TellsFault form (record { bytes = self.bytes; lines = lines }) ended told self
  tells_fault self lines own_lines held held_ended ended fault told only same_lines same_own same_bytes same_ended kind moved have = record {
    stays = ap (λ (n : ℕ). record { bytes = self.bytes; lines = n }) same_lines;
    only = λ has. inl (kind ∙ only (subst (BeginsWithText form) (sym same_bytes) has));
    found = λ unread small.
        let known : HaveFault form self.bytes ended fault =
        subst (λ (t : List ℕ). HaveFault form t ended fault) same_bytes
        (subst (λ (b : Bool). HaveFault form held b fault) same_ended (have (λ m. unread (inl (kind ∙ m))))) in
        own_line self.bytes fault ended lines told kind (subst (λ (n : ℕ). fault.line + n < 2 ^ 64 → told.line ≡ fault.line + n) (same_own ∙ same_lines) moved) known small;
  }

  -- a fault of a text is none of its source
  pub no_read_fault : (text : List ℕ) (fault : TextFault) → ((IsTextMemory fault → ⊥) → form.HasFault text fault) → is_read_kind fault.kind ≡ false
  no_read_fault text fault h = of_kind fault.kind (λ e. laws.read text fault (h (λ m. memory_not_read (sym m ∙ e))) e)
    where
      memory_not_read : Memory ≡ ReadFault → ⊥
      memory_not_read e = cc

      of_kind : (kind : TextKind) → (kind ≡ ReadFault → ⊥) → is_read_kind kind ≡ false
      of_kind ReadFault other = absurd (other refl)
      of_kind Memory other = refl
      of_kind BadHead other = refl
      of_kind BadWord other = refl
      of_kind BadNumber other = refl
      of_kind NotCanonical other = refl
      of_kind CutShort other = refl
      of_kind AfterEnd other = refl
      of_kind TooDeep other = refl
