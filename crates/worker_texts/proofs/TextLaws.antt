-- At most one text of a worker stands at the front of a text, and a fault is one of a line.
use Rattle.std.proofs.Common.{◌≡◌, ℕ, List, ◌++◌, Result, Ok, refl, ap, sym, subst, ◌∙◌}
use Rattle.std.specs.Prelude.{◌≢◌}
use Rattle.std.proofs.lemmas.List.{append_cancel_left}
use Rattle.field_lines.specs.RawPieces.{raw_lines}
use Rattle.certificate_lines.specs.declared.fault.TextFault.{TextFault}
use Rattle.certificate_lines.specs.declared.fault.TextKind.{TextKind}
use Rattle.certificate_lines.specs.declared.fault.TextKind.TheVariants.{BadHead, AfterEnd, ReadFault, Memory}
use Rattle.certificate_lines.proofs.LineKinds.{OfLine}
use Rattle.worker_texts.specs.WorkerText.{WorkerTextTold, text_of, HasWorkerText}
use Rattle.worker_texts.specs.Laws.{WorkerTextsAreRead}
use Rattle.worker_texts.proofs.FaultsTold.{text_told}
use Rattle.worker_texts.proofs.TextsBack.{text_back}

same_told : (a b : WorkerTextTold) → ◌≡◌ {A = Result WorkerTextTold TextFault} (Ok a) (Ok b) → a ≡ b
same_told a b h = cc

one_text : (told other : WorkerTextTold) (rest more : List ℕ) → HasWorkerText told → HasWorkerText other → text_of told ++ rest ≡ text_of other ++ more → (told ≡ other) × (rest ≡ more)
one_text told other rest more a b is =
    let same : told ≡ other = same_told told other (sym (text_back told rest (text_of other ++ more) a (sym is)) ∙ text_back other more (text_of other ++ more) b refl) in
    (same, append_cancel_left (text_of other) rest more (ap (λ (t : WorkerTextTold). text_of t ++ rest) (sym same) ∙ is))

module _ (kind : TextKind) (of_line : OfLine kind) where
  no_head : kind ≢ BadHead
  no_head e = subst OfLine e of_line

  no_end : kind ≢ AfterEnd
  no_end e = subst OfLine e of_line

  no_source : kind ≢ ReadFault
  no_source e = subst OfLine e of_line

  no_memory : kind ≢ Memory
  no_memory e = subst OfLine e of_line

pub worker_texts_are_read : WorkerTextsAreRead
worker_texts_are_read = record {
  told = λ told rest has. text_back told rest (text_of told ++ rest) has refl;
  one = one_text;
  faults = λ text fault h.
      let of_line = (text_told fault (raw_lines text) h).of_line in
      (no_head fault.kind of_line, no_end fault.kind of_line, no_source fault.kind of_line, no_memory fault.kind of_line);
}
