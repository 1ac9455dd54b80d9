-- Where a fault of a part of a text stands in the whole text.
use Rattle.std.proofs.Common.{◌≡◌, ℕ, ◌+◌, ◌≤◌, List, [], ◌∷◌, ◌++◌, length, Some, Result, Ok, Err, refl, ap, ◌∙◌, arith}
use Rattle.std.specs.List.{slice_split}
use Rattle.std.specs.Option.{option_map}
use Rattle.field_lines.specs.RawPieces.{RawLine, is_lf, numbered, raw_lines_from}
use Rattle.certificate_data.specs.declared.format.Format.{Format}
use Rattle.certificate_lines.specs.Items.{by_words, item_on, wanted_after}
use Rattle.certificate_lines.specs.Rest.{text_fault_at}
use Rattle.certificate_lines.specs.declared.fault.TextFault.{TextFault}
use Rattle.certificate_lines.specs.declared.fault.TextKind.{TextKind}
use Rattle.certificate_lines.specs.declared.item.Item.{Item}
use Rattle.certificate_lines.specs.declared.item.Wanted.{Wanted}
use Rattle.certificate_lines.specs.declared.item.Wanted.TheVariants as want
use Rattle.worker_texts.proofs.WholeLines.{lines_few}
use Rattle.board_report.specs.EventLines.{event_on}
use Rattle.board_report.specs.EventSpelling.{wanted_by}
use Rattle.board_report.specs.EventFaults.{fault_from}
use Rattle.board_report.specs.declared.event_line.EventLine.{EventLine}
use Rattle.board_report.proofs.FaultLaws.{by_first, by_item}

-- a fault `k` lines further on
abbrev pub further : ℕ → TextFault → TextFault
further k fault = text_fault_at fault.kind (fault.line + k)

-- a line says the same whatever its number is
item_alike : (w : Wanted) (m n : ℕ) (piece : RawLine) → item_on w (record piece { number = m }) ≡ item_on w (record piece { number = n })
item_alike want.Head m n piece = refl
item_alike (want.Tolerance format) m n piece = refl
item_alike (want.Order format) m n piece = refl
item_alike want.Limit m n piece = refl
item_alike want.Target m n piece = refl
item_alike (want.Groups left) m n piece = refl
item_alike (want.Tree format levels) m n piece = refl
item_alike (want.Takes format levels) m n piece = refl
item_alike (want.Part format levels) m n piece = refl
item_alike (want.PartTakes format levels) m n piece = refl
item_alike (want.Allowances left) m n piece = refl
item_alike want.End m n piece = refl

module _ (format : Format) (counties k : ℕ) where
  -- what a line leads to, `k` lines further on
  first_further : (n : ℕ) (p q : List RawLine) (r : Result EventLine TextKind)
      → ((line : EventLine) → fault_from format counties (wanted_by format counties line) ((n + k) + 1) q ≡ option_map (further k) (fault_from format counties (wanted_by format counties line) (n + 1) p))
      → by_first format counties (n + k) q r ≡ option_map (further k) (by_first format counties n p r)
  first_further n p q (Ok line) later = later line
  first_further n p q (Err kind) later = refl

  item_further : (w : Wanted) (more : List Wanted) (n : ℕ) (p q : List RawLine) (r : Result Item TextKind)
      → ((item : Item) → fault_from format counties (wanted_after w item ++ more) ((n + k) + 1) q ≡ option_map (further k) (fault_from format counties (wanted_after w item ++ more) (n + 1) p))
      → by_item format counties w more (n + k) q r ≡ option_map (further k) (by_item format counties w more n p r)
  item_further w more n p q (Ok item) later = later item
  item_further w more n p q (Err kind) later = refl

  -- one line, and what is behind it
  line_further : (wanted : List Wanted) (n : ℕ) (bytes : List ℕ) (ended : _) (p q : List RawLine)
      → ((ws : List Wanted) → fault_from format counties ws ((n + k) + 1) q ≡ option_map (further k) (fault_from format counties ws (n + 1) p))
      → fault_from format counties wanted (n + k) (record { number = n + k; bytes = bytes; ended = ended } ∷ q) ≡ option_map (further k) (fault_from format counties wanted n (record { number = n; bytes = bytes; ended = ended } ∷ p))
  line_further [] n bytes ended p q later =
      first_further n p q (by_words event_on (record { number = n; bytes = bytes; ended = ended })) (λ line. later (wanted_by format counties line))
  line_further (w ∷ more) n bytes ended p q later =
      ap (by_item format counties w more (n + k) q) (item_alike w (n + k) n (record { number = n; bytes = bytes; ended = ended }))
      ∙ item_further w more n p q (item_on w (record { number = n; bytes = bytes; ended = ended })) (λ item. later (wanted_after w item ++ more))

  end_further : (wanted : List Wanted) (n : ℕ) → fault_from format counties wanted (n + k) [] ≡ option_map (further k) (fault_from format counties wanted n [])
  end_further [] n = refl
  end_further (w ∷ more) n = refl

  parts_further : (wanted : List Wanted) (n : ℕ) (parts : List (List ℕ)) → fault_from format counties wanted (n + k) (numbered (n + k) parts) ≡ option_map (further k) (fault_from format counties wanted n (numbered n parts))
  parts_further wanted n [] = end_further wanted n
  parts_further wanted n ([] ∷ []) = end_further wanted n
  parts_further wanted n ((b ∷ part) ∷ []) =
      let next : (n + k) + 1 ≡ (n + 1) + k = omega arith in
      line_further wanted n (b ∷ part) _ [] [] (λ ws. ap (λ (m : ℕ). fault_from format counties ws m []) next ∙ end_further ws (n + 1))
  parts_further wanted n (part ∷ more_part ∷ parts) =
      let next : (n + k) + 1 ≡ (n + 1) + k = omega arith in
      line_further wanted n part _ (numbered (n + 1) (more_part ∷ parts)) (numbered ((n + k) + 1) (more_part ∷ parts))
      (λ ws. ap (λ (m : ℕ). fault_from format counties ws m (numbered m (more_part ∷ parts))) next ∙ parts_further ws (n + 1) (more_part ∷ parts))

  -- the first fault of a text, `k` lines further on
  pub fault_further : (wanted : List Wanted) (n : ℕ) (text : List ℕ) → fault_from format counties wanted (n + k) (raw_lines_from (n + k) text) ≡ option_map (further k) (fault_from format counties wanted n (raw_lines_from n text))
  fault_further wanted n text = parts_further wanted n (slice_split is_lf text)

module _ (format : Format) (counties : ℕ) where
  first_within : (n : ℕ) (pieces : List RawLine) (fault : TextFault) (r : Result EventLine TextKind) → ((line : EventLine) → fault_from format counties (wanted_by format counties line) (n + 1) pieces ≡ Some fault → fault.line ≤ (n + 1) + length pieces)
      → by_first format counties n pieces r ≡ Some fault → fault.line ≤ n + (1 + length pieces)
  first_within n pieces fault (Ok line) later h = omega (arith, later line h)
  first_within n pieces fault (Err kind) later h =
      let same : n ≡ fault.line = cc in
      omega (arith, same)

  item_within : (w : Wanted) (more : List Wanted) (n : ℕ) (pieces : List RawLine) (fault : TextFault) (r : Result Item TextKind)
      → ((item : Item) → fault_from format counties (wanted_after w item ++ more) (n + 1) pieces ≡ Some fault → fault.line ≤ (n + 1) + length pieces) → by_item format counties w more n pieces r ≡ Some fault → fault.line ≤ n + (1 + length pieces)
  item_within w more n pieces fault (Ok item) later h = omega (arith, later item h)
  item_within w more n pieces fault (Err kind) later h =
      let same : n ≡ fault.line = cc in
      omega (arith, same)

  -- a fault stands on a line, or behind the last
  pieces_within : (wanted : List Wanted) (n : ℕ) (pieces : List RawLine) (fault : TextFault) → fault_from format counties wanted n pieces ≡ Some fault → fault.line ≤ n + length pieces
  pieces_within [] n [] fault h = cc
  pieces_within (w ∷ more) n [] fault h =
      let same : n ≡ fault.line = cc in
      omega (arith, same)
  pieces_within [] n (piece ∷ pieces) fault h =
      let low : fault.line ≤ n + (1 + length pieces) = first_within n pieces fault (by_words event_on piece) (λ line e. pieces_within (wanted_by format counties line) (n + 1) pieces fault e) h in
      omega (arith, low)
  pieces_within (w ∷ more) n (piece ∷ pieces) fault h =
      let low : fault.line ≤ n + (1 + length pieces) = item_within w more n pieces fault (item_on w piece) (λ item e. pieces_within (wanted_after w item ++ more) (n + 1) pieces fault e) h in
      omega (arith, low)

  -- the line of a fault is at most the number of bytes and one
  pub fault_within : (wanted : List Wanted) (n : ℕ) (text : List ℕ) (fault : TextFault) → fault_from format counties wanted n (raw_lines_from n text) ≡ Some fault → fault.line ≤ n + length text
  fault_within wanted n text fault h =
      omega (arith, pieces_within wanted n (raw_lines_from n text) fault h, lines_few n text)
