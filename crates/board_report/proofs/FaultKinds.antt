-- The fault of a text of events is one of a line, or that a line is missing.
use Rattle.std.proofs.Common.{◌≡◌, ℕ, ◌+◌, List, [], ◌∷◌, ◌++◌, codes, drop, Option, Some, None, Result, Ok, Err, subst}
use Rattle.field_lines.specs.Chain.{◌>>=◌}
use Rattle.field_lines.specs.RawPieces.{RawLine, raw_lines}
use Rattle.certificate_data.specs.declared.format.Format.{Format}
use Rattle.certificate_lines.specs.Lines.{most, begins, counted, number_at, code_word_at}
use Rattle.certificate_lines.specs.Items.{by_words, item_on, wanted_after}
use Rattle.certificate_lines.specs.declared.fault.TextKind.{TextKind}
use Rattle.certificate_lines.specs.declared.fault.TextFault.{TextFault}
use Rattle.certificate_lines.specs.declared.item.Item.{Item}
use Rattle.certificate_lines.specs.declared.item.Wanted.{Wanted}
use Rattle.certificate_lines.proofs.LineKinds.{OfLine, Said, cond_said, bind_said, counted_said, number_at_said, code_at_said, words_then_said, AreBehind, both_behind, groups_behind, after_behind, item_said}
use Rattle.board_report.specs.EventLines.{greatest, hand_on, result_on, split_on, part_on, better_on, wider_on, event_on}
use Rattle.board_report.specs.EventSpelling.{wanted_by}
use Rattle.board_report.specs.EventFaults.{fault_from, events_fault}
use Rattle.board_report.specs.declared.event_line.EventLine.{EventLine}
use Rattle.board_report.specs.declared.event_line.EventLine.TheVariants as says
use Rattle.board_report.proofs.FaultLaws.{by_first, by_item}

-- the number of words, or a number in front, and what is read of the words after it
count_said : {X : Type 0} (n : ℕ) (words : List (List ℕ)) (read : List (List ℕ) → Result X TextKind) → ((ws : List (List ℕ)) → Said (read ws)) → Said (counted n n words >>= read)
count_said n words read later = bind_said (counted n n words) read (counted_said n n words) later

next_said : {X : Type 0} (least greatest : ℕ) (words : List (List ℕ)) (read : ℕ × List (List ℕ) → Result X TextKind) → ((n : ℕ × List (List ℕ)) → Said (read n)) → Said (number_at least greatest words >>= read)
next_said least greatest words read later = bind_said (number_at least greatest words) read (number_at_said least greatest words) later

hand_said : (words : List (List ℕ)) → Said (hand_on words)
unfolding hand_on
hand_said words = count_said 1 words _ (λ ws. next_said 0 greatest ws _ (λ n. tt))

result_said : (words : List (List ℕ)) → Said (result_on words)
unfolding result_on
result_said words = count_said 2 words _ (λ ws. next_said 0 greatest ws _ (λ n. next_said 0 greatest n.1 _ (λ m. tt)))

split_said : (words : List (List ℕ)) → Said (split_on words)
unfolding split_on
split_said words =
    count_said 4 words _ (λ ws. next_said 0 greatest ws _ (λ n. next_said 0 greatest n.1 _
    (λ m. bind_said (code_word_at m.1) _ (code_at_said m.1) (λ c. next_said 1 most c.1 _ (λ j. tt)))))

part_said : (words : List (List ℕ)) → Said (part_on words)
unfolding part_on
part_said words = count_said 2 words _ (λ ws. next_said 0 greatest ws _ (λ n. next_said 0 greatest n.1 _ (λ m. tt)))

better_said : (words : List (List ℕ)) → Said (better_on words)
unfolding better_on
better_said words = count_said 2 words _ (λ ws. next_said 0 greatest ws _ (λ n. next_said 0 most n.1 _ (λ m. tt)))

wider_said : (words : List (List ℕ)) → Said (wider_on words)
unfolding wider_on
wider_said words = count_said 1 words _ (λ ws. next_said 0 greatest ws _ (λ n. tt))

event_said : (words : List (List ℕ)) → Said (event_on words)
unfolding event_on
event_said words =
    cond_said (begins (codes "hand") words) _ _ (hand_said (drop 1 words))
    (cond_said (begins (codes "result") words) _ _ (result_said (drop 1 words))
    (cond_said (begins (codes "split") words) _ _ (split_said (drop 1 words))
    (cond_said (begins (codes "part") words) _ _ (part_said (drop 1 words))
    (cond_said (begins (codes "better") words) _ _ (better_said (drop 1 words))
    (cond_said (begins (codes "wider") words) _ _ (wider_said (drop 1 words)) tt)))))

abbrev SaidFault : Option TextFault → Type 0
SaidFault None = Unit {0}
SaidFault (Some fault) = OfLine fault.kind

module _ (format : Format) (counties : ℕ) where
  line_behind : (l : EventLine) → AreBehind (wanted_by format counties l)
  line_behind (says.Hand from) = tt
  line_behind (says.Result round piece) = (tt, tt)
  line_behind (says.Split round piece county limit) = tt
  line_behind (says.Part round piece) = (tt, tt)
  line_behind (says.Better round groups) = groups_behind groups
  line_behind (says.Wider round) = tt

  fault_said : (wanted : List Wanted) (n : ℕ) (pieces : List RawLine) → AreBehind wanted → SaidFault (fault_from format counties wanted n pieces)
  fault_said [] n [] b = tt
  fault_said [] n (piece ∷ pieces) b = go (λ l. fault_said (wanted_by format counties l) (n + 1) pieces (line_behind l)) (by_words event_on piece)
      (words_then_said event_on piece event_said)
    where
      go : ((l : EventLine) → SaidFault (fault_from format counties (wanted_by format counties l) (n + 1) pieces))
          → (r : Result EventLine TextKind) → Said r → SaidFault (by_first format counties n pieces r)
      go later (Ok l) said = later l
      go later (Err kind) said = said
  fault_said (w ∷ more) n [] b = tt
  fault_said (w ∷ more) n (piece ∷ pieces) b = go (λ i. fault_said (wanted_after w i ++ more) (n + 1) pieces
      (both_behind (wanted_after w i) more (after_behind w i b.0) b.1)) (item_on w piece) (item_said w piece b.0)
    where
      go : ((i : Item) → SaidFault (fault_from format counties (wanted_after w i ++ more) (n + 1) pieces)) → (r : Result Item TextKind) → Said r
          → SaidFault (by_item format counties w more n pieces r)
      go later (Ok i) said = later i
      go later (Err kind) said = said

  pub fault_of_line : (text : List ℕ) (fault : TextFault) → events_fault format counties text ≡ Some fault → OfLine fault.kind
  fault_of_line text fault h = subst SaidFault h (fault_said [] 1 (raw_lines text) tt)
