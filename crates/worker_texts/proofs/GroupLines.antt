-- The lines of groups, read one after the other.
use Rattle.std.proofs.Common.{◌≡◌, ℕ, suc, ◌+◌, ◌-◌, ◌<◌, List, [], ◌∷◌, ◌++◌, map, Result, Ok, Err, refl, sym, ap, ◌∙◌, arith, append_assoc, append-nil}
use Rattle.std.proofs.lemmas.Grind.{flat_map-append}
use Rattle.std.proofs.lemmas.List.{map-append}
use Rattle.field_lines.specs.RawPieces.{RawLine, bytes_of}
use Rattle.county_codes.specs.declared.group.Group.{Group}
use Rattle.grouping_laws.specs.Grouping.{Grouping}
use Rattle.certificate_lines.specs.Items.{by_words, seen}
use Rattle.certificate_lines.specs.Lines.{group_on}
use Rattle.certificate_lines.specs.Rest.{Rest, lines_of, text_fault_at, TakesTextLine, FaultOf}
use Rattle.certificate_lines.specs.Spelling.{item_line, text_of_items}
use Rattle.certificate_lines.specs.declared.fault.TextFault.{TextFault}
use Rattle.certificate_lines.specs.declared.fault.TextKind.{TextKind}
use Rattle.certificate_lines.specs.declared.item.Item.TheVariants.{Grouped}
use Rattle.certificate_lines.specs.declared.item.Wanted.TheVariants as want
use Rattle.certificate_lines.proofs.TextLaws.{item_ok, line_is}
use Rattle.worker_texts.specs.RoundReading.{groups_before, groups_from}

-- what a line tells with those behind it
abbrev pub groups_by_line : ℕ → ℕ → List RawLine → Result Group TextKind → Result Grouping TextFault
groups_by_line left n pieces r = elim r as (λ _. Result Grouping TextFault) [
  | Ok group ↦ groups_before (group ∷ []) (groups_from left (n + 1) pieces)
  | Err kind ↦ Err (text_fault_at kind n)
]

-- the groups that were read from one place to another, with the number of those that are left
pub record GroupsRead (count : ℕ) (start : Rest) (groups : Grouping) (left : ℕ) (rest : Rest) : Type 0 where
  pub gives : groups_from count start.number (lines_of start) ≡ groups_before groups (groups_from left rest.number (lines_of rest))
  pub text : start.text ≡ text_of_items (map Grouped groups) ++ rest.text

-- a line that was read as a group is that group's
group_bytes : (piece : RawLine) (group : Group) → by_words group_on piece ≡ Ok group → bytes_of piece ≡ item_line (Grouped group)
group_bytes piece group h = line_is piece (Grouped group) (item_ok (want.Groups 0) piece (Grouped group) (ap (seen Grouped) h))

more_behind : (groups : Grouping) (group : Group) (r : Result Grouping TextFault) → groups_before groups (groups_before (group ∷ []) r) ≡ groups_before (groups ++ group ∷ []) r
more_behind groups group (Ok later) = ap (λ (gs : Grouping). Ok gs) (sym (append_assoc groups (group ∷ []) later))
more_behind groups group (Err fault) = refl

-- the text of one group more
one_more : (groups : Grouping) (group : Group) → text_of_items (map Grouped (groups ++ group ∷ [])) ≡ text_of_items (map Grouped groups) ++ item_line (Grouped group)
one_more groups group =
    ap text_of_items (map-append Grouped groups (group ∷ []))
    ∙ (flat_map-append item_line (map Grouped groups) (Grouped group ∷ [])
    ∙ ap (λ (t : List ℕ). text_of_items (map Grouped groups) ++ t) (append-nil (item_line (Grouped group))))

module _ (count done : ℕ) (some : done < count) (start old : Rest) (groups : Grouping) (before : GroupsRead count start groups (count - done) old) where
  left_is : count - done ≡ suc (count - (done + 1))
  left_is = omega (arith, some)

  pub groups_step : (group : Group) (new : Rest) → TakesTextLine (by_words group_on) group old new → GroupsRead count start (groups ++ group ∷ []) (count - (done + 1)) new
  groups_step group new takes =
      let left = count - (done + 1) in
      record {
        gives = before.gives
            ∙ (ap (groups_before groups)
            (ap (λ k. groups_from k old.number (lines_of old)) left_is
            ∙ (ap (groups_from (suc left) old.number) takes.lines
            ∙ (ap (groups_by_line left old.number (lines_of new)) takes.value
            ∙ ap (λ n. groups_before (group ∷ []) (groups_from left n (lines_of new))) (sym takes.number))))
            ∙ more_behind groups group (groups_from left new.number (lines_of new)));
        text = before.text
            ∙ (ap (λ (t : List ℕ). text_of_items (map Grouped groups) ++ t) (takes.text ∙ ap (λ (t : List ℕ). t ++ new.text) (group_bytes takes.piece group takes.value))
            ∙ (sym (append_assoc (text_of_items (map Grouped groups)) (item_line (Grouped group)) new.text)
            ∙ ap (λ (t : List ℕ). t ++ new.text) (sym (one_more groups group))));
      }

  pub groups_fault : (fault : TextFault) → FaultOf (by_words group_on) old.number (lines_of old) fault → groups_from count start.number (lines_of start) ≡ Err fault
  groups_fault fault h =
      before.gives
      ∙ (ap (λ k. groups_before groups (groups_from k old.number (lines_of old))) left_is
      ∙ ap (groups_before groups) (go (lines_of old) h))
    where
      left : ℕ
      left = count - (done + 1)

      go : (pieces : List RawLine) → FaultOf (by_words group_on) old.number pieces fault → groups_from (suc left) old.number pieces ≡ Err fault
      go [] e = ap (λ (f : TextFault). Err f) (sym e)
      go (piece ∷ pieces) e = ap (groups_by_line left old.number pieces) e.0 ∙ ap (λ n. Err (text_fault_at fault.kind n)) (sym e.1)
