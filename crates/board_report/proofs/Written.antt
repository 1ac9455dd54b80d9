-- The lines of an event as they are written.
use Rattle.std.proofs.Common.{◌≡◌, ℕ, ◌≤◌, List, [], ◌∷◌, ◌++◌, length, map, codes, decimal, Result, Ok, Err, ap, sym, subst, ◌∙◌, append_assoc, append-nil}
use Rattle.certificate_data.specs.declared.format.Format.{Format}
use Rattle.county_codes.specs.declared.group.Group.{Group}
use Rattle.certificate_lines.specs.Lines.{most}
use Rattle.certificate_lines.specs.Items.{groups_wanted}
use Rattle.certificate_lines.specs.Fitting.{AllFit}
use Rattle.certificate_lines.specs.Spelling.{text_of_items}
use Rattle.certificate_lines.specs.Writing.{Writes}
use Rattle.certificate_lines.specs.declared.fault.WriteFault.{WriteFault}
use Rattle.certificate_lines.specs.declared.item.Item.{Item}
use Rattle.certificate_lines.specs.declared.item.Item.TheVariants.{Grouped}
use Rattle.certificate_lines.specs.declared.item.Wanted.{Wanted}
use Rattle.board_laws.specs.Content.{better}
use Rattle.board_report.specs.EventLines.{greatest}
use Rattle.board_report.specs.EventsWritten.{WritesEvent}

-- a name, two words and an LF
pub two_words : (old name first second : List ℕ) → (old ++ (name ++ first)) ++ (32 ∷ (second ++ 10 ∷ [])) ≡ old ++ ((name ++ (first ++ 32 ∷ second)) ++ 10 ∷ [])
two_words old name first second =
    append_assoc old (name ++ first) (32 ∷ (second ++ 10 ∷ []))
    ∙ ap (λ (l : List ℕ). old ++ l) (append_assoc name first (32 ∷ (second ++ 10 ∷ [])) ∙ ap (λ (l : List ℕ). name ++ l) (sym (append_assoc first (32 ∷ second) (10 ∷ []))) ∙ sym (append_assoc name (first ++ 32 ∷ second) (10 ∷ [])))

module _ (wanted : List Wanted) (items : List Item) where
  -- nothing is wanted behind items, and nothing stands there
  pub alone : AllFit (wanted ++ []) (items ++ []) → AllFit wanted items
  alone f = subst (λ (w : List Wanted). AllFit w items) (append-nil wanted) (subst (λ (l : List Item). AllFit (wanted ++ []) l) (append-nil items) f)

  pub with_none : AllFit wanted items → AllFit (wanted ++ []) (items ++ [])
  with_none f = subst (λ (l : List Item). AllFit (wanted ++ []) l) (sym (append-nil items)) (subst (λ (w : List Wanted). AllFit w items) (sym (append-nil wanted)) f)

module _ (format : Format) (counties round : ℕ) (groups : List Group) (small : round ≤ greatest) (few : length groups ≤ most) (old first mid : List ℕ) (begun : first ≡ old ++ (codes "better " ++ decimal round)) (line : mid ≡ first ++ (32 ∷ (decimal (length groups) ++ 10 ∷ []))) where
  -- the groups are written behind the first line
  pub better_written : (new : List ℕ) (r : Result (Unit {0}) WriteFault) → Writes (groups_wanted (length groups)) (map Grouped groups) [] mid r new → WritesEvent format counties (better round groups) old r new
  better_written new (Ok done) h = record {
    text =
        let bytes = (codes "better " ++ (decimal round ++ 32 ∷ decimal (length groups))) ++ 10 ∷ [] in
        let whole : mid ≡ old ++ bytes = line ∙ ap (λ (l : List ℕ). l ++ (32 ∷ (decimal (length groups) ++ 10 ∷ []))) begun ∙ two_words old (codes "better ") (decimal round) (decimal (length groups)) in
        h.text ∙ ap (λ (l : List ℕ). l ++ text_of_items (map Grouped groups)) whole ∙ append_assoc old bytes (text_of_items (map Grouped groups));
    spelled = record { line = (small, few); items = alone (groups_wanted (length groups)) (map Grouped groups) (h.fits [] [] tt); form = tt };
  }
  better_written new (Err fault) h = λ e s. h e [] [] (with_none (groups_wanted (length groups)) (map Grouped groups) s.items)
