-- The lines of an open piece, read one after the other.
use Rattle.std.proofs.Common.{◌≡◌, ℕ, ◌+◌, ◌-◌, Bool, true, false, List, [], ◌∷◌, ◌++◌, codes, Result, Ok, Err, refl, sym, ap, ◌∙◌, subst, arith, append_assoc, append-nil, length, take, length-append}
use Rattle.std.specs.List.{AllByRecursion, flat_map}
use Rattle.std.proofs.lemmas.Bool.{false≢true}
use Rattle.std.proofs.lemmas.Grind.{flat_map-append}
use Rattle.field_lines.specs.RawPieces.{RawLine}
use Rattle.std.proofs.Math.Seq.{take-append_seam}
use Rattle.certificate_lines.specs.Fitting.{IsSet}
use Rattle.certificate_lines.specs.Items.{by_words}
use Rattle.certificate_lines.specs.Rest.{Rest, lines_of, text_fault_at, TakesTextLine}
use Rattle.certificate_lines.specs.declared.fault.TextFault.{TextFault}
use Rattle.certificate_lines.specs.declared.fault.TextKind.{TextKind}
use Rattle.piece_states.specs.declared.line.ToldLine.{ToldLine}
use Rattle.piece_states.specs.declared.line.ToldLine.TheVariants.{Closed, Least, End}
use Rattle.piece_states.specs.declared.piece.Asked.{Asked as AskedHeld}
use Rattle.piece_states.specs.Told.{Asked, Told}
use Rattle.piece_states.specs.PieceValue.{asked_of}
use Rattle.piece_states.specs.Text.{closed_words, asked_words, line_of, text_of_told}
use Rattle.piece_states.specs.TextLines.{told_on}
use Rattle.piece_states.specs.Reading.{told_behind, told_with, told_from, FitsAsked}
use Rattle.piece_states.proofs.LinesRead.{told_words, told_read, FitsTold}

-- the groups and the counties that were read from one place to another, where closed groups may stand next or not
pub record Read (start : Rest) (groups : List (List ℕ)) (asked : List Asked) (closing : Bool) (rest : Rest) : Type 0 where
  pub gives : told_from true start.number (lines_of start) ≡ told_behind groups asked (told_from closing rest.number (lines_of rest))
  pub text : start.text ≡ flat_map (λ g. line_of (closed_words g)) groups ++ (flat_map (λ a. line_of (asked_words a)) asked ++ rest.text)
  pub first : closing ≡ true → asked ≡ []

-- what a line tells with those behind it
abbrev pub told_by_line : Bool → ℕ → List RawLine → Result ToldLine TextKind → Result Told TextFault
told_by_line closing n pieces r = elim r as (λ _. Result Told TextFault) [
  | Ok line ↦ told_with line (told_from closing (n + 1) pieces) (told_from false (n + 1) pieces)
  | Err kind ↦ Err (text_fault_at kind n)
]

module _ (closing : Bool) (line : ToldLine) (old new : Rest) (takes : TakesTextLine (by_words (told_on closing)) line old new) where
  -- a line that is taken, and those behind it
  line_gives : told_from closing old.number (lines_of old) ≡ told_with line (told_from closing new.number (lines_of new)) (told_from false new.number (lines_of new))
  line_gives =
      ap (told_from closing old.number) takes.lines
      ∙ (ap (told_by_line closing old.number (lines_of new)) takes.value
      ∙ ap (λ n. told_with line (told_from closing n (lines_of new)) (told_from false n (lines_of new))) (sym takes.number))

  line_text : old.text ≡ line_of (told_words line) ++ new.text
  line_text = takes.text ∙ ap (λ (t : List ℕ). t ++ new.text) (told_read closing takes.piece line takes.value).bytes

groups_behind : (groups : List (List ℕ)) (asked : List Asked) (g : List ℕ) (r : Result Told TextFault) → told_behind groups asked (told_behind (g ∷ []) [] r) ≡ told_behind (groups ++ g ∷ []) asked r
groups_behind groups asked g (Ok later) = ap (λ (gs : List (List ℕ)). Ok (record { closed = gs; asked = asked ++ later.asked })) (sym (append_assoc groups (g ∷ []) later.closed))
groups_behind groups asked g (Err fault) = refl

asked_behind : (groups : List (List ℕ)) (asked : List Asked) (a : Asked) (r : Result Told TextFault) → told_behind groups asked (told_behind [] (a ∷ []) r) ≡ told_behind groups (asked ++ a ∷ []) r
asked_behind groups asked a (Ok later) = ap (λ (as_told : List Asked). Ok (record { closed = groups ++ later.closed; asked = as_told })) (sym (append_assoc asked (a ∷ []) later.asked))
asked_behind groups asked a (Err fault) = refl

-- the lines of one more stand behind those of the others
one_more : {X : Type 0} (line : X → List ℕ) (xs : List X) (x : X) → flat_map line (xs ++ x ∷ []) ≡ flat_map line xs ++ line x
one_more line xs x = flat_map-append line xs (x ∷ []) ∙ ap (λ (t : List ℕ). flat_map line xs ++ t) (append-nil (line x))

module _ (start old new : Rest) (groups : List (List ℕ)) (asked : List Asked) (closing : Bool) (before : Read start groups asked closing old) where
  abbrev closed_lines : List (List ℕ) → List ℕ
  closed_lines gs = flat_map (λ g. line_of (closed_words g)) gs

  abbrev asked_lines : List Asked → List ℕ
  asked_lines more = flat_map (λ a. line_of (asked_words a)) more

  pub read_closed : (g : List ℕ) → TakesTextLine (by_words (told_on closing)) (Closed g) old new → Read start (groups ++ g ∷ []) asked closing new
  read_closed g takes =
      let none = before.first (told_read closing takes.piece (Closed g) takes.value).fits.0 in
      record {
        gives = before.gives
            ∙ (ap (told_behind groups asked) (line_gives closing (Closed g) old new takes)
            ∙ groups_behind groups asked g (told_from closing new.number (lines_of new)));
        text = before.text
            ∙ (ap (λ (more : List Asked). closed_lines groups ++ (asked_lines more ++ old.text)) none
            ∙ (ap (λ (t : List ℕ). closed_lines groups ++ t) (line_text closing (Closed g) old new takes)
            ∙ (sym (append_assoc (closed_lines groups) (line_of (closed_words g)) new.text)
            ∙ (ap (λ (t : List ℕ). t ++ new.text) (sym (one_more (λ h. line_of (closed_words h)) groups g))
            ∙ ap (λ (more : List Asked). closed_lines (groups ++ g ∷ []) ++ (asked_lines more ++ new.text)) (sym none)))));
        first = before.first;
      }

  pub read_asked : (a : AskedHeld) → TakesTextLine (by_words (told_on closing)) (Least a) old new → Read start groups (asked ++ asked_of a ∷ []) false new
  read_asked a takes = record {
    gives = before.gives
        ∙ (ap (told_behind groups asked) (line_gives closing (Least a) old new takes)
        ∙ asked_behind groups asked (asked_of a) (told_from false new.number (lines_of new)));
    text = before.text
        ∙ ap (λ (t : List ℕ). closed_lines groups ++ t)
        (ap (λ (t : List ℕ). asked_lines asked ++ t) (line_text closing (Least a) old new takes)
        ∙ (sym (append_assoc (asked_lines asked) (line_of (asked_words (asked_of a))) new.text)
        ∙ ap (λ (t : List ℕ). t ++ new.text) (sym (one_more (λ b. line_of (asked_words b)) asked (asked_of a)))));
    first = λ e. absurd (false≢true e);
  }

  pub read_end : TakesTextLine (by_words (told_on closing)) End old new → start.text ≡ text_of_told (record { closed = groups; asked = asked }) ++ new.text
  read_end takes =
      before.text
      ∙ (ap (λ (t : List ℕ). closed_lines groups ++ (asked_lines asked ++ t)) (line_text closing End old new takes)
      ∙ (ap (λ (t : List ℕ). closed_lines groups ++ t) (sym (append_assoc (asked_lines asked) (codes "end\n") new.text))
      ∙ sym (append_assoc (closed_lines groups) (asked_lines asked ++ codes "end\n") new.text)))

-- the bytes in front of what is left
pub bytes_taken : (text first told mid rest : List ℕ) → text ≡ first ++ mid → mid ≡ told ++ rest → take (length text - length rest) text ≡ first ++ told
bytes_taken text first told mid rest cut behind =
    ap (λ (t : List ℕ). take (length t - length rest) t) whole
    ∙ (ap (λ (n : ℕ). take n ((first ++ told) ++ rest)) (omega (arith, length-append (first ++ told) rest)) ∙ take-append_seam (first ++ told) rest)
  where
    whole : text ≡ (first ++ told) ++ rest
    whole = cut ∙ (ap (λ (t : List ℕ). first ++ t) behind ∙ sym (append_assoc first told rest))

-- what is told behind groups and counties
record Later (groups : List (List ℕ)) (asked : List Asked) (r : Result Told TextFault) (told : Told) : Type 0 where
  pub later : Told
  pub is : r ≡ Ok later
  pub all : record { closed = groups ++ later.closed; asked = asked ++ later.asked } ≡ told

behind_ok : (groups : List (List ℕ)) (asked : List Asked) (r : Result Told TextFault) (told : Told) → told_behind groups asked r ≡ Ok told → Later groups asked r told
behind_ok groups asked (Ok later) told h = record { later = later; is = refl; all = cc }
behind_ok groups asked (Err fault) told h = cc

-- the numbers of what is told are in the ranges of their lines
pub record Fit (told : Told) : Type 0 where
  pub closed : AllByRecursion IsSet told.closed
  pub asked : AllByRecursion FitsAsked told.asked

with_fits : (closing : Bool) (line : ToldLine) (same none : Result Told TextFault) (told : Told) → FitsTold closing line → ((t : Told) → same ≡ Ok t → Fit t) → ((t : Told) → none ≡ Ok t → Fit t)
    → told_with line same none ≡ Ok told → Fit told
with_fits closing (Closed g) same none told fits go after h =
    let r = behind_ok (g ∷ []) [] same told h in
    let f = go r.later r.is in
    subst Fit r.all (record { closed = (fits.1, f.closed); asked = f.asked })
with_fits closing (Least a) same none told fits go after h =
    let r = behind_ok [] (asked_of a ∷ []) none told h in
    let f = after r.later r.is in
    subst Fit r.all (record { closed = f.closed; asked = (fits, f.asked) })
with_fits closing End same none told fits go after h =
    let all : record { closed = []; asked = [] } ≡ told = cc in
    subst Fit all (record { closed = tt; asked = tt })

pub told_fits : (closing : Bool) (n : ℕ) (pieces : List RawLine) (told : Told) → told_from closing n pieces ≡ Ok told → Fit told
told_fits closing n [] told h = cc
told_fits closing n (piece ∷ pieces) told h =
    by_line (λ t e. told_fits closing (n + 1) pieces t e) (λ t e. told_fits false (n + 1) pieces t e) (by_words (told_on closing) piece) refl h
  where
    by_line : ((t : Told) → told_from closing (n + 1) pieces ≡ Ok t → Fit t) → ((t : Told) → told_from false (n + 1) pieces ≡ Ok t → Fit t)
        → (r : Result ToldLine TextKind) → by_words (told_on closing) piece ≡ r → told_by_line closing n pieces r ≡ Ok told → Fit told
    by_line go after (Ok line) e k =
        with_fits closing line (told_from closing (n + 1) pieces) (told_from false (n + 1) pieces) told (told_read closing piece line e).fits go after k
    by_line go after (Err kind) e k = cc
