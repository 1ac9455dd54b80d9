-- A first line that is read is that of the event, word by word, and its numbers are in their ranges.
use Rattle.std.proofs.Common.{◌≡◌, ℕ, ◌<◌, ◌≤◌, ◌^◌, cond, Bool, true, false, List, [], ◌∷◌, length, drop, codes, Ok, Err, refl, ap, sym, subst, ◌∙◌, arith, lit<}
use Rattle.std.specs.Fmt.{decimal}
use Rattle.field_lines.specs.RawPieces.{RawLine, bytes_of}
use Rattle.certificate_lines.specs.Lines.{most, begins, counted, number_at, code_word_at}
use Rattle.certificate_lines.specs.Items.{by_words}
use Rattle.county_codes.specs.Digits.{five_digits}
use Rattle.certificate_lines.specs.declared.fault.TextKind.TheVariants.{BadWord}
use Rattle.certificate_lines.proofs.WordLaws.{bind_ok}
use Rattle.certificate_lines.proofs.FormLaws.{counted_ok, number_at_ok, code_at_ok}
use Rattle.piece_states.specs.Text.{line_of}
use Rattle.piece_states.proofs.LineWords.{empty, begins_ok, line_was, one_on, two_on, one_ok, two_ok}
use Rattle.board_report.specs.EventLines.{greatest, hand_on, result_on, split_on, part_on, better_on, wider_on, event_on}
use Rattle.board_report.specs.EventSpelling.{event_words, event_line, FitsLine}
use Rattle.board_report.specs.declared.event_line.EventLine.{EventLine}
use Rattle.board_report.specs.declared.event_line.EventLine.TheVariants.{Hand, Result as Proof, Split, Part, Better, Wider}

-- words are those of a line, whose numbers are in their ranges
record AreOf (words : List (List ℕ)) (line : EventLine) : Type 0 where
  pub words_are : words ≡ event_words line
  pub fits : FitsLine line

module _ (name : List ℕ) (words : List (List ℕ)) (line : EventLine) where
  -- the words behind the name are one number, or two
  of_one : (form : ℕ → EventLine) → ((n : ℕ) → event_words (form n) ≡ name ∷ decimal n ∷ []) → ((n : ℕ) → n ≤ greatest → FitsLine (form n)) → one_on form greatest words ≡ Ok line → AreOf (name ∷ words) line
  of_one form spells fits h =
      let one = one_ok greatest (lit< tt) words line form h in
      subst (λ (l : EventLine). AreOf (name ∷ words) l) one.is (record {
        words_are = ap (λ (ws : List (List ℕ)). name ∷ ws) one.words_are ∙ sym (spells one.first);
        fits = fits one.first one.to;
      })

  of_two : (most_then : ℕ) → most_then < 2 ^ 64 → (form : ℕ → ℕ → EventLine) → ((n m : ℕ) → event_words (form n m) ≡ name ∷ decimal n ∷ decimal m ∷ [])
      → ((n m : ℕ) → n ≤ greatest → m ≤ most_then → FitsLine (form n m)) → two_on form greatest most_then words ≡ Ok line → AreOf (name ∷ words) line
  of_two most_then small form spells fits h =
      let two = two_ok greatest (lit< tt) words line most_then small form h in
      subst (λ (l : EventLine). AreOf (name ∷ words) l) two.is (record {
        words_are = ap (λ (ws : List (List ℕ)). name ∷ ws) two.words_are ∙ sym (spells two.first two.second);
        fits = fits two.first two.second two.to two.to_then;
      })

hand_ok : (words : List (List ℕ)) (line : EventLine) → hand_on words ≡ Ok line → AreOf (codes "hand" ∷ words) line
unfolding hand_on
hand_ok words line h = of_one (codes "hand") words line Hand (λ n. refl) (λ n to. to) h

result_ok : (words : List (List ℕ)) (line : EventLine) → result_on words ≡ Ok line → AreOf (codes "result" ∷ words) line
unfolding result_on
result_ok words line h = of_two (codes "result") words line greatest (lit< tt) Proof (λ n m. refl) (λ n m to to_then. (to, to_then)) h

split_ok : (words : List (List ℕ)) (line : EventLine) → split_on words ≡ Ok line → AreOf (codes "split" ∷ words) line
unfolding split_on
split_ok words line h =
    let a = bind_ok (counted 4 4 words) _ line h in
    let b = bind_ok (number_at 0 greatest a.value) _ line a.then in
    let d = bind_ok (number_at 0 greatest b.value.1) _ line b.then in
    let e = bind_ok (code_word_at d.value.1) _ line d.then in
    let f = bind_ok (number_at 1 most e.value.1) _ line e.then in
    let few = counted_ok 4 4 words a.value a.first in
    let n = number_at_ok 0 greatest (lit< tt) a.value b.value b.first in
    let m = number_at_ok 0 greatest (lit< tt) b.value.1 d.value d.first in
    let k = code_at_ok d.value.1 e.value e.first in
    let j = number_at_ok 1 most (lit< tt) e.value.1 f.value f.first in
    let same : Split b.value.0 d.value.0 e.value.0 f.value.0 ≡ line = cc (f.then) in
    let none : f.value.1 ≡ [] = empty f.value.1 (omega (arith, few.to, ap length n.words_are, ap length m.words_are, ap length k.words_are, ap length j.words_are)) in
    subst (λ (l : EventLine). AreOf (codes "split" ∷ words) l) same (record {
      words_are = ap (λ (ws : List (List ℕ)). codes "split" ∷ ws)
          (few.same ∙ n.words_are ∙ ap (λ (ws : List (List ℕ)). decimal b.value.0 ∷ ws)
          (m.words_are ∙ ap (λ (ws : List (List ℕ)). decimal d.value.0 ∷ ws)
          (k.words_are ∙ ap (λ (ws : List (List ℕ)). five_digits e.value.0 ∷ ws) (j.words_are ∙ ap (λ (ws : List (List ℕ)). decimal f.value.0 ∷ ws) none))));
      fits = (n.to, m.to, k.to, j.from, j.to);
    })

part_ok : (words : List (List ℕ)) (line : EventLine) → part_on words ≡ Ok line → AreOf (codes "part" ∷ words) line
unfolding part_on
part_ok words line h = of_two (codes "part") words line greatest (lit< tt) Part (λ n m. refl) (λ n m to to_then. (to, to_then)) h

better_ok : (words : List (List ℕ)) (line : EventLine) → better_on words ≡ Ok line → AreOf (codes "better" ∷ words) line
unfolding better_on
better_ok words line h = of_two (codes "better") words line most (lit< tt) Better (λ n m. refl) (λ n m to to_then. (to, to_then)) h

wider_ok : (words : List (List ℕ)) (line : EventLine) → wider_on words ≡ Ok line → AreOf (codes "wider" ∷ words) line
unfolding wider_on
wider_ok words line h = of_one (codes "wider") words line Wider (λ n. refl) (λ n to. to) h

module _ (words : List (List ℕ)) (line : EventLine) where
  -- the first word is this one, and what is behind it was read
  named_as : (name : List ℕ) → begins name words ≡ true → AreOf (name ∷ drop 1 words) line → AreOf words line
  named_as name e is = record { words_are = begins_ok name words e ∙ is.words_are; fits = is.fits }

  wider_go : (t : Bool) → begins (codes "wider") words ≡ t → cond t (wider_on (drop 1 words)) (Err BadWord) ≡ Ok line → AreOf words line
  wider_go false e h = cc
  wider_go true e h = named_as (codes "wider") e (wider_ok (drop 1 words) line h)

  better_go : (t : Bool) → begins (codes "better") words ≡ t → cond t (better_on (drop 1 words)) (cond (begins (codes "wider") words) (wider_on (drop 1 words)) (Err BadWord)) ≡ Ok line → AreOf words line
  better_go false e h = wider_go _ refl h
  better_go true e h = named_as (codes "better") e (better_ok (drop 1 words) line h)

  part_go : (t : Bool) → begins (codes "part") words ≡ t
      → cond t (part_on (drop 1 words)) (cond (begins (codes "better") words) (better_on (drop 1 words)) (cond (begins (codes "wider") words) (wider_on (drop 1 words)) (Err BadWord))) ≡ Ok line → AreOf words line
  part_go false e h = better_go _ refl h
  part_go true e h = named_as (codes "part") e (part_ok (drop 1 words) line h)

  split_go : (t : Bool) → begins (codes "split") words ≡ t
      → cond t (split_on (drop 1 words)) (cond (begins (codes "part") words) (part_on (drop 1 words)) (cond (begins (codes "better") words) (better_on (drop 1 words)) (cond (begins (codes "wider") words) (wider_on (drop 1 words)) (Err BadWord)))) ≡ Ok line → AreOf words line
  split_go false e h = part_go _ refl h
  split_go true e h = named_as (codes "split") e (split_ok (drop 1 words) line h)

  result_go : (t : Bool) → begins (codes "result") words ≡ t
      → cond t (result_on (drop 1 words)) (cond (begins (codes "split") words) (split_on (drop 1 words)) (cond (begins (codes "part") words) (part_on (drop 1 words)) (cond (begins (codes "better") words) (better_on (drop 1 words)) (cond (begins (codes "wider") words) (wider_on (drop 1 words)) (Err BadWord))))) ≡ Ok line
      → AreOf words line
  result_go false e h = split_go _ refl h
  result_go true e h = named_as (codes "result") e (result_ok (drop 1 words) line h)

  hand_go : (t : Bool) → begins (codes "hand") words ≡ t
      → cond t (hand_on (drop 1 words)) (cond (begins (codes "result") words) (result_on (drop 1 words)) (cond (begins (codes "split") words) (split_on (drop 1 words)) (cond (begins (codes "part") words) (part_on (drop 1 words)) (cond (begins (codes "better") words) (better_on (drop 1 words)) (cond (begins (codes "wider") words) (wider_on (drop 1 words)) (Err BadWord)))))) ≡ Ok line
      → AreOf words line
  hand_go false e h = result_go _ refl h
  hand_go true e h = named_as (codes "hand") e (hand_ok (drop 1 words) line h)

  event_ok : event_on words ≡ Ok line → AreOf words line
  unfolding event_on
  event_ok h = hand_go _ refl h

-- a line that was read is the event's
pub record WasRead (piece : RawLine) (line : EventLine) : Type 0 where
  pub bytes : bytes_of piece ≡ event_line line
  pub fits : FitsLine line

pub event_read : (piece : RawLine) (line : EventLine) → by_words event_on piece ≡ Ok line → WasRead piece line
event_read piece line h =
    let was = line_was event_on piece line h in
    let is = event_ok was.words line was.value in
    record { bytes = was.bytes ∙ ap line_of is.words_are; fits = is.fits }
