-- The first line of a round, read and read back.
use Rattle.std.proofs.Common.{◌≡◌, ℕ, ◌≤◌, List, [], ◌∷◌, length, codes, Ok, refl, ap, subst, ◌∙◌, arith, lit<}
use Rattle.std.specs.Fmt.{decimal}
use Rattle.field_lines.specs.RawPieces.{RawLine, bytes_of}
use Rattle.certificate_lines.specs.Items.{by_words}
use Rattle.certificate_lines.specs.Lines.{most, named, counted, number_at}
use Rattle.certificate_lines.proofs.FormLaws.{named_ok, counted_ok, number_at_ok}
use Rattle.certificate_lines.proofs.WordLaws.{bind_ok}
use Rattle.certificate_text.proofs.SpellLaws.{number_at_back}
use Rattle.certificate_text.proofs.TextBack.{named_word}
use Rattle.piece_states.specs.Text.{line_of}
use Rattle.piece_states.specs.TextLines.{greatest}
use Rattle.piece_states.proofs.LineWords.{empty, line_was, IsRead, number_word, said}
use Rattle.worker_texts.specs.RoundReading.{round_on}

-- the words of the line with these three numbers
abbrev pub first_words : ℕ × ℕ × ℕ → List (List ℕ)
first_words first = codes "round" ∷ decimal first.0 ∷ decimal first.1 ∷ decimal first.2 ∷ []

-- the numbers are in the ranges of the line
pub record FitsFirst (first : ℕ × ℕ × ℕ) : Type 0 where
  pub number : first.0 ≤ greatest
  pub limit : first.1 ≤ most
  pub groups : first.2 ≤ most

pub record AreFirst (words : List (List ℕ)) (first : ℕ × ℕ × ℕ) : Type 0 where
  pub words_are : words ≡ first_words first
  pub fits : FitsFirst first

pub round_ok : (words : List (List ℕ)) (first : ℕ × ℕ × ℕ) → round_on words ≡ Ok first → AreFirst words first
unfolding round_on
round_ok words first h =
    let z = bind_ok (named (codes "round") words) _ first h in
    let a = bind_ok (counted 3 3 z.value) _ first z.then in
    let b = bind_ok (number_at 0 greatest a.value) _ first a.then in
    let d = bind_ok (number_at 0 most b.value.1) _ first b.then in
    let e = bind_ok (number_at 0 most d.value.1) _ first d.then in
    let few = counted_ok 3 3 z.value a.value a.first in
    let n = number_at_ok 0 greatest (lit< tt) a.value b.value b.first in
    let m = number_at_ok 0 most (lit< tt) b.value.1 d.value d.first in
    let k = number_at_ok 0 most (lit< tt) d.value.1 e.value e.first in
    let same : ◌≡◌ {A = ℕ × ℕ × ℕ} (b.value.0, d.value.0, e.value.0) first = cc (e.then) in
    let none : e.value.1 ≡ [] = empty e.value.1 (omega (arith, few.to, ap length n.words_are, ap length m.words_are, ap length k.words_are)) in
    let behind = λ (word : List ℕ) (ws : List (List ℕ)). word ∷ ws in
    subst (λ (f : ℕ × ℕ × ℕ). AreFirst words f) same (record {
      words_are = named_ok (codes "round") words z.value z.first
          ∙ ap (behind (codes "round")) (few.same ∙ n.words_are ∙ ap (behind (decimal b.value.0)) (m.words_are ∙ ap (behind (decimal d.value.0)) (k.words_are ∙ ap (behind (decimal e.value.0)) none)));
      fits = record { number = n.to; limit = m.to; groups = k.to };
    })

-- a first line that was read is that of its numbers
pub record FirstIs (piece : RawLine) (first : ℕ × ℕ × ℕ) : Type 0 where
  pub bytes : bytes_of piece ≡ line_of (first_words first)
  pub fits : FitsFirst first

pub round_read : (piece : RawLine) (first : ℕ × ℕ × ℕ) → by_words round_on piece ≡ Ok first → FirstIs piece first
round_read piece first h =
    let was = line_was round_on piece first h in
    let is = round_ok was.words first was.value in
    record { bytes = was.bytes ∙ ap line_of is.words_are; fits = is.fits }

round_words_back : (first : ℕ × ℕ × ℕ) → FitsFirst first → round_on (first_words first) ≡ Ok first
unfolding round_on
round_words_back first fits =
    rw (number_at_back 0 greatest first.0 (decimal first.1 ∷ decimal first.2 ∷ []) (omega arith) fits.number (lit< tt), number_at_back 0 most first.1 (decimal first.2 ∷ []) (omega arith) fits.limit (lit< tt), number_at_back 0 most first.2 [] (omega arith) fits.groups (lit< tt)) refl

-- the line of numbers in these ranges is read as these numbers
pub round_back : (first : ℕ × ℕ × ℕ) → FitsFirst first → IsRead round_on (first_words first) first
round_back first fits =
    said round_on (codes "round") (decimal first.0 ∷ decimal first.1 ∷ decimal first.2 ∷ []) first (named_word (codes "round") refl (omega arith) (omega arith))
    (number_word first.0 fits.number, (number_word first.1 (omega (arith, fits.limit)), (number_word first.2 (omega (arith, fits.groups)), tt))) (omega arith)
    (round_words_back first fits)
