-- Lines of words and numbers: a line that is read is that of its words, and a line of few short words is read.
use Rattle.std.proofs.Common.{◌≡◌, ℕ, ◌+◌, ◌*◌, ◌<◌, ◌≤◌, ◌^◌, true, List, [], ◌∷◌, ◌++◌, length, drop, Result, Ok, refl, ap, sym, ◌∙◌, arith, length-append}
use Rattle.std.specs.Fmt.{decimal}
use Rattle.std.specs.List.{AllByRecursion, join_with_byte}
use Rattle.std.proofs.lemmas.Fmt.{decimal_nonempty, length-decimal-le}
use Rattle.field_lines.specs.Chain.{◌>>=◌}
use Rattle.field_lines.specs.Fault.{most_bytes}
use Rattle.field_lines.specs.RawPieces.{RawLine, bytes_of}
use Rattle.field_lines.proofs.NumbersBack.{decimal_digits}
use Rattle.certificate_lines.specs.Items.{by_words}
use Rattle.certificate_lines.specs.Lines.{begins, counted, number_at}
use Rattle.certificate_lines.specs.Words.{line_words}
use Rattle.certificate_lines.specs.declared.fault.TextKind.{TextKind}
use Rattle.certificate_lines.proofs.FormLaws.{named_ok, counted_ok, number_at_ok}
use Rattle.certificate_lines.proofs.TextLaws.{line_words_ok}
use Rattle.certificate_lines.proofs.WordLaws.{bind_ok}
use Rattle.certificate_text.proofs.SpellLaws.{Printed, printed_line, line_words_back}
use Rattle.certificate_text.proofs.TextBack.{IsShort, digits_shown, words_of_short}
use Rattle.piece_states.specs.Text.{line_of}
use Rattle.piece_states.specs.TextLines.{greatest}

pub empty : (words : List (List ℕ)) → length words ≤ 0 → words ≡ []
empty [] few = refl
empty (word ∷ words) few = absurd (omega (arith, few))

pub begins_ok : (name : List ℕ) (words : List (List ℕ)) → begins name words ≡ true → words ≡ name ∷ drop 1 words
begins_ok name words e = named_ok name words (drop 1 words) (rw e refl)

-- words that were read from a line, whose bytes are those of the words
pub record LineWas {X : Type 0} (read : List (List ℕ) → Result X TextKind) (piece : RawLine) (x : X) : Type 0 where
  pub words : List (List ℕ)
  pub bytes : bytes_of piece ≡ line_of words
  pub value : read words ≡ Ok x

ended_bytes : (piece : RawLine) (words : List (List ℕ)) → piece.ended ≡ true → join_with_byte 32 words ≡ piece.bytes → bytes_of piece ≡ line_of words
ended_bytes piece words ended whole = rw ended (ap (λ (bytes : List ℕ). bytes ++ 10 ∷ []) (sym whole))

pub line_was : {X : Type 0} (read : List (List ℕ) → Result X TextKind) (piece : RawLine) (x : X) → by_words read piece ≡ Ok x → LineWas read piece x
line_was read piece x h =
    let w = bind_ok (line_words piece.bytes piece.ended) read x h in
    let whole = line_words_ok piece.bytes piece.ended w.value w.first in
    record {
      words = w.value;
      bytes = ended_bytes piece w.value whole.0 whole.1;
      value = w.then;
    }

-- what one number tells, or two, and no other word
abbrev pub one_on : {X : Type 0} → (ℕ → X) → ℕ → List (List ℕ) → Result X TextKind
one_on form most words = do
  words ← counted 1 1 words
  first ← number_at 0 most words
  Ok (form first.0)

abbrev pub two_on : {X : Type 0} → (ℕ → ℕ → X) → ℕ → ℕ → List (List ℕ) → Result X TextKind
two_on form most most_then words = do
  words ← counted 2 2 words
  first ← number_at 0 most words
  second ← number_at 0 most_then first.1
  Ok (form first.0 second.0)

pub record IsOne {X : Type 0} (form : ℕ → X) (most : ℕ) (words : List (List ℕ)) (x : X) : Type 0 where
  pub first : ℕ
  pub words_are : words ≡ decimal first ∷ []
  pub to : first ≤ most
  pub is : form first ≡ x

pub record IsTwo {X : Type 0} (form : ℕ → ℕ → X) (most most_then : ℕ) (words : List (List ℕ)) (x : X) : Type 0 where
  pub first : ℕ
  pub second : ℕ
  pub words_are : words ≡ decimal first ∷ decimal second ∷ []
  pub to : first ≤ most
  pub to_then : second ≤ most_then
  pub is : form first second ≡ x

module _ {X : Type 0} (most : ℕ) (small : most < 2 ^ 64) (words : List (List ℕ)) (x : X) where
  pub one_ok : (form : ℕ → X) → one_on form most words ≡ Ok x → IsOne form most words x
  one_ok form h =
      let a = bind_ok (counted 1 1 words) _ x h in
      let b = bind_ok (number_at 0 most a.value) _ x a.then in
      let few = counted_ok 1 1 words a.value a.first in
      let n = number_at_ok 0 most small a.value b.value b.first in
      let none : b.value.1 ≡ [] = empty b.value.1 (omega (arith, few.to, ap length n.words_are)) in
      record {
        first = b.value.0;
        words_are = few.same ∙ n.words_are ∙ ap (λ (ws : List (List ℕ)). decimal b.value.0 ∷ ws) none;
        to = n.to;
        is = cc (b.then);
      }

  pub two_ok : (most_then : ℕ) → most_then < 2 ^ 64 → (form : ℕ → ℕ → X) → two_on form most most_then words ≡ Ok x → IsTwo form most most_then words x
  two_ok most_then small_then form h =
      let a = bind_ok (counted 2 2 words) _ x h in
      let b = bind_ok (number_at 0 most a.value) _ x a.then in
      let d = bind_ok (number_at 0 most_then b.value.1) _ x b.then in
      let few = counted_ok 2 2 words a.value a.first in
      let n = number_at_ok 0 most small a.value b.value b.first in
      let m = number_at_ok 0 most_then small_then b.value.1 d.value d.first in
      let none : d.value.1 ≡ [] = empty d.value.1 (omega (arith, few.to, ap length n.words_are, ap length m.words_are)) in
      record {
        first = b.value.0;
        second = d.value.0;
        words_are = few.same ∙ n.words_are ∙ ap (λ (ws : List (List ℕ)). decimal b.value.0 ∷ ws) (m.words_are ∙ ap (λ (ws : List (List ℕ)). decimal d.value.0 ∷ ws) none);
        to = n.to;
        to_then = m.to;
        is = cc (d.then);
      }

pub number_word : (n : ℕ) → n ≤ greatest → IsShort (decimal n)
number_word n few =
    let fits : n < 2 ^ 64 = omega (arith, few) in
    let small : n < 10 ^ 19 = omega (arith, few) in
    record {
      is_word = record { some = decimal_nonempty n fits; shown = digits_shown (decimal n) (decimal_digits n fits) };
      short = omega (arith, length-decimal-le 19 n (omega arith) small fits);
    }

short_line : (first : List ℕ) (words : List (List ℕ)) → IsShort first → AllByRecursion IsShort words → length (join_with_byte 32 (first ∷ words)) ≤ 21 * (length words + 1)
short_line first [] a b = omega (arith, a.short)
short_line first (w ∷ words) a b = omega (arith, a.short, short_line w words b.0 b.1, length-append first (32 ∷ join_with_byte 32 (w ∷ words)))

-- a line of these words is read as what it says
pub record IsRead {X : Type 0} (read : List (List ℕ) → Result X TextKind) (words : List (List ℕ)) (x : X) : Type 0 where
  pub printed : AllByRecursion Printed (join_with_byte 32 words)
  pub read_as : (n : ℕ) → by_words read (record { number = n; bytes = join_with_byte 32 words; ended = true }) ≡ Ok x

pub said : {X : Type 0} (read : List (List ℕ) → Result X TextKind) (first : List ℕ) (words : List (List ℕ)) (x : X) → IsShort first → AllByRecursion IsShort words → length words ≤ 256 → read (first ∷ words) ≡ Ok x
    → IsRead read (first ∷ words) x
said read first words x a b few h =
    let short : length (join_with_byte 32 (first ∷ words)) ≤ most_bytes = omega (arith, short_line first words a b, few) in
    record {
      printed = printed_line first words a.is_word (words_of_short words b);
      read_as = λ n. rw (line_words_back first words a.is_word (words_of_short words b) short) h;
    }
