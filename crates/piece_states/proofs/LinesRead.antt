-- A line that is read is that of what it says, word by word.
use Rattle.std.proofs.Common.{◌≡◌, ℕ, ◌≤◌, cond, Bool, true, false, List, [], ◌∷◌, length, drop, codes, Ok, Err, refl, ap, subst, ◌∙◌, arith, lit<}
use Rattle.std.specs.Fmt.{decimal}
use Rattle.field_lines.specs.Chain.{◌>>=◌}
use Rattle.field_lines.specs.RawPieces.{RawLine, bytes_of}
use Rattle.certificate_lines.specs.Words.{code}
use Rattle.certificate_lines.specs.Lines.{most, begins, counted, number_at, code_word_at, named, each}
use Rattle.certificate_lines.specs.Items.{by_words}
use Rattle.certificate_lines.specs.Fitting.{IsSet}
use Rattle.county_codes.specs.Digits.{five_digits}
use Rattle.certificate_lines.specs.declared.fault.TextKind.TheVariants.{BadWord}
use Rattle.certificate_lines.proofs.WordLaws.{bind_ok}
use Rattle.certificate_lines.proofs.FormLaws.{named_ok, counted_ok, number_at_ok, code_at_ok, codes_ok, length_map}
use Rattle.piece_states.proofs.LineWords.{empty, begins_ok, line_was, two_ok}
use Rattle.piece_states.specs.declared.line.ToldLine.{ToldLine}
use Rattle.piece_states.specs.declared.line.ToldLine.TheVariants.{Closed, Least, End}
use Rattle.piece_states.specs.PieceValue.{asked_of}
use Rattle.piece_states.specs.Text.{open_words, closed_words, asked_words, line_of}
use Rattle.piece_states.specs.TextLines.{greatest, greatest_size, open_on, closed_on, least_on, told_on}
use Rattle.piece_states.specs.Reading.{FitsAsked}

-- the words of a line behind the first
abbrev pub told_words : ToldLine → List (List ℕ)
told_words (Closed group) = closed_words group
told_words (Least asked) = asked_words (asked_of asked)
told_words End = codes "end" ∷ []

-- its numbers are in their ranges, and it may stand there
abbrev pub FitsTold : Bool → ToldLine → Type 0
FitsTold closing (Closed group) = (closing ≡ true) × IsSet group
FitsTold closing (Least asked) = FitsAsked (asked_of asked)
FitsTold closing End = Unit {0}

-- words are those of a line, whose numbers are in their ranges
pub record AreOf (closing : Bool) (words : List (List ℕ)) (line : ToldLine) : Type 0 where
  pub words_are : words ≡ told_words line
  pub fits : FitsTold closing line

closed_ok : (closing : Bool) (words : List (List ℕ)) (line : ToldLine) → closed_on closing words ≡ Ok line → AreOf closing (codes "closed" ∷ words) line
unfolding closed_on
closed_ok false words line h = cc
closed_ok true words line h =
    let a = bind_ok (counted 1 most words) _ line h in
    let b = bind_ok (each code a.value) _ line a.then in
    let few = counted_ok 1 most words a.value a.first in
    let are = codes_ok a.value b.value b.first in
    let same : Closed b.value ≡ line = cc (b.then) in
    subst (λ (l : ToldLine). AreOf true (codes "closed" ∷ words) l) same (record {
      words_are = ap (λ (ws : List (List ℕ)). codes "closed" ∷ ws) (few.same ∙ are.0);
      fits = (
        refl,
        record {
          some = omega (arith, few.from, ap length are.0, length_map five_digits b.value);
          few = omega (arith, few.to, ap length are.0, length_map five_digits b.value);
          small = are.1;
        },
      );
    })

least_ok : (closing : Bool) (words : List (List ℕ)) (line : ToldLine) → least_on words ≡ Ok line → AreOf closing (codes "least" ∷ words) line
unfolding least_on
least_ok closing words line h =
    let a = bind_ok (counted 2 2 words) _ line h in
    let b = bind_ok (code_word_at a.value) _ line a.then in
    let d = bind_ok (number_at 1 greatest_size b.value.1) _ line b.then in
    let few = counted_ok 2 2 words a.value a.first in
    let k = code_at_ok a.value b.value b.first in
    let n = number_at_ok 1 greatest_size (lit< tt) b.value.1 d.value d.first in
    let same : Least (record { county = b.value.0; size = d.value.0 }) ≡ line = cc (d.then) in
    let none : d.value.1 ≡ [] = empty d.value.1 (omega (arith, few.to, ap length k.words_are, ap length n.words_are)) in
    subst (λ (l : ToldLine). AreOf closing (codes "least" ∷ words) l) same (record {
      words_are = ap (λ (ws : List (List ℕ)). codes "least" ∷ ws) (few.same ∙ k.words_are ∙ ap (λ (ws : List (List ℕ)). five_digits b.value.0 ∷ ws) (n.words_are ∙ ap (λ (ws : List (List ℕ)). decimal d.value.0 ∷ ws) none));
      fits = (k.to, n.from, n.to);
    })

end_go : (closing : Bool) (words : List (List ℕ)) (line : ToldLine) → (counted 0 0 words >>= (λ _. Ok End)) ≡ Ok line → AreOf closing (codes "end" ∷ words) line
end_go closing words line h =
    let a = bind_ok (counted 0 0 words) _ line h in
    let few = counted_ok 0 0 words a.value a.first in
    let same : End ≡ line = cc (a.then) in
    let none : words ≡ [] = few.same ∙ empty a.value few.to in
    subst (λ (l : ToldLine). AreOf closing (codes "end" ∷ words) l) same (record {
      words_are = ap (λ (ws : List (List ℕ)). codes "end" ∷ ws) none;
      fits = tt;
    })

module _ (closing : Bool) (words : List (List ℕ)) (line : ToldLine) where
  -- the first word is this one, and what is behind it was read
  named_as : (name : List ℕ) → begins name words ≡ true → AreOf closing (name ∷ drop 1 words) line → AreOf closing words line
  named_as name e is = record { words_are = begins_ok name words e ∙ is.words_are; fits = is.fits }

  end_or : (t : Bool) → begins (codes "end") words ≡ t → cond t (counted 0 0 (drop 1 words) >>= (λ _. Ok End)) (Err BadWord) ≡ Ok line → AreOf closing words line
  end_or false e h = cc
  end_or true e h = named_as (codes "end") e (end_go closing (drop 1 words) line h)

  least_or : (t : Bool) → begins (codes "least") words ≡ t
      → cond t (least_on (drop 1 words)) (cond (begins (codes "end") words) (counted 0 0 (drop 1 words) >>= (λ _. Ok End)) (Err BadWord)) ≡ Ok line → AreOf closing words line
  least_or false e h = end_or _ refl h
  least_or true e h = named_as (codes "least") e (least_ok closing (drop 1 words) line h)

  closed_or : (t : Bool) → begins (codes "closed") words ≡ t
      → cond t (closed_on closing (drop 1 words)) (cond (begins (codes "least") words) (least_on (drop 1 words)) (cond (begins (codes "end") words) (counted 0 0 (drop 1 words) >>= (λ _. Ok End)) (Err BadWord))) ≡ Ok line
      → AreOf closing words line
  closed_or false e h = least_or _ refl h
  closed_or true e h = named_as (codes "closed") e (closed_ok closing (drop 1 words) line h)

  told_ok : told_on closing words ≡ Ok line → AreOf closing words line
  unfolding told_on
  told_ok h = closed_or _ refl h

-- a line that was read is that of what it says
pub record LineIs (closing : Bool) (piece : RawLine) (line : ToldLine) : Type 0 where
  pub bytes : bytes_of piece ≡ line_of (told_words line)
  pub fits : FitsTold closing line

pub told_read : (closing : Bool) (piece : RawLine) (line : ToldLine) → by_words (told_on closing) piece ≡ Ok line → LineIs closing piece line
told_read closing piece line h =
    let was = line_was (told_on closing) piece line h in
    let is = told_ok closing was.words line was.value in
    record { bytes = was.bytes ∙ ap line_of is.words_are; fits = is.fits }

-- a first line that was read is that of its numbers
pub record FirstIs (piece : RawLine) (first : ℕ × ℕ) : Type 0 where
  pub bytes : bytes_of piece ≡ line_of (open_words first.0 first.1)
  pub round : first.0 ≤ greatest
  pub number : first.1 ≤ greatest

record AreFirst (words : List (List ℕ)) (first : ℕ × ℕ) : Type 0 where
  pub words_are : words ≡ open_words first.0 first.1
  pub round : first.0 ≤ greatest
  pub number : first.1 ≤ greatest

open_ok : (words : List (List ℕ)) (first : ℕ × ℕ) → open_on words ≡ Ok first → AreFirst words first
unfolding open_on
open_ok words first h =
    let z = bind_ok (named (codes "open") words) _ first h in
    let two = two_ok greatest (lit< tt) z.value first greatest (lit< tt) (λ round piece. (round, piece)) z.then in
    subst (λ (l : ℕ × ℕ). AreFirst words l) two.is (record {
      words_are = named_ok (codes "open") words z.value z.first ∙ ap (λ (ws : List (List ℕ)). codes "open" ∷ ws) two.words_are;
      round = two.to;
      number = two.to_then;
    })

pub open_read : (piece : RawLine) (first : ℕ × ℕ) → by_words open_on piece ≡ Ok first → FirstIs piece first
open_read piece first h =
    let was = line_was open_on piece first h in
    let is = open_ok was.words first was.value in
    record { bytes = was.bytes ∙ ap line_of is.words_are; round = is.round; number = is.number }
