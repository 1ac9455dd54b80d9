-- Whole lines, and bytes that are pulled behind others.
use Rattle.std.proofs.Common.{◌≡◌, ℕ, zero, suc, ◌+◌, ◌-◌, ◌≤◌, ◌<◌, ◌⊎◌, true, List, [], ◌∷◌, ◌++◌, length, take, drop, length-take, slice_range, refl, ap, sym, ◌∙◌, arith, append_assoc, append-nil, length-append, take_all, ⊎_elim, inl, inr}
use Rattle.std.specs.List.{slice_split, onto_first, join_with_byte}
use Rattle.std.proofs.lemmas.Bool.{cases_Bool}
use Rattle.std.proofs.Math.Seq.{take-append_seam, take-append-add}
use Rattle.std.proofs.lemmas.List.{take-append-drop, take-append-le, take-take}
use Rattle.std.proofs.lemmas.List.Splits.{slice_split-cons_yes, slice_split-cons_no, join_with_byte-slice_split}
use Rattle.field_lines.specs.RawPieces.{RawLine, is_lf, numbered, raw_lines, raw_lines_from}
use Rattle.field_lines.specs.Source.{Given}
use Rattle.field_lines.proofs.SplitLemmas.{parts_of}
use Rattle.certificate_lines.specs.Spelling.{item_line, item_words, text_of_items}
use Rattle.certificate_lines.specs.declared.item.Item.{Item}
use Rattle.worker_texts.specs.TextForms.{EndsWithLf, PullsOnto}

-- nothing was pulled
pub pulls_none : (given : Given) (held : List ℕ) → PullsOnto given given held held
pulls_none given held = record { pulled = []; given = sym (append-nil given.bytes); text_is = sym (append-nil held) }

-- one pull behind another
pub pulls_more : (before mid after : Given) (held text more : List ℕ) → PullsOnto before mid held text → PullsOnto mid after text more → PullsOnto before after held more
pulls_more before mid after held text more p q = record {
  pulled = p.pulled ++ q.pulled;
  given = q.given ∙ ap (λ (t : List ℕ). t ++ q.pulled) p.given ∙ append_assoc before.bytes p.pulled q.pulled;
  text_is = q.text_is ∙ ap (λ (t : List ℕ). t ++ q.pulled) p.text_is ∙ append_assoc held p.pulled q.pulled;
}

-- the front of a text that was written back
pub kept_front : (count room : ℕ) (front rest : List ℕ) → count ≤ room → count ≤ length front → take count (take room (front ++ rest)) ≡ take count front
kept_front count room front rest low bound = take-take count room (front ++ rest) low ∙ take-append-le count front rest bound

-- what was pulled behind the held bytes into a buffer that had grown
pub pulled_onto : (before after : Given) (old more grown buffer : List ℕ) (start room count : ℕ) → start ≡ length old → start ≤ room → grown ≡ take room old ++ more
    → take start buffer ≡ take start grown → start + count ≤ length buffer → after.bytes ≡ before.bytes ++ slice_range buffer start (start + count) → PullsOnto before after old (take (start + count) buffer)
pulled_onto before after old more grown buffer start room count is low grows same bound given =
    let front : take start buffer ≡ old =
    same ∙ ap (take start) (grows ∙ ap (λ (t : List ℕ). t ++ more) (take_all room old (omega (arith, is, low))))
    ∙ ap (λ (n : ℕ). take n (old ++ more)) is ∙ take-append_seam old more in
    let place : length (take start buffer) + count ≡ start + count = omega (arith, length-take start buffer, bound) in
    let many : start + count - start ≡ count = omega arith in
    record {
      pulled = slice_range buffer start (start + count);
      given = given;
      text_is = ap (λ (t : List ℕ). take (start + count) t) (sym (take-append-drop start buffer))
          ∙ ap (λ (n : ℕ). take n (take start buffer ++ drop start buffer)) (sym place)
          ∙ take-append-add (take start buffer) (drop start buffer) count
          ∙ ap (λ (t : List ℕ). t ++ take count (drop start buffer)) front
          ∙ ap (λ (n : ℕ). old ++ take n (drop start buffer)) (sym many);
    }

-- a text is cut at an LF as the texts on both sides of it are
split_at_lf : (text later : List ℕ) → slice_split is_lf (text ++ 10 ∷ later) ≡ slice_split is_lf text ++ slice_split is_lf later
split_at_lf [] later = slice_split-cons_yes is_lf 10 later refl
split_at_lf (b ∷ text) later =
    let parts = parts_of is_lf text in
    let before = split_at_lf text later in
    ⊎_elim
    (λ yes_is. slice_split-cons_yes is_lf b (text ++ 10 ∷ later) yes_is ∙ ap (λ (ps : List (List ℕ)). [] ∷ ps) before
    ∙ ap (λ (ps : List (List ℕ)). ps ++ slice_split is_lf later) (sym (slice_split-cons_yes is_lf b text yes_is)))
    (λ no_is. slice_split-cons_no is_lf b (text ++ 10 ∷ later) no_is ∙ ap (onto_first b) (before ∙ ap (λ (ps : List (List ℕ)). ps ++ slice_split is_lf later) parts.is)
    ∙ ap (λ (ps : List (List ℕ)). onto_first b ps ++ slice_split is_lf later) (sym parts.is)
    ∙ ap (λ (ps : List (List ℕ)). ps ++ slice_split is_lf later) (sym (slice_split-cons_no is_lf b text no_is)))
    (cases_Bool (is_lf b))

-- pieces that an LF ends, the first of which has the number n
abbrev ended_pieces : ℕ → List (List ℕ) → List RawLine
ended_pieces n [] = []
ended_pieces n (part ∷ parts) = record { number = n; bytes = part; ended = true } ∷ ended_pieces (n + 1) parts

ended_first : (n : ℕ) (parts : List (List ℕ)) (part : List ℕ) (more : List (List ℕ)) → numbered n (parts ++ part ∷ more) ≡ ended_pieces n parts ++ numbered (n + length parts) (part ∷ more)
ended_first n [] part more =
    let same : n ≡ n + 0 = omega arith in
    ap (λ (k : ℕ). numbered k (part ∷ more)) same
ended_first n (first ∷ []) part more =
    let same : n + 1 ≡ n + length (first ∷ []) = omega arith in
    ap (λ (k : ℕ). record { number = n; bytes = first; ended = true } ∷ numbered k (part ∷ more)) same
ended_first n (first ∷ next ∷ parts) part more =
    let same : n + 1 + length (next ∷ parts) ≡ n + length (first ∷ next ∷ parts) = omega arith in
    ap (λ (ps : List RawLine). record { number = n; bytes = first; ended = true } ∷ ps) (ended_first (n + 1) (next ∷ parts) part more)
    ∙ ap (λ (k : ℕ). ended_pieces n (first ∷ next ∷ parts) ++ numbered k (part ∷ more)) same

-- the pieces of whole lines stand in front of the pieces behind them
lines_first : (n : ℕ) (text later : List ℕ) → raw_lines_from n (text ++ 10 ∷ later) ≡ ended_pieces n (slice_split is_lf text) ++ raw_lines_from (n + length (slice_split is_lf text)) later
lines_first n text later =
    let parts = slice_split is_lf text in
    let behind = parts_of is_lf later in
    ap (numbered n) (split_at_lf text later ∙ ap (λ (ps : List (List ℕ)). parts ++ ps) behind.is)
    ∙ ended_first n parts behind.first behind.more
    ∙ ap (λ (ps : List (List ℕ)). ended_pieces n parts ++ numbered (n + length parts) ps) (sym behind.is)

-- what is read of whole lines, and of whatever lines come behind them, is read of their text with any bytes behind it
pub lines_stay : {R : Type 0} (read : List RawLine → R) (r : R) → ((pieces : List RawLine) → read pieces ≡ r → (later : List RawLine) → read (pieces ++ later) ≡ r)
    → (front later : List ℕ) → read (raw_lines (front ++ 10 ∷ [])) ≡ r → read (raw_lines (front ++ 10 ∷ later)) ≡ r
lines_stay read r stays front later h =
    let pieces = ended_pieces 1 (slice_split is_lf front) in
    let own : read pieces ≡ r = ap read (sym (append-nil pieces)) ∙ ap read (sym (lines_first 1 front [])) ∙ h in
    ap read (lines_first 1 front later) ∙ stays pieces own (raw_lines_from (1 + length (slice_split is_lf front)) later)

-- a text has at most as many lines as bytes
parts_few : (n : ℕ) (parts : List (List ℕ)) → length (numbered n parts) ≤ length (join_with_byte 10 parts)
parts_few n [] = omega arith
parts_few n ([] ∷ []) = omega arith
parts_few n ((b ∷ part) ∷ []) = omega arith
parts_few n (part ∷ next ∷ more) = omega (arith, parts_few (n + 1) (next ∷ more), length-append part (10 ∷ join_with_byte 10 (next ∷ more)))

pub lines_few : (n : ℕ) (text : List ℕ) → length (raw_lines_from n text) ≤ length text
lines_few n text = omega (arith, parts_few n (slice_split is_lf text), ap length (join_with_byte-slice_split 10 text))

pub at_least : (a b : ℕ) → (a ≤ b) ⊎ (b < a)
at_least zero b = inl (omega arith)
at_least (suc a) zero = inr (omega arith)
at_least (suc a) (suc b) = ⊎_elim (λ low. inl (omega (arith, low))) (λ high. inr (omega (arith, high))) (at_least a b)

-- a text in front of one that an LF ends
pub lf_stays : (front text : List ℕ) → EndsWithLf text → EndsWithLf (front ++ text)
lf_stays front text ends = record { front = front ++ ends.front; is = ap (λ (t : List ℕ). front ++ t) ends.is ∙ sym (append_assoc front ends.front (10 ∷ [])) }

-- lines of items behind a line
pub lf_behind : (front : List ℕ) (items : List Item) → EndsWithLf ((front ++ 10 ∷ []) ++ text_of_items items)
lf_behind front [] = record { front = front; is = append-nil (front ++ 10 ∷ []) }
lf_behind front (item ∷ items) =
    let line = join_with_byte 32 (item_words item) in
    let later = lf_behind ((front ++ 10 ∷ []) ++ line) items in
    record {
      front = later.front;
      is = sym (append_assoc (front ++ 10 ∷ []) (item_line item) (text_of_items items))
          ∙ ap (λ (t : List ℕ). t ++ text_of_items items) (sym (append_assoc (front ++ 10 ∷ []) line (10 ∷ [])))
          ∙ later.is;
    }
