-- What steps append one after the other, they append as one.
use Rattle.std.proofs.Common.{◌≡◌, ◌∙◌, ◌+◌, ◌<◌, ◌++◌, ◌∷◌, [], ℕ, List, length, get_or, drop, Result, Ok, Err, OnOk, ap, sym, subst, append_assoc, append-nil, decimal}
use Rattle.std.proofs.lemmas.List.{at_drop_more}
use Rattle.std.specs.Result.{is_ok}
use Rattle.std.specs.Bool.{if◌then◌else◌}
use Rattle.grouping_report.specs.FaultWords.{with_number}

-- the first steps made new of old, and appended the text
pub record Appended (old text new : List ℕ) : Type 0 where
  pub is : new ≡ old ++ text

pub first : (old text : List ℕ) {new : List ℕ} → new ≡ old ++ text → Appended old text new
first old text e = record { is = e }

-- one more step
pub after : {old front mid : List ℕ} (text : List ℕ) {new : List ℕ} → Appended old front mid → new ≡ mid ++ text → Appended old (front ++ text) new
after {old} {front} text a e = record { is = e ∙ ap (λ (l : List ℕ). l ++ text) a.is ∙ append_assoc old front text }

-- the last step, which may fail
pub last : {X E : Type 0} {old front mid : List ℕ} (r : Result X E) (text new : List ℕ) → Appended old front mid → OnOk r (new ≡ mid ++ text) → OnOk r (new ≡ old ++ (front ++ text))
last (Ok x) text new a e = (after text a e).is
last (Err fault) text new a e = e

-- steps that append words and a number
pub first_number : (old words : List ℕ) (n : ℕ) {new : List ℕ} → new ≡ old ++ with_number words n → Appended old (words ++ decimal n) new
unfolding with_number
first_number old words n e = record { is = e }

pub after_number : {old front mid : List ℕ} (words : List ℕ) (n : ℕ) {new : List ℕ} → Appended old front mid → new ≡ mid ++ with_number words n → Appended old (front ++ words ++ decimal n) new
unfolding with_number
after_number {old} {front} words n a e = record { is = (after (words ++ decimal n) a e).is ∙ ap (λ (l : List ℕ). old ++ l) (sym (append_assoc front words (decimal n))) }

-- and a number that is known by another name
pub first_number_of : (old words : List ℕ) {n : ℕ} (m : ℕ) {new : List ℕ} → n ≡ m → new ≡ old ++ with_number words n → Appended old (words ++ decimal m) new
first_number_of old words m {new} same e = subst (λ (k : ℕ). Appended old (words ++ decimal k) new) same (first_number old words _ e)

pub after_number_of : {old front mid : List ℕ} (words : List ℕ) {n : ℕ} (m : ℕ) {new : List ℕ} → n ≡ m → Appended old front mid → new ≡ mid ++ with_number words n → Appended old (front ++ words ++ decimal m) new
after_number_of {old} {front} words m {new} same a e = subst (λ (k : ℕ). Appended old (front ++ words ++ decimal k) new) same (after_number words _ a e)

-- what bytes were appended, where none were refused
pub extended : {X E : Type 0} (r : Result X E) (new whole old : List ℕ) → new ≡ (if is_ok r then whole else old) → OnOk r (new ≡ whole)
extended (Ok x) new whole old e = e
extended (Err fault) new whole old e = tt

-- A loop that appends the text of one element after the other, where the text of what is left gives the whole: one
-- element more
pub step_more : (now text rest : List ℕ) {left whole new : List ℕ} → new ≡ now ++ text → left ≡ text ++ rest → now ++ left ≡ whole → new ++ rest ≡ whole
step_more now text rest e w inv = ap (λ (l : List ℕ). l ++ rest) e ∙ append_assoc now text rest ∙ ap (λ (l : List ℕ). now ++ l) (sym w) ∙ inv

-- and no more
pub step_done : (now : List ℕ) {left whole : List ℕ} → left ≡ [] → now ++ left ≡ whole → now ≡ whole
step_done now e inv = sym (append-nil now) ∙ ap (λ (l : List ℕ). now ++ l) (sym e) ∙ inv

-- what is told of a list from a place on, by the element that was read there
pub from_read : {X Y : Type 0} (F : List X → Y) (xs : List X) (i : ℕ) (x : X) → i < length xs → x ≡ get_or xs i x → F (drop i xs) ≡ F (x ∷ drop (i + 1) xs)
from_read {X} F xs i x inside is = at_drop_more F xs i x inside ∙ ap (λ (y : X). F (y ∷ drop (i + 1) xs)) (sym is)
