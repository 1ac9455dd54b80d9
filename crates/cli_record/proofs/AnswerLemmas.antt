-- The answer line and the first line of a text.
use Rattle.std.proofs.Common.{◌≡◌, ◌≤◌, Bool, true, false, cond, ℕ, List, [], ◌∷◌, length, take, Option, Some, None, find, ltb, ltb-true, codes, refl, sym, ap, ◌∙◌, take_all, length-take, arith}
use Rattle.std.specs.List.{before_first, position, position_or_len}
use Rattle.std.specs.Option.{option_map, IfSome}
use Rattle.std.proofs.lemmas.Option.{cond_some}
use Rattle.std.proofs.lemmas.Bool.Decides.{nat_tests, Decides-eqb}
use Rattle.std.proofs.lemmas.Slice.Eq.{slice_eq-Decides}
use Rattle.cli_record.specs.Answers.{is_line_feed, is_answer_line}

chosen : {X : Type 0} (p : X → Bool) (b : Bool) (y x : X) (rest : Option X) → p y ≡ b → (rest ≡ Some x → p x ≡ true) → cond b (Some y) rest ≡ Some x → p x ≡ true
chosen p true y x rest h more e = let same : y ≡ x = cc in ap p (sym same) ∙ h
chosen p false y x rest h more e = more e

-- what is found passes the test
pub passes : {X : Type 0} (p : X → Bool) (xs : List X) (x : X) → find p xs ≡ Some x → p x ≡ true
passes p [] x e = cc
passes p (y ∷ ys) x e = chosen p (p y) y x (find p ys) refl (passes p ys x) e

-- an answer line has its word and the blank
pub long : (line : List ℕ) → is_answer_line line ≡ true → 7 ≤ length line
long line h =
    let same : codes "answer " ≡ take 7 line = (slice_eq-Decides Decides-eqb (codes "answer ") (take 7 line) true (sym h)).0 refl in
    omega (arith, ap length same, length-take 7 line)

-- an answer line that is found has them
pub long_found : {X : Type 0} (v : X → List ℕ) (found : Option X) (lines : List (List ℕ)) → option_map v found ≡ find is_answer_line lines → IfSome found (λ x. 7 ≤ length (v x))
long_found v None lines e = tt
long_found v (Some x) lines e = long (v x) (passes is_answer_line lines (v x) (sym e))

uncut : (n size : ℕ) → cond (ltb n size) (Some n) None ≡ None → size ≤ n
uncut n size e = grind (arith, nat_tests)

-- a text without a line feed is its first line
pub whole_line : (text : List ℕ) → position is_line_feed text ≡ None → before_first is_line_feed text ≡ text
whole_line text e = take_all (position_or_len is_line_feed text) text (uncut (position_or_len is_line_feed text) (length text) e)

-- a text is cut at its first line feed
pub cut_line : (text : List ℕ) (end : ℕ) → position is_line_feed text ≡ Some end → before_first is_line_feed text ≡ take end text
cut_line text end e = ap (λ (n : ℕ). take n text) (cond_some _ _ _ e).1

pub cut_inside : (text : List ℕ) (end : ℕ) → position is_line_feed text ≡ Some end → end ≤ length text
cut_inside text end e =
    let cut = cond_some (ltb (position_or_len is_line_feed text) (length text)) (position_or_len is_line_feed text) end e in
    omega (arith, ltb-true (position_or_len is_line_feed text) (length text) cut.0, cut.1)
