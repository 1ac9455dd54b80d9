-- What fits is read from its spelling.
use Rattle.std.proofs.Common.{◌≡◌, ℕ, ◌+◌, ◌<◌, ◌≤◌, ◌*◌, ◌^◌, ◌==◌, cond, Bool, true, false, List, [], ◌∷◌, ◌++◌, length, map, codes, Some, None, Ok, refl, ap, subst, ◌∙◌, arith, lit<}
use Rattle.std.specs.Prelude.{nat_le, nat_lt, nat_eq}
use Rattle.std.specs.Fmt.{decimal}
use Rattle.std.specs.List.{AllByRecursion, list_all, join_with_byte}
use Rattle.std.specs.Cmp.Lexicographic.{pointwise, bytes_decides}
use Rattle.std.proofs.lemmas.Bool.{and_from, le-leb, ne_eqb}
use Rattle.std.proofs.lemmas.Bool.Decides.{nat_tests}
use Rattle.std.proofs.lemmas.List.Elements.{All-from_recursion}
use Rattle.std.proofs.lemmas.List.Splits.{slice_split_none, slice_split_at}
use Rattle.field_lines.specs.Chain.{◌>>=◌}
use Rattle.field_lines.specs.Fault.{most_bytes}
use Rattle.certificate_lines.specs.Words.{words_of, has_bytes, is_printable, is_canonical, line_bytes, line_words, code, pair}
use Rattle.certificate_lines.specs.Lines.{most, begins, counted, number_at, code_word_at, each, order_on, tolerance_on, limit_on, target_on, group_on, branch_on, stuck_on, bound_on, opening_on, take_on, weigh_on, allowance_on}
use Rattle.county_codes.specs.Digits.{five_digits}
use Rattle.certificate_lines.specs.Spelling.{weight_word, item_words}
use Rattle.certificate_lines.specs.Fitting.{AreCodes, IsSet, FitsWeight, AreWeights}
use Rattle.field_lines.proofs.NumbersBack.{Digit, decimal_digits}
use Rattle.certificate_lines.proofs.BackLaws.{number_back, code_back, pair_back, each_back}
use Rattle.certificate_data.specs.declared.format.Format.{Format}
use Rattle.certificate_data.specs.declared.format.Format.TheVariants.{Plain, Wide}
use Rattle.certificate_data.specs.declared.weights.Weight.{Weight}
use Rattle.county_codes.specs.Tolerances.{is_tolerance}
use Rattle.county_codes.proofs.ToleranceLemmas.{in_range}
use Rattle.county_codes.specs.declared.group.Group.{Group}
use Rattle.county_codes.specs.declared.tolerance.Tolerance.{Tolerance}
use Rattle.certificate_data.specs.declared.allowance.Allowance.TheVariants.{Weigh}
use Rattle.certificate_lines.specs.declared.item.Opening.TheVariants.{Branch, Stuck, Bound}
use Rattle.certificate_lines.specs.declared.item.Item.TheVariants.{Within, Order, Limit, Target, Grouped, Opens, Takes, Allows}

-- a byte of a word: printed, and no blank
pub record Shown (b : ℕ) : Type 0 where
  pub from : 33 ≤ b
  pub to : b ≤ 126

-- a word has a byte, and its bytes are shown
pub record IsWord (word : List ℕ) : Type 0 where
  pub some : 0 < length word
  pub shown : AllByRecursion Shown word

no_blank : (bytes : List ℕ) → AllByRecursion Shown bytes → AllByRecursion (λ b. (b == 32) ≡ false) bytes
no_blank [] a = tt
no_blank (b ∷ bytes) a = (ne_eqb b 32 (λ e. omega (arith, e, a.0.from)), no_blank bytes a.1)

-- words, joined by blanks, are cut again
pub words_back : (first : List ℕ) (words : List (List ℕ)) → IsWord first → AllByRecursion IsWord words → words_of (join_with_byte 32 (first ∷ words)) ≡ first ∷ words
words_back first [] a b = slice_split_none (λ b. b == 32) first (All-from_recursion (λ b. (b == 32) ≡ false) first (no_blank first a.shown))
words_back first (word ∷ words) a b =
    slice_split_at (λ b. b == 32) first 32 (join_with_byte 32 (word ∷ words)) (All-from_recursion (λ b. (b == 32) ≡ false) first (no_blank first a.shown)) refl
    ∙ ap (λ (l : List (List ℕ)). first ∷ l) (words_back word words b.0 b.1)

-- bytes from blank on that are printed
pub record Printed (b : ℕ) : Type 0 where
  pub from : 32 ≤ b
  pub to : b ≤ 126

printed_append : (xs ys : List ℕ) → AllByRecursion Printed xs → AllByRecursion Printed ys → AllByRecursion Printed (xs ++ ys)
printed_append [] ys a b = b
printed_append (x ∷ xs) ys a b = (a.0, printed_append xs ys a.1 b)

printed_word : (bytes : List ℕ) → AllByRecursion Shown bytes → AllByRecursion Printed bytes
printed_word [] a = tt
printed_word (b ∷ bytes) a = (record { from = omega (arith, a.0.from); to = a.0.to }, printed_word bytes a.1)

pub printed_line : (first : List ℕ) (words : List (List ℕ)) → IsWord first → AllByRecursion IsWord words → AllByRecursion Printed (join_with_byte 32 (first ∷ words))
printed_line first [] a b = printed_word first a.shown
printed_line first (word ∷ words) a b =
    printed_append first (32 ∷ join_with_byte 32 (word ∷ words)) (printed_word first a.shown) (record { from = omega arith; to = omega arith }, printed_line word words b.0 b.1)

printed_pass : (bytes : List ℕ) → AllByRecursion Printed bytes → list_all is_printable bytes ≡ true
printed_pass [] a = refl
printed_pass (b ∷ bytes) a = and_from (is_printable b) (list_all is_printable bytes) (and_from (nat_le 32 b) (nat_le b 126) (le-leb 32 b a.0.from) (le-leb b 126 a.0.to)) (printed_pass bytes a.1)

words_pass : (words : List (List ℕ)) → AllByRecursion IsWord words → list_all has_bytes words ≡ true
words_pass [] a = refl
words_pass (word ∷ words) a = and_from (has_bytes word) (list_all has_bytes words) (let some : 0 < length word = a.0.some in grind (arith, nat_tests, some)) (words_pass words a.1)

-- a line of words is read as those words
module _ (first : List ℕ) (words : List (List ℕ)) (a : IsWord first) (b : AllByRecursion IsWord words) where
  canonical_back : is_canonical (join_with_byte 32 (first ∷ words)) ≡ true
  unfolding is_canonical
  canonical_back =
      and_from (list_all is_printable (join_with_byte 32 (first ∷ words))) (list_all has_bytes (words_of (join_with_byte 32 (first ∷ words)))) (printed_pass _ (printed_line first words a b))
      (ap (list_all has_bytes) (words_back first words a b) ∙ words_pass (first ∷ words) (a, b))

  bytes_back : (line : List ℕ) → length line ≤ most_bytes → line_bytes line true ≡ Ok line
  unfolding line_bytes
  bytes_back line short = grind (arith, nat_tests, short)

  pub line_words_back : length (join_with_byte 32 (first ∷ words)) ≤ most_bytes → line_words (join_with_byte 32 (first ∷ words)) true ≡ Ok (first ∷ words)
  unfolding line_words
  line_words_back short = rw (bytes_back (join_with_byte 32 (first ∷ words)) short, canonical_back, words_back first words a b) refl

-- the steps
pub counted_back : (least greatest : ℕ) (words : List (List ℕ)) → least ≤ length words → length words ≤ greatest → counted least greatest words ≡ Ok words
counted_back least greatest words low high = rw (le-leb least (length words) low, le-leb (length words) greatest high) refl

pub number_at_back : (least greatest n : ℕ) (words : List (List ℕ)) → least ≤ n → n ≤ greatest → greatest < 2 ^ 64 → number_at least greatest (decimal n ∷ words) ≡ Ok (n, words)
number_at_back least greatest n words low high small = rw (number_back least greatest n low high small) refl

pub code_at_back : (c : ℕ) (words : List (List ℕ)) → c ≤ 99999 → code_word_at (five_digits c ∷ words) ≡ Ok (c, words)
code_at_back c words small = rw (code_back c small) refl

pub codes_back : (cs : List ℕ) → AreCodes cs → each code (map five_digits cs) ≡ Ok cs
codes_back cs small = each_back code five_digits (λ c. c ≤ 99999) (λ c few. code_back c few) cs small

pub weights_back : (ws : List Weight) → AllByRecursion FitsWeight ws → each pair (map weight_word ws) ≡ Ok ws
weights_back ws fit = each_back pair weight_word FitsWeight (λ w f. pair_back w f.county f.from f.to) ws fit

length_map : {X Y : Type 0} (f : X → Y) (xs : List X) → length (map f xs) ≡ length xs
length_map f [] = refl
length_map f (x ∷ xs) = omega (arith, length_map f xs)

pub tolerance_back : (w : Tolerance) → is_tolerance w ≡ true → tolerance_on (item_words (Within w)) ≡ Ok w
unfolding tolerance_on
tolerance_back w fits =
    let is = in_range w fits in
    let half : nat_le (2 * w.numerator) w.denominator ≡ true = le-leb (2 * w.numerator) w.denominator is.half in
    rw (number_at_back 0 500 w.numerator (decimal w.denominator ∷ []) (omega arith) (omega (arith, is.half, is.few)) (lit< tt), number_at_back 1 1000 w.denominator [] is.some is.few (lit< tt), half) refl

pub order_back : (cs : List ℕ) → length cs ≤ most → AreCodes cs → order_on (item_words (Order cs)) ≡ Ok cs
unfolding order_on
order_back cs few small = rw (counted_back 0 most (map five_digits cs) (omega arith) (omega (arith, length_map five_digits cs, few)), codes_back cs small) refl

pub limit_back : (limit : ℕ) → limit ≤ most → limit_on (item_words (Limit limit)) ≡ Ok limit
unfolding limit_on
limit_back limit few = rw (number_at_back 0 most limit [] (omega arith) few (lit< tt)) refl

pub group_back : (g : Group) → g.seats ≤ 65535 → IsSet g.codes → group_on (item_words (Grouped g)) ≡ Ok g
unfolding group_on
group_back g seats set =
    rw (counted_back 2 (1 + most) (decimal g.seats ∷ map five_digits g.codes) (omega (arith, length_map five_digits g.codes, set.some)) (omega (arith, length_map five_digits g.codes, set.few)), number_at_back 0 65535 g.seats (map five_digits g.codes) (omega arith) seats (lit< tt), codes_back g.codes set.small) refl

pub take_back : (cs : List ℕ) → IsSet cs → take_on (item_words (Takes cs)) ≡ Ok (Some cs)
unfolding take_on
take_back cs set = rw (counted_back 1 most (map five_digits cs) (omega (arith, length_map five_digits cs, set.some)) (omega (arith, length_map five_digits cs, set.few)), codes_back cs set.small) refl

pub plain_back : (levels c : ℕ) → c ≤ 99999 → 0 < levels → opening_on Plain levels (item_words (Opens (Branch c None))) ≡ Ok (Branch c None)
unfolding opening_on branch_on
plain_back levels c small deep = rw (code_at_back c [] small, (let t : nat_lt 0 levels ≡ true = grind (arith, nat_tests, deep) in t)) refl

pub wide_back : (levels c limit : ℕ) → c ≤ 99999 → 1 ≤ limit → limit ≤ most → 0 < levels → opening_on Wide levels (item_words (Opens (Branch c (Some limit)))) ≡ Ok (Branch c (Some limit))
unfolding opening_on branch_on
wide_back levels c limit small low high deep = rw (code_at_back c (decimal limit ∷ []) small, number_at_back 1 most limit [] low high (lit< tt), (let t : nat_lt 0 levels ≡ true = grind (arith, nat_tests, deep) in t)) refl

pub stuck_back : (format : Format) (levels c : ℕ) → c ≤ 99999 → opening_on format levels (item_words (Opens (Stuck c))) ≡ Ok (Stuck c)
unfolding opening_on stuck_on
stuck_back format levels c small = rw (code_at_back c [] small) refl

pub bound_back : (format : Format) (levels n : ℕ) → n ≤ most → opening_on format levels (item_words (Opens (Bound n))) ≡ Ok (Bound n)
unfolding opening_on bound_on
bound_back format levels n few = rw (number_at_back 0 most n [] (omega arith) few (lit< tt)) refl

pub weigh_back : (quota : ℕ) (ws : List Weight) → AreWeights quota ws → allowance_on (item_words (Allows (Weigh quota ws))) ≡ Ok (Weigh quota ws)
unfolding allowance_on weigh_on
weigh_back quota ws are = rw (number_at_back 1 256000000 quota (map weight_word ws) are.from are.to (lit< tt), weights_back ws are.each, are.ascending) refl

target_go : (n : ℕ) (t : Bool) → begins (codes "none") (decimal n ∷ []) ≡ t → t ≡ false → n ≤ most → cond t (Ok None) (number_at 0 most (decimal n ∷ []) >>= λ groups. Ok (Some groups.0)) ≡ Ok (Some n)
target_go n true e f few = cc
target_go n false e f few = rw (number_at_back 0 most n [] (omega arith) few (lit< tt)) refl

-- a number isn't the word none: its bytes are digits
not_none : (bytes : List ℕ) → AllByRecursion Digit bytes → (t : Bool) → pointwise nat_eq bytes (codes "none") ≡ t → t ≡ false
not_none bytes a false e = refl
not_none bytes a true e =
    let same : bytes ≡ codes "none" = (bytes_decides bytes (codes "none")).0 e in
    let digits : AllByRecursion Digit (codes "none") = subst (λ (l : List ℕ). AllByRecursion Digit l) same a in
    absurd (omega (arith, digits.0.to))

pub target_back : (n : ℕ) → n ≤ most → target_on (item_words (Target (Some n))) ≡ Ok (Some n)
unfolding target_on
target_back n few = target_go n _ refl (not_none (decimal n) (decimal_digits n (omega (arith, few))) _ refl) few
