-- What a text of a tolerance writes: its numbers, and its fraction in lowest terms.
use Rattle.std.proofs.Common.{◌≡◌, ◌⊎◌, ◌∙◌, ◌+◌, ◌-◌, ◌*◌, ◌/◌, ◌%◌, ◌<◌, ◌≤◌, ℕ, Bool, cond, true, false, zero, suc, refl, sym, ap, subst, inl, inr, arith, List, length, Option, Some, None, IfSome, Result, Ok, rules}
use Rattle.std.specs.Char.{is_ascii_digit}
use Rattle.std.specs.List.{find, list_all, range_with_len}
use Rattle.std.specs.Option.{option_and_then}
use Rattle.std.specs.Result.{result_ok}
use Rattle.std.specs.Str.Parse.{ParsesUnsigned, digits_value}
use Rattle.std.proofs.Math.Nat.{div-add-mod, mul-le-mul_left, le-mul_of_pos_right}
use Rattle.std.proofs.lemmas.Bool.{cases_lt, eqb-true, ne_eqb}
use Rattle.std.proofs.lemmas.Bool.Decides.{nat_tests}
use Rattle.std.proofs.lemmas.Str.Parse.{IsNumeralModel, digits_value_short, numerals_by_value, parse_gives}
use Rattle.cli_words.specs.Tolerance.{at_whole, is_whole_number, least_whole, number_in, parts_of, tolerance_of}

-- ---- numbers

own : IsNumeralModel (λ ds. list_all is_ascii_digit ds ≡ true) (digits_value 10)
own = numerals_by_value _ (search rules)

module _ (text : List ℕ) (all : list_all is_ascii_digit text ≡ true) (some : 0 < length text) (few : length text ≤ 9) where
  below : digits_value 10 text < 1000000000
  below = digits_value_short own text 9 all few

  number_is : number_in text ≡ Some (digits_value 10 text)
  number_is = rw all (grind (arith, nat_tests))

  -- one to nine digits are read
  pub number_read : {E : Type 0} (r : Result ℕ E) (o : Option ℕ) → ParsesUnsigned 64 10 text r → o ≡ result_ok r
      → (o ≡ number_in text) × IfSome o (λ n. n < 1000000000)
  number_read r o parsed is =
      let read : r ≡ Ok (digits_value 10 text) = parse_gives own 64 text r parsed all some (omega (arith, below)) in
      let value : o ≡ Some (digits_value 10 text) = is ∙ ap result_ok read in
      (value ∙ sym number_is, subst (λ (p : Option ℕ). IfSome p (λ n. n < 1000000000)) (sym value) below)

-- ---- lowest terms

more_than_500 : (parts n : ℕ) → 500 < parts → parts_of parts n ≡ None
more_than_500 parts n big = grind (arith, nat_tests)

module _ (f : ℕ × ℕ) where
  pub least_here : (n : ℕ) → n < 1001 → is_whole_number f n ≡ true → least_whole n f ≡ Some n
  unfolding least_whole
  least_here n lt is =
      let more : 1001 - n ≡ suc (1000 - n) = omega arith in
      rw more (rw is refl)

  pub least_behind : (n : ℕ) → n < 1001 → is_whole_number f n ≡ false → least_whole n f ≡ least_whole (n + 1) f
  unfolding least_whole
  least_behind n lt fails =
      let more : 1001 - n ≡ suc (1001 - (n + 1)) = omega arith in
      rw more (rw fails refl)

  pub least_nowhere : (n : ℕ) → 1001 ≤ n → least_whole n f ≡ None
  unfolding least_whole
  least_nowhere n past =
      let none : 1001 - n ≡ zero = omega arith in
      rw none refl

  -- what is found in a range
  found_in : (n k m : ℕ) → find (is_whole_number f) (range_with_len n k) ≡ Some m → (n ≤ m) × (is_whole_number f m ≡ true)
  found_in n zero m e = cc
  found_in n (suc k) m e = go (is_whole_number f n) refl e (found_in (n + 1) k m)
    where
      go : (b : Bool) → is_whole_number f n ≡ b → cond b (Some n) (find (is_whole_number f) (range_with_len (n + 1) k)) ≡ Some m
          → (find (is_whole_number f) (range_with_len (n + 1) k) ≡ Some m → (n + 1 ≤ m) × (is_whole_number f m ≡ true))
          → (n ≤ m) × (is_whole_number f m ≡ true)
      go true is h later =
          let same : n ≡ m = cc in
          (omega (arith, same), subst (λ x. is_whole_number f x ≡ true) same is)
      go false is h later = let rest = later h in (omega (arith, rest.0), rest.1)

  -- more than 500 times the whole has no part of at most 500
  too_many : (n : ℕ) → 500 * f.1 < f.0 → 1 ≤ n → is_whole_number f n ≡ true → at_whole f n ≡ None
  too_many n many some is =
      let product = f.0 * n in
      let parts = product / f.1 in
      let exact : product % f.1 ≡ 0 = eqb-true _ _ is in
      let back : f.1 * parts + product % f.1 ≡ product = div-add-mod product f.1 in
      let up : f.0 ≤ product = le-mul_of_pos_right f.0 some in
      let big : 500 < parts = go (cases_lt 500 parts) exact back up in
      more_than_500 parts n big
    where
      go : (500 < (f.0 * n) / f.1) ⊎ ((f.0 * n) / f.1 ≤ 500) → (f.0 * n) % f.1 ≡ 0 → f.1 * ((f.0 * n) / f.1) + (f.0 * n) % f.1 ≡ f.0 * n → f.0 ≤ f.0 * n
          → 500 < (f.0 * n) / f.1
      go (inl lt) exact back up = lt
      go (inr le) exact back up = absurd (omega (arith, mul-le-mul_left f.1 le, many, exact, back, up))

  found_from : (n m : ℕ) → least_whole n f ≡ Some m → (n ≤ m) × (is_whole_number f m ≡ true)
  unfolding least_whole
  found_from n m e = found_in n (1001 - n) m e

  pub none_of_many : 500 * f.1 < f.0 → option_and_then (at_whole f) (least_whole 1 f) ≡ None
  none_of_many many = go (least_whole 1 f) refl
    where
      go : (o : Option ℕ) → least_whole 1 f ≡ o → option_and_then (at_whole f) o ≡ None
      go None is = refl
      go (Some n) is = let found = found_from 1 n is in too_many n many found.0 found.1

  pub whole_number : (n : ℕ) → (f.0 * n) % f.1 ≡ 0 → is_whole_number f n ≡ true
  whole_number n is = rw is refl

  pub no_whole_number : (n : ℕ) → 0 < (f.0 * n) % f.1 → is_whole_number f n ≡ false
  no_whole_number n some = ne_eqb _ _ (λ e. omega (arith, e, some))

module _ (f : ℕ × ℕ) (proper : 0 < f.1) where
  by_least : tolerance_of f ≡ option_and_then (at_whole f) (least_whole 1 f)
  by_least = rw (ne_eqb f.1 0 (λ e. omega (arith, e, proper))) refl

  -- the tolerance at the first whole for which the part is a whole number
  pub tolerance_at : (n : ℕ) → n < 1001 → is_whole_number f n ≡ true → least_whole n f ≡ least_whole 1 f → tolerance_of f ≡ at_whole f n
  tolerance_at n lt is rest = by_least ∙ ap (option_and_then (at_whole f)) (sym rest ∙ least_here f n lt is)

  -- and none where there is no such whole up to 1,000, or the parts are too many
  pub tolerance_nowhere : (n : ℕ) → 1001 ≤ n → least_whole n f ≡ least_whole 1 f → tolerance_of f ≡ None
  tolerance_nowhere n past rest = by_least ∙ ap (option_and_then (at_whole f)) (sym rest ∙ least_nowhere f n past)

  pub tolerance_of_many : 500 * f.1 < f.0 → tolerance_of f ≡ None
  tolerance_of_many many = by_least ∙ none_of_many f many
