-- A number is read digit by digit.
use Rattle.std.proofs.Common.{◌≡◌, ℕ, ◌+◌, ◌-◌, ◌*◌, ◌<◌, ◌≤◌, Bool, true, false, ◌&&◌, List, [], ◌∷◌, length, drop, get_or, Option, Some, None, IfSome, ◌^◌, refl, sym, ◌∙◌, arith, le_refl, add-one, subst, lit<, if◌then◌else◌}
use Rattle.std.specs.List.{list_all}
use Rattle.std.specs.Char.{is_ascii_digit, digit_value}
use Rattle.std.specs.Str.Parse.{digits_value_after, digits_value}
use Rattle.std.specs.Str.Parse.{AllDigits}
use Rattle.std.proofs.lemmas.Int.Digits.{digits_value-lt}
use Rattle.std.proofs.Math.Seq.{drop-cons}
use Rattle.std.proofs.lemmas.Bool.Decides.{nat_tests}
use Rattle.std.proofs.Math.Nat.{pow-le-pow_right}
use Rattle.field_lines.specs.Number.{number_of, kept_in, number_in, digits_of}

-- both parts of a true test
both : (s t : Bool) → (s && t) ≡ true → (s ≡ true) × (t ≡ true)
both true t h = (refl, h)
both false t h = cc

pub after-ge : (n : ℕ) (ds : List ℕ) → n ≤ digits_value_after 10 n ds
after-ge n [] = le_refl n
after-ge n (c ∷ cs) = omega (arith, after-ge (n * 10 + digit_value c) cs)

-- a digit has the value that subtracting 48 gives
pub record IsDigit (c : ℕ) : Type 0 where
  pub low : 48 ≤ c
  pub high : c ≤ 57
  pub value : digit_value c ≡ c - 48

pub is_digit : (c : ℕ) → is_ascii_digit c ≡ true → IsDigit c
is_digit c passes =
    let low : 48 ≤ c = grind (arith, nat_tests, passes) in
    let high : c ≤ 57 = grind (arith, nat_tests, passes) in
    record { low = low; high = high; value = grind (arith, nat_tests) }

module _ (n : ℕ) (ds : List ℕ) (i : ℕ) (lt : i < length ds) (all : list_all is_ascii_digit (drop i ds) ≡ true) where
  rest_is : drop i ds ≡ get_or ds i 0 ∷ drop (i + 1) ds
  rest_is = rw add-one (drop-cons ds i 0 lt)

  passes : is_ascii_digit (get_or ds i 0) ≡ true
  passes = (both _ _ (rw rest_is at all)).0

  -- what is read so far is no more than the whole number
  pub so_far-le : 10 * n + (get_or ds i 0 - 48) ≤ digits_value_after 10 n (drop i ds)
  so_far-le =
      let c = get_or ds i 0 in
      let digit = is_digit c passes in
      let later = after-ge (n * 10 + digit_value c) (drop (i + 1) ds) in
      rw rest_is (omega (arith, later, digit.value))

-- digits have a value below the power of ten
all_digits : (ds : List ℕ) → list_all is_ascii_digit ds ≡ true → AllDigits 10 ds
all_digits [] all = tt
all_digits (c ∷ cs) all =
    let parts = both (is_ascii_digit c) _ all in
    let digit = is_digit c parts.0 in
    (omega (arith, digit.value), all_digits cs parts.1)

pub value_below : (ds : List ℕ) → list_all is_ascii_digit ds ≡ true → digits_value 10 ds < 10 ^ length ds
value_below ds all = digits_value-lt 10 ds (all_digits ds all)

-- digits have a value that is no more than as many nines
below_limit : (ds : List ℕ) → list_all is_ascii_digit ds ≡ true → length ds ≤ 15 → digits_value 10 ds ≤ 999999999999999
below_limit ds all few =
    let most : 10 ^ length ds ≤ 10 ^ 15 = pow-le-pow_right (lit< tt) few in
    omega (arith, value_below ds all)

kept_all : (n limit : ℕ) → n ≤ limit → kept_in 0 limit (Some n) ≡ Some n
kept_all n limit le = grind (arith, nat_tests)

-- up to fifteen digits spell a number below the limit
pub number_in-short : (field : List ℕ) → length field ≤ 15 → number_in 0 999999999999999 field ≡ number_of field
number_in-short [] few = refl
number_in-short (b ∷ bytes) few =
    elim (list_all is_ascii_digit (b ∷ bytes)) as (λ t. list_all is_ascii_digit (b ∷ bytes) ≡ t → kept_in 0 999999999999999 (if t then Some (digits_value 10 (b ∷ bytes)) else None) ≡ (if t then Some (digits_value 10 (b ∷ bytes)) else None)) [
      | true ↦ λ all. kept_all (digits_value 10 (b ∷ bytes)) 999999999999999 (below_limit (b ∷ bytes) all few)
      | false ↦ λ _. refl
    ] refl

-- the number of a field is below the power of ten of its length
pub number_of-lt : (field : List ℕ) → IfSome (number_of field) (λ n. n < 10 ^ length field)
number_of-lt [] = tt
number_of-lt (b ∷ bytes) =
    elim (list_all is_ascii_digit (b ∷ bytes)) as (λ t. list_all is_ascii_digit (b ∷ bytes) ≡ t → IfSome (if t then Some (digits_value 10 (b ∷ bytes)) else None) (λ n. n < 10 ^ length (b ∷ bytes))) [
      | true ↦ λ all. value_below (b ∷ bytes) all
      | false ↦ λ _. tt
    ] refl

digits_of-long : (count : ℕ) (field : List ℕ) → length field ≡ count → digits_of count field ≡ number_of field
digits_of-long count field long = grind (arith, nat_tests)

-- what a reader of a field up to the limit answers, where the field has the length that is asked for
pub record ReadsDigits (count : ℕ) (field : List ℕ) (r : Option ℕ) : Type 0 where
  pub value : r ≡ digits_of count field
  pub small : IfSome r (λ n. n < 10 ^ count)

pub reads_digits : (count : ℕ) (field : List ℕ) (r : Option ℕ) → length field ≡ count → count ≤ 15 → r ≡ number_in 0 999999999999999 field → ReadsDigits count field r
reads_digits count field r long few is =
    let few' : length field ≤ 15 = omega arith in
    let whole : r ≡ number_of field = is ∙ number_in-short field few' in
    record {
      value = whole ∙ sym (digits_of-long count field long);
      small = subst (λ (n : ℕ). IfSome r (λ m. m < 10 ^ n)) long (subst (λ (o : Option ℕ). IfSome o (λ m. m < 10 ^ length field)) (sym whole) (number_of-lt field));
    }
