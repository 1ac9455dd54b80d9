-- A number that an option's range lets through is the number that its text writes.
use Rattle.std.proofs.Common.{◌≡◌, ◌∙◌, ◌<◌, ◌≤◌, ◌^◌, ◌==◌, ℕ, Bool, cond, true, false, zero, suc, refl, sym, ap, subst, arith, List, [], ◌∷◌, drop, Option, Some, None, Result, Ok, Err}
use Rattle.std.specs.Prelude.{pos, unwrap_or, ◌≤ℤ◌}
use Rattle.std.specs.Str.Parse.{IsNumeral, ParsesUnsigned, digits_value, signed_digits_value, starts_with_minus, without_leading_plus, without_leading_sign}
use Rattle.std.proofs.Math.IntN.{neg_ℤ}
use Rattle.std.proofs.lemmas.Bool.{eqb-true, ne_eqb}
use Rattle.std.proofs.lemmas.Int.{ints}
use Rattle.std.proofs.lemmas.Str.Parse.{digit_from_value}
use Rattle.clap.specs.Lexer.{without_minus}
use Rattle.clap.specs.Matches.{ReadsOne}
use Rattle.clap.specs.Values.{IsSignedIn, IsUnsignedIn}
use Rattle.clap.proofs.CallerReads.{signed_reads}
use Rattle.cli_words.specs.Options.{Spells}

-- digits alone have no plus before them
no_plus : (ds : List ℕ) → IsNumeral 10 ds → without_leading_plus ds ≡ ds
no_plus [] h = refl
no_plus (d ∷ ds) h =
    let plus : (d == 43) ≡ false = ne_eqb _ _ (λ e. omega (arith, digit_from_value d h.1.0)) in
    ap (λ (b : Bool). drop (cond b 1 0) (d ∷ ds)) plus

without_minus-cond : (t : List ℕ) → without_minus t ≡ cond (starts_with_minus t) (drop 1 t) t
without_minus-cond [] = refl
without_minus-cond (x ∷ xs) = go (x == 45)
  where
    go : (b : Bool) → unwrap_or (cond b (Some xs) None) (x ∷ xs) ≡ cond b xs (x ∷ xs)
    go true = refl
    go false = refl

negated : (low d n : ℕ) → n ≡ d → pos low ≤ℤ neg_ℤ (pos d) → neg_ℤ (pos d) ≡ pos n
negated low zero n e h = ap pos (sym e)
negated low (suc d) n e h = absurd (omega (arith, ints, h))

-- where the number was read of the text without its minus, it is the number that the text writes
spelled : (low n : ℕ) (t : List ℕ) → n ≡ digits_value 10 (without_leading_plus (without_minus t)) → IsNumeral 10 (without_leading_sign t)
    → pos low ≤ℤ signed_digits_value 10 t → signed_digits_value 10 t ≡ pos n
spelled low n t is numeral least =
    go (starts_with_minus t) refl (is ∙ ap (λ u. digits_value 10 (without_leading_plus u)) (without_minus-cond t)) numeral least
  where
    go : (b : Bool) → starts_with_minus t ≡ b → n ≡ digits_value 10 (without_leading_plus (cond (starts_with_minus t) (drop 1 t) t))
        → IsNumeral 10 (without_leading_sign t) → pos low ≤ℤ signed_digits_value 10 t → signed_digits_value 10 t ≡ pos n
    go true minus e h l =
        let digits : IsNumeral 10 (drop 1 t) = rw minus at h in
        let plain : n ≡ digits_value 10 (drop 1 t) = (rw minus at e) ∙ ap (digits_value 10) (no_plus (drop 1 t) digits) in
        rw minus (negated low (digits_value 10 (drop 1 t)) n plain (rw minus at l))
    go false minus e h l = rw minus (ap pos (sym (rw minus at e)))

-- digits after a plus or none have no minus before them
no_minus : (t : List ℕ) → starts_with_minus t ≡ true → IsNumeral 10 (without_leading_plus t) → ⊥
no_minus [] minus numeral = absurd (omega (arith, numeral.0))
no_minus (x ∷ xs) minus numeral =
    let code : x ≡ 45 = eqb-true x 45 minus in
    let digits : IsNumeral 10 (without_leading_plus (45 ∷ xs)) = subst (λ (c : ℕ). IsNumeral 10 (without_leading_plus (c ∷ xs))) code numeral in
    omega (arith, digit_from_value 45 digits.1.0)

-- a text of digits, after a plus or none
unsigned_text : (t : List ℕ) (n : ℕ) → IsNumeral 10 (without_leading_plus t) → n ≡ digits_value 10 (without_leading_plus t) → Spells t n
unsigned_text t n numeral is = go (starts_with_minus t) refl
  where
    go : (b : Bool) → starts_with_minus t ≡ b → Spells t n
    go false plain = (rw plain numeral, rw plain (ap pos (sym is)))
    go true minus = absurd (no_minus t minus numeral)

-- a text in a range with no negative number, read at a type of k bits
pub signed_spells : (E : Type 0) (G : List ℕ → Result ℕ E → Type 0) (k low high : ℕ) (t : List ℕ) (r : Option ℕ)
    → ReadsOne G (without_minus t) r → ((u : List ℕ) (x : Result ℕ E) → G u x → ParsesUnsigned k 10 u x) → high < 2 ^ k
    → IsSignedIn (pos low) (pos high) t
    → (n : ℕ) × (r ≡ Some n) × (low ≤ n) × (n ≤ high) × Spells t n
signed_spells E G k low high t r read only fits passed =
    let got = signed_reads E G k low high t r read only fits passed in
    let parsed = only (without_minus t) (Ok got.0) (subst (λ (o : Option ℕ). ReadsOne G (without_minus t) o) got.1 read) in
    (got.0, got.1, got.2, got.3, (passed.0, spelled low got.0 t parsed.1 passed.0 passed.2))

-- a text in a range, read at a type of k bits
pub unsigned_spells : (E : Type 0) (G : List ℕ → Result ℕ E → Type 0) (k low high : ℕ) (t : List ℕ) (r : Option ℕ)
    → ReadsOne G t r → ((u : List ℕ) (x : Result ℕ E) → G u x → ParsesUnsigned k 10 u x) → high < 2 ^ k
    → IsUnsignedIn low high t
    → (n : ℕ) × (r ≡ Some n) × (low ≤ n) × (n ≤ high) × Spells t n
unsigned_spells E G k low high t None read only fits passed =
    let small : digits_value 10 (without_leading_plus t) < 2 ^ k = omega (arith, passed.3) in
    absurd (only t (Err read.0) read.1 (passed.0, small))
unsigned_spells E G k low high t (Some n) read only fits passed =
    let parsed = only t (Ok n) read in
    let is : n ≡ digits_value 10 (without_leading_plus t) = parsed.1 in
    (n, refl, omega (arith, passed.2), omega (arith, passed.3), unsigned_text t n passed.0 is)
