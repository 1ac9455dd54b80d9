-- What words are read as, and how that is written: both ways.
use Rattle.std.proofs.Common.{◌≡◌, ℕ, ◌+◌, ◌-◌, ◌*◌, ◌/◌, ◌%◌, ◌<◌, ◌≤◌, ◌^◌, ◌==◌, ◌&&◌, cond, not, Bool, true, false, List, [], ◌∷◌, ◌++◌, length, map, get_or, Some, None, Result, Ok, Err, refl, ap, sym, subst, ◌∙◌, ◌⊎◌, inl, inr, arith, rules, lit<}
use Rattle.std.specs.Fmt.{decimal}
use Rattle.std.specs.Prelude.{nat_le, nat_lt}
use Rattle.std.specs.List.{AllByRecursion, list_all, join_with_byte}
use Rattle.std.specs.Char.{is_ascii_digit}
use Rattle.std.specs.Option.{ok_or}
use Rattle.std.specs.Str.Parse.{digits_value}
use Rattle.std.proofs.lemmas.Bool.{and_parts, leb-true}
use Rattle.std.proofs.lemmas.Bool.Decides.{nat_tests}
use Rattle.std.proofs.lemmas.Fmt.{decimal-digits_value}
use Rattle.std.proofs.lemmas.List.Splits.{join_with_byte-slice_split}
use Rattle.field_lines.specs.Chain.{◌>>=◌}
use Rattle.field_lines.specs.Fields.{fields_of}
use Rattle.field_lines.specs.Number.{number_of, number_in, kept_in}
use Rattle.field_lines.proofs.NumberLemmas.{is_digit}
use Rattle.field_lines.proofs.NumbersBack.{own}
use Rattle.certificate_lines.specs.Words.{has_bytes, is_numeral, has_leading_zero, number, code, pair, halves}
use Rattle.certificate_lines.specs.Lines.{each, counted}
use Rattle.county_codes.specs.Digits.{five_digits}
use Rattle.certificate_lines.specs.Spelling.{weight_word}
use Rattle.certificate_lines.specs.declared.fault.TextKind.{TextKind}
use Rattle.certificate_lines.specs.declared.fault.TextKind.TheVariants.{BadNumber, BadWord, NotCanonical}
use Rattle.certificate_data.specs.declared.weights.Weight.{Weight}

-- a step that was made, and the one after it
pub record Bound {A B E : Type 0} (r : Result A E) (f : A → Result B E) (y : B) : Type 0 where
  pub value : A
  pub first : r ≡ Ok value
  pub then : f value ≡ Ok y

pub bind_ok : {A B E : Type 0} (r : Result A E) (f : A → Result B E) (y : B) → (r >>= f) ≡ Ok y → Bound r f y
bind_ok (Ok x) f y h = record { value = x; first = refl; then = h }
bind_ok (Err e) f y h = cc

-- a number, within its range
pub record NumberIs (least greatest : ℕ) (word : List ℕ) (n : ℕ) : Type 0 where
  pub word_is : word ≡ decimal n
  pub from : least ≤ n
  pub to : n ≤ greatest

plain_zero : (word : List ℕ) → has_leading_zero word ≡ false → 0 < length word → get_or word 0 0 ≡ 48 → length word ≡ 1
plain_zero [] e some h = absurd (omega (arith, some))
plain_zero (b ∷ []) e some h = refl
plain_zero (b ∷ c ∷ bytes) e some h =
    let is : (b == 48) ≡ true = grind (arith, nat_tests, h) in
    cc

module _ (least greatest : ℕ) (small : greatest < 2 ^ 64) where
  kept_ok : (word : List ℕ) (m n : ℕ) → 0 < length word → list_all is_ascii_digit word ≡ true → has_leading_zero word ≡ false → m ≡ digits_value 10 word
      → (b : Bool) → (nat_le least m && nat_le m greatest) ≡ b → ok_or {E = TextKind} (cond b (Some m) None) BadNumber ≡ Ok n → NumberIs least greatest word n
  kept_ok word m n some all plain is false e h = cc
  kept_ok word m n some all plain is true e h =
      let same : m ≡ n = cc in
      let parts = and_parts (nat_le least m) (nat_le m greatest) e in
      let low : least ≤ m = leb-true least m parts.0 in
      let high : m ≤ greatest = leb-true m greatest parts.1 in
      record {
        word_is = sym (decimal-digits_value own word all some (plain_zero word plain some) (omega (arith, high, is))) ∙ ap decimal (sym is ∙ same);
        from = omega (arith, low, same);
        to = omega (arith, high, same);
      }

  number_go : (word : List ℕ) (n : ℕ) (all plain : Bool) → is_numeral word ≡ all → has_leading_zero word ≡ plain
      → cond (not all) (Err BadNumber) (cond plain (Err NotCanonical) (ok_or (number_in least greatest word) BadNumber)) ≡ Ok n → NumberIs least greatest word n
  number_go word n false plain e z h = cc
  number_go word n true true e z h = cc
  number_go [] n true false e z h = cc
  number_go (b ∷ bytes) n true false e z h =
      let all : list_all is_ascii_digit (b ∷ bytes) ≡ true = (and_parts (has_bytes (b ∷ bytes)) (list_all is_ascii_digit (b ∷ bytes)) e).1 in
      let value : number_of (b ∷ bytes) ≡ Some (digits_value 10 (b ∷ bytes)) = rw all refl in
      let kept : ok_or {E = TextKind} (kept_in least greatest (Some (digits_value 10 (b ∷ bytes)))) BadNumber ≡ Ok n = rw value at h in
      kept_ok (b ∷ bytes) (digits_value 10 (b ∷ bytes)) n (omega arith) all z refl _ refl kept

  pub number_ok : (word : List ℕ) (n : ℕ) → number least greatest word ≡ Ok n → NumberIs least greatest word n
  unfolding number
  number_ok word n h = number_go word n _ _ refl refl h

-- five digits
pub record CodeIs (word : List ℕ) (n : ℕ) : Type 0 where
  pub word_is : word ≡ five_digits n
  pub to : n ≤ 99999

five_cells : (a b c d e x : ℕ) → 48 ≤ a → a ≤ 57 → 48 ≤ b → b ≤ 57 → 48 ≤ c → c ≤ 57 → 48 ≤ d → d ≤ 57 → 48 ≤ e → e ≤ 57
    → x ≡ (((((a - 48) * 10 + (b - 48)) * 10 + (c - 48)) * 10 + (d - 48)) * 10 + (e - 48)) → CodeIs (a ∷ b ∷ c ∷ d ∷ e ∷ []) x
five_cells a b c d e x a0 a1 b0 b1 c0 c1 d0 d1 e0 e1 is =
    let p : 48 + x / 10000 ≡ a = omega arith in
    let q : 48 + x / 1000 % 10 ≡ b = omega arith in
    let r : 48 + x / 100 % 10 ≡ c = omega arith in
    let s : 48 + x / 10 % 10 ≡ d = omega arith in
    let t : 48 + x % 10 ≡ e = omega arith in
    record { word_is = cc; to = omega arith }

five_ok : (word : List ℕ) (x : ℕ) → length word ≡ 5 → list_all is_ascii_digit word ≡ true → x ≡ digits_value 10 word → CodeIs word x
five_ok (a ∷ b ∷ c ∷ d ∷ e ∷ []) x long all is =
    let pa = and_parts (is_ascii_digit a) (list_all is_ascii_digit (b ∷ c ∷ d ∷ e ∷ [])) all in
    let pb = and_parts (is_ascii_digit b) (list_all is_ascii_digit (c ∷ d ∷ e ∷ [])) pa.1 in
    let pc = and_parts (is_ascii_digit c) (list_all is_ascii_digit (d ∷ e ∷ [])) pb.1 in
    let pd = and_parts (is_ascii_digit d) (list_all is_ascii_digit (e ∷ [])) pc.1 in
    let pe = and_parts (is_ascii_digit e) true pd.1 in
    let da = is_digit a pa.0 in
    let db = is_digit b pb.0 in
    let dc = is_digit c pc.0 in
    let dd = is_digit d pd.0 in
    let de = is_digit e pe.0 in
    five_cells a b c d e x da.low da.high db.low db.high dc.low dc.high dd.low dd.high de.low de.high (omega (arith, is, da.value, db.value, dc.value, dd.value, de.value))
five_ok [] x long all is = absurd (omega (arith, long))
five_ok (a ∷ []) x long all is = absurd (omega (arith, long))
five_ok (a ∷ b ∷ []) x long all is = absurd (omega (arith, long))
five_ok (a ∷ b ∷ c ∷ []) x long all is = absurd (omega (arith, long))
five_ok (a ∷ b ∷ c ∷ d ∷ []) x long all is = absurd (omega (arith, long))
five_ok (a ∷ b ∷ c ∷ d ∷ e ∷ f ∷ word) x long all is = absurd (omega (arith, long))

code_all : (word : List ℕ) (x : ℕ) → length word ≡ 5 → (t : Bool) → list_all is_ascii_digit word ≡ t → ok_or {E = TextKind} (cond t (Some (digits_value 10 word)) None) BadNumber ≡ Ok x → CodeIs word x
code_all word x long false all h = cc
code_all word x long true all h =
    let same : digits_value 10 word ≡ x = cc in
    five_ok word x long all (sym same)

code_long : (word : List ℕ) (x : ℕ) (t : Bool) → (length word == 5) ≡ t → ok_or {E = TextKind} (cond t (number_of word) None) BadNumber ≡ Ok x → CodeIs word x
code_long word x false e h = cc
code_long [] x true e h = cc
code_long (b ∷ bytes) x true e h = code_all (b ∷ bytes) x (grind (arith, nat_tests)) _ refl h

pub code_ok : (word : List ℕ) (x : ℕ) → code word ≡ Ok x → CodeIs word x
unfolding code
code_ok word x h = code_long word x _ refl h

-- a weight
pub record WeightIs (word : List ℕ) (w : Weight) : Type 0 where
  pub word_is : word ≡ weight_word w
  pub county : w.county ≤ 99999
  pub from : 1 ≤ w.weight
  pub to : w.weight ≤ 1000000

halves_ok : (word : List ℕ) (parts : List (List ℕ)) (w : Weight) → join_with_byte 58 parts ≡ word → halves parts ≡ Ok w → WeightIs word w
halves_ok word (first ∷ second ∷ []) w whole h =
    let c = bind_ok (code first) _ w h in
    let n = bind_ok (number 1 1000000 second) _ w c.then in
    let county = code_ok first c.value c.first in
    let weight = number_ok 1 1000000 (lit< tt) second n.value n.first in
    let is : record { county = c.value; weight = n.value } ≡ w = cc (n.then) in
    subst (λ (v : Weight). WeightIs word v) is (record {
      word_is = sym whole ∙ ap (λ (l : List ℕ). l ++ 58 ∷ second) county.word_is ∙ ap (λ (l : List ℕ). five_digits c.value ++ 58 ∷ l) weight.word_is;
      county = county.to;
      from = weight.from;
      to = weight.to;
    })
halves_ok word [] w whole h = cc
halves_ok word (first ∷ []) w whole h = cc
halves_ok word (first ∷ second ∷ third ∷ parts) w whole h = cc

pub pair_ok : (word : List ℕ) (w : Weight) → pair word ≡ Ok w → WeightIs word w
unfolding pair
pair_ok word w h = halves_ok word (fields_of 58 word) w (join_with_byte-slice_split 58 word) h

-- all words, each of which is written so
module _ {X : Type 0} (read : List ℕ → Result X TextKind) (write : X → List ℕ) (Fits : X → Type 0) (one : (word : List ℕ) (x : X) → read word ≡ Ok x → (word ≡ write x) × Fits x) where
  pub each_ok : (words : List (List ℕ)) (xs : List X) → each read words ≡ Ok xs → (words ≡ map write xs) × AllByRecursion Fits xs
  each_ok [] xs h =
      let none : [] ≡ xs = cc in
      subst (λ (l : List X). ([] ≡ map write l) × AllByRecursion Fits l) none (refl, tt)
  each_ok (word ∷ words) xs h =
      let x = bind_ok (read word) _ xs h in
      let more = bind_ok (each read words) _ xs x.then in
      let first = one word x.value x.first in
      let rest = each_ok words more.value more.first in
      let is : x.value ∷ more.value ≡ xs = cc (more.then) in
      subst (λ (l : List X). ((word ∷ words) ≡ map write l) × AllByRecursion Fits l) is (cc (first.0, rest.0), (first.1, rest.1))

-- a zero in front of other bytes
pub zero_before : (word : List ℕ) → 1 < length word → (get_or word 0 0 == 48) ≡ has_leading_zero word
zero_before [] long = absurd (omega arith)
zero_before (x ∷ []) long = absurd (omega arith)
zero_before (x ∷ y ∷ rest) long = search rules

pub nothing_before : (word : List ℕ) → length word ≤ 1 → nat_lt 1 (length word) ≡ has_leading_zero word
nothing_before [] short = search rules
nothing_before (x ∷ []) short = search rules
nothing_before (x ∷ y ∷ rest) short = absurd (omega arith)

-- the number of words lies between `least` and `greatest`, or it doesn't
pub counted_right : (least greatest n : ℕ) (words : List (List ℕ)) → n ≡ length words → least ≤ n → n ≤ greatest → counted least greatest words ≡ Ok words
counted_right least greatest n words is enough few = grind (arith, nat_tests)

pub counted_wrong : (least greatest n : ℕ) (words : List (List ℕ)) → n ≡ length words → (((least ≤ n) × (greatest < n)) ⊎ (n < least)) → counted least greatest words ≡ Err BadWord
counted_wrong least greatest n words is (inl many) = grind (arith, nat_tests)
counted_wrong least greatest n words is (inr few) = grind (arith, nat_tests)
