-- Tests of values, and the lines that spell them.
use Rattle.std.proofs.Common.{◌≡◌, ℕ, ◌+◌, ◌<◌, ◌≤◌, ◌&&◌, ◌↔◌, IsTrue, Bool, true, List, [], ◌∷◌, ◌++◌, length, drop, get_or, codes, refl, ap, sym, subst, ◌∙◌, arith, length-append}
use Rattle.std.specs.Prelude.{nat_le}
use Rattle.std.specs.Fmt.{decimal}
use Rattle.std.specs.List.{AllByRecursion, list_all, flat_map}
use Rattle.std.proofs.lemmas.Bool.{and_parts, and_from, le-leb, leb-true}
use Rattle.std.proofs.lemmas.List.{at_drop_more}
use Rattle.field_lines.specs.Fault.{most_bytes}
use Rattle.certificate_lines.specs.Lines.{most, ascend}
use Rattle.certificate_lines.specs.Spelling.{weight_word}
use Rattle.certificate_lines.specs.Fitting.{AreCodes, IsSet, FitsWeight, AreWeights}
use Rattle.certificate_data.specs.declared.weights.Weight.{Weight}
use Rattle.certificate_lines.proofs.WordsWritten.{weights_line}

-- the tests of codes, both ways
abbrev is_code : ℕ → Bool
is_code c = nat_le c 99999

codes_fit : (cs : List ℕ) → list_all is_code cs ≡ true → AreCodes cs
codes_fit [] e = tt
codes_fit (c ∷ cs) e =
    let parts = and_parts (is_code c) (list_all is_code cs) e in
    (leb-true c 99999 parts.0, codes_fit cs parts.1)

codes_pass : (cs : List ℕ) → AreCodes cs → list_all is_code cs ≡ true
codes_pass [] a = refl
codes_pass (c ∷ cs) a = and_from (is_code c) (list_all is_code cs) (le-leb c 99999 a.0) (codes_pass cs a.1)

pub order_tested : (b : Bool) (cs : List ℕ) → b ≡ (nat_le (length cs) most && list_all is_code cs) → IsTrue b ↔ ((length cs ≤ most) × AreCodes cs)
order_tested b cs is = (
  (λ e.
      let parts = and_parts (nat_le (length cs) most) (list_all is_code cs) (sym is ∙ e) in
      (leb-true (length cs) most parts.0, codes_fit cs parts.1)),
  (λ fit. is ∙ and_from (nat_le (length cs) most) (list_all is_code cs) (le-leb (length cs) most fit.0) (codes_pass cs fit.1)),
)

pub set_tested : (b : Bool) (cs : List ℕ) → b ≡ (nat_le 1 (length cs) && (nat_le (length cs) most && list_all is_code cs)) → IsTrue b ↔ IsSet cs
set_tested b cs is = (
  (λ e.
      let parts = and_parts (nat_le 1 (length cs)) (nat_le (length cs) most && list_all is_code cs) (sym is ∙ e) in
      let rest = (order_tested (nat_le (length cs) most && list_all is_code cs) cs refl).0 parts.1 in
      record { some = leb-true 1 (length cs) parts.0; few = rest.0; small = rest.1 }),
  (λ fit.
      is
      ∙ and_from (nat_le 1 (length cs)) (nat_le (length cs) most && list_all is_code cs) (le-leb 1 (length cs) fit.some)
      ((order_tested (nat_le (length cs) most && list_all is_code cs) cs refl).1 (fit.few, fit.small))),
)

-- the tests of weights, both ways
abbrev in_range : Weight → Bool
in_range w = nat_le w.county 99999 && (nat_le 1 w.weight && nat_le w.weight 1000000)

abbrev pub ranges : ℕ → List Weight → Bool
ranges quota ws = nat_le 1 quota && (nat_le quota 256000000 && (list_all in_range ws && ascend ws))

each_passes : (ws : List Weight) → AllByRecursion FitsWeight ws → list_all in_range ws ≡ true
each_passes [] a = refl
each_passes (w ∷ ws) a =
    and_from (in_range w) (list_all in_range ws)
    (and_from (nat_le w.county 99999) (nat_le 1 w.weight && nat_le w.weight 1000000) (le-leb w.county 99999 a.0.county)
    (and_from (nat_le 1 w.weight) (nat_le w.weight 1000000) (le-leb 1 w.weight a.0.from) (le-leb w.weight 1000000 a.0.to)))
    (each_passes ws a.1)

each_fits : (ws : List Weight) → list_all in_range ws ≡ true → AllByRecursion FitsWeight ws
each_fits [] e = tt
each_fits (w ∷ ws) e =
    let parts = and_parts (in_range w) (list_all in_range ws) e in
    let tests = and_parts (nat_le w.county 99999) (nat_le 1 w.weight && nat_le w.weight 1000000) parts.0 in
    let ends = and_parts (nat_le 1 w.weight) (nat_le w.weight 1000000) tests.1 in
    (record { county = leb-true w.county 99999 tests.0; from = leb-true 1 w.weight ends.0; to = leb-true w.weight 1000000 ends.1 }, each_fits ws parts.1)

-- the bytes of a line of weights
abbrev pub weigh_bytes : ℕ → List Weight → List ℕ
weigh_bytes quota ws = codes "weigh " ++ (decimal quota ++ flat_map (λ w. 32 ∷ weight_word w) ws)

pub weights_pass : (quota : ℕ) (ws : List Weight) → AreWeights quota ws → (ranges quota ws ≡ true) × (nat_le (length (weigh_bytes quota ws)) most_bytes ≡ true)
weights_pass quota ws are = (
  and_from (nat_le 1 quota) (nat_le quota 256000000 && (list_all in_range ws && ascend ws)) (le-leb 1 quota are.from)
      (and_from (nat_le quota 256000000) (list_all in_range ws && ascend ws) (le-leb quota 256000000 are.to)
      (and_from (list_all in_range ws) (ascend ws) (each_passes ws are.each) are.ascending)),
  le-leb (length (weigh_bytes quota ws)) most_bytes (subst (λ (l : List ℕ). length l ≤ most_bytes) (weights_line quota ws) are.short),
)

pub weights_fit : (quota : ℕ) (ws : List Weight) → ranges quota ws ≡ true → nat_le (length (weigh_bytes quota ws)) most_bytes ≡ true → AreWeights quota ws
weights_fit quota ws e short =
    let a = and_parts (nat_le 1 quota) (nat_le quota 256000000 && (list_all in_range ws && ascend ws)) e in
    let b = and_parts (nat_le quota 256000000) (list_all in_range ws && ascend ws) a.1 in
    let d = and_parts (list_all in_range ws) (ascend ws) b.1 in
    record {
      from = leb-true 1 quota a.0;
      to = leb-true quota 256000000 b.0;
      each = each_fits ws d.0;
      ascending = d.1;
      short = subst (λ (l : List ℕ). length l ≤ most_bytes) (sym (weights_line quota ws)) (leb-true (length (weigh_bytes quota ws)) most_bytes short);
    }

-- the length of the words of weights from a place on
abbrev pub words_length : List Weight → ℕ
words_length ws = length (flat_map (λ w. 32 ∷ weight_word w) ws)

pub first_length : (quota digits : ℕ) (ws : List Weight) → digits ≡ length (decimal quota) → 6 + digits + words_length ws ≡ length (weigh_bytes quota ws)
first_length quota digits ws is = omega (arith, is, length-append (decimal quota) (flat_map (λ w. 32 ∷ weight_word w) ws))

one_length : (w : Weight) (ws : List Weight) → words_length (w ∷ ws) ≡ 7 + length (decimal w.weight) + words_length ws
one_length w ws = omega (arith, length-append (decimal w.weight) (flat_map (λ w. 32 ∷ weight_word w) ws), length-append (weight_word w) (flat_map (λ w. 32 ∷ weight_word w) ws))

pub more_length : (ws : List Weight) (i : ℕ) (w : Weight) (now digits whole : ℕ) → i < length ws → w ≡ get_or ws i w → digits ≡ length (decimal w.weight) → now + words_length (drop i ws) ≡ whole
    → now + (7 + digits) + words_length (drop (i + 1) ws) ≡ whole
more_length ws i w now digits whole inside is few same =
    let next : words_length (drop i ws) ≡ words_length (w ∷ drop (i + 1) ws) = at_drop_more words_length ws i w inside ∙ ap (λ (v : Weight). words_length (v ∷ drop (i + 1) ws)) (sym is) in
    omega (arith, same, next, one_length w (drop (i + 1) ws), few)
