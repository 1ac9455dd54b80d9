-- Parts that are taken from a region one after another.
use Rattle.std.proofs.Common.{◌≡◌, ℕ, ◌+◌, ◌<◌, Bool, true, false, nat_lt, ◌&&◌, not, ◌==◌, List, [], ◌∷◌, ◌++◌, length, refl, sym, ap, ◌∙◌, arith, ⊎_elim, subst}
use Rattle.std.proofs.lemmas.Bool.{and_from, and_parts, false≢true, eqb-true, ltb-true}
use Rattle.std.proofs.lemmas.Bool.Decides.{nat_tests}
use Rattle.place_sets.specs.PlaceSets.{places_of}
use Rattle.place_sets.proofs.Sums.{sum_by-append, total_ones}
use Rattle.place_sets.proofs.PlaceSets.{count-places_of, total_part, total_without}
use Rattle.grouping_laws.specs.Sets.{indicator, count, count_in}
use Rattle.grouping_laws.specs.Problem.{Problem}
use Rattle.grouping_laws.specs.Parts.{IsPart, AreParts}
use Rattle.grouping_laws.proofs.Elements.{Has, has_append, all_from_has}
use Rattle.connected_laws.proofs.PlaceLists.{placed, placed_test}

-- what was found so far: parts of the region, and a rest that touches none of them
pub record IsParted (p : Problem) (region rest : ℕ → Bool) (parts : List (List ℕ)) : Type 0 where
  pub each : (part : List ℕ) → Has parts part → IsPart p region part
  pub once : (c : ℕ) → count_in c parts + indicator (rest c) ≡ indicator (region c)
  pub apart : (x y : ℕ) → rest x ≡ true → region y ≡ true → p.adjacent x y ≡ true → rest y ≡ true

-- at the beginning all is left
pub parted_start : (p : Problem) (region rest : ℕ → Bool) → ((x : ℕ) → rest x ≡ region x) → IsParted p region rest []
parted_start p region rest same = record {
  each = λ part h. absurd h;
  once = λ c. omega (arith, ap indicator (same c));
  apart = λ x y r k t. same y ∙ k;
}

-- what is left lies in the region
pub parted_inside : (p : Problem) (region rest : ℕ → Bool) (parts : List (List ℕ)) → IsParted p region rest parts → (x : ℕ) → rest x ≡ true → region x ≡ true
parted_inside p region rest parts h x r = go (region x) refl
  where
    go : (b : Bool) → region x ≡ b → b ≡ true
    go true e = refl
    go false e = absurd (omega (arith, h.once x, ap indicator r, ap indicator e))

-- a part of what is left is a part of the region
pub parted_part : (p : Problem) (region rest : ℕ → Bool) (parts : List (List ℕ)) (part : List ℕ) → IsParted p region rest parts → IsPart p rest part → IsPart p region part
parted_part p region rest parts part h is = record {
  once = is.once;
  connected = is.connected;
  inside = λ c e. parted_inside p region rest parts h c (is.inside c e);
  whole = λ x y e k t. is.whole x y e (h.apart x y (is.inside x e) k t) t;
}

true_lt : (a b : ℕ) → a < b → nat_lt a b ≡ true
true_lt a b e = grind (arith, nat_tests)

-- one more part
pub parted_more : (p : Problem) (n : ℕ) (region rest part left : ℕ → Bool) (parts : List (List ℕ)) → ((x y : ℕ) → p.adjacent x y ≡ true → p.adjacent y x ≡ true) → ((x : ℕ) → region x ≡ true → x < n) → IsParted p region rest parts
    → IsPart p rest (places_of n part) → ((x : ℕ) → left x ≡ (rest x && not (part x))) → IsParted p region left (parts ++ places_of n part ∷ [])
parted_more p n region rest part left parts symmetric below h is w = record { each = each; once = once; apart = apart }
  where
    each : (xs : List ℕ) → Has (parts ++ places_of n part ∷ []) xs → IsPart p region xs
    each xs k = ⊎_elim (λ i. h.each xs i) (λ i. ⊎_elim (λ e. subst (IsPart p region) e (parted_part p region rest parts (places_of n part) h is)) (λ (j : ⊥). absurd j) i) (has_append parts (places_of n part ∷ []) xs k)

    share : (c : ℕ) → (a b : Bool) → rest c ≡ a → part c ≡ b → count c (places_of n part) + indicator (a && not b) ≡ indicator a
    share c true b e f = omega (arith, count-places_of n c part, one c (below c (parted_inside p region rest parts h c e)) b f)
      where
        one : (c : ℕ) → c < n → (b : Bool) → part c ≡ b → indicator (nat_lt c n && part c) + indicator (not b) ≡ 1
        one c l true f = ap (λ z. indicator z + 0) (and_from (nat_lt c n) (part c) (true_lt c n l) f)
        one c l false f = ap (λ z. indicator (nat_lt c n && z) + 1) f ∙ zero (nat_lt c n)
          where
            zero : (b : Bool) → indicator (b && false) + 1 ≡ 1
            zero true = refl
            zero false = refl
    share c false b e f = omega (arith, count-places_of n c part, none (nat_lt c n) refl)
      where
        none : (d : Bool) → nat_lt c n ≡ d → indicator (d && part c) ≡ 0
        none false l = refl
        none true l = out (part c) refl
          where
            out : (b : Bool) → part c ≡ b → indicator b ≡ 0
            out false k = refl
            out true k = absurd (false≢true (sym e ∙ is.inside c (placed n c part (ltb-true c n l) k)))

    once : (c : ℕ) → count_in c (parts ++ places_of n part ∷ []) + indicator (left c) ≡ indicator (region c)
    once c = omega (arith, h.once c, sum_by-append (count c) parts (places_of n part ∷ []), share c (rest c) (part c) refl refl, ap indicator (w c))

    apart : (x y : ℕ) → left x ≡ true → region y ≡ true → p.adjacent x y ≡ true → left y ≡ true
    apart x y l k t = w y ∙ and_from (rest y) (not (part y)) there (out (part y) refl)
      where
        both : (rest x ≡ true) × (not (part x) ≡ true)
        both = and_parts (rest x) (not (part x)) (sym (w x) ∙ l)

        there : rest y ≡ true
        there = h.apart x y both.0 k t

        out : (b : Bool) → part y ≡ b → not b ≡ true
        out false e = refl
        out true e = absurd (false≢true (sym (ap not (placed_test n x part (is.whole y x (placed n y part (below y k) e) both.0 (symmetric x y t)))) ∙ both.1))

-- fewer places are left
pub parted_fewer : (n at : ℕ) (rest part left : ℕ → Bool) → at < n → rest at ≡ true → part at ≡ true → ((x : ℕ) → left x ≡ (rest x && not (part x))) → length (places_of n left) < length (places_of n rest)
parted_fewer n at rest part left l there has w =
    omega (arith, total_without (λ x. 1) n at rest others l there (λ x. refl), total_part (λ x. 1) n left others within, total_ones (places_of n rest), total_ones (places_of n left))
  where
    others : ℕ → Bool
    others x = rest x && not (x == at)

    within : (x : ℕ) → left x ≡ true → others x ≡ true
    within x e = and_from (rest x) (not (x == at)) both.0 (other (x == at) refl)
      where
        both : (rest x ≡ true) × (not (part x) ≡ true)
        both = and_parts (rest x) (not (part x)) (sym (w x) ∙ e)

        other : (b : Bool) → (x == at) ≡ b → not b ≡ true
        other false i = refl
        other true i = absurd (false≢true (sym (ap not (ap part (eqb-true x at i) ∙ has)) ∙ both.1))

-- and when nothing is left, these are the parts
pub parted_all : (p : Problem) (region rest : ℕ → Bool) (parts : List (List ℕ)) → IsParted p region rest parts → ((x : ℕ) → rest x ≡ false) → AreParts p region parts
parted_all p region rest parts h none = record {
  each = all_from_has (IsPart p region) parts h.each;
  once = λ c. omega (arith, h.once c, ap indicator (none c));
}
