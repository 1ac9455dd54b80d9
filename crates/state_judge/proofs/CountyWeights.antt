-- Weights of a line, in the order of places.
use Rattle.std.proofs.Common.{◌≡◌, ℕ, ◌+◌, ◌≤◌, ◌<◌, Bool, true, false, cond, ◌==◌, List, [], ◌∷◌, length, get_or, refl, sym, ap, ◌∙◌, arith}
use Rattle.std.specs.Prelude.{nat_lt}
use Rattle.std.proofs.lemmas.Bool.{and_parts, ltb-true, eqb-true}
use Rattle.certificate_lines.specs.Lines.{ascend}
use Rattle.certificate_data.specs.declared.weights.Weight.{Weight}
use Rattle.state_judge.specs.Weights.{county_weight}

-- the weights behind one of the same code or a greater one give nothing
none_behind : (ws : List Weight) (w : Weight) (c : ℕ) → ascend (w ∷ ws) ≡ true → c ≤ w.county → county_weight ws c ≡ 0
none_behind [] w c e l = refl
none_behind (x ∷ ws) w c e l =
    let r = and_parts (nat_lt w.county x.county) (ascend (x ∷ ws)) e in
    let up = ltb-true w.county x.county r.0 in
    go (x.county == c) refl up (none_behind ws x c r.1 (omega (arith, up, l)))
  where
    go : (b : Bool) → (x.county == c) ≡ b → w.county < x.county → county_weight ws c ≡ 0 → cond b x.weight 0 + county_weight ws c ≡ 0
    go true k up h = absurd (omega (arith, eqb-true x.county c k, up, l))
    go false k up h = omega (arith, h)

-- the first weight of the code is the whole
pub weight_here : (w : Weight) (ws : List Weight) (c : ℕ) → ascend (w ∷ ws) ≡ true → (w.county == c) ≡ true → county_weight (w ∷ ws) c ≡ w.weight
weight_here w ws c e k = omega (arith, ap (λ b. cond b w.weight 0) k, none_behind ws w c e (omega (arith, eqb-true w.county c k)))

pub weight_later : (w : Weight) (ws : List Weight) (c : ℕ) → (w.county == c) ≡ false → county_weight (w ∷ ws) c ≡ county_weight ws c
weight_later w ws c k = omega (arith, ap (λ b. cond b w.weight 0) k)

pub ascend_later : (w : Weight) (ws : List Weight) → ascend (w ∷ ws) ≡ true → ascend ws ≡ true
ascend_later w [] e = refl
ascend_later w (x ∷ ws) e = (and_parts (nat_lt w.county x.county) (ascend (x ∷ ws)) e).1

-- the first weight of a list, where it is of the code
pub first_weight : (ws : List Weight) (w d : Weight) (c : ℕ) → 1 ≤ length ws → w ≡ get_or ws 0 d → ascend ws ≡ true → (w.county == c) ≡ true → w.weight ≡ county_weight ws c
first_weight [] w d c l e up k = absurd (omega (arith, l))
first_weight (x ∷ ws) w d c l e up k = ap (λ (z : Weight). z.weight) e ∙ sym (weight_here x ws c up (ap (λ (z : Weight). z.county == c) (sym e) ∙ k))
