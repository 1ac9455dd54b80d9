-- In a valid bound leaf each line but the last gives as many groups as are wanted.
use Rattle.std.proofs.Common.{◌≡◌, ℕ, suc, ◌+◌, ◌-◌, ◌*◌, ◌≤◌, ◌<◌, Bool, true, false, nat_lt, List, [], ◌∷◌, ◌++◌, length, refl, ap, ◌∙◌, arith, ◌⊎◌, inl, inr}
use Rattle.std.proofs.Math.Bool.{or-false}
use Rattle.std.proofs.lemmas.Bool.{le-ltb}
use Rattle.grouping_laws.specs.Problem.{Problem}
use Rattle.grouping_laws.specs.Grouping.{counts}
use Rattle.certificate_data.specs.declared.format.Format.{Format}
use Rattle.certificate_laws.specs.State.{State}
use Rattle.certificate_data.specs.Tree.{Allowance}
use Rattle.certificate_laws.specs.BoundLines.{allowance, Bounds}
use Rattle.list_laws.specs.Ends.{falls_short}
use Rattle.list_laws.specs.Shortfalls.{still_wanted, LeavesAreTold}
use Rattle.list_laws.proofs.Short.{short_here, short_behind}

some_end : (lines : List Allowance) (line : Allowance) → lines ++ line ∷ [] ≡ [] → ⊥
some_end [] line e = omega (arith, ap length e)
some_end (first ∷ lines) line e = omega (arith, ap length e)

none_more : (n : ℕ) → n + 0 ≡ n
none_more n = omega arith

module _ (format : Format) (p : Problem) (limit : ℕ) (s : State) (f : ℕ → ℕ) where
  fewer_lines : (lines : List Allowance) (i used : ℕ) → Bounds format p limit s f i used lines → length lines + i ≤ limit → falls_short p s f i used lines ≡ true
  fewer_lines [] i used b few = absurd (omega (arith, b))
  fewer_lines (line ∷ lines) i used b few = go (fewer_lines lines (i + 1) (used + i * allowance p s i used line)) b.1
    where
      go : (Bounds format p limit s f (i + 1) (used + i * allowance p s i used line) lines → length lines + (i + 1) ≤ limit → falls_short p s f (i + 1) (used + i * allowance p s i used line) lines ≡ true)
          → ((counts s.closed i + allowance p s i used line ≡ f i) × Bounds format p limit s f (i + 1) (used + i * allowance p s i used line) lines) ⊎ ((i ≤ limit) × (counts s.closed i + allowance p s i used line < f i) × (lines ≡ []))
          → falls_short p s f i used (line ∷ lines) ≡ true
      go next (inl r) = short_behind p s f i used line lines (next r.1 (omega arith))
      go next (inr r) = short_here p s f i used line lines r.1

  abbrev short_at : Allowance → ℕ → ℕ → Bool
  short_at line m n = nat_lt (counts s.closed m + allowance p s m (still_wanted s f n) line) (f m)

  same_at : (line : Allowance) (a b m n : ℕ) → a ≡ b → m ≡ n → short_at line a m ≡ short_at line b n
  same_at line a b m n d e = ap (λ z. short_at line z m) d ∙ ap (short_at line b) e

  -- behind k lines
  last_line : (lines : List Allowance) (line : Allowance) (k i used : ℕ) → i ≡ suc k → used ≡ still_wanted s f k → Bounds format p limit s f i used (lines ++ line ∷ [])
      → falls_short p s f i used (lines ++ line ∷ []) ≡ nat_lt (counts s.closed (length lines + suc k) + allowance p s (length lines + suc k) (still_wanted s f (length lines + k)) line) (f (length lines + suc k))
  last_line [] line k i used e u b = rw (e, u) (or-false (short_at line (suc k) k) ∙ same_at line (suc k) (length {A = Allowance} [] + suc k) k (length {A = Allowance} [] + k) (omega arith) (omega arith))
  last_line (first ∷ lines) line k i used e u b = go (last_line lines line (suc k) (i + 1) (used + i * allowance p s i used first)) b.1
    where
      go : (i + 1 ≡ suc (suc k) → used + i * allowance p s i used first ≡ still_wanted s f (suc k) → Bounds format p limit s f (i + 1) (used + i * allowance p s i used first) (lines ++ line ∷ [])
          → falls_short p s f (i + 1) (used + i * allowance p s i used first) (lines ++ line ∷ []) ≡ nat_lt (counts s.closed (length lines + suc (suc k)) + allowance p s (length lines + suc (suc k)) (still_wanted s f (length lines + suc k)) line) (f (length lines + suc (suc k))))
          → ((counts s.closed i + allowance p s i used first ≡ f i) × Bounds format p limit s f (i + 1) (used + i * allowance p s i used first) (lines ++ line ∷ [])) ⊎ ((i ≤ limit) × (counts s.closed i + allowance p s i used first < f i) × (lines ++ line ∷ [] ≡ []))
          → falls_short p s f i used (first ∷ lines ++ line ∷ []) ≡ nat_lt (counts s.closed (suc (length lines) + suc k) + allowance p s (suc (length lines) + suc k) (still_wanted s f (suc (length lines) + k)) line) (f (suc (length lines) + suc k))
      go next (inl r) =
          let left : allowance p s i used first ≡ f i - counts s.closed i = omega (arith, r.0) in
          let taken : i * allowance p s i used first ≡ suc k * (f (suc k) - counts s.closed (suc k)) = ap (λ z. i * z) left ∙ ap (λ z. z * (f z - counts s.closed z)) e in
          let level : nat_lt (counts s.closed i + allowance p s i used first) (f i) ≡ false = le-ltb (counts s.closed i + allowance p s i used first) (f i) (omega (arith, r.0)) in
          rw level
          (next (omega (arith, e)) (omega (arith, u, taken)) r.1
          ∙ same_at line (length lines + suc (suc k)) (suc (length lines) + suc k) (length lines + suc k) (suc (length lines) + k) (omega arith) (omega arith))
      go next (inr r) = absurd (some_end lines line r.2)

pub told : LeavesAreTold
told = record {
  fewer = λ format p limit s f lines b few. fewer_lines format p limit s f lines 1 0 b (omega arith);
  last = λ format p limit s f lines line b.
      last_line format p limit s f lines line 0 1 0 refl refl b
      ∙ same_at format p limit s f line (length lines + 1) (length lines + 1) (length lines + 0) (length lines) refl (none_more (length lines));
}
