-- If no county is left and the bound lines don't fall short, the closed groups have the counts that are wanted.
use Rattle.std.proofs.Common.{◌≡◌, ℕ, zero, suc, ◌+◌, ◌*◌, ◌/◌, ◌≤◌, ◌<◌, Bool, true, false, nat_lt, ◌||◌, List, [], ◌∷◌, filter, length, ◌==◌, refl, sym, ◌∙◌, subst, arith, ◌⊎◌, inl, inr, le-div_iff_mul-le}
use Rattle.std.proofs.lemmas.Bool.{eqb-true, lt-ltb, false≢true, cases_order}
use Rattle.grouping_laws.specs.Sets.{indicator}
use Rattle.grouping_laws.specs.Problem.{Problem}
use Rattle.grouping_laws.specs.Grouping.{counts}
use Rattle.grouping_laws.proofs.Elements.{Has}
use Rattle.certificate_data.specs.declared.format.Format.{Format}
use Rattle.certificate_laws.specs.State.{State, open_to}
use Rattle.certificate_data.specs.Tree.{Allowance, room, weigh}
use Rattle.certificate_laws.specs.BoundLines.{allowance, room_at, Bounds}
use Rattle.list_laws.specs.Ends.{falls_short}

none_kept : (q : ℕ → Bool) (xs : List ℕ) → ((x : ℕ) → q x ≡ false) → length (filter q xs) ≡ 0
none_kept q [] none = refl
none_kept q (x ∷ xs) none = rw (none x) (none_kept q xs none)

zero_times : (x d : ℕ) → 1 ≤ d → x * d ≤ 0 → x ≡ 0
zero_times zero d h e = refl
zero_times (suc x) d h e = absurd (omega arith)

-- sets of at most `limit` counties
pub none_above : (limit i : ℕ) (sets : List (List ℕ)) → ((g : List ℕ) → Has sets g → length g ≤ limit) → limit < i → counts sets i ≡ 0
none_above limit i [] small above = refl
none_above limit i (g ∷ sets) small above = go (length g == i) refl (none_above limit i sets (λ k h. small k (inr h)) above)
  where
    go : (b : Bool) → (length g == i) ≡ b → counts sets i ≡ 0 → indicator b + counts sets i ≡ 0
    go true e h = absurd (omega (arith, small g (inl refl), eqb-true (length g) i e))
    go false e h = omega (arith, h)

module _ (p : Problem) (s : State) (none_left : (c : ℕ) → s.rest c ≡ false) where
  none_open : (i c : ℕ) → open_to s i c ≡ false
  none_open i c = rw (none_left c) refl

  no_room : (i used : ℕ) → 1 ≤ i → room_at p s i used / i ≡ 0
  no_room i used some =
      let most : (room_at p s i used / i) * i ≤ room_at p s i used = (le-div_iff_mul-le some).0 (omega arith) in
      zero_times (room_at p s i used / i) i some (omega (arith, most, none_kept (open_to s i) p.counties (none_open i)))

  no_allowance : (line : Allowance) (i used : ℕ) → 1 ≤ i → allowance p s i used line ≡ 0
  no_allowance room i used some = no_room i used some
  no_allowance (weigh quota ws) i used some = omega (arith, no_room i used some)

  pub exact : (format : Format) (limit : ℕ) (f : ℕ → ℕ) (lines : List Allowance) (i used : ℕ) → Bounds format p limit s f i used lines → 1 ≤ i → falls_short p s f i used lines ≡ false
      → (j : ℕ) → i ≤ j → j ≤ limit → counts s.closed j ≡ f j
  exact format limit f [] i used b some enough j from to = absurd (omega (arith, b))
  exact format limit f (line ∷ lines) i used b some enough j from to =
      go (exact format limit f lines (i + 1) (used + i * allowance p s i used line)) (nat_lt (counts s.closed i + allowance p s i used line) (f i)) refl enough b.1 (cases_order i j)
    where
      go : (Bounds format p limit s f (i + 1) (used + i * allowance p s i used line) lines → 1 ≤ i + 1 → falls_short p s f (i + 1) (used + i * allowance p s i used line) lines ≡ false → (j : ℕ) → i + 1 ≤ j → j ≤ limit → counts s.closed j ≡ f j)
          → (x : Bool) → nat_lt (counts s.closed i + allowance p s i used line) (f i) ≡ x → (x || falls_short p s f (i + 1) (used + i * allowance p s i used line) lines) ≡ false
          → ((counts s.closed i + allowance p s i used line ≡ f i) × Bounds format p limit s f (i + 1) (used + i * allowance p s i used line) lines) ⊎ ((i ≤ limit) × (counts s.closed i + allowance p s i used line < f i) × (lines ≡ []))
          → (i ≡ j) ⊎ ((i < j) ⊎ (j < i)) → counts s.closed j ≡ f j
      go next true l h r o = absurd (false≢true (sym h))
      go next false l h (inr r) o = absurd (false≢true (sym l ∙ lt-ltb (counts s.closed i + allowance p s i used line) (f i) r.1))
      go next false l h (inl r) (inl e) = subst (λ z. counts s.closed z ≡ f z) e (omega (arith, r.0, no_allowance line i used some))
      go next false l h (inl r) (inr (inl o)) = next r.1 (omega arith) h j (omega arith) to
      go next false l h (inl r) (inr (inr o)) = absurd (omega arith)
