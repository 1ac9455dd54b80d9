-- If bound lines fall short, no completion has the counts that are wanted.
use Rattle.std.proofs.Common.{◌≡◌, ℕ, ◌+◌, ◌*◌, ◌≤◌, ◌<◌, Bool, true, false, nat_lt, ◌||◌, List, [], ◌∷◌, refl, ap, arith, ◌⊎◌, inl, inr, add-one}
use Rattle.std.proofs.lemmas.Bool.{ltb-true, lt-ltb, false≢true}
use Rattle.grouping_laws.specs.Problem.{Problem}
use Rattle.grouping_laws.specs.Grouping.{Grouping, counts, sets_of}
use Rattle.grouping_laws.proofs.Sizes.{below, below_more}
use Rattle.certificate_data.specs.declared.format.Format.{Format}
use Rattle.certificate_laws.specs.State.{State}
use Rattle.certificate_data.specs.Tree.{Allowance}
use Rattle.certificate_laws.specs.BoundLines.{allowance, Bounds}
use Rattle.certificate_laws.proofs.Completion.{IsWhole, Completes}
use Rattle.certificate_laws.proofs.BoundLemmas.{line_fits}
use Rattle.list_laws.specs.Ends.{falls_short}

-- the first line allows too few groups
pub short_here : (p : Problem) (s : State) (f : ℕ → ℕ) (i used : ℕ) (line : Allowance) (lines : List Allowance) → counts s.closed i + allowance p s i used line < f i → falls_short p s f i used (line ∷ lines) ≡ true
short_here p s f i used line lines l = rw (lt-ltb (counts s.closed i + allowance p s i used line) (f i) l) refl

-- the lines behind the first fall short
pub short_behind : (p : Problem) (s : State) (f : ℕ → ℕ) (i used : ℕ) (line : Allowance) (lines : List Allowance) → falls_short p s f (i + 1) (used + i * allowance p s i used line) lines ≡ true → falls_short p s f i used (line ∷ lines) ≡ true
short_behind p s f i used line lines short = go (nat_lt (counts s.closed i + allowance p s i used line) (f i))
  where
    go : (b : Bool) → (b || falls_short p s f (i + 1) (used + i * allowance p s i used line) lines) ≡ true
    go true = refl
    go false = short

module _ (format : Format) (p : Problem) (s : State) (whole : IsWhole p s) (opens : Grouping) (c : Completes p s opens) where
  pub none_short : (limit : ℕ) (f : ℕ → ℕ) → ((j : ℕ) → 1 ≤ j → counts s.closed j + counts (sets_of opens) j ≡ f j)
      → (lines : List Allowance) (i used : ℕ) → Bounds format p limit s f i used lines → 1 ≤ i → used ≡ below i (sets_of opens) → falls_short p s f i used lines ≡ true → ⊥
  none_short limit f same [] i used b some e short = false≢true short
  none_short limit f same (line ∷ lines) i used b some e short =
      go (none_short limit f same lines (i + 1) (used + i * allowance p s i used line)) (nat_lt (counts s.closed i + allowance p s i used line) (f i)) refl short b.1
    where
      few : counts (sets_of opens) i ≤ allowance p s i used line
      few = line_fits format p s whole opens c line i used b.0 some e

      go : (Bounds format p limit s f (i + 1) (used + i * allowance p s i used line) lines → 1 ≤ i + 1 → used + i * allowance p s i used line ≡ below (i + 1) (sets_of opens) → falls_short p s f (i + 1) (used + i * allowance p s i used line) lines ≡ true → ⊥)
          → (x : Bool) → nat_lt (counts s.closed i + allowance p s i used line) (f i) ≡ x → (x || falls_short p s f (i + 1) (used + i * allowance p s i used line) lines) ≡ true
          → ((counts s.closed i + allowance p s i used line ≡ f i) × Bounds format p limit s f (i + 1) (used + i * allowance p s i used line) lines) ⊎ ((i ≤ limit) × (counts s.closed i + allowance p s i used line < f i) × (lines ≡ [])) → ⊥
      go next true l h r = omega (arith, few, same i some, ltb-true (counts s.closed i + allowance p s i used line) (f i) l)
      go next false l h (inr r) = omega (arith, few, same i some, r.1)
      go next false l h (inl r) =
          let exact : counts (sets_of opens) i ≡ allowance p s i used line = omega (arith, same i some, r.0) in
          next r.1 (omega arith) (omega (arith, e, below_more i (sets_of opens), ap (λ z. z * i) exact, ap (λ z. below z (sets_of opens)) (add-one i))) h
