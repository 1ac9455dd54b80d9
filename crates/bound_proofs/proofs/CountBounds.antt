-- Bound leaves of count lines, from size to size.
use Rattle.std.proofs.Common.{◌≡◌, ℕ, ◌+◌, ◌*◌, ◌≤◌, ◌<◌, List, [], ◌∷◌, ◌++◌, map, length, refl, sym, ap, ◌∙◌, subst, arith, inl, inr, ⊎_elim}
use Rattle.std.proofs.lemmas.List.{map-append, length-map}
use Rattle.grouping_laws.specs.Problem.{Problem}
use Rattle.grouping_laws.specs.Grouping.{counts}
use Rattle.certificate_data.specs.declared.format.Format.{Format}
use Rattle.certificate_data.specs.Round.{Round}
use Rattle.certificate_laws.specs.State.{State}
use Rattle.certificate_data.specs.Tree.{Allowance}
use Rattle.certificate_laws.specs.BoundLines.{allowance, Bounds}
use Rattle.certificate_laws.specs.Search.{IsCountLine, AreCountLines}
use Rattle.bound_proofs.specs.CountLeaves.{BoundBy, BoundByNone}
use Rattle.bound_proofs.proofs.CountWeights.{count_fair}

-- one more count line
one_more_line : (format : Format) (p : Problem) (s : State) (i : ℕ) (lines : List Allowance) (line : Allowance) → AreCountLines format p s i lines → IsCountLine format p s (i + length lines) line → AreCountLines format p s i (lines ++ line ∷ [])
one_more_line format p s i [] line are is = (subst (λ n. IsCountLine format p s n line) (omega arith) is, tt)
one_more_line format p s i (x ∷ lines) line are is = (are.0, one_more_line format p s (i + 1) lines line are.1 (subst (λ n. IsCountLine format p s n line) (omega arith) is))

-- one more value that stands for a count line
pub pushed_line : {X : Type 0} (f : X → Allowance) (format : Format) (p : Problem) (s : State) (olds news : List X) (x : X) (i : ℕ) → news ≡ olds ++ x ∷ [] → AreCountLines format p s 1 (map f olds) → i ≡ 1 + length olds → IsCountLine format p s i (f x)
    → AreCountLines format p s 1 (map f news)
pushed_line f format p s olds news x i push are e is =
    subst (AreCountLines format p s 1) (sym (ap (map f) push ∙ map-append f olds (x ∷ [])))
    (one_more_line format p s 1 (map f olds) (f x) are (subst (λ n. IsCountLine format p s n (f x)) (omega (arith, e, length-map olds f)) is))

module _ (p : Problem) (round : Round) (s : State) (wanted : ℕ → ℕ) where
  abbrev pub Bounded : ℕ → ℕ → List Allowance → Type 0
  Bounded i used lines = Bounds round.format p round.limit s wanted i used lines

  abbrev pub Counted : ℕ → List Allowance → Type 0
  Counted i lines = AreCountLines round.format p s i lines

  -- the lines for sizes above k
  pub record Later (k : ℕ) (lines : List Allowance) : Type 0 where
    pub later : List Allowance
    pub number : length lines ≡ k + length later
    pub counted : Counted (k + 1) later

  -- Through size `k` a count line for each size gives as many groups as wanted, and uses `used` counties: count lines
  -- are a bound exactly where those above k are.
  pub record ReachedBy (k used : ℕ) : Type 0 where
    pub only_if : (lines : List Allowance) → Counted 1 lines → Bounded 1 0 lines → (rest : Later k lines) × Bounded (k + 1) used rest.later
    pub enough : (lines : List Allowance) → Counted 1 lines → k ≤ length lines → (rest : Later k lines) × (Bounded (k + 1) used rest.later → Bounded 1 0 lines)

  pub reached_first : ReachedBy 0 0
  reached_first = record {
    only_if = λ lines are b. (record { later = lines; number = omega arith; counted = are }, b);
    enough = λ lines are l. (record { later = lines; number = omega arith; counted = are }, λ b. b);
  }

  module _ (k used more : ℕ) (is : (line : Allowance) → IsCountLine round.format p s (k + 1) line → allowance p s (k + 1) used line ≡ more) (reached : ReachedBy k used) where
    -- where a size gives as many groups as wanted, the next one is reached
    pub reached_next : k < round.limit → counts s.closed (k + 1) + more ≡ wanted (k + 1) → (next all : ℕ) → next ≡ k + 1 → all ≡ used + next * more → ReachedBy next all
    reached_next below even next all f h =
        subst (λ n. ReachedBy n all) (sym f) (subst (ReachedBy (k + 1)) (sym (h ∙ ap (λ n. used + n * more) f)) (record { only_if = onward; enough = back }))
      where
        onward : (lines : List Allowance) → Counted 1 lines → Bounded 1 0 lines → (rest : Later (k + 1) lines) × Bounded (k + 1 + 1) (used + (k + 1) * more) rest.later
        onward lines are b = let r = reached.only_if lines are b in go r.0.later r.0.number r.0.counted r.1
          where
            go : (later : List Allowance) → length lines ≡ k + length later → Counted (k + 1) later → Bounded (k + 1) used later → (rest : Later (k + 1) lines) × Bounded (k + 1 + 1) (used + (k + 1) * more) rest.later
            go [] e c b = absurd (omega (arith, b, below))
            go (x ∷ xs) e c b = ⊎_elim
                (λ o. (record { later = xs; number = omega (arith, e); counted = c.1 }, subst (λ n. Bounded (k + 1 + 1) (used + (k + 1) * n) xs) (is x c.0) o.1))
                (λ o. absurd (omega (arith, o.1, is x c.0, even)))
                b.1

        back : (lines : List Allowance) → Counted 1 lines → k + 1 ≤ length lines → (rest : Later (k + 1) lines) × (Bounded (k + 1 + 1) (used + (k + 1) * more) rest.later → Bounded 1 0 lines)
        back lines are l = let r = reached.enough lines are (omega (arith, l)) in go r.0.later r.0.number r.0.counted r.1
          where
            go : (later : List Allowance) → length lines ≡ k + length later → Counted (k + 1) later → (Bounded (k + 1) used later → Bounded 1 0 lines)
                → (rest : Later (k + 1) lines) × (Bounded (k + 1 + 1) (used + (k + 1) * more) rest.later → Bounded 1 0 lines)
            go [] e c b = absurd (omega (arith, e, l))
            go (x ∷ xs) e c b = (
              record { later = xs; number = omega (arith, e); counted = c.1 },
              λ h. b (
                count_fair round.format p s (k + 1) x c.0 (omega arith),
                inl (omega (arith, is x c.0, even), subst (λ n. Bounded (k + 1 + 1) (used + (k + 1) * n) xs) (sym (is x c.0)) h),
              ),
            )

    -- where a size gives fewer, the lines through it are a bound
    pub bound_at_loss : k < round.limit → counts s.closed (k + 1) + more < wanted (k + 1) → (next : ℕ) → next ≡ k + 1 → BoundBy p round s wanted next
    bound_at_loss below less next f lines number are = let r = reached.enough lines are (omega (arith, number, f)) in go r.0.later r.0.number r.0.counted r.1
      where
        go : (later : List Allowance) → length lines ≡ k + length later → Counted (k + 1) later → (Bounded (k + 1) used later → Bounded 1 0 lines) → Bounded 1 0 lines
        go [] e c b = absurd (omega (arith, e, number, f))
        go (x ∷ []) e c b = b (count_fair round.format p s (k + 1) x c.0 (omega arith), inr (omega (arith, below), omega (arith, is x c.0, less), refl))
        go (x ∷ y ∷ ys) e c b = absurd (omega (arith, e, number, f))

    -- where a size gives more, no lines are
    pub none_at_more : k < round.limit → wanted (k + 1) < counts s.closed (k + 1) + more → (most : ℕ) → BoundByNone p round s wanted most
    none_at_more below over most lines few are b = let r = reached.only_if lines are b in go r.0.later r.0.counted r.1
      where
        go : (later : List Allowance) → Counted (k + 1) later → Bounded (k + 1) used later → ⊥
        go [] c b = omega (arith, b, below)
        go (x ∷ xs) c b = ⊎_elim (λ o. omega (arith, o.0, is x c.0, over)) (λ o. omega (arith, o.1, is x c.0, over)) b.1

  module _ (k used : ℕ) (reached : ReachedBy k used) where
    -- at the limit the lines are a bound
    pub bound_at_limit : k ≡ round.limit → BoundBy p round s wanted k
    bound_at_limit last lines number are = let r = reached.enough lines are (omega (arith, number)) in go r.0.later r.0.number r.1
      where
        go : (later : List Allowance) → length lines ≡ k + length later → (Bounded (k + 1) used later → Bounded 1 0 lines) → Bounded 1 0 lines
        go [] e b = b (omega (arith, last))
        go (x ∷ xs) e b = absurd (omega (arith, e, number))

    -- below it they are too few
    pub none_below_limit : k < round.limit → BoundByNone p round s wanted k
    none_below_limit below lines few are b = let r = reached.only_if lines are b in go r.0.later r.0.number r.1
      where
        go : (later : List Allowance) → length lines ≡ k + length later → Bounded (k + 1) used later → ⊥
        go [] e b = omega (arith, b, below)
        go (x ∷ xs) e b = omega (arith, e, few)
