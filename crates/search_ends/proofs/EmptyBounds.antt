-- What empty lines come to: they allow no group, so the lines behind them bound the groups from their sizes on.
use Rattle.std.proofs.Common.{◌≡◌, ℕ, ◌+◌, ◌-◌, ◌*◌, ◌/◌, ◌≤◌, ◌<◌, min, true, List, [], ◌∷◌, ◌++◌, map, length, refl, sym, ap, ◌∙◌, subst, arith, inl, inr, All}
use Rattle.std.proofs.lemmas.List.{map-append, length-append}
use Rattle.std.proofs.Math.Nat.{div-eq_of_lt, zero-div}
use Rattle.grouping_laws.specs.Sets.{sum_by, contains}
use Rattle.grouping_laws.specs.Problem.{Problem}
use Rattle.grouping_laws.specs.Grouping.{counts}
use Rattle.grouping_laws.proofs.Elements.{all_from_has}
use Rattle.certificate_data.specs.declared.format.Format.{Format}
use Rattle.certificate_laws.specs.Regions.{listed}
use Rattle.certificate_laws.specs.State.{State, open_to}
use Rattle.certificate_laws.specs.Fitting.{Fits}
use Rattle.certificate_data.specs.Tree.{Weight, Allowance, room, weigh}
use Rattle.certificate_laws.specs.BoundLines.{weight_of, room_at, allowance, IsFair, Bounds}
use Rattle.search_ends.specs.EmptyLines.{IsEmptyLine, AreEmptyFrom, AreEmptyThrough}

one_more_empty : (p : Problem) (s : State) (i : ℕ) (lines : List Allowance) (line : Allowance) → AreEmptyFrom p s i lines → (n : ℕ) → n ≡ i + length lines → IsEmptyLine p s n line → AreEmptyFrom p s i (lines ++ line ∷ [])
one_more_empty p s i [] line are n e is = (subst (λ k. IsEmptyLine p s k line) (omega (arith, e)) is, tt)
one_more_empty p s i (x ∷ xs) line are n e is = (are.0, one_more_empty p s (i + 1) xs line are.1 n (omega (arith, e)) is)

-- one more value that stands for an empty line
pub pushed_empty : {X : Type 0} (f : X → Allowance) (p : Problem) (s : State) (n : ℕ) (olds news : List X) (x : X) → news ≡ olds ++ x ∷ [] → AreEmptyThrough p s n (map f olds) → IsEmptyLine p s (n + 1) (f x) → AreEmptyThrough p s (n + 1) (map f news)
pushed_empty f p s n olds news x push are is =
    subst (AreEmptyThrough p s (n + 1)) (sym (ap (map f) push ∙ map-append f olds (x ∷ []))) (record {
      number = omega (arith, length-append (map f olds) (f x ∷ []), are.number);
      empty = one_more_empty p s 1 (map f olds) (f x) are.empty (n + 1) (omega (arith, are.number)) is;
    })

total_none : {X : Type 0} (xs : List X) → sum_by (λ x. 0) xs ≡ 0
total_none [] = refl
total_none (x ∷ xs) = omega (arith, total_none xs)

less_none : (n : ℕ) → n - 0 ≡ n
less_none n = omega arith

least_none : (a : ℕ) → min a 0 ≡ 0
least_none a = omega arith

-- no weights are shared by no group
none_shared : (a quota : ℕ) (xs : List ℕ) (ws : List Weight) → ws ≡ [] → min a (sum_by (weight_of ws) xs / quota) ≡ 0
none_shared a quota xs ws e =
    ap (λ (z : List Weight). min a (sum_by (weight_of z) xs / quota)) e
    ∙ (ap (λ n. min a (n / quota)) (total_none xs) ∙ (ap (min a) (zero-div quota) ∙ least_none a))

-- an empty line allows no group
pub empty_allows : (p : Problem) (s : State) (i : ℕ) (line : Allowance) → IsEmptyLine p s i line → allowance p s i 0 line ≡ 0
empty_allows p s i room l = ap (λ n. n / i) (less_none (length (listed p (open_to s i)))) ∙ div-eq_of_lt l
empty_allows p s i (weigh quota ws) e = none_shared (room_at p s i 0 / i) quota (listed p (open_to s i)) ws e.1

-- and is fair where no group fits
pub empty_fair : (format : Format) (p : Problem) (s : State) (i : ℕ) (line : Allowance) → IsEmptyLine p s i line → ((g : List ℕ) → Fits format p s g → length g ≡ i → ⊥) → IsFair format p s i line
empty_fair format p s i room l none = tt
empty_fair format p s i (weigh quota ws) e none = (
  omega (arith, e.0),
  subst (All (λ (w : Weight). contains p.counties w.county ≡ true)) (sym e.1) (all_from_has (λ (w : Weight). contains p.counties w.county ≡ true) [] (λ w h. absurd h)),
  λ g fits size. absurd (none g fits size),
)

-- lines that allow no group use no county up
pub none_used : (i a : ℕ) → a ≡ 0 → 0 ≡ 0 + i * a
none_used i a e = sym (ap (λ n. 0 + i * n) e ∙ times_none i)
  where
    times_none : (i : ℕ) → 0 + i * 0 ≡ 0
    times_none i = omega arith

module _ (format : Format) (p : Problem) (limit : ℕ) (s : State) (wanted : ℕ → ℕ) where
  abbrev pub BoundFrom : ℕ → List Allowance → Type 0
  BoundFrom i lines = Bounds format p limit s wanted i 0 lines

  -- no group of fewer counties fits
  abbrev pub NoneBelow : ℕ → Type 0
  NoneBelow n = (g : List ℕ) → Fits format p s g → length g < n → ⊥

  -- of the sizes from i below n there are as many closed groups as are wanted
  abbrev pub IsLevelFrom : ℕ → ℕ → Type 0
  IsLevelFrom i n = (j : ℕ) → i ≤ j → j < n → counts s.closed j ≡ wanted j

  one_empty : (i : ℕ) (x : Allowance) (xs : List Allowance) → IsEmptyLine p s i x → NoneBelow (i + 1) → counts s.closed i ≡ wanted i → BoundFrom (i + 1) xs → BoundFrom i (x ∷ xs)
  one_empty i x xs is none even b =
      let nothing = empty_allows p s i x is in (
        empty_fair format p s i x is (λ g fits e. none g fits (omega (arith, e))),
        inl (omega (arith, nothing, even), subst (λ n. Bounds format p limit s wanted (i + 1) n xs) (none_used i (allowance p s i 0 x) nothing) b),
      )

  -- where the counts are those wanted, lines behind empty ones bound as from their size on
  pub empty_bounds : (i : ℕ) (lines tail : List Allowance) → AreEmptyFrom p s i lines → (n : ℕ) → n ≡ i + length lines → NoneBelow n → IsLevelFrom i n → BoundFrom n tail → BoundFrom i (lines ++ tail)
  empty_bounds i [] tail are n e none level b = subst (λ k. BoundFrom k tail) (omega (arith, e)) b
  empty_bounds i (x ∷ xs) tail are n e none level b =
      one_empty i x (xs ++ tail) are.0 (λ g fits l. none g fits (omega (arith, e, l))) (level i (omega arith) (omega (arith, e)))
      (empty_bounds (i + 1) xs tail are.1 n (omega (arith, e)) none (λ j a l. level j (omega (arith, a)) l) b)

  -- where fewer are closed than wanted at the last one's size, empty lines are a bound
  pub empty_loss : (i : ℕ) (lines : List Allowance) → AreEmptyFrom p s i lines → (last : ℕ) → last + 1 ≡ i + length lines → i ≤ last → NoneBelow (last + 1) → IsLevelFrom i last → last ≤ limit → counts s.closed last < wanted last → BoundFrom i lines
  empty_loss i [] are last e some none level small less = absurd (omega (arith, e, some))
  empty_loss i (x ∷ []) are last e some none level small less =
      let same : last ≡ i = omega (arith, e) in (
        empty_fair format p s i x are.0 (λ g fits k. none g fits (omega (arith, k, same))),
        inr (omega (arith, same, small), fewer (empty_allows p s i x are.0) (subst (λ n. counts s.closed n < wanted n) same less), refl),
      )
    where
      fewer : allowance p s i 0 x ≡ 0 → counts s.closed i < wanted i → counts s.closed i + allowance p s i 0 x < wanted i
      fewer nothing l = omega (arith, nothing, l)
  empty_loss i (x ∷ y ∷ ys) are last e some none level small less =
      one_empty i x (y ∷ ys) are.0 (λ g fits l. none g fits (omega (arith, e, l))) (level i (omega arith) (omega (arith, e)))
      (empty_loss (i + 1) (y ∷ ys) are.1 last (omega (arith, e)) (omega (arith, e)) none (λ j a l. level j (omega (arith, a)) l) small less)
