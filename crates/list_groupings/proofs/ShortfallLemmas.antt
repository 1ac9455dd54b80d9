-- Whether a valid bound leaf falls short, by its last line.
use Rattle.std.proofs.Common.{◌≡◌, ℕ, zero, suc, ◌+◌, ◌-◌, ◌*◌, ◌/◌, ◌≤◌, ◌<◌, Bool, true, false, min, nat_lt, ◌==◌, List, [], ◌∷◌, ◌++◌, map, take, length, get_or, refl, sym, ap, ◌∙◌, subst, arith, mul-le-mul, inl, inr, ◌⊎◌, take_all}
use Rattle.std.proofs.lemmas.Bool.Decides.{nat_tests}
use Rattle.std.proofs.lemmas.List.{length-map, map-append}
use Rattle.county_codes.specs.Limits.{most_counties}
use Rattle.grouping_laws.specs.Sets.{indicator, sum_by}
use Rattle.grouping_laws.specs.Problem.{Problem}
use Rattle.grouping_laws.specs.Grouping.{counts}
use Rattle.place_sets.proofs.Sums.{sum_by-append}
use Rattle.certificate_data.specs.declared.format.Format.{Format}
use Rattle.certificate_laws.specs.State.{State, open_to}
use Rattle.certificate_laws.specs.Regions.{listed}
use Rattle.certificate_data.specs.Tree.{Allowance}
use Rattle.certificate_laws.specs.BoundLines.{allowance, room_at, Bounds}
use Rattle.certificate_data.specs.declared.weights.Weight.{Weight as WeightHeld}
use Rattle.certificate_data.specs.declared.allowance.Allowance.{Allowance as AllowanceHeld}
use Rattle.certificate_data.specs.declared.allowance.Allowance.TheVariants.{Weigh}
use Rattle.certificate_data.specs.TreeValue.{allowance_of}
use Rattle.certificate_data.proofs.TreeLists.{allowance_again}
use Rattle.certificate_data.proofs.ListLaws.{taken_more}
use Rattle.state_judge.specs.AllowanceVerdicts.{AllowanceIsSpelled}
use Rattle.state_judge.specs.Weights.{county_weight}
use Rattle.certificate_checker.specs.ReadableTrees.{AllowancesAreSpelled}
use Rattle.list_laws.specs.Ends.{falls_short}
use Rattle.list_laws.specs.Shortfalls.{still_wanted}
use Rattle.list_laws.proofs.Told.{told}

-- one more of the groups
pub counts_more : (sets : List (List ℕ)) (i j : ℕ) (g : List ℕ) → g ≡ get_or sets i g → i < length sets → counts (take (i + 1) sets) j ≡ counts (take i sets) j + indicator (length g == j)
counts_more sets i j g is inside =
    ap (λ (l : List (List ℕ)). counts l j) (taken_more sets i g is inside)
    ∙ (sum_by-append (λ (x : List ℕ). indicator (length x == j)) (take i sets) (g ∷ []) ∙ one)
  where
    one : counts (take i sets) j + (indicator (length g == j) + 0) ≡ counts (take i sets) j + indicator (length g == j)
    one = omega arith

pub is_size : (a b : ℕ) → a ≡ b → indicator (a == b) ≡ 1
is_size a b e = grind (arith, nat_tests)

pub no_size : (a b : ℕ) → (a ≡ b → ⊥) → indicator (a == b) ≡ 0
no_size a b e = grind (arith, nat_tests)

pub still_more : (s : State) (f : ℕ → ℕ) (n : ℕ) → still_wanted s f (n + 1) ≡ still_wanted s f n + (n + 1) * (f (n + 1) - counts s.closed (n + 1))
still_more s f n = subst (λ m. still_wanted s f m ≡ still_wanted s f n + m * (f m - counts s.closed m)) one refl
  where
    one : suc n ≡ n + 1
    one = omega arith

pub spelled_at : (lines : List AllowanceHeld) (i : ℕ) (x d : AllowanceHeld) → x ≡ get_or lines i d → i < length lines → AllowancesAreSpelled (map allowance_of lines) → AllowanceIsSpelled x
spelled_at [] i x d e l h = absurd (omega arith)
spelled_at (a ∷ lines) zero x d e l h = subst AllowanceIsSpelled (allowance_again a ∙ sym e) h.0
spelled_at (a ∷ lines) (suc i) x d e l h = spelled_at lines i x d e (omega arith) h.1

module _ (format : Format) (p : Problem) (limit : ℕ) (s : State) (f : ℕ → ℕ) where
  few_lines : (lines : List Allowance) (i used : ℕ) → Bounds format p limit s f i used lines → i + length lines ≤ limit + 1
  few_lines [] i used b = omega (arith, b)
  few_lines (line ∷ lines) i used b = go (few_lines lines (i + 1) (used + i * allowance p s i used line)) b.1
    where
      go : (Bounds format p limit s f (i + 1) (used + i * allowance p s i used line) lines → i + 1 + length lines ≤ limit + 1)
          → ((counts s.closed i + allowance p s i used line ≡ f i) × Bounds format p limit s f (i + 1) (used + i * allowance p s i used line) lines) ⊎ ((i ≤ limit) × (counts s.closed i + allowance p s i used line < f i) × (lines ≡ []))
          → i + length (line ∷ lines) ≤ limit + 1
      go next (inl r) = omega (arith, next r.1)
      go next (inr r) = omega (arith, r.0, ap length r.2)

  pub no_line : (lines : List Allowance) → limit ≡ 0 → Bounds format p limit s f 1 0 lines → false ≡ falls_short p s f 1 0 lines
  no_line [] e b = refl
  no_line (line ∷ lines) e b = absurd (omega (arith, few_lines (line ∷ lines) 1 0 b))

  pub fewer : (lines : List AllowanceHeld) → length lines < limit → Bounds format p limit s f 1 0 (map allowance_of lines) → true ≡ falls_short p s f 1 0 (map allowance_of lines)
  fewer lines few b = sym (told.fewer format p limit s f (map allowance_of lines) b (omega (arith, few, length-map lines allowance_of)))

  abbrev at : Allowance → ℕ → ℕ → Bool
  at line n m = nat_lt (counts s.closed m + allowance p s m (still_wanted s f n) line) (f m)

  pub last_tells : (lines : List AllowanceHeld) (x : AllowanceHeld) → 1 ≤ limit → limit ≤ length lines → x ≡ get_or lines (limit - 1) x → Bounds format p limit s f 1 0 (map allowance_of lines)
      → at (allowance_of x) (limit - 1) limit ≡ falls_short p s f 1 0 (map allowance_of lines)
  last_tells lines x some enough is b = sym (ap (falls_short p s f 1 0) parted ∙ (told.last format p limit s f before (allowance_of x) (subst (Bounds format p limit s f 1 0) parted b) ∙ same))
    where
      size : length lines ≡ limit
      size = omega (arith, few_lines (map allowance_of lines) 1 0 b, length-map lines allowance_of)

      before : List Allowance
      before = map allowance_of (take (limit - 1) lines)

      whole : lines ≡ take (limit - 1) lines ++ x ∷ []
      whole = sym (take_all (limit - 1 + 1) lines (omega (arith, size))) ∙ taken_more lines (limit - 1) x is (omega (arith, size))

      parted : map allowance_of lines ≡ before ++ allowance_of x ∷ []
      parted = ap (map allowance_of) whole ∙ map-append allowance_of (take (limit - 1) lines) (x ∷ [])

      number : length before ≡ limit - 1
      number =
          let e : length lines ≡ length (take (limit - 1) lines) + 1 = ap length whole ∙ length_one (take (limit - 1) lines) x in
          omega (arith, length-map (take (limit - 1) lines) allowance_of, e, size)
        where
          length_one : {X : Type 0} (xs : List X) (y : X) → length (xs ++ y ∷ []) ≡ length xs + 1
          length_one [] y = refl
          length_one (z ∷ xs) y = omega (arith, length_one xs y)

      same : at (allowance_of x) (length before) (length before + 1) ≡ at (allowance_of x) (limit - 1) limit
      same = ap (λ n. at (allowance_of x) n (length before + 1)) number ∙ ap (at (allowance_of x) (limit - 1)) (omega (arith, number))

pub still_same : (s : State) (f g : ℕ → ℕ) (n : ℕ) → ((i : ℕ) → f i ≡ g i) → still_wanted s f n ≡ still_wanted s g n
still_same s f g zero same = refl
still_same s f g (suc n) same = ap (λ z. z + suc n * (f (suc n) - counts s.closed (suc n))) (still_same s f g n same) ∙ ap (λ z. still_wanted s g n + suc n * (z - counts s.closed (suc n))) (same (suc n))

-- fewer groups than wanted, of which some are closed
pub fewer_allowed : (closed all wanted missing : ℕ) → missing ≡ wanted - closed → nat_lt all missing ≡ nat_lt (closed + all) wanted
fewer_allowed closed all wanted missing e = grind (arith, nat_tests)

pub small_product : (a b : ℕ) → a ≤ most_counties → b ≤ 65535 → a * b ≤ 16776960
small_product a b x y = grind (arith, mul-le-mul)

pub allowed_weigh : (p : Problem) (s : State) (i used quota : ℕ) (ws : List WeightHeld) (openings left weight all : ℕ) → openings ≡ length (listed p (open_to s i)) → left ≡ openings - used → weight ≡ sum_by (county_weight ws) (listed p (open_to s i))
    → all ≡ min (left / i) (weight / quota) → all ≡ allowance p s i used (allowance_of (Weigh quota ws))
allowed_weigh p s i used quota ws openings left weight all a b d e = e ∙ (ap (λ z. min (z / i) (weight / quota)) (b ∙ ap (λ z. z - used) a) ∙ ap (λ z. min (room_at p s i used / i) (z / quota)) d)
