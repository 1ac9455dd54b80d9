-- Closed groups with the target's counts have as many counties as the problem.
use Rattle.std.proofs.Common.{◌≡◌, ℕ, suc, ◌≤◌, ◌<◌, Bool, true, false, List, [], ◌∷◌, ◌++◌, length, refl, sym, subst, arith, ◌⊎◌, inl, inr, ⊎_elim, Some, All}
use Rattle.std.specs.List.{AllZip}
use Rattle.std.proofs.lemmas.Bool.{cases_lt}
use Rattle.std.proofs.lemmas.List.{append-nil}
use Rattle.grouping_laws.specs.Sets.{indicator, sum_by, count, contains}
use Rattle.grouping_laws.specs.Problem.{Problem, IsProblem, Suits, people_of, LawfulGroup}
use Rattle.grouping_laws.specs.Grouping.{Grouping, Lawful, counts, sets_of}
use Rattle.grouping_laws.specs.Ranges.{IsLeast, IsMost}
use Rattle.grouping_laws.proofs.Elements.{Has, has_all, has-map}
use Rattle.grouping_laws.proofs.Digits.{true_digit, false_digit, often_member}
use Rattle.grouping_laws.proofs.Sizes.{below_all, below_same, same_sizes, count-filter}
use Rattle.grouping_laws.proofs.Alike.{count-filter_none}
use Rattle.grouping_laws.proofs.Ranges.{people_have_ranges, seats_to}
use Rattle.certificate_data.specs.Round.{Round}
use Rattle.certificate_laws.specs.Regions.{listed}
use Rattle.certificate_laws.specs.State.{State, IsState}
use Rattle.certificate_laws.specs.Leaves.{IsOffSeats}
use Rattle.certificate_laws.specs.Certificate.{TargetFits}
use Rattle.list_laws.specs.Completeness.{IsFilled}
use Rattle.list_laws.specs.Level.{LevelStatesAreFilled}

none_often : (c : ℕ) (xs : List ℕ) → length xs ≡ 0 → count c xs ≡ 0
none_often c [] e = refl
none_often c (x ∷ xs) e = absurd (omega arith)

module _ (p : Problem) (round : Round) (s : State) (t : Grouping) (is : IsProblem p) (is_target : round.target ≡ Some t) (fits : TargetFits p round.limit round.target) (state : IsState p round s)
    (level : (i : ℕ) → 1 ≤ i → i ≤ round.limit → counts s.closed i ≡ counts (sets_of t) i) where
  target : Lawful p t × All (λ m. length m.codes ≤ round.limit) t
  target = subst (TargetFits p round.limit) is_target fits

  small : (g : List ℕ) → Has (sets_of t) g → length g ≤ round.limit
  small g h = let m = has-map t g h in subst (λ z. length z ≤ round.limit) m.2 (has_all (λ m. length m.codes ≤ round.limit) t target.1 m.0 m.1)

  as_many : sum_by length s.closed ≡ sum_by length (sets_of t)
  as_many =
      let same = below_same (suc round.limit) s.closed (sets_of t) (λ j a b. level j a (omega arith)) in
      let here = below_all round.limit s.closed (has_all (λ g. length g ≤ round.limit) s.closed state.small) in
      let there = below_all round.limit (sets_of t) small in
      omega (arith, same, here, there)

  rest_once : (c : ℕ) → count c (listed p s.rest) ≡ indicator (s.rest c)
  rest_once c = go (s.rest c) refl
    where
      go : (b : Bool) → s.rest c ≡ b → count c (listed p s.rest) ≡ indicator b
      go true e = omega (arith, count-filter c s.rest p.counties e, often_member p.counties c (is.once c), state.once c, true_digit (s.rest c) e, target.0.once c, digit_at_most (contains p.counties c))
        where
          digit_at_most : (b : Bool) → indicator b ≤ 1
          digit_at_most true = omega arith
          digit_at_most false = omega arith
      go false e = count-filter_none c s.rest p.counties e

  none_over : length (listed p s.rest) ≡ 0
  none_over =
      let sizes = same_sizes (sets_of t) (listed p s.rest ∷ s.closed) (λ c. omega (arith, target.0.once c, state.once c, rest_once c)) in
      omega (arith, sizes, as_many)

  pub none_left : (c : ℕ) → s.rest c ≡ false
  none_left c = go (s.rest c) refl
    where
      go : (b : Bool) → s.rest c ≡ b → b ≡ false
      go true e = absurd (omega (arith, rest_once c, none_often c (listed p s.rest) none_over, true_digit (s.rest c) e))
      go false e = refl

module _ (p : Problem) (is : IsProblem p) where
  range : (g : List ℕ) → LawfulGroup p g → (low : ℕ) × (high : ℕ) × IsLeast p g low × IsMost p g high
  range g lawful = ⊎_elim none some (people_have_ranges p is.some_people is.tolerated (people_of p g))
    where
      none : ((k : ℕ) → Suits p (people_of p g) k → ⊥) → (low : ℕ) × (high : ℕ) × IsLeast p g low × IsMost p g high
      none k = absurd (k lawful.seats lawful.suits)

      some : (low : ℕ) × (high : ℕ) × Suits p (people_of p g) low × Suits p (people_of p g) high × ((k : ℕ) → Suits p (people_of p g) k → (low ≤ k) × (k ≤ high)) → (low : ℕ) × (high : ℕ) × IsLeast p g low × IsMost p g high
      some r = (r.0, r.1, record { suits = r.2; least = λ j t. (r.4 j t).0 }, record { suits = r.3; most = λ j t. (r.4 j t).1 })

  ranges : (sets : List (List ℕ)) → ((g : List ℕ) → Has sets g → LawfulGroup p g) → (lows : List ℕ) × (highs : List ℕ) × AllZip (IsLeast p) sets lows × AllZip (IsMost p) sets highs
  ranges [] h = ([], [], tt, tt)
  ranges (g ∷ sets) h =
      let r = range g (h g (inl refl)) in
      let next = ranges sets (λ x i. h x (inr i)) in
      (r.0 ∷ next.0, r.1 ∷ next.1, (r.2, next.2), (r.3, next.3))

  pub filled : (round : Round) (s : State) → IsState p round s → ((c : ℕ) → s.rest c ≡ false) → (IsOffSeats p s → ⊥) → IsFilled p s
  filled round s state none_left no_off =
      let r = ranges s.closed (has_all (LawfulGroup p) s.closed state.lawful) in
      let ks = seats_to p s.closed r.0 r.1 p.seats_left r.2 r.3 (not_above r.0 r.2) (not_below r.1 r.3) in
      record { none_left = none_left; seats_of_closed = ks.0; suit = ks.1; add_up = ks.2 }
    where
      off : (ranges : List ℕ) → (AllZip (IsLeast p) (s.closed ++ []) ranges × (p.seats_left < sum_by (λ k. k) ranges)) ⊎ (AllZip (IsMost p) (s.closed ++ []) ranges × (sum_by (λ k. k) ranges < p.seats_left)) → ⊥
      off ranges h = no_off (record { parts = []; are_parts = record { each = λ k d l. absurd (omega arith); once = λ c. sym (false_digit (s.rest c) (none_left c)) }; ranges = ranges; off = h })

      not_above : (lows : List ℕ) → AllZip (IsLeast p) s.closed lows → sum_by (λ k. k) lows ≤ p.seats_left
      not_above lows h = ⊎_elim (λ l. absurd (off lows (inl (subst (λ z. AllZip (IsLeast p) z lows) (sym (append-nil s.closed)) h, l)))) (λ l. l) (cases_lt p.seats_left (sum_by (λ k. k) lows))

      not_below : (highs : List ℕ) → AllZip (IsMost p) s.closed highs → p.seats_left ≤ sum_by (λ k. k) highs
      not_below highs h = ⊎_elim (λ l. absurd (off highs (inr (subst (λ z. AllZip (IsMost p) z highs) (sym (append-nil s.closed)) h, l)))) (λ l. l) (cases_lt (sum_by (λ k. k) highs) p.seats_left)

pub level_states : LevelStatesAreFilled
level_states = record {
  none_left = none_left;
  filled = λ p round s is state none_left no_off. filled p is round s state none_left no_off;
}
