-- Where no group fits and no leaf is valid, the closed groups and the connected parts of the rest are a greater
-- grouping.
use Rattle.std.proofs.Common.{◌≡◌, ℕ, zero, suc, ◌+◌, ◌*◌, ◌≤◌, ◌<◌, Bool, true, false, not, List, [], ◌∷◌, ◌++◌, length, ◌==◌, refl, sym, ap, ◌∙◌, subst, arith, inl, inr, ⊎_elim, Contains, Option, Some, None, div-le_self}
use Rattle.std.specs.List.{AllZip}
use Rattle.std.proofs.lemmas.Bool.{cases_order, cases_lt, eqb-true, and_from, false≢true}
use Rattle.county_codes.specs.declared.group.Group.{Group}
use Rattle.grouping_laws.specs.Sets.{indicator, sum_by, count, count_in, contains, SameSet}
use Rattle.grouping_laws.specs.Problem.{Problem, Suits, people_of, Connected, LawfulGroup}
use Rattle.grouping_laws.specs.Grouping.{Grouping, counts, sets_of}
use Rattle.grouping_laws.specs.Parts.{IsPart, AreParts}
use Rattle.grouping_laws.specs.Ranges.{IsLeast, IsMost, HasRange, seated, SuitAll}
use Rattle.place_sets.proofs.Sums.{sum_by-append}
use Rattle.grouping_laws.proofs.Elements.{Has, has_all, all_from_has, contains_from_has, has_append, has_left, has_right}
use Rattle.grouping_laws.proofs.Digits.{true_digit}
use Rattle.grouping_laws.proofs.Ranges.{seats_to}
use Rattle.grouping_laws.proofs.Seated.{set_from_stands, first_code, seated_find, seated_lawful}
use Rattle.certificate_data.specs.declared.format.Format.{Format}
use Rattle.certificate_data.specs.declared.format.Format.TheVariants.{Plain, Wide}
use Rattle.certificate_data.specs.Round.{Round}
use Rattle.certificate_laws.specs.Regions.{without, listed}
use Rattle.certificate_laws.specs.State.{State, IsState, open_to}
use Rattle.certificate_laws.specs.Agreement.{Agrees}
use Rattle.certificate_laws.specs.Fitting.{IsDead, IsKept, Fits, NoGroupFits}
use Rattle.certificate_data.specs.Tree.{Allowance, weigh}
use Rattle.certificate_laws.specs.BoundLines.{IsFair, allowance, Bounds, weight_of}
use Rattle.certificate_laws.specs.Certificate.{Beats}
use Rattle.certificate_laws.specs.Search.{HasNoLeaf, FinishedBeats, FinishedStateBeats, AreCountLines, IsCountLine}
use Rattle.certificate_laws.proofs.Completion.{rest_listed, is_open}
use Rattle.certificate_laws.proofs.WithoutGroup.{without_in, without_not}
use Rattle.certificate_laws.proofs.Decided.{part_same, cannot_either}

none_weigh : (xs : List ℕ) → sum_by (weight_of []) xs ≡ 0
none_weigh [] = refl
none_weigh (x ∷ xs) = omega (arith, none_weigh xs)

counts_none : (sets : List (List ℕ)) (j : ℕ) → ((g : List ℕ) → Has sets g → length g ≡ j → ⊥) → counts sets j ≡ 0
counts_none [] j h = refl
counts_none (g ∷ sets) j h = go (length g == j) refl (counts_none sets j (λ x i. h x (inr i)))
  where
    go : (b : Bool) → (length g == j) ≡ b → counts sets j ≡ 0 → indicator b + counts sets j ≡ 0
    go true e k = absurd (h g (inl refl) (eqb-true (length g) j e))
    go false e k = omega (arith, k)

-- a bound leaf has no line past the limit
few_lines : (format : Format) (p : Problem) (limit : ℕ) (s : State) (wanted : ℕ → ℕ) (i used : ℕ) (lines : List Allowance) → Bounds format p limit s wanted i used lines → i + length lines ≤ limit + 1
few_lines format p limit s wanted i used [] b = omega (arith, b)
few_lines format p limit s wanted i used (line ∷ lines) b =
    ⊎_elim
    (λ r. omega (arith, few_lines format p limit s wanted (i + 1) (used + i * allowance p s i used line) lines r.1))
    (λ r. omega (arith, r.0, ap length r.2))
    b.1

module _ (p : Problem) (round : Round) (s : State) (parts : List (List ℕ)) (ranges : (people : ℕ) → HasRange p people) (state : IsState p round s) (no_group_fits : NoGroupFits p round s) (no_leaf : HasNoLeaf p round round.limit s) (are : AreParts p s.rest parts) where
  is_part : (xs : List ℕ) → Has parts xs → IsPart p s.rest xs
  is_part = has_all (IsPart p s.rest) parts are.each

  part_range : (xs : List ℕ) → Has parts xs → (low : ℕ) × (high : ℕ) × IsLeast p xs low × IsMost p xs high
  part_range xs h = ⊎_elim none some (ranges (people_of p xs))
    where
      none : ((k : ℕ) → Suits p (people_of p xs) k → ⊥) → (low : ℕ) × (high : ℕ) × IsLeast p xs low × IsMost p xs high
      none k = let first = first_code xs (is_part xs h).connected.some_county in absurd (no_leaf.no_stuck first.0 (record { part = xs; is_part = is_part xs h; around = first.1; cannot_fill = inl k }))

      some : (low : ℕ) × (high : ℕ) × Suits p (people_of p xs) low × Suits p (people_of p xs) high × ((k : ℕ) → Suits p (people_of p xs) k → (low ≤ k) × (k ≤ high)) → (low : ℕ) × (high : ℕ) × IsLeast p xs low × IsMost p xs high
      some r = (r.0, r.1, record { suits = r.2; least = λ j t. (r.4 j t).0 }, record { suits = r.3; most = λ j t. (r.4 j t).1 })

  -- no county of a part asks for a group larger than the part
  part_fills : (xs : List ℕ) → Has parts xs → (c : ℕ) → contains xs c ≡ true → s.least c ≤ length xs
  part_fills xs h c m = ⊎_elim (λ small. absurd (no_leaf.no_stuck c (record { part = xs; is_part = is_part xs h; around = m; cannot_fill = inr (c, m, small) }))) (λ l. l) (cases_lt (length xs) (s.least c))

  -- two parts with a county in common have the same counties, so the others are parts of what one leaves
  other_part : (xs zs : List ℕ) → Has parts xs → Has parts zs → (c : ℕ) → contains zs c ≡ true → contains xs c ≡ false → IsPart p (without xs s.rest) zs
  other_part xs zs h k c m off = record {
    once = (is_part zs k).once;
    connected = (is_part zs k).connected;
    inside = λ y e. and_from (s.rest y) (not (contains xs y)) ((is_part zs k).inside y e) (ap not (apart y e (contains xs y) refl));
    whole = λ x y e r t. (is_part zs k).whole x y e (without_in xs s.rest y r) t;
  }
    where
      apart : (y : ℕ) → contains zs y ≡ true → (b : Bool) → contains xs y ≡ b → b ≡ false
      apart y e true i = absurd (false≢true (sym off ∙ (part_same p s.rest xs zs y (is_part xs h) (is_part zs k) i e c ∙ m)))
      apart y e false i = refl

  -- so each part is live as a group
  part_live : (xs : List ℕ) → Has parts xs → IsDead p s xs → ⊥
  part_live xs h d =
      let c = first_code d.part d.is_part.connected.some_county in
      let r = set_from_stands c.0 parts (omega (arith, are.once c.0, true_digit (s.rest c.0) (without_in xs s.rest c.0 (d.is_part.inside c.0 c.1)))) in
      let other = other_part xs r.0 h r.1 c.0 r.2 (without_not xs s.rest c.0 (d.is_part.inside c.0 c.1)) in
      no_leaf.no_stuck c.0 (record { part = r.0; is_part = is_part r.0 r.1; around = r.2; cannot_fill = cannot_either p s (without xs s.rest) r.0 d.part c.0 other d.is_part r.2 c.1 d.stuck })

  -- a part has more counties than the limit, else it is a group that fits
  part_large : (xs : List ℕ) → Has parts xs → round.limit < length xs
  part_large xs h = ⊎_elim (λ l. l) (λ small. absurd (no_group_fits xs fits small)) (cases_lt round.limit (length xs))
    where
      lawful : (k : ℕ) → Suits p (people_of p xs) k → LawfulGroup p xs
      lawful k suits = record { once = (is_part xs h).once; listed = λ c m. rest_listed p s state.once c ((is_part xs h).inside c m); connected = (is_part xs h).connected; seats = k; suits = suits }

      left : (format : Format) → IsKept format p s xs
      left Plain = tt
      left Wide = part_live xs h

      fits : Fits round.format p s xs
      fits = let r = part_range xs h in record { lawful = lawful r.0 r.2.suits; inside = λ c m. is_open s (length xs) c ((is_part xs h).inside c m) (part_fills xs h c m); kept = left round.format }

  closed_range : (g : List ℕ) → LawfulGroup p g → (low : ℕ) × (high : ℕ) × IsLeast p g low × IsMost p g high
  closed_range g lawful = ⊎_elim none some (ranges (people_of p g))
    where
      none : ((k : ℕ) → Suits p (people_of p g) k → ⊥) → (low : ℕ) × (high : ℕ) × IsLeast p g low × IsMost p g high
      none k = absurd (k lawful.seats lawful.suits)

      some : (low : ℕ) × (high : ℕ) × Suits p (people_of p g) low × Suits p (people_of p g) high × ((k : ℕ) → Suits p (people_of p g) k → (low ≤ k) × (k ≤ high)) → (low : ℕ) × (high : ℕ) × IsLeast p g low × IsMost p g high
      some r = (r.0, r.1, record { suits = r.2; least = λ j t. (r.4 j t).0 }, record { suits = r.3; most = λ j t. (r.4 j t).1 })

  set_range : (g : List ℕ) → Has (s.closed ++ parts) g → (low : ℕ) × (high : ℕ) × IsLeast p g low × IsMost p g high
  set_range g h = ⊎_elim (λ k. closed_range g (has_all (LawfulGroup p) s.closed state.lawful g k)) (part_range g) (has_append s.closed parts g h)

  all_ranges : (sets : List (List ℕ)) → ((g : List ℕ) → Has sets g → (low : ℕ) × (high : ℕ) × IsLeast p g low × IsMost p g high) → (lows : List ℕ) × (highs : List ℕ) × AllZip (IsLeast p) sets lows × AllZip (IsMost p) sets highs
  all_ranges [] h = ([], [], tt, tt)
  all_ranges (g ∷ sets) h =
      let r = h g (inl refl) in
      let next = all_ranges sets (λ x i. h x (inr i)) in
      (r.0 ∷ next.0, r.1 ∷ next.1, (r.2, next.2), (r.3, next.3))

  some_seats : (ks : List ℕ) × SuitAll p (s.closed ++ parts) ks × (sum_by (λ k. k) ks ≡ p.seats_left)
  some_seats =
      let r = all_ranges (s.closed ++ parts) set_range in
      seats_to p (s.closed ++ parts) r.0 r.1 p.seats_left r.2 r.3 (not_above r.0 r.2) (not_below r.1 r.3)
    where
      not_above : (lows : List ℕ) → AllZip (IsLeast p) (s.closed ++ parts) lows → sum_by (λ k. k) lows ≤ p.seats_left
      not_above lows h = ⊎_elim (λ l. absurd (no_leaf.no_seats (record { parts = parts; are_parts = are; ranges = lows; off = inl (h, l) }))) (λ l. l) (cases_lt p.seats_left (sum_by (λ k. k) lows))

      not_below : (highs : List ℕ) → AllZip (IsMost p) (s.closed ++ parts) highs → p.seats_left ≤ sum_by (λ k. k) highs
      not_below highs h = ⊎_elim (λ l. absurd (no_leaf.no_seats (record { parts = parts; are_parts = are; ranges = highs; off = inr (h, l) }))) (λ l. l) (cases_lt (sum_by (λ k. k) highs) p.seats_left)

  all_once : (c : ℕ) → count_in c (s.closed ++ parts) ≡ indicator (contains p.counties c)
  all_once c = omega (arith, sum_by-append (count c) s.closed parts, are.once c, state.once c)

  all_connected : (g : List ℕ) → Has (s.closed ++ parts) g → Connected p g
  all_connected g h = ⊎_elim (λ k. (has_all (LawfulGroup p) s.closed state.lawful g k).connected) (λ k. (is_part g k).connected) (has_append s.closed parts g h)

  agrees_with : (ks : List ℕ) → SuitAll p (s.closed ++ parts) ks → Agrees s (seated (s.closed ++ parts) ks)
  agrees_with ks suit = record {
    closed = all_from_has (λ k. (m : Group) × Contains (seated (s.closed ++ parts) ks) m × SameSet m.codes k) s.closed (λ k h.
        let r = seated_find p (s.closed ++ parts) ks suit k (has_left s.closed parts k h) in
        (r.0, contains_from_has (seated (s.closed ++ parts) ks) r.0 r.1, λ c. ap (λ z. contains z c) r.2));
    large = λ c e.
        let g = set_from_stands c parts (omega (arith, are.once c, true_digit (s.rest c) e)) in
        let r = seated_find p (s.closed ++ parts) ks suit g.0 (has_right s.closed parts g.0 g.1) in
        (r.0, contains_from_has (seated (s.closed ++ parts) ks) r.0 r.1, ap (λ z. contains z c) r.2 ∙ g.2, rw r.2 (part_fills g.0 g.1 c g.2));
  }

  -- the line for size i where no group of that size fits
  abbrev line_of : ℕ → Allowance
  line_of i = weigh i []

  no_group : (i : ℕ) → i ≤ round.limit → (g : List ℕ) → Fits round.format p s g → length g ≡ i → ⊥
  no_group i h g fits e = no_group_fits g fits (omega (arith, e))

  line_fair : (i : ℕ) → 1 ≤ i → i ≤ round.limit → IsFair round.format p s i (line_of i)
  line_fair i some h = (some, λ k d l. absurd (omega arith), λ g fits e. absurd (no_group i h g fits e))

  line_counts : (i : ℕ) → i ≤ round.limit → IsCountLine round.format p s i (line_of i)
  line_counts i l = record {
    weights = [];
    is = refl;
    ascending = λ j k d l m. absurd (omega arith);
    each = λ w. (λ h. absurd (omega (arith, h.1)), λ h. absurd (no_group i l h.1.0 h.1.1 h.1.2));
  }

  no_allowance : (i : ℕ) → allowance p s i 0 (line_of i) ≡ 0
  no_allowance i = omega (arith, none_weigh (listed p (open_to s i)), div-le_self (sum_by (weight_of []) (listed p (open_to s i))) i)

  -- some size at which the closed groups are more than wanted
  find_more : (wanted : ℕ → ℕ) (n i : ℕ) → i + n ≡ round.limit + 1 → 1 ≤ i → ((lines : List Allowance) → AreCountLines round.format p s i lines → Bounds round.format p round.limit s wanted i 0 lines → ⊥)
      → (d : ℕ) × (i ≤ d) × (d ≤ round.limit) × ((j : ℕ) → i ≤ j → j < d → counts s.closed j ≡ wanted j) × (wanted d < counts s.closed d)
  find_more wanted zero i e some h = absurd (h [] tt (omega arith))
  find_more wanted (suc n) i e some h = ⊎_elim (same (find_more wanted n (i + 1) (omega arith) (omega arith))) (λ o. ⊎_elim less more o) (cases_order (counts s.closed i) (wanted i))
    where
      More : ℕ → Type 0
      More k = (d : ℕ) × (k ≤ d) × (d ≤ round.limit) × ((j : ℕ) → k ≤ j → j < d → counts s.closed j ≡ wanted j) × (wanted d < counts s.closed d)

      at : counts s.closed i ≡ wanted i → (d : ℕ) → ((j : ℕ) → i + 1 ≤ j → j < d → counts s.closed j ≡ wanted j) → (j : ℕ) → i ≤ j → j < d → counts s.closed j ≡ wanted j
      at k d later j a b = ⊎_elim (λ z. subst (λ x. counts s.closed x ≡ wanted x) z k) (λ o. ⊎_elim (λ z. later j (omega arith) b) (λ z. absurd (omega arith)) o) (cases_order i j)

      within : i ≤ round.limit
      within = omega arith

      same : (((lines : List Allowance) → AreCountLines round.format p s (i + 1) lines → Bounds round.format p round.limit s wanted (i + 1) 0 lines → ⊥) → More (i + 1)) → counts s.closed i ≡ wanted i → More i
      same next k =
          let nothing : 0 ≡ 0 + i * allowance p s i 0 (line_of i) = omega (arith, ap (λ z. i * z) (no_allowance i)) in
          let r = next (λ lines are b. h (line_of i ∷ lines) (line_counts i within, are) (line_fair i some within, inl (omega (arith, no_allowance i, k), subst (λ z. Bounds round.format p round.limit s wanted (i + 1) z lines) nothing b))) in
          (r.0, omega (arith, r.1), r.2, at k r.0 r.3, r.4)

      less : counts s.closed i < wanted i → More i
      less l = absurd (h (line_of i ∷ []) (line_counts i within, tt) (line_fair i some within, inr (omega arith, omega (arith, no_allowance i, l), refl)))

      more : wanted i < counts s.closed i → More i
      more l = (i, omega arith, omega arith, λ j a b. absurd (omega arith), l)

  no_part_at : (j : ℕ) → j ≤ round.limit → counts parts j ≡ 0
  no_part_at j h = counts_none parts j (λ g i e. omega (arith, part_large g i))

  beats_target : (target : Option Grouping) → round.target ≡ target → Beats target (counts (s.closed ++ parts))
  beats_target None e = tt
  beats_target (Some t) e =
      let r = find_more (counts (sets_of t)) round.limit 1 (omega arith) (omega arith) (λ lines are b. no_leaf.no_count lines (omega (arith, few_lines round.format p round.limit s (counts (sets_of t)) 1 0 lines b)) are (t, e, b)) in
      record {
        size = r.0;
        some_county = r.1;
        same_before = λ j a b. omega (arith, sum_by-append (λ g. indicator (length g == j)) s.closed parts, no_part_at j (omega (arith, r.2)), r.3 j a b);
        more = omega (arith, sum_by-append (λ g. indicator (length g == r.0)) s.closed parts, r.4);
      }

  pub finished_beats : FinishedBeats p round s parts
  finished_beats = record {
    large = all_from_has (λ codes. round.limit < length codes) parts part_large;
    some = some_seats;
    all = λ ks suit sum. (seated_lawful p (s.closed ++ parts) ks all_once all_connected suit sum, agrees_with ks suit, beats_target round.target refl);
  }

pub finished_state_beats : FinishedStateBeats
finished_state_beats p round s parts ranges state none no_leaf are = finished_beats p round s parts ranges state none no_leaf are
