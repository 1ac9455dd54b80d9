-- A bound leaf leaves no completion whose counts are greater than the target's.
use Rattle.std.proofs.Common.{◌≡◌, ℕ, zero, suc, ◌+◌, ◌*◌, ◌/◌, ◌≤◌, ◌<◌, Bool, true, false, cond, ltb, List, [], ◌∷◌, ◌++◌, length, ◌==◌, refl, ap, ◌∙◌, arith, inl, inr, ⊎_elim, le-div_iff_mul-le, add-one}
use Rattle.std.proofs.lemmas.Bool.{eqb-true, ltb-true}
use Rattle.county_codes.specs.declared.group.Group.{Group}
use Rattle.grouping_laws.specs.Sets.{indicator, sum_by, count, count_in, contains}
use Rattle.grouping_laws.specs.Problem.{Problem}
use Rattle.grouping_laws.specs.Grouping.{Grouping, Lawful, counts, sets_of}
use Rattle.place_sets.proofs.Sums.{total_same, total_ones, sum_by-append}
use Rattle.grouping_laws.proofs.Elements.{Has, has-map}
use Rattle.grouping_laws.proofs.Sizes.{share, below, below_more, below-le, below_all, below_same, same_sizes}
use Rattle.certificate_data.specs.declared.format.Format.{Format}
use Rattle.certificate_laws.specs.Regions.{listed}
use Rattle.certificate_laws.specs.State.{State, open_to}
use Rattle.certificate_laws.specs.Fitting.{Fits}
use Rattle.certificate_data.specs.Tree.{Allowance, room, weigh}
use Rattle.certificate_laws.specs.BoundLines.{allowance, room_at, IsFair, Bounds, weight_of}
use Rattle.certificate_laws.proofs.Completion.{IsWhole, Completes, open_rest, rest_listed, once_le, set_open}
use Rattle.certificate_laws.proofs.Living.{set_fits}

zero_times : (x d : ℕ) → 1 ≤ d → x * d ≤ 0 → x ≡ 0
zero_times zero d h e = refl
zero_times (suc x) d h e = absurd (omega arith)

not_at : (i d : ℕ) → i ≤ d → (i ≡ d → ⊥) → i < d
not_at i d h k = omega arith

-- sets of i counties that weigh at least q each
heavy : (q i : ℕ) (w : ℕ → ℕ) (sets : List (List ℕ)) → ((g : List ℕ) → Has sets g → length g ≡ i → q ≤ sum_by w g) → counts sets i * q ≤ sum_by (λ g. cond (length g == i) (sum_by w g) 0) sets
heavy q i w [] h = omega arith
heavy q i w (g ∷ sets) h = go (length g == i) refl (heavy q i w sets (λ k j. h k (inr j)))
  where
    go : (b : Bool) → (length g == i) ≡ b → counts sets i * q ≤ sum_by (λ g. cond (length g == i) (sum_by w g) 0) sets → (indicator b + counts sets i) * q ≤ cond b (sum_by w g) 0 + sum_by (λ g. cond (length g == i) (sum_by w g) 0) sets
    go true e k = omega (arith, k, h g (inl refl) (eqb-true (length g) i e))
    go false e k = omega (arith, k)

module _ (format : Format) (p : Problem) (s : State) (whole : IsWhole p s) (opens : Grouping) (c : Completes p s opens) where
  open_listed : (i x : ℕ) → open_to s i x ≡ true → contains p.counties x ≡ true
  open_listed i x e = rest_listed p s whole x (open_rest s i x e)

  -- the groups of at most i counties have only counties that may lie in a group of i
  room_fits : (i : ℕ) → below (suc i) (sets_of opens) ≤ length (listed p (open_to s i))
  room_fits i =
      let small = share (λ x. 1) (λ g. ltb (length g) (suc i)) (sets_of opens) p.counties (open_to s i) (once_le p s whole opens c) (open_listed i) (λ g k t. set_open p s whole opens c g i k (omega (arith, ltb-true (length g) (suc i) t))) in
      let sizes = total_same (λ g. cond (ltb (length g) (suc i)) (sum_by (λ x. 1) g) 0) (λ g. cond (ltb (length g) (suc i)) (length g) 0) (sets_of opens) (λ g. ap (λ z. cond (ltb (length g) (suc i)) z 0) (total_ones g)) in
      omega (arith, small, sizes, total_ones (listed p (open_to s i)))

  by_room : (i used : ℕ) → 1 ≤ i → used ≡ below i (sets_of opens) → counts (sets_of opens) i ≤ room_at p s i used / i
  by_room i used some e = (le-div_iff_mul-le some).1 (omega (arith, room_fits i, below_more i (sets_of opens)))

  by_weight : (q i : ℕ) (w : ℕ → ℕ) → 1 ≤ q → ((g : List ℕ) → Fits format p s g → length g ≡ i → q ≤ sum_by w g) → counts (sets_of opens) i ≤ sum_by w (listed p (open_to s i)) / q
  by_weight q i w some fair =
      let each = heavy q i w (sets_of opens) (λ g k e. fair g (set_fits p s whole opens c format g k) e) in
      let few = share w (λ g. length g == i) (sets_of opens) p.counties (open_to s i) (once_le p s whole opens c) (open_listed i) (λ g k t. set_open p s whole opens c g i k (omega (arith, eqb-true (length g) i t))) in
      (le-div_iff_mul-le some).1 (omega (arith, each, few))

  -- no line allows fewer groups of a size than there are
  pub line_fits : (line : Allowance) (i used : ℕ) → IsFair format p s i line → 1 ≤ i → used ≡ below i (sets_of opens) → counts (sets_of opens) i ≤ allowance p s i used line
  line_fits room i used fair some e = by_room i used some e
  line_fits (weigh q ws) i used fair some e = omega (arith, by_room i used some e, by_weight q i (weight_of ws) fair.0 fair.2)

  -- the counts of the closed and the completing groups
  abbrev pub all_counts : ℕ → ℕ
  all_counts j = counts s.closed j + counts (sets_of opens) j

  all_sets : (j : ℕ) → counts (s.closed ++ sets_of opens) j ≡ all_counts j
  all_sets j = sum_by-append (λ g. indicator (length g == j)) s.closed (sets_of opens)

  module _ (limit : ℕ) (t : Grouping) (lawful : Lawful p t) (fits : (m : Group) → Has t m → length m.codes ≤ limit) where
    -- Counts equal to the target's through the limit leave no county over.
    no_more : (d : ℕ) → limit < d → ((j : ℕ) → 1 ≤ j → j < d → all_counts j ≡ counts (sets_of t) j) → all_counts d ≡ 0
    no_more d above same =
        let codes : (x : ℕ) → count_in x (sets_of t) ≡ count_in x (s.closed ++ sets_of opens) = λ x. omega (arith, lawful.once x, whole x, c.once x, sum_by-append (count x) s.closed (sets_of opens)) in
        let equal = below_same (suc limit) (s.closed ++ sets_of opens) (sets_of t) (λ j a b. all_sets j ∙ same j a (omega arith)) in
        let target_all = below_all limit (sets_of t) (λ g h. let r = has-map t g h in rw (← r.2) (fits r.0 r.1)) in
        let sizes = same_sizes (sets_of t) (s.closed ++ sets_of opens) codes in
        let more = below-le (suc limit) d (s.closed ++ sets_of opens) above in
        zero_times (all_counts d) d (omega arith) (omega (arith, equal, target_all, sizes, more, ap (λ z. z * d) (all_sets d)))

    pub excluded : (d : ℕ) → ((j : ℕ) → 1 ≤ j → j < d → all_counts j ≡ counts (sets_of t) j) → counts (sets_of t) d < all_counts d
        → (lines : List Allowance) (i used : ℕ) → Bounds format p limit s (counts (sets_of t)) i used lines → 1 ≤ i → i ≤ d → used ≡ below i (sets_of opens) → ⊥
    excluded d same more [] i used b some below_d e = omega (arith, no_more d (omega (arith, b)) same, more)
    excluded d same more (line ∷ lines) i used b some below_d e = ⊎_elim (goes_on (excluded d same more lines (i + 1) (used + i * allowance p s i used line))) ends b.1
      where
        few : counts (sets_of opens) i ≤ allowance p s i used line
        few = line_fits line i used b.0 some e

        goes_on : (Bounds format p limit s (counts (sets_of t)) (i + 1) (used + i * allowance p s i used line) lines → 1 ≤ i + 1 → i + 1 ≤ d → used + i * allowance p s i used line ≡ below (i + 1) (sets_of opens) → ⊥)
            → (counts s.closed i + allowance p s i used line ≡ counts (sets_of t) i) × Bounds format p limit s (counts (sets_of t)) (i + 1) (used + i * allowance p s i used line) lines → ⊥
        goes_on next r =
            let before : i < d = not_at i d below_d (λ k. omega (arith, more, few, r.0, ap (λ z. counts (sets_of t) z) k, ap all_counts k)) in
            let here = same i some before in
            let exact : counts (sets_of opens) i ≡ allowance p s i used line = omega (arith, here, r.0) in
            next r.1 (omega arith) (omega arith)
            (omega (arith, e, below_more i (sets_of opens), ap (λ z. z * i) exact, ap (λ z. below z (sets_of opens)) (add-one i)))

        ends : (i ≤ limit) × (counts s.closed i + allowance p s i used line < counts (sets_of t) i) × (lines ≡ []) → ⊥
        ends r =
            let before : i < d = not_at i d below_d (λ k. omega (arith, more, few, r.1, ap (λ z. counts (sets_of t) z) k, ap all_counts k)) in
            omega (arith, same i some before, few, r.1)
