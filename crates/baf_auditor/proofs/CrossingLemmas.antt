-- The pairs of sets in which one district stands.
use Rattle.std.proofs.Common.{◌≡◌, ℕ, ◌<◌, ◌⊎◌, inl, inr, Bool, true, false, List, [], ◌∷◌, ◌++◌, Contains, refl, sym, ap, ◌∙◌, subst, arith, if◌then◌else◌}
use Rattle.std.specs.List.{AllByRecursion}
use Rattle.std.specs.List.Sorted.{IsStrictlySortedBy}
use Rattle.std.specs.Ordering.{nat_cmp}
use Rattle.std.specs.declared.cmp.Ordering.TheVariants.{Less, Equal}
use Rattle.std.specs.Cmp.{tied_itself}
use Rattle.std.specs.Cmp.Lexicographic.{slice_cmp, nat_list_cmp_total}
use Rattle.std.specs.Str.{bytes_eq}
use Rattle.std.proofs.lemmas.List.Elements.{Contains-append_left, Contains-append_right, Contains-append_cases}
use Rattle.pl94_counties.proofs.TraceLemmas.{contains_head, contains_tail, contains_nil, contains_cases}
use Rattle.baf_auditor.specs.Findings.{by_key}
use Rattle.baf_auditor.specs.Giving.{by_label}
use Rattle.baf_auditor.specs.Districts.{name_at, crossing, crossings_with, crossings}
use Rattle.baf_auditor.specs.declared.finding.Finding.{Finding}
use Rattle.baf_auditor.proofs.ListLemmas.{all_from, from_all, sorted_both}
use Rattle.baf_auditor.proofs.DistrictLemmas.{label_same, same_label}
use Rattle.baf_auditor.proofs.OrderLemmas.{label_less, place_before, crossing_label, crossing_first, crossing_second}

module _ (groups : ℕ) where
  -- a pair with the first district's set
  abbrev PairWith : List ℕ × ℕ → List (List ℕ × ℕ) → Finding → Type 0
  PairWith first ks f = (k : List ℕ × ℕ) × Contains ks k × (k.0 ≡ first.0) × (crossing groups first k.1 ≡ f)

  with_from : (first : List ℕ × ℕ) (ks : List (List ℕ × ℕ)) (f : Finding) → Contains (crossings_with groups first ks) f → PairWith first ks f
  with_from first [] f h = absurd (contains_nil f h)
  with_from first (k ∷ ks) f h = by (bytes_eq k.0 first.0) refl h (with_from first ks f)
    where
      by : (b : Bool) → bytes_eq k.0 first.0 ≡ b → Contains (if b then crossing groups first k.1 ∷ crossings_with groups first ks else []) f
          → (Contains (crossings_with groups first ks) f → PairWith first ks f) → PairWith first (k ∷ ks) f
      by true is c later = elim (contains_cases (crossing groups first k.1) (crossings_with groups first ks) f c) as (λ _. PairWith first (k ∷ ks) f) [
        | inl same ↦ (k, contains_head k ks, label_same k.0 first.0 is, same)
        | inr m ↦ (let l = later m in (l.0, contains_tail k ks l.0 l.1, l.2, l.3))
      ]
      by false is c later = absurd (contains_nil f c)

  abbrev Above : List ℕ × ℕ → List (List ℕ × ℕ) → Type 0
  Above first ks = AllByRecursion (λ k. by_label first k ≡ Less) ks

  -- between two districts of one label there is none of another
  none_between : (first k l : List ℕ × ℕ) → by_label first k ≡ Less → by_label k l ≡ Less → l.0 ≡ first.0 → bytes_eq k.0 first.0 ≡ false → ⊥
  none_between first k l one other same apart = by (label_less first k one) (label_less k l other)
    where
      not_same : k.0 ≡ first.0 → ⊥
      not_same e = let t : bytes_eq k.0 first.0 ≡ true = same_label k.0 first.0 e in cc

      by : (slice_cmp nat_cmp first.0 k.0 ≡ Less) ⊎ ((first.0 ≡ k.0) × (first.1 < k.1)) → (slice_cmp nat_cmp k.0 l.0 ≡ Less) ⊎ ((k.0 ≡ l.0) × (k.1 < l.1)) → ⊥
      by (inr e) t = not_same (sym e.0)
      by (inl less) (inr e) = not_same (e.0 ∙ same)
      by (inl less) (inl more) =
          let round : slice_cmp nat_cmp first.0 first.0 ≡ Less = subst (λ (x : List ℕ). slice_cmp nat_cmp first.0 x ≡ Less) same (nat_list_cmp_total.trans first.0 k.0 l.0 less more) in
          let itself : slice_cmp nat_cmp first.0 first.0 ≡ Equal = tied_itself nat_list_cmp_total first.0 in
          cc

  with_to : (first : List ℕ × ℕ) (ks : List (List ℕ × ℕ)) (k : List ℕ × ℕ) → Above first ks → IsStrictlySortedBy by_label ks → Contains ks k → k.0 ≡ first.0
      → Contains (crossings_with groups first ks) (crossing groups first k.1)
  unfolding IsStrictlySortedBy
  with_to first [] k above sorted h same = absurd (contains_nil k h)
  with_to first (l ∷ ks) k above sorted h same = by (bytes_eq l.0 first.0) refl (contains_cases l ks k h) (λ m. with_to first ks k above.1 sorted.1 m same)
    where
      by : (b : Bool) → bytes_eq l.0 first.0 ≡ b → (l ≡ k) ⊎ Contains ks k → (Contains ks k → Contains (crossings_with groups first ks) (crossing groups first k.1))
          → Contains (if b then crossing groups first l.1 ∷ crossings_with groups first ks else []) (crossing groups first k.1)
      by true is (inl e) later = subst (λ (m : List ℕ × ℕ). Contains (crossing groups first l.1 ∷ crossings_with groups first ks) (crossing groups first m.1)) e (contains_head (crossing groups first l.1) (crossings_with groups first ks))
      by true is (inr m) later = contains_tail (crossing groups first l.1) (crossings_with groups first ks) (crossing groups first k.1) (later m)
      by false is (inl e) later = absurd (let t : bytes_eq l.0 first.0 ≡ true = same_label l.0 first.0 (ap (λ (m : List ℕ × ℕ). m.0) e ∙ same) in cc)
      by false is (inr m) later = absurd (none_between first l k above.0 (from_all by_label (λ m. by_label l m ≡ Less) ks sorted.0 k m) same is)

  with_sorted : (first : List ℕ × ℕ) (ks : List (List ℕ × ℕ)) → IsStrictlySortedBy by_label ks → IsStrictlySortedBy by_key (crossings_with groups first ks)
  unfolding IsStrictlySortedBy
  with_sorted first [] sorted = tt
  with_sorted first (k ∷ ks) sorted = by (bytes_eq k.0 first.0) refl (with_sorted first ks sorted.1)
    where
      below : k.0 ≡ first.0 → (f : Finding) → Contains (crossings_with groups first ks) f → by_key (crossing groups first k.1) f ≡ Less
      below here f h =
          let p = with_from first ks f h in
          let less = label_less k p.0 (from_all by_label (λ m. by_label k m ≡ Less) ks sorted.0 p.0 p.1) in
          subst (λ (g : Finding). by_key (crossing groups first k.1) g ≡ Less) p.3 (crossing_second first.0 (name_at groups first.1) (name_at groups k.1) (name_at groups p.0.1) (place_before groups k.1 p.0.1 (places p.0 p.2 less)))
        where
          places : (m : List ℕ × ℕ) → m.0 ≡ first.0 → (slice_cmp nat_cmp k.0 m.0 ≡ Less) ⊎ ((k.0 ≡ m.0) × (k.1 < m.1)) → k.1 < m.1
          places m same (inr e) = e.1
          places m same (inl less) =
              let round : slice_cmp nat_cmp k.0 k.0 ≡ Less = subst (λ (x : List ℕ). slice_cmp nat_cmp k.0 x ≡ Less) (same ∙ sym here) less in
              let itself : slice_cmp nat_cmp k.0 k.0 ≡ Equal = tied_itself nat_list_cmp_total k.0 in
              absurd cc

      by : (b : Bool) → bytes_eq k.0 first.0 ≡ b → IsStrictlySortedBy by_key (crossings_with groups first ks) → IsStrictlySortedBy by_key (if b then crossing groups first k.1 ∷ crossings_with groups first ks else [])
      by true is later = (all_from by_key (λ f. by_key (crossing groups first k.1) f ≡ Less) (crossings_with groups first ks) (below (label_same k.0 first.0 is)), later)
      by false is later = tt

  -- two sets of one district, the first before the second
  abbrev pub Pair : List (List ℕ × ℕ) → Finding → Type 0
  Pair ks f = (k : List ℕ × ℕ) × (l : List ℕ × ℕ) × Contains ks k × Contains ks l × (l.0 ≡ k.0) × (k.1 < l.1) × (crossing groups k l.1 ≡ f)

  pub crossings_from : (ks : List (List ℕ × ℕ)) (f : Finding) → IsStrictlySortedBy by_label ks → Contains (crossings groups ks) f → Pair ks f
  unfolding IsStrictlySortedBy
  crossings_from [] f sorted h = absurd (contains_nil f h)
  crossings_from (k ∷ ks) f sorted h = by (Contains-append_cases (crossings_with groups k ks) (crossings groups ks) f h) (λ m. crossings_from ks f sorted.1 m)
    where
      places : (m : List ℕ × ℕ) → m.0 ≡ k.0 → (slice_cmp nat_cmp k.0 m.0 ≡ Less) ⊎ ((k.0 ≡ m.0) × (k.1 < m.1)) → k.1 < m.1
      places m same (inr e) = e.1
      places m same (inl less) =
          let round : slice_cmp nat_cmp k.0 k.0 ≡ Less = subst (λ (x : List ℕ). slice_cmp nat_cmp k.0 x ≡ Less) same less in
          let itself : slice_cmp nat_cmp k.0 k.0 ≡ Equal = tied_itself nat_list_cmp_total k.0 in
          absurd cc

      by : Contains (crossings_with groups k ks) f ⊎ Contains (crossings groups ks) f → (Contains (crossings groups ks) f → Pair ks f) → Pair (k ∷ ks) f
      by (inl m) later =
          let p = with_from k ks f m in
          (k, p.0, contains_head k ks, contains_tail k ks p.0 p.1, p.2, places p.0 p.2 (label_less k p.0 (from_all by_label (λ m. by_label k m ≡ Less) ks sorted.0 p.0 p.1)), p.3)
      by (inr m) later = let p = later m in (p.0, p.1, contains_tail k ks p.0 p.2, contains_tail k ks p.1 p.3, p.4, p.5, p.6)

  pub crossings_to : (ks : List (List ℕ × ℕ)) (k l : List ℕ × ℕ) → IsStrictlySortedBy by_label ks → Contains ks k → Contains ks l → l.0 ≡ k.0 → k.1 < l.1 → Contains (crossings groups ks) (crossing groups k l.1)
  unfolding IsStrictlySortedBy
  crossings_to [] k l sorted h m same lt = absurd (contains_nil k h)
  crossings_to (n ∷ ks) k l sorted h m same lt = by (contains_cases n ks k h) (contains_cases n ks l m) (λ h m. crossings_to ks k l sorted.1 h m same lt)
    where
      by : (n ≡ k) ⊎ Contains ks k → (n ≡ l) ⊎ Contains ks l → (Contains ks k → Contains ks l → Contains (crossings groups ks) (crossing groups k l.1))
          → Contains (crossings_with groups n ks ++ crossings groups ks) (crossing groups k l.1)
      by (inr h) (inr m) later = Contains-append_right (crossings_with groups n ks) (crossings groups ks) (crossing groups k l.1) (later h m)
      by (inl e) (inr m) later =
          Contains-append_left (crossings_with groups n ks) (crossings groups ks) (crossing groups k l.1)
          (subst (λ (p : List ℕ × ℕ). Contains (crossings_with groups n ks) (crossing groups p l.1)) e (with_to n ks l sorted.0 sorted.1 m (same ∙ sym (ap (λ (p : List ℕ × ℕ). p.0) e))))
      by (inl e) (inl f) later = absurd (let number : k.1 ≡ l.1 = ap (λ (p : List ℕ × ℕ). p.1) (sym e ∙ f) in omega (arith, number, lt))
      by (inr h) (inl f) later = absurd (wrong (label_less n k (from_all by_label (λ p. by_label n p ≡ Less) ks sorted.0 k h)))
        where
          own : n.0 ≡ k.0
          own = ap (λ (p : List ℕ × ℕ). p.0) f ∙ same

          wrong : (slice_cmp nat_cmp n.0 k.0 ≡ Less) ⊎ ((n.0 ≡ k.0) × (n.1 < k.1)) → ⊥
          wrong (inr e) = let number : n.1 ≡ l.1 = ap (λ (p : List ℕ × ℕ). p.1) f in let below : n.1 < k.1 = e.1 in omega (arith, number, lt, below)
          wrong (inl less) =
              let round : slice_cmp nat_cmp n.0 n.0 ≡ Less = subst (λ (x : List ℕ). slice_cmp nat_cmp n.0 x ≡ Less) (sym own) less in
              let itself : slice_cmp nat_cmp n.0 n.0 ≡ Equal = tied_itself nat_list_cmp_total n.0 in
              cc

  pub crossings_sorted : (ks : List (List ℕ × ℕ)) → IsStrictlySortedBy by_label ks → IsStrictlySortedBy by_key (crossings groups ks)
  unfolding IsStrictlySortedBy
  crossings_sorted [] sorted = tt
  crossings_sorted (k ∷ ks) sorted = sorted_both by_key (crossings_with groups k ks) (crossings groups ks) (with_sorted k ks sorted.1) (crossings_sorted ks sorted.1) between
    where
      at : (m l p : List ℕ × ℕ) → m.0 ≡ k.0 → (slice_cmp nat_cmp k.0 l.0 ≡ Less) ⊎ ((k.0 ≡ l.0) × (k.1 < l.1)) → by_key (crossing groups k m.1) (crossing groups l p.1) ≡ Less
      at m l p same (inl less) = crossing_label k.0 l.0 (name_at groups k.1) (name_at groups m.1) (name_at groups l.1) (name_at groups p.1) less
      at m l p same (inr e) = subst (λ (x : List ℕ). by_key (crossing groups k m.1) (crossing groups (x, l.1) p.1) ≡ Less) e.0
          (crossing_first k.0 (name_at groups k.1) (name_at groups m.1) (name_at groups l.1) (name_at groups p.1) (place_before groups k.1 l.1 e.1))

      between : (f g : Finding) → Contains (crossings_with groups k ks) f → Contains (crossings groups ks) g → by_key f g ≡ Less
      between f g h m =
          let a = with_from k ks f h in
          let b = crossings_from ks g sorted.1 m in
          subst (λ (x : Finding). by_key x g ≡ Less) a.3 (subst (λ (x : Finding). by_key (crossing groups k a.0.1) x ≡ Less) b.6
          (at a.0 b.0 b.1 a.2 (label_less k b.0 (from_all by_label (λ p. by_label k p ≡ Less) ks sorted.0 b.0 b.2))))
