-- The order of findings, by kind and then by key.
use Rattle.std.proofs.Common.{◌≡◌, ℕ, suc, ◌+◌, ◌-◌, ◌<◌, ◌≤◌, nat_lt, ◌⊎◌, inl, inr, Bool, true, false, List, [], ◌∷◌, ◌++◌, length, map, Contains, refl, sym, ap, ◌∙◌, subst, arith, if◌then◌else◌}
use Rattle.std.specs.List.Sorted.{IsStrictlySortedBy}
use Rattle.std.specs.Ordering.{nat_cmp, ordering_then, is_eq}
use Rattle.std.specs.declared.cmp.Ordering.{Ordering}
use Rattle.std.specs.declared.cmp.Ordering.TheVariants.{Less, Equal, Greater}
use Rattle.std.specs.Cmp.{nat_cmp_is, nat_cmp_total, ranked, tied_itself}
use Rattle.std.specs.Cmp.Lexicographic.{slice_cmp, nat_list_cmp_total, texts_ties}
use Rattle.std.proofs.lemmas.Bool.Decides.{nat_tests}
use Rattle.pl94_counties.proofs.TraceLemmas.{contains_head, contains_tail, contains_cases}
use Rattle.baf_auditor.specs.Findings.{set_key, IsLesserKey, key_of, by_key, AreCodesWith}
use Rattle.baf_auditor.specs.Giving.{by_label}
use Rattle.baf_auditor.specs.Districts.{name_at}
use Rattle.baf_auditor.specs.declared.finding.Set.{Set}
use Rattle.baf_auditor.specs.declared.finding.Set.TheVariants.{Group, Withdrawn}
use Rattle.baf_auditor.specs.declared.finding.Finding.{Finding}
use Rattle.baf_auditor.specs.declared.finding.Finding.TheVariants.{Crosses}
use Rattle.baf_auditor.proofs.ListLemmas.{all_from, from_all, sorted_both, mapped_from}
use Rattle.baf_auditor.proofs.DistrictLemmas.{label_same}

-- ---- numbers and labels
pub less_number : (x y : ℕ) → x < y → nat_cmp x y ≡ Less
less_number x y lt = sym (nat_cmp_is x y Less lt)

pub number_less : (x y : ℕ) → nat_cmp x y ≡ Less → x < y
number_less x y less = ranked x y Less (sym less)

-- one list that is less than another stays so with more behind both
pub less_before : (a b c d : List ℕ) → length a ≡ length b → slice_cmp nat_cmp a b ≡ Less → slice_cmp nat_cmp (a ++ c) (b ++ d) ≡ Less
less_before [] [] c d long less = cc
less_before [] (y ∷ ys) c d long less = absurd (let l : 0 ≡ suc (length ys) = long in omega (arith, l))
less_before (x ∷ xs) [] c d long less = cc
less_before (x ∷ xs) (y ∷ ys) c d long less = by (nat_cmp x y) less (λ (e : slice_cmp nat_cmp xs ys ≡ Less). less_before xs ys c d (let l : suc (length xs) ≡ suc (length ys) = long in omega (arith, l)) e)
  where
    by : (r : Ordering) → ordering_then r (slice_cmp nat_cmp xs ys) ≡ Less → (slice_cmp nat_cmp xs ys ≡ Less → slice_cmp nat_cmp (xs ++ c) (ys ++ d) ≡ Less) → ordering_then r (slice_cmp nat_cmp (xs ++ c) (ys ++ d)) ≡ Less
    by Less e later = refl
    by Equal e later = later e
    by Greater e later = e

-- with the same before both, what stands behind decides
pub same_before : (a c d : List ℕ) → slice_cmp nat_cmp (a ++ c) (a ++ d) ≡ slice_cmp nat_cmp c d
same_before [] c d = refl
same_before (x ∷ xs) c d = ap (λ r. ordering_then r (slice_cmp nat_cmp (xs ++ c) (xs ++ d))) (tied_itself nat_cmp_total x) ∙ same_before xs c d

-- the lesser of two labels with numbers
pub label_less : (x y : List ℕ × ℕ) → by_label x y ≡ Less → (slice_cmp nat_cmp x.0 y.0 ≡ Less) ⊎ ((x.0 ≡ y.0) × (x.1 < y.1))
label_less x y less = by (slice_cmp nat_cmp x.0 y.0) refl less
  where
    by : (r : Ordering) → slice_cmp nat_cmp x.0 y.0 ≡ r → ordering_then r (nat_cmp x.1 y.1) ≡ Less → (slice_cmp nat_cmp x.0 y.0 ≡ Less) ⊎ ((x.0 ≡ y.0) × (x.1 < y.1))
    by Less is e = inl is
    by Equal is e = inr (label_same x.0 y.0 (texts_ties x.0 y.0 ∙ ap is_eq is), number_less x.1 y.1 e)
    by Greater is e = absurd cc

-- ---- sets
key_long : (s : Set) → length (set_key s) ≡ 2
key_long (Group n) = refl
key_long (Withdrawn n) = refl

pub keys_long : (s t : Set) → length (set_key s) ≡ length (set_key t)
keys_long s t = key_long s ∙ sym (key_long t)

-- a set at an earlier place is the lesser one
pub place_before : (groups i j : ℕ) → i < j → IsLesserKey (set_key (name_at groups i)) (set_key (name_at groups j))
place_before groups i j lt = by (nat_lt i groups) (nat_lt j groups) refl refl
  where
    least : (m n : ℕ) → m < n → ordering_then (nat_cmp m n) Equal ≡ Less
    least m n below = ap (λ r. ordering_then r Equal) (less_number m n below)

    by : (b c : Bool) → nat_lt i groups ≡ b → nat_lt j groups ≡ c
        → IsLesserKey (set_key (if b then Group (i + 1) else Withdrawn (i - groups + 1))) (set_key (if c then Group (j + 1) else Withdrawn (j - groups + 1)))
    by true true e f = let below : i + 1 < j + 1 = omega (arith, lt) in least (i + 1) (j + 1) below
    by true false e f = refl
    by false true e f = absurd (grind (arith, nat_tests, e, f, lt))
    by false false e f = let from : groups ≤ i = grind (arith, nat_tests, e) in let below : i - groups + 1 < j - groups + 1 = omega (arith, lt, from) in least (i - groups + 1) (j - groups + 1) below

never_less_itself : (k : List ℕ) → IsLesserKey k k → ⊥
never_less_itself k less = let same : slice_cmp nat_cmp k k ≡ Equal = tied_itself nat_list_cmp_total k in cc

-- and the lesser one stands at an earlier place
pub before_place : (groups i j : ℕ) → IsLesserKey (set_key (name_at groups i)) (set_key (name_at groups j)) → i < j
before_place groups i j less = by (nat_cmp i j) refl
  where
    by : (r : Ordering) → nat_cmp i j ≡ r → i < j
    by Less e = number_less i j e
    by Equal e = absurd (let same : i ≡ j = ranked i j Equal (sym e) in never_less_itself (set_key (name_at groups j)) (subst (λ (k : ℕ). IsLesserKey (set_key (name_at groups k)) (set_key (name_at groups j))) same less))
    by Greater e = absurd (let above : j < i = ranked i j Greater (sym e) in
        never_less_itself (set_key (name_at groups i)) (nat_list_cmp_total.trans (set_key (name_at groups i)) (set_key (name_at groups j)) (set_key (name_at groups i)) less (place_before groups j i above)))

-- sets at two places have two names
pub place_alone : (groups i j : ℕ) → name_at groups i ≡ name_at groups j → i ≡ j
place_alone groups i j same = by (nat_cmp i j) refl
  where
    by : (r : Ordering) → nat_cmp i j ≡ r → i ≡ j
    by Equal e = ranked i j Equal (sym e)
    by Less e = absurd (never_less_itself (set_key (name_at groups j)) (subst (λ (s : Set). IsLesserKey (set_key s) (set_key (name_at groups j))) same (place_before groups i j (number_less i j e))))
    by Greater e = absurd (never_less_itself (set_key (name_at groups j)) (subst (λ (s : Set). IsLesserKey (set_key (name_at groups j)) (set_key s)) same (place_before groups j i (ranked i j Greater (sym e)))))

-- ---- findings of crossing districts
pub crossing_label : (a b : List ℕ) (s t u v : Set) → slice_cmp nat_cmp a b ≡ Less → by_key (Crosses a s t) (Crosses b u v) ≡ Less
crossing_label a b s t u v less = ap (λ r. ordering_then r (slice_cmp nat_cmp (set_key s ++ set_key t) (set_key u ++ set_key v))) less

pub crossing_first : (a : List ℕ) (s t u v : Set) → IsLesserKey (set_key s) (set_key u) → by_key (Crosses a s t) (Crosses a u v) ≡ Less
crossing_first a s t u v less =
    ap (λ r. ordering_then r (slice_cmp nat_cmp (set_key s ++ set_key t) (set_key u ++ set_key v))) (tied_itself nat_list_cmp_total a)
    ∙ less_before (set_key s) (set_key u) (set_key t) (set_key v) (keys_long s u) less

pub crossing_second : (a : List ℕ) (s t v : Set) → IsLesserKey (set_key t) (set_key v) → by_key (Crosses a s t) (Crosses a s v) ≡ Less
crossing_second a s t v less =
    ap (λ r. ordering_then r (slice_cmp nat_cmp (set_key s ++ set_key t) (set_key s ++ set_key v))) (tied_itself nat_list_cmp_total a)
    ∙ same_before (set_key s) (set_key t) (set_key v) ∙ less

-- ---- lists of findings, kind after kind
-- a list in order, each of whose findings is so and of this kind or a later one
pub record IsOrdered (P : Finding → Type 0) (kind : ℕ) (list : List Finding) : Type 0 where
  pub in_order : IsStrictlySortedBy by_key list
  pub is_so : (f : Finding) → Contains list f → P f
  pub from_kind : (f : Finding) → Contains list f → kind ≤ (key_of f).0

pub kind_less : (f g : Finding) → (key_of f).0 < (key_of g).0 → by_key f g ≡ Less
kind_less f g lt = ap (λ r. ordering_then r (ordering_then (slice_cmp nat_cmp (key_of f).1 (key_of g).1) (slice_cmp nat_cmp (key_of f).2 (key_of g).2))) (less_number (key_of f).0 (key_of g).0 lt)

-- findings of a kind before those of later kinds
pub ordered_both : (P : Finding → Type 0) (kind : ℕ) (xs ys : List Finding) → IsOrdered P kind xs → ((f : Finding) → Contains xs f → (key_of f).0 ≡ kind) → IsOrdered P (kind + 1) ys → IsOrdered P kind (xs ++ ys)
ordered_both P kind xs ys one own other = record {
  in_order = sorted_both by_key xs ys one.in_order other.in_order (λ f g h k. kind_less f g (let at = own f h in let later = other.from_kind g k in omega (arith, at, later)));
  is_so = λ f h. elim (parts xs f h) as (λ _. P f) [
    | inl k ↦ one.is_so f k
    | inr k ↦ other.is_so f k
  ];
  from_kind = λ f h. elim (parts xs f h) as (λ _. kind ≤ (key_of f).0) [
    | inl k ↦ one.from_kind f k
    | inr k ↦ (let later = other.from_kind f k in omega (arith, later))
  ];
}
  where
    parts : (zs : List Finding) (f : Finding) → Contains (zs ++ ys) f → Contains zs f ⊎ Contains ys f
    parts [] f h = inr h
    parts (z ∷ zs) f h = by (contains_cases z (zs ++ ys) f h) (λ k. parts zs f k)
      where
        after : Contains zs f ⊎ Contains ys f → Contains (z ∷ zs) f ⊎ Contains ys f
        after (inl k) = inl (contains_tail z zs f k)
        after (inr k) = inr k

        by : (z ≡ f) ⊎ Contains (zs ++ ys) f → (Contains (zs ++ ys) f → Contains zs f ⊎ Contains ys f) → Contains (z ∷ zs) f ⊎ Contains ys f
        by (inl same) later = inl (subst (λ (g : Finding). Contains (z ∷ zs) g) same (contains_head z zs))
        by (inr k) later = after (later k)

-- findings of single blocks
module _ (P : Finding → Type 0) (Q : ℕ → Type 0) (kind : ℕ) (named : ℕ → Finding) (kind_is : (code : ℕ) → (key_of (named code)).0 ≡ kind)
    (kept : (c d : ℕ) → nat_cmp c d ≡ Less → by_key (named c) (named d) ≡ Less) (so : (code : ℕ) → Q code → P (named code)) where
  mapped_sorted : (codes : List ℕ) → IsStrictlySortedBy nat_cmp codes → IsStrictlySortedBy by_key (map named codes)
  unfolding IsStrictlySortedBy
  mapped_sorted [] sorted = tt
  mapped_sorted (c ∷ cs) sorted = (
    all_from by_key (λ f. by_key (named c) f ≡ Less) (map named cs)
        (λ f h. let m = mapped_from named cs f h in subst (λ (g : Finding). by_key (named c) g ≡ Less) m.2 (kept c m.0 (from_all nat_cmp (λ d. nat_cmp c d ≡ Less) cs sorted.0 m.0 m.1))),
    mapped_sorted cs sorted.1,
  )

  pub codes_kind : (codes : List ℕ) (f : Finding) → Contains (map named codes) f → (key_of f).0 ≡ kind
  codes_kind codes f h = let m = mapped_from named codes f h in sym (ap (λ (g : Finding). (key_of g).0) m.2) ∙ kind_is m.0

  pub codes_ordered : (codes : List ℕ) → AreCodesWith Q codes → IsOrdered P kind (map named codes)
  codes_ordered codes are = record {
    in_order = mapped_sorted codes are.ascending;
    is_so = λ f h. (let m = mapped_from named codes f h in subst P m.2 (so m.0 ((are.are m.0).0 m.1)));
    from_kind = λ f h. (let e = codes_kind codes f h in omega (arith, e));
  }
