-- Sets of pairs of codes.
use Rattle.std.proofs.Common.{◌≡◌, ◌≢◌, ℕ, ◌+◌, ◌<◌, ◌≤◌, ◌==◌, ◌&&◌, ◌||◌, ◌⊎◌, inl, inr, ⊎_elim, not, nat_lt, cond, Bool, true, false, List, [], ◌∷◌, length, drop, get_or, drop-cons, suc, refl, sym, ap, ◌∙◌, arith}
use Rattle.std.proofs.Math.Bool.{or-false}
use Rattle.std.specs.declared.cmp.Ordering.{Ordering}
use Rattle.std.specs.declared.cmp.Ordering.TheVariants.{Less, Equal, Greater}
use Rattle.std.specs.Ordering.{nat_cmp, is_eq, ordering_then}
use Rattle.std.specs.Bool.{Decides}
use Rattle.std.specs.BTreeSet.{BTreeSet, contains as set_contains}
use Rattle.std.specs.Cmp.{unsigned_tied}
use Rattle.std.proofs.lemmas.Bool.{false_from_ne_true, cases_lt}
use Rattle.std.proofs.lemmas.Bool.Decides.{same_from_decides, Decides-eqb, Decides-ltb, Decides-and, Decides-or, Decides-like}
use Rattle.grouping_laws.specs.Sets.{contains}
use Rattle.county_problem.specs.ProblemValue.{names_both}
use Rattle.adjacency_reader.specs.Pairs.{by_codes, in_order, names}

-- ---- the pair that a comparison finds
then_tied : (r s : Ordering) → is_eq (ordering_then r s) ≡ (is_eq r && is_eq s)
then_tied Less s = refl
then_tied Equal s = refl
then_tied Greater s = refl

-- pairs that tie have the same codes
pub tied : (p q : ℕ × ℕ) → is_eq (by_codes p q) ≡ ((p.0 == q.0) && (p.1 == q.1))
tied p q =
    then_tied (nat_cmp p.0 q.0) (nat_cmp p.1 q.1)
    ∙ ap (λ t. t && is_eq (nat_cmp p.1 q.1)) (unsigned_tied p.0 q.0)
    ∙ ap (λ t. (p.0 == q.0) && t) (unsigned_tied p.1 q.1)

abbrev Both : ℕ → ℕ → ℕ → ℕ → Type 0
Both a b x y = (a ≡ x) × (b ≡ y)

both : (a b x y : ℕ) → Decides (a == x && b == y) (Both a b x y)
both a b x y = Decides-and (a == x) (b == y) (Decides-eqb a x) (Decides-eqb b y)

named : (a b x y : ℕ) → Decides (nat_lt x y && names x y (a, b)) ((x < y) × (Both a b x y ⊎ Both a b y x))
named a b x y = Decides-and (nat_lt x y) (names x y (a, b)) (Decides-ltb x y) (Decides-or _ _ (both a b x y) (both a b y x))

ordered_named : (a b x y : ℕ) (t : Bool) → Decides t (a < b) → a ≢ b → is_eq (by_codes (cond t (a, b) (b, a)) (x, y)) ≡ (nat_lt x y && names x y (a, b))
ordered_named a b x y true below apart =
    let less : a < b = below.0 refl in
    tied (a, b) (x, y) ∙ same_from_decides _ _ (both a b x y) (Decides-like _
    (λ (n : (x < y) × (Both a b x y ⊎ Both a b y x)). straight less n.0 n.1)
    (λ (e : Both a b x y). (let is_x : a ≡ x = e.0 in let is_y : b ≡ y = e.1 in omega arith, inl e))
    (named a b x y))
  where
    straight : a < b → x < y → Both a b x y ⊎ Both a b y x → Both a b x y
    straight less lt (inl e) = e
    straight less lt (inr e) = let is_y : a ≡ y = e.0 in let is_x : b ≡ x = e.1 in absurd (omega arith)
ordered_named a b x y false below apart =
    tied (b, a) (x, y) ∙ same_from_decides _ _ (both b a x y) (Decides-like _
    (λ (n : (x < y) × (Both a b x y ⊎ Both a b y x)). turned n.0 n.1)
    (λ (e : Both b a x y). (let is_x : b ≡ x = e.0 in let is_y : a ≡ y = e.1 in let more : a < b → ⊥ = not_less in ⊎_elim (λ (lt : a < b). absurd (more lt)) (λ (le : b ≤ a). omega arith) (cases_lt a b), inr (e.1, e.0)))
    (named a b x y))
  where
    not_less : a < b → ⊥
    not_less lt = let no : false ≡ true = below.1 lt in cc

    turned : x < y → Both a b x y ⊎ Both a b y x → Both b a x y
    turned lt (inl e) = let is_x : a ≡ x = e.0 in let is_y : b ≡ y = e.1 in absurd (not_less (omega arith))
    turned lt (inr e) = (e.1, e.0)

-- a pair in order ties with the one pair of its codes whose first is the lesser
pub in_order_named : (a b x y : ℕ) → a ≢ b → is_eq (by_codes (in_order a b) (x, y)) ≡ (nat_lt x y && names x y (a, b))
in_order_named a b x y apart = ordered_named a b x y (nat_lt a b) (Decides-ltb a b) apart

-- a pair of a code with itself is no pair of two different codes
pub self_named : (a b x y : ℕ) → a ≡ b → (nat_lt x y && names x y (a, b)) ≡ false
self_named a b x y same = false_from_ne_true _ (λ (t : (nat_lt x y && names x y (a, b)) ≡ true). none ((named a b x y).0 t))
  where
    none : (x < y) × (Both a b x y ⊎ Both a b y x) → ⊥
    none n = by n.0 n.1
      where
        by : x < y → Both a b x y ⊎ Both a b y x → ⊥
        by lt (inl e) = let is_x : a ≡ x = e.0 in let is_y : b ≡ y = e.1 in omega arith
        by lt (inr e) = let is_y : a ≡ y = e.0 in let is_x : b ≡ x = e.1 in omega arith

-- what is left of a list at the item of a place
pub drop_item : {X : Type 0} (xs : List X) (i : ℕ) (x : X) → x ≡ get_or xs i x → i < length xs → drop i xs ≡ x ∷ drop (i + 1) xs
drop_item xs i x is lt =
    let next : suc i ≡ i + 1 = omega arith in
    drop-cons xs i x lt ∙ ap (λ y. y ∷ drop (suc i) xs) (sym is) ∙ ap (λ k. x ∷ drop k xs) next

-- two codes that the test tells apart
pub apart_from : (a b : ℕ) → true ≡ not (a == b) → a ≢ b
apart_from a b test same = let tied : (a == b) ≡ true = (Decides-eqb a b).1 same in cc

-- ---- sets after a pair was added or cut
abbrev Pairs : Type 0
Pairs = BTreeSet (ℕ × ℕ)

added : (t old : Bool) → cond t true old ≡ (t || old)
added true old = refl
added false old = refl

taken : (t old : Bool) → cond t false old ≡ (not t && old)
taken true old = refl
taken false old = refl

module _ (key : ℕ × ℕ) (a b : ℕ) (old new : Pairs) (is : key ≡ in_order a b) (apart : a ≢ b) where
  same_test : (x y : ℕ) → is_eq (by_codes key (x, y)) ≡ (nat_lt x y && names x y (a, b))
  same_test x y = ap (λ (k : ℕ × ℕ). is_eq (by_codes k (x, y))) is ∙ in_order_named a b x y apart

  pub after_add : ((q : ℕ × ℕ) → set_contains by_codes new q ≡ cond (is_eq (by_codes key q)) true (set_contains by_codes old q))
      → (x y : ℕ) → set_contains by_codes new (x, y) ≡ (nat_lt x y && names x y (a, b) || set_contains by_codes old (x, y))
  after_add updates x y = updates (x, y) ∙ ap (λ (t : Bool). cond t true (set_contains by_codes old (x, y))) (same_test x y) ∙ added (nat_lt x y && names x y (a, b)) (set_contains by_codes old (x, y))

  pub after_cut : ((q : ℕ × ℕ) → set_contains by_codes new q ≡ cond (is_eq (by_codes key q)) false (set_contains by_codes old q))
      → (x y : ℕ) → set_contains by_codes new (x, y) ≡ (not (nat_lt x y && names x y (a, b)) && set_contains by_codes old (x, y))
  after_cut updates x y = updates (x, y) ∙ ap (λ (t : Bool). cond t false (set_contains by_codes old (x, y))) (same_test x y) ∙ taken (nat_lt x y && names x y (a, b)) (set_contains by_codes old (x, y))

-- ---- a loop that adds the pairs of rows
next_row : (lt t n old : Bool) → (((lt && t) || old) || (lt && n)) ≡ (old || (lt && (t || n)))
next_row true true n true = refl
next_row true true n false = refl
next_row true false n old = refl
next_row false t n old = refl

no_row : (lt old : Bool) → (old || (lt && false)) ≡ old
no_row true true = refl
no_row true false = refl
no_row false true = refl
no_row false false = refl

module _ (x y : ℕ) (old new : Pairs) (whole : Bool) where
  pub after_row : (q : ℕ × ℕ) (rows : List (ℕ × ℕ)) → set_contains by_codes new (x, y) ≡ (nat_lt x y && names x y q || set_contains by_codes old (x, y))
      → (set_contains by_codes old (x, y) || (nat_lt x y && names_both (q ∷ rows) x y)) ≡ whole
      → (set_contains by_codes new (x, y) || (nat_lt x y && names_both rows x y)) ≡ whole
  after_row q rows added before =
      ap (λ (t : Bool). t || (nat_lt x y && names_both rows x y)) added ∙ next_row (nat_lt x y) (names x y q) (names_both rows x y) (set_contains by_codes old (x, y)) ∙ before

  pub after_rows : (rows : List (ℕ × ℕ)) → rows ≡ [] → (set_contains by_codes old (x, y) || (nat_lt x y && names_both rows x y)) ≡ whole → set_contains by_codes old (x, y) ≡ whole
  after_rows rows none before =
      sym (no_row (nat_lt x y) (set_contains by_codes old (x, y))) ∙ ap (λ (r : List (ℕ × ℕ)). set_contains by_codes old (x, y) || (nat_lt x y && names_both r x y)) (sym none) ∙ before

-- ---- sets of codes
next_code : (t n old : Bool) → ((t || old) || n) ≡ (old || (t || n))
next_code true n true = refl
next_code true n false = refl
next_code false n old = refl

module _ (c : ℕ) (old new : BTreeSet ℕ) (whole : Bool) where
  pub after_code : (code : ℕ) (codes : List ℕ) → set_contains nat_cmp new c ≡ cond (is_eq (nat_cmp code c)) true (set_contains nat_cmp old c)
      → (set_contains nat_cmp old c || contains (code ∷ codes) c) ≡ whole → (set_contains nat_cmp new c || contains codes c) ≡ whole
  after_code code codes updated before =
      ap (λ (t : Bool). t || contains codes c) (updated ∙ ap (λ (t : Bool). cond t true (set_contains nat_cmp old c)) (unsigned_tied code c) ∙ added (code == c) (set_contains nat_cmp old c))
      ∙ next_code (code == c) (contains codes c) (set_contains nat_cmp old c) ∙ before

  pub after_codes : (codes : List ℕ) → codes ≡ [] → (set_contains nat_cmp old c || contains codes c) ≡ whole → set_contains nat_cmp old c ≡ whole
  after_codes codes none before = sym (or-false (set_contains nat_cmp old c)) ∙ ap (λ (l : List ℕ). set_contains nat_cmp old c || contains l c) (sym none) ∙ before
