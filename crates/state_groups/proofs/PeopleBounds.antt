-- A group that grows from a set has further places, all in reach. Their people are at least those of as many places in
-- reach with the fewest people. They are at most the people in reach but those of the other places, which are as many
-- with the fewest people.
use Rattle.std.proofs.Common.{◌≡◌, ℕ, zero, suc, ◌+◌, ◌-◌, ◌≤◌, ◌<◌, ◌==◌, Bool, true, false, cond, ◌&&◌, ◌||◌, not, List, [], ◌∷◌, filter, take, drop, map, length, get_or, zero-add, add-one, refl, sym, ap, ◌∙◌, subst, arith, inl, inr}
use Rattle.std.specs.Bool.{⊤}
use Rattle.std.specs.List.Sorted.{IsNonDecreasingBy}
use Rattle.std.proofs.Math.Seq.{drop-cons}
use Rattle.std.proofs.lemmas.Bool.{and_parts, false≢true, eqb-true}
use Rattle.place_sets.proofs.Sums.{total_alike, sum_by-map, total_ones}
use Rattle.place_sets.proofs.PlaceSets.{often_in, often_out, total_union}
use Rattle.place_sets.specs.PlaceSets.{places_of}
use Rattle.grouping_laws.specs.Sets.{indicator, sum_by, count, contains}
use Rattle.grouping_laws.specs.Problem.{Problem, people_of}
use Rattle.grouping_laws.proofs.Elements.{Has, has_all, contains_from_has}
use Rattle.connected_laws.specs.Growing.{IsExtension}
use Rattle.state_groups.specs.People.{AreByPeople}

-- no element has fewer people than one before it
abbrev pub Rises : List (ℕ × ℕ) → Type 0
Rises [] = ⊤
Rises (r ∷ rows) = ((x : ℕ × ℕ) → Has rows x → r.0 ≤ x.0) × Rises rows

pub rises_from : (rows : List (ℕ × ℕ)) → IsNonDecreasingBy (λ (r : ℕ × ℕ). r.0) rows → Rises rows
rises_from [] h = tt
rises_from (r ∷ rows) h = (λ x i. first x (contains_from_has rows x i), rises_from rows (λ i j d l k. h (suc i) (suc j) d (omega arith) (omega arith)))
  where
    first : (x : ℕ × ℕ) → (k : ℕ) × (k < length rows) × (get_or rows k x ≡ x) → r.0 ≤ x.0
    first x c = subst (λ (z : ℕ × ℕ). r.0 ≤ z.0) c.2 (h 0 (suc c.0) x (omega arith) (omega (arith, c.1)))

has_filtered : (q : ℕ × ℕ → Bool) (rows : List (ℕ × ℕ)) (x : ℕ × ℕ) → Has (filter q rows) x → Has rows x
has_filtered q [] x h = absurd h
has_filtered q (r ∷ rows) x h = go (q r) (has_filtered q rows x) h
  where
    go : (b : Bool) → (Has (filter q rows) x → Has rows x) → Has (cond b (r ∷ filter q rows) (filter q rows)) x → Has (r ∷ rows) x
    go true next (inl e) = inl e
    go true next (inr i) = inr (next i)
    go false next i = inr (next i)

pub rises_filtered : (q : ℕ × ℕ → Bool) (rows : List (ℕ × ℕ)) → Rises rows → Rises (filter q rows)
rises_filtered q [] h = tt
rises_filtered q (r ∷ rows) h = go (q r) (rises_filtered q rows h.1)
  where
    go : (b : Bool) → Rises (filter q rows) → Rises (cond b (r ∷ filter q rows) (filter q rows))
    go true k = (λ x i. h.0 x (has_filtered q rows x i), k)
    go false k = k

-- the first `k` of a list and the first `k` + 1, where an element has no more people than any of the list
one_more : (m k : ℕ) (rows : List (ℕ × ℕ)) → ((x : ℕ × ℕ) → Has rows x → m ≤ x.0) → suc k ≤ length rows → m + sum_by (λ (r : ℕ × ℕ). r.0) (take k rows) ≤ sum_by (λ (r : ℕ × ℕ). r.0) (take (suc k) rows)
one_more m k [] h l = absurd (omega (arith, l))
one_more m zero (r ∷ rows) h l = omega (arith, h r (inl refl))
one_more m (suc k) (r ∷ rows) h l = omega (arith, one_more m k rows (λ x i. h x (inr i)) (omega (arith, l)))

shorter : (q : ℕ × ℕ → Bool) (xs : List (ℕ × ℕ)) → length (filter q xs) ≤ length xs
shorter q [] = omega arith
shorter q (x ∷ xs) = go (q x) (shorter q xs)
  where
    go : (b : Bool) → length (filter q xs) ≤ length xs → length (cond b (x ∷ filter q xs) (filter q xs)) ≤ suc (length xs)
    go true l = omega (arith, l)
    go false l = omega (arith, l)

-- the first `k` of a list that rises have no more people than others of it, if these are at least `k`
pub first_fewest : (q : ℕ × ℕ → Bool) (k : ℕ) (rows : List (ℕ × ℕ)) → Rises rows → k ≤ length (filter q rows) → sum_by (λ (r : ℕ × ℕ). r.0) (take k rows) ≤ sum_by (λ (r : ℕ × ℕ). r.0) (filter q rows)
first_fewest q zero rows h l = omega arith
first_fewest q (suc k) [] h l = omega arith
first_fewest q (suc k) (r ∷ rows) h l = go (q r) (λ j. first_fewest q k rows h.1 j) (λ j. first_fewest q (suc k) rows h.1 j) l
  where
    rest : List (ℕ × ℕ)
    rest = filter q rows

    go : (b : Bool) → (k ≤ length rest → sum_by (λ (x : ℕ × ℕ). x.0) (take k rows) ≤ sum_by (λ (x : ℕ × ℕ). x.0) rest) → (suc k ≤ length rest → sum_by (λ (x : ℕ × ℕ). x.0) (take (suc k) rows) ≤ sum_by (λ (x : ℕ × ℕ). x.0) rest)
        → suc k ≤ length (cond b (r ∷ rest) rest) → r.0 + sum_by (λ (x : ℕ × ℕ). x.0) (take k rows) ≤ sum_by (λ (x : ℕ × ℕ). x.0) (cond b (r ∷ rest) rest)
    go true fewer same j = omega (arith, fewer (omega (arith, j)))
    go false fewer same j = omega (arith, same j, one_more r.0 k rows h.0 (omega (arith, j, shorter q rows)))

-- how often a place stands among the rows that pass a test of places
often_rows : (c : ℕ) (t : ℕ → Bool) (rows : List (ℕ × ℕ)) → count c (map (λ (r : ℕ × ℕ). r.1) (filter (λ (r : ℕ × ℕ). t r.1) rows)) ≡ cond (t c) (sum_by (λ (r : ℕ × ℕ). indicator (r.1 == c)) rows) 0
often_rows c t [] = none (t c)
  where
    none : (b : Bool) → let zeros : ℕ = cond b 0 0 in 0 ≡ zeros
    none true = refl
    none false = refl
often_rows c t (r ∷ rows) = split (t r.1) ∙ (ap (λ z. cond (t r.1) (indicator (r.1 == c)) 0 + z) (often_rows c t rows) ∙ step (t r.1) refl (r.1 == c) refl (t c) refl)
  where
    others : List (ℕ × ℕ)
    others = filter (λ (x : ℕ × ℕ). t x.1) rows

    rest : ℕ
    rest = sum_by (λ (x : ℕ × ℕ). indicator (x.1 == c)) rows

    split : (a : Bool) → count c (map (λ (x : ℕ × ℕ). x.1) (cond a (r ∷ others) others)) ≡ cond a (indicator (r.1 == c)) 0 + count c (map (λ (x : ℕ × ℕ). x.1) others)
    split true = refl
    split false = sym (zero-add (count c (map (λ (x : ℕ × ℕ). x.1) others)))

    step : (a : Bool) → t r.1 ≡ a → (b : Bool) → (r.1 == c) ≡ b → (d : Bool) → t c ≡ d → cond a (indicator b) 0 + cond d rest 0 ≡ cond d (indicator b + rest) 0
    step true e true f true k = refl
    step true e true f false k = absurd (false≢true (sym k ∙ (sym (ap t (eqb-true r.1 c f)) ∙ e)))
    step true e false f true k = refl
    step true e false f false k = refl
    step false e true f true k = absurd (false≢true (sym e ∙ (ap t (eqb-true r.1 c f) ∙ k)))
    step false e true f false k = refl
    step false e false f true k = refl
    step false e false f false k = refl

taken_fewer : (xs : List (ℕ × ℕ)) (k : ℕ) → sum_by (λ (r : ℕ × ℕ). r.0) (take k xs) ≤ sum_by (λ (r : ℕ × ℕ). r.0) xs
taken_fewer [] zero = omega arith
taken_fewer [] (suc k) = omega arith
taken_fewer (x ∷ xs) zero = omega arith
taken_fewer (x ∷ xs) (suc k) = omega (arith, taken_fewer xs k)

-- rows that pass a test that is within another
filter_within : (q u : ℕ × ℕ → Bool) → ((x : ℕ × ℕ) → q x ≡ true → u x ≡ true) → (rows : List (ℕ × ℕ)) → filter q (filter u rows) ≡ filter q rows
filter_within q u h [] = refl
filter_within q u h (r ∷ rows) = go (u r) refl (q r) refl (filter_within q u h rows)
  where
    go : (a : Bool) → u r ≡ a → (b : Bool) → q r ≡ b → filter q (filter u rows) ≡ filter q rows → filter q (cond a (r ∷ filter u rows) (filter u rows)) ≡ cond b (r ∷ filter q rows) (filter q rows)
    go true e b f next = ap (λ z. cond z (r ∷ filter q (filter u rows)) (filter q (filter u rows))) f ∙ ap (λ z. cond b (r ∷ z) z) next
    go false e true f next = absurd (false≢true (sym e ∙ h r f))
    go false e false f next = next

-- a row has the people of its place
people_rows : (p : Problem) (q : ℕ × ℕ → Bool) (rows : List (ℕ × ℕ)) → ((r : ℕ × ℕ) → Has rows r → r.0 ≡ p.people r.1) → sum_by (λ (r : ℕ × ℕ). r.0) (filter q rows) ≡ sum_by (λ (r : ℕ × ℕ). p.people r.1) (filter q rows)
people_rows p q [] h = refl
people_rows p q (r ∷ rows) h = go (q r) (people_rows p q rows (λ x i. h x (inr i)))
  where
    go : (b : Bool) → sum_by (λ (x : ℕ × ℕ). x.0) (filter q rows) ≡ sum_by (λ (x : ℕ × ℕ). p.people x.1) (filter q rows)
        → sum_by (λ (x : ℕ × ℕ). x.0) (cond b (r ∷ filter q rows) (filter q rows)) ≡ sum_by (λ (x : ℕ × ℕ). p.people x.1) (cond b (r ∷ filter q rows) (filter q rows))
    go true k = omega (arith, h r (inl refl), k)
    go false k = k

module _ (p : Problem) (n : ℕ) (region : ℕ → Bool) (rows : List (ℕ × ℕ)) (are : AreByPeople p n region rows) where
  -- a sum over the rows of some places of the region is that over the places
  pub rows_total : (f : ℕ → ℕ) (t : ℕ → Bool) → ((x : ℕ) → t x ≡ true → region x ≡ true) → ((x : ℕ) → t x ≡ true → x < n) → sum_by (λ (r : ℕ × ℕ). f r.1) (filter (λ (r : ℕ × ℕ). t r.1) rows) ≡ sum_by f (places_of n t)
  rows_total f t inside below = sym (sum_by-map f (λ (r : ℕ × ℕ). r.1) (filter (λ (r : ℕ × ℕ). t r.1) rows)) ∙ total_alike f (map (λ (r : ℕ × ℕ). r.1) (filter (λ (r : ℕ × ℕ). t r.1) rows)) (places_of n t) each
    where
      each : (c : ℕ) → count c (map (λ (r : ℕ × ℕ). r.1) (filter (λ (r : ℕ × ℕ). t r.1) rows)) ≡ count c (places_of n t)
      each c = often_rows c t rows ∙ go (t c) refl
        where
          go : (b : Bool) → t c ≡ b → cond b (sum_by (λ (r : ℕ × ℕ). indicator (r.1 == c)) rows) 0 ≡ count c (places_of n t)
          go true e = are.once c (inside c e) ∙ sym (often_in n c t (below c e) e)
          go false e = sym (often_out n c t e)

  -- the people of some places of the region, over its rows
  people_total : (t : ℕ → Bool) → ((x : ℕ) → t x ≡ true → region x ≡ true) → ((x : ℕ) → t x ≡ true → x < n) → sum_by (λ (r : ℕ × ℕ). r.0) (filter (λ (r : ℕ × ℕ). t r.1) rows) ≡ people_of p (places_of n t)
  people_total t inside below = people_rows p (λ (r : ℕ × ℕ). t r.1) rows (λ r i. (has_all (λ (x : ℕ × ℕ). (x.0 ≡ p.people x.1) × (x.1 < n)) rows are.each r i).0) ∙ rows_total p.people t inside below

  -- and how many they are
  count_total : (t : ℕ → Bool) → ((x : ℕ) → t x ≡ true → region x ≡ true) → ((x : ℕ) → t x ≡ true → x < n) → length (filter (λ (r : ℕ × ℕ). t r.1) rows) ≡ length (places_of n t)
  count_total t inside below = sym (total_ones (filter (λ (r : ℕ × ℕ). t r.1) rows)) ∙ (rows_total (λ x. 1) t inside below ∙ total_ones (places_of n t))

  module _ (reach : ℕ → Bool) (inside : (x : ℕ) → reach x ≡ true → region x ≡ true) (below : (x : ℕ) → reach x ≡ true → x < n) where
    -- the people of the first `k` rows in reach
    abbrev pub first : ℕ → ℕ
    first k = sum_by (λ (r : ℕ × ℕ). r.0) (take k (filter (λ (r : ℕ × ℕ). reach r.1) rows))

    -- at least `k` places in reach have no fewer people
    pub least_joins : (joins : ℕ → Bool) → ((x : ℕ) → joins x ≡ true → reach x ≡ true) → (k : ℕ) → k ≤ length (places_of n joins) → first k ≤ people_of p (places_of n joins)
    least_joins joins within k some = omega (arith, least, people_total joins (λ x e. inside x (within x e)) (λ x e. below x (within x e)), ap (sum_by (λ (r : ℕ × ℕ). r.0)) same)
      where
        rise : Rises (filter (λ (r : ℕ × ℕ). reach r.1) rows)
        rise = rises_filtered (λ (r : ℕ × ℕ). reach r.1) rows (rises_from rows are.rising)

        same : filter (λ (r : ℕ × ℕ). joins r.1) (filter (λ (r : ℕ × ℕ). reach r.1) rows) ≡ filter (λ (r : ℕ × ℕ). joins r.1) rows
        same = filter_within (λ (r : ℕ × ℕ). joins r.1) (λ (r : ℕ × ℕ). reach r.1) (λ x e. within x.1 e) rows

        least : first k ≤ sum_by (λ (r : ℕ × ℕ). r.0) (filter (λ (r : ℕ × ℕ). joins r.1) (filter (λ (r : ℕ × ℕ). reach r.1) rows))
        least = first_fewest (λ (r : ℕ × ℕ). joins r.1) k (filter (λ (r : ℕ × ℕ). reach r.1) rows) rise (omega (arith, some, ap length same, count_total joins (λ x e. inside x (within x e)) (λ x e. below x (within x e))))

    -- no more than all in reach
    pub first_all : (k : ℕ) → first k ≤ people_of p (places_of n reach)
    first_all k = omega (arith, people_total reach inside below, taken_fewer (filter (λ (r : ℕ × ℕ). reach r.1) rows) k)

    -- at most `more` places in reach have no more people than what the others leave
    pub most_joins : (joins : ℕ → Bool) → ((x : ℕ) → joins x ≡ true → reach x ≡ true) → (more : ℕ) → length (places_of n joins) ≤ more
        → people_of p (places_of n joins) ≤ people_of p (places_of n reach) - first (length (places_of n reach) - more)
    most_joins joins within more few = omega (arith, split p.people, fewest)
      where
        others : ℕ → Bool
        others x = reach x && not (joins x)

        apart : (x : ℕ) → joins x ≡ true → others x ≡ false
        apart x e = ap (λ z. reach x && not z) e ∙ none (reach x)
          where
            none : (b : Bool) → (b && false) ≡ false
            none true = refl
            none false = refl

        both : (x : ℕ) → reach x ≡ (joins x || others x)
        both x = go (joins x) refl
          where
            one : (b : Bool) → b ≡ (b && true)
            one true = refl
            one false = refl

            go : (b : Bool) → joins x ≡ b → reach x ≡ (b || (reach x && not b))
            go true e = within x e
            go false e = one (reach x)

        split : (f : ℕ → ℕ) → sum_by f (places_of n reach) ≡ sum_by f (places_of n joins) + sum_by f (places_of n others)
        split f = total_union f n joins others reach apart both

        many : length (places_of n reach) - more ≤ length (places_of n others)
        many = omega (arith, few, split (λ x. 1), total_ones (places_of n reach), total_ones (places_of n joins), total_ones (places_of n others))

        fewest : first (length (places_of n reach) - more) ≤ people_of p (places_of n others)
        fewest = least_joins others (λ x e. (and_parts (reach x) (not (joins x)) e).0) (length (places_of n reach) - more) many

-- the rows from an index on that pass a test, one row later
pub first_row : (q : ℕ × ℕ → Bool) (rows : List (ℕ × ℕ)) (i : ℕ) (r : ℕ × ℕ) → i < length rows → r ≡ get_or rows i r → filter q (drop i rows) ≡ cond (q r) (r ∷ filter q (drop (i + 1) rows)) (filter q (drop (i + 1) rows))
first_row q rows i r l e =
    ap (filter q) (drop-cons rows i r l ∙ ap (λ z. get_or rows i r ∷ drop z rows) (sym (add-one i)))
    ∙ ap (λ (z : ℕ × ℕ). cond (q z) (z ∷ filter q (drop (i + 1) rows)) (filter q (drop (i + 1) rows))) (sym e)

module _ (q : ℕ × ℕ → Bool) (rows : List (ℕ × ℕ)) (i : ℕ) (r : ℕ × ℕ) (people left sum : ℕ) (some : 1 ≤ left) (here : i < length rows) (is : r ≡ get_or rows i r)
    (so_far : people + sum_by (λ (x : ℕ × ℕ). x.0) (take left (filter q (drop i rows))) ≡ sum) where
  -- the row passes
  pub row_taken : q r ≡ true → people + r.0 + sum_by (λ (x : ℕ × ℕ). x.0) (take (left - 1) (filter q (drop (i + 1) rows))) ≡ sum
  row_taken e = omega (arith, so_far, ap (λ z. sum_by (λ (x : ℕ × ℕ). x.0) (take left z)) (first_row q rows i r here is ∙ ap (λ b. cond b (r ∷ filter q (drop (i + 1) rows)) (filter q (drop (i + 1) rows))) e), one left some)
    where
      one : (k : ℕ) → 1 ≤ k → sum_by (λ (x : ℕ × ℕ). x.0) (take k (r ∷ filter q (drop (i + 1) rows))) ≡ r.0 + sum_by (λ (x : ℕ × ℕ). x.0) (take (k - 1) (filter q (drop (i + 1) rows)))
      one zero l = absurd (omega (arith, l))
      one (suc k) l = let e : suc k - 1 ≡ k = omega arith in ap (λ z. r.0 + sum_by (λ (x : ℕ × ℕ). x.0) (take z (filter q (drop (i + 1) rows)))) (sym e)

  -- it doesn't
  pub row_left : q r ≡ false → people + sum_by (λ (x : ℕ × ℕ). x.0) (take left (filter q (drop (i + 1) rows))) ≡ sum
  row_left e = omega (arith, so_far, ap (λ z. sum_by (λ (x : ℕ × ℕ). x.0) (take left z)) (first_row q rows i r here is ∙ ap (λ b. cond b (r ∷ filter q (drop (i + 1) rows)) (filter q (drop (i + 1) rows))) e))

-- A set that has all of a set is that set and what joins it.
module _ (p : Problem) (n limit : ℕ) (set free : ℕ → Bool) (g : List ℕ) (x : IsExtension p n limit set free g) where
  -- what joins
  abbrev pub joins : ℕ → Bool
  joins c = contains g c && not (set c)

  pub joins_free : (c : ℕ) → joins c ≡ true → free c ≡ true
  joins_free c e = let r = and_parts (contains g c) (not (set c)) e in go (set c) refl (x.within c r.0) r.1
    where
      go : (b : Bool) → set c ≡ b → (set c || free c) ≡ true → not (set c) ≡ true → free c ≡ true
      go true e h k = absurd (false≢true (sym (ap not e) ∙ k))
      go false e h k = sym (ap (λ z. z || free c) e) ∙ h

  pub joins_split : (f : ℕ → ℕ) → sum_by f g ≡ sum_by f (places_of n set) + sum_by f (places_of n joins)
  joins_split f = sym (ap (sum_by f) x.in_order) ∙ total_union f n set joins (contains g) apart both
    where
      apart : (c : ℕ) → set c ≡ true → joins c ≡ false
      apart c e = ap (λ z. contains g c && not z) e ∙ none (contains g c)
        where
          none : (b : Bool) → (b && false) ≡ false
          none true = refl
          none false = refl

      both : (c : ℕ) → contains g c ≡ (set c || joins c)
      both c = go (set c) refl
        where
          one : (b : Bool) → b ≡ (b && true)
          one true = refl
          one false = refl

          go : (b : Bool) → set c ≡ b → contains g c ≡ (b || (contains g c && not b))
          go true e = x.has c e
          go false e = one (contains g c)

  pub joins_length : length g ≡ length (places_of n set) + length (places_of n joins)
  joins_length = omega (arith, joins_split (λ z. 1), total_ones g, total_ones (places_of n set), total_ones (places_of n joins))
