-- Every region of a problem has connected parts: they are found by growing.
use Rattle.std.proofs.Common.{◌≡◌, ℕ, zero, suc, ◌+◌, ◌≤◌, Bool, true, false, not, ◌&&◌, List, [], ◌∷◌, length, filter, ◌==◌, refl, sym, ap, ◌∙◌, subst, arith, ◌⊎◌, inl, inr, ⊎_elim}
use Rattle.std.proofs.lemmas.Bool.{and_parts, and_from, false≢true, eqb-true}
use Rattle.grouping_laws.specs.Sets.{indicator, count, contains, Inside}
use Rattle.grouping_laws.specs.Problem.{Problem, Connected, IsProblem}
use Rattle.grouping_laws.specs.Parts.{IsPart, AreParts}
use Rattle.place_sets.proofs.Sums.{often_none}
use Rattle.grouping_laws.proofs.Elements.{has_all, all_from_has}
use Rattle.grouping_laws.proofs.Parts.{member_head, member_tail}
use Rattle.grouping_laws.proofs.Fill.{one, grown, member_cases}
use Rattle.grouping_laws.proofs.AddUp.{few_codes}
use Rattle.certificate_laws.specs.Regions.{without}
use Rattle.certificate_laws.proofs.WithoutGroup.{split_one, without_not, without_in}
use Rattle.certificate_laws.proofs.Counting.{fewer_kept}

-- a member that passes the test, or none does
find_or_none : (q : ℕ → Bool) (ys : List ℕ) → ((y : ℕ) × (contains ys y ≡ true) × (q y ≡ true)) ⊎ ((y : ℕ) → contains ys y ≡ true → q y ≡ false)
find_or_none q [] = inr (λ y h. absurd (false≢true h))
find_or_none q (z ∷ zs) = go (q z) refl (find_or_none q zs)
  where
    go : (b : Bool) → q z ≡ b → ((y : ℕ) × (contains zs y ≡ true) × (q y ≡ true)) ⊎ ((y : ℕ) → contains zs y ≡ true → q y ≡ false) → ((y : ℕ) × (contains (z ∷ zs) y ≡ true) × (q y ≡ true)) ⊎ ((y : ℕ) → contains (z ∷ zs) y ≡ true → q y ≡ false)
    go true e r = inl (z, member_head z zs, e)
    go false e (inl r) = inl (r.0, member_tail z zs r.0 r.1, r.2)
    go false e (inr n) = inr (λ y h. ⊎_elim (λ k. ap q (sym k) ∙ e) (n y) (member_cases z zs y h))

-- two members that pass the test, or none do
pair_or_none : (q : ℕ → ℕ → Bool) (ws ys : List ℕ) → ((x : ℕ) × (y : ℕ) × (contains ws x ≡ true) × (contains ys y ≡ true) × (q x y ≡ true)) ⊎ ((x y : ℕ) → contains ws x ≡ true → contains ys y ≡ true → q x y ≡ false)
pair_or_none q [] ys = inr (λ x y h. absurd (false≢true h))
pair_or_none q (w ∷ ws) ys = go (find_or_none (q w) ys) (pair_or_none q ws ys)
  where
    Pair : List ℕ → Type 0
    Pair zs = (x : ℕ) × (y : ℕ) × (contains zs x ≡ true) × (contains ys y ≡ true) × (q x y ≡ true)

    None : List ℕ → Type 0
    None zs = (x y : ℕ) → contains zs x ≡ true → contains ys y ≡ true → q x y ≡ false

    go : ((y : ℕ) × (contains ys y ≡ true) × (q w y ≡ true)) ⊎ ((y : ℕ) → contains ys y ≡ true → q w y ≡ false) → Pair ws ⊎ None ws → Pair (w ∷ ws) ⊎ None (w ∷ ws)
    go (inl r) next = inl (w, r.0, member_head w ws, r.1, r.2)
    go (inr n) (inl r) = inl (r.0, r.1, member_tail w ws r.0 r.2, r.3, r.4)
    go (inr n) (inr m) = inr (λ x y h k. ⊎_elim (λ e. subst (λ z. q z y ≡ false) e (n y k)) (λ i. m x y i k) (member_cases w ws x h))

module _ (p : Problem) (is : IsProblem p) (region : ℕ → Bool) (known : (c : ℕ) → region c ≡ true → contains p.counties c ≡ true) where
  -- a connected list inside the region that has a county
  record Around (c : ℕ) (xs : List ℕ) : Type 0 where
    pub once : (x : ℕ) → count x xs ≤ 1
    pub connected : Connected p xs
    pub inside : Inside region xs
    pub has : contains xs c ≡ true

  -- a county of the region that isn't in the list and is adjacent to a county
  abbrev joins : List ℕ → ℕ → ℕ → Bool
  joins xs x y = region y && (p.adjacent x y && not (contains xs y))

  joined : (c : ℕ) (xs : List ℕ) → Around c xs → (x y : ℕ) → contains xs x ≡ true → joins xs x y ≡ true → Around c (y ∷ xs)
  joined c xs a x y m j =
      let in_region = (and_parts (region y) (p.adjacent x y && not (contains xs y)) j).0 in
      let touch = (and_parts (p.adjacent x y) (not (contains xs y)) (and_parts (region y) (p.adjacent x y && not (contains xs y)) j).1) in
      record {
        once = λ z. once_with (is_off (contains xs y) touch.1) z (y == z) refl;
        connected = grown p is.symmetric xs x y a.connected m touch.0;
        inside = λ z e. ⊎_elim (λ k. subst (λ w. region w ≡ true) k in_region) (a.inside z) (member_cases y xs z e);
        has = member_tail y xs c a.has;
      }
    where
      is_off : (b : Bool) → not b ≡ true → b ≡ false
      is_off true h = absurd (false≢true h)
      is_off false h = refl

      once_with : contains xs y ≡ false → (z : ℕ) → (b : Bool) → (y == z) ≡ b → indicator b + count z xs ≤ 1
      once_with off z true e = omega (arith, often_none y xs off, ap (λ w. count w xs) (eqb-true y z e))
      once_with off z false e = omega (arith, a.once z)

  -- one more county joins, or the list is a connected part
  more_or_whole : (c : ℕ) (xs : List ℕ) → Around c xs → ((y : ℕ) × Around c (y ∷ xs)) ⊎ IsPart p region xs
  more_or_whole c xs a =
      ⊎_elim
      (λ r. inl (r.1, joined c xs a r.0 r.1 r.2 r.4))
      (λ none. inr (record { once = a.once; connected = a.connected; inside = a.inside; whole = λ x y m r t. found none x y m r t (contains xs y) refl }))
      (pair_or_none (joins xs) xs p.counties)
    where
      found : ((x y : ℕ) → contains xs x ≡ true → contains p.counties y ≡ true → joins xs x y ≡ false) → (x y : ℕ) → contains xs x ≡ true → region y ≡ true → p.adjacent x y ≡ true → (b : Bool) → contains xs y ≡ b → b ≡ true
      found none x y m r t true e = refl
      found none x y m r t false e = absurd (false≢true (sym (none x y m (known y r)) ∙ and_from (region y) (p.adjacent x y && not (contains xs y)) r (and_from (p.adjacent x y) (not (contains xs y)) t (ap not e))))

  grow : (n c : ℕ) (xs : List ℕ) → Around c xs → length p.counties ≤ n + length xs → (ys : List ℕ) × IsPart p region ys × (contains ys c ≡ true)
  grow zero c xs a long =
      ⊎_elim
      (λ r. absurd (omega (arith, few_codes p.counties (r.0 ∷ xs) r.1.once (λ z e. known z (r.1.inside z e)), long)))
      (λ w. (xs, w, a.has))
      (more_or_whole c xs a)
  grow (suc n) c xs a long = ⊎_elim (λ r. grow n c (r.0 ∷ xs) r.1 (omega (arith, long))) (λ w. (xs, w, a.has)) (more_or_whole c xs a)

  -- the connected part around a county of the region
  pub part_around : (c : ℕ) → region c ≡ true → (ys : List ℕ) × IsPart p region ys × (contains ys c ≡ true)
  part_around c r = grow (length p.counties) c (c ∷ []) (record { once = λ x. at_most x (c == x); connected = one p c; inside = λ x e. subst (λ w. region w ≡ true) (⊎_elim (λ k. k) (λ n. absurd (false≢true n)) (member_cases c [] x e)) r; has = member_head c [] }) (omega arith)
    where
      at_most : (x : ℕ) → (b : Bool) → indicator b + 0 ≤ 1
      at_most x true = omega arith
      at_most x false = omega arith

-- a part of what a part leaves is a part
pub part_of_rest : (p : Problem) → ((x y : ℕ) → p.adjacent x y ≡ true → p.adjacent y x ≡ true) → (region : ℕ → Bool) (xs ys : List ℕ) → IsPart p region xs → IsPart p (without xs region) ys → IsPart p region ys
part_of_rest p symmetric region xs ys a b = record {
  once = b.once;
  connected = b.connected;
  inside = λ x e. without_in xs region x (b.inside x e);
  whole = λ x y m r t. go x y m r t (contains xs y) refl;
}
  where
    go : (x y : ℕ) → contains ys x ≡ true → region y ≡ true → p.adjacent x y ≡ true → (d : Bool) → contains xs y ≡ d → contains ys y ≡ true
    go x y m r t true e = absurd (false≢true (sym (without_not xs region x (b.inside x m)) ∙ a.whole y x e (without_in xs region x (b.inside x m)) (symmetric x y t)))
    go x y m r t false e = b.whole x y m (and_from (region y) (not (contains xs y)) r (ap not e)) t

-- a part around a county, and the parts of what it leaves
parts_with : (p : Problem) → IsProblem p → (n : ℕ) (region : ℕ → Bool) → ((c : ℕ) → region c ≡ true → contains p.counties c ≡ true) → length (filter region p.counties) ≤ suc n
    → (c : ℕ) → contains p.counties c ≡ true → region c ≡ true
    → ((other : ℕ → Bool) → ((x : ℕ) → other x ≡ true → contains p.counties x ≡ true) → length (filter other p.counties) ≤ n → (parts : List (List ℕ)) × AreParts p other parts)
    → (parts : List (List ℕ)) × AreParts p region parts
parts_with p is n region known few c m r next =
    let first = part_around p is region known c r in
    let fewer = fewer_kept (without first.0 region) region p.counties c (without_in first.0 region) m (off (region c) (contains first.0 c) first.2) r in
    let others = next (without first.0 region) (λ x e. known x (without_in first.0 region x e)) (omega (arith, fewer, few)) in (
      first.0 ∷ others.0,
      record {
        each = all_from_has (IsPart p region) (first.0 ∷ others.0) (λ xs. elim [ inl e ↦ subst (IsPart p region) e first.1 | inr h ↦ part_of_rest p is.symmetric region first.0 xs first.1 (has_all (IsPart p (without first.0 region)) others.0 others.1.each xs h) ]);
        once = λ x. omega (arith, split_one region first.0 (first.1).once (first.1).inside x, others.1.once x);
      },
    )
  where
    off : (a b : Bool) → b ≡ true → (a && not b) ≡ false
    off true true e = refl
    off true false e = absurd (false≢true e)
    off false b e = refl

no_parts : (p : Problem) (region : ℕ → Bool) → ((c : ℕ) → region c ≡ true → contains p.counties c ≡ true) → ((y : ℕ) → contains p.counties y ≡ true → region y ≡ false) → AreParts p region []
no_parts p region known none = record { each = λ k d h. absurd (omega arith); once = λ c. empty c (region c) refl }
  where
    empty : (c : ℕ) → (b : Bool) → region c ≡ b → 0 ≡ indicator b
    empty c true e = absurd (false≢true (sym (none c (known c e)) ∙ e))
    empty c false e = refl

parts_of : (p : Problem) → IsProblem p → (n : ℕ) (region : ℕ → Bool) → ((c : ℕ) → region c ≡ true → contains p.counties c ≡ true) → length (filter region p.counties) ≤ n → (parts : List (List ℕ)) × AreParts p region parts
parts_of p is zero region known few =
    ⊎_elim
    (λ r. absurd (omega (arith, few, fewer_kept (λ x. false) region p.counties r.0 (λ x e. absurd (false≢true e)) r.1 refl r.2)))
    (λ none. ([], no_parts p region known none))
    (find_or_none region p.counties)
parts_of p is (suc n) region known few =
    ⊎_elim
    (λ r. parts_with p is n region known few r.0 r.1 r.2 (λ other k f. parts_of p is n other k f))
    (λ none. ([], no_parts p region known none))
    (find_or_none region p.counties)

-- every region of counties has a list of its connected parts
pub parts_exist : (p : Problem) → IsProblem p → (region : ℕ → Bool) → ((c : ℕ) → region c ≡ true → contains p.counties c ≡ true) → (parts : List (List ℕ)) × AreParts p region parts
parts_exist p is region known = parts_of p is (length (filter region p.counties)) region known (omega arith)
