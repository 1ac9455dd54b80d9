-- How a branch moves a completion: the group of its county is closed, or the county is raised.
use Rattle.std.proofs.Common.{◌≡◌, ℕ, ◌+◌, ◌≤◌, ◌<◌, Bool, true, false, cond, List, [], ◌∷◌, ◌++◌, length, ◌==◌, refl, sym, ap, ◌∙◌, subst, arith, ◌⊎◌, inl, inr, Option, Some, None}
use Rattle.std.specs.List.{AllZip}
use Rattle.std.proofs.lemmas.Bool.{eqb-true, false≢true, cases_lt}
use Rattle.county_codes.specs.declared.group.Group.{Group}
use Rattle.grouping_laws.specs.Sets.{indicator, sum_by, count, contains}
use Rattle.grouping_laws.specs.Problem.{Problem, Suits, people_of}
use Rattle.grouping_laws.specs.Grouping.{Grouping, counts, sets_of}
use Rattle.place_sets.proofs.Sums.{sum_by-append, sum_by-map, total_alike}
use Rattle.grouping_laws.proofs.Elements.{Has}
use Rattle.grouping_laws.proofs.Alike.{Alike, length_alike, member_alike}
use Rattle.certificate_laws.specs.Regions.{without}
use Rattle.certificate_laws.specs.State.{State, close, raise}
use Rattle.certificate_laws.specs.Certificate.{Beats}
use Rattle.certificate_laws.proofs.Completion.{IsWhole, Completes, group_lawful, group_rest}
use Rattle.certificate_laws.proofs.WithoutGroup.{split_one}

-- the list without the element found
abbrev pub others_of : {X : Type 0} (xs : List X) (y : X) → Has xs y → List X
others_of [] y h = []
others_of (x ∷ xs) y (inl e) = xs
others_of (x ∷ xs) y (inr h) = x ∷ others_of xs y h

pub sum_by-others : {X : Type 0} (f : X → ℕ) (xs : List X) (y : X) (h : Has xs y) → sum_by f xs ≡ f y + sum_by f (others_of xs y h)
sum_by-others f [] y h = absurd h
sum_by-others f (x ∷ xs) y (inl e) = omega (arith, ap f e)
sum_by-others f (x ∷ xs) y (inr h) = omega (arith, sum_by-others f xs y h)

pub others_has : {X : Type 0} (xs : List X) (y : X) (h : Has xs y) (z : X) → Has (others_of xs y h) z → Has xs z
others_has [] y h z k = absurd h
others_has (x ∷ xs) y (inl e) z k = inr k
others_has (x ∷ xs) y (inr h) z (inl e) = inl e
others_has (x ∷ xs) y (inr h) z (inr k) = inr (others_has xs y h z k)

-- either some group of the list has the county and at most `limit` counties, or each one that has it has more
pub find_small : (limit county : ℕ) (opens : Grouping)
    → ((m : Group) × Has opens m × (contains m.codes county ≡ true) × (length m.codes ≤ limit)) ⊎ ((m : Group) → Has opens m → contains m.codes county ≡ true → limit < length m.codes)
find_small limit county [] = inr (λ m h e. absurd h)
find_small limit county (x ∷ xs) = go (contains x.codes county) refl (cases_lt limit (length x.codes)) (find_small limit county xs)
  where
    Small : Grouping → Type 0
    Small ms = (m : Group) × Has ms m × (contains m.codes county ≡ true) × (length m.codes ≤ limit)

    Large : Grouping → Type 0
    Large ms = (m : Group) → Has ms m → contains m.codes county ≡ true → limit < length m.codes

    go : (b : Bool) → contains x.codes county ≡ b → (limit < length x.codes) ⊎ (length x.codes ≤ limit) → Small xs ⊎ Large xs → Small (x ∷ xs) ⊎ Large (x ∷ xs)
    go b e c (inl r) = inl (r.0, inr r.1, r.2, r.3)
    go true e (inr c) (inr l) = inl (x, inl refl, e, c)
    go true e (inl c) (inr l) = inr (λ m. elim [ inl k ↦ λ z. subst (λ (y : Group). limit < length y.codes) k c | inr k ↦ λ z. l m k z ])
    go false e c (inr l) = inr (λ m. elim [ inl k ↦ λ z. absurd (false≢true (sym e ∙ (ap (λ (y : Group). contains y.codes county) k ∙ z))) | inr k ↦ λ z. l m k z ])

pub AllZip_more : {A B : Type 0} (R : A → B → Type 0) (xs : List A) (ys : List B) (x : A) (y : B) → AllZip R xs ys → R x y → AllZip R (xs ++ x ∷ []) (ys ++ y ∷ [])
AllZip_more R [] [] x y h r = (r, tt)
AllZip_more R [] (b ∷ ys) x y h r = absurd h
AllZip_more R (a ∷ xs) [] x y h r = absurd h
AllZip_more R (a ∷ xs) (b ∷ ys) x y h r = (h.0, AllZip_more R xs ys x y h.1 r)

-- the counts of the closed and the completing groups
abbrev pub counts_with : State → Grouping → ℕ → ℕ
counts_with s opens j = counts s.closed j + counts (sets_of opens) j

pub beats_same : (target : Option Grouping) (f g : ℕ → ℕ) → ((j : ℕ) → f j ≡ g j) → Beats target f → Beats target g
beats_same None f g h b = tt
beats_same (Some t) f g h b = record {
  size = b.size;
  some_county = b.some_county;
  same_before = λ j x y. sym (h j) ∙ b.same_before j x y;
  more = omega (arith, h b.size, b.more);
}

module _ (p : Problem) (s : State) (whole : IsWhole p s) (opens : Grouping) (c : Completes p s opens) (m : Group) (has : Has opens m)
    (g : List ℕ) (same : Alike m.codes g) where
  close_one : (x : ℕ) → count x g + indicator (without g s.rest x) ≡ indicator (s.rest x)
  close_one = split_one s.rest g (λ x. omega (arith, same x, (group_lawful p s whole opens c m has).once x)) (λ x e. group_rest p s whole opens c m has x (member_alike g m.codes (λ y. sym (same y)) x e))

  pub close_whole : IsWhole p (close g s)
  close_whole x = omega (arith, whole x, close_one x, sum_by-append (count x) s.closed (g ∷ []))

  closed_least : (n : ℕ) (x : ℕ) → s.least x ≤ n → (b : Bool) → cond b 0 (s.least x) ≤ n
  closed_least n x h true = omega arith
  closed_least n x h false = h

  pub close_completes : Completes p (close g s) (others_of opens m has)
  close_completes = record {
    once = λ x. omega (arith, c.once x, close_one x, same x, sum_by-map (count x) (λ (y : Group). y.codes) opens, sum_by-map (count x) (λ (y : Group). y.codes) (others_of opens m has), sum_by-others (λ (y : Group). count x y.codes) opens m has);
    connected = λ y h. c.connected y (others_has opens m has y h);
    suits = λ y h. c.suits y (others_has opens m has y h);
    large = λ y h x e. closed_least (length y.codes) x (c.large y (others_has opens m has y h) x e) (contains g x);
    seats = c.seats ++ m.seats ∷ [];
    closed_suits = AllZip_more (λ k n. Suits p (people_of p k) n) s.closed c.seats g m.seats c.closed_suits (subst (λ z. Suits p z m.seats) (total_alike p.people m.codes g same) (c.suits m has));
    all_seats = omega (arith, c.all_seats, sum_by-append (λ k. k) c.seats (m.seats ∷ []), sum_by-others (λ (y : Group). y.seats) opens m has);
  }

  pub close_counts : (j : ℕ) → counts_with s opens j ≡ counts_with (close g s) (others_of opens m has) j
  close_counts j =
      omega (
        arith,
        sum_by-append (λ k. indicator (length k == j)) s.closed (g ∷ []),
        ap (λ z. indicator (z == j)) (length_alike m.codes g same),
        sum_by-map (λ k. indicator (length k == j)) (λ (y : Group). y.codes) opens,
        sum_by-map (λ k. indicator (length k == j)) (λ (y : Group). y.codes) (others_of opens m has),
        sum_by-others (λ (y : Group). indicator (length y.codes == j)) opens m has,
      )

module _ (p : Problem) (s : State) (county j : ℕ) where
  -- raising changes no set
  pub raise_completes : (opens : Grouping) → Completes p s opens → ((m : Group) → Has opens m → contains m.codes county ≡ true → j < length m.codes) → Completes p (raise county j s) opens
  raise_completes opens c large = record {
    once = c.once;
    connected = c.connected;
    suits = c.suits;
    large = λ m h x e. raised_large m h x e (x == county) refl;
    seats = c.seats;
    closed_suits = c.closed_suits;
    all_seats = c.all_seats;
  }
    where
      raised_large : (m : Group) → Has opens m → (x : ℕ) → contains m.codes x ≡ true → (b : Bool) → (x == county) ≡ b → cond b (j + 1) (s.least x) ≤ length m.codes
      raised_large m h x e true l = omega (arith, large m h (subst (λ z. contains m.codes z ≡ true) (eqb-true x county l) e))
      raised_large m h x e false l = c.large m h x e
