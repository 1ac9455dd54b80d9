-- Sets with seats: the connected parts of a problem, seated, are lawful where any grouping is.
use Rattle.std.proofs.Common.{◌≡◌, ℕ, ◌≤◌, Bool, true, false, List, [], ◌∷◌, ◌++◌, length, refl, sym, ap, ◌∙◌, subst, arith, inl, inr}
use Rattle.grouping_laws.specs.Sets.{indicator, sum_by, count_in, contains}
use Rattle.grouping_laws.specs.Problem.{Problem, Suits, people_of, Connected}
use Rattle.county_codes.specs.declared.group.Group.{Group}
use Rattle.grouping_laws.specs.Grouping.{Grouping, Lawful, sets_of, seats_of}
use Rattle.std.specs.List.{AllZip}
use Rattle.grouping_laws.specs.Parts.{IsPart}
use Rattle.grouping_laws.specs.Ranges.{IsLeast, IsMost, SuitAll, seated, PartsAreLawful}
use Rattle.place_sets.proofs.Sums.{often_none, often_some, digit_one}
use Rattle.grouping_laws.proofs.Elements.{Has, has_all, all_from_has, has_set}
use Rattle.grouping_laws.proofs.Digits.{digit_true}
use Rattle.grouping_laws.proofs.Sizes.{stands_some}
use Rattle.grouping_laws.proofs.Parts.{FillRegion, hits, inner, outer, stands_inner, stands_outer, stands_split, outer_fill, part_suits, sum_by-split, member_head}

-- Groups that fill parts give each part a number of seats that suits it, and the seats add up.
pub parts_seated : (p : Problem) (region : ℕ → Bool) (parts : List (List ℕ)) (opens : Grouping) → FillRegion p region opens → ((xs : List ℕ) → Has parts xs → IsPart p region xs)
    → ((c : ℕ) → count_in c (sets_of opens) ≡ count_in c parts) → ((c : ℕ) → count_in c parts ≤ 1)
    → (seats : List ℕ) × AllZip (λ xs k. Suits p (people_of p xs) k) parts seats × (sum_by (λ k. k) seats ≡ seats_of opens)
parts_seated p region [] [] fill parts same once = ([], tt, refl)
parts_seated p region [] (m ∷ ms) fill parts same once =
    let y = first_code m.codes (fill.connected m (inl refl)).some_county in
    absurd (omega (arith, same y.0, often_some y.0 m.codes y.1))
  where
    first_code : (zs : List ℕ) → 1 ≤ length zs → (y : ℕ) × (contains zs y ≡ true)
    first_code [] h = absurd (omega arith)
    first_code (z ∷ zs) h = (z, member_head z zs)
parts_seated p region (xs ∷ parts) opens fill are same once =
    let part = are xs (inl refl) in
    let next = parts_seated p region parts (outer p region xs part opens fill) (outer_fill p region xs part opens fill) (λ ys h. are ys (inr h)) (λ c. rest c (contains xs c) refl) (λ c. omega (arith, once c)) in
    (seats_of (inner p region xs part opens fill) ∷ next.0, (part_suits p region xs part opens fill one, next.1), omega (arith, next.2, sum_by-split (λ (m : Group). m.seats) (λ m. hits xs m.codes) opens))
  where
    one : (c : ℕ) → contains xs c ≡ true → count_in c (sets_of opens) ≡ 1
    one c e = omega (arith, same c, once c, often_some c xs e)

    rest : (c : ℕ) → (b : Bool) → contains xs c ≡ b → count_in c (sets_of (outer p region xs (are xs (inl refl)) opens fill)) ≡ count_in c parts
    rest c true e = omega (arith, stands_outer p region xs (are xs (inl refl)) opens fill c e, once c, often_some c xs e)
    rest c false e = omega (arith, stands_inner p region xs (are xs (inl refl)) opens fill c e, stands_split p region xs (are xs (inl refl)) opens fill c, same c, often_none c xs e)

pub AllZip-append : {A B : Type 0} (R : A → B → Type 0) (xs : List A) (ys : List B) (us : List A) (vs : List B) → AllZip R xs ys → AllZip R us vs → AllZip R (xs ++ us) (ys ++ vs)
AllZip-append R [] [] us vs h k = k
AllZip-append R [] (b ∷ ys) us vs h k = absurd h
AllZip-append R (a ∷ xs) [] us vs h k = absurd h
AllZip-append R (a ∷ xs) (b ∷ ys) us vs h k = (h.0, AllZip-append R xs ys us vs h.1 k)

pub least_sum : (p : Problem) (sets : List (List ℕ)) (low seats : List ℕ) → AllZip (IsLeast p) sets low → AllZip (λ xs k. Suits p (people_of p xs) k) sets seats → sum_by (λ k. k) low ≤ sum_by (λ k. k) seats
least_sum p [] [] [] h k = omega arith
least_sum p [] (x ∷ low) seats h k = absurd h
least_sum p [] [] (y ∷ seats) h k = absurd k
least_sum p (g ∷ sets) [] seats h k = absurd h
least_sum p (g ∷ sets) (x ∷ low) [] h k = absurd k
least_sum p (g ∷ sets) (x ∷ low) (y ∷ seats) h k = omega (arith, h.0.least y k.0, least_sum p sets low seats h.1 k.1)

pub most_sum : (p : Problem) (sets : List (List ℕ)) (high seats : List ℕ) → AllZip (IsMost p) sets high → AllZip (λ xs k. Suits p (people_of p xs) k) sets seats → sum_by (λ k. k) seats ≤ sum_by (λ k. k) high
most_sum p [] [] [] h k = omega arith
most_sum p [] (x ∷ high) seats h k = absurd h
most_sum p [] [] (y ∷ seats) h k = absurd k
most_sum p (g ∷ sets) [] seats h k = absurd h
most_sum p (g ∷ sets) (x ∷ high) [] h k = absurd k
most_sum p (g ∷ sets) (x ∷ high) (y ∷ seats) h k = omega (arith, h.0.most y k.0, most_sum p sets high seats h.1 k.1)

pub set_from_stands : (c : ℕ) (sets : List (List ℕ)) → 1 ≤ count_in c sets → (g : List ℕ) × Has sets g × (contains g c ≡ true)
set_from_stands c [] h = absurd (omega arith)
set_from_stands c (g ∷ sets) h = go (contains g c) refl (set_from_stands c sets)
  where
    go : (b : Bool) → contains g c ≡ b → (1 ≤ count_in c sets → (x : List ℕ) × Has sets x × (contains x c ≡ true)) → (x : List ℕ) × Has (g ∷ sets) x × (contains x c ≡ true)
    go true e next = (g, inl refl, e)
    go false e next = let r = next (omega (arith, often_none c g e)) in (r.0, inr r.1, r.2)

pub first_code : (zs : List ℕ) → 1 ≤ length zs → (y : ℕ) × (contains zs y ≡ true)
first_code [] h = absurd (omega arith)
first_code (z ∷ zs) h = (z, member_head z zs)

-- what `seated` gives
pub seated_sets : (p : Problem) (sets : List (List ℕ)) (ks : List ℕ) → SuitAll p sets ks → sets_of (seated sets ks) ≡ sets
seated_sets p [] ks h = refl
seated_sets p (g ∷ sets) [] h = absurd h
seated_sets p (g ∷ sets) (k ∷ ks) h = ap (λ z. g ∷ z) (seated_sets p sets ks h.1)

pub seated_seats : (p : Problem) (sets : List (List ℕ)) (ks : List ℕ) → SuitAll p sets ks → seats_of (seated sets ks) ≡ sum_by (λ k. k) ks
seated_seats p [] [] h = refl
seated_seats p [] (k ∷ ks) h = absurd h
seated_seats p (g ∷ sets) [] h = absurd h
seated_seats p (g ∷ sets) (k ∷ ks) h = omega (arith, seated_seats p sets ks h.1)

pub seated_has : (p : Problem) (sets : List (List ℕ)) (ks : List ℕ) → SuitAll p sets ks → (m : Group) → Has (seated sets ks) m → Has sets m.codes × Suits p (people_of p m.codes) m.seats
seated_has p [] ks h m i = absurd i
seated_has p (g ∷ sets) [] h m i = absurd h
seated_has p (g ∷ sets) (k ∷ ks) h m (inl e) = (inl (ap (λ (x : Group). x.codes) e), subst (λ (x : Group). Suits p (people_of p x.codes) x.seats) e h.0)
seated_has p (g ∷ sets) (k ∷ ks) h m (inr i) = let r = seated_has p sets ks h.1 m i in (inr r.0, r.1)

pub seated_find : (p : Problem) (sets : List (List ℕ)) (ks : List ℕ) → SuitAll p sets ks → (g : List ℕ) → Has sets g → (m : Group) × Has (seated sets ks) m × (m.codes ≡ g)
seated_find p [] ks h g i = absurd i
seated_find p (x ∷ sets) [] h g i = absurd h
seated_find p (x ∷ sets) (k ∷ ks) h g (inl e) = (record { seats = k; codes = x }, inl refl, e)
seated_find p (x ∷ sets) (k ∷ ks) h g (inr i) = let r = seated_find p sets ks h.1 g i in (r.0, inr r.1, r.2)

pub seated_lawful : (p : Problem) (sets : List (List ℕ)) (ks : List ℕ) → ((c : ℕ) → count_in c sets ≡ indicator (contains p.counties c)) → ((g : List ℕ) → Has sets g → Connected p g) → SuitAll p sets ks → sum_by (λ k. k) ks ≡ p.seats_left
    → Lawful p (seated sets ks)
seated_lawful p sets ks once connected suit sum = record {
  once = λ c. ap (count_in c) (seated_sets p sets ks suit) ∙ once c;
  connected = all_from_has (λ m. Connected p m.codes) (seated sets ks) (λ m h. connected m.codes (seated_has p sets ks suit m h).0);
  suits = all_from_has (λ m. Suits p (people_of p m.codes) m.seats) (seated sets ks) (λ m h. (seated_has p sets ks suit m h).1);
  seats = seated_seats p sets ks suit ∙ sum;
}

-- Where some grouping is lawful, so are the connected parts of the problem.
pub parts_are_lawful : PartsAreLawful
parts_are_lawful p parts are g lawful =
    let fill : FillRegion p (contains p.counties) g = record {
      inside = λ m h c e. digit_true (contains p.counties c) (omega (arith, lawful.once c, stands_some c (sets_of g) m.codes (has_set g m h) e));
      connected = has_all (λ m. Connected p m.codes) g lawful.connected;
      suits = has_all (λ m. Suits p (people_of p m.codes) m.seats) g lawful.suits;
    } in
    let r = parts_seated p (contains p.counties) parts g fill (has_all (IsPart p (contains p.counties)) parts are.each) (λ c. lawful.once c ∙ sym (are.once c)) (λ c. omega (arith, are.once c, digit_one (contains p.counties c))) in
    (r.0, r.1, r.2 ∙ lawful.seats, seated_lawful p parts r.0 are.once (λ xs h. (has_all (IsPart p (contains p.counties)) parts are.each xs h).connected) r.1 (r.2 ∙ lawful.seats))
