-- Whether a list of codes is a group that fits a state of a plain round: it is or it isn't.
use Rattle.std.proofs.Common.{◌≡◌, ℕ, ◌≤◌, Bool, true, false, cond, ◌==◌, List, [], ◌∷◌, length, filter, refl, sym, ap, ◌∙◌, subst, arith, ◌⊎◌, inl, inr, ⊎_elim, Option, Some, None}
use Rattle.std.specs.Prelude.{nat_eq}
use Rattle.std.specs.Cmp.Lexicographic.{pointwise, bytes_decides}
use Rattle.std.proofs.lemmas.Bool.{false≢true, cases_lt}
use Rattle.grouping_laws.specs.Sets.{count, contains, count_in, Inside}
use Rattle.grouping_laws.specs.Problem.{Problem, IsProblem, Connected, Suits, people_of, LawfulGroup}
use Rattle.grouping_laws.specs.Parts.{IsPart}
use Rattle.grouping_laws.specs.GroupsFrom.{IsOrder}
use Rattle.grouping_laws.specs.SeatWindow.{IsRun, seat_run}
use Rattle.place_sets.proofs.Sums.{often_none, often_some}
use Rattle.grouping_laws.proofs.Digits.{true_digit, digit_true}
use Rattle.grouping_laws.proofs.Elements.{Has, has_all}
use Rattle.grouping_laws.proofs.Parts.{has-filter, member_head, member_tail}
use Rattle.grouping_laws.proofs.Places.{has_member}
use Rattle.grouping_laws.proofs.PlaceCodes.{member_has}
use Rattle.grouping_laws.proofs.PlaceProblem.{order_once}
use Rattle.grouping_laws.proofs.Fill.{member_cases}
use Rattle.grouping_laws.proofs.ConnectedLemmas.{same_length}
use Rattle.grouping_laws.proofs.WindowLemmas.{window_law}
use Rattle.certificate_data.specs.declared.format.Format.{Format}
use Rattle.certificate_data.specs.declared.format.Format.TheVariants.{Plain, Wide}
use Rattle.certificate_data.specs.Round.{Round}
use Rattle.certificate_laws.specs.State.{State, open_to}
use Rattle.certificate_laws.specs.Fitting.{IsKept, Fits}
use Rattle.certificate_laws.specs.Groups.{IsGroupAt}
use Rattle.certificate_laws.proofs.Regions.{parts_exist}

-- it is so, or it isn't
abbrev pub Either : Type 0 → Type 0
Either X = X ⊎ (X → ⊥)

bool_or : (b : Bool) → Either (b ≡ true)
bool_or true = inl refl
bool_or false = inr (λ e. false≢true e)

same_or : (xs ys : List ℕ) → Either (xs ≡ ys)
same_or xs ys = go (pointwise nat_eq xs ys) refl
  where
    go : (b : Bool) → pointwise nat_eq xs ys ≡ b → Either (xs ≡ ys)
    go true e = inl ((bytes_decides xs ys).0 e)
    go false e = inr (λ k. false≢true (sym e ∙ (bytes_decides xs ys).1 k))

small_or : (m n : ℕ) → Either (m ≤ n)
small_or m n = ⊎_elim (λ l. inr (λ k. omega (arith, l, k))) inl (cases_lt n m)

inside_or : (q : ℕ → Bool) (g : List ℕ) → Either (Inside q g)
inside_or q [] = inl (λ c e. absurd (false≢true e))
inside_or q (x ∷ g) = go (q x) refl (inside_or q g)
  where
    go : (b : Bool) → q x ≡ b → Either (Inside q g) → Either (Inside q (x ∷ g))
    go false e r = inr (λ i. false≢true (sym e ∙ i x (member_head x g)))
    go true e (inl i) = inl (λ c m. ⊎_elim (λ k. ap q (sym k) ∙ e) (i c) (member_cases x g c m))
    go true e (inr n) = inr (λ i. n (λ c m. i c (member_tail x g c m)))

-- a set that has the code
some_set : (c : ℕ) (sets : List (List ℕ)) → 1 ≤ count_in c sets → (x : List ℕ) × Has sets x × (contains x c ≡ true)
some_set c [] h = absurd (omega (arith, h))
some_set c (x ∷ sets) h = go (contains x c) refl (λ k. some_set c sets k)
  where
    go : (b : Bool) → contains x c ≡ b → (1 ≤ count_in c sets → (y : List ℕ) × Has sets y × (contains y c ≡ true))
        → (y : List ℕ) × Has (x ∷ sets) y × (contains y c ≡ true)
    go true e next = (x, inl refl, e)
    go false e next = let r = next (omega (arith, h, often_none c x e)) in (r.0, inr r.1, r.2)

suits_or : (p : Problem) → IsProblem p → (people : ℕ) → Either ((k : ℕ) × Suits p people k)
suits_or p is people = go (seat_run p people) (window_law p is.tolerated is.some_people people)
  where
    go : (run : Option (ℕ × ℕ)) → IsRun (Suits p people) run → Either ((k : ℕ) × Suits p people k)
    go None none = inr (λ r. none r.0 r.1)
    go (Some r) law = inl (r.0, (law.1 r.0).1 (omega arith, law.0))

module _ (p : Problem) (is : IsProblem p) where
  connected_or : (g : List ℕ) → ((c : ℕ) → count c g ≤ 1) → ((c : ℕ) → contains g c ≡ true → contains p.counties c ≡ true) → Either (Connected p g)
  connected_or [] once known = inr (λ k. omega (arith, k.some_county))
  connected_or (x ∷ g) once known =
      let ps = parts_exist p is (contains (x ∷ g)) known in
      let part = some_set x ps.0 (omega (arith, ps.1.once x, true_digit (contains (x ∷ g) x) (member_head x g))) in
      let law = same_length p part.0 (x ∷ g) x (length part.0) once (has_all (IsPart p (contains (x ∷ g))) ps.0 ps.1.each part.0 part.1) part.2 refl in
      ⊎_elim (λ e. inl (law.0 e)) (λ n. inr (λ k. n (law.1 k))) (bool_or (length part.0 == length (x ∷ g)))

  lawful_or : (g : List ℕ) → ((c : ℕ) → count c g ≤ 1) → ((c : ℕ) → contains g c ≡ true → contains p.counties c ≡ true) → Either (LawfulGroup p g)
  lawful_or g once known = ⊎_elim
      (λ joined. ⊎_elim (λ k. inl (record { once = once; listed = known; connected = joined; seats = k.0; suits = k.1 }))
      (λ n. inr (λ l. n (l.seats, l.suits))) (suits_or p is (people_of p g)))
      (λ n. inr (λ l. n l.connected)) (connected_or g once known)

-- a part of an order has each code once, and only the problem's
part_once : (q : ℕ → Bool) (xs : List ℕ) (c : ℕ) → count c (filter q xs) ≤ count c xs
part_once q [] c = omega arith
part_once q (x ∷ xs) c = go (q x) (part_once q xs c)
  where
    go : (b : Bool) → count c (filter q xs) ≤ count c xs → count c (cond b (x ∷ filter q xs) (filter q xs)) ≤ count c (x ∷ xs)
    go true l = omega (arith, l)
    go false l = omega (arith, l)

kept_plain : (format : Format) (p : Problem) (s : State) (g : List ℕ) → format ≡ Plain → IsKept format p s g
kept_plain Plain p s g e = tt
kept_plain Wide p s g e = absurd (cc)

module _ (p : Problem) (round : Round) (s : State) (is : IsProblem p) (order : IsOrder p round.order) (plain : round.format ≡ Plain) where
  placed_once : (g : List ℕ) → filter (contains g) round.order ≡ g → (c : ℕ) → count c g ≤ 1
  placed_once g placed c = omega (arith, part_once (contains g) round.order c, order_once p round.order order c, ap (count c) placed)

  placed_known : (g : List ℕ) → filter (contains g) round.order ≡ g → (c : ℕ) → contains g c ≡ true → contains p.counties c ≡ true
  placed_known g placed c m =
      let h = has-filter (contains g) round.order c (subst (λ z. Has z c) (sym placed) (member_has g c m)) in
      digit_true (contains p.counties c) (omega (arith, order c, often_some c round.order (has_member round.order c h.0)))

  pub group_or : (county limit : ℕ) (g : List ℕ) → Either (IsGroupAt p round s county limit g)
  group_or county limit g =
      ⊎_elim
      (λ placed. ⊎_elim
      (λ has. ⊎_elim
      (λ small. ⊎_elim
      (λ inside. ⊎_elim
      (λ lawful.
      let fits : Fits round.format p s g = record { lawful = lawful; inside = inside; kept = kept_plain round.format p s g plain } in
      inl (record { fits = fits; in_order = placed; has = has; small = small }))
      (λ n. inr (λ f. n f.fits.lawful)) (lawful_or p is g (placed_once g placed) (placed_known g placed)))
      (λ n. inr (λ f. n f.fits.inside)) (inside_or (open_to s (length g)) g))
      (λ n. inr (λ f. n f.small)) (small_or (length g) limit))
      (λ n. inr (λ f. n f.has)) (bool_or (contains g county)))
      (λ n. inr (λ f. n f.in_order)) (same_or (filter (contains g) round.order) g)
