-- Seats of closed groups and parts, added up.
use Rattle.std.proofs.Common.{◌≡◌, ℕ, ◌+◌, ◌<◌, Bool, true, false, nat_lt, ◌||◌, Option, Some, None, List, [], ◌∷◌, ◌++◌, map, length, get_or, take, refl, sym, ap, ◌∙◌, subst, arith, inl, inr, Contains}
use Rattle.std.specs.Prelude.{IsTrue, ◌↔◌, ◌⊎◌}
use Rattle.std.specs.List.{AllZip}
use Rattle.std.proofs.lemmas.Bool.{false≢true, ltb-true, lt-ltb}
use Rattle.std.proofs.lemmas.List.{take_more, map-append, length-append, length-map, length-take, get_or-map}
use Rattle.place_sets.proofs.Sums.{sum_by-append}
use Rattle.grouping_laws.specs.Sets.{sum_by}
use Rattle.grouping_laws.specs.Problem.{Problem, Suits, people_of}
use Rattle.grouping_laws.specs.Parts.{AreParts}
use Rattle.grouping_laws.specs.Ranges.{IsLeast, IsMost}
use Rattle.grouping_laws.specs.SeatWindow.{IsRun}
use Rattle.grouping_laws.proofs.Elements.{Has, has_left, has_from_contains}
use Rattle.certificate_laws.specs.State.{State}
use Rattle.certificate_laws.specs.Leaves.{IsOffSeats}
use Rattle.certificate_laws.proofs.Decided.{leaves_are_decided}
use Rattle.certificate_laws.proofs.Steps.{AllZip_more}
use Rattle.state_groups.specs.Sums.{AreSums, IsSums}

pub sums_none : (p : Problem) → AreSums p [] 0 0
sums_none p = record { lows = []; highs = []; are_lows = tt; are_highs = tt; least_is = refl; greatest_is = refl; small = (omega arith, omega arith) }

-- one more set
pub sums_more : (p : Problem) (sets : List (List ℕ)) (set : List ℕ) (least greatest low high : ℕ) → AreSums p sets least greatest → low < 65536 → high < 65536 → IsRun (Suits p (people_of p set)) (Some (low, high)) → AreSums p (sets ++ set ∷ []) (least + low) (greatest + high)
sums_more p sets set least greatest low high h a b run = record {
  lows = h.lows ++ low ∷ [];
  highs = h.highs ++ high ∷ [];
  are_lows = AllZip_more (IsLeast p) sets h.lows set low h.are_lows (record { suits = (run.1 low).1 (omega arith, run.0); least = λ j s. ((run.1 j).0 s).0 });
  are_highs = AllZip_more (IsMost p) sets h.highs set high h.are_highs (record { suits = (run.1 high).1 (run.0, omega arith); most = λ j s. ((run.1 j).0 s).1 });
  least_is = omega (arith, h.least_is, sum_by-append (λ (k : ℕ). k) h.lows (low ∷ []));
  greatest_is = omega (arith, h.greatest_is, sum_by-append (λ (k : ℕ). k) h.highs (high ∷ []));
  small = (omega (arith, h.small, a, length-append sets (set ∷ [])), omega (arith, h.small, b, length-append sets (set ∷ [])));
}

-- the sets up to the next one of a list
pub sets_more : {X : Type 0} (f : X → List ℕ) (xs : List X) (i : ℕ) (x : X) → i < length xs → x ≡ get_or xs i x → map f (take (i + 1) xs) ≡ map f (take i xs) ++ f x ∷ []
sets_more f xs i x l e = ap (map f) (take_more xs i x l) ∙ (map-append f (take i xs) (get_or xs i x ∷ []) ∙ ap (λ z. map f (take i xs) ++ f z ∷ []) (sym e))

zips_append : {A B : Type 0} (R : A → B → Type 0) (xs : List A) (ys : List B) (vs : List A) (ws : List B) → AllZip R xs ys → AllZip R vs ws → AllZip R (xs ++ vs) (ys ++ ws)
zips_append R [] [] vs ws h k = k
zips_append R [] (b ∷ ys) vs ws h k = absurd h
zips_append R (a ∷ xs) [] vs ws h k = absurd h
zips_append R (a ∷ xs) (b ∷ ys) vs ws h k = (h.0, zips_append R xs ys vs ws h.1 k)

zip_has : {A B : Type 0} (R : A → B → Type 0) (xs : List A) (ys : List B) (x : A) → AllZip R xs ys → Has xs x → (y : B) × R x y
zip_has R [] ys x h i = absurd i
zip_has R (a ∷ xs) [] x h i = absurd h
zip_has R (a ∷ xs) (b ∷ ys) x h (inl e) = (b, subst (λ z. R z b) e h.0)
zip_has R (a ∷ xs) (b ∷ ys) x h (inr i) = zip_has R xs ys x h.1 i

-- a closed group that suits no number
pub closed_none : (p : Problem) (s : State) → IsSums p s.closed None → IsOffSeats p s → ⊥
closed_none p s h v = go v.off
  where
    here : (parts : List (List ℕ)) → Has (s.closed ++ parts) h.0
    here parts = has_left s.closed parts h.0 (has_from_contains s.closed h.0 h.1)

    go : (AllZip (IsLeast p) (s.closed ++ v.parts) v.ranges × (p.seats_left < sum_by (λ k. k) v.ranges)) ⊎ (AllZip (IsMost p) (s.closed ++ v.parts) v.ranges × (sum_by (λ k. k) v.ranges < p.seats_left)) → ⊥
    go (inl a) = let r = zip_has (IsLeast p) (s.closed ++ v.parts) v.ranges h.0 a.0 (here v.parts) in h.2 r.0 r.1.suits
    go (inr a) = let r = zip_has (IsMost p) (s.closed ++ v.parts) v.ranges h.0 a.0 (here v.parts) in h.2 r.0 r.1.suits

-- a part that suits no number
pub parts_none : (p : Problem) (s : State) (parts : List (List ℕ)) → AreParts p s.rest parts → IsSums p parts None → IsOffSeats p s → ⊥
parts_none p s parts are h v =
    let ks = (leaves_are_decided.seats p s parts are v).0 in
    let r = zip_has (λ codes k. Suits p (people_of p codes) k) parts ks.0 h.0 ks.1 (has_from_contains parts h.0 h.1) in
    h.2 r.0 r.1

-- else the sums decide
pub off_by : (p : Problem) (s : State) (parts : List (List ℕ)) (a b c d : ℕ) (off : Bool) → AreParts p s.rest parts → AreSums p s.closed a b → AreSums p parts c d → off ≡ (nat_lt p.seats_left (a + c) || nat_lt (b + d) p.seats_left) → IsTrue off ↔ IsOffSeats p s
off_by p s parts a b c d off are h k e = (λ t. there (nat_lt p.seats_left (a + c)) refl (nat_lt (b + d) p.seats_left) refl (sym e ∙ t), λ v. e ∙ back (nat_lt p.seats_left (a + c)) refl (nat_lt (b + d) p.seats_left) refl ((leaves_are_decided.seats p s parts are v).1 lows highs are_lows are_highs))
  where
    lows : List ℕ
    lows = h.lows ++ k.lows

    highs : List ℕ
    highs = h.highs ++ k.highs

    are_lows : AllZip (IsLeast p) (s.closed ++ parts) lows
    are_lows = zips_append (IsLeast p) s.closed h.lows parts k.lows h.are_lows k.are_lows

    are_highs : AllZip (IsMost p) (s.closed ++ parts) highs
    are_highs = zips_append (IsMost p) s.closed h.highs parts k.highs h.are_highs k.are_highs

    low : sum_by (λ k. k) lows ≡ a + c
    low = omega (arith, sum_by-append (λ (k : ℕ). k) h.lows k.lows, h.least_is, k.least_is)

    high : sum_by (λ k. k) highs ≡ b + d
    high = omega (arith, sum_by-append (λ (k : ℕ). k) h.highs k.highs, h.greatest_is, k.greatest_is)

    there : (x : Bool) → nat_lt p.seats_left (a + c) ≡ x → (y : Bool) → nat_lt (b + d) p.seats_left ≡ y → (x || y) ≡ true → IsOffSeats p s
    there true i y j t = record { parts = parts; are_parts = are; ranges = lows; off = inl (are_lows, omega (arith, low, ltb-true p.seats_left (a + c) i)) }
    there false i true j t = record { parts = parts; are_parts = are; ranges = highs; off = inr (are_highs, omega (arith, high, ltb-true (b + d) p.seats_left j)) }
    there false i false j t = absurd (false≢true t)

    back : (x : Bool) → nat_lt p.seats_left (a + c) ≡ x → (y : Bool) → nat_lt (b + d) p.seats_left ≡ y → (p.seats_left < sum_by (λ k. k) lows) ⊎ (sum_by (λ k. k) highs < p.seats_left) → (nat_lt p.seats_left (a + c) || nat_lt (b + d) p.seats_left) ≡ true
    back x i y j (inl m) = ap (λ z. z || nat_lt (b + d) p.seats_left) (lt-ltb p.seats_left (a + c) (omega (arith, m, low)))
    back x i y j (inr m) = ap (λ z. nat_lt p.seats_left (a + c) || z) (lt-ltb (b + d) p.seats_left (omega (arith, m, high))) ∙ or_true (nat_lt p.seats_left (a + c))
      where
        or_true : (z : Bool) → (z || true) ≡ true
        or_true true = refl
        or_true false = refl

-- an element of a list, as one of the list's images
pub item_in : {X : Type 0} (f : X → List ℕ) (xs : List X) (i : ℕ) (x : X) → i < length xs → x ≡ get_or xs i x → Contains (map f xs) (f x)
item_in f xs i x l e = (i, omega (arith, l, length-map xs f), get_or-map f xs i x (f x) l ∙ ap f (sym e))

-- a run by its ends
pub run_from : (P : ℕ → Type 0) (r : Option (ℕ × ℕ)) (low high a b : ℕ) → IsRun P r → r ≡ Some (low, high) → a ≡ low → b ≡ high → IsRun P (Some (a, b))
run_from P r low high a b h e f k = subst (λ z. IsRun P (Some (z, b))) (sym f) (subst (λ z. IsRun P (Some (low, z))) (sym k) (subst (IsRun P) e h))

-- how many are taken
pub taken : {X : Type 0} (f : X → List ℕ) (xs : List X) (i : ℕ) → i < length xs → length (map f (take i xs)) ≡ i
taken f xs i l = length-map (take i xs) f ∙ omega (arith, length-take i xs, l)
