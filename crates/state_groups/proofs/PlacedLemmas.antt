-- States by places that a call makes.
use Rattle.std.proofs.Common.{◌≡◌, ℕ, ◌+◌, ◌≤◌, ◌<◌, Bool, true, false, not, ◌&&◌, List, [], ◌∷◌, ◌++◌, map, length, get_or, refl, sym, ap, ◌∙◌, subst, arith, inl, inr, ⊎_elim, All, Result, Ok, Err, IfOk}
use Rattle.std.proofs.lemmas.Bool.{and_parts, ltb-true, lt-ltb}
use Rattle.std.proofs.lemmas.List.{length-map, length-append}
use Rattle.std.proofs.lemmas.List.Elements.{All-nil}
use Rattle.grouping_laws.specs.Problem.{Problem}
use Rattle.grouping_laws.proofs.Elements.{Has, has_all, all_from_has}
use Rattle.place_sets.specs.PlaceSets.{places_of}
use Rattle.place_sets.specs.Lists.{places_below, contains}
use Rattle.county_problem.specs.OrderedValue.{at_places}
use Rattle.connected_sets.proofs.Filling.{few}
use Rattle.connected_laws.specs.Listing.{lists_of, AreBelow}
use Rattle.connected_laws.proofs.PlaceLists.{placed, placed_test}
use Rattle.state_groups.specs.declared.state.State.{State as StateHeld}
use Rattle.certificate_laws.specs.State.{empty_state}
use Rattle.state_groups.specs.StateValue.{state_of}
use Rattle.certificate_laws.proofs.StateLemmas.{all_below, pushed_places}
use Rattle.certificate_laws.proofs.Counting.{fewer_kept}
use Rattle.certificate_laws.proofs.States.{same_state}
use Rattle.place_sets.proofs.PlaceSets.{places_same}
use Rattle.state_groups.specs.PlacedValues.{IsPlaced, IsClosable}

-- two facts of an answer give a third
pub both_ok : {X Y : Type 0} (r : Result X Y) (P Q R : X → Type 0) → ((x : X) → P x → Q x → R x) → IfOk r P → IfOk r Q → IfOk r R
both_ok (Ok x) P Q R f h k = f x h k
both_ok (Err x) P Q R f h k = tt

none_mapped : {X Y : Type 0} (f : X → Y) (xs : List X) → map f xs ≡ [] → xs ≡ []
none_mapped f [] e = refl
none_mapped f (x ∷ xs) e = absurd (omega (arith, ap length e))

-- the state at which a search begins is one of the order's places
pub first_placed : (C : Type 0) (test : C → ℕ → Bool) (p : Problem) (order : List ℕ) (s : StateHeld C) → state_of test s ≡ empty_state (at_places p order) → length s.least.items ≡ length order → IsPlaced (length order) test s
first_placed C test p order s e places = record {
  places = places;
  rest = λ x h. ltb-true x (length order) (all_below (length order) x ∙ (sym (ap (λ z. z.rest x) e) ∙ h));
  closed = subst (λ (z : List C). All (λ g. (x : ℕ) → test g x ≡ true → x < length order) z) (sym none) (All-nil (λ g. (x : ℕ) → test g x ≡ true → x < length order));
  apart = omega (arith, ap length none, few (length order) (test s.rest));
}
  where
    none : s.closed.items ≡ []
    none = none_mapped (λ g. places_of (length s.least.items) (test g)) s.closed.items (ap (λ z. z.closed) e)

-- a list of one
pub all_one : {X : Type 0} (P : X → Type 0) (x : X) → P x → All P (x ∷ [])
all_one P x h = all_from_has P (x ∷ []) (λ y i. ⊎_elim (λ e. subst P e h) (λ (k : ⊥). absurd k) i)

-- equal sets have only places below n
pub copied_below : (C : Type 0) (test : C → ℕ → Bool) (n : ℕ) (xs ys : List C) → ((m : ℕ) → lists_of m test ys ≡ lists_of m test xs) → AreBelow n test xs → AreBelow n test ys
copied_below C test n xs ys same below = all_from_has IsBelow ys (go xs ys same (has_all IsBelow xs below))
  where
    IsBelow : C → Type 0
    IsBelow s = (x : ℕ) → test s x ≡ true → x < n

    one : (x y : C) → ((m : ℕ) → places_of m (test y) ≡ places_of m (test x)) → IsBelow x → IsBelow y
    one x y e b i h = b i (placed_test (i + 1) i (test x) (ap (λ z. contains z i) (sym (e (i + 1))) ∙ placed (i + 1) i (test y) (omega arith) h))

    head : {X : Type 0} {x y : X} {xs ys : List X} → y ∷ ys ≡ x ∷ xs → y ≡ x
    head e = cc

    tail : {X : Type 0} {x y : X} {xs ys : List X} → y ∷ ys ≡ x ∷ xs → ys ≡ xs
    tail e = cc

    go : (xs ys : List C) → ((m : ℕ) → lists_of m test ys ≡ lists_of m test xs) → ((x : C) → Has xs x → IsBelow x) → (y : C) → Has ys y → IsBelow y
    go xs [] h b y k = absurd k
    go [] (z ∷ ys) h b y k = absurd (omega (arith, ap length (h 0)))
    go (x ∷ xs) (z ∷ ys) h b y k = ⊎_elim (λ e. subst IsBelow e (one x z (λ m. head (h m)) (b x (inl refl)))) (λ j. go xs ys (λ m. tail (h m)) (λ v i. b v (inr i)) y j) k

-- the lists of the closed groups, with one more
pub closed_lists : {X : Type 0} (f : ℕ → X → List ℕ) (olds copies news : List X) (x copy : X) (l m n : ℕ) → m ≡ n → l ≡ n → map (f n) copies ≡ map (f n) olds → news ≡ copies ++ copy ∷ [] → f n copy ≡ f n x
    → map (f m) news ≡ map (f l) olds ++ f n x ∷ []
closed_lists f olds copies news x copy l m n e k same push one =
    pushed_places f copies news copy m n e push
    ∙ (ap (λ z. z ++ f n copy ∷ []) (same ∙ ap (λ z. map (f z) olds) (sym k)) ∙ ap (λ z. map (f l) olds ++ z ∷ []) one)

-- closed groups and the places of the rest stay at most as many
pub closed_apart : (C : Type 0) (test : C → ℕ → Bool) (n : ℕ) (s : StateHeld C) (group copy : C) (copies news : List C) (left : ℕ → Bool) → IsPlaced n test s → IsClosable test s group → lists_of n test copies ≡ lists_of n test s.closed.items
    → news ≡ copies ++ copy ∷ [] → ((x : ℕ) → left x ≡ (test s.rest x && not (test group x))) → length news + length (places_of n left) ≤ n
closed_apart C test n s group copy copies news left placed c same push is =
    let some = c.some in
    let there = c.inside some.0 some.1 in
    let less : length (places_of n left) < length (places_of n (test s.rest)) =
    fewer_kept left (test s.rest) (places_below n) some.0 (λ x h. (and_parts (test s.rest x) (not (test group x)) (sym (is x) ∙ h)).0)
    (sym (all_below n some.0) ∙ lt-ltb some.0 n (placed.rest some.0 there))
    (is some.0 ∙ (ap (λ b. test s.rest some.0 && not b) some.1 ∙ none (test s.rest some.0))) there in
    omega (arith, placed.apart, less, ap length push, length-append copies (copy ∷ []), length-map copies (λ z. places_of n (test z)), length-map s.closed.items (λ z. places_of n (test z)), ap length same)
  where
    none : (b : Bool) → (b && false) ≡ false
    none true = refl
    none false = refl

-- a state whose parts are copies is the same
pub copied_value : (C : Type 0) (test : C → ℕ → Bool) (old new : StateHeld C) → ((n : ℕ) → lists_of n test new.closed.items ≡ lists_of n test old.closed.items) → ((x : ℕ) → test new.rest x ≡ test old.rest x) → new.least.items ≡ old.least.items
    → state_of test new ≡ state_of test old
copied_value C test old new closed rest least =
    same_state (state_of test new) (state_of test old) (closed (length new.least.items) ∙ ap (λ n. lists_of n test old.closed.items) (ap length least)) rest (λ x. ap (λ l. get_or l x 0) least)

pub copied_placed : (C : Type 0) (test : C → ℕ → Bool) (n : ℕ) (old new : StateHeld C) → ((m : ℕ) → lists_of m test new.closed.items ≡ lists_of m test old.closed.items) → ((x : ℕ) → test new.rest x ≡ test old.rest x) → new.least.items ≡ old.least.items
    → IsPlaced n test old → IsPlaced n test new
copied_placed C test n old new closed rest least placed = record {
  places = ap length least ∙ placed.places;
  rest = λ x e. placed.rest x (sym (rest x) ∙ e);
  closed = copied_below C test n old.closed.items new.closed.items closed placed.closed;
  apart = omega (arith, placed.apart, ap length (closed n), length-map new.closed.items (λ s. places_of n (test s)), length-map old.closed.items (λ s. places_of n (test s)), ap length (places_same n (test old.rest) (test new.rest) rest));
}
