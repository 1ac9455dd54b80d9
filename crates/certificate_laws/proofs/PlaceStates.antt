-- States by places and the states by codes that they say.
use Rattle.std.proofs.Common.{◌≡◌, ℕ, ◌+◌, ◌≤◌, ◌<◌, Bool, true, false, cond, not, ◌&&◌, ◌==◌, List, length, refl, sym, ap, ◌∙◌, subst, arith}
use Rattle.std.proofs.lemmas.Bool.{and_parts, eqb-true, eq-eqb, ne_eqb, false≢true, lt-ltb}
use Rattle.std.proofs.lemmas.List.{map_push}
use Rattle.grouping_laws.specs.Sets.{indicator, count, contains}
use Rattle.grouping_laws.specs.Problem.{Problem}
use Rattle.grouping_laws.specs.GroupsFrom.{IsOrder, place}
use Rattle.grouping_laws.specs.Places.{places_below, codes_at}
use Rattle.county_problem.specs.OrderedValue.{code_at, at_places}
use Rattle.place_sets.proofs.Sums.{often_none, often_some}
use Rattle.grouping_laws.proofs.Elements.{has_get}
use Rattle.grouping_laws.proofs.Places.{has_member, place_at, places_are_codes}
use Rattle.grouping_laws.proofs.PlaceCodes.{member_code}
use Rattle.certificate_laws.specs.State.{State, close, raise, empty_state}
use Rattle.certificate_laws.specs.Places.{IsStateAt, in_codes, StatesHaveCodes}
use Rattle.certificate_laws.proofs.StateLemmas.{all_below}
use Rattle.certificate_laws.proofs.States.{same_state}

-- a choice between two of the same
no_choice : (b : Bool) (z : ℕ) → cond b z z ≡ z
no_choice true z = refl
no_choice false z = refl

module _ (order : List ℕ) (once : (c : ℕ) → count c order ≤ 1) where
  known : (i : ℕ) → i < length order → contains order (code_at order i) ≡ true
  known i l = has_member order (code_at order i) (has_get order i 0 l)

  there : (t : State) → ((i : ℕ) → t.rest i ≡ true → i < length order) → IsStateAt order (in_codes order t) t
  there t below = record {
    rest = record {
      same = λ i l. sym (ap (λ b. b && t.rest (place order (code_at order i))) (known i l) ∙ ap t.rest (place_at order once i l));
      below = below;
      known = λ c e. (and_parts (contains order c) (t.rest (place order c)) e).0;
    };
    least = λ i l. sym (ap (λ b. cond b (t.least (place order (code_at order i))) 0) (known i l) ∙ ap t.least (place_at order once i l));
  }

  closed : (t : State) (xs : List ℕ) → ((i : ℕ) → contains xs i ≡ true → i < length order) → in_codes order (close xs t) ≡ close (codes_at order xs) (in_codes order t)
  closed t xs below = same_state (in_codes order (close xs t)) (close (codes_at order xs) (in_codes order t)) (map_push (codes_at order) t.closed xs) (λ c. rest c (contains order c) refl) (λ c. least c (contains order c) refl)
    where
      same : (c : ℕ) → contains order c ≡ true → contains xs (place order c) ≡ contains (codes_at order xs) c
      same c e =
          let r = places_are_codes.there order c e in
          sym (subst (λ z. contains (codes_at order xs) z ≡ contains xs (place order c)) r.1 (member_code order once xs (λ i h. below i (has_member xs i h)) (place order c) r.0))

      rest : (c : ℕ) (b : Bool) → contains order c ≡ b → (b && (t.rest (place order c) && not (contains xs (place order c)))) ≡ ((b && t.rest (place order c)) && not (contains (codes_at order xs) c))
      rest c true e = ap (λ z. t.rest (place order c) && not z) (same c e)
      rest c false e = refl

      least : (c : ℕ) (b : Bool) → contains order c ≡ b → cond b (cond (contains xs (place order c)) 0 (t.least (place order c))) 0 ≡ cond (contains (codes_at order xs) c) 0 (cond b (t.least (place order c)) 0)
      least c true e = ap (λ z. cond z 0 (t.least (place order c))) (same c e)
      least c false e = sym (no_choice (contains (codes_at order xs) c) 0)

  raised : (t : State) (i j : ℕ) → i < length order → in_codes order (raise i j t) ≡ raise (code_at order i) j (in_codes order t)
  raised t i j l = same_state (in_codes order (raise i j t)) (raise (code_at order i) j (in_codes order t)) refl (λ c. refl) (λ c. least c (contains order c) refl)
    where
      same : (c : ℕ) → contains order c ≡ true → (b : Bool) → (place order c == i) ≡ b → b ≡ (c == code_at order i)
      same c e true k = sym (eq-eqb c (code_at order i) (sym (places_are_codes.there order c e).1 ∙ ap (code_at order) (eqb-true (place order c) i k)))
      same c e false k = sym (ne_eqb c (code_at order i) (λ z. false≢true (sym k ∙ eq-eqb (place order c) i (ap (place order) z ∙ place_at order once i l))))

      least : (c : ℕ) (b : Bool) → contains order c ≡ b → cond b (cond (place order c == i) (j + 1) (t.least (place order c))) 0 ≡ cond (c == code_at order i) (j + 1) (cond b (t.least (place order c)) 0)
      least c true e = ap (λ z. cond z (j + 1) (t.least (place order c))) (same c e (place order c == i) refl)
      least c false e = ap (λ z. cond z (j + 1) 0) (sym (ne_eqb c (code_at order i) (λ z. false≢true (sym e ∙ (ap (contains order) z ∙ known i l)))))

empty : (p : Problem) (order : List ℕ) → IsOrder p order → in_codes order (empty_state (at_places p order)) ≡ empty_state p
empty p order is = same_state (in_codes order (empty_state (at_places p order))) (empty_state p) refl (λ c. rest c (contains order c) refl (contains p.counties c) refl) (λ c. no_choice (contains order c) 0)
  where
    rest : (c : ℕ) (a : Bool) → contains order c ≡ a → (b : Bool) → contains p.counties c ≡ b → (a && contains (places_below (length order)) (place order c)) ≡ b
    rest c true e true k = sym (all_below (length order) (place order c)) ∙ lt-ltb (place order c) (length order) (places_are_codes.there order c e).0
    rest c true e false k = absurd (omega (arith, is c, often_some c order e, ap indicator k))
    rest c false e true k = absurd (omega (arith, is c, often_none c order e, ap indicator k))
    rest c false e false k = refl

pub states_have_codes : StatesHaveCodes
states_have_codes = record {
  there = λ order t once below. there order once t below;
  empty = empty;
  closed = λ order t xs once below. closed order once t xs below;
  raised = λ order t i j once l. raised order once t i j l;
}
