-- The groups that are told, by places and by codes.
use Rattle.std.proofs.Common.{◌≡◌, ℕ, ◌≤◌, ◌<◌, Bool, true, false, nat_lt, nat_eq, ◌&&◌, ◌↔◌, IsTrue, List, length, filter, sym, ap, ◌∙◌, subst, None}
use mathlib.Core.Path.{fun_ext}
use Rattle.std.proofs.lemmas.Bool.{lt-ltb, false≢true}
use Rattle.place_sets.specs.PlaceSets.{places_of, IsSize}
use Rattle.grouping_laws.specs.Sets.{count, contains}
use Rattle.grouping_laws.specs.Problem.{Problem, Connected}
use Rattle.grouping_laws.specs.Parts.{IsPart}
use Rattle.grouping_laws.specs.GroupsFrom.{IsOrder, place}
use Rattle.grouping_laws.specs.Places.{codes_at}
use Rattle.grouping_laws.proofs.Elements.{Has}
use Rattle.grouping_laws.proofs.Places.{has_member, filter_members, places_are_codes}
use Rattle.grouping_laws.proofs.PlaceProblem.{order_once, connected_places}
use Rattle.grouping_laws.proofs.ConnectedLemmas.{same_length}
use Rattle.county_problem.specs.OrderedValue.{code_at, at_places}
use Rattle.connected_laws.proofs.PlaceLists.{often_placed, placed as stands, placed_test, placed_below, some_member}
use Rattle.certificate_data.specs.declared.format.Format.{Format}
use Rattle.certificate_laws.specs.Fitting.{Fits}
use Rattle.certificate_laws.specs.Places.{in_codes}
use Rattle.certificate_laws.proofs.Completion.{open_rest}
use Rattle.certificate_laws.proofs.Places.{places_serve}
use Rattle.certificate_laws.proofs.PlaceStates.{states_have_codes}
use Rattle.certificate_laws.proofs.StateLemmas.{own_places}
use Rattle.state_groups.specs.declared.state.State.{State as StateHeld}
use Rattle.state_groups.specs.StateValue.{state_of}
use Rattle.state_groups.specs.PlacedValues.{state_at, codes_of_set, IsPlaced, IsClosable}

-- the codes at the places whose codes are in a list, in the order
pub listed_codes : (order codes : List ℕ) (t : ℕ → Bool) → ((c : ℕ) → count c order ≤ 1) → ((x : ℕ) → t x ≡ (nat_lt x (length order) && contains codes (code_at order x)))
    → codes_at order (places_of (length order) t) ≡ filter (contains codes) order
listed_codes order codes t once is = places_are_codes.kept order once t ∙ filter_members (λ c. t (place order c)) (contains codes) order agree
  where
    agree : (c : ℕ) → Has order c → t (place order c) ≡ contains codes c
    agree c h =
        let r = places_are_codes.there order c (has_member order c h) in
        is (place order c)
        ∙ (ap (λ b. b && contains codes (code_at order (place order c))) (lt-ltb (place order c) (length order) r.0)
        ∙ ap (contains codes) r.1)

-- a set is connected if the part of it around a place has its size
pub connected_by_size : (p : Problem) (n : ℕ) (group part : ℕ → Bool) (first size whole : ℕ) → ((x : ℕ) → group x ≡ true → x < n) → ((x : ℕ) → part x ≡ true → group x ≡ true)
    → IsPart p group (places_of n part) → part first ≡ true → IsSize part size → IsSize group whole → IsTrue (nat_eq size whole) ↔ Connected p (places_of n group)
connected_by_size p n group part first size whole below inside is around measured all =
    subst (λ (k : ℕ). IsTrue (nat_eq size k) ↔ Connected p (places_of n group)) (sym (all n below))
    (same_length p (places_of n part) (places_of n group) first size (λ c. often_placed n c group)
    (subst (λ z. IsPart p z (places_of n part)) (fun_ext (λ x. sym (own_places n group below x))) is)
    (stands n first part (below first (inside first around)) around)
    (measured n (λ x e. below x (inside x e))))

-- a set without places isn't connected
pub none_connected : (p : Problem) (n : ℕ) (group : ℕ → Bool) → ((x : ℕ) → group x ≡ false) → Connected p (places_of n group) → ⊥
none_connected p n group none c =
    let m = some_member (places_of n group) c.some_county in
    false≢true (sym (none m.0) ∙ placed_test n m.0 group m.1)

module _ {C : Type 0} (p : Problem) (order : List ℕ) (test : C → ℕ → Bool) (held : StateHeld C) (whole : IsOrder p order) (placed : IsPlaced (length order) test held) (set : C) where
  abbrev n : ℕ
  n = length order

  abbrev pub at_place : List ℕ
  at_place = places_of (length order) (test set)

  inside : (i : ℕ) → contains at_place i ≡ true → i < n
  inside i m = placed_below (length order) i (test set) m

  -- a set fits by places if its codes fit
  pub fits_both : (format : Format) → Fits format (at_places p order) (state_of test held) at_place ↔ Fits format p (state_at order test held) (codes_of_set order test set)
  fits_both format =
      places_serve.fits p (record { order = order; limit = 0; target = None; format = format; tolerance = None }) (in_codes order (state_of test held)) (state_of test held) at_place whole
      (states_have_codes.there order (state_of test held) (order_once p order whole) placed.rest) inside

  -- what fits is connected by places
  pub fits_connected : (format : Format) → Fits format p (state_at order test held) (codes_of_set order test set) → Connected (at_places p order) at_place
  fits_connected format fits = connected_places p order (order_once p order whole) at_place (λ i h. inside i (has_member at_place i h)) fits.lawful.connected

  -- what fits may be closed
  pub closable : (format : Format) → ((x : ℕ) → test set x ≡ true → x < length order) → Fits format p (state_at order test held) (codes_of_set order test set) → IsClosable test held set
  closable format below fits =
      let here = ((fits_both format).1 fits) in
      let m = some_member at_place here.lawful.connected.some_county in
      record {
        some = (m.0, placed_test (length order) m.0 (test set) m.1);
        inside = λ x e. open_rest (state_of test held) (length at_place) x (here.inside x (stands (length order) x (test set) (below x e) e));
      }
