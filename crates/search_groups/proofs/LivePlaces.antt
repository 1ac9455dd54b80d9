-- Groups that are live by places are live by codes.
use Rattle.std.proofs.Common.{◌≡◌, ℕ, ◌<◌, true, not, List, length, refl, sym, subst}
use Rattle.std.proofs.lemmas.Bool.{and_parts}
use Rattle.grouping_laws.specs.Sets.{contains}
use Rattle.grouping_laws.specs.Problem.{Problem, IsProblem}
use Rattle.grouping_laws.specs.GroupsFrom.{IsOrder, place}
use Rattle.grouping_laws.specs.Places.{codes_at}
use Rattle.grouping_laws.specs.PlaceProblem.{code_at, at_places}
use Rattle.grouping_laws.proofs.Places.{places_are_codes}
use Rattle.grouping_laws.proofs.PlaceProblem.{order_once}
use Rattle.certificate_laws.specs.State.{State, close}
use Rattle.certificate_laws.specs.Leaves.{IsStuck}
use Rattle.certificate_laws.specs.Fitting.{IsDead, IsLive}
use Rattle.certificate_laws.specs.Places.{in_codes}
use Rattle.certificate_laws.proofs.Decided.{leaves_are_decided}
use Rattle.certificate_laws.proofs.PlaceStates.{states_have_codes}
use Rattle.state_judge.proofs.LeafLemmas.{stuck_both}

module _ (p : Problem) (order : List ℕ) (whole : IsOrder p order) (t : State) (below : (x : ℕ) → t.rest x ≡ true → x < length order) (law : IsProblem (at_places p order)) (g : List ℕ) (low : (i : ℕ) → contains g i ≡ true → i < length order) where
  abbrev after : State
  after = close g t

  after_below : (x : ℕ) → after.rest x ≡ true → x < length order
  after_below x e = below x (and_parts (t.rest x) (not (contains g x)) e).0

  same : in_codes order after ≡ close (codes_at order g) (in_codes order t)
  same = states_have_codes.closed order t g (order_once p order whole) low

  dead_codes : IsDead (at_places p order) t g → IsDead p (in_codes order t) (codes_at order g)
  dead_codes d =
      let r : (i : ℕ) × IsStuck (at_places p order) after i = (leaves_are_decided.dead_closed (at_places p order) t g).0 d in
      let here = r.1.is_part.inside r.0 r.1.around in
      let c = code_at order r.0 in
      let stuck : IsStuck p (in_codes order after) c = (stuck_both p order whole after after_below r.0 c law (after_below r.0 here) here refl).0 r.1 in
      (leaves_are_decided.dead_closed p (in_codes order t) (codes_at order g)).1 (c, subst (λ z. IsStuck p z c) same stuck)

  dead_places : IsDead p (in_codes order t) (codes_at order g) → IsDead (at_places p order) t g
  dead_places d =
      let r : (c : ℕ) × IsStuck p (close (codes_at order g) (in_codes order t)) c = (leaves_are_decided.dead_closed p (in_codes order t) (codes_at order g)).0 d in
      let stuck : IsStuck p (in_codes order after) r.0 = subst (λ z. IsStuck p z r.0) (sym same) r.1 in
      let here = and_parts (contains order r.0) (after.rest (place order r.0)) (stuck.is_part.inside r.0 stuck.around) in
      let at = places_are_codes.there order r.0 here.0 in
      (leaves_are_decided.dead_closed (at_places p order) t g).1 (place order r.0, (stuck_both p order whole after after_below (place order r.0) r.0 law at.0 here.1 at.1).1 stuck)

  pub live_codes : IsLive (at_places p order) t g → IsLive p (in_codes order t) (codes_at order g)
  live_codes l d = l (dead_places d)

  pub live_places : IsLive p (in_codes order t) (codes_at order g) → IsLive (at_places p order) t g
  live_places l d = l (dead_codes d)
