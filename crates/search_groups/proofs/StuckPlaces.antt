-- Where no stuck leaf is valid.
use Rattle.std.proofs.Common.{◌≡◌, ℕ, ◌<◌, Bool, true, false, List, length, sym, subst}
use mathlib.Core.Path.{fun_ext}
use Rattle.std.proofs.lemmas.Bool.{and_parts}
use Rattle.grouping_laws.specs.Sets.{contains}
use Rattle.grouping_laws.specs.Problem.{Problem, IsProblem}
use Rattle.grouping_laws.specs.Parts.{IsPart}
use Rattle.grouping_laws.specs.GroupsFrom.{IsOrder, place}
use Rattle.grouping_laws.specs.PlaceProblem.{at_places}
use Rattle.grouping_laws.proofs.Places.{places_are_codes}
use Rattle.certificate_laws.specs.State.{State}
use Rattle.certificate_laws.specs.Leaves.{IsStuck}
use Rattle.certificate_laws.specs.Places.{in_codes}
use Rattle.state_judge.proofs.LeafLemmas.{stuck_both}
use Rattle.state_groups.specs.Cut.{CutOff}

-- where no part of the rest is cut off from no places, no stuck leaf is valid
pub none_cut : (p : Problem) (s : State) (region none : ℕ → Bool) → ((x : ℕ) → region x ≡ s.rest x) → ((x : ℕ) → none x ≡ false) → (CutOff p s region none → ⊥) → (i : ℕ) → IsStuck p s i → ⊥
none_cut p s region none same empty uncut i v = uncut (record { part = v.part; is_part = subst (λ z. IsPart p z v.part) (sym (fun_ext same)) v.is_part; none_free = λ c m. empty c; stuck = v.cannot_fill })

-- where none is by places, none is by codes
pub none_stuck : (p : Problem) (order : List ℕ) → IsOrder p order → (t : State) → ((x : ℕ) → t.rest x ≡ true → x < length order) → IsProblem (at_places p order) → ((i : ℕ) → IsStuck (at_places p order) t i → ⊥)
    → (c : ℕ) → IsStuck p (in_codes order t) c → ⊥
none_stuck p order whole t below law none c v =
    let here = and_parts (contains order c) (t.rest (place order c)) (v.is_part.inside c v.around) in
    let at = places_are_codes.there order c here.0 in
    none (place order c) ((stuck_both p order whole t below (place order c) c law at.0 here.1 at.1).1 v)
