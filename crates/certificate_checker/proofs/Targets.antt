-- Faults of a target, and the places of an order.
use Rattle.std.proofs.Common.{◌≡◌, ℕ, suc, ◌≤◌, ◌<◌, ◌||◌, nat_lt, Bool, true, false, List, [], ◌∷◌, length, Option, Some, refl, sym, ap, subst, arith}
use Rattle.std.specs.List.{list_any, Contains}
use Rattle.std.proofs.lemmas.Bool.{false≢true, ltb-true}
use Rattle.std.proofs.lemmas.List.{length-map}
use Rattle.county_codes.specs.declared.group.Group.{Group}
use Rattle.county_codes.specs.declared.group.Grouping.{Grouping as GroupingHeld}
use Rattle.certificate_data.specs.RoundValue.{target_of}
use Rattle.grouping_laws.specs.Problem.{Problem, IsProblem}
use Rattle.grouping_laws.specs.GroupsFrom.{IsOrder}
use Rattle.county_problem.specs.ProblemValue.{ProblemValue, problem_of}
use Rattle.county_problem.specs.Judging.{IsFault}
use Rattle.county_problem.specs.declared.grouping_fault.GroupingFault.{GroupingFault}
use Rattle.county_problem.proofs.OrderLemmas.{order_long}
use Rattle.checker_laws.specs.Fault.{LimitTooSmall, TargetFault}
use Rattle.checker_laws.specs.Verdict.{IsLimitFault, IsTargetFault}
use Rattle.state_judge.specs.CheckFaults.{fault_of}
use Rattle.certificate_checker.specs.Certificates.{StopsAt, IsTargetStop}
use Rattle.certificate_checker.specs.declared.feed.Halt.{Halt}
use Rattle.certificate_checker.specs.declared.feed.Halt.TheVariants as stop

-- a group above the limit is the first, or stands behind it
larger_first : (limit : ℕ) (g : Group) (gs : List Group) (b : Bool) → nat_lt limit (length g.codes) ≡ b → (b || list_any (λ s. nat_lt limit (length s.codes)) gs) ≡ true
    → (list_any (λ s. nat_lt limit (length s.codes)) gs ≡ true → (x : Group) × Contains gs x × (limit < length x.codes)) → (x : Group) × Contains (g ∷ gs) x × (limit < length x.codes)
larger_first limit g gs true is h later = (g, (0, omega arith, refl), ltb-true limit (length g.codes) is)
larger_first limit g gs false is h later = let r = later h in (r.0, (suc r.1.0, omega (arith, r.1.1), r.1.2), r.2)

larger : (limit : ℕ) (gs : List Group) → list_any (λ s. nat_lt limit (length s.codes)) gs ≡ true → (x : Group) × Contains gs x × (limit < length x.codes)
larger limit [] e = absurd (false≢true e)
larger limit (g ∷ gs) e = larger_first limit g gs (nat_lt limit (length g.codes)) refl e (λ h. larger limit gs h)

pub limit_fault : (limit : ℕ) (target : Option GroupingHeld) (g : GroupingHeld) → target ≡ Some g → list_any (λ s. nat_lt limit (length s.codes)) g.groups.items ≡ true → IsLimitFault limit (target_of target) LimitTooSmall
limit_fault limit target g is any = subst (λ t. IsLimitFault limit (target_of t) LimitTooSmall) (sym is) (refl, larger limit g.groups.items any)

pub target_stopped : (p : Problem) (target : Option GroupingHeld) (g : GroupingHeld) → target ≡ Some g → (fault : GroupingFault) → IsFault p g.groups.items fault → (line : ℕ) (s : Halt) → IsTargetStop fault line s → StopsAt (IsTargetFault p (target_of target)) line s
target_stopped p target g is fault has line (stop.Fault named found) h =
    (TargetFault fault, ap fault_of h.0, subst (λ t. IsTargetFault p (target_of t) (TargetFault fault)) (sym is) (fault, refl, has, h.2), h.1)
target_stopped p target g is fault has line stop.Refused h = tt
target_stopped p target g is fault has line stop.Budget h = absurd h
target_stopped p target g is fault has line stop.Unspelled h = absurd h
target_stopped p target g is fault has line (stop.Text words) h = absurd h

-- an order has as many places as the problem has counties
pub order_fits : (v : ProblemValue) (order : List ℕ) (places : ℕ) → IsProblem (problem_of v) → IsOrder (problem_of v) order → length v.counties ≤ places → length order ≤ places
order_fits v order places problem is few = omega (arith, order_long (problem_of v) order problem is, length-map v.counties (λ c. c.code), few)
