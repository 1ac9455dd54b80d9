-- What is known at a state, and what a line without weights comes to where no group fits.
use Rattle.std.proofs.Common.{◌≡◌, ℕ, suc, ◌+◌, ◌*◌, ◌/◌, ◌≤◌, ◌<◌, ◌==◌, Bool, true, min, List, [], ◌∷◌, length, All, refl, sym, ap, ◌∙◌, subst, arith, Result, Ok, Err, MatchResult, IfOk}
use Rattle.std.proofs.lemmas.Bool.{eqb-true}
use Rattle.std.proofs.Math.Nat.{zero-div}
use Rattle.county_codes.specs.Limits.{most_counties}
use Rattle.grouping_laws.specs.Sets.{sum_by}
use Rattle.grouping_laws.specs.Problem.{Problem}
use Rattle.grouping_laws.specs.Grouping.{counts}
use Rattle.grouping_laws.specs.GroupsFrom.{IsOrder}
use Rattle.grouping_laws.proofs.Elements.{has_all, all_from_has, contains_from_has}
use Rattle.grouping_laws.proofs.PlaceCodes.{mapped_has}
use Rattle.connected_laws.specs.Listing.{AreBelow}
use Rattle.certificate_data.specs.Round.{Round}
use Rattle.certificate_laws.specs.Groups.{AreGroupsAt}
use Rattle.state_groups.specs.declared.state.State.{State as StateHeld}
use Rattle.search_groups.proofs.Closing.{candidate_closable}
use Rattle.certificate_data.specs.declared.format.Format.TheVariants.{Wide}
use Rattle.search_groups.specs.Positions.{IsSearchInput}
use Rattle.certificate_checker.specs.declared.input.CheckInput.{CheckInput}
use Rattle.checker_laws.specs.Branches.{IsNextTake, behind}
use Rattle.certificate_checker.specs.Judging.{IsCheckInput}
use Rattle.certificate_checker.specs.Knowing.{search_of}
use Rattle.certificate_data.specs.declared.format.Format.{Format}
use Rattle.certificate_data.specs.Tree.{Allowance, weigh}
use Rattle.certificate_laws.specs.Regions.{listed}
use Rattle.certificate_laws.specs.State.{State, open_to, close}
use Rattle.certificate_laws.specs.Fitting.{Fits}
use Rattle.certificate_laws.specs.BoundLines.{weight_of, room_at, allowance, IsFair}
use Rattle.state_groups.specs.PlacedValues.{state_at, codes_of_set, codes_of_sets, IsPlaced, IsClosable}
use Rattle.state_judge.specs.AllowanceVerdicts.{IsAllowed}
use Rattle.state_judge.specs.declared.bound.Allowed.TheVariants.{Loss, Even}

-- what is known is that of a search of the round
pub search_law : (C : Type 0) (test : C → ℕ → Bool) (places : ℕ) (g : CheckInput C) → IsCheckInput places test g → g.round.now.format ≡ Wide → IsSearchInput places test (search_of g)
search_law C test places g is widely = record { graph = is.graph; order = is.order; small = is.small; wide = widely }

-- what holds of each holds of those behind the first
pub all_behind : (Q : List ℕ → Type 0) (xs : List (List ℕ)) → All Q xs → All Q (behind xs)
all_behind Q [] all = all
all_behind Q (x ∷ xs) all = λ k d h. all (suc k) d (omega (arith, h))

pub all_sized : (Q R : List ℕ → Type 0) (xs : List (List ℕ)) → ((x : List ℕ) → Q x → R x) → All Q xs → All R xs
all_sized Q R xs go all = λ k d h. go _ (all k d h)

-- what is known where the first group is closed, at the state where the codes of the take are
pub known_below : (C : Type 0) (order : List ℕ) (test : C → ℕ → Bool) (left : List C) (codes : List ℕ) (K : State → Type 0) (s t : State) → IsNextTake (codes_of_sets order test left) codes → t ≡ close codes s
    → ((group : C) (others : List C) → left ≡ group ∷ others → K (close (codes_of_set order test group) s)) → K t
known_below C order test [] codes K s t next e each = absurd next
known_below C order test (set ∷ sets) codes K s t next e each = subst K (sym e) (subst (λ z. K (close z s)) next (each set sets refl))

pub ok_with : {X Y : Type 0} (Q E P : X → Type 0) (S : Y → Type 0) (r : Result X Y) → MatchResult r Q S → IfOk r E → ((x : X) → Q x → E x → P x) → IfOk r P
ok_with Q E P S (Ok x) q e go = go x q e
ok_with Q E P S (Err y) q e go = tt

pub no_items : {X : Type 0} (xs : List X) → length xs ≡ 0 → xs ≡ []
no_items [] e = refl
no_items (x ∷ xs) e = absurd (omega (arith, e))

pub is_zero : (n : ℕ) → true ≡ (n == 0) → n ≡ 0
is_zero n e = eqb-true n 0 (sym e)

-- what holds of the codes of each set holds of those of the first
pub first_codes : (C : Type 0) (order : List ℕ) (test : C → ℕ → Bool) (P : List ℕ → Type 0) (xs : List C) (x : C) (rest : List C) → (xs ≡ x ∷ rest) × (length rest + 1 ≡ length xs) → All P (codes_of_sets order test xs) → P (codes_of_set order test x)
first_codes C order test P xs x rest e all = (subst (λ l. All P (codes_of_sets order test l)) e.0 all) 0 (codes_of_set order test x) (omega (arith))

-- the groups of a branch that is known may be closed
pub closables : (C : Type 0) (test : C → ℕ → Bool) (order : List ℕ) (p : Problem) → IsOrder p order → (round : Round) (state : StateHeld C) → IsPlaced (length order) test state → (county i : ℕ) (groups : List C) → AreBelow (length order) test groups
    → AreGroupsAt p round (state_at order test state) county i (codes_of_sets order test groups) → All (IsClosable test state) groups
closables C test order p whole round state placed county i groups below are = all_from_has (IsClosable test state) groups (λ set has.
    let codes = codes_of_set order test set in
    let is = (are.each codes).0 (contains_from_has (codes_of_sets order test groups) codes (mapped_has (codes_of_set order test) groups set has)) in
    candidate_closable C test order p whole round state placed (length codes) set (has_all (λ z. (x : ℕ) → test z x ≡ true → x < length order) groups below set has)
    (record { lawful = is.fits.lawful; inside = is.fits.inside; in_order = is.in_order; size = refl }))

none_weigh : (xs : List ℕ) → sum_by (weight_of []) xs ≡ 0
none_weigh [] = refl
none_weigh (x ∷ xs) = omega (arith, none_weigh xs)

least_none : (a : ℕ) → min a 0 ≡ 0
least_none a = omega arith

module _ (format : Format) (p : Problem) (s : State) (wanted : ℕ → ℕ) (i used quota : ℕ) (line : Allowance) (is : line ≡ weigh quota []) (some : 1 ≤ quota) (no_group : (g : List ℕ) → Fits format p s g → length g ≡ i → ⊥) where
  allows_none : allowance p s i used (weigh quota []) ≡ 0
  allows_none =
      ap (λ n. min (room_at p s i used / i) (n / quota)) (none_weigh (listed p (open_to s i)))
      ∙ (ap (min (room_at p s i used / i)) (zero-div quota) ∙ least_none (room_at p s i used / i))

  fair : IsFair format p s i (weigh quota [])
  fair = (some, λ k d l. absurd (omega (arith, l)), λ g fits size. absurd (no_group g fits size))

  pub empty_loss : counts s.closed i < wanted i → IsAllowed format p s wanted i used line Loss
  empty_loss less = subst (λ z. IsAllowed format p s wanted i used z Loss) (sym is) (fair, omega (arith, less, allows_none))

  pub empty_even : counts s.closed i ≡ wanted i → used ≤ most_counties → IsAllowed format p s wanted i used line (Even used)
  empty_even even small = subst (λ z. IsAllowed format p s wanted i used z (Even used)) (sym is)
      (fair, omega (arith, even, allows_none), used_up, small)
    where
      used_up : used ≡ used + i * allowance p s i used (weigh quota [])
      used_up = omega (arith, ap (λ n. i * n) allows_none)
