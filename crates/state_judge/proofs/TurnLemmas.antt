-- Where a branch can stand, by the open places.
use Rattle.std.proofs.Common.{◌≡◌, ◌≢◌, ℕ, ◌≤◌, ◌<◌, Bool, true, false, nat_le, ◌&&◌, None, List, ◌∷◌, filter, length, refl, sym, ap, ◌∙◌, subst, arith, inr}
use Rattle.std.proofs.lemmas.Bool.{and_parts, false≢true}
use Rattle.grouping_laws.specs.Sets.{contains}
use Rattle.grouping_laws.specs.Problem.{Problem}
use Rattle.grouping_laws.specs.GroupsFrom.{IsOrder, BeginsWith, place}
use Rattle.grouping_laws.specs.Places.{codes_at}
use Rattle.grouping_laws.proofs.PlaceProblem.{order_once}
use Rattle.grouping_laws.proofs.Places.{place_at, places_are_codes}
use Rattle.place_sets.specs.PlaceSets.{IsNext}
use Rattle.connected_laws.proofs.Starts.{begins_least}
use Rattle.county_problem.specs.OrderedValue.{code_at}
use Rattle.certificate_data.specs.declared.format.Format.TheVariants.{Plain, Wide}
use Rattle.certificate_data.specs.Round.{Round}
use Rattle.certificate_laws.specs.State.{State, open_to}
use Rattle.certificate_laws.specs.Proving.{CanBranch, GoesInOrder}
use Rattle.certificate_laws.specs.Places.{IsRegionAt, IsStateAt, in_codes}
use Rattle.certificate_laws.proofs.Places.{places_serve}
use Rattle.certificate_laws.proofs.PlaceStates.{states_have_codes}
use Rattle.checker_laws.specs.Fault.{WrongCounty}
use Rattle.checker_laws.specs.Branches.{NoneOpen, IsBranchFault}

module _ (p : Problem) (order : List ℕ) (whole : IsOrder p order) (t : State) (below : (x : ℕ) → t.rest x ≡ true → x < length order) (j : ℕ) (test : ℕ → Bool) (opened : (x : ℕ) → test x ≡ open_to t j x) where
  abbrev s : State
  s = in_codes order t

  at : IsStateAt order s t
  at = states_have_codes.there order t (order_once p order whole) below

  -- a county is open where its place is
  pub open_at : (i c : ℕ) → i < length order → code_at order i ≡ c → open_to s j c ≡ test i
  open_at i c l e =
      ap (open_to s j) (sym e)
      ∙ (ap (λ b. b && nat_le (s.least (code_at order i)) j) (sym (at.rest.same i l)) ∙ (ap (λ k. t.rest i && nat_le k j) (sym (at.least i l)) ∙ sym (opened i)))

  open_known : (c : ℕ) → open_to s j c ≡ true → contains order c ≡ true
  open_known c e = at.rest.known c (and_parts (s.rest c) (nat_le (s.least c) j) e).0

  pub open_below : (i : ℕ) → test i ≡ true → i < length order
  open_below i e = below i (and_parts (t.rest i) (nat_le (t.least i) j) (sym (opened i) ∙ e)).0

  -- an open place is an open county
  pub some_open : (i : ℕ) → test i ≡ true → (c : ℕ) × (open_to s j c ≡ true)
  some_open i e = (code_at order i, open_at i (code_at order i) (open_below i e) refl ∙ e)

  pub none_open : IsNext test 0 None → NoneOpen s j
  none_open none c = go (open_to s j c) refl
    where
      go : (b : Bool) → open_to s j c ≡ b → b ≡ false
      go false e = refl
      go true e =
          let r = places_are_codes.there order c (open_known c e) in
          absurd (false≢true (sym (none (place order c) (omega arith)) ∙ (sym (open_at (place order c) c r.0 r.1) ∙ e)))

  region : IsRegionAt order (open_to s j) (open_to t j)
  region = record { same = λ i l. sym (open_at i (code_at order i) l refl ∙ opened i); below = λ i e. open_below i (opened i ∙ e); known = open_known }

  -- the first open county stands at the first open place
  begins : (first : ℕ) → test first ≡ true → ((x : ℕ) → x < first → test x ≡ false) → BeginsWith (code_at order first) (filter (open_to s j) order)
  begins first e none =
      let r = begins_least (length order) first (open_to t j) (open_below first e) (sym (opened first) ∙ e) (λ x l. sym (opened x) ∙ none x l) in
      (codes_at order r.0, sym (places_serve.kept p order (open_to s j) (open_to t j) whole region) ∙ ap (codes_at order) r.1)

  module _ (round : Round) (same : order ≡ round.order) (c : ℕ) where
    fault_above : round.limit < j → ¬ CanBranch round s c j
    fault_above l b = absurd (omega (arith, l, b.small))

    fault_unknown : contains order c ≡ false → ¬ CanBranch round s c j
    fault_unknown e b = false≢true (sym e ∙ open_known c b.is_open)

    fault_shut : (i : ℕ) → i < length order → code_at order i ≡ c → test i ≡ false → ¬ CanBranch round s c j
    fault_shut i l e shut b = false≢true (sym shut ∙ (sym (open_at i c l e) ∙ b.is_open))

    fault_turn : (first i : ℕ) → test first ≡ true → ((x : ℕ) → x < first → test x ≡ false) → i < length order → code_at order i ≡ c → round.format ≡ Plain → i ≢ first → ¬ CanBranch round s c j
    fault_turn first i e none l is plainly other b =
        let turn : GoesInOrder Plain round s c j = subst (λ z. GoesInOrder z round s c j) plainly b.in_turn in
        let theirs : BeginsWith c (filter (open_to s j) order) = subst (λ (o : List ℕ). BeginsWith c (filter (open_to s j) o)) (sym same) turn.1 in
        let ours = begins first e none in
        other (sym (place_at order (order_once p order whole) i l) ∙ (ap (place order) (is ∙ head c (code_at order first) theirs.0 ours.0 (sym theirs.1 ∙ ours.1)) ∙ place_at order (order_once p order whole) first (open_below first e)))
      where
        head : (x y : ℕ) (xs ys : List ℕ) → x ∷ xs ≡ y ∷ ys → x ≡ y
        head x y xs ys e = cc

    -- the branch can't be at the county
    pub wrong_county : (i : ℕ) → test i ≡ true → ¬ CanBranch round s c j → IsBranchFault round s c j WrongCounty
    wrong_county i e n = inr (refl, some_open i e, n)

    pub above_limit : (i : ℕ) → test i ≡ true → round.limit < j → IsBranchFault round s c j WrongCounty
    above_limit i e l = wrong_county i e (fault_above l)

    pub no_county : (i : ℕ) → test i ≡ true → contains order c ≡ false → IsBranchFault round s c j WrongCounty
    no_county i e m = wrong_county i e (fault_unknown m)

    pub shut_county : (first i : ℕ) → test first ≡ true → i < length order → code_at order i ≡ c → test i ≡ false → IsBranchFault round s c j WrongCounty
    shut_county first i e l is shut = wrong_county first e (fault_shut i l is shut)

    pub out_of_turn : (first i : ℕ) → test first ≡ true → ((x : ℕ) → x < first → test x ≡ false) → i < length order → code_at order i ≡ c → round.format ≡ Plain → i ≢ first → IsBranchFault round s c j WrongCounty
    out_of_turn first i e none l is plainly other = wrong_county first e (fault_turn first i e none l is plainly other)

    -- or it can
    pub can_wide : (i : ℕ) → i < length order → code_at order i ≡ c → test i ≡ true → j ≤ round.limit → round.format ≡ Wide → CanBranch round s c j
    can_wide i l is e small widely = record { small = small; is_open = open_at i c l is ∙ e; in_turn = subst (λ z. GoesInOrder z round s c j) (sym widely) tt }

    pub can_plain : (first i : ℕ) → test first ≡ true → ((x : ℕ) → x < first → test x ≡ false) → i < length order → code_at order i ≡ c → i ≡ first → j ≡ round.limit → round.format ≡ Plain → CanBranch round s c j
    can_plain first i e none l is here limit plainly = record {
      small = omega (arith, limit);
      is_open = open_at i c l is ∙ (ap test here ∙ e);
      in_turn = subst (λ z. GoesInOrder z round s c j) (sym plainly) (limit, subst (λ (o : List ℕ). BeginsWith c (filter (open_to s j) o)) same (subst (λ z. BeginsWith z (filter (open_to s j) order)) (ap (code_at order) (sym here) ∙ is) (begins first e none)));
    }
