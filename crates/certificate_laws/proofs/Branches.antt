-- What closing a group and raising a county do to a state.
use Rattle.std.proofs.Common.{◌≡◌, ℕ, ◌+◌, ◌-◌, ◌*◌, ◌≤◌, ◌<◌, Bool, true, false, cond, nat_le, ◌&&◌, not, List, [], ◌∷◌, ◌++◌, filter, length, ◌==◌, refl, sym, ap, ◌∙◌, subst, arith, ◌⊎◌, inl, inr, ⊎_elim, Contains}
use Rattle.std.proofs.lemmas.Bool.{eqb-true, eq-eqb, false≢true, lt-leb}
use Rattle.std.proofs.lemmas.List.Elements.{All-push}
use Rattle.county_codes.specs.declared.group.Group.{Group}
use Rattle.grouping_laws.specs.Sets.{indicator, count, contains, Inside, SameSet}
use Rattle.grouping_laws.specs.Problem.{Problem, LawfulGroup}
use Rattle.grouping_laws.specs.Grouping.{Grouping, Lawful}
use Rattle.grouping_laws.specs.GroupsFrom.{IsOrder}
use Rattle.place_sets.proofs.Sums.{sum_by-append, total_le, total_times, total_ones, digit_one}
use Rattle.grouping_laws.proofs.Elements.{Has, has_all, all_from_has, has_left, has_right, has_append, contains_from_has}
use Rattle.grouping_laws.proofs.Digits.{true_digit}
use Rattle.grouping_laws.proofs.Alike.{member_same}
use Rattle.grouping_laws.proofs.Parts.{has_from_stands}
use Rattle.certificate_data.specs.declared.format.Format.{Format}
use Rattle.certificate_data.specs.declared.format.Format.TheVariants.{Plain, Wide}
use Rattle.certificate_data.specs.Round.{Round}
use Rattle.certificate_laws.specs.Regions.{without}
use Rattle.certificate_laws.specs.State.{State, IsState, IsLeastSize, open_to, close, raise}
use Rattle.certificate_laws.specs.Agreement.{Agrees}
use Rattle.certificate_laws.specs.Fitting.{Fits}
use Rattle.certificate_laws.specs.Proving.{CanBranch, GoesInOrder}
use Rattle.certificate_laws.specs.Groups.{IsGroupAt}
use Rattle.certificate_laws.specs.Branching.{BranchKeepsState, steps_left, turns_left}
use Rattle.certificate_laws.proofs.Completion.{open_rest, open_least, is_open, rest_listed}
use Rattle.certificate_laws.proofs.Counting.{not_longer, sum_by-filter, total_less, length-filter, fewer_kept}
use Rattle.certificate_laws.proofs.Steps.{find_small}
use Rattle.certificate_laws.proofs.WithoutGroup.{split_one, without_in, without_not}
use Rattle.certificate_laws.proofs.Heart.{group_there}
use Rattle.certificate_laws.proofs.Agreement.{Peeled, no_size, peeled, peeled_completes, empty_is_state, empty_agrees}
use Rattle.certificate_laws.proofs.Narrowing.{closing_narrows, raising_narrows}

-- a group that fits lies in the rest
pub fits_rest : (format : Format) (p : Problem) (s : State) (g : List ℕ) → Fits format p s g → Inside s.rest g
fits_rest format p s g fits x e = open_rest s (length g) x (fits.inside x e)

closed_state : (p : Problem) (round : Round) (s : State) (g : List ℕ) → IsState p round s → Fits round.format p s g → length g ≤ round.limit → IsState p round (close g s)
closed_state p round s g state fits small = record {
  once = λ x. omega (arith, state.once x, split_one s.rest g fits.lawful.once (fits_rest round.format p s g fits) x, sum_by-append (count x) s.closed (g ∷ []));
  lawful = All-push (LawfulGroup p) s.closed g state.lawful fits.lawful;
  small = All-push (λ k. length k ≤ round.limit) s.closed g state.small small;
  sizes = λ x. size x (contains g x);
  settled = λ x e. settle x (contains g x) e;
}
  where
    size : (x : ℕ) → (b : Bool) → IsLeastSize round.format round.limit (cond b 0 (s.least x))
    size x true = no_size round.format round.limit
    size x false = state.sizes x

    and_yes : (b : Bool) → (b && true) ≡ false → b ≡ false
    and_yes true h = h
    and_yes false h = refl

    settle : (x : ℕ) → (b : Bool) → (s.rest x && not b) ≡ false → cond b 0 (s.least x) ≡ 0
    settle x true e = refl
    settle x false e = state.settled x (and_yes (s.rest x) e)

raised_state : (p : Problem) (round : Round) (s : State) (c j : ℕ) → IsState p round s → CanBranch round s c j → IsState p round (raise c j s)
raised_state p round s c j state can = record {
  once = state.once;
  lawful = state.lawful;
  small = state.small;
  sizes = λ x. size x (x == c);
  settled = λ x e. settle x e (x == c) refl;
}
  where
    raised : (format : Format) → GoesInOrder format round s c j → IsLeastSize format round.limit (j + 1)
    raised Plain turn = inr (omega (arith, turn.0))
    raised Wide turn = tt

    size : (x : ℕ) → (b : Bool) → IsLeastSize round.format round.limit (cond b (j + 1) (s.least x))
    size x true = raised round.format can.in_turn
    size x false = state.sizes x

    settle : (x : ℕ) → s.rest x ≡ false → (b : Bool) → (x == c) ≡ b → cond b (j + 1) (s.least x) ≡ 0
    settle x e true k = absurd (false≢true (sym e ∙ (ap s.rest (eqb-true x c k) ∙ open_rest s j c can.is_open)))
    settle x e false k = state.settled x e

closed_agrees : (format : Format) (p : Problem) (s : State) (k : List ℕ) (g : Grouping) → Fits format p s k → Agrees (close k s) g → Agrees s g
closed_agrees format p s k g fits a = record {
  closed = all_from_has (λ k. (m : Group) × Contains g m × SameSet m.codes k) s.closed (λ x h. settled x (has_left s.closed (k ∷ []) x h));
  large = λ x e. go x e (contains k x) refl;
}
  where
    settled : (x : List ℕ) → Has (s.closed ++ k ∷ []) x → (m : Group) × Contains g m × SameSet m.codes x
    settled x h = has_all (λ k. (m : Group) × Contains g m × SameSet m.codes k) (s.closed ++ k ∷ []) a.closed x h

    go : (x : ℕ) → s.rest x ≡ true → (b : Bool) → contains k x ≡ b → (m : Group) × Contains g m × (contains m.codes x ≡ true) × (s.least x ≤ length m.codes)
    go x e true n =
        let r = settled k (has_right s.closed (k ∷ []) k (inl refl)) in
        (r.0, r.1, r.2 x ∙ n, omega (arith, not_longer k r.0.codes fits.lawful.once (λ y i. r.2 y ∙ i), open_least s (length k) x (fits.inside x n)))
    go x e false n = let r = a.large x (rw (e, n) refl) in (r.0, r.1, r.2, omega (arith, r.3, ap (λ b. cond b 0 (s.least x)) n))

raised_more : (s : State) (c j : ℕ) → s.least c ≤ j + 1 → (x : ℕ) → (b : Bool) → (x == c) ≡ b → s.least x ≤ cond b (j + 1) (s.least x)
raised_more s c j under x true e = omega (arith, under, ap s.least (eqb-true x c e))
raised_more s c j under x false e = omega arith

raised_agrees : (s : State) (c j : ℕ) (g : Grouping) → s.least c ≤ j + 1 → Agrees (raise c j s) g → Agrees s g
raised_agrees s c j g under a = record { closed = a.closed; large = λ x e. let r = a.large x e in (r.0, r.1, r.2, omega (arith, raised_more s c j under x (x == c) refl, r.3)) }

-- Where a grouping agrees with a state, the group of a county may be closed, or the county may be raised.
some_agrees : (p : Problem) (round : Round) (s : State) (c j : ℕ) (g : Grouping) → IsOrder p round.order → IsState p round s → open_to s j c ≡ true → Lawful p g → Agrees s g
    → ((k : List ℕ) × IsGroupAt p round s c j k × Agrees (close k s) g) ⊎ Agrees (raise c j s) g
some_agrees p round s c j g order state there lawful a = ⊎_elim small large (find_small j c rest.opens)
  where
    rest : Peeled p s.closed g
    rest = peeled p round s state g lawful a

    small : ((m : Group) × Has rest.opens m × (contains m.codes c ≡ true) × (length m.codes ≤ j)) → ((k : List ℕ) × IsGroupAt p round s c j k × Agrees (close k s) g) ⊎ Agrees (raise c j s) g
    small r =
        let at = group_there p round s order state.once rest.opens (peeled_completes p round s state g lawful a) c j r.0 r.1 r.2 r.3 in
        let k = filter (contains r.0.codes) round.order in
        inl (
          k,
          at.1,
          record {
            closed = all_from_has (λ k. (m : Group) × Contains g m × SameSet m.codes k) (s.closed ++ k ∷ []) (λ x h.
                ⊎_elim
                (λ i. has_all (λ k. (m : Group) × Contains g m × SameSet m.codes k) s.closed a.closed x i)
                (λ i. (r.0, contains_from_has g r.0 (rest.among r.0 r.1), λ y. member_same r.0.codes k at.0 y ∙ ap (λ z. contains z y) (only x k i)))
                (has_append s.closed (k ∷ []) x h));
            large = λ x e. let q = a.large x (without_in k s.rest x e) in (q.0, q.1, q.2, lower x (length q.0.codes) q.3 (contains k x));
          },
        )
      where
        only : (x k : List ℕ) → Has (k ∷ []) x → k ≡ x
        only x k (inl e) = e
        only x k (inr h) = absurd h

        lower : (x n : ℕ) → s.least x ≤ n → (b : Bool) → cond b 0 (s.least x) ≤ n
        lower x n l true = omega arith
        lower x n l false = l

    large : ((m : Group) → Has rest.opens m → contains m.codes c ≡ true → j < length m.codes) → ((k : List ℕ) × IsGroupAt p round s c j k × Agrees (close k s) g) ⊎ Agrees (raise c j s) g
    large l = inr (record { closed = a.closed; large = λ x e. go x e (x == c) refl })
      where
        go : (x : ℕ) → s.rest x ≡ true → (b : Bool) → (x == c) ≡ b → (m : Group) × Contains g m × (contains m.codes x ≡ true) × (cond b (j + 1) (s.least x) ≤ length m.codes)
        go x e true k =
            let m = has_from_stands c rest.opens (omega (arith, (peeled_completes p round s state g lawful a).once c, true_digit (s.rest c) (open_rest s j c there))) in
            (m.0, contains_from_has g m.0 (rest.among m.0 m.1), ap (contains m.0.codes) (eqb-true x c k) ∙ m.2, omega (arith, l m.0 m.1 m.2))
        go x e false k = a.large x e

closed_fewer : (p : Problem) (round : Round) (s : State) (c j : ℕ) (g : List ℕ) → CanBranch round s c j → IsGroupAt p round s c j g → steps_left p round.limit (close g s) < steps_left p round.limit s
closed_fewer p round s c j g can from =
    let less = total_less (λ x. cond (without g s.rest x) (round.limit + 1 - cond (contains g x) 0 (s.least x)) 0) (λ x. cond (s.rest x) (round.limit + 1 - s.least x) 0) p.counties c (from.fits.lawful.listed c from.has) here (λ x. each (s.rest x) (contains g x) (s.least x)) in
    omega (arith, less, sum_by-filter (λ x. round.limit + 1 - cond (contains g x) 0 (s.least x)) (without g s.rest) p.counties, sum_by-filter (λ x. round.limit + 1 - s.least x) s.rest p.counties)
  where
    here : cond (without g s.rest c) (round.limit + 1 - cond (contains g c) 0 (s.least c)) 0 < cond (s.rest c) (round.limit + 1 - s.least c) 0
    here = rw (from.has, open_rest s j c can.is_open) (omega (arith, open_least s j c can.is_open, can.small))

    each : (a b : Bool) (n : ℕ) → cond (a && not b) (round.limit + 1 - cond b 0 n) 0 ≤ cond a (round.limit + 1 - n) 0
    each true true n = omega arith
    each true false n = omega arith
    each false b n = omega arith

raised_fewer : (p : Problem) (round : Round) (s : State) (c j : ℕ) → IsState p round s → CanBranch round s c j → steps_left p round.limit (raise c j s) < steps_left p round.limit s
raised_fewer p round s c j state can =
    let less = total_less (λ x. cond (s.rest x) (round.limit + 1 - cond (x == c) (j + 1) (s.least x)) 0) (λ x. cond (s.rest x) (round.limit + 1 - s.least x) 0) p.counties c (rest_listed p s state.once c (open_rest s j c can.is_open)) here (λ x. each x (x == c) refl (s.rest x)) in
    omega (arith, less, sum_by-filter (λ x. round.limit + 1 - cond (x == c) (j + 1) (s.least x)) s.rest p.counties, sum_by-filter (λ x. round.limit + 1 - s.least x) s.rest p.counties)
  where
    here : cond (s.rest c) (round.limit + 1 - cond (c == c) (j + 1) (s.least c)) 0 < cond (s.rest c) (round.limit + 1 - s.least c) 0
    here = rw (open_rest s j c can.is_open, eq-eqb c c refl) (omega (arith, open_least s j c can.is_open, can.small))

    each : (x : ℕ) → (b : Bool) → (x == c) ≡ b → (a : Bool) → cond a (round.limit + 1 - cond b (j + 1) (s.least x)) 0 ≤ cond a (round.limit + 1 - s.least x) 0
    each x true e true = omega (arith, open_least s j c can.is_open, ap s.least (eqb-true x c e))
    each x false e true = omega arith
    each x b e false = omega arith

few_steps : (p : Problem) (limit : ℕ) (s : State) → steps_left p limit s ≤ length p.counties * (limit + 1)
few_steps p limit s =
    omega (
      arith,
      sum_by-filter (λ x. limit + 1 - s.least x) s.rest p.counties,
      total_le (λ x. cond (s.rest x) (limit + 1 - s.least x) 0) (λ x. 1 * (limit + 1)) p.counties (λ x. each (s.rest x) (s.least x)),
      total_times (λ x. 1) (limit + 1) p.counties,
      ap (λ z. z * (limit + 1)) (total_ones p.counties),
    )
  where
    each : (a : Bool) (n : ℕ) → cond a (limit + 1 - n) 0 ≤ 1 * (limit + 1)
    each true n = omega arith
    each false n = omega arith

-- a county that is open below the limit is open at the limit
pub open_above : (s : State) (i j x : ℕ) → i ≤ j → open_to s i x ≡ true → open_to s j x ≡ true
open_above s i j x l e = is_open s j x (open_rest s i x e) (omega (arith, open_least s i x e))

pub closed_open : (s : State) (g : List ℕ) (i x : ℕ) → open_to (close g s) i x ≡ true → open_to s i x ≡ true
closed_open s g i x e = is_open s i x (without_in g s.rest x (open_rest (close g s) i x e)) (omega (arith, open_least (close g s) i x e, ap (λ b. cond b 0 (s.least x)) (without_not g s.rest x (open_rest (close g s) i x e))))

pub raised_open : (s : State) (c j : ℕ) → s.least c ≤ j + 1 → (i x : ℕ) → open_to (raise c j s) i x ≡ true → open_to s i x ≡ true
raised_open s c j under i x e = is_open s i x (open_rest (raise c j s) i x e) (omega (arith, open_least (raise c j s) i x e, raised_more s c j under x (x == c) refl))

pub settled_shut : (s : State) (g : List ℕ) (i c : ℕ) → contains g c ≡ true → open_to (close g s) i c ≡ false
settled_shut s g i c m = shut (s.rest c) (contains g c) m
  where
    shut : (a b : Bool) → b ≡ true → ((a && not b) && nat_le (cond b 0 (s.least c)) i) ≡ false
    shut true true e = refl
    shut true false e = absurd (false≢true e)
    shut false b e = refl

pub settled_out : (s : State) (g : List ℕ) (c : ℕ) → contains g c ≡ true → (close g s).rest c ≡ false
settled_out s g c m = out (s.rest c) (contains g c) m
  where
    out : (a b : Bool) → b ≡ true → (a && not b) ≡ false
    out true true e = refl
    out true false e = absurd (false≢true e)
    out false b e = refl

pub raised_shut : (s : State) (c j : ℕ) → open_to (raise c j s) j c ≡ false
raised_shut s c j = shut (s.rest c) (c == c) (eq-eqb c c refl)
  where
    shut : (a b : Bool) → b ≡ true → (a && nat_le (cond b (j + 1) (s.least c)) j) ≡ false
    shut true true e = lt-leb (j + 1) j (omega arith)
    shut true false e = absurd (false≢true e)
    shut false b e = refl

closed_turns : (p : Problem) (round : Round) (s : State) (c j : ℕ) (g : List ℕ) → CanBranch round s c j → IsGroupAt p round s c j g → turns_left p round.limit (close g s) < turns_left p round.limit s
closed_turns p round s c j g can from =
    fewer_kept (open_to (close g s) round.limit) (open_to s round.limit) p.counties c (closed_open s g round.limit) (from.fits.lawful.listed c from.has) (settled_shut s g round.limit c from.has) (open_above s j round.limit c can.small can.is_open)

-- in a plain round a branch has the round's limit
pub plain_limit : (format : Format) (round : Round) (s : State) (c j : ℕ) → format ≡ Plain → GoesInOrder format round s c j → j ≡ round.limit
plain_limit format round s c j e turn = let t : GoesInOrder Plain round s c j = subst (λ l. GoesInOrder l round s c j) e turn in t.0

raised_turns : (p : Problem) (round : Round) (s : State) (c j : ℕ) → round.format ≡ Plain → IsState p round s → CanBranch round s c j → turns_left p round.limit (raise c j s) < turns_left p round.limit s
raised_turns p round s c j plainly state can =
    fewer_kept (open_to (raise c j s) round.limit) (open_to s round.limit) p.counties c (raised_open s c j (omega (arith, open_least s j c can.is_open)) round.limit) (rest_listed p s state.once c (open_rest s j c can.is_open))
    (subst (λ i. open_to (raise c j s) i c ≡ false) (plain_limit round.format round s c j plainly can.in_turn) (raised_shut s c j)) (open_above s j round.limit c can.small can.is_open)

few_turns : (p : Problem) (limit : ℕ) (s : State) → turns_left p limit s ≤ length p.counties
few_turns p limit s = omega (arith, length-filter (open_to s limit) p.counties, total_le (λ x. indicator (open_to s limit x)) (λ x. 1) p.counties (λ x. digit_one (open_to s limit x)), total_ones p.counties)

pub branch_keeps_state : BranchKeepsState
branch_keeps_state = record {
  first_state = empty_is_state;
  first_agrees = empty_agrees;
  closed_state = closed_state;
  raised_state = raised_state;
  closed_agrees = closed_agrees;
  raised_agrees = raised_agrees;
  some_agrees = some_agrees;
  closed_narrows = λ p round s k is state fits. closing_narrows round.format p s k is (rest_listed p s state.once) fits;
  raised_narrows = raising_narrows;
  closed_fewer = closed_fewer;
  raised_fewer = raised_fewer;
  few_steps = few_steps;
  closed_turns = closed_turns;
  raised_turns = raised_turns;
  few_turns = few_turns;
}
