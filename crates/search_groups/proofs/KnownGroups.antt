-- How what is known of groups serves a search.
use Rattle.std.proofs.Common.{◌≡◌, ℕ, ◌+◌, ◌≤◌, ◌<◌, Bool, true, false, cond, not, ◌&&◌, nat_le, ◌==◌, List, [], ◌∷◌, length, filter, refl, sym, ap, ◌∙◌, subst, arith, ⊎_elim, AllPairs, Contains}
use Rattle.std.proofs.lemmas.Bool.{false≢true, and_parts, cases_lt, eqb-true, eq-eqb}
use Rattle.grouping_laws.specs.Sets.{contains, Inside}
use Rattle.grouping_laws.specs.Problem.{Problem, IsProblem}
use Rattle.grouping_laws.specs.GroupsFrom.{IsOrder, IsBefore}
use Rattle.grouping_laws.proofs.Alike.{Alike, length_alike, in_order_alike, member_same}
use Rattle.grouping_laws.proofs.Elements.{has_from_contains}
use Rattle.certificate_data.specs.declared.format.Format.TheVariants.{Wide}
use Rattle.certificate_data.specs.Round.{Round}
use Rattle.certificate_laws.specs.State.{State, IsState, open_to, close, raise}
use Rattle.certificate_laws.specs.Fitting.{Fits, IsLive, IsKept}
use Rattle.certificate_laws.specs.Groups.{IsGroupOf, AreGroupsOf, AreGroupsAt}
use Rattle.certificate_laws.specs.Proving.{CanBranch, GoesInOrder}
use Rattle.certificate_laws.proofs.Branches.{branch_keeps_state}
use Rattle.certificate_laws.proofs.Completion.{open_rest, open_least, is_open}
use Rattle.certificate_laws.proofs.Decided.{fits_alike}
use Rattle.search_groups.specs.KnownGroups.{IsCandidateGroup, AreCandidates, IsKnown, AreThose, IsApart, Lacks, Has, KnownServes}

nothing : {X : Type 0} (x : X) → Contains [] x → ⊥
nothing x h = has_from_contains [] x h

no_pairs : {X : Type 0} (R : X → X → Type 0) → AllPairs R []
no_pairs R = λ i j d l m. absurd (omega (arith, m))

first : (p : Problem) (round : Round) (s : State) → IsKnown p round s 0 []
first p round s = record {
  none_below = λ g fits l. omega (arith, l);
  each = λ g h. absurd (nothing g h);
  all = λ g h. absurd (omega (arith, h.size, h.fits.lawful.connected.some_county));
  sorted = no_pairs (IsBefore round.order);
}

-- a group that fits, in the order of places
in_places : (p : Problem) (round : Round) (s : State) (i : ℕ) → IsOrder p round.order → (g : List ℕ) → Fits round.format p s g → length g ≡ i → IsGroupOf p round s i (filter (contains g) round.order)
in_places p round s i order g fits e =
    let k = filter (contains g) round.order in
    let same : Alike g k = in_order_alike round.order p.counties g order fits.lawful.once fits.lawful.listed in
    record {
      fits = fits_alike round.format p s g k same fits;
      in_order = filter_same (contains k) (contains g) (λ x. sym (member_same g k same x)) round.order;
      size = omega (arith, e, length_alike g k same);
    }
  where
    filter_same : (q r : ℕ → Bool) → ((x : ℕ) → q x ≡ r x) → (xs : List ℕ) → filter q xs ≡ filter r xs
    filter_same q r h [] = refl
    filter_same q r h (x ∷ xs) = ap (λ b. cond b (x ∷ filter q xs) (filter q xs)) (h x) ∙ ap (λ z. cond (r x) (x ∷ z) z) (filter_same q r h xs)

-- the groups that fit are known
exact : (p : Problem) (round : Round) (s : State) (i : ℕ) (groups : List (List ℕ)) → ((g : List ℕ) → Fits round.format p s g → length g < i → ⊥) → AreGroupsOf p round s i groups → IsKnown p round s i groups
exact p round s i groups none are = record {
  none_below = none;
  each = λ g h. let f = (are.each g).0 h in record { lawful = f.fits.lawful; inside = subst (λ n. Inside (open_to s n) g) f.size f.fits.inside; in_order = f.in_order; size = f.size };
  all = λ g f. (are.each g).1 f;
  sorted = are.sorted;
}

-- where no candidate of a size is left, no group of at most that size fits
pub none_left : (p : Problem) (round : Round) (s : State) (i : ℕ) → IsOrder p round.order → IsKnown p round s i [] → (g : List ℕ) → Fits round.format p s g → length g ≤ i → ⊥
none_left p round s i order known g fits l = ⊎_elim
    (λ less. known.none_below g fits less)
    (λ most. let k = filter (contains g) round.order in nothing k (known.all k (in_places p round s i order g fits (omega (arith, l, most)))))
    (cases_lt (length g) i)

next : (p : Problem) (round : Round) (s : State) (i : ℕ) (groups : List (List ℕ)) → IsOrder p round.order → IsKnown p round s i [] → AreGroupsOf p round s (i + 1) groups → IsKnown p round s (i + 1) groups
next p round s i groups order known are = exact p round s (i + 1) groups (λ g fits l. none_left p round s i order known g fits (omega (arith, l))) are

-- some of what is known, at a state into which no other groups fit
narrower : (p : Problem) (round : Round) (s t : State) (i : ℕ) (Is : List ℕ → Type 0) (groups those : List (List ℕ)) → ((g : List ℕ) → Fits round.format p t g → Fits round.format p s g)
    → ((g : List ℕ) → Inside (open_to s i) g → Is g → Inside (open_to t i) g) → ((g : List ℕ) → Inside (open_to t i) g → Is g) → IsKnown p round s i groups → AreThose round.order Is groups those → IsKnown p round t i those
narrower p round s t i Is groups those narrows stays keeps known are = record {
  none_below = λ g fits l. known.none_below g (narrows g fits) l;
  each = λ g h.
      let r = (are.each g).0 h in
      let c = known.each g r.0 in
      record { lawful = c.lawful; inside = stays g c.inside r.1; in_order = c.in_order; size = c.size };
  all = λ g f. (are.each g).1 (known.all g (record { fits = narrows g f.fits; in_order = f.in_order; size = f.size }), keeps g (subst (λ n. Inside (open_to t n) g) f.size f.fits.inside));
  sorted = are.in_turn known.sorted;
}

not_true : (b : Bool) → not b ≡ true → b ≡ false
not_true false e = refl
not_true true e = absurd (false≢true e)

module _ (s : State) (i : ℕ) where
  -- what is open where a group is closed: the counties that were, but those of the group
  closed_open : (k : List ℕ) (c : ℕ) → contains k c ≡ false → open_to (close k s) i c ≡ open_to s i c
  closed_open k c e = ap (λ b. (s.rest c && not b) && nat_le (cond b 0 (s.least c)) i) e ∙ ap (λ b. b && nat_le (s.least c) i) (all (s.rest c))
    where
      all : (b : Bool) → (b && true) ≡ b
      all true = refl
      all false = refl

  closed_shut : (k : List ℕ) (c : ℕ) → open_to (close k s) i c ≡ true → contains k c ≡ false
  closed_shut k c e = not_true (contains k c) (and_parts (s.rest c) (not (contains k c)) (open_rest (close k s) i c e)).1

  -- and where a county is raised past the size
  raised_open : (j c : ℕ) → (c == j) ≡ false → open_to (raise j i s) i c ≡ open_to s i c
  raised_open j c e = ap (λ b. s.rest c && nat_le (cond b (i + 1) (s.least c)) i) e

  raised_shut : (j : ℕ) → open_to (raise j i s) i j ≡ true → ⊥
  raised_shut j e = omega (arith, open_least (raise j i s) i j e, ap (λ b. cond b (i + 1) (s.least j)) (eq-eqb j j refl))

closed : (p : Problem) (round : Round) (s : State) (i : ℕ) (k : List ℕ) (groups those : List (List ℕ)) → IsProblem p → IsState p round s → Fits round.format p s k → IsKnown p round s i groups → AreThose round.order (IsApart k) groups those
    → IsKnown p round (close k s) i those
closed p round s i k groups those law state fits =
    narrower p round s (close k s) i (IsApart k) groups those (branch_keeps_state.closed_narrows p round s k law state fits)
    (λ g inside off c m. closed_open s i k c (off c m) ∙ inside c m)
    (λ g inside c m. closed_shut s i k c (inside c m))

raised : (p : Problem) (round : Round) (s : State) (i c : ℕ) (groups those : List (List ℕ)) → s.least c ≤ i + 1 → IsKnown p round s i groups → AreThose round.order (Lacks c) groups those → IsKnown p round (raise c i s) i those
raised p round s i c groups those low =
    narrower p round s (raise c i s) i (Lacks c) groups those (branch_keeps_state.raised_narrows round.format p s c i low) stays keeps
  where
    stays : (g : List ℕ) → Inside (open_to s i) g → Lacks c g → Inside (open_to (raise c i s) i) g
    stays g inside e x m = go (x == c) refl
      where
        go : (b : Bool) → (x == c) ≡ b → open_to (raise c i s) i x ≡ true
        go true k = absurd (false≢true (sym e ∙ subst (λ z. contains g z ≡ true) (eqb-true x c k) m))
        go false k = raised_open s i c x k ∙ inside x m

    keeps : (g : List ℕ) → Inside (open_to (raise c i s) i) g → Lacks c g
    keeps g inside = go (contains g c) refl
      where
        go : (b : Bool) → contains g c ≡ b → b ≡ false
        go true m = absurd (raised_shut s i c (inside c m))
        go false m = refl

live : (p : Problem) (round : Round) (s : State) (i : ℕ) (groups those : List (List ℕ)) → round.format ≡ Wide → IsKnown p round s i groups → AreThose round.order (IsLive p s) groups those → AreGroupsOf p round s i those × IsKnown p round s i those
live p round s i groups those widely known those_live = (are, exact p round s i those known.none_below are)
  where
    are : AreGroupsOf p round s i those
    are = record {
      each = λ g. (
        λ h.
            let r = (those_live.each g).0 h in
            let c = known.each g r.0 in
            record { fits = record { lawful = c.lawful; inside = subst (λ n. Inside (open_to s n) g) (sym c.size) c.inside; kept = subst (λ l. IsKept l p s g) (sym widely) r.1 }; in_order = c.in_order; size = c.size },
        λ f. (those_live.each g).1 (known.all g f, subst (λ l. IsKept l p s g) widely f.fits.kept),
      );
      sorted = those_live.in_turn known.sorted;
    }

takes : (p : Problem) (round : Round) (s : State) (i c : ℕ) (groups those found : List (List ℕ)) → round.format ≡ Wide → IsKnown p round s i groups → AreThose round.order (Has c) groups those → AreThose round.order (IsLive p s) those found → AreGroupsAt p round s c i found
takes p round s i c groups those found widely known having lives = record {
  each = λ g. (
    λ h.
        let r = (lives.each g).0 h in
        let q = (having.each g).0 r.0 in
        let is = known.each g q.0 in
        record { fits = record { lawful = is.lawful; inside = subst (λ n. Inside (open_to s n) g) (sym is.size) is.inside; kept = subst (λ l. IsKept l p s g) (sym widely) r.1 }; in_order = is.in_order; has = q.1; small = omega (arith, is.size) },
    λ f.
        let size : length g ≡ i = ⊎_elim (λ l. absurd (known.none_below g f.fits l)) (λ l. omega (arith, l, f.small)) (cases_lt (length g) i) in
        let there = known.all g (record { fits = f.fits; in_order = f.in_order; size = size }) in
        (lives.each g).1 ((having.each g).1 (there, f.has), subst (λ l. IsKept l p s g) widely f.fits.kept),
  );
  sorted = lives.in_turn (having.in_turn known.sorted);
}

can : (p : Problem) (round : Round) (s : State) (i c : ℕ) (g : List ℕ) → round.format ≡ Wide → i ≤ round.limit → IsCandidateGroup p round s i g → contains g c ≡ true → CanBranch round s c i
can p round s i c g widely small is m = record { small = small; is_open = is.inside c m; in_turn = subst (λ l. GoesInOrder l round s c i) (sym widely) tt }

-- candidates of any size serve in the same way, whatever smaller groups fit
pub candidates_listed : (p : Problem) (round : Round) (s : State) (i : ℕ) (groups : List (List ℕ)) → AreGroupsOf p round s i groups → AreCandidates p round s i groups
candidates_listed p round s i groups are = record {
  each = λ g h. let f = (are.each g).0 h in record { lawful = f.fits.lawful; inside = subst (λ n. Inside (open_to s n) g) f.size f.fits.inside; in_order = f.in_order; size = f.size };
  all = λ g f. (are.each g).1 f;
  sorted = are.sorted;
}

-- where a group is closed, the candidates apart from it stay
pub candidates_closed : (p : Problem) (round : Round) (s : State) (i : ℕ) (k : List ℕ) (groups those : List (List ℕ)) → IsProblem p → IsState p round s → Fits round.format p s k → AreCandidates p round s i groups
    → AreThose round.order (IsApart k) groups those → AreCandidates p round (close k s) i those
candidates_closed p round s i k groups those law state fits known are = record {
  each = λ g h.
      let r = (are.each g).0 h in
      let c = known.each g r.0 in
      record { lawful = c.lawful; inside = λ x m. closed_open s i k x (r.1 x m) ∙ c.inside x m; in_order = c.in_order; size = c.size };
  all = λ g f.
      let apart : IsApart k g = λ x m. closed_shut s i k x (subst (λ n. Inside (open_to (close k s) n) g) f.size f.fits.inside x m) in
      (are.each g).1 (known.all g (record { fits = (branch_keeps_state).closed_narrows p round s k law state fits g f.fits; in_order = f.in_order; size = f.size }), apart);
  sorted = are.in_turn known.sorted;
}

-- where a county is raised past a size, all candidates of the next size stay
pub candidates_raised : (p : Problem) (round : Round) (s : State) (i c : ℕ) (groups : List (List ℕ)) → s.least c ≤ i + 1 → AreCandidates p round s (i + 1) groups → AreCandidates p round (raise c i s) (i + 1) groups
candidates_raised p round s i c groups low known = record {
  each = λ g h. let is = known.each g h in record { lawful = is.lawful; inside = λ x m. still x (is.inside x m); in_order = is.in_order; size = is.size };
  all = λ g f. known.all g (record { fits = (branch_keeps_state).raised_narrows round.format p s c i low g f.fits; in_order = f.in_order; size = f.size });
  sorted = known.sorted;
}
  where
    least : (b : Bool) (n : ℕ) → n ≤ i + 1 → cond b (i + 1) n ≤ i + 1
    least true n l = omega arith
    least false n l = l

    still : (x : ℕ) → open_to s (i + 1) x ≡ true → open_to (raise c i s) (i + 1) x ≡ true
    still x e = is_open (raise c i s) (i + 1) x (open_rest s (i + 1) x e) (least (x == c) (s.least x) (open_least s (i + 1) x e))

-- in a wide round the live ones are the groups that fit
pub candidates_fit : (p : Problem) (round : Round) (s : State) (i : ℕ) (groups those : List (List ℕ)) → round.format ≡ Wide → AreCandidates p round s i groups → AreThose round.order (IsLive p s) groups those → AreGroupsOf p round s i those
candidates_fit p round s i groups those widely known lives = record {
  each = λ g. (
    λ h.
        let r = (lives.each g).0 h in
        let c = known.each g r.0 in
        record { fits = record { lawful = c.lawful; inside = subst (λ n. Inside (open_to s n) g) (sym c.size) c.inside; kept = subst (λ l. IsKept l p s g) (sym widely) r.1 }; in_order = c.in_order; size = c.size },
    λ f. (lives.each g).1 (known.all g f, subst (λ l. IsKept l p s g) widely f.fits.kept),
  );
  sorted = lives.in_turn known.sorted;
}

pub known_serves : KnownServes
known_serves = record { first = first; next = next; closed = closed; raised = raised; live = live; takes = takes; can = can }
