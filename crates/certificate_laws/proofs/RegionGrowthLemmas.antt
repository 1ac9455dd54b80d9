-- Growing inside a region.
use Rattle.std.proofs.Common.{◌≡◌, ℕ, ◌≤◌, ◌<◌, Bool, true, false, nat_lt, nat_le, ◌&&◌, ◌||◌, not, ◌==◌, List, [], ◌∷◌, filter, length, refl, sym, ap, ◌∙◌, subst, arith, ◌↔◌, Contains, AllPairs}
use Rattle.std.specs.Cmp.Lexicographic.{slice_cmp}
use Rattle.std.specs.Ordering.{nat_cmp, is_lt}
use Rattle.std.specs.List.Sorted.{IsSortedBy, IsPermutation}
use Rattle.std.proofs.lemmas.Bool.{and_from, and_parts, eqb-true, eq-eqb, ltb-true, lt-ltb, leb-true, le-leb}
use Rattle.std.proofs.lemmas.List.Sorted.{Contains-permutation, IsPermutation-sym}
use Rattle.grouping_laws.specs.Sets.{contains, Inside}
use Rattle.grouping_laws.specs.Problem.{Problem, Connected}
use Rattle.grouping_laws.specs.Places.{places_below}
use Rattle.grouping_laws.specs.GroupsFrom.{BeginsWith, IsBefore}
use Rattle.connected_laws.specs.Growing.{IsExtension, IsGrowth, IsStart, AreKept, sort_key}
use Rattle.connected_laws.proofs.PlaceLists.{placed_below}
use Rattle.connected_laws.proofs.Starts.{begins_least, least_begins, start_growth}
use Rattle.certificate_data.specs.Round.{Round}
use Rattle.certificate_laws.specs.State.{State, open_to}
use Rattle.certificate_laws.specs.Fitting.{Fits}
use Rattle.certificate_laws.specs.Groups.{IsSetAt, IsSetWithin, AreGroupsAt}
use Rattle.certificate_laws.specs.RegionGrowth.{IsStartIn, from_place, RegionsAreGrown}
use Rattle.certificate_laws.proofs.SortedKeys.{keys_before}
use Rattle.certificate_laws.proofs.Lists.{kept_at}

-- a connected list of places of a region, ascending, that has a place and isn't too long
record IsSetIn (p : Problem) (n limit at : ℕ) (region : ℕ → Bool) (g : List ℕ) : Type 0 where
  pub connected : Connected p g
  pub in_order : filter (contains g) (places_below n) ≡ g
  pub has : contains g at ≡ true
  pub small : length g ≤ limit
  pub inside : Inside region g

or_second : (a b : Bool) → b ≡ true → (a || b) ≡ true
or_second true b e = refl
or_second false b e = e

here : (n : ℕ) (g : List ℕ) → filter (contains g) (places_below n) ≡ g → (c : ℕ) → contains g c ≡ true → c < n
here n g order c e = placed_below n c (contains g) (subst (λ z. contains z c ≡ true) (sym order) e)

module _ (p : Problem) (n limit at : ℕ) (region set free : ℕ → Bool) (start : IsStartIn n at region set free) where
  set_at : set at ≡ true
  set_at = start.set_is at ∙ eq-eqb at at refl

  abbrev later : ℕ → Bool
  later x = nat_lt at x && nat_lt x n

  alone : IsStart n at set later
  alone = record {
    there = start.below at start.there;
    set_is = λ x e. eqb-true x at (sym (start.set_is x) ∙ e);
    set_has = set_at;
    free_later = λ x e. let r = and_parts (nat_lt at x) (nat_lt x n) e in (ltb-true at x r.0, ltb-true x n r.1);
    later_free = λ x l m. and_from (nat_lt at x) (nat_lt x n) (lt-ltb at x l) (lt-ltb x n m);
  }

  free_region : (x : ℕ) → free x ≡ true → region x ≡ true
  free_region x e = (and_parts (region x) (not (x == at)) (sym (start.free_is x) ∙ e)).0

  growth_in : 1 ≤ limit → IsGrowth p n limit set free
  growth_in some =
      let g = start_growth p n limit at set later some alone in
      record {
        connected = g.connected;
        small = g.small;
        below = g.below;
        free_below = λ x e. start.below x (free_region x e);
        apart = λ x e. start.free_is x ∙ not_both (region x) (x == at) (sym (start.set_is x) ∙ e);
      }
    where
      not_both : (a b : Bool) → b ≡ true → (a && not b) ≡ false
      not_both true b e = ap not e
      not_both false b e = refl

  into : (g : List ℕ) → IsExtension p n limit set free g → IsSetIn p n limit at region g
  into g x = record {
    connected = x.connected;
    in_order = x.in_order;
    has = x.has at set_at;
    small = x.small;
    inside = λ c e. cases c (set c) refl (x.within c e);
  }
    where
      cases : (c : ℕ) → (b : Bool) → set c ≡ b → (b || free c) ≡ true → region c ≡ true
      cases c true e o = subst (λ z. region z ≡ true) (sym (eqb-true c at (sym (start.set_is c) ∙ e))) start.there
      cases c false e o = free_region c o

  back : (g : List ℕ) → IsSetIn p n limit at region g → IsExtension p n limit set free g
  back g x = record {
    in_order = x.in_order;
    connected = x.connected;
    small = x.small;
    has = λ c e. subst (λ z. contains g z ≡ true) (sym (eqb-true c at (sym (start.set_is c) ∙ e))) x.has;
    within = λ c e. cases c e (c == at) refl;
  }
    where
      cases : (c : ℕ) → contains g c ≡ true → (b : Bool) → (c == at) ≡ b → (set c || free c) ≡ true
      cases c e true k = ap (λ z. z || free c) (start.set_is c ∙ k)
      cases c e false k = or_second (set c) (free c) (start.free_is c ∙ and_from (region c) (not (c == at)) (x.inside c e) (ap not k))

module _ (p : Problem) (n limit at : ℕ) (s : State) (set free : ℕ → Bool) where
  at_branch : IsStartIn n at (open_to s limit) set free → (g : List ℕ) → IsExtension p n limit set free g ↔ IsSetAt p (places_below n) s at limit g
  at_branch start g = (
    λ e. let x = into p n limit at (open_to s limit) set free start g e in record { connected = x.connected; in_order = x.in_order; has = x.has; small = x.small; inside = x.inside },
    λ x. back p n limit at (open_to s limit) set free start g (record { connected = x.connected; in_order = x.in_order; has = x.has; small = x.small; inside = x.inside }),
  )

  of_size : IsStartIn n at (from_place at (open_to s limit)) set free → (g : List ℕ) → IsExtension p n limit set free g ↔ (IsSetWithin p (places_below n) s limit g × BeginsWith at g)
  of_size start g = (there, λ x. back p n limit at (from_place at (open_to s limit)) set free start g (from x.0 x.1))
    where
      there : IsExtension p n limit set free g → IsSetWithin p (places_below n) s limit g × BeginsWith at g
      there e =
          let x = into p n limit at (from_place at (open_to s limit)) set free start g e in (
            record { connected = x.connected; in_order = x.in_order; small = x.small; inside = λ c m. (and_parts (open_to s limit c) (nat_le at c) (x.inside c m)).0 },
            subst (λ z. BeginsWith at z) x.in_order (begins_least n at (contains g) (start.below at start.there) x.has (λ c l. before c l (contains g c) refl (x.inside c))),
          )
        where
          before : (c : ℕ) → c < at → (b : Bool) → contains g c ≡ b → (contains g c ≡ true → from_place at (open_to s limit) c ≡ true) → b ≡ false
          before c l false m i = refl
          before c l true m i = absurd (omega (arith, l, leb-true at c (and_parts (open_to s limit c) (nat_le at c) (i m)).1))

      from : IsSetWithin p (places_below n) s limit g → BeginsWith at g → IsSetIn p n limit at (from_place at (open_to s limit)) g
      from x first = record {
        connected = x.connected;
        in_order = x.in_order;
        has = subst (λ z. contains z at ≡ true) (sym first.1) (ap (λ b. b || contains first.0 at) (eq-eqb at at refl));
        small = x.small;
        inside = λ c e. and_from (open_to s limit c) (nat_le at c) (x.inside c e) (le-leb at c (least_begins n at (contains g) (subst (λ z. BeginsWith at z) (sym x.in_order) first) c (here n g x.in_order c e) e));
      }

begins : (p : Problem) (n i : ℕ) (s : State) (g : List ℕ) → IsSetWithin p (places_below n) s i g → (at : ℕ) × BeginsWith at g × (open_to s i at ≡ true)
begins p n i s [] x = absurd (omega (arith, x.connected.some_county))
begins p n i s (c ∷ cs) x = (c, (cs, refl), x.inside c (ap (λ b. b || contains cs c) (eq-eqb c c refl)))

groups_at : (p : Problem) (round : Round) (n limit at : ℕ) (s : State) (set free : ℕ → Bool) (keep : List ℕ → Bool) (sets groups : List (List ℕ)) → round.order ≡ places_below n
    → IsStartIn n at (open_to s limit) set free → ((g : List ℕ) → IsSetAt p (places_below n) s at limit g → (keep g ≡ true) ↔ Fits round.format p s g)
    → AreKept p n limit keep set free sets → IsPermutation sets groups → IsSortedBy (λ g h. is_lt (slice_cmp nat_cmp (sort_key g) (sort_key h))) groups
    → AreGroupsAt p round s at limit groups
groups_at p round n limit at s set free keep sets groups order start test are moved sorted =
    kept_at p round s at limit keep groups
    (λ g. (λ c. (subst (λ z. IsSetAt p z s at limit g) (sym order) (there g c).0, (there g c).1), λ x. again g (subst (λ z. IsSetAt p z s at limit g) order x.0) x.1))
    (subst (λ z. AllPairs (IsBefore z) groups) (sym order) (keys_before n sets groups are.once moved sorted (λ g c. (there g c).0.in_order)))
    (λ g x. test g (subst (λ z. IsSetAt p z s at limit g) order x))
  where
    there : (g : List ℕ) → Contains groups g → IsSetAt p (places_below n) s at limit g × (keep g ≡ true)
    there g c =
        let r = (are.each g).0 (Contains-permutation groups sets g (IsPermutation-sym sets groups moved) c) in
        ((at_branch p n limit at s set free start g).0 r.0, r.1)

    again : (g : List ℕ) → IsSetAt p (places_below n) s at limit g → keep g ≡ true → Contains groups g
    again g x k = Contains-permutation sets groups g moved ((are.each g).1 ((at_branch p n limit at s set free start g).1 x, k))

pub regions_are_grown : RegionsAreGrown
regions_are_grown = record {
  growth = λ p n limit at region set free some start. growth_in p n limit at region set free start some;
  at_branch = at_branch;
  of_size = of_size;
  begins = begins;
  groups_at = groups_at;
}
