-- The format with marks is the plain format.
use Rattle.std.proofs.Common.{◌≡◌, ◌↔◌, ℕ, ◌+◌, ◌-◌, ◌*◌, ◌/◌, ◌≤◌, ◌<◌, Bool, true, false, cond, nat_le, not, ◌&&◌, ◌||◌, min, List, [], ◌∷◌, filter, length, ◌==◌, refl, sym, ap, ◌∙◌, subst, arith, ◌⊎◌, inl, inr, ⊎_elim, Contains, Some, None}
use Rattle.std.proofs.lemmas.Bool.{eqb-true, false≢true, le-leb, lt-leb}
use Rattle.std.proofs.lemmas.List.Elements.{All-push}
use mathlib.Core.Path.{fun_ext}
use Rattle.county_codes.specs.declared.group.Group.{Group}
use Rattle.grouping_laws.specs.Sets.{indicator, sum_by, count, contains, Inside}
use Rattle.grouping_laws.specs.Problem.{Problem, LawfulGroup, Suits, people_of}
use Rattle.grouping_laws.specs.Grouping.{Grouping, Lawful, counts, sets_of}
use Rattle.grouping_laws.specs.GroupsFrom.{BeginsWith, IsGroupFrom, AreGroupsFrom, IsSetFrom}
use Rattle.place_sets.proofs.Sums.{sum_by-append, digit_one}
use Rattle.grouping_laws.proofs.Elements.{Has, contains_from_has}
use Rattle.grouping_laws.proofs.Digits.{true_digit}
use Rattle.grouping_laws.proofs.Alike.{begins, head_same}
use Rattle.grouping_laws.proofs.Parts.{member_head, has_from_stands}
use Rattle.certificate_data.specs.declared.format.Format.{Format}
use Rattle.certificate_data.specs.declared.format.Format.TheVariants.{Plain, Wide}
use Rattle.certificate_data.specs.Round.{Round}
use Rattle.certificate_laws.specs.Regions.{listed}
use Rattle.certificate_laws.specs.State.{State, IsState, IsLeastSize, open_to, close, raise, empty_state}
use Rattle.certificate_laws.specs.Agreement.{Agrees}
use Rattle.certificate_laws.specs.Fitting.{Fits, IsKept}
use Rattle.certificate_data.specs.Tree.{Leaf, stuck, seats, bound, Allowance, room, weigh, Tree, leaf, branch, Takes, no_take, take, groups_of}
use Rattle.certificate_laws.specs.BoundLines.{weight_of, allowance, IsFair, Bounds}
use Rattle.certificate_laws.specs.Leaves.{IsStuck, IsOffSeats, IsValidLeaf}
use Rattle.certificate_laws.specs.Proving.{CanBranch, Proves, EachProves}
use Rattle.certificate_laws.specs.Groups.{IsGroupAt, AreGroupsAt, IsSetAt}
use Rattle.certificate_laws.specs.Marks.{MarkedState, IsMarkedState, none_marked, close_group, mark, AgreesAbove, IsMarkedStuck, IsMarkedOff, rest_allowance, IsRestFair, RestBounds, IsMarkedLeaf, MarkedProves, EachMarkedProves, as_state, as_marked, PlainIsMarked}
use Rattle.certificate_laws.proofs.States.{same_state}
use Rattle.certificate_laws.proofs.WithoutGroup.{split_one}

and_true : (b : Bool) → (b && true) ≡ b
and_true true = refl
and_true false = refl

first_of : (region : ℕ → Bool) (c : ℕ) (order : List ℕ) → BeginsWith c (filter region order) → region c ≡ true
first_of region c [] b = absurd (nothing_begins c b.0 b.1)
  where
    nothing_begins : (x : ℕ) (xs : List ℕ) → [] ≡ x ∷ xs → ⊥
    nothing_begins x xs e = cc
first_of region c (x ∷ xs) b = go (region x) refl b (first_of region c xs)
  where
    go : (d : Bool) → region x ≡ d → BeginsWith c (cond d (x ∷ filter region xs) (filter region xs)) → (BeginsWith c (filter region xs) → region c ≡ true) → region c ≡ true
    go true e h next = ap region (sym (head_same x c (filter region xs) h.0 h.1)) ∙ e
    go false e h next = next h

-- no bound leaf goes past the size after the limit
last_rest : (p : Problem) (limit : ℕ) (s : MarkedState) (wanted : ℕ → ℕ) (lines : List Allowance) (i left : ℕ) → RestBounds p limit s wanted i left lines → i ≤ limit + 1
last_rest p limit s wanted [] i left b = omega (arith, b)
last_rest p limit s wanted (line ∷ lines) i left b =
    ⊎_elim (λ r. omega (arith, last_rest p limit s wanted lines (i + 1) (left - i * rest_allowance p s i left line) r.1)) (λ r. omega (arith, r.0)) b.1

last_bound : (format : Format) (p : Problem) (limit : ℕ) (s : State) (wanted : ℕ → ℕ) (lines : List Allowance) (i used : ℕ) → Bounds format p limit s wanted i used lines → i ≤ limit + 1
last_bound format p limit s wanted [] i used b = omega (arith, b)
last_bound format p limit s wanted (line ∷ lines) i used b =
    ⊎_elim (λ r. omega (arith, last_bound format p limit s wanted lines (i + 1) (used + i * allowance p s i used line) r.1)) (λ r. omega (arith, r.0)) b.1

module _ (p : Problem) (limit : ℕ) (s : MarkedState) (is : IsMarkedState p limit s) where
  abbrev sized : State
  sized = as_state limit s

  apart : (c : ℕ) → s.marked c ≡ true → s.rest c ≡ false
  apart c e = go (s.rest c) refl
    where
      go : (b : Bool) → s.rest c ≡ b → b ≡ false
      go true k = absurd (omega (arith, is.once c, true_digit (s.marked c) e, true_digit (s.rest c) k, digit_one (contains p.counties c)))
      go false k = refl

  not_marked : (c : ℕ) → s.rest c ≡ true → s.marked c ≡ false
  not_marked c e = go (s.marked c) refl
    where
      go : (b : Bool) → s.marked c ≡ b → b ≡ false
      go true k = absurd (false≢true (sym (apart c k) ∙ e))
      go false k = refl

  -- the counties open to groups of any size through the limit are those of the rest
  region_one : (i : ℕ) → i ≤ limit → (c : ℕ) → open_to sized i c ≡ s.rest c
  region_one i small c = go (s.marked c) refl
    where
      go : (b : Bool) → s.marked c ≡ b → ((b || s.rest c) && nat_le (cond b (limit + 1) 0) i) ≡ s.rest c
      go true e = lt-leb (limit + 1) i (omega arith) ∙ sym (apart c e)
      go false e = ap (λ z. s.rest c && z) (le-leb 0 i (omega arith)) ∙ and_true (s.rest c)

  region_same : (i : ℕ) → i ≤ limit → open_to sized i ≡ s.rest
  region_same i small = fun_ext (region_one i small)

  fits_to : (g : List ℕ) → LawfulGroup p g → length g ≤ limit → Inside s.rest g → Fits Plain p sized g
  fits_to g lawful small inside = record { lawful = lawful; inside = subst (λ r. Inside r g) (sym (region_same (length g) small)) inside; kept = tt }

  fits_back : (g : List ℕ) → Fits Plain p sized g → length g ≤ limit → Inside s.rest g
  fits_back g f small = subst (λ r. Inside r g) (region_same (length g) small) f.inside

  same_allowance : (line : Allowance) (i left used : ℕ) → i ≤ limit → left ≡ length (listed p s.rest) - used → allowance p sized i used line ≡ rest_allowance p s i left line
  same_allowance room i left used b e = ap (λ r. (length (listed p r) - used) / i) (region_same i b) ∙ ap (λ z. z / i) (sym e)
  same_allowance (weigh q ws) i left used b e =
      ap (λ r. min ((length (listed p r) - used) / i) (sum_by (weight_of ws) (listed p r) / q)) (region_same i b)
      ∙ ap (λ z. min (z / i) (sum_by (weight_of ws) (listed p s.rest) / q)) (sym e)

  fair_to : (line : Allowance) (i : ℕ) → i ≤ limit → IsRestFair p s i line → IsFair Plain p sized i line
  fair_to room i b f = tt
  fair_to (weigh q ws) i b f = (f.0, f.1, λ g fits e. f.2 g fits.lawful e (fits_back g fits (omega (arith, e))))

  fair_from : (line : Allowance) (i : ℕ) → i ≤ limit → IsFair Plain p sized i line → IsRestFair p s i line
  fair_from room i b f = tt
  fair_from (weigh q ws) i b f = (f.0, f.1, λ g lawful e inside. f.2 g (fits_to g lawful (omega (arith, e)) inside) e)

  bounds_to : (wanted : ℕ → ℕ) (lines : List Allowance) (i left used : ℕ) → left ≡ length (listed p s.rest) - used → RestBounds p limit s wanted i left lines → Bounds Plain p limit sized wanted i used lines
  bounds_to wanted [] i left used e b = b
  bounds_to wanted (line ∷ lines) i left used e b = (fair_to line i within b.0, ⊎_elim (goes_on (bounds_to wanted lines (i + 1) (left - i * rest_allowance p s i left line) (used + i * allowance p sized i used line))) (λ r. inr (r.0, omega (arith, same, r.1), r.2)) b.1)
    where
      within : i ≤ limit
      within = ⊎_elim (λ r. omega (arith, last_rest p limit s wanted lines (i + 1) (left - i * rest_allowance p s i left line) r.1)) (λ r. r.0) b.1

      same : allowance p sized i used line ≡ rest_allowance p s i left line
      same = same_allowance line i left used within e

      goes_on : (left - i * rest_allowance p s i left line ≡ length (listed p s.rest) - (used + i * allowance p sized i used line) → RestBounds p limit s wanted (i + 1) (left - i * rest_allowance p s i left line) lines
          → Bounds Plain p limit sized wanted (i + 1) (used + i * allowance p sized i used line) lines)
          → (counts s.closed i + rest_allowance p s i left line ≡ wanted i) × RestBounds p limit s wanted (i + 1) (left - i * rest_allowance p s i left line) lines
          → ((counts s.closed i + allowance p sized i used line ≡ wanted i) × Bounds Plain p limit sized wanted (i + 1) (used + i * allowance p sized i used line) lines)
          ⊎ ((i ≤ limit) × (counts s.closed i + allowance p sized i used line < wanted i) × (lines ≡ []))
      goes_on next r = inl (omega (arith, same, r.0), next (omega (arith, e, ap (λ z. i * z) same)) r.1)

  bounds_from : (wanted : ℕ → ℕ) (lines : List Allowance) (i left used : ℕ) → left ≡ length (listed p s.rest) - used → Bounds Plain p limit sized wanted i used lines → RestBounds p limit s wanted i left lines
  bounds_from wanted [] i left used e b = b
  bounds_from wanted (line ∷ lines) i left used e b = (fair_from line i within b.0, ⊎_elim (goes_on (bounds_from wanted lines (i + 1) (left - i * rest_allowance p s i left line) (used + i * allowance p sized i used line))) (λ r. inr (r.0, omega (arith, same, r.1), r.2)) b.1)
    where
      within : i ≤ limit
      within = ⊎_elim (λ r. omega (arith, last_bound Plain p limit sized wanted lines (i + 1) (used + i * allowance p sized i used line) r.1)) (λ r. r.0) b.1

      same : allowance p sized i used line ≡ rest_allowance p s i left line
      same = same_allowance line i left used within e

      goes_on : (left - i * rest_allowance p s i left line ≡ length (listed p s.rest) - (used + i * allowance p sized i used line) → Bounds Plain p limit sized wanted (i + 1) (used + i * allowance p sized i used line) lines
          → RestBounds p limit s wanted (i + 1) (left - i * rest_allowance p s i left line) lines)
          → (counts s.closed i + allowance p sized i used line ≡ wanted i) × Bounds Plain p limit sized wanted (i + 1) (used + i * allowance p sized i used line) lines
          → ((counts s.closed i + rest_allowance p s i left line ≡ wanted i) × RestBounds p limit s wanted (i + 1) (left - i * rest_allowance p s i left line) lines)
          ⊎ ((i ≤ limit) × (counts s.closed i + rest_allowance p s i left line < wanted i) × (lines ≡ []))
      goes_on next r = inl (omega (arith, same, r.0), next (omega (arith, e, ap (λ z. i * z) same)) r.1)

  -- the new states are the same
  mark_same : (c : ℕ) → s.rest c ≡ true → as_state limit (mark c s) ≡ raise c limit sized
  mark_same c here = same_state (as_state limit (mark c s)) (raise c limit sized) refl (λ x. rest_one x (x == c) refl (s.marked x)) (λ x. least_one (x == c) (s.marked x))
    where
      rest_one : (x : ℕ) → (b : Bool) → (x == c) ≡ b → (a : Bool) → ((a || b) || (s.rest x && not b)) ≡ (a || s.rest x)
      rest_one x b e true = refl
      rest_one x true e false = sym (ap s.rest (eqb-true x c e) ∙ here)
      rest_one x false e false = and_true (s.rest x)

      least_one : (b a : Bool) → cond (a || b) (limit + 1) 0 ≡ cond b (limit + 1) (cond a (limit + 1) 0)
      least_one true true = refl
      least_one true false = refl
      least_one false true = refl
      least_one false false = refl

  close_same : (g : List ℕ) → Inside s.rest g → as_state limit (close_group g s) ≡ close g sized
  close_same g inside = same_state (as_state limit (close_group g s)) (close g sized) refl (λ x. rest_one x (s.marked x) refl (contains g x) refl) (λ x. least_one x (s.marked x) refl (contains g x) refl)
    where
      rest_one : (x : ℕ) → (a : Bool) → s.marked x ≡ a → (b : Bool) → contains g x ≡ b → (a || (s.rest x && not b)) ≡ ((a || s.rest x) && not b)
      rest_one x true e true m = absurd (false≢true (sym (apart x e) ∙ inside x m))
      rest_one x true e false m = refl
      rest_one x false e b m = refl

      least_one : (x : ℕ) → (a : Bool) → s.marked x ≡ a → (b : Bool) → contains g x ≡ b → cond a (limit + 1) 0 ≡ cond b 0 (cond a (limit + 1) 0)
      least_one x true e true m = absurd (false≢true (sym (apart x e) ∙ inside x m))
      least_one x false e true m = refl
      least_one x a e false m = refl

  mark_marked : (c : ℕ) → s.rest c ≡ true → IsMarkedState p limit (mark c s)
  mark_marked c here = record { once = λ x. omega (arith, is.once x, one x (x == c) refl (s.marked x) refl (s.rest x) refl); lawful = is.lawful; small = is.small }
    where
      one : (x : ℕ) → (b : Bool) → (x == c) ≡ b → (d : Bool) → s.marked x ≡ d → (e : Bool) → s.rest x ≡ e → indicator (d || b) + indicator (e && not b) ≡ indicator d + indicator e
      one x true k d l false r = absurd (false≢true (sym r ∙ (ap s.rest (eqb-true x c k) ∙ here)))
      one x true k true l true r = absurd (false≢true (sym (apart x l) ∙ r))
      one x true k false l true r = refl
      one x false k true l true r = refl
      one x false k true l false r = refl
      one x false k false l true r = refl
      one x false k false l false r = refl

  close_marked : (g : List ℕ) → LawfulGroup p g → length g ≤ limit → Inside s.rest g → IsMarkedState p limit (close_group g s)
  close_marked g lawful small inside = record {
    once = λ x. omega (arith, is.once x, split_one s.rest g lawful.once inside x, sum_by-append (count x) s.closed (g ∷ []));
    lawful = All-push (LawfulGroup p) s.closed g is.lawful lawful;
    small = All-push (λ k. length k ≤ limit) s.closed g is.small small;
  }

  stuck_to : (county : ℕ) → IsMarkedStuck p limit s county → IsStuck p sized county
  stuck_to county v = record { part = v.part; is_part = v.is_part; around = v.around; cannot_fill = ⊎_elim (λ h. inl h) (λ h. inr (h.0, h.1, above (length v.part) h.0 h.2 h.3)) v.wrong }
    where
      above : (n c : ℕ) → s.marked c ≡ true → n ≤ limit → n < cond (s.marked c) (limit + 1) 0
      above n c e l = rw e (omega arith)

  stuck_from : (county : ℕ) → IsStuck p sized county → IsMarkedStuck p limit s county
  stuck_from county v = record { part = v.part; is_part = v.is_part; around = v.around; wrong = ⊎_elim (λ h. inl h) (λ h. go h.0 h.1 h.2 (s.marked h.0) refl) v.cannot_fill }
    where
      Wrong : Type 0
      Wrong = ((k : ℕ) → Suits p (people_of p v.part) k → ⊥) ⊎ ((c : ℕ) × (contains v.part c ≡ true) × (s.marked c ≡ true) × (length v.part ≤ limit))

      go : (c : ℕ) → contains v.part c ≡ true → length v.part < cond (s.marked c) (limit + 1) 0 → (b : Bool) → s.marked c ≡ b → Wrong
      go c m l true e = inr (c, m, e, omega (arith, l, ap (λ z. cond z (limit + 1) 0) e))
      go c m l false e = absurd (omega (arith, l, ap (λ z. cond z (limit + 1) 0) e))

  seats_to : IsMarkedOff p s → IsOffSeats p sized
  seats_to v = record { parts = v.parts; are_parts = v.are_parts; ranges = v.ranges; off = v.off }

  seats_from : IsOffSeats p sized → IsMarkedOff p s
  seats_from v = record { parts = v.parts; are_parts = v.are_parts; ranges = v.ranges; off = v.off }

-- a round read in the plain format
abbrev plainly : Round → Round
plainly round = record round { format = Plain }

plain_round_same : (round : Round) → round.format ≡ Plain → plainly round ≡ round
plain_round_same round e = ap (λ (l : Format). record round { format = l }) (sym e)

module _ (p : Problem) (round : Round) (s : MarkedState) (is : IsMarkedState p round.limit s) where
  leaf_to : (l : Leaf) → IsMarkedLeaf p round s l → IsValidLeaf p (plainly round) (as_state round.limit s) l
  leaf_to (stuck county) v = stuck_to p round.limit s is county v
  leaf_to seats v = seats_to p round.limit s is v
  leaf_to (bound lines) v = (v.0, v.1, bounds_to p round.limit s is (counts (sets_of v.0)) lines 1 (length (listed p s.rest)) 0 (omega arith) v.2)

  leaf_from : (l : Leaf) → IsValidLeaf p (plainly round) (as_state round.limit s) l → IsMarkedLeaf p round s l
  leaf_from (stuck county) v = stuck_from p round.limit s is county v
  leaf_from seats v = seats_from p round.limit s is v
  leaf_from (bound lines) v = (v.0, v.1, bounds_from p round.limit s is (counts (sets_of v.0)) lines 1 (length (listed p s.rest)) 0 (omega arith) v.2)

  module _ (c : ℕ) (first : BeginsWith c (filter s.rest round.order)) where
    group_to : (g : List ℕ) → IsGroupFrom p round.order round.limit c s.rest g → IsGroupAt p (plainly round) (as_state round.limit s) c round.limit g
    group_to g f = record {
      fits = fits_to p round.limit s is g f.lawful f.small f.inside;
      in_order = f.in_order;
      has = rw f.first.1 (member_head c f.first.0);
      small = f.small;
    }

    group_back : (g : List ℕ) → IsGroupAt p (plainly round) (as_state round.limit s) c round.limit g → IsGroupFrom p round.order round.limit c s.rest g
    group_back g f = record {
      lawful = f.fits.lawful;
      in_order = f.in_order;
      first = subst (BeginsWith c) f.in_order (begins s.rest (contains g) c round.order inner f.has first);
      small = f.small;
      inside = inner;
    }
      where
        inner : Inside s.rest g
        inner = fits_back p round.limit s is g f.fits f.small

    groups_to : (gs : List (List ℕ)) → AreGroupsFrom p round.order round.limit c s.rest gs → AreGroupsAt p (plainly round) (as_state round.limit s) c round.limit gs
    groups_to gs a = record { each = λ g. (λ h. group_to g ((a.each g).0 h), λ f. (a.each g).1 (group_back g f)); sorted = a.sorted }

    groups_back : (gs : List (List ℕ)) → AreGroupsAt p (plainly round) (as_state round.limit s) c round.limit gs → AreGroupsFrom p round.order round.limit c s.rest gs
    groups_back gs a = record { each = λ g. (λ h. group_back g ((a.each g).0 h), λ f. (a.each g).1 (group_to g f)); sorted = a.sorted }

    here : s.rest c ≡ true
    here = first_of s.rest c round.order first

    can_branch : CanBranch (plainly round) (as_state round.limit s) c round.limit
    can_branch = record {
      small = omega arith;
      is_open = region_one p round.limit s is round.limit (omega arith) c ∙ here;
      in_turn = (refl, subst (λ r. BeginsWith c (filter r round.order)) (sym (region_same p round.limit s is round.limit (omega arith))) first);
    }

  first_back : (c : ℕ) → CanBranch (plainly round) (as_state round.limit s) c round.limit → BeginsWith c (filter s.rest round.order)
  first_back c can = subst (λ r. BeginsWith c (filter r round.order)) (region_same p round.limit s is round.limit (omega arith)) (can.in_turn).1

mutual
  to_sized : (tree : Tree) (p : Problem) (round : Round) (s : MarkedState) → IsMarkedState p round.limit s → MarkedProves tree p round s → Proves tree p (plainly round) (as_state round.limit s)
  to_sized (leaf l) p round s is v = leaf_to p round s is l v
  to_sized (branch county (Some limit) takes raised) p round s is v = absurd (not_some limit v.0)
    where
      not_some : (limit : ℕ) → Some limit ≡ None → ⊥
      not_some limit e = cc
  to_sized (branch county None takes raised) p round s is v =
      let rest = here p round s is county v.1 in (
        tt,
        can_branch p round s is county v.1,
        groups_to p round s is county v.1 (groups_of takes) v.2,
        each_to takes p round s is (λ g h. let f = (v.2.each g).0 (contains_from_has (groups_of takes) g h) in (f.lawful, f.small, f.inside)) v.3,
        subst (Proves raised p (plainly round)) (mark_same p round.limit s is county rest) (to_sized raised p round (mark county s) (mark_marked p round.limit s is county rest) v.4),
      )

  each_to : (takes : Takes) (p : Problem) (round : Round) (s : MarkedState) → IsMarkedState p round.limit s → ((g : List ℕ) → Has (groups_of takes) g → LawfulGroup p g × (length g ≤ round.limit) × Inside s.rest g) → EachMarkedProves takes p round s
      → EachProves takes p (plainly round) (as_state round.limit s)
  each_to no_take p round s is from v = tt
  each_to (take codes tree others) p round s is from v =
      let f = from codes (inl refl) in (
        subst (Proves tree p (plainly round)) (close_same p round.limit s is codes f.2) (to_sized tree p round (close_group codes s) (close_marked p round.limit s is codes f.0 f.1 f.2) v.0),
        each_to others p round s is (λ g h. from g (inr h)) v.1,
      )

mutual
  to_marked : (tree : Tree) (p : Problem) (round : Round) (s : MarkedState) → IsMarkedState p round.limit s → Proves tree p (plainly round) (as_state round.limit s) → MarkedProves tree p round s
  to_marked (leaf l) p round s is v = leaf_from p round s is l v
  to_marked (branch county (Some limit) takes raised) p round s is v = absurd v.0
  to_marked (branch county None takes raised) p round s is v =
      let first = first_back p round s is county v.1 in
      let rest = here p round s is county first in
      let groups : AreGroupsFrom p round.order round.limit county s.rest (groups_of takes) = groups_back p round s is county first (groups_of takes) v.2 in (
        refl,
        first,
        groups,
        each_from takes p round s is (λ g h. let f = (groups.each g).0 (contains_from_has (groups_of takes) g h) in (f.lawful, f.small, f.inside)) v.3,
        to_marked raised p round (mark county s) (mark_marked p round.limit s is county rest) (subst (Proves raised p (plainly round)) (sym (mark_same p round.limit s is county rest)) v.4),
      )

  each_from : (takes : Takes) (p : Problem) (round : Round) (s : MarkedState) → IsMarkedState p round.limit s → ((g : List ℕ) → Has (groups_of takes) g → LawfulGroup p g × (length g ≤ round.limit) × Inside s.rest g) → EachProves takes p (plainly round) (as_state round.limit s)
      → EachMarkedProves takes p round s
  each_from no_take p round s is from v = tt
  each_from (take codes tree others) p round s is from v =
      let f = from codes (inl refl) in (
        to_marked tree p round (close_group codes s) (close_marked p round.limit s is codes f.0 f.1 f.2) (subst (Proves tree p (plainly round)) (sym (close_same p round.limit s is codes f.2)) v.0),
        each_from others p round s is (λ g h. from g (inr h)) v.1,
      )

agrees_to : (p : Problem) (limit : ℕ) (s : MarkedState) (g : Grouping) → IsMarkedState p limit s → Lawful p g → AgreesAbove limit s g → Agrees (as_state limit s) g
agrees_to p limit s g is lawful a = record { closed = a.closed; large = λ c e. go c (s.marked c) refl e }
  where
    go : (c : ℕ) → (b : Bool) → s.marked c ≡ b → (b || s.rest c) ≡ true → (m : Group) × Contains g m × (contains m.codes c ≡ true) × (cond b (limit + 1) 0 ≤ length m.codes)
    go c true e o = let r = a.marked c e in (r.0, r.1, r.2, omega (arith, r.3))
    go c false e o = let r = has_from_stands c g (omega (arith, lawful.once c, is.once c, true_digit (s.rest c) o)) in (r.0, contains_from_has g r.0 r.1, r.2, omega arith)

agrees_from : (limit : ℕ) (s : MarkedState) (g : Grouping) → Agrees (as_state limit s) g → AgreesAbove limit s g
agrees_from limit s g a = record { closed = a.closed; marked = λ c e. let r = a.large c (rw e refl) in (r.0, r.1, r.2, omega (arith, r.3, ap (λ z. cond z (limit + 1) 0) e)) }

states : (p : Problem) (round : Round) (s : MarkedState) → round.format ≡ Plain → IsMarkedState p round.limit s → IsState p round (as_state round.limit s)
states p round s e is = record {
  once = λ c. omega (arith, is.once c, one c (s.marked c) refl (s.rest c) refl);
  lawful = is.lawful;
  small = is.small;
  sizes = λ c. subst (λ l. IsLeastSize l round.limit (cond (s.marked c) (round.limit + 1) 0)) (sym e) (size (s.marked c));
  settled = λ c k. settle (s.marked c) (s.rest c) k;
}
  where
    one : (c : ℕ) → (a : Bool) → s.marked c ≡ a → (b : Bool) → s.rest c ≡ b → indicator (a || b) ≡ indicator a + indicator b
    one c true k true l = absurd (omega (arith, is.once c, true_digit (s.marked c) k, true_digit (s.rest c) l, digit_one (contains p.counties c)))
    one c true k false l = omega arith
    one c false k b l = omega arith

    size : (a : Bool) → (cond a (round.limit + 1) 0 ≡ 0) ⊎ (cond a (round.limit + 1) 0 ≡ round.limit + 1)
    size true = inr refl
    size false = inl refl

    settle : (a b : Bool) → (a || b) ≡ false → cond a (round.limit + 1) 0 ≡ 0
    settle true b k = absurd (false≢true (sym k))
    settle false b k = refl

marked_once : (p : Problem) (round : Round) (s : State) → IsState p round s → IsMarkedState p round.limit (as_marked round.limit s)
marked_once p round s is = record { once = λ c. omega (arith, is.once c, split (s.rest c) (nat_le (s.least c) round.limit)); lawful = is.lawful; small = is.small }
  where
    split : (r b : Bool) → indicator (r && not b) + indicator (r && b) ≡ indicator r
    split true true = refl
    split true false = refl
    split false b = refl

marked_back : (p : Problem) (round : Round) (s : State) → round.format ≡ Plain → IsState p round s → as_state round.limit (as_marked round.limit s) ≡ s
marked_back p round s e is = same_state (as_state round.limit (as_marked round.limit s)) s refl (λ c. rests (s.rest c) (nat_le (s.least c) round.limit)) (λ c. sizes c (s.rest c) refl (plain_size c))
  where
    rests : (r b : Bool) → ((r && not b) || (r && b)) ≡ r
    rests true true = refl
    rests true false = refl
    rests false b = refl

    plain_size : (c : ℕ) → (s.least c ≡ 0) ⊎ (s.least c ≡ round.limit + 1)
    plain_size c = subst (λ l. IsLeastSize l round.limit (s.least c)) e (is.sizes c)

    low : (n : ℕ) → n ≡ 0 → nat_le n round.limit ≡ true
    low n k = le-leb n round.limit (omega arith)

    high : (n : ℕ) → n ≡ round.limit + 1 → nat_le n round.limit ≡ false
    high n k = lt-leb n round.limit (omega arith)

    sizes : (c : ℕ) → (r : Bool) → s.rest c ≡ r → (s.least c ≡ 0) ⊎ (s.least c ≡ round.limit + 1) → cond (r && not (nat_le (s.least c) round.limit)) (round.limit + 1) 0 ≡ s.least c
    sizes c false k h = sym (is.settled c k)
    sizes c true k (inl h) = ap (λ b. cond (not b) (round.limit + 1) 0) (low (s.least c) h) ∙ sym h
    sizes c true k (inr h) = ap (λ b. cond (not b) (round.limit + 1) 0) (high (s.least c) h) ∙ sym h

-- fewer groups fit in a wide round
fits_plain : (format : Format) (p : Problem) (s : State) (g : List ℕ) → format ≡ Plain → Fits Wide p s g → Fits format p s g
fits_plain format p s g e f = record { lawful = f.lawful; inside = f.inside; kept = subst (λ l. IsKept l p s g) (sym e) tt }

wide_fair : (format : Format) (p : Problem) (s : State) (i : ℕ) (line : Allowance) → format ≡ Plain → IsFair format p s i line → IsFair Wide p s i line
wide_fair format p s i room e f = tt
wide_fair format p s i (weigh q ws) e f = (f.0, f.1, λ g fits k. f.2 g (fits_plain format p s g e fits) k)

wide_bounds : (format : Format) (p : Problem) (limit : ℕ) (s : State) (wanted : ℕ → ℕ) (i used : ℕ) (lines : List Allowance) → format ≡ Plain → Bounds format p limit s wanted i used lines → Bounds Wide p limit s wanted i used lines
wide_bounds format p limit s wanted i used [] e b = b
wide_bounds format p limit s wanted i used (line ∷ lines) e b =
    (wide_fair format p s i line e b.0, ⊎_elim (λ r. inl (r.0, wide_bounds format p limit s wanted (i + 1) (used + i * allowance p s i used line) lines e r.1)) (λ r. inr r) b.1)

leaf_widens : (p : Problem) (round : Round) (s : State) (l : Leaf) → round.format ≡ Plain → IsValidLeaf p round s l → IsValidLeaf p (record round { format = Wide }) s l
leaf_widens p round s (stuck county) e v = v
leaf_widens p round s seats e v = v
leaf_widens p round s (bound lines) e v = (v.0, v.1, wide_bounds round.format p round.limit s (counts (sets_of v.0)) 1 0 lines e v.2)

takes_same : (p : Problem) (round : Round) (s : State) (c : ℕ) (gs : List (List ℕ)) → round.format ≡ Plain → IsState p round s → BeginsWith c (filter (open_to s round.limit) round.order)
    → AreGroupsAt p round s c round.limit gs ↔ AreGroupsFrom p round.order round.limit c (open_to s round.limit) gs
takes_same p round s c gs e is first = (
  λ a. groups_back p round m marked c first gs (subst (λ z. AreGroupsAt p (plainly round) z c round.limit gs) (sym back) (subst (λ r. AreGroupsAt p r s c round.limit gs) (sym (plain_round_same round e)) a)),
  λ a. subst (λ r. AreGroupsAt p r s c round.limit gs) (plain_round_same round e) (subst (λ z. AreGroupsAt p (plainly round) z c round.limit gs) back (groups_to p round m marked c first gs a)),
)
  where
    m : MarkedState
    m = as_marked round.limit s

    marked : IsMarkedState p round.limit m
    marked = marked_once p round s is

    back : as_state round.limit m ≡ s
    back = marked_back p round s e is

sets_begin : (p : Problem) (order : List ℕ) (s : State) (c limit : ℕ) (g : List ℕ) → BeginsWith c (filter (open_to s limit) order) → IsSetAt p order s c limit g → IsSetFrom p order limit c g
sets_begin p order s c limit g first f = record { connected = f.connected; in_order = f.in_order; first = subst (BeginsWith c) f.in_order (begins (open_to s limit) (contains g) c order f.inside f.has first); small = f.small }

pub plain_is_marked : PlainIsMarked
plain_is_marked = record {
  states = states;
  back = λ p round s e is. (marked_once p round s is, marked_back p round s e is);
  empty = λ p limit. same_state (as_state limit (none_marked p)) (empty_state p) refl (λ c. refl) (λ c. refl);
  regions = λ p limit s is i small. region_same p limit s is i small;
  groupings = λ p limit s g is lawful. (agrees_to p limit s g is lawful, agrees_from limit s g);
  takes = takes_same;
  sets = sets_begin;
  leaves = λ p round s l e is. (
    λ v. subst (λ r. IsValidLeaf p r (as_state round.limit s) l) (plain_round_same round e) (leaf_to p round s is l v),
    λ v. leaf_from p round s is l (subst (λ r. IsValidLeaf p r (as_state round.limit s) l) (sym (plain_round_same round e)) v),
  );
  trees = λ p round s tree e is. (
    λ v. subst (λ r. Proves tree p r (as_state round.limit s)) (plain_round_same round e) (to_sized tree p round s is v),
    λ v. to_marked tree p round s is (subst (λ r. Proves tree p r (as_state round.limit s)) (sym (plain_round_same round e)) v),
  );
  widens = leaf_widens;
}
