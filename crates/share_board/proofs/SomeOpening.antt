-- A plain round opens at each of its states.
use Rattle.std.proofs.Common.{◌≡◌, ℕ, zero, suc, ◌+◌, ◌-◌, Bool, true, false, List, [], ◌∷◌, length, filter, refl, sym, ap, subst, arith, inl, inr, None}
use Rattle.std.proofs.lemmas.Bool.{and_parts, false≢true}
use Rattle.grouping_laws.specs.Sets.{contains}
use Rattle.grouping_laws.specs.Problem.{Problem, IsProblem}
use Rattle.grouping_laws.specs.GroupsFrom.{IsOrder, BeginsWith, IsBefore}
use Rattle.place_sets.proofs.Sums.{member_from_often}
use Rattle.grouping_laws.proofs.Digits.{true_digit}
use Rattle.grouping_laws.proofs.Elements.{Has, has_from_contains, contains_from_has}
use Rattle.grouping_laws.proofs.Parts.{has-filter}
use Rattle.grouping_laws.proofs.PlaceCodes.{member_has}
use Rattle.grouping_laws.proofs.PlaceProblem.{order_once}
use Rattle.certificate_data.specs.declared.format.Format.{Format}
use Rattle.certificate_data.specs.declared.format.Format.TheVariants.{Plain, Wide}
use Rattle.certificate_data.specs.Round.{Round}
use Rattle.certificate_laws.specs.State.{State, open_to, close, raise}
use Rattle.certificate_laws.specs.Groups.{IsGroupAt, AreGroupsAt}
use Rattle.certificate_laws.specs.Proving.{NamesLimit, GoesInOrder}
use Rattle.certificate_laws.proofs.Kept.{filter_has, filter_pairs}
use Rattle.certificate_laws.proofs.WithoutGroup.{without_in}
use Rattle.board_laws.specs.Skeleton.{Skeleton, waits, split, Parts, no_part, part, groups_in}
use Rattle.board_laws.specs.Content.{Opens, EachOpens}
use Rattle.share_board.proofs.SizedSets.{up_to, up_to_sorted, has_up_to}
use Rattle.share_board.proofs.Deciding.{Either, group_or}

-- the rest are counties of the problem
abbrev pub RestListed : Problem → State → Type 0
RestListed p s = (c : ℕ) → s.rest c ≡ true → contains p.counties c ≡ true

-- the test that goes by a decision
abbrev is_left : {X : Type 0} → Either X → Bool
is_left (inl x) = true
is_left (inr n) = false

left_true : {X : Type 0} (e : Either X) → is_left e ≡ true → X
left_true (inl x) h = x
left_true (inr n) h = absurd (false≢true h)

true_left : {X : Type 0} (e : Either X) → X → is_left e ≡ true
true_left (inl x) y = refl
true_left (inr n) y = absurd (n y)

no_limit : (format : Format) → format ≡ Plain → NamesLimit format None
no_limit Plain e = tt
no_limit Wide e = absurd (cc)

at_first : (format : Format) (round : Round) (s : State) (c : ℕ) → format ≡ Plain → BeginsWith c (filter (open_to s round.limit) round.order)
    → GoesInOrder format round s c round.limit
at_first Plain round s c e b = (refl, b)
at_first Wide round s c e b = absurd (cc)

module _ (p : Problem) (round : Round) (is : IsProblem p) (order : IsOrder p round.order) (plain : round.format ≡ Plain) where
  -- the groups at a county
  groups_exist : (s : State) (c limit : ℕ) → (groups : List (List ℕ)) × AreGroupsAt p round s c limit groups
  groups_exist s c limit =
      let keep = λ (g : List ℕ). is_left (group_or p round s is order plain c limit g) in
      let all = up_to limit round.order in (
        filter keep all,
        record {
          each = λ g. (
            λ h. left_true (group_or p round s is order plain c limit g) (has-filter keep all g (has_from_contains (filter keep all) g h)).1,
            λ f. contains_from_has (filter keep all) g (filter_has keep all g (among g f)
                (true_left (group_or p round s is order plain c limit g) f)),
          );
          sorted = filter_pairs (IsBefore round.order) keep all (up_to_sorted round.order (order_once p round.order order) limit);
        },
      )
    where
      among : (g : List ℕ) → IsGroupAt p round s c limit g → Has (up_to limit round.order) g
      among g f = subst (λ z. Has (up_to limit round.order) z) f.in_order
          (has_up_to limit (contains g) round.order (omega (arith, ap length f.in_order, f.small)))

  -- a skeleton with which the round opens, and parts
  pub record Opened (depth : ℕ) (s : State) (first : ℕ) : Type 0 where
    pub skeleton : Skeleton
    pub next : ℕ
    pub opens : Opens depth skeleton p round s first next

  record EachOpened (depth : ℕ) (s : State) (groups : List (List ℕ)) (first : ℕ) : Type 0 where
    pub parts : Parts
    pub next : ℕ
    pub groups_are : groups_in parts ≡ groups
    pub opens : EachOpens depth parts p round s first next

  listed_closed : (g : List ℕ) (s : State) → RestListed p s → RestListed p (close g s)
  listed_closed g s known = λ c e. known c (without_in g s.rest c e)

  each_opened : (depth : ℕ) (s : State) → ((t : State) (first : ℕ) → RestListed p t → Opened depth t first) → RestListed p s
      → (groups : List (List ℕ)) (first : ℕ) → EachOpened depth s groups first
  each_opened depth s opened known [] first = record { parts = no_part; next = first; groups_are = refl; opens = refl }
  each_opened depth s opened known (g ∷ groups) first =
      let one = opened (close g s) first (listed_closed g s known) in
      let others = each_opened depth s opened known groups one.next in
      record {
        parts = part g one.skeleton others.parts;
        next = others.next;
        groups_are = ap (λ z. g ∷ z) others.groups_are;
        opens = (one.next, one.opens, others.opens);
      }

  pub opened : (depth : ℕ) (s : State) (first : ℕ) → RestListed p s → Opened depth s first
  opened zero s first known = record { skeleton = waits first; next = first + 1; opens = (refl, refl, inl refl) }
  opened (suc depth) s first known = go (λ t n k. opened depth t n k) (filter (open_to s round.limit) round.order) refl
    where
      open_has : (c : ℕ) → open_to s round.limit c ≡ true → Has (filter (open_to s round.limit) round.order) c
      open_has c e =
          let county = known c (and_parts (s.rest c) _ e).0 in
          filter_has (open_to s round.limit) round.order c (member_has round.order c
          (member_from_often c round.order (omega (arith, order c, true_digit (contains p.counties c) county)))) e

      go : ((t : State) (n : ℕ) → RestListed p t → Opened depth t n) → (counties : List ℕ) → filter (open_to s round.limit) round.order ≡ counties
          → Opened (suc depth) s first
      go next [] e = record {
        skeleton = waits first;
        next = first + 1;
        opens = (refl, refl, inr (λ c o. absurd (subst (λ z. Has z c) e (open_has c o))));
      }
      go next (c ∷ counties) e =
          let groups = groups_exist s c round.limit in
          let less : depth ≡ suc depth - 1 = omega arith in
          let parts = each_opened depth s next known groups.0 first in
          let raised = next (raise c round.limit s) parts.next known in
          let is_open = (has-filter (open_to s round.limit) round.order c (subst (λ z. Has z c) (sym e) (inl refl))).1 in
          record {
            skeleton = split None c None parts.parts raised.skeleton;
            next = raised.next;
            opens = (
              refl,
              omega arith,
              no_limit round.format plain,
              record { small = omega arith; is_open = is_open; in_turn = at_first round.format round s c plain (counties, e) },
              subst (AreGroupsAt p round s c round.limit) (sym parts.groups_are) groups.1,
              (
                parts.next,
                subst (λ d. EachOpens d parts.parts p round s first parts.next) less parts.opens,
                subst (λ d. Opens d raised.skeleton p round (raise c round.limit s) parts.next raised.next) less raised.opens,
              ),
            );
          }
