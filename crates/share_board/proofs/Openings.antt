-- How the branches above the pieces are put together, from the pieces up.
use Rattle.std.proofs.Common.{◌≡◌, ◌≢◌, ℕ, ◌+◌, ◌-◌, ◌≤◌, ◌⊎◌, inl, inr, Bool, true, List, [], ◌∷◌, refl, sym, ap, ◌∙◌, subst, arith, Some, None}
use Rattle.grouping_laws.specs.Problem.{Problem}
use Rattle.certificate_data.specs.declared.format.Format.TheVariants.{Plain}
use Rattle.certificate_data.specs.Round.{Round}
use Rattle.certificate_laws.specs.State.{State, open_to, close, raise}
use Rattle.state_groups.specs.declared.state.State.{State as StateHeld}
use Rattle.certificate_laws.specs.Groups.{AreGroupsAt}
use Rattle.board_laws.specs.PartialTrees.{PartialTree, open_leaf, begun, PartialTakes, no_begun, take_begun}
use Rattle.certificate_laws.specs.Proving.{NamesLimit, CanBranch, limit_of}
use Rattle.certificate_laws.proofs.Decided.{leaves_are_decided}
use Rattle.board_laws.specs.Skeleton.{Skeleton, waits, proved, split, Parts, no_part, part, groups_in}
use Rattle.board_laws.specs.Standing.{StandsAt, StandsIn}
use Rattle.board_laws.specs.Content.{Opens, EachOpens}
use Rattle.share_board.specs.Replies.{most_opening, OpensWithMore}
use Rattle.share_board.specs.HeldSkeleton.{Shows, PartsShow}
use Rattle.share_board.specs.BoardValue.{IsPieceState}
use Rattle.share_board.specs.Openings.{IsOpened, AreOpened, EachOpensWithMore}
use Rattle.share_board.proofs.OneOpening.{opens_up, opens_up_in, opens_one, opens_one_in, one_county, at_limit}

module _ {C : Type 0} (test : C → ℕ → Bool) (p : Problem) (round : Round) where
  -- what was opened stays so where states are kept
  pub opened_kept : {depth : ℕ} {s : State} {tree : PartialTree} {first next : ℕ} {states : List (StateHeld C)} (news : List (StateHeld C)) → IsOpened test p round depth s tree first next states
      → ((k : ℕ) (t : State) → IsPieceState round.order test states k t → IsPieceState round.order test news k t) → IsOpened test p round depth s tree first next news
  opened_kept news o kept = record { skeleton = o.skeleton; opens = o.opens; places = o.places; shows = o.shows; stand = λ k t h. kept k t (o.stand k t h) }

  pub are_opened_kept : {depth : ℕ} {s : State} {groups : List (List ℕ)} {takes : PartialTakes} {first next : ℕ} {states : List (StateHeld C)} (news : List (StateHeld C)) → AreOpened test p round depth s groups takes first next states
      → ((k : ℕ) (t : State) → IsPieceState round.order test states k t → IsPieceState round.order test news k t) → AreOpened test p round depth s groups takes first next news
  are_opened_kept news o kept = record { parts = o.parts; groups_are = o.groups_are; opens = o.opens; places = o.places; shows = o.shows; stand = λ k t h. kept k t (o.stand k t h) }

  -- one piece
  pub piece_opened : (depth : ℕ) (s : State) (first : ℕ) (states : List (StateHeld C)) → (depth ≡ 0) ⊎ ((c : ℕ) → open_to s round.limit c ≢ true) → IsPieceState round.order test states first s
      → IsOpened test p round depth s open_leaf first (first + 1) states
  piece_opened depth s first states why kept = record {
    skeleton = waits (first + 1);
    opens = (refl, refl, why);
    places = refl;
    shows = λ fates all. (refl, refl, all first (omega arith) (omega arith));
    stand = λ k t h.
        let place : first ≡ k = omega (arith, h.0) in
        subst (λ z. IsPieceState round.order test states k z) (sym h.1) (subst (λ z. IsPieceState round.order test states z s) place kept);
  }

  -- no group
  pub none_opened : (depth : ℕ) (s : State) (first : ℕ) (states : List (StateHeld C)) → AreOpened test p round depth s [] no_begun first first states
  none_opened depth s first states = record { parts = no_part; groups_are = refl; opens = refl; places = omega arith; shows = λ fates all. refl; stand = λ k t h. absurd h }

  -- one group in front of others
  pub more_opened : (depth : ℕ) (s : State) (g : List ℕ) (groups : List (List ℕ)) (tree : PartialTree) (others : PartialTakes) (first between next : ℕ) (states : List (StateHeld C)) → IsOpened test p round depth (close g s) tree first between states
      → AreOpened test p round depth s groups others between next states → AreOpened test p round depth s (g ∷ groups) (take_begun g tree others) first next states
  more_opened depth s g groups tree others first between next states o a =
      let low = opens_up depth o.skeleton p round (close g s) (first + 1) (between + 1) o.opens in
      let high = opens_up_in depth a.parts p round s (between + 1) (next + 1) a.opens in
      record {
        parts = part g o.skeleton a.parts;
        groups_are = ap (λ z. g ∷ z) a.groups_are;
        opens = (between + 1, o.opens, a.opens);
        places = omega (arith, o.places, a.places);
        shows = λ fates all. (tree, others, refl, o.shows fates (λ k l h. all k l (omega (arith, h, high))), subst (λ z. PartsShow fates others z a.parts) o.places (a.shows fates (λ k l h. all k (omega (arith, l, low)) h)));
        stand = stand;
      }
    where
      stand : (k : ℕ) (t : State) → StandsAt o.skeleton round (close g s) (k + 1) t ⊎ StandsIn a.parts round s (k + 1) t → IsPieceState round.order test states k t
      stand k t (inl h) = o.stand k t h
      stand k t (inr h) = a.stand k t h

  -- a branch
  pub branch_opened : {depth : ℕ} {s : State} {county : ℕ} {groups : List (List ℕ)} {takes : PartialTakes} {raised : PartialTree} {first between next : ℕ} {states : List (StateHeld C)} → 1 ≤ depth → NamesLimit round.format None
      → CanBranch round s county round.limit → AreGroupsAt p round s county round.limit groups → AreOpened test p round (depth - 1) s groups takes first between states
      → IsOpened test p round (depth - 1) (raise county round.limit s) raised between next states → IsOpened test p round depth s (begun county None takes raised) first next states
  branch_opened {depth = depth} {s = s} {county = county} {groups = groups} {takes = takes} {raised = raised} {first = first} {between = between} {next = next} {states = states} some names can are a o =
      let low = opens_up_in (depth - 1) a.parts p round s (first + 1) (between + 1) a.opens in
      let high = opens_up (depth - 1) o.skeleton p round (raise county round.limit s) (between + 1) (next + 1) o.opens in
      record {
        skeleton = split None county None a.parts o.skeleton;
        opens = (refl, some, names, can, subst (AreGroupsAt p round s county round.limit) (sym a.groups_are) are, (between + 1, a.opens, o.opens));
        places = omega (arith, o.places, a.places);
        shows = λ fates all. (takes, raised, first, (refl, refl, refl), a.shows fates (λ k l h. all k l (omega (arith, h, high))), subst (λ z. Shows fates raised z o.skeleton) a.places (o.shows fates (λ k l h. all k (omega (arith, l, low)) h)));
        stand = stand;
      }
    where
      stand : (k : ℕ) (t : State) → StandsAt (split None county None a.parts o.skeleton) round s (k + 1) t → IsPieceState round.order test states k t
      stand k t (inl h) = let clash : None ≡ Some (k + 1) = h.0 in absurd (cc)
      stand k t (inr (inl h)) = a.stand k t h
      stand k t (inr (inr h)) = o.stand k t h

-- Too many pieces: at a piece, at a group, behind a group, and at both ends of a branch.
pub piece_more : (p : Problem) (round : Round) (depth : ℕ) (s : State) (first : ℕ) → most_opening ≤ first → OpensWithMore p round depth s first
piece_more p round depth s first full skeleton next o = omega (arith, full, opens_up depth skeleton p round s (first + 1) next o)

module _ (p : Problem) (round : Round) (plain : round.format ≡ Plain) where
  pub group_more : (depth : ℕ) (s : State) (g : List ℕ) (groups : List (List ℕ)) (first : ℕ) → OpensWithMore p round depth (close g s) first → EachOpensWithMore p round depth s (g ∷ groups) first
  group_more depth s g groups first more no_part next same o = absurd (cc)
  group_more depth s g groups first more (part d skeleton others) next same o =
      let codes : d ≡ g = cc in
      omega (arith, more skeleton o.0 (subst (λ z. Opens depth skeleton p round (close z s) (first + 1) o.0) codes o.1), opens_up_in depth others p round s o.0 next o.2)

  pub others_more : (depth : ℕ) (s : State) (g : List ℕ) (groups : List (List ℕ)) (first between : ℕ) (own : Skeleton) → Opens depth own p round (close g s) (first + 1) (between + 1) → EachOpensWithMore p round depth s groups between
      → EachOpensWithMore p round depth s (g ∷ groups) first
  others_more depth s g groups first between own opens more no_part next same o = absurd (cc)
  others_more depth s g groups first between own opens more (part d skeleton others) next same o =
      let codes : d ≡ g = cc in
      let tail : groups_in others ≡ groups = cc in
      let one : o.0 ≡ between + 1 = opens_one p round plain depth skeleton own (close g s) (first + 1) o.0 (between + 1) (subst (λ z. Opens depth skeleton p round (close z s) (first + 1) o.0) codes o.1) opens in
      more others next tail (subst (λ z. EachOpens depth others p round s z next) one o.2)

  -- what any skeleton has where the round branches
  pub record BranchesSo (depth : ℕ) (s : State) (county : ℕ) (groups : List (List ℕ)) (first next : ℕ) : Type 0 where
    pub parts : Parts
    pub later : Skeleton
    pub between : ℕ
    pub groups_are : groups_in parts ≡ groups
    pub each : EachOpens (depth - 1) parts p round s (first + 1) between
    pub rest : Opens (depth - 1) later p round (raise county round.limit s) between next

  pub branches_so : (depth : ℕ) (s : State) (county : ℕ) (groups : List (List ℕ)) (first next : ℕ) (skeleton : Skeleton) → 1 ≤ depth → NamesLimit round.format None → CanBranch round s county round.limit
      → AreGroupsAt p round s county round.limit groups → Opens depth skeleton p round s (first + 1) next → BranchesSo depth s county groups first next
  branches_so depth s county groups first next (waits n) some names can are (e, k, inl zero) = absurd (omega (arith, zero, some))
  branches_so depth s county groups first next (waits n) some names can are (e, k, inr none) = absurd (none county can.is_open)
  branches_so depth s county groups first next (proved n tree) some names can are o = absurd o
  branches_so depth s county groups first next (split n c l parts later) some names can are o =
      let same : c ≡ county = one_county p round plain s c county l None o.2 names o.3 can in
      let limit : limit_of round l ≡ round.limit = at_limit p round plain s c l o.2 in
      let own = subst (λ z. AreGroupsAt p round s county z (groups_in parts)) limit (subst (λ z. AreGroupsAt p round s z (limit_of round l) (groups_in parts)) same o.4) in
      record {
        parts = parts;
        later = later;
        between = o.5.0;
        groups_are = (leaves_are_decided).groups_at p round s county round.limit (groups_in parts) groups own are;
        each = o.5.1;
        rest = subst (λ z. Opens (depth - 1) later p round (raise county z s) o.5.0 next) limit (subst (λ z. Opens (depth - 1) later p round (raise z (limit_of round l) s) o.5.0 next) same o.5.2);
      }

  pub takes_more : (depth : ℕ) (s : State) (county : ℕ) (groups : List (List ℕ)) (first : ℕ) → 1 ≤ depth → NamesLimit round.format None → CanBranch round s county round.limit → AreGroupsAt p round s county round.limit groups
      → EachOpensWithMore p round (depth - 1) s groups first → OpensWithMore p round depth s first
  takes_more depth s county groups first some names can are more skeleton next o =
      let b = branches_so depth s county groups first next skeleton some names can are o in
      omega (arith, more b.parts b.between b.groups_are b.each, opens_up (depth - 1) b.later p round (raise county round.limit s) b.between next b.rest)

  pub raised_more : (depth : ℕ) (s : State) (county : ℕ) (groups : List (List ℕ)) (first between : ℕ) (own : Parts) → 1 ≤ depth → NamesLimit round.format None → CanBranch round s county round.limit
      → AreGroupsAt p round s county round.limit groups → groups_in own ≡ groups → EachOpens (depth - 1) own p round s (first + 1) (between + 1)
      → OpensWithMore p round (depth - 1) (raise county round.limit s) between → OpensWithMore p round depth s first
  raised_more depth s county groups first between own some names can are same opens more skeleton next o =
      let b = branches_so depth s county groups first next skeleton some names can are o in
      let one : b.between ≡ between + 1 = opens_one_in p round plain (depth - 1) b.parts own s (first + 1) b.between (between + 1) (b.groups_are ∙ sym same) b.each opens in
      more b.later next (subst (λ z. Opens (depth - 1) b.later p round (raise county round.limit s) z next) one b.rest)
