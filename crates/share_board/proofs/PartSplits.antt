-- A split at a county is the part of one branch, and why a part isn't taken.
use Rattle.std.proofs.Common.{◌≡◌, ℕ, zero, suc, ◌+◌, ◌<◌, ◌≤◌, Bool, List, [], ◌∷◌, ◌++◌, length, get_or, map, All, refl, sym, ap, ◌∙◌, subst, arith, ◌⊎◌, inl, inr, Some}
use Rattle.std.proofs.lemmas.Bool.{cases_lt}
use Rattle.std.proofs.lemmas.List.{length-append, length-map, get_or_append_left, get_or_push}
use Rattle.grouping_laws.specs.Problem.{Problem}
use Rattle.county_problem.specs.ProblemValue.{problem_of}
use Rattle.county_problem.specs.OrderedValue.{OrderedValue}
use Rattle.certificate_data.specs.declared.format.Format.TheVariants.{Wide}
use Rattle.certificate_data.specs.Round.{Round}
use Rattle.certificate_laws.specs.State.{State, empty_state, close, raise}
use Rattle.certificate_laws.specs.Groups.{AreGroupsAt}
use Rattle.certificate_laws.specs.Proving.{NamesLimit}
use Rattle.state_groups.specs.declared.state.State.{State as StateHeld}
use Rattle.state_groups.specs.PlacedValues.{state_at, IsPlaced}
use Rattle.board_laws.specs.Skeleton.{Skeleton, put}
use Rattle.board_laws.specs.Standing.{StandsAt}
use Rattle.certificate_data.specs.RoundValue.{round_of}
use Rattle.board_laws.specs.PartialTrees.{PartialTree, IsPart, open_leaves, open_takes, open_branch}
use Rattle.board_laws.specs.Content.{Content, Splits, Parted}
use Rattle.board_laws.proofs.PartialTrees.{open_groups, open_proves, open_number, open_skeleton}
use Rattle.partial_trees.specs.OpenStates.{open_states, states_in}
use Rattle.partial_trees.specs.Refusals.{IsPartProof, IsPartRefusal}
use Rattle.partial_trees.proofs.Standing.{parts_stand}
use Rattle.partial_trees.specs.declared.stop.PartStop.{PartStop}
use Rattle.partial_trees.specs.declared.stop.PartStop.TheVariants as stop
use Rattle.share_board.specs.declared.board.Board.{Board}
use Rattle.share_board.specs.declared.splitting.Pieces.{Pieces}
use Rattle.share_board.specs.BoardValue.{IsOf, IsPieceState, reply_of}
use Rattle.share_board.specs.Dividing.{MaySplit, MayPart, IsRefusedPart, part_refusal_of}
use Rattle.share_board.specs.declared.piece.Fate.TheVariants.{Waits}
use Rattle.share_board.specs.HeldSkeleton.{IsFateAt}
use Rattle.share_board.proofs.Spelling.{split_spelled, county_there}
use Rattle.share_board.proofs.Telling.{state_there, judged_there}

-- the states at the open leaves of one branch: where each group is closed, and where the county is raised
states_long : (groups : List (List ℕ)) (round : Round) (s : State) → length (states_in (open_takes groups) round s) ≡ length groups
states_long [] round s = refl
states_long (g ∷ groups) round s = omega (arith, states_long groups round s)

state_closed : (groups : List (List ℕ)) (round : Round) (s : State) (k : ℕ) (other : State) → k < length groups → get_or (states_in (open_takes groups) round s) k other ≡ close (get_or groups k []) s
state_closed [] round s k other lt = absurd (omega (arith, lt))
state_closed (g ∷ groups) round s zero other lt = refl
state_closed (g ∷ groups) round s (suc k) other lt = state_closed groups round s k other (omega (arith, lt))

module _ {C : Type 0} (test : C → ℕ → Bool) (board : Board C) (b : Content) (is : IsOf test board b) where
  -- what may be split may be given the part of one branch
  pub split_part : (at county limit : ℕ) (pieces : Pieces C) (s : State) → MaySplit test board b at county limit pieces s → limit ≤ 256 → MayPart test board b at (open_branch county limit pieces.groups.items) pieces.states.items s
  split_part at county limit pieces s may few = record {
    stands = may.stands;
    is_part = omega arith;
    proves = (
      split_spelled (problem_of board.problem) b.round s county limit groups is.spelled.codes may.wide (county_there (problem_of board.problem) b (at + 1) county limit s is.content may.stands may.can) may.some few may.groups,
      (
        subst (λ z. NamesLimit z (Some limit)) (sym may.wide) tt,
        may.can,
        subst (AreGroupsAt (problem_of board.problem) b.round s county limit) (sym (open_groups groups)) may.groups,
        open_proves groups (problem_of board.problem) b.round s,
        tt,
      ),
    );
    states_are = λ k t low there. go k t low there (cases_lt k (length groups));
  }
    where
      groups : List (List ℕ)
      groups = pieces.groups.items

      long : length (states_in (open_takes pieces.groups.items) b.round s) ≡ length pieces.groups.items
      long = states_long pieces.groups.items b.round s

      go : (k : ℕ) (t : State) → k < open_leaves (open_branch county limit pieces.groups.items) → ((other : State) → get_or (open_states (open_branch county limit pieces.groups.items) b.round s) k other ≡ t)
          → (k < length pieces.groups.items) ⊎ (length pieces.groups.items ≤ k) → IsPieceState board.round.order test pieces.states.items k t
      go k t low there (inl lt) =
          let state : close (get_or pieces.groups.items k []) s ≡ t =
          sym (state_closed pieces.groups.items b.round s k s lt) ∙ sym (get_or_append_left (states_in (open_takes pieces.groups.items) b.round s) (raise county limit s ∷ []) s k (omega (arith, lt, long))) ∙ there s in
          subst (IsPieceState board.round.order test pieces.states.items k) state (may.pieces_are.closed k lt)
      go k t low there (inr ge) =
          let last : length pieces.groups.items ≡ k = omega (arith, ge, low, open_number pieces.groups.items) in
          let state : raise county limit s ≡ t =
          sym (get_or_push (states_in (open_takes pieces.groups.items) b.round s) (raise county limit s) s k (omega (arith, last, long))) ∙ there s in
          subst (IsPieceState board.round.order test pieces.states.items k) state (subst (λ z. IsPieceState board.round.order test pieces.states.items z (raise county limit s)) last may.pieces_are.raised)

-- and what the part does is what the split does
pub part_split : (p : Problem) (b c : Content) (n county limit first many : ℕ) (groups : List (List ℕ)) → b.round.format ≡ Wide → 1 ≤ limit → Parted p b n (open_branch county limit groups) first many c → Splits p b n county limit first many c
part_split p b c n county limit first many groups wide some f = record {
  state = f.state;
  waits = f.waits;
  wide = wide;
  can = f.proves.1;
  some = some;
  groups = groups;
  are = subst (AreGroupsAt p b.round f.state county limit) (open_groups groups) f.proves.2;
  first_is = f.next;
  many_is = omega (arith, f.many_is, open_number groups);
  is = f.is ∙ ap (λ (z : Skeleton). record b { skeleton = put n z b.skeleton; last = b.last + many }) (sym (open_skeleton n county limit first groups));
}

-- states at the leaves, by the places of an order
pub state_at_leaf : {C : Type 0} (order : List ℕ) (test : C → ℕ → Bool) (states : List (StateHeld C)) (opens : List State) → All (IsPlaced (length order) test) states → map (state_at order test) states ≡ opens
    → (k : ℕ) (t : State) → k < length states → ((other : State) → get_or opens k other ≡ t) → IsPieceState order test states k t
state_at_leaf order test states opens all e k t low there = (
  low,
  λ other. (all k other low, sym (mapped states k other low) ∙ ap (λ z. get_or z k (state_at order test other)) e ∙ there (state_at order test other)),
)
  where
    mapped : (xs : List (StateHeld _)) (k : ℕ) (other : StateHeld _) → k < length xs → get_or (map (state_at order test) xs) k (state_at order test other) ≡ state_at order test (get_or xs k other)
    mapped [] k other lt = absurd (omega (arith, lt))
    mapped (x ∷ xs) zero other lt = refl
    mapped (x ∷ xs) (suc k) other lt = mapped xs k other (omega (arith, lt))

pub leaves_long : {C : Type 0} (order : List ℕ) (test : C → ℕ → Bool) (states : List (StateHeld C)) (tree : PartialTree) (round : Round) (s : State) → map (state_at order test) states ≡ open_states tree round s → length states ≡ open_leaves tree
leaves_long order test states tree round s e = omega (arith, length-map states (state_at order test), ap length e, (parts_stand).number tree round s)

module _ {C : Type 0} (test : C → ℕ → Bool) (board : Board C) (b : Content) (is : IsOf test board b) (tree : PartialTree) (at : ℕ) (held : StateHeld C) (s : State) (o : OrderedValue) (same : o ≡ record { problem = board.problem; order = board.round.order })
    (there : IsFateAt board.fates.items at Waits) (read : held ≡ get_or board.states.items at held) (stand : StandsAt b.skeleton b.round (empty_state (problem_of board.problem)) (at + 1) s) where
  judged : (P : Problem → Round → State → Type 0) → P (problem_of o.problem) (round_of board.round) (state_at o.order test held) → P (problem_of board.problem) b.round s
  judged P = judged_there test board b is P o (state_at o.order test held) s same (state_there test board b is o at held s same there read stand)

  -- what is judged in the order of a graph is so of the board's content
  pub part_may : (states : List (StateHeld C)) → IsPart tree → IsPartProof (problem_of o.problem) (round_of board.round) (state_at o.order test held) tree
      → map (state_at o.order test) states ≡ open_states tree (round_of board.round) (state_at o.order test held) → All (IsPlaced (length o.order) test) states → MayPart test board b at tree states s
  part_may states is_part proof opens placed = record {
    stands = stand;
    is_part = is_part;
    proves = judged (λ z round t. IsPartProof z round t tree) proof;
    states_are = λ k t low at_leaf. state_at_leaf board.round.order test states (open_states tree b.round s) (subst (λ (z : OrderedValue). All (IsPlaced (length z.order) test) states) same placed) here k t (omega (arith, low, leaves_long board.round.order test states tree b.round s here)) at_leaf;
  }
    where
      here : map (state_at board.round.order test) states ≡ open_states tree b.round s
      here = judged (λ z round t. map (state_at board.round.order test) states ≡ open_states tree round t) (subst (λ (z : OrderedValue). map (state_at z.order test) states ≡ open_states tree (round_of board.round) (state_at o.order test held)) same opens)

  pub part_may_not : (budget : ℕ) (why : PartStop) → IsPartRefusal (problem_of o.problem) budget (round_of board.round) (state_at o.order test held) tree why → IsPartRefusal (problem_of board.problem) budget b.round s tree why
  part_may_not budget why h = judged (λ z round t. IsPartRefusal z budget round t tree why) h

-- why a part isn't taken, as a reply
pub refused_part : {C : Type 0} (order : List ℕ) (test : C → ℕ → Bool) (p : Problem) (budget : ℕ) (round : Round) (s : State) (tree : PartialTree) (why : PartStop) → IsPartRefusal p budget round s tree why
    → IsRefusedPart p budget round s tree (reply_of order test (part_refusal_of why))
refused_part order test p budget round s tree stop.NotAProof h = inl (refl, h)
refused_part order test p budget round s tree stop.Budget h = inr (inl (refl, h))
refused_part order test p budget round s tree stop.Memory h = inr (inr refl)
