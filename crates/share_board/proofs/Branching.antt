-- The opening of a round, step by step: what each step leaves, and why one stops.
use Rattle.std.proofs.Common.{◌≡◌, ℕ, ◌+◌, ◌*◌, ◌-◌, ◌<◌, ◌≤◌, ◌⊎◌, Bool, List, [], ◌∷◌, ◌++◌, length, get_or, drop, refl, sym, ap, ◌∙◌, subst, arith, None}
use Rattle.std.proofs.lemmas.List.{length-append, drop_more, drop_all}
use Rattle.grouping_laws.specs.Problem.{Problem}
use Rattle.board_laws.specs.PartialTrees.{PartialTree, open_leaf, PartialTakes, no_begun, take_begun}
use Rattle.partial_trees.specs.PartialValue.{take_onto, list_of_begun}
use Rattle.partial_trees.specs.declared.tree.PartialTake.{PartialTake}
use Rattle.certificate_data.specs.declared.format.Format.{Format}
use Rattle.certificate_data.specs.declared.format.Format.TheVariants.{Plain, Wide}
use Rattle.certificate_data.specs.Round.{Round}
use Rattle.certificate_laws.specs.State.{State, empty_state, close, raise}
use Rattle.state_groups.specs.declared.state.State.{State as StateHeld}
use Rattle.certificate_laws.specs.Groups.{AreGroupsAt}
use Rattle.certificate_laws.specs.Proving.{NamesLimit, CanBranch}
use Rattle.state_groups.specs.PlacedValues.{state_at, codes_of_set, codes_of_sets, IsPlaced}
use Rattle.connected_sets.specs.declared.stop.Stop.{Stop}
use Rattle.connected_sets.specs.declared.stop.Stop.TheVariants as search
use Rattle.share_board.specs.OpeningStops.{opening_stop}
use Rattle.share_board.specs.declared.stop.OpeningStop.{OpeningStop}
use Rattle.share_board.specs.declared.stop.OpeningStop.TheVariants as stop
use Rattle.share_board.specs.Replies.{most_opening}
use Rattle.share_board.specs.BoardValue.{IsPieceState}
use Rattle.share_board.specs.Openings.{IsOpened, AreOpened, EachOpensWithMore, StatesAreKept, NoneIsOpen, IsBelowLine, IsHalted, AreHalted, IsOpeningStop}
use Rattle.share_board.proofs.Onto.{begun_onto_all, begun_more, begun_all}
use Rattle.share_board.proofs.Openings.{opened_kept, piece_opened, none_opened, more_opened, group_more, others_more, takes_more as takes_have_more, raised_more}
use Rattle.share_board.proofs.NewPieces.{state_pushed, state_last}

-- a branch of a plain round names no limit
pub plain_names : (format : Format) → format ≡ Plain → NamesLimit format None
plain_names Plain e = tt
plain_names Wide e = absurd (cc)

-- one more state behind others
pub pushed_kept : {C : Type 0} (order : List ℕ) (test : C → ℕ → Bool) (states news : List (StateHeld C)) (x : StateHeld C) → news ≡ states ++ x ∷ [] → StatesAreKept order test states news
pushed_kept order test states news x e k t h = subst (λ z. IsPieceState order test z k t) (sym e) (state_pushed order test states x (length states) k t refl h.0 h)

pub pushed_count : {X : Type 0} (states news : List X) (x : X) → news ≡ states ++ x ∷ [] → length news ≡ length states + 1
pushed_count states news x e = omega (arith, ap length e, length-append states (x ∷ []))

-- a piece behind the others
pub placed : {C : Type 0} (test : C → ℕ → Bool) (p : Problem) (round : Round) (order : List ℕ) (depth : ℕ) (states news : List (StateHeld C)) (x : StateHeld C) (tree : PartialTree) → order ≡ round.order → IsPlaced (length order) test x
    → (depth ≡ 0) ⊎ NoneIsOpen round (state_at order test x) → news ≡ states ++ x ∷ [] → tree ≡ open_leaf → IsOpened test p round depth (state_at order test x) tree (length states) (length news) news
placed test p round order depth states news x tree same is why e seat =
    let last = state_last order test states x (length states) (state_at order test x) refl is refl in
    let there = subst (λ z. IsPieceState order test z (length states) (state_at order test x)) (sym e) last in
    let kept = subst (λ z. IsPieceState z test news (length states) (state_at order test x)) same there in
    subst (λ z. IsOpened test p round depth (state_at order test x) z (length states) (length news) news) (sym seat)
    (subst (λ z. IsOpened test p round depth (state_at order test x) open_leaf (length states) z news) (sym (pushed_count states news x e))
    (piece_opened test p round depth (state_at order test x) (length states) news why kept))

-- why the opening stopped at a take, at the takes of a branch, and behind them
module _ (p : Problem) (round : Round) (plain : round.format ≡ Plain) (share depth : ℕ) (s : State) where
  pub take_halted : (g : List ℕ) (rest groups : List (List ℕ)) (first here : ℕ) (at : OpeningStop) → IsHalted p round share depth (close g s) here at → (EachOpensWithMore p round depth s (g ∷ rest) here → EachOpensWithMore p round depth s groups first)
      → AreHalted p round share depth s groups first at
  take_halted g rest groups first here stop.TooManyPieces h more = more (group_more p round plain depth s g rest here h)
  take_halted g rest groups first here stop.Budget h more = h.1
  take_halted g rest groups first here stop.Memory h more = tt

module _ {p : Problem} {round : Round} {s : State} {county : ℕ} {groups : List (List ℕ)} (plain : round.format ≡ Plain) (share depth first : ℕ) (some : 1 ≤ depth) (can : CanBranch round s county round.limit) (are : AreGroupsAt p round s county round.limit groups) where
  pub takes_halted : (at : OpeningStop) → AreHalted p round share (depth - 1) s groups first at → IsHalted p round share depth s first at
  takes_halted stop.TooManyPieces h = takes_have_more p round plain depth s county groups first some (plain_names round.format plain) can are h
  takes_halted stop.Budget h = (some, h)
  takes_halted stop.Memory h = tt

  pub raised_halted : {C : Type 0} {test : C → ℕ → Bool} {takes : PartialTakes} {between : ℕ} {states : List (StateHeld C)} (at : OpeningStop) → AreOpened test p round (depth - 1) s groups takes first between states
      → IsHalted p round share (depth - 1) (raise county round.limit s) between at → IsHalted p round share depth s first at
  raised_halted {between = between} stop.TooManyPieces a h = raised_more p round plain depth s county groups first between a.parts some (plain_names round.format plain) can are a.groups_are a.opens h
  raised_halted stop.Budget a h = (some, h.1)
  raised_halted stop.Memory a h = tt

-- why the whole didn't open
pub opening_halted : (p : Problem) (round : Round) (budget share depth : ℕ) (at : OpeningStop) → ((k : ℕ) → 1 ≤ depth → share < k → budget < k * (depth * (most_opening + 1))) → IsHalted p round share depth (empty_state p) 0 at → IsOpeningStop p depth budget round at
opening_halted p round budget share depth stop.TooManyPieces below h = h
opening_halted p round budget share depth stop.Budget below h = λ m many. below (3 * (m + 1)) h.0 (h.1 m many)
opening_halted p round budget share depth stop.Memory below h = tt

-- where the other groups have too many pieces all have
abbrev pub MoreOn : Problem → Round → ℕ → State → ℕ → List (List ℕ) → List (List ℕ) → ℕ → Type 0
MoreOn p round depth s first all rest here = EachOpensWithMore p round depth s rest here → EachOpensWithMore p round depth s all first

-- the takes so far: where the others open so do all
module _ {C : Type 0} (test : C → ℕ → Bool) (p : Problem) (round : Round) (depth : ℕ) (s : State) (first : ℕ) (all : List (List ℕ)) where
  abbrev pub OpenOn : List (List ℕ) → List PartialTake → List (StateHeld C) → Type 0
  OpenOn rest takes states = (others : PartialTakes) (next : ℕ) (news : List (StateHeld C)) → StatesAreKept round.order test states news → AreOpened test p round depth s rest others (length states) next news
      → AreOpened test p round depth s all (begun_onto_all takes others) first next news

  -- one more take
  pub open_more : (g : List ℕ) (rest : List (List ℕ)) (takes news : List PartialTake) (t : PartialTake) (tree : PartialTree) (states later : List (StateHeld C)) → ((others : PartialTakes) → take_onto t others ≡ take_begun g tree others) → news ≡ takes ++ t ∷ []
      → IsOpened test p round depth (close g s) tree (length states) (length later) later → StatesAreKept round.order test states later → OpenOn (g ∷ rest) takes states → OpenOn rest news later
  open_more g rest takes news t tree states later made pushed o kept on others next last still a =
      let whole = on (take_begun g tree others) next last (λ k u h. still k u (kept k u h)) (more_opened test p round depth s g rest tree others (length states) (length later) next last (opened_kept test p round last o still) a) in
      subst (λ z. AreOpened test p round depth s all z first next last) (ap (begun_onto_all takes) (sym (made others)) ∙ sym (begun_more takes t others) ∙ ap (λ (l : List PartialTake). begun_onto_all l others) (sym pushed)) whole

  pub more_more : (plain : round.format ≡ Plain) (g : List ℕ) (rest : List (List ℕ)) (tree : PartialTree) (states later : List (StateHeld C)) → IsOpened test p round depth (close g s) tree (length states) (length later) later
      → MoreOn p round depth s first all (g ∷ rest) (length states) → MoreOn p round depth s first all rest (length later)
  more_more plain g rest tree states later o on more = on (others_more p round plain depth s g rest (length states) (length later) o.skeleton o.opens more)

  -- all of them
  pub open_end : (takes : List PartialTake) (states : List (StateHeld C)) (rest : List (List ℕ)) → rest ≡ [] → OpenOn rest takes states → AreOpened test p round depth s all (list_of_begun takes) first (length states) states
  open_end takes states rest e on =
      subst (λ z. AreOpened test p round depth s all z first (length states) states) (begun_all takes)
      (on no_begun (length states) states (λ k t h. h) (subst (λ z. AreOpened test p round depth s z no_begun (length states) (length states) states) (sym e) (none_opened test p round depth s (length states) states)))

-- the groups that are left when one is read
pub left_sets : {C : Type 0} (order : List ℕ) (test : C → ℕ → Bool) (groups : List C) (i : ℕ) (x : C) → x ≡ get_or groups i x → i < length groups → codes_of_sets order test (drop i groups) ≡ codes_of_set order test x ∷ codes_of_sets order test (drop (i + 1) groups)
left_sets order test groups i x is lt = ap (codes_of_sets order test) (drop_more groups i x lt ∙ ap (λ z. z ∷ drop (i + 1) groups) (sym is))

pub no_sets_left : {C : Type 0} (order : List ℕ) (test : C → ℕ → Bool) (groups : List C) (i : ℕ) → length groups ≤ i → codes_of_sets order test (drop i groups) ≡ []
no_sets_left order test groups i h = ap (codes_of_sets order test) (drop_all i groups h)

-- why no branch was found, as an opening's stop
pub line_halted : (p : Problem) (round : Round) (share depth : ℕ) (s : State) (first : ℕ) (at : Stop) → 1 ≤ depth → (at ≡ search.StepLimit → IsBelowLine p round share) → IsHalted p round share depth s first (opening_stop at)
line_halted p round share depth s first search.StepLimit some below = (some, below refl)
line_halted p round share depth s first search.Memory some below = tt
