-- The pieces of a part stand at the states of its open leaves.
use Rattle.std.proofs.Common.{◌≡◌, ℕ, ◌+◌, ◌-◌, ◌<◌, inl, inr, List, ◌++◌, length, get_or, refl, sym, ap, ◌∙◌, arith}
use Rattle.std.proofs.lemmas.List.{length-append, get_or_append_left, get_or-append_right}
use Rattle.certificate_data.specs.Round.{Round}
use Rattle.certificate_laws.specs.State.{State, close, raise}
use Rattle.certificate_laws.specs.Proving.{limit_of}
use Rattle.board_laws.specs.Standing.{StandsAt, StandsIn}
use Rattle.board_laws.specs.PartialTrees.{PartialTree, open_leaf, whole, begun, PartialTakes, no_begun, take_begun, open_leaves, open_in, skeleton_from, begun_parts}
use Rattle.partial_trees.specs.OpenStates.{open_states, states_in}
use Rattle.partial_trees.specs.Laws.{PartsStand}

mutual
  number : (tree : PartialTree) (round : Round) (s : State) → length (open_states tree round s) ≡ open_leaves tree
  number open_leaf round s = refl
  number (whole tree) round s = refl
  number (begun county limit takes raised) round s =
      let later = raise county (limit_of round limit) s in
      omega (arith, length-append (states_in takes round s) (open_states raised round later), number_in takes round s, number raised round later)

  number_in : (takes : PartialTakes) (round : Round) (s : State) → length (states_in takes round s) ≡ open_in takes
  number_in no_begun round s = refl
  number_in (take_begun codes tree others) round s =
      omega (arith, length-append (open_states tree round (close codes s)) (states_in others round s), number tree round (close codes s), number_in others round s)

-- the state at a place of a list, and of two lists one behind the other
abbrev At : List State → ℕ → State → Type 0
At xs k t = (other : State) → get_or xs k other ≡ t

in_front : (xs ys : List State) (k : ℕ) (t : State) → k < length xs → At xs k t → At (xs ++ ys) k t
in_front xs ys k t lt at other = get_or_append_left xs ys other k lt ∙ at other

behind : (xs ys : List State) (n k : ℕ) (t : State) → length xs ≡ n → At ys k t → At (xs ++ ys) (n + k) t
behind xs ys n k t long at other =
    get_or-append_right xs ys n (n + k) other long (omega arith) ∙ ap (λ z. get_or ys z other) (back n k) ∙ at other
  where
    back : (n k : ℕ) → (n + k) - n ≡ k
    back n k = omega arith

mutual
  stands : (first n : ℕ) (tree : PartialTree) (round : Round) (s t : State) → StandsAt (skeleton_from first tree) round s n t
      → (k : ℕ) × (n ≡ first + k) × (k < open_leaves tree) × At (open_states tree round s) k t
  stands first n open_leaf round s t h = (0, omega (arith, h.0), omega arith, λ other. sym h.1)
  stands first n (whole tree) round s t h = absurd (cc (h.0))
  stands first n (begun county limit takes raised) round s t (inl h) = absurd (cc (h.0))
  stands first n (begun county limit takes raised) round s t (inr (inl h)) =
      let later = raise county (limit_of round limit) s in
      let r = stands_in first n takes round s t h in
      (r.0, r.1, omega (arith, r.2), in_front (states_in takes round s) (open_states raised round later) r.0 t (omega (arith, r.2, number_in takes round s)) r.3)
  stands first n (begun county limit takes raised) round s t (inr (inr h)) =
      let later = raise county (limit_of round limit) s in
      let r = stands (first + open_in takes) n raised round later t h in
      (open_in takes + r.0, omega (arith, r.1), omega (arith, r.2), behind (states_in takes round s) (open_states raised round later) (open_in takes) r.0 t (number_in takes round s) r.3)

  stands_in : (first n : ℕ) (takes : PartialTakes) (round : Round) (s t : State) → StandsIn (begun_parts first takes) round s n t
      → (k : ℕ) × (n ≡ first + k) × (k < open_in takes) × At (states_in takes round s) k t
  stands_in first n no_begun round s t h = absurd h
  stands_in first n (take_begun codes tree others) round s t (inl h) =
      let r = stands first n tree round (close codes s) t h in
      (r.0, r.1, omega (arith, r.2), in_front (open_states tree round (close codes s)) (states_in others round s) r.0 t (omega (arith, r.2, number tree round (close codes s))) r.3)
  stands_in first n (take_begun codes tree others) round s t (inr h) =
      let r = stands_in (first + open_leaves tree) n others round s t h in
      (open_leaves tree + r.0, omega (arith, r.1), omega (arith, r.2), behind (open_states tree round (close codes s)) (states_in others round s) (open_leaves tree) r.0 t (number tree round (close codes s)) r.3)

pub parts_stand : PartsStand
parts_stand = record { number = number; stands = stands }
