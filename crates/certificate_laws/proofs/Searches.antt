-- A search ends with a proof tree or a greater grouping.
use Rattle.std.proofs.Common.{◌≡◌, ℕ, zero, suc, ◌≤◌, ◌<◌, List, [], ◌∷◌, ◌++◌, refl, sym, ap, subst, arith, ◌⊎◌, inl, inr, ⊎_elim, Option, Some, None}
use Rattle.grouping_laws.specs.Problem.{Problem, IsProblem}
use Rattle.grouping_laws.specs.Grouping.{Grouping, counts}
use Rattle.grouping_laws.specs.Ranges.{seated}
use Rattle.grouping_laws.proofs.Elements.{Has, contains_from_has}
use Rattle.grouping_laws.proofs.Ranges.{people_have_ranges}
use Rattle.grouping_laws.proofs.Seated.{seated_sets}
use Rattle.certificate_data.specs.declared.format.Format.{Format}
use Rattle.certificate_data.specs.declared.format.Format.TheVariants.{Plain, Wide}
use Rattle.certificate_data.specs.Round.{Round}
use Rattle.certificate_laws.specs.State.{State, IsState, close, raise}
use Rattle.certificate_laws.specs.Fitting.{NoGroupFits}
use Rattle.certificate_data.specs.Tree.{Leaf, leaf, branch, Takes, take, no_take, groups_of}
use Rattle.certificate_laws.specs.Leaves.{IsValidLeaf}
use Rattle.certificate_laws.specs.Proving.{limit_of, NamesLimit, EachProves, Proves, CanBranch, GoesInOrder}
use Rattle.certificate_laws.specs.Groups.{AreGroupsAt, IsGroupAt}
use Rattle.certificate_laws.specs.Certificate.{Beats}
use Rattle.certificate_laws.specs.Branching.{steps_left}
use Rattle.certificate_laws.specs.Search.{HasNoLeaf, IsFound, SearchEnd, SearchEnds}
use Rattle.certificate_laws.proofs.Completion.{rest_listed, open_least}
use Rattle.certificate_laws.proofs.Regions.{parts_exist}
use Rattle.certificate_laws.proofs.Branches.{branch_keeps_state}
use Rattle.certificate_laws.proofs.Ends.{finished_beats}

-- how a branch of that format names its limit
limit_named : (format : Format) (round : Round) (s : State) (c j : ℕ) → GoesInOrder format round s c j → (limit : Option ℕ) × NamesLimit format limit × (limit_of round limit ≡ j)
limit_named Plain round s c j turn = (None, tt, sym turn.0)
limit_named Wide round s c j turn = (Some j, tt, refl)

module _ (p : Problem) (round : Round) (is : IsProblem p)
    (find : (s : State) → IsState p round s → ((l : Leaf) × IsValidLeaf p round s l) ⊎ HasNoLeaf p round round.limit s)
    (choose : (s : State) → IsState p round s → ((c : ℕ) × (j : ℕ) × CanBranch round s c j) ⊎ NoGroupFits p round s)
    (groups : (s : State) (c j : ℕ) → IsState p round s → CanBranch round s c j → (gs : List (List ℕ)) × AreGroupsAt p round s c j gs) where
  finished : (s : State) → IsState p round s → HasNoLeaf p round round.limit s → NoGroupFits p round s → SearchEnd p round s
  finished s state no_leaf none =
      let ps = parts_exist p is s.rest (rest_listed p s state.once) in
      let r = finished_beats p round s ps.0 (people_have_ranges p is.some_people is.tolerated) state none no_leaf ps.1 in
      let all = r.all r.some.0 r.some.1 r.some.2 in
      inr (seated (s.closed ++ ps.0) r.some.0, (all.0, all.1, subst (λ z. Beats round.target (counts z)) (sym (seated_sets p (s.closed ++ ps.0) r.some.0 r.some.1)) all.2))

  each_take : (s : State) (c j : ℕ) → ((g : List ℕ) → IsGroupAt p round s c j g → SearchEnd p round (close g s)) → (gs : List (List ℕ)) → ((g : List ℕ) → Has gs g → IsGroupAt p round s c j g)
      → ((takes : Takes) × (groups_of takes ≡ gs) × EachProves takes p round s) ⊎ ((g : Grouping) × IsFound p round s g)
  each_take s c j next [] from = inl (no_take, refl, tt)
  each_take s c j next (g ∷ gs) from =
      ⊎_elim
      (λ t. ⊎_elim (λ ts. inl (take g t.0 ts.0, ap (λ z. g ∷ z) ts.1, (t.1, ts.2))) (λ h. inr h) (each_take s c j next gs (λ x h. from x (inr h))))
      (λ h. inr (h.0, (h.1.0, (branch_keeps_state).closed_agrees round.format p s g h.0 (from g (inl refl)).fits h.1.1, h.1.2)))
      (next g (from g (inl refl)))

  branching : (s : State) → IsState p round s → ((t : State) → steps_left p round.limit t < steps_left p round.limit s → IsState p round t → SearchEnd p round t) → (c j : ℕ) → CanBranch round s c j → SearchEnd p round s
  branching s state next c j can =
      let gs = groups s c j state can in
      let keep = branch_keeps_state in
      let named = limit_named round.format round s c j can.in_turn in
      let back : j ≡ limit_of round named.0 = sym named.2 in
      ⊎_elim
      (λ ts. ⊎_elim
      (λ m. inl (branch c named.0 ts.0 m.0, (named.1, subst (CanBranch round s c) back can, subst (λ k. AreGroupsAt p round s c k (groups_of ts.0)) back (subst (AreGroupsAt p round s c j) (sym ts.1) gs.1), ts.2, subst (λ k. Proves m.0 p round (raise c k s)) back m.1)))
      (λ h. inr (h.0, (h.1.0, keep.raised_agrees s c j h.0 (omega (arith, open_least s j c can.is_open)) h.1.1, h.1.2)))
      (next (raise c j s) (keep.raised_fewer p round s c j state can) (keep.raised_state p round s c j state can)))
      (λ h. inr h)
      (each_take s c j (λ g from. next (close g s) (keep.closed_fewer p round s c j g can from) (keep.closed_state p round s g state from.fits (omega (arith, from.small, can.small)))) gs.0 (λ g h. (gs.1.each g).0 (contains_from_has gs.0 g h)))

  step : (s : State) → IsState p round s → ((t : State) → steps_left p round.limit t < steps_left p round.limit s → IsState p round t → SearchEnd p round t) → SearchEnd p round s
  step s state next =
      ⊎_elim (λ l. inl (leaf l.0, l.1)) (λ no_leaf. ⊎_elim (λ r. branching s state next r.0 r.1 r.2) (finished s state no_leaf) (choose s state)) (find s state)

  search_from : (n : ℕ) (s : State) → steps_left p round.limit s ≤ n → IsState p round s → SearchEnd p round s
  search_from zero s few state = step s state (λ t l k. absurd (omega arith))
  search_from (suc n) s few state = step s state (λ t l k. search_from n t (omega arith) k)

  pub search_all : (s : State) → IsState p round s → SearchEnd p round s
  search_all s state = search_from (steps_left p round.limit s) s (omega arith) state

pub search_ends : SearchEnds
search_ends p round is find choose groups s state = search_all p round is find choose groups s state
