-- First gaps: a complete tree has none, there is at most one, and a tree without one is complete.
use Rattle.std.proofs.Common.{◌≡◌, ℕ, ◌+◌, Bool, true, false, List, [], ◌∷◌, refl, sym, ◌∙◌, ◌⊎◌, inl, inr}
use Rattle.std.proofs.lemmas.Bool.{false≢true}
use Rattle.grouping_laws.specs.Problem.{Problem}
use Rattle.certificate_data.specs.Round.{Round}
use Rattle.certificate_laws.specs.State.{State, close, raise}
use Rattle.certificate_data.specs.Tree.{Leaf, Tree, leaf, branch, Takes, no_take, take}
use Rattle.certificate_laws.specs.Proving.{limit_of}
use Rattle.checker_laws.specs.Lines.{tree_lines, takes_lines}
use Rattle.list_laws.specs.Ends.{leaf_ends}
use Rattle.list_laws.specs.Completeness.{IsFilled, IsCompleteLeaf, IsComplete, EachIsComplete}
use Rattle.list_laws.proofs.LeafEnds.{complete_filled, filled_complete, end_or_none}
use Rattle.list_groupings.specs.declared.gap.Gap.{Gap}
use Rattle.list_groupings.specs.declared.gap.Gap.TheVariants.{CountiesLeft, SeatsOff}
use Rattle.list_groupings.specs.Gaps.{IsGap, IsLeafGap, IsFirstGap, IsFirstGapIn}

two_ends : (x : List (List ℕ)) → [] ≡ x ∷ [] → ⊥
two_ends x e = cc

module _ (p : Problem) (round : Round) where
  filled_none : (s : State) (gap : Gap) → IsFilled p s → IsGap p s gap → ⊥
  filled_none s CountiesLeft f g = false≢true (sym (f.none_left g.0) ∙ g.1)
  filled_none s SeatsOff f g = g.1 f.seats_of_closed f.suit f.add_up

  leaf_none : (l : Leaf) (s : State) (gap : Gap) → IsCompleteLeaf l p round s → IsLeafGap l p round s gap → ⊥
  leaf_none l s gap c g = filled_none s gap (complete_filled p round s l c g.0) g.1

  mutual
    pub tree_none : (tree : Tree) (s : State) (line : ℕ) (gap : Gap) (at : ℕ) → IsComplete tree p round s → IsFirstGap tree p round s line gap at → ⊥
    tree_none (leaf l) s line gap at c g = leaf_none l s gap c g.0
    tree_none (branch county limit takes raised) s line gap at c (inl g) = takes_none takes s (line + 1) gap at c.0 g
    tree_none (branch county limit takes raised) s line gap at c (inr g) = tree_none raised (raise county (limit_of round limit) s) (line + 1 + takes_lines takes) gap at c.1 g.1

    takes_none : (takes : Takes) (s : State) (line : ℕ) (gap : Gap) (at : ℕ) → EachIsComplete takes p round s → IsFirstGapIn takes p round s line gap at → ⊥
    takes_none no_take s line gap at c g = absurd g
    takes_none (take codes tree others) s line gap at c (inl g) = tree_none tree (close codes s) (line + 1) gap at c.0 g
    takes_none (take codes tree others) s line gap at c (inr g) = takes_none others s (line + 1 + tree_lines tree) gap at c.1 g.1

  one_gap : (s : State) (a b : Gap) → IsGap p s a → IsGap p s b → a ≡ b
  one_gap s CountiesLeft CountiesLeft f g = refl
  one_gap s CountiesLeft SeatsOff f g = absurd (false≢true (sym (g.0 f.0) ∙ f.1))
  one_gap s SeatsOff CountiesLeft f g = absurd (false≢true (sym (f.0 g.0) ∙ g.1))
  one_gap s SeatsOff SeatsOff f g = refl

  leaf_one : (l : Leaf) (s : State) (a b : Gap) → IsLeafGap l p round s a → IsLeafGap l p round s b → a ≡ b
  leaf_one l s a b f g = one_gap s a b f.1 g.1

  mutual
    pub tree_one : (tree : Tree) (s : State) (line : ℕ) (a b : Gap) (m n : ℕ) → IsFirstGap tree p round s line a m → IsFirstGap tree p round s line b n → (a ≡ b) × (m ≡ n)
    tree_one (leaf l) s line a b m n f g = (leaf_one l s a b f.0 g.0, f.1 ∙ sym g.1)
    tree_one (branch county limit takes raised) s line a b m n (inl f) (inl g) = takes_one takes s (line + 1) a b m n f g
    tree_one (branch county limit takes raised) s line a b m n (inl f) (inr g) = absurd (takes_none takes s (line + 1) a m g.0 f)
    tree_one (branch county limit takes raised) s line a b m n (inr f) (inl g) = absurd (takes_none takes s (line + 1) b n f.0 g)
    tree_one (branch county limit takes raised) s line a b m n (inr f) (inr g) = tree_one raised (raise county (limit_of round limit) s) (line + 1 + takes_lines takes) a b m n f.1 g.1

    takes_one : (takes : Takes) (s : State) (line : ℕ) (a b : Gap) (m n : ℕ) → IsFirstGapIn takes p round s line a m → IsFirstGapIn takes p round s line b n → (a ≡ b) × (m ≡ n)
    takes_one no_take s line a b m n f g = absurd f
    takes_one (take codes tree others) s line a b m n (inl f) (inl g) = tree_one tree (close codes s) (line + 1) a b m n f g
    takes_one (take codes tree others) s line a b m n (inl f) (inr g) = absurd (tree_none tree (close codes s) (line + 1) a m g.0 f)
    takes_one (take codes tree others) s line a b m n (inr f) (inl g) = absurd (tree_none tree (close codes s) (line + 1) b n f.0 g)
    takes_one (take codes tree others) s line a b m n (inr f) (inr g) = takes_one others s (line + 1 + tree_lines tree) a b m n f.1 g.1

  -- it can't be that a state is neither filled nor has a gap
  leaf_some : (l : Leaf) (s : State) → ((gap : Gap) → IsLeafGap l p round s gap → ⊥) → (IsCompleteLeaf l p round s → ⊥) → ⊥
  leaf_some l s none refuse = go (end_or_none p round s l)
    where
      no_rest : leaf_ends l p round s ≡ s.closed ∷ [] → (c : ℕ) → s.rest c ≡ false
      no_rest e c = each (s.rest c) refl
        where
          each : (b : Bool) → s.rest c ≡ b → s.rest c ≡ false
          each false f = f
          each true f = absurd (none CountiesLeft (e, (c, f)))

      go : (leaf_ends l p round s ≡ s.closed ∷ []) ⊎ (leaf_ends l p round s ≡ []) → ⊥
      go (inl e) = none SeatsOff (e, (no_rest e, λ ks suit sum. refuse (filled_complete p round s l (λ _. record { none_left = no_rest e; seats_of_closed = ks; suit = suit; add_up = sum }))))
      go (inr e) = refuse (filled_complete p round s l (λ end. absurd (two_ends s.closed (sym e ∙ end))))

  mutual
    pub tree_some : (tree : Tree) (s : State) (line : ℕ) → ((gap : Gap) (at : ℕ) → IsFirstGap tree p round s line gap at → ⊥) → (IsComplete tree p round s → ⊥) → ⊥
    tree_some (leaf l) s line none refuse = leaf_some l s (λ gap g. none gap line (g, refl)) refuse
    tree_some (branch county limit takes raised) s line none refuse =
        takes_some takes s (line + 1) (λ gap at g. none gap at (inl g))
        (λ c. tree_some raised (raise county (limit_of round limit) s) (line + 1 + takes_lines takes) (λ gap at g. none gap at (inr (c, g))) (λ d. refuse (c, d)))

    takes_some : (takes : Takes) (s : State) (line : ℕ) → ((gap : Gap) (at : ℕ) → IsFirstGapIn takes p round s line gap at → ⊥) → (EachIsComplete takes p round s → ⊥) → ⊥
    takes_some no_take s line none refuse = refuse tt
    takes_some (take codes tree others) s line none refuse =
        tree_some tree (close codes s) (line + 1) (λ gap at g. none gap at (inl g))
        (λ c. takes_some others s (line + 1 + tree_lines tree) (λ gap at g. none gap at (inr (c, g))) (λ d. refuse (c, d)))
