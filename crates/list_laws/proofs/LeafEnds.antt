-- What comes of a leaf, of whatever kind: it has the closed groups as an end, or none. It is complete if the state is
-- filled where it has an end.
use Rattle.std.proofs.Common.{◌≡◌, ℕ, Bool, true, false, cond, List, [], ◌∷◌, refl, ap, ◌⊎◌, inl, inr}
use Rattle.grouping_laws.specs.Problem.{Problem}
use Rattle.certificate_data.specs.Round.{Round}
use Rattle.certificate_laws.specs.State.{State}
use Rattle.certificate_data.specs.Tree.{Allowance, Leaf, stuck, seats, bound}
use Rattle.list_laws.specs.Ends.{wanted, falls_short, leaf_ends}
use Rattle.list_laws.specs.Completeness.{IsFilled, IsCompleteLeaf}

not_empty : (x : List (List ℕ)) → [] ≡ x ∷ [] → ⊥
not_empty x e = cc

end_short : (b : Bool) (x : List (List ℕ)) → cond b [] (x ∷ []) ≡ x ∷ [] → b ≡ false
end_short true x e = absurd (not_empty x e)
end_short false x e = refl

end_of : (b : Bool) (x : List (List ℕ)) → (cond b [] (x ∷ []) ≡ x ∷ []) ⊎ (cond b [] (x ∷ []) ≡ [])
end_of true x = inr refl
end_of false x = inl refl

module _ (p : Problem) (round : Round) (s : State) where
  pub complete_filled : (l : Leaf) → IsCompleteLeaf l p round s → leaf_ends l p round s ≡ s.closed ∷ [] → IsFilled p s
  complete_filled (stuck county) c e = absurd (not_empty s.closed e)
  complete_filled seats c e = absurd (not_empty s.closed e)
  complete_filled (bound lines) c e = c (end_short (falls_short p s (wanted round.target) 1 0 lines) s.closed e)

  pub filled_complete : (l : Leaf) → (leaf_ends l p round s ≡ s.closed ∷ [] → IsFilled p s) → IsCompleteLeaf l p round s
  filled_complete (stuck county) filled = tt
  filled_complete seats filled = tt
  filled_complete (bound lines) filled = λ e. filled (ap (λ (b : Bool). cond b [] (s.closed ∷ [])) e)

  pub end_or_none : (l : Leaf) → (leaf_ends l p round s ≡ s.closed ∷ []) ⊎ (leaf_ends l p round s ≡ [])
  end_or_none (stuck county) = inr refl
  end_or_none seats = inr refl
  end_or_none (bound lines) = end_of (falls_short p s (wanted round.target) 1 0 lines) s.closed

  -- a bound leaf has an end unless it falls short
  pub bound_end : (lines : List Allowance) → falls_short p s (wanted round.target) 1 0 lines ≡ false → leaf_ends (bound lines) p round s ≡ s.closed ∷ []
  bound_end lines e = ap (λ (b : Bool). cond b [] (s.closed ∷ [])) e
