-- Where the closed groups are ahead of the target, no bound leaf is valid.
use Rattle.std.proofs.Common.{◌≡◌, ℕ, ◌+◌, ◌*◌, ◌≤◌, ◌<◌, List, [], ◌∷◌, sym, subst, arith, ⊎_elim, inl, inr, ◌⊎◌}
use Rattle.std.proofs.lemmas.Bool.{cases_lt}
use Rattle.grouping_laws.specs.Problem.{Problem}
use Rattle.grouping_laws.specs.Grouping.{counts, sets_of}
use Rattle.certificate_data.specs.declared.format.Format.{Format}
use Rattle.certificate_data.specs.Round.{Round}
use Rattle.certificate_laws.specs.State.{State}
use Rattle.certificate_data.specs.Tree.{Allowance}
use Rattle.certificate_laws.specs.BoundLines.{allowance, Bounds}
use Rattle.certificate_laws.specs.Leaves.{IsStuck, IsOffSeats}
use Rattle.certificate_laws.specs.Search.{HasNoLeaf}
use Rattle.search_groups.specs.Standing.{IsAhead, StandsAhead}

-- at each size up to the one at which there are more closed groups than wanted, lines keep neither below nor level
none_bounds : (format : Format) (p : Problem) (limit : ℕ) (s : State) (wanted : ℕ → ℕ) → (ahead : IsAhead wanted s limit) → (i used : ℕ) (lines : List Allowance) → 1 ≤ i → i ≤ ahead.size → Bounds format p limit s wanted i used lines → ⊥
none_bounds format p limit s wanted ahead i used [] some up b = omega (arith, ahead.small, up, b)
none_bounds format p limit s wanted ahead i used (line ∷ lines) some up b =
    go (λ l k. none_bounds format p limit s wanted ahead (i + 1) (used + i * more) lines (omega arith) (omega (arith, l)) k) (cases_lt i ahead.size)
  where
    more : ℕ
    more = allowance p s i used line

    go : (i < ahead.size → Bounds format p limit s wanted (i + 1) (used + i * more) lines → ⊥) → (i < ahead.size) ⊎ (ahead.size ≤ i) → ⊥
    go next (inl l) = ⊎_elim (λ r. next l r.1) (λ r. omega (arith, r.1, ahead.level i some l)) b.1
    go next (inr l) =
        let e : i ≡ ahead.size = omega (arith, l, up) in
        let over : wanted i < counts s.closed i = subst (λ z. wanted z < counts s.closed z) (sym e) ahead.more in
        ⊎_elim (λ r. omega (arith, r.0, over)) (λ r. omega (arith, r.1, over)) b.1

-- So no leaf is valid there, if no stuck and no seats leaf is.
pub no_leaf : (p : Problem) (round : Round) (s : State) (most : ℕ) → StandsAhead round s → ((c : ℕ) → IsStuck p s c → ⊥) → (IsOffSeats p s → ⊥) → HasNoLeaf p round most s
no_leaf p round s most ahead no_stuck no_seats = record {
  no_stuck = no_stuck;
  no_seats = no_seats;
  no_count = λ lines few are b. let a = ahead b.0 b.1 in none_bounds round.format p round.limit s (counts (sets_of b.0)) a 1 0 lines (omega arith) a.some b.2;
}
