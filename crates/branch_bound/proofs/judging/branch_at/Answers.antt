use Rattle.std.proofs.Common.{subst, All, Contains, ◌≡◌, ℕ, false}
use Rattle.branch_bound.specs.Searching.{search_state}
use Rattle.search_groups.proofs.NextMoves.{no_choice, choice_at}
use Rattle.branch_bound.proofs.judging.branch_at.Goals as goal

pub unreachable-requires : goal.unreachable-requires
unreachable-requires g c =
    let test = g.C.CountySet.test in
    no_choice g.row.C.Denot test g.C.CountySet.PLACES c.args.input.now c.requires.input c.requires.input.graph.order (search_state c.args.input.now test c.args.position.state) c.args.position c.requires.at c.requires.some
    (subst (λ z. All (λ set. (x : ℕ) → test set x ≡ false) z) c.deref.ensures.value (rw c.in-None.is at c.in_ok-place.ensures))

pub returns : goal.returns
returns g c =
    let test = g.C.CountySet.test in
    let found = rw c.in-Some.is at c.in_ok-place.ensures in (
      c.requires.at,
      choice_at g.row.C.Denot test g.C.CountySet.PLACES c.args.input.now c.requires.input c.requires.input.graph.order (search_state c.args.input.now test c.args.position.state) c.args.position c.requires.at c.in-Some.place
          found.0 (subst (λ z. Contains z found.0) c.deref.ensures.value found.1) found.2,
    )
