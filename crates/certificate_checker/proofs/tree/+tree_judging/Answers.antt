use Rattle.std.proofs.Common.{ℕ, ◌≡◌, ◌∷◌, List, All, Some, length, Ok, Err, refl, sym, ◌∙◌, ap, subst, arith}
use Rattle.county_problem.specs.ProblemValue.{problem_of}
use Rattle.certificate_data.specs.RoundValue.{round_of}
use Rattle.certificate_lines.specs.Items.{taken}
use Rattle.state_groups.specs.PlacedValues.{state_at, codes_of_sets, IsClosable}
use Rattle.certificate_laws.specs.State.{close, raise}
use Rattle.certificate_checker.specs.Judging.{IsTakeStop, AreTakesListed}
use Rattle.checker_laws.specs.Branches.{IsNextTake}
use Rattle.checker_laws.specs.Work.{some_takes}
use Rattle.certificate_data.specs.Tree.{stuck, seats}
use Rattle.std.proofs.lemmas.Bool.{eqb-true, eq-eqb, false≢true}
use Rattle.certificate_lines.specs.declared.item.Item.TheVariants as item
use Rattle.certificate_checker.proofs.Trees.{branch_off, branch_stops, branch_on, stuck_left, seats_left, bound_left, tree_unread, leaf_fed}
use Rattle.certificate_checker.specs.Feeding.{stream_of, fed_by, Fed, IsFed, TookLine}
use Rattle.certificate_checker.proofs.Reaching.{fed_here, fed_twice, fed_through, counts_here, counts_on, reaches_here}
use Rattle.certificate_checker.proofs.Streams.{kept_reading}
use Rattle.certificate_lines.specs.ItemsLeft.{reading_by}
use Rattle.certificate_checker.proofs.Takes.{TakesLeft, takes_unread, take_stops, take_stop_fed, take_on, take_off, mark_on, mark_stops, sets_behind, none_left, some_left}
use Rattle.certificate_laws.specs.Groups.{IsGroupAt}
use Rattle.search_groups.specs.declared.position.Position.{Position}
use Rattle.certificate_checker.specs.Knowing.{IsKnownAt}
use Rattle.certificate_checker.proofs.KnownPlaces.{all_behind, all_sized, known_below}
use Rattle.certificate_checker.proofs.tree.+tree_judging.Goals as goal

pub judge_takes-returns-in-Err-judge_tree-clause-judged : goal.judge_takes-returns-in-Err-judge_tree-clause-judged
judge_takes-returns-in-Err-judge_tree-clause-judged g t c all sees takes rest more readable items =
    let t = c.in-Err-judge_tree.ensures.fed all sees in
    let n = c.in-Ok-Some.ensures.fed all t.0 in
    let i = c.taking.invariant.fed all n.0 in
    take_off c.args.input.now.round.now.format (problem_of c.args.input.now.graph.now.ordered.now.problem) (round_of c.args.input.now.round.now) (state_at c.args.input.now.graph.now.ordered.now.order g.C.CountySet.test c.args.state.now) (state_at c.args.input.now.graph.now.ordered.now.order g.C.CountySet.test c.in-Ok.closed) c.in-Ok-Some.codes (codes_of_sets c.args.input.now.graph.now.ordered.now.order g.C.CountySet.test c.taking.left.now) rest more (fed_by (stream_of g.S.ItemSource.left g.S.ItemSource.given c.args.feed.now c.args.from.now) all) (fed_by (stream_of g.S.ItemSource.left g.S.ItemSource.given c.taking.feed c.taking.from) all) (fed_by (stream_of g.S.ItemSource.left g.S.ItemSource.given c.next_take.new.feed c.next_take.new.from) all) (fed_by (stream_of g.S.ItemSource.left g.S.ItemSource.given c.judge_tree.new.feed c.judge_tree.new.from) all) _ c.in-Err-judge_tree.stop (c.taking.invariant.left all n.0 takes rest more readable items) (fed_twice _ _ _ i.1 n.1) (subst (λ o. TookLine (fed_by (stream_of g.S.ItemSource.left g.S.ItemSource.given c.taking.feed c.taking.from) all) (Ok (taken o)) (fed_by (stream_of g.S.ItemSource.left g.S.ItemSource.given c.next_take.new.feed c.next_take.new.from) all)) c.in-Ok-Some.field-0-is (c.in-Ok-Some.ensures.took all t.0)) (subst (IsNextTake (codes_of_sets c.args.input.now.graph.now.ordered.now.order g.C.CountySet.test c.taking.left.now)) c.as_slice.ensures c.in-Ok.ensures.taken.0) (c.in-Ok.ensures.taken.1 ∙ ap (λ z. close z (state_at c.args.input.now.graph.now.ordered.now.order g.C.CountySet.test c.args.state.now)) c.as_slice.ensures) (c.in-Err-judge_tree.ensures.judged all sees)

pub judge_takes-returns-in-Err-taken_state-clause-judged : goal.judge_takes-returns-in-Err-taken_state-clause-judged
judge_takes-returns-in-Err-taken_state-clause-judged g t c all sees takes rest more readable items =
    let n = c.in-Ok-Some.ensures.fed all sees in
    let i = c.taking.invariant.fed all n.0 in
    take_stops c.args.input.now.round.now.format (problem_of c.args.input.now.graph.now.ordered.now.problem) (round_of c.args.input.now.round.now) (state_at c.args.input.now.graph.now.ordered.now.order g.C.CountySet.test c.args.state.now) c.in-Ok-Some.codes (codes_of_sets c.args.input.now.graph.now.ordered.now.order g.C.CountySet.test c.taking.left.now) rest more (fed_by (stream_of g.S.ItemSource.left g.S.ItemSource.given c.args.feed.now c.args.from.now) all) (fed_by (stream_of g.S.ItemSource.left g.S.ItemSource.given c.taking.feed c.taking.from) all) (fed_by (stream_of g.S.ItemSource.left g.S.ItemSource.given c.next_take.new.feed c.next_take.new.from) all) _ c.in-Err-taken_state.stop (c.taking.invariant.left all n.0 takes rest more readable items) (subst (λ o. TookLine (fed_by (stream_of g.S.ItemSource.left g.S.ItemSource.given c.taking.feed c.taking.from) all) (Ok (taken o)) (fed_by (stream_of g.S.ItemSource.left g.S.ItemSource.given c.next_take.new.feed c.next_take.new.from) all)) c.in-Ok-Some.field-0-is (c.in-Ok-Some.ensures.took all sees)) (subst (λ z. IsTakeStop (codes_of_sets c.args.input.now.graph.now.ordered.now.order g.C.CountySet.test c.taking.left.now) z c.next_take.new.feed.line c.in-Err-taken_state.stop) c.as_slice.ensures c.in-Err-taken_state.ensures.taken)

pub judge_takes-closed_known-requires-clause-below : goal.judge_takes-closed_known-requires-clause-below
judge_takes-closed_known-requires-clause-below g t c k d h x holds = c.requires.placed.rest x ((c.taking.invariant.groups k d h).inside x holds)

pub judge_takes-taking-preserved : goal.judge_takes-taking-preserved
judge_takes-taking-preserved g t c =
    let behind_these = (sets_behind _ c.args.input.now.graph.now.ordered.now.order g.C.CountySet.test c.taking.left.now c.groups_behind-left.result.now c.in-Ok-Some.codes (subst (IsNextTake (codes_of_sets c.args.input.now.graph.now.ordered.now.order g.C.CountySet.test c.taking.left.now)) c.as_slice.ensures c.in-Ok.ensures.taken.0) c.groups_behind-left.ensures (IsClosable g.C.CountySet.test c.args.state.now) c.taking.invariant.groups) in
    record {
      counts = counts_on c.args.feed.now c.next_take.new.feed c.judge_tree.new.feed (counts_on c.args.feed.now c.taking.feed c.next_take.new.feed c.taking.invariant.counts c.in-Ok-Some.ensures.counts) c.in-Ok-judge_tree.ensures.counts;
      fed = λ all sees.
          let t = c.in-Ok-judge_tree.ensures.fed all sees in
          let n = c.in-Ok-Some.ensures.fed all t.0 in
          let i = c.taking.invariant.fed all n.0 in
          (i.0, fed_twice _ _ _ (fed_twice _ _ _ i.1 n.1) t.1);
      groups = behind_these.0;
      fits = λ at e.
          let Q : List ℕ → Type 0 = λ k. (x : ℕ) × IsGroupAt (problem_of c.args.input.now.graph.now.ordered.now.problem) (round_of c.args.input.now.round.now) (state_at c.args.input.now.graph.now.ordered.now.order g.C.CountySet.test c.args.state.now) x at.size k in
          subst (All Q) behind_these.1 (all_behind Q (codes_of_sets c.args.input.now.graph.now.ordered.now.order g.C.CountySet.test c.taking.left.now) (c.taking.invariant.fits at e));
      lists = c.in-Ok-judge_tree.ensures.lists;
      left = λ all sees takes rest more readable items.
          let t = c.in-Ok-judge_tree.ensures.fed all sees in
          let n = c.in-Ok-Some.ensures.fed all t.0 in
          let i = c.taking.invariant.fed all n.0 in
          subst (λ z. TakesLeft c.args.input.now.round.now.format (problem_of c.args.input.now.graph.now.ordered.now.problem) (round_of c.args.input.now.round.now) (state_at c.args.input.now.graph.now.ordered.now.order g.C.CountySet.test c.args.state.now) z rest more (fed_by (stream_of g.S.ItemSource.left g.S.ItemSource.given c.args.feed.now c.args.from.now) all) (fed_by (stream_of g.S.ItemSource.left g.S.ItemSource.given c.judge_tree.new.feed c.judge_tree.new.from) all) (some_takes takes (state_at c.args.input.now.graph.now.ordered.now.order g.C.CountySet.test c.args.state.now) (codes_of_sets c.args.input.now.graph.now.ordered.now.order g.C.CountySet.test c.args.groups.now) ∷ more)) behind_these.1
          (take_on c.args.input.now.round.now.format (problem_of c.args.input.now.graph.now.ordered.now.problem) (round_of c.args.input.now.round.now) (state_at c.args.input.now.graph.now.ordered.now.order g.C.CountySet.test c.args.state.now) (state_at c.args.input.now.graph.now.ordered.now.order g.C.CountySet.test c.in-Ok.closed) c.in-Ok-Some.codes (codes_of_sets c.args.input.now.graph.now.ordered.now.order g.C.CountySet.test c.taking.left.now) rest more (fed_by (stream_of g.S.ItemSource.left g.S.ItemSource.given c.args.feed.now c.args.from.now) all) (fed_by (stream_of g.S.ItemSource.left g.S.ItemSource.given c.taking.feed c.taking.from) all) (fed_by (stream_of g.S.ItemSource.left g.S.ItemSource.given c.next_take.new.feed c.next_take.new.from) all) (fed_by (stream_of g.S.ItemSource.left g.S.ItemSource.given c.judge_tree.new.feed c.judge_tree.new.from) all) _ c.in-Ok-judge_tree.field-0 (c.taking.invariant.left all n.0 takes rest more readable items) (subst (λ o. TookLine (fed_by (stream_of g.S.ItemSource.left g.S.ItemSource.given c.taking.feed c.taking.from) all) (Ok (taken o)) (fed_by (stream_of g.S.ItemSource.left g.S.ItemSource.given c.next_take.new.feed c.next_take.new.from) all)) c.in-Ok-Some.field-0-is (c.in-Ok-Some.ensures.took all t.0)) (subst (IsNextTake (codes_of_sets c.args.input.now.graph.now.ordered.now.order g.C.CountySet.test c.taking.left.now)) c.as_slice.ensures c.in-Ok.ensures.taken.0) (c.in-Ok.ensures.taken.1 ∙ ap (λ z. close z (state_at c.args.input.now.graph.now.ordered.now.order g.C.CountySet.test c.args.state.now)) c.as_slice.ensures) (c.in-Ok-judge_tree.ensures.judged all sees));
    }

pub judge_takes-returns-in-Err-clause-judged : goal.judge_takes-returns-in-Err-clause-judged
judge_takes-returns-in-Err-clause-judged g t c all sees takes rest more readable items =
    let n = c.in-Err.ensures.fed all sees in
    let i = c.taking.invariant.fed all n.0 in
    takes_unread c.args.input.now.round.now.format (problem_of c.args.input.now.graph.now.ordered.now.problem) (round_of c.args.input.now.round.now) (state_at c.args.input.now.graph.now.ordered.now.order g.C.CountySet.test c.args.state.now) (codes_of_sets c.args.input.now.graph.now.ordered.now.order g.C.CountySet.test c.taking.left.now) rest more (fed_by (stream_of g.S.ItemSource.left g.S.ItemSource.given c.args.feed.now c.args.from.now) all) (fed_by (stream_of g.S.ItemSource.left g.S.ItemSource.given c.taking.feed c.taking.from) all) (fed_by (stream_of g.S.ItemSource.left g.S.ItemSource.given c.next_take.new.feed c.next_take.new.from) all) _ c.in-Err.stop (c.taking.invariant.left all n.0 takes rest more readable items) i.1 (c.in-Err.ensures.took all sees)

pub judge_takes-returns-then-is_empty-clause-judged : goal.judge_takes-returns-then-is_empty-clause-judged
judge_takes-returns-then-is_empty-clause-judged g t c all sees takes rest more readable items =
    let n = c.in-Ok-None.ensures.fed all sees in
    let i = c.taking.invariant.fed all n.0 in
    mark_on c.args.input.now.round.now.format (problem_of c.args.input.now.graph.now.ordered.now.problem) (round_of c.args.input.now.round.now) (state_at c.args.input.now.graph.now.ordered.now.order g.C.CountySet.test c.args.state.now) (codes_of_sets c.args.input.now.graph.now.ordered.now.order g.C.CountySet.test c.taking.left.now) rest more (fed_by (stream_of g.S.ItemSource.left g.S.ItemSource.given c.args.feed.now c.args.from.now) all) (fed_by (stream_of g.S.ItemSource.left g.S.ItemSource.given c.taking.feed c.taking.from) all) (fed_by (stream_of g.S.ItemSource.left g.S.ItemSource.given c.next_take.new.feed c.next_take.new.from) all) _ (c.taking.invariant.left all n.0 takes rest more readable items) (subst (λ o. TookLine (fed_by (stream_of g.S.ItemSource.left g.S.ItemSource.given c.taking.feed c.taking.from) all) (Ok (taken o)) (fed_by (stream_of g.S.ItemSource.left g.S.ItemSource.given c.next_take.new.feed c.next_take.new.from) all)) c.in-Ok-None.field-0-is (c.in-Ok-None.ensures.took all sees)) (none_left _ c.args.input.now.graph.now.ordered.now.order g.C.CountySet.test c.taking.left.now (eqb-true (length c.taking.left.now) 0 (sym c.is_empty.ensures ∙ c.if-is_empty.true)))

pub judge_takes-returns-in-Ok-None-clause-judged : goal.judge_takes-returns-in-Ok-None-clause-judged
judge_takes-returns-in-Ok-None-clause-judged g t c all sees takes rest more readable items =
    let n = c.in-Ok-None.ensures.fed all sees in
    let i = c.taking.invariant.fed all n.0 in
    mark_stops c.args.input.now.round.now.format (problem_of c.args.input.now.graph.now.ordered.now.problem) (round_of c.args.input.now.round.now) (state_at c.args.input.now.graph.now.ordered.now.order g.C.CountySet.test c.args.state.now) (codes_of_sets c.args.input.now.graph.now.ordered.now.order g.C.CountySet.test c.taking.left.now) rest more (fed_by (stream_of g.S.ItemSource.left g.S.ItemSource.given c.args.feed.now c.args.from.now) all) (fed_by (stream_of g.S.ItemSource.left g.S.ItemSource.given c.taking.feed c.taking.from) all) (fed_by (stream_of g.S.ItemSource.left g.S.ItemSource.given c.next_take.new.feed c.next_take.new.from) all) _ (c.taking.invariant.left all n.0 takes rest more readable items) (subst (λ o. TookLine (fed_by (stream_of g.S.ItemSource.left g.S.ItemSource.given c.taking.feed c.taking.from) all) (Ok (taken o)) (fed_by (stream_of g.S.ItemSource.left g.S.ItemSource.given c.next_take.new.feed c.next_take.new.from) all)) c.in-Ok-None.field-0-is (c.in-Ok-None.ensures.took all sees)) (some_left _ c.args.input.now.graph.now.ordered.now.order g.C.CountySet.test c.taking.left.now (λ e. false≢true (sym c.if-is_empty.false ∙ c.is_empty.ensures ∙ eq-eqb (length c.taking.left.now) 0 e)))

pub judge_tree-returns-in-Err-judge_takes-clause-judged : goal.judge_tree-returns-in-Err-judge_takes-clause-judged
judge_tree-returns-in-Err-judge_takes-clause-judged g t c all sees tree rest more readable items =
    let t = c.in-Err-judge_takes.ensures.fed all sees in
    let n = c.in-Ok.ensures.fed all t.0 in
    let i = c.branching.invariant.fed all n.0 in
    branch_off (problem_of c.args.input.now.graph.now.ordered.now.problem) (round_of c.args.input.now.round.now) (state_at c.args.input.now.graph.now.ordered.now.order g.C.CountySet.test c.branching.state) c.in-Branch.county c.in-Branch.limit (codes_of_sets c.args.input.now.graph.now.ordered.now.order g.C.CountySet.test c.deref.result.now) rest more (fed_by (stream_of g.S.ItemSource.left g.S.ItemSource.given c.args.feed.now c.args.from.now) all) (fed_by (stream_of g.S.ItemSource.left g.S.ItemSource.given c.branching.feed c.branching.from) all) (fed_by (stream_of g.S.ItemSource.left g.S.ItemSource.given c.next_opening.new.feed c.next_opening.new.from) all) (fed_by (stream_of g.S.ItemSource.left g.S.ItemSource.given c.listed_groups.new.feed c.next_opening.new.from) all) (fed_by (stream_of g.S.ItemSource.left g.S.ItemSource.given c.judge_takes.new.feed c.judge_takes.new.from) all) _ c.in-Err-judge_takes.stop (c.branching.invariant.left all n.0 tree rest more readable items) (fed_twice _ _ _ (fed_twice _ _ _ i.1 n.1) (kept_reading g.S.ItemSource.left (g.S.ItemSource.given c.next_opening.new.from) all c.next_opening.new.feed c.listed_groups.new.feed c.in-Ok-listed_groups.ensures.same Fed c.in-Ok-listed_groups.ensures.fed)) (subst (λ o. TookLine (fed_by (stream_of g.S.ItemSource.left g.S.ItemSource.given c.branching.feed c.branching.from) all) (Ok (item.Opens o)) (fed_by (stream_of g.S.ItemSource.left g.S.ItemSource.given c.next_opening.new.feed c.next_opening.new.from) all)) c.in-Branch.is (c.in-Ok.ensures.took all t.0)) (subst (λ z. AreTakesListed (problem_of c.args.input.now.graph.now.ordered.now.problem) (round_of c.args.input.now.round.now) (state_at c.args.input.now.graph.now.ordered.now.order g.C.CountySet.test c.branching.state) c.in-Branch.county c.in-Branch.limit (codes_of_sets c.args.input.now.graph.now.ordered.now.order g.C.CountySet.test z) (fed_by (stream_of g.S.ItemSource.left g.S.ItemSource.given c.next_opening.new.feed c.next_opening.new.from) all) (fed_by (stream_of g.S.ItemSource.left g.S.ItemSource.given c.listed_groups.new.feed c.next_opening.new.from) all)) (sym c.deref.ensures.value) (kept_reading g.S.ItemSource.left (g.S.ItemSource.given c.next_opening.new.from) all c.next_opening.new.feed c.listed_groups.new.feed c.in-Ok-listed_groups.ensures.same (AreTakesListed (problem_of c.args.input.now.graph.now.ordered.now.problem) (round_of c.args.input.now.round.now) (state_at c.args.input.now.graph.now.ordered.now.order g.C.CountySet.test c.branching.state) c.in-Branch.county c.in-Branch.limit (codes_of_sets c.args.input.now.graph.now.ordered.now.order g.C.CountySet.test c.in-Ok-listed_groups.branching.groups.items)) c.in-Ok-listed_groups.ensures.judged)) (ap (λ s. reading_by (g.S.ItemSource.left s) (g.S.ItemSource.given c.next_opening.new.from) all) c.in-Ok-listed_groups.ensures.same) (c.in-Err-judge_takes.ensures.judged all sees)

pub judge_tree-returns-in-Err-listed_groups-clause-judged : goal.judge_tree-returns-in-Err-listed_groups-clause-judged
judge_tree-returns-in-Err-listed_groups-clause-judged g t c all sees tree rest more readable items =
    let n = c.in-Ok.ensures.fed all sees in
    let i = c.branching.invariant.fed all n.0 in
    branch_stops (problem_of c.args.input.now.graph.now.ordered.now.problem) (round_of c.args.input.now.round.now) (state_at c.args.input.now.graph.now.ordered.now.order g.C.CountySet.test c.branching.state) c.in-Branch.county c.in-Branch.limit rest more (fed_by (stream_of g.S.ItemSource.left g.S.ItemSource.given c.args.feed.now c.args.from.now) all) (fed_by (stream_of g.S.ItemSource.left g.S.ItemSource.given c.branching.feed c.branching.from) all) (fed_by (stream_of g.S.ItemSource.left g.S.ItemSource.given c.next_opening.new.feed c.next_opening.new.from) all) _ c.in-Err-listed_groups.stop (c.branching.invariant.left all n.0 tree rest more readable items) i.1 (subst (λ o. TookLine (fed_by (stream_of g.S.ItemSource.left g.S.ItemSource.given c.branching.feed c.branching.from) all) (Ok (item.Opens o)) (fed_by (stream_of g.S.ItemSource.left g.S.ItemSource.given c.next_opening.new.feed c.next_opening.new.from) all)) c.in-Branch.is (c.in-Ok.ensures.took all sees)) n.1.limit (c.in-Err-listed_groups.ensures.judged (reading_by (g.S.ItemSource.left c.next_opening.new.feed.source) (g.S.ItemSource.given c.next_opening.new.from) all))

pub judge_tree-branching-preserved : goal.judge_tree-branching-preserved
judge_tree-branching-preserved g t c = record {
  counts = counts_on c.args.feed.now c.listed_groups.new.feed c.judge_takes.new.feed (counts_on c.args.feed.now c.next_opening.new.feed c.listed_groups.new.feed (counts_on c.args.feed.now c.branching.feed c.next_opening.new.feed c.branching.invariant.counts c.in-Ok.ensures.counts) c.in-Ok-listed_groups.ensures.counts) c.in-Ok-judge_takes.ensures.counts;
  fed = λ all sees.
      let t = c.in-Ok-judge_takes.ensures.fed all sees in
      let n = c.in-Ok.ensures.fed all t.0 in
      let i = c.branching.invariant.fed all n.0 in
      (i.0, fed_twice _ _ _ (fed_twice _ _ _ (fed_twice _ _ _ i.1 n.1) (kept_reading g.S.ItemSource.left (g.S.ItemSource.given c.next_opening.new.from) all c.next_opening.new.feed c.listed_groups.new.feed c.in-Ok-listed_groups.ensures.same Fed c.in-Ok-listed_groups.ensures.fed)) t.1);
  placed = c.raise_place.ensures.placed;
  known = subst (λ z. IsKnownAt g.C.CountySet.test c.args.input.now z c.in-Ok-raised_known.raised) (sym c.raise_place.ensures.value) c.in-Ok-raised_known.ensures;
  lists = c.in-Ok-judge_takes.ensures.lists;
  left = λ all sees tree rest more readable items.
      let t = c.in-Ok-judge_takes.ensures.fed all sees in
      let n = c.in-Ok.ensures.fed all t.0 in
      let i = c.branching.invariant.fed all n.0 in
      branch_on (problem_of c.args.input.now.graph.now.ordered.now.problem) (round_of c.args.input.now.round.now) (state_at c.args.input.now.graph.now.ordered.now.order g.C.CountySet.test c.branching.state) (state_at c.args.input.now.graph.now.ordered.now.order g.C.CountySet.test c.raise_place.new.state) c.in-Branch.county c.in-Branch.limit (codes_of_sets c.args.input.now.graph.now.ordered.now.order g.C.CountySet.test c.deref.result.now) rest more (fed_by (stream_of g.S.ItemSource.left g.S.ItemSource.given c.args.feed.now c.args.from.now) all) (fed_by (stream_of g.S.ItemSource.left g.S.ItemSource.given c.branching.feed c.branching.from) all) (fed_by (stream_of g.S.ItemSource.left g.S.ItemSource.given c.next_opening.new.feed c.next_opening.new.from) all) (fed_by (stream_of g.S.ItemSource.left g.S.ItemSource.given c.listed_groups.new.feed c.next_opening.new.from) all) (fed_by (stream_of g.S.ItemSource.left g.S.ItemSource.given c.judge_takes.new.feed c.judge_takes.new.from) all) _ c.in-Ok-judge_takes.field-0 (c.branching.invariant.left all n.0 tree rest more readable items) (subst (λ o. TookLine (fed_by (stream_of g.S.ItemSource.left g.S.ItemSource.given c.branching.feed c.branching.from) all) (Ok (item.Opens o)) (fed_by (stream_of g.S.ItemSource.left g.S.ItemSource.given c.next_opening.new.feed c.next_opening.new.from) all)) c.in-Branch.is (c.in-Ok.ensures.took all t.0)) (subst (λ z. AreTakesListed (problem_of c.args.input.now.graph.now.ordered.now.problem) (round_of c.args.input.now.round.now) (state_at c.args.input.now.graph.now.ordered.now.order g.C.CountySet.test c.branching.state) c.in-Branch.county c.in-Branch.limit (codes_of_sets c.args.input.now.graph.now.ordered.now.order g.C.CountySet.test z) (fed_by (stream_of g.S.ItemSource.left g.S.ItemSource.given c.next_opening.new.feed c.next_opening.new.from) all) (fed_by (stream_of g.S.ItemSource.left g.S.ItemSource.given c.listed_groups.new.feed c.next_opening.new.from) all)) (sym c.deref.ensures.value) (kept_reading g.S.ItemSource.left (g.S.ItemSource.given c.next_opening.new.from) all c.next_opening.new.feed c.listed_groups.new.feed c.in-Ok-listed_groups.ensures.same (AreTakesListed (problem_of c.args.input.now.graph.now.ordered.now.problem) (round_of c.args.input.now.round.now) (state_at c.args.input.now.graph.now.ordered.now.order g.C.CountySet.test c.branching.state) c.in-Branch.county c.in-Branch.limit (codes_of_sets c.args.input.now.graph.now.ordered.now.order g.C.CountySet.test c.in-Ok-listed_groups.branching.groups.items)) c.in-Ok-listed_groups.ensures.judged)) (ap (λ s. reading_by (g.S.ItemSource.left s) (g.S.ItemSource.given c.next_opening.new.from) all) c.in-Ok-listed_groups.ensures.same)
      (c.raise_place.ensures.value ∙ ap (λ z. raise z c.in-Ok-listed_groups.branching.limit (state_at c.args.input.now.graph.now.ordered.now.order g.C.CountySet.test c.branching.state)) c.in-Ok-listed_groups.ensures.place.1 ∙ ap (λ z. raise c.in-Branch.county z (state_at c.args.input.now.graph.now.ordered.now.order g.C.CountySet.test c.branching.state)) c.in-Ok-listed_groups.ensures.size.0) (c.in-Ok-judge_takes.ensures.judged all sees);
}

pub judge_tree-returns-in-Stuck-clause-fed : goal.judge_tree-returns-in-Stuck-clause-fed
judge_tree-returns-in-Stuck-clause-fed g t c all sees =
    let n = c.in-Ok.ensures.fed all sees in
    let i = c.branching.invariant.fed all n.0 in
    (i.0, leaf_fed (problem_of c.args.input.now.graph.now.ordered.now.problem) (round_of c.args.input.now.round.now) (state_at c.args.input.now.graph.now.ordered.now.order g.C.CountySet.test c.branching.state) (stuck c.in-Stuck.county) (fed_by (stream_of g.S.ItemSource.left g.S.ItemSource.given c.args.feed.now c.args.from.now) all) (fed_by (stream_of g.S.ItemSource.left g.S.ItemSource.given c.next_opening.new.feed c.next_opening.new.from) all) c.judge_stuck_leaf.result (fed_twice _ _ _ i.1 n.1) (c.judge_stuck_leaf.ensures (fed_by (stream_of g.S.ItemSource.left g.S.ItemSource.given c.next_opening.new.feed c.next_opening.new.from) all) refl))

pub judge_tree-returns-in-Seats-clause-fed : goal.judge_tree-returns-in-Seats-clause-fed
judge_tree-returns-in-Seats-clause-fed g t c all sees =
    let n = c.in-Ok.ensures.fed all sees in
    let i = c.branching.invariant.fed all n.0 in
    (i.0, leaf_fed (problem_of c.args.input.now.graph.now.ordered.now.problem) (round_of c.args.input.now.round.now) (state_at c.args.input.now.graph.now.ordered.now.order g.C.CountySet.test c.branching.state) seats (fed_by (stream_of g.S.ItemSource.left g.S.ItemSource.given c.args.feed.now c.args.from.now) all) (fed_by (stream_of g.S.ItemSource.left g.S.ItemSource.given c.next_opening.new.feed c.next_opening.new.from) all) c.judge_seats_leaf.result (fed_twice _ _ _ i.1 n.1) (c.judge_seats_leaf.ensures (fed_by (stream_of g.S.ItemSource.left g.S.ItemSource.given c.next_opening.new.feed c.next_opening.new.from) all) refl))

pub judge_tree-returns-in-Stuck-clause-judged : goal.judge_tree-returns-in-Stuck-clause-judged
judge_tree-returns-in-Stuck-clause-judged g t c all sees tree rest more readable items =
    let n = c.in-Ok.ensures.fed all sees in
    let i = c.branching.invariant.fed all n.0 in
    stuck_left c.args.input.now.round.now.format (problem_of c.args.input.now.graph.now.ordered.now.problem) (round_of c.args.input.now.round.now) (state_at c.args.input.now.graph.now.ordered.now.order g.C.CountySet.test c.branching.state) c.in-Stuck.county rest more (fed_by (stream_of g.S.ItemSource.left g.S.ItemSource.given c.args.feed.now c.args.from.now) all) (fed_by (stream_of g.S.ItemSource.left g.S.ItemSource.given c.branching.feed c.branching.from) all) (fed_by (stream_of g.S.ItemSource.left g.S.ItemSource.given c.next_opening.new.feed c.next_opening.new.from) all) _ c.judge_stuck_leaf.result (c.branching.invariant.left all n.0 tree rest more readable items) i.1 (subst (λ o. TookLine (fed_by (stream_of g.S.ItemSource.left g.S.ItemSource.given c.branching.feed c.branching.from) all) (Ok (item.Opens o)) (fed_by (stream_of g.S.ItemSource.left g.S.ItemSource.given c.next_opening.new.feed c.next_opening.new.from) all)) c.in-Stuck.is (c.in-Ok.ensures.took all sees)) n.1.limit (c.judge_stuck_leaf.ensures (fed_by (stream_of g.S.ItemSource.left g.S.ItemSource.given c.next_opening.new.feed c.next_opening.new.from) all) refl)

pub judge_tree-returns-in-Seats-clause-judged : goal.judge_tree-returns-in-Seats-clause-judged
judge_tree-returns-in-Seats-clause-judged g t c all sees tree rest more readable items =
    let n = c.in-Ok.ensures.fed all sees in
    let i = c.branching.invariant.fed all n.0 in
    seats_left c.args.input.now.round.now.format (problem_of c.args.input.now.graph.now.ordered.now.problem) (round_of c.args.input.now.round.now) (state_at c.args.input.now.graph.now.ordered.now.order g.C.CountySet.test c.branching.state) rest more (fed_by (stream_of g.S.ItemSource.left g.S.ItemSource.given c.args.feed.now c.args.from.now) all) (fed_by (stream_of g.S.ItemSource.left g.S.ItemSource.given c.branching.feed c.branching.from) all) (fed_by (stream_of g.S.ItemSource.left g.S.ItemSource.given c.next_opening.new.feed c.next_opening.new.from) all) _ c.judge_seats_leaf.result (c.branching.invariant.left all n.0 tree rest more readable items) i.1 (subst (λ o. TookLine (fed_by (stream_of g.S.ItemSource.left g.S.ItemSource.given c.branching.feed c.branching.from) all) (Ok (item.Opens o)) (fed_by (stream_of g.S.ItemSource.left g.S.ItemSource.given c.next_opening.new.feed c.next_opening.new.from) all)) c.in-Seats.is (c.in-Ok.ensures.took all sees)) n.1.limit (c.judge_seats_leaf.ensures (fed_by (stream_of g.S.ItemSource.left g.S.ItemSource.given c.next_opening.new.feed c.next_opening.new.from) all) refl)

pub judge_tree-returns-in-Bound-clause-judged : goal.judge_tree-returns-in-Bound-clause-judged
judge_tree-returns-in-Bound-clause-judged g t c all sees tree rest more readable items =
    let t = c.judge_bound_leaf.ensures.fed all sees in
    let n = c.in-Ok.ensures.fed all t.0 in
    let i = c.branching.invariant.fed all n.0 in
    bound_left c.args.input.now.round.now.format (problem_of c.args.input.now.graph.now.ordered.now.problem) (round_of c.args.input.now.round.now) (state_at c.args.input.now.graph.now.ordered.now.order g.C.CountySet.test c.branching.state) c.in-Bound.count rest more (fed_by (stream_of g.S.ItemSource.left g.S.ItemSource.given c.args.feed.now c.args.from.now) all) (fed_by (stream_of g.S.ItemSource.left g.S.ItemSource.given c.branching.feed c.branching.from) all) (fed_by (stream_of g.S.ItemSource.left g.S.ItemSource.given c.next_opening.new.feed c.next_opening.new.from) all) (fed_by (stream_of g.S.ItemSource.left g.S.ItemSource.given c.judge_bound_leaf.new.feed c.judge_bound_leaf.new.from) all) _ c.judge_bound_leaf.result (c.branching.invariant.left all n.0 tree rest more readable items) i.1 (subst (λ o. TookLine (fed_by (stream_of g.S.ItemSource.left g.S.ItemSource.given c.branching.feed c.branching.from) all) (Ok (item.Opens o)) (fed_by (stream_of g.S.ItemSource.left g.S.ItemSource.given c.next_opening.new.feed c.next_opening.new.from) all)) c.in-Bound.is (c.in-Ok.ensures.took all t.0)) n.1.limit (c.judge_bound_leaf.ensures.judged all sees)

pub judge_tree-returns-in-Err-clause-judged : goal.judge_tree-returns-in-Err-clause-judged
judge_tree-returns-in-Err-clause-judged g t c all sees tree rest more readable items =
    let n = c.in-Err.ensures.fed all sees in
    let i = c.branching.invariant.fed all n.0 in
    tree_unread c.args.input.now.round.now.format (problem_of c.args.input.now.graph.now.ordered.now.problem) (round_of c.args.input.now.round.now) (state_at c.args.input.now.graph.now.ordered.now.order g.C.CountySet.test c.branching.state) rest more (fed_by (stream_of g.S.ItemSource.left g.S.ItemSource.given c.args.feed.now c.args.from.now) all) (fed_by (stream_of g.S.ItemSource.left g.S.ItemSource.given c.branching.feed c.branching.from) all) (fed_by (stream_of g.S.ItemSource.left g.S.ItemSource.given c.next_opening.new.feed c.next_opening.new.from) all) _ c.in-Err.stop (c.branching.invariant.left all n.0 tree rest more readable items) i.1 (c.in-Err.ensures.took all sees)

pub judge_takes-taking-init : goal.judge_takes-taking-init
judge_takes-taking-init g t c = record {
  counts = counts_here c.args.feed.now;
  fed = λ all sees. (sees, fed_here _);
  groups = c.requires.groups;
  fits = c.requires.fits;
  lists = c.requires.lists;
  left = λ all sees takes rest more readable items. (takes, readable, items, reaches_here _ _ _ _);
}

pub judge_takes-judge_tree-requires : goal.judge_takes-judge_tree-requires
judge_takes-judge_tree-requires g t c κs within =
    let i = c.taking.invariant.counts in
    let step = c.in-Ok-Some.ensures.step in
    let order = c.args.input.now.graph.now.ordered.now.order in
    let known = known_below _ order g.C.CountySet.test c.taking.left.now c.in-Ok-Some.codes (λ z. IsKnownAt g.C.CountySet.test c.args.input.now z c.in-Ok-closed_known.below) (state_at order g.C.CountySet.test c.args.state.now) (state_at order g.C.CountySet.test c.in-Ok.closed)
    (subst (IsNextTake (codes_of_sets order g.C.CountySet.test c.taking.left.now)) c.as_slice.ensures c.in-Ok.ensures.taken.0)
    (c.in-Ok.ensures.taken.1 ∙ ap (λ z. close z (state_at order g.C.CountySet.test c.args.state.now)) c.as_slice.ensures)
    (λ group others e. rw c.in-Ok-closed_known.is at (c.closed_known.ensures group others e)) in
    let n = c.in-Ok-Some.ensures.counts in (
      omega (arith, i.0, i.1, step.0, step.1, n.0),
      (within.0, (within.1.0, (within.1.1, (c.requires.input, (c.in-Ok.ensures.placed, (known, (c.taking.invariant.lists, omega (arith, c.requires.counted, i.1, i.2, n.1, n.2)))))))),
    )

pub judge_takes-taking-smaller : goal.judge_takes-taking-smaller
judge_takes-taking-smaller g t c =
    let step = c.in-Ok-Some.ensures.step in
    let n = c.in-Ok-Some.ensures.counts in
    let t = c.in-Ok-judge_tree.ensures.counts in
    omega (arith, step.0, step.1, n.0, t.0, t.1)

pub judge_takes-returns-in-Err-judge_tree-clause-fed : goal.judge_takes-returns-in-Err-judge_tree-clause-fed
judge_takes-returns-in-Err-judge_tree-clause-fed g t c all sees =
    let t = c.in-Err-judge_tree.ensures.fed all sees in
    let n = c.in-Ok-Some.ensures.fed all t.0 in
    let i = c.taking.invariant.fed all n.0 in
    (i.0, fed_through {X = Unit {0}} _ _ _ (Err c.in-Err-judge_tree.stop) (fed_twice _ _ _ i.1 n.1) t.1)

pub judge_takes-returns-in-Err-taken_state-clause-fed : goal.judge_takes-returns-in-Err-taken_state-clause-fed
judge_takes-returns-in-Err-taken_state-clause-fed g t c all sees =
    let n = c.in-Ok-Some.ensures.fed all sees in
    let i = c.taking.invariant.fed all n.0 in
    (i.0, take_stop_fed (Unit {0}) _ _ _ _ _ c.in-Err-taken_state.stop (fed_twice _ _ _ i.1 n.1) c.in-Err-taken_state.ensures.taken)

pub judge_takes-returns-then-is_empty-clause-fed : goal.judge_takes-returns-then-is_empty-clause-fed
judge_takes-returns-then-is_empty-clause-fed g t c all sees =
    let n = c.in-Ok-None.ensures.fed all sees in
    let i = c.taking.invariant.fed all n.0 in
    (i.0, fed_twice _ _ _ i.1 n.1)

pub judge_takes-returns-in-Ok-None-clause-fed : goal.judge_takes-returns-in-Ok-None-clause-fed
judge_takes-returns-in-Ok-None-clause-fed g t c all sees =
    let n = c.in-Ok-None.ensures.fed all sees in
    let i = c.taking.invariant.fed all n.0 in
    (i.0, fed_twice _ _ _ i.1 n.1)

pub judge_takes-returns-in-Err-clause-fed : goal.judge_takes-returns-in-Err-clause-fed
judge_takes-returns-in-Err-clause-fed g t c all sees =
    let n = c.in-Err.ensures.fed all sees in
    let i = c.taking.invariant.fed all n.0 in
    (i.0, fed_through {X = Unit {0}} _ _ _ (Err c.in-Err.stop) i.1 n.1)

pub judge_tree-branching-init : goal.judge_tree-branching-init
judge_tree-branching-init g t c = record {
  counts = counts_here c.args.feed.now;
  fed = λ all sees. (sees, fed_here _);
  placed = c.requires.placed;
  known = c.requires.known;
  lists = c.requires.lists;
  left = λ all sees tree rest more readable items. (tree, readable, items, reaches_here _ _ _ _);
}

pub judge_tree-judge_takes-requires : goal.judge_tree-judge_takes-requires
judge_tree-judge_takes-requires g t c κs within =
    let i = c.branching.invariant.counts in
    let step = c.in-Ok.ensures.step in
    let n = c.in-Ok.ensures.counts in
    let order = c.args.input.now.graph.now.ordered.now.order in
    let s = state_at order g.C.CountySet.test c.branching.state in
    let b = c.in-Ok-listed_groups.branching in
    let Q : List ℕ → Type 0 = λ k. IsGroupAt (problem_of c.args.input.now.graph.now.ordered.now.problem) (round_of c.args.input.now.round.now) s c.in-Branch.county b.limit k in
    let R : Position g.row.C.Denot → List ℕ → Type 0 = λ at k. (x : ℕ) × IsGroupAt (problem_of c.args.input.now.graph.now.ordered.now.problem) (round_of c.args.input.now.round.now) s x at.size k in
    let fits : (at : Position g.row.C.Denot) → c.listed_groups.new.known ≡ Some at → All (R at) (codes_of_sets order g.C.CountySet.test c.deref.result.now) = λ at e.
    subst (λ z. All (R at) (codes_of_sets order g.C.CountySet.test z)) (sym c.deref.ensures.value)
    (all_sized Q (R at) (codes_of_sets order g.C.CountySet.test b.groups.items) (λ k h. (c.in-Branch.county, subst (λ z. IsGroupAt (problem_of c.args.input.now.graph.now.ordered.now.problem) (round_of c.args.input.now.round.now) s c.in-Branch.county z k) (sym (c.in-Ok-listed_groups.ensures.sized at e)) h)) c.in-Ok-listed_groups.ensures.fits) in
    let l = c.in-Ok-listed_groups.ensures.counts in (
      omega (arith, i.0, i.1, step.0, step.1, n.0, l.0, l.1),
      (within.0, (within.1.0, (within.1.1, (c.requires.input, (c.branching.invariant.placed, (subst (All (IsClosable g.C.CountySet.test c.branching.state)) (sym c.deref.ensures.value) c.in-Ok-listed_groups.ensures.groups, (c.in-Ok-listed_groups.ensures.known, (fits, (c.in-Ok-listed_groups.ensures.lists, omega (arith, c.requires.counted, i.1, i.2, n.1, n.2, l.1, l.2)))))))))),
    )

pub judge_tree-branching-smaller : goal.judge_tree-branching-smaller
judge_tree-branching-smaller g t c =
    let step = c.in-Ok.ensures.step in
    let n = c.in-Ok.ensures.counts in
    let l = c.in-Ok-listed_groups.ensures.counts in
    let k = c.in-Ok-judge_takes.ensures.counts in
    omega (arith, step.0, step.1, n.0, l.0, l.1, k.0, k.1)

pub judge_tree-returns-in-Err-judge_takes-clause-fed : goal.judge_tree-returns-in-Err-judge_takes-clause-fed
judge_tree-returns-in-Err-judge_takes-clause-fed g t c all sees =
    let t = c.in-Err-judge_takes.ensures.fed all sees in
    let n = c.in-Ok.ensures.fed all t.0 in
    let i = c.branching.invariant.fed all n.0 in
    (i.0, fed_through {X = Unit {0}} _ _ _ (Err c.in-Err-judge_takes.stop) (fed_twice _ _ _ (fed_twice _ _ _ i.1 n.1) (kept_reading g.S.ItemSource.left (g.S.ItemSource.given c.next_opening.new.from) all c.next_opening.new.feed c.listed_groups.new.feed c.in-Ok-listed_groups.ensures.same Fed c.in-Ok-listed_groups.ensures.fed)) t.1)

pub judge_tree-returns-in-Err-listed_groups-clause-fed : goal.judge_tree-returns-in-Err-listed_groups-clause-fed
judge_tree-returns-in-Err-listed_groups-clause-fed g t c all sees =
    let n = c.in-Ok.ensures.fed all sees in
    let i = c.branching.invariant.fed all n.0 in
    (i.0, fed_through {X = Unit {0}} _ _ _ (Err c.in-Err-listed_groups.stop) (fed_twice _ _ _ i.1 n.1) (kept_reading g.S.ItemSource.left (g.S.ItemSource.given c.next_opening.new.from) all c.next_opening.new.feed c.listed_groups.new.feed c.in-Err-listed_groups.ensures.same (λ a b. IsFed {X = Unit {0}} a (Err c.in-Err-listed_groups.stop) b) c.in-Err-listed_groups.ensures.fed))

pub judge_tree-returns-in-Bound-clause-fed : goal.judge_tree-returns-in-Bound-clause-fed
judge_tree-returns-in-Bound-clause-fed g t c all sees =
    let t = c.judge_bound_leaf.ensures.fed all sees in
    let n = c.in-Ok.ensures.fed all t.0 in
    let i = c.branching.invariant.fed all n.0 in
    (i.0, fed_through {X = Unit {0}} _ _ _ c.judge_bound_leaf.result (fed_twice _ _ _ i.1 n.1) t.1)

pub judge_tree-returns-in-Err-clause-fed : goal.judge_tree-returns-in-Err-clause-fed
judge_tree-returns-in-Err-clause-fed g t c all sees =
    let n = c.in-Err.ensures.fed all sees in
    let i = c.branching.invariant.fed all n.0 in
    (i.0, fed_through {X = Unit {0}} _ _ _ (Err c.in-Err.stop) i.1 n.1)
