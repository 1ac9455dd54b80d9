use Rattle.std.proofs.Common.{◌≡◌, ℕ, ◌+◌, List, ◌∷◌, drop, subst, sym}
use Rattle.std.proofs.lemmas.List.{drop_all}
use Rattle.std.proofs.lemmas.Result.{IfOk-weaker}
use Rattle.adjacency_reader.specs.declared.links.Link.{Link}
use Rattle.adjacency_reader.specs.Adjacency.{AreLinked}
use Rattle.adjacency_reader.proofs.PairLemmas.{drop_item}
use Rattle.adjacency_reader.proofs.LinkLemmas.{Joined, joined_at_first, ordered_at_first, joined_after, ordered_after, at_last, linked_from, adjacent_from}
use Rattle.adjacency_reader.proofs.linked_pairs.apply_links.Goals as goal

pub loop-link-init : goal.loop-link-init
loop-link-init c = record {
  joined = joined_at_first c.args.pairs.now c.args.links.now c.in_ok-linked.linked c.in_ok-linked.ensures;
  ordered = ordered_at_first c.args.pairs.now c.args.links.now c.in_ok-linked.linked c.in_ok-linked.ensures;
}

pub loop-link-preserved : goal.loop-link-preserved
loop-link-preserved c =
    let links = c.args.links.now in
    let i = c.loop-link.link-index in
    let left : drop i links ≡ c.link-item.result ∷ drop (i + 1) links = drop_item links i c.link-item.result c.link-item.is c.loop-link-test.true in
    record {
      joined = joined_after c.args.pairs.now links (drop (i + 1) links) c.link-item.result c.loop-link.linked c.apply.new.linked c.in_ok-apply.ensures
          (subst (λ (l : List Link). Joined l links c.args.pairs.now c.loop-link.linked) left c.loop-link.invariant.joined);
      ordered = ordered_after c.args.pairs.now links (drop (i + 1) links) c.link-item.result c.loop-link.linked c.apply.new.linked c.in_ok-apply.ensures c.loop-link.invariant.ordered;
    }

-- a list of the pairs that the set has
linked_list : (c : goal.After-drop-linked-2) (items : List (ℕ × ℕ)) → items ≡ c.loop-link.linked.keys → AreLinked c.args.pairs.now c.args.links.now items
linked_list c items is =
    let pairs = c.args.pairs.now in
    let links = c.args.links.now in
    let i = c.loop-link.link-index in
    subst (λ (l : List (ℕ × ℕ)). AreLinked pairs links l) (sym is)
    (linked_from pairs links c.loop-link.linked c.list.ensures.ascending
    (at_last pairs links c.loop-link.linked (drop i links) (drop_all i links c.loop-link-test.false) c.loop-link.invariant.joined c.loop-link.invariant.ordered))

pub returns-clause-linked : goal.returns-clause-linked
returns-clause-linked c = IfOk-weaker c.list.result _ _ (λ v is. linked_list c v.items is) c.list.ensures.value

pub returns-clause-adjacent : goal.returns-clause-adjacent
returns-clause-adjacent c = IfOk-weaker c.list.result _ _
    (λ v is listed rows are. adjacent_from listed rows c.args.pairs.now c.args.links.now v.items are (linked_list c v.items is)) c.list.ensures.value
