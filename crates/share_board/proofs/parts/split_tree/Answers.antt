use Rattle.std.proofs.Common.{◌≡◌, ◌∷◌, ◌++◌, [], List, Some, None, refl, sym, ap, ◌∙◌, subst, arith}
use Rattle.std.proofs.lemmas.Iterator.Adapters.{YieldsList-from_vec}
use Rattle.std.proofs.lemmas.Iterator.Consumers.{YieldsList-end}
use Rattle.std.proofs.lemmas.List.{map-id}
use Rattle.board_laws.specs.PartialTrees.{open_leaf, begun, no_begun, take_begun, open_takes}
use Rattle.partial_trees.specs.PartialValue.{partial_of, list_of_begun, list_onto}
use Rattle.partial_trees.specs.declared.tree.PartialBranch.{PartialBranch, roll-PartialBranch}
use Rattle.partial_trees.specs.declared.tree.PartialTake.{roll-PartialTake}
use Rattle.partial_trees.proofs.PartialLists.{made_tree, made_takes, made_take}
use Rattle.share_board.proofs.Onto.{begun_onto_all, begun_all}
use Rattle.share_board.proofs.SplitTrees.{open_onto, open_all, taken_more}
use Rattle.share_board.proofs.parts.split_tree.Goals as goal

pub loop-codes-init : goal.loop-codes-init
loop-codes-init c = record { can = tt; finite = tt; takes = λ others. ap (λ z. begun_onto_all z others) c.new-takes.ensures.items }

pub loop-codes-preserved : goal.loop-codes-preserved
loop-codes-preserved c = record {
  can = tt;
  finite = tt;
  takes = taken_more c.loop-codes.takes.items c.push.new.self.items (roll-PartialTake (record { codes = c.in-Some.codes; tree = c.open_place-tree.result })) c.loop-codes.yielded c.in-Some.codes c.in_ok-push.ensures.items
      (λ others. made_take c.in-Some.codes c.open_place-tree.result others ∙ ap (λ z. take_begun c.in-Some.codes z others) c.open_place-tree.ensures) c.loop-codes.invariant.takes;
}

pub returns : goal.returns
returns c =
    let county = c.args.county in
    let limit = Some c.args.limit in
    let takes = c.loop-codes.takes in
    let b = roll-PartialBranch (record { county = county; limit = limit; takes = takes }) in
    let gives = c.into_iter-codes-iterator.ensures.into_iter_gives in
    let ended = YieldsList-end (YieldsList-from_vec {s = c.into_iter-codes-iterator.result} c.args.groups.items gives.0 (omega (arith, gives.1))) c.loop-codes.yielded c.loop-codes.codes-iterator c.loop-codes.yielded_by c.next.result c.next.new.self c.in-None.is c.next.ensures.steps in
    let groups : c.loop-codes.yielded ≡ c.args.groups.items = sym (map-id c.loop-codes.yielded) ∙ ended.0 in
    let all : list_of_begun takes.items ≡ open_takes c.args.groups.items = sym (begun_all takes.items) ∙ c.loop-codes.invariant.takes no_begun ∙ open_all c.loop-codes.yielded ∙ ap open_takes groups in
    made_tree c.push-2.new.self None
    ∙ ap (λ (l : List PartialBranch). list_onto l open_leaf) (c.in_ok-push-2.ensures.items ∙ ap (λ (l : List PartialBranch). l ++ b ∷ []) c.new-branches.ensures.items)
    ∙ made_takes county limit takes open_leaf
    ∙ ap (λ z. begun county limit z open_leaf) all
