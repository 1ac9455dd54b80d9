-- Valid partial trees have texts.
use Rattle.std.proofs.Common.{ℕ, ◌-◌, ◌≤◌, List, [], ◌∷◌, ◌++◌, length, refl, sym, subst, append_assoc, append-nil, arith, inl, inr}
use Rattle.std.specs.List.{AllByRecursion}
use Rattle.std.proofs.lemmas.List.Elements.{recursion_from_All}
use Rattle.grouping_laws.specs.Problem.{Problem}
use Rattle.grouping_laws.specs.GroupsFrom.{IsOrder}
use Rattle.grouping_laws.proofs.Elements.{Has}
use Rattle.certificate_data.specs.Round.{Round}
use Rattle.certificate_laws.specs.State.{State, IsState, close, raise}
use Rattle.certificate_laws.specs.Proving.{limit_of}
use Rattle.certificate_laws.specs.Depth.{after_raise}
use Rattle.certificate_laws.proofs.Branches.{branch_keeps_state}
use Rattle.certificate_lines.specs.Fitting.{IsSet, AllFit}
use Rattle.certificate_lines.specs.Spelling.{text_of_items}
use Rattle.certificate_lines.specs.declared.item.Item.{Item}
use Rattle.certificate_lines.specs.declared.item.Item.TheVariants as item
use Rattle.certificate_lines.specs.declared.item.Wanted.{Wanted}
use Rattle.certificate_lines.specs.declared.item.Wanted.TheVariants as want
use Rattle.certificate_text.proofs.ItemsFit.{branch_fits, tree_fits}
use Rattle.certificate_text.proofs.LinesFit.{spelled_lines}
use Rattle.board_laws.specs.PartialTrees.{PartialTree, open_leaf, whole, begun, PartialTakes, no_begun, take_begun, begun_groups, ProvesPart, EachProvesPart}
use Rattle.partial_trees.specs.OpenStates.{IsSpelledPart, EachIsSpelled}
use Rattle.partial_text.specs.PartItems.{items_of_part, items_of_begun}
use Rattle.partial_text.specs.TextLaws.{PartsHaveTexts}
use Rattle.partial_text.proofs.PartFits.{as_part}
use Rattle.partial_text.proofs.PartDepth.{depth_left, some_depth, raised_depth, closed_states, within_tree, at_most}

module _ (p : Problem) (round : Round) (order : IsOrder p round.order) where
  mutual
    part_fits : (part : PartialTree) (s : State) (n : ℕ) (more : List Wanted) (rest : List Item) → IsState p round s → IsSpelledPart round part → ProvesPart part p round s → depth_left round.format round s ≤ n → AllFit more rest
        → AllFit (want.Part round.format n ∷ more) (items_of_part part ++ rest)
    part_fits open_leaf s n more rest state spelled v few f = (tt, f)
    part_fits (whole tree) s n more rest state spelled v few f =
        let within = within_tree tree p round s n order state v few in
        let lines = spelled_lines round.format (length round.order) tree spelled.fits in
        (as_part round.format n tree more more rest (λ x. x, λ x. x)).0 (tree_fits round.format n tree more rest within lines f)
    part_fits (begun county limit takes raised) s n more rest state spelled v few f =
        let can = v.1 in
        let some = some_depth p round order s state county (limit_of round limit) can round.format in
        let keep = (branch_keeps_state).raised_state p round s county (limit_of round limit) state can in
        let less = raised_depth p round order s state county (limit_of round limit) can round.format n can.in_turn few in
        let behind = part_fits raised (raise county (limit_of round limit) s) (after_raise round.format n) more rest keep spelled.3 v.4 less f in
        let sets = recursion_from_All IsSet (begun_groups takes) spelled.1 in
        let inside = begun_fits takes s n more (items_of_part raised ++ rest) sets spelled.2 v.3 (closed_states p round order s state county (limit_of round limit) can (begun_groups takes) n v.2 few) behind in (
          branch_fits round.format n county limit (omega (arith, some, few)) spelled.0,
          subst (λ (l : List Item). AllFit (want.PartTakes round.format n ∷ more) l) (sym (append_assoc (items_of_begun takes) (item.Mark ∷ items_of_part raised) rest)) inside,
        )

    begun_fits : (takes : PartialTakes) (s : State) (n : ℕ) (more : List Wanted) (rest : List Item) → AllByRecursion IsSet (begun_groups takes) → EachIsSpelled round takes → EachProvesPart takes p round s
        → ((g : List ℕ) → Has (begun_groups takes) g → IsState p round (close g s) × (depth_left round.format round (close g s) ≤ n - 1))
        → AllFit (want.Part round.format (after_raise round.format n) ∷ more) rest → AllFit (want.PartTakes round.format n ∷ more) (items_of_begun takes ++ item.Mark ∷ rest)
    begun_fits no_begun s n more rest sets spelled v each f = (tt, f)
    begun_fits (take_begun codes tree others) s n more rest sets spelled v each f =
        let first = each codes (inl refl) in
        let later = begun_fits others s n more rest sets.1 spelled.1 v.1 (λ g h. each g (inr h)) f in
        let here = part_fits tree (close codes s) (n - 1) (want.PartTakes round.format n ∷ more) (items_of_begun others ++ item.Mark ∷ rest) first.0 spelled.0 v.0 first.1 later in
        (sets.0, subst (λ (l : List Item). AllFit (want.Part round.format (n - 1) ∷ want.PartTakes round.format n ∷ more) l) (sym (append_assoc (items_of_part tree) (items_of_begun others) (item.Mark ∷ rest))) here)

pub have_texts : PartsHaveTexts
have_texts p round s part order state spelled v opened =
    let fits = part_fits p round order part s (length round.order) [] [] state spelled v (at_most round.format round s) tt in (
      text_of_items (items_of_part part),
      record {
        opened = opened;
        fits = subst (λ (l : List Item). AllFit (want.Part round.format (length round.order) ∷ []) l) (append-nil (items_of_part part)) fits;
        text_is = refl;
      },
    )
