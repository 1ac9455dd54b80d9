-- The tree of a certificate that a text can spell is readable, and the certificate's limit and order are small.
use Rattle.std.proofs.Common.{◌≤◌, List, [], ◌∷◌, ◌++◌, length}
use Rattle.county_codes.specs.Limits.{most_counties}
use Rattle.certificate_data.specs.declared.format.Format.{Format}
use Rattle.certificate_data.specs.Tree.{Allowance, room, weigh, stuck, seats, bound, Tree, leaf, branch, Takes, no_take, take}
use Rattle.certificate_lines.specs.Fitting.{AllFit}
use Rattle.certificate_lines.specs.declared.item.Item.TheVariants as item
use Rattle.certificate_lines.specs.declared.item.Wanted.TheVariants as want
use Rattle.certificate_data.specs.TreeValue.{Certificate, declared_allowance}
use Rattle.certificate_text.specs.Trees.{items_of_target, items_of_tree, items_of_certificate}
use Rattle.checker_laws.proofs.Readable.{head_over, IsFormedLine, AreFormedLines, IsFormed, AreFormed, formed_of_fits}
use Rattle.state_judge.specs.AllowanceVerdicts.{AllowanceIsSpelled}
use Rattle.certificate_checker.specs.ReadableTrees.{AllowancesAreSpelled, IsReadable, AreReadable}

line_spelled : (line : Allowance) → IsFormedLine line → AllowanceIsSpelled (declared_allowance line)
line_spelled room f = tt
line_spelled (weigh quota weights) f = f

lines_spelled : (lines : List Allowance) → AreFormedLines lines → AllowancesAreSpelled lines
lines_spelled [] f = tt
lines_spelled (line ∷ lines) f = (line_spelled line f.0, lines_spelled lines f.1)

mutual
  pub tree_readable : (format : Format) (tree : Tree) → IsFormed format tree → IsReadable format tree
  tree_readable format (leaf (stuck county)) f = tt
  tree_readable format (leaf seats) f = tt
  tree_readable format (leaf (bound lines)) f = lines_spelled lines f
  tree_readable format (branch county limit takes raised) f = (f.0, takes_readable format takes f.1, tree_readable format raised f.2)

  takes_readable : (format : Format) (takes : Takes) → AreFormed format takes → AreReadable format takes
  takes_readable format no_take f = tt
  takes_readable format (take codes tree others) f = (tree_readable format tree f.0, takes_readable format others f.1)

pub readable_of_fits : (c : Certificate) → AllFit (want.Head ∷ []) (items_of_certificate c) → IsReadable c.round.format c.tree
readable_of_fits c f = tree_readable c.round.format c.tree (formed_of_fits c f)

behind_head : (c : Certificate) → AllFit (want.Head ∷ []) (items_of_certificate c)
    → AllFit (want.Order c.round.format ∷ []) (item.Order c.round.order ∷ item.Limit c.round.limit ∷ (items_of_target c.round.target ++ (items_of_tree c.tree ++ item.End ∷ [])))
behind_head c f =
    head_over c.round.format c.round.tolerance (item.Order c.round.order ∷ item.Limit c.round.limit ∷ (items_of_target c.round.target ++ (items_of_tree c.tree ++ item.End ∷ []))) f

pub limit_of_fits : (c : Certificate) → AllFit (want.Head ∷ []) (items_of_certificate c) → c.round.limit ≤ most_counties
limit_of_fits c f = (behind_head c f).1.0

pub order_of_fits : (c : Certificate) → AllFit (want.Head ∷ []) (items_of_certificate c) → length c.round.order ≤ most_counties
order_of_fits c f = (behind_head c f).0.0
