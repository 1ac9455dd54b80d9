use Rattle.std.proofs.Common.{◌≡◌, ◌∷◌, ◌++◌, ◌<◌, ◌^◌, [], List, ℕ, OnOk, length, map, codes, decimal, refl, sym, subst, arith}
use Rattle.certificate_data.specs.declared.allowance.Allowance.{Allowance}
use Rattle.certificate_lines.specs.declared.item.Opening.TheVariants as opening
use Rattle.certificate_lines.specs.declared.item.Item.TheVariants as item
use Rattle.certificate_data.specs.Tree.{bound}
use Rattle.certificate_data.specs.TreeValue.{allowance_of}
use Rattle.certificate_text.specs.Trees.{leaf_items}
use Rattle.certificate_text.proofs.TreeViews.{bound_items}
use Rattle.certificate_text.specs.Writing.{Added}
use Rattle.certificate_text.proofs.AddedLaws.{added_line, adds_after, adds_as}
use Rattle.certificate_text.proofs.lines.push_leaf.Goals as goal

pub returns-in_ok-push_bound_line-in-Bound : goal.returns-in_ok-push_bound_line-in-Bound
returns-in_ok-push_bound_line-in-Bound c =
    let ks = c.in-Bound.allowances.items in
    let old = c.args.out.now.items in
    let mid = c.push_bound_line.new.out.items in
    let new = c.push_allowances.new.out.items in
    let many : c.len.result ≡ length ks = omega (arith, c.len.ensures) in
    let text : mid ≡ old ++ (codes "bound " ++ (decimal (length ks) ++ 10 ∷ [])) = subst (λ (n : ℕ). mid ≡ old ++ (codes "bound " ++ (decimal n ++ 10 ∷ []))) many c.in_ok-push_bound_line-in-Bound.ensures.text in
    let small : length ks < 2 ^ 64 = omega (arith, many, c.push_bound_line.ensures.range) in
    let first = added_line (item.Opens (opening.Bound (length ks))) old mid (codes "bound " ++ (decimal (length ks) ++ 10 ∷ [])) refl text small in
    let later = subst (λ (l : List Allowance). OnOk c.push_allowances.result (Added (map item.Allows l) mid new)) c.deref.ensures.value c.push_allowances.ensures in
    rw c.in-Bound.is
    (adds_as (item.Opens (opening.Bound (length ks)) ∷ map item.Allows ks) (leaf_items (bound (map allowance_of ks))) old new c.push_allowances.result (sym (bound_items ks))
    (adds_after (item.Opens (opening.Bound (length ks)) ∷ []) (map item.Allows ks) old mid new c.push_allowances.result first later))
