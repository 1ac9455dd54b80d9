use Rattle.std.proofs.Common.{◌≡◌, ◌∙◌, ◌+◌, ◌++◌, ℕ, List, ap, sym, refl, codes, decimal, add-one}
use Rattle.grouping_laws.specs.Grouping.{sets_of, counts}
use Rattle.grouping_report.specs.Report.{numbers_to}
use Rattle.grouping_report.proofs.Appends.{first, after}
use Rattle.grouping_report.proofs.reports.push_numbers.Goals as goal

pub loop-shorter-preserved : goal.loop-shorter-preserved
loop-shorter-preserved c =
    let old = c.args.out.now.items in
    let number = counts (sets_of c.args.groups.now) in
    let k = c.loop-shorter.shorter in
    let next : numbers_to number (k + 1) ≡ numbers_to number k ++ codes " " ++ decimal (number (k + 1)) = rw add-one refl in
    let two = after _ (first old _ c.loop-shorter.invariant) c.in_ok-extend_from_slice.ensures.items in
    let three = after _ two c.in_ok-push_number.ensures in
    three.is ∙ ap (λ (n : ℕ). old ++ (numbers_to number k ++ codes " " ++ decimal n)) c.groups_of_size.ensures ∙ ap (λ (l : List ℕ). old ++ l) (sym next)
