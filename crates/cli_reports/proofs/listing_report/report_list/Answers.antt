use Rattle.std.proofs.Common.{◌≤◌, List, length, subst, sym}
use Rattle.county_codes.specs.declared.group.Grouping.{Grouping}
use Rattle.county_problem.specs.ProblemValue.{problem_of}
use Rattle.list_groupings.specs.declared.listing.Listing.{Listing}
use Rattle.list_groupings.specs.Answers.{IsListing, ListsAllBest}
use Rattle.run_laws.proofs.Listings.{lists_one}
use Rattle.cli_reports.proofs.listing_report.report_list.Goals as goal

pub report_all-requires : goal.report_all-requires
report_all-requires c =
    let p = problem_of c.args.tabled.now.problem in
    let is = subst (λ (l : Listing). IsListing p c.requires.listing.0 c.requires.listing.1 l) c.in-All.is c.requires.listing.2 in
    let all = subst (ListsAllBest p) c.in-All.is c.requires.all in
    subst (λ (list : List Grouping). 1 ≤ length list) (sym c.deref.ensures.value) (lists_one p c.requires.listing.0 c.requires.listing.1 c.in-All.groupings is all.0)
