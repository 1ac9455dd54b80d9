use Rattle.county_problem.specs.ProblemValue.{problem_of}
use Rattle.certificate_data.specs.TreeValue.{certificate_of}
use Rattle.list_groupings.proofs.Whole.{spells_of}
use Rattle.list_groupings.proofs.answering.read_listing.Goals as goal

pub listing_of-requires : goal.listing_of-requires
listing_of-requires c =
    let r = spells_of (problem_of c.args.problem.now) c.args.text.now c.args.target.now.groups.items (certificate_of c.in-Ok.certificate) c.requires.best c.in-Ok.ensures.found in
    record { ready = record { spells = r.0; target_is = r.1; counts_are = c.in-Ok-judge.ensures.counts } }
