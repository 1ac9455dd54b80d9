use Rattle.county_problem.proofs.SeatLemmas.{few_suit}
use Rattle.county_problem.proofs.size.most_seats.Goals as goal

pub returns-clause-few : goal.returns-clause-few
returns-clause-few c = rw (c.share_of.ensures) (few_suit c.args.tolerance.denominator c.ends-below.result.0 c.args.total c.args.chamber c.args.people c.ends-below.ensures.some.1 c.requires.within c.requires.seats)
