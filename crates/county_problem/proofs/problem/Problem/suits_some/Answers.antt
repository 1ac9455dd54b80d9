use Rattle.std.proofs.Common.{◌+◌, ◌-◌, sym, arith}
use Rattle.county_codes.proofs.ToleranceLemmas.{in_range}
use Rattle.grouping_laws.proofs.WindowLemmas.{some_between}
use Rattle.county_problem.proofs.problem.Problem.suits_some.Goals as goal

pub returns : goal.returns
returns c = record {
  value = rw (c.suits_some_seats.ensures, ← c.self.view_is) (sym (let w = c.self.inside.tolerance in some_between (w.denominator - w.numerator) w.denominator (w.denominator + w.numerator) c.self.inside.total c.self.inside.chamber c.args.people (omega (arith, (in_range w c.self.invariant.9).some)) c.self.invariant.0));
}
