-- Where no county is open to the limit no group fits, and where the first open one stands a search may branch.
use Rattle.std.proofs.Common.{length, sym, ◌∙◌, arith}
use Rattle.std.proofs.lemmas.Bool.{false≢true}
use Rattle.grouping_laws.specs.Problem.{Problem}
use Rattle.connected_laws.proofs.PlaceLists.{some_member}
use Rattle.certificate_data.specs.Round.{Round}
use Rattle.certificate_laws.specs.State.{State}
use Rattle.certificate_laws.specs.Fitting.{NoGroupFits}
use Rattle.certificate_laws.proofs.Completion.{open_rest, open_least, is_open}
use Rattle.checker_laws.specs.Branches.{NoneOpen}

pub none_fits : (p : Problem) (round : Round) (s : State) → NoneOpen s round.limit → NoGroupFits p round s
none_fits p round s none group fits small =
    let m = some_member group fits.lawful.connected.some_county in
    let inside = fits.inside m.0 m.1 in
    false≢true (sym (none m.0) ∙ is_open s round.limit m.0 (open_rest s (length group) m.0 inside) (omega (arith, open_least s (length group) m.0 inside, small)))
