use Rattle.std.proofs.Common.{◌≡◌, nat_eq}
use Rattle.std.proofs.lemmas.Slice.Eq.{slice_eq-Decides}
use Rattle.std.specs.Cmp.Lexicographic.{pointwise}
use Rattle.std.proofs.lemmas.Bool.Decides.{Decides-eqb}
use Rattle.county_problem.proofs.counts.CountsPartialEq.eq.Goals as goal

pub returns : goal.returns
returns c =
    let e : c.eq.result ≡ pointwise nat_eq c.args.self.now c.args.other.now = rw (← c.self.view_is, ← c.other.view_is) c.eq.ensures in
    record { value = e; same = slice_eq-Decides Decides-eqb _ _ _ e }
