use Rattle.std.proofs.Common.{◌≡◌, ℕ, ◌<◌, true, ap, ◌∙◌, sym, length, arith}
use Rattle.std.proofs.lemmas.Bool.{and_parts}
use Rattle.std.specs.Prelude.{nat_le}
use Rattle.place_sets.proofs.PlaceSets.{places_same}
use Rattle.state_groups.specs.StateValue.{state_of}
use Rattle.certificate_laws.specs.State.{open_to}
use Rattle.state_groups.proofs.bounds.room.Goals as goal

pub returns : goal.returns
returns g c =
    let test = g.C.CountySet.test in
    let n = length c.args.ordered.now.order in
    let s = state_of test c.args.state.now in
    let region = test c.in_ok-region.region in
    let below : (x : ℕ) → region x ≡ true → x < n = λ x e. c.requires.below x (and_parts (s.rest x) (nat_le (s.least x) c.args.size) (sym (c.in_ok-region.ensures x) ∙ e)).0 in
    let size = c.size.ensures.count n below in
    omega (arith, size, ap length (places_same n (open_to s c.args.size) region c.in_ok-region.ensures), c.saturating_sub.ensures)
