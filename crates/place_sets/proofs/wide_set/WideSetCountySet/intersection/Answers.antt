use Rattle.std.proofs.Common.{◌&&◌}
use Rattle.place_sets.proofs.Halves.{halves_place, two_halves}
use Rattle.place_sets.proofs.wide_set.WideSetCountySet.intersection.Goals as goal

pub returns : goal.returns
returns c =
    let one = c.args.self in
    let two = c.args.other.now in
    record {
      places = two_halves 128 (λ y z. y && z) _ _ _ _ _ _ _ _ _ (halves_place one.low.bits one.high.bits) (halves_place two.low.bits two.high.bits) (halves_place c.intersection.result.bits c.intersection-2.result.bits) c.intersection.ensures.places c.intersection-2.ensures.places;
    }
