use Rattle.std.proofs.Common.{◌&&◌, not}
use Rattle.place_sets.proofs.Halves.{halves_place, two_halves}
use Rattle.place_sets.proofs.wide_set.WideSetCountySet.minus.Goals as goal

pub returns : goal.returns
returns c =
    let one = c.args.self in
    let two = c.args.other.now in
    record {
      places = two_halves 128 (λ y z. y && not z) _ _ _ _ _ _ _ _ _ (halves_place one.low.bits one.high.bits) (halves_place two.low.bits two.high.bits) (halves_place c.minus.result.bits c.minus-2.result.bits) c.minus.ensures.places c.minus-2.ensures.places;
    }
