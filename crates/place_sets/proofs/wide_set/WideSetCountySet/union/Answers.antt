use Rattle.std.proofs.Common.{◌||◌, refl}
use Rattle.place_sets.proofs.Halves.{halves_place, two_halves}
use Rattle.place_sets.proofs.wide_set.WideSetCountySet.union.Goals as goal

pub returns : goal.returns
returns c =
    let one = c.args.self.now in
    let two = c.args.other.now in
    record {
      places = two_halves 128 (λ y z. y || z) _ _ _ _ _ _ _ _ _ (halves_place one.low.bits one.high.bits) (halves_place two.low.bits two.high.bits) (halves_place c.joined.result.bits c.joined-2.result.bits) c.joined.ensures c.joined-2.ensures;
      ok = refl;
    }
