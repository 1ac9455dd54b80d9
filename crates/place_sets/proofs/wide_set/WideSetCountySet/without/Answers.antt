use Rattle.std.proofs.Common.{◌&&◌, not, refl}
use Rattle.place_sets.proofs.Halves.{halves_place, low_change, high_change, still_but}
use Rattle.place_sets.proofs.wide_set.WideSetCountySet.without.Goals as goal

pub returns-then-place-lt128 : goal.returns-then-place-lt128
returns-then-place-lt128 c =
    let set = c.args.self in
    record {
      places = low_change 128 (λ y z. y && not z) still_but c.args.place _ _ _ _ _ _ (halves_place set.low.bits set.high.bits) (halves_place c.without.result.bits set.high.bits) c.if-place-lt128.true c.without.ensures.places (λ x. refl);
    }

pub returns : goal.returns
returns c =
    let set = c.args.self in
    record {
      places = high_change 128 (λ y z. y && not z) still_but c.args.place _ _ _ _ _ _ (halves_place set.low.bits set.high.bits) (halves_place set.low.bits c.without-2.result.bits) c.if-place-lt128.false (λ x. refl) c.without-2.ensures.places;
    }
