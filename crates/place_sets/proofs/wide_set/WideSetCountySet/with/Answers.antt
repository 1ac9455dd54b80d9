use Rattle.std.proofs.Common.{◌||◌, refl}
use Rattle.place_sets.proofs.Halves.{halves_place, low_change, high_change, still_or}
use Rattle.place_sets.proofs.wide_set.WideSetCountySet.with.Goals as goal

pub returns-then-place-lt128 : goal.returns-then-place-lt128
returns-then-place-lt128 c =
    let set = c.args.self.now in
    record {
      places = low_change 128 (λ y z. y || z) still_or c.args.place _ _ _ _ _ _ (halves_place set.low.bits set.high.bits) (halves_place c.put.result.bits set.high.bits) c.if-place-lt128.true c.put.ensures (λ x. refl);
      ok = refl;
    }

pub returns : goal.returns
returns c =
    let set = c.args.self.now in
    record {
      places = high_change 128 (λ y z. y || z) still_or c.args.place _ _ _ _ _ _ (halves_place set.low.bits set.high.bits) (halves_place set.low.bits c.put-2.result.bits) c.if-place-lt128.false (λ x. refl) c.put-2.ensures;
      ok = refl;
    }
