use Rattle.std.proofs.Common.{Some, None, subst}
use Rattle.place_sets.specs.PlaceSets.{IsNext}
use Rattle.place_sets.specs.MaskSet.{has_bit}
use Rattle.place_sets.proofs.Halves.{halves_place, next_low, next_high, next_neither}
use Rattle.place_sets.proofs.wide_set.WideSetCountySet.next.Goals as goal

pub returns-in-Some-clause-least : goal.returns-in-Some-clause-least
returns-in-Some-clause-least c =
    let set = c.args.self.now in
    next_low 128 _ _ _ (halves_place set.low.bits set.high.bits) c.args.from c.in-Some.place c.in-Some.ensures.least

pub returns-in-Some-next-clause-least : goal.returns-in-Some-next-clause-least
returns-in-Some-next-clause-least c =
    let set = c.args.self.now in
    next_high 128 _ _ _ (halves_place set.low.bits set.high.bits) c.args.from c.in-Some-next.place c.in_default.ensures.least
    (subst (λ z. IsNext (has_bit set.high.bits) z (Some c.in-Some-next.place)) c.saturating_sub.ensures c.in-Some-next.ensures.least)

pub returns-in-None-clause-least : goal.returns-in-None-clause-least
returns-in-None-clause-least c =
    let set = c.args.self.now in
    next_neither 128 _ _ _ (halves_place set.low.bits set.high.bits) c.args.from c.in_default.ensures.least
    (subst (λ z. IsNext (has_bit set.high.bits) z None) c.saturating_sub.ensures c.in-None.ensures.least)
