use Rattle.std.proofs.Common.{◌≤◌, ◌<◌, ◌^◌, ◌/◌, ◌≡◌, tests, arith}
use Rattle.place_sets.proofs.Masks.{next_none, next_past, next_some, next_below}
use Rattle.place_sets.proofs.mask_set.next_in_word.Goals as goal

pub returns-then-from-ge64-clause-least : goal.returns-then-from-ge64-clause-least
returns-then-from-ge64-clause-least c =
    let past : 64 ≤ c.args.from = grind (arith, tests) in
    next_past c.args.bits c.args.from c.requires.word past

pub returns-then-rest-eq0-clause-least : goal.returns-then-rest-eq0-clause-least
returns-then-rest-eq0-clause-least c =
    let none : c.args.bits / 2 ^ c.args.from ≡ 0 = grind (arith, tests) in
    next_none c.args.bits c.args.from none

pub returns-clause-least : goal.returns-clause-least
returns-clause-least c =
    let some : 0 < c.args.bits / 2 ^ c.args.from = grind (arith, tests) in
    next_some c.args.bits c.args.from c.requires.word some

pub returns-clause-fits : goal.returns-clause-fits
returns-clause-fits c =
    let some : 0 < c.args.bits / 2 ^ c.args.from = grind (arith, tests) in
    next_below c.args.bits c.args.from c.requires.word some
