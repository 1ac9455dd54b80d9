use Rattle.std.proofs.Common.{◌≡◌, nat_lt, true, arith}
use Rattle.std.proofs.lemmas.Bool.Decides.{nat_tests}
use Rattle.people_table.proofs.PlaceLemmas.{put_in_front, put_last}
use Rattle.people_table.proofs.found.place_of.Goals as goal

pub returns-then-lt-clause-place : goal.returns-then-lt-clause-place
returns-then-lt-clause-place c = λ k is.
    let other = c.index-found-i.result in
    let below : nat_lt c.args.code other.county.code ≡ true = grind (arith, nat_tests, c.if-lt.ensures, c.code.ensures) in
    put_in_front k c.args.code c.args.found.now c.loop-i.i other is c.loop-i-test.true c.index-found-i.is below c.loop-i.invariant

pub returns-clause-place : goal.returns-clause-place
returns-clause-place c = λ k is. put_last k c.args.code c.args.found.now c.loop-i.i is c.loop-i-test.false c.loop-i.invariant
