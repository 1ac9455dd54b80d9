use Rattle.county_problem.proofs.TestLemmas.{both_where, neither_where}
use Rattle.county_problem.proofs.size.suits_some_seats.Goals as goal

pub returns-then-most-ge1 : goal.returns-then-most-ge1
returns-then-most-ge1 c = rw (← c.most_seats-most.ensures.value, ← c.ends-above.ensures.parts.1, ← c.share_of-share.ensures) (both_where 1 _ _ c.if-most-ge1.true)

pub returns-else-most-ge1 : goal.returns-else-most-ge1
returns-else-most-ge1 c = rw (← c.most_seats-most.ensures.value, ← c.ends-above.ensures.parts.1, ← c.share_of-share.ensures) (neither_where 1 _ _ c.if-most-ge1.false)
