use Rattle.std.proofs.Common.{List, map, refl, ap, ◌∙◌}
use Rattle.list_groupings.specs.declared.position.Waiting.{Waiting}
use Rattle.list_groupings.specs.Positions.{raised_past}
use Rattle.list_groupings.proofs.PositionLemmas.{raised_position}
use Rattle.list_groupings.proofs.position.Position.raised.Goals as goal

pub returns : goal.returns
returns c = λ p s h.
    raised_position p s c.args.county c.args.limit c.args.self (record { closed = c.args.self.closed; rest = c.in_ok-with_raised.field-0 }) h refl
    (c.in_ok-with_raised.ensures ∙ ap (λ (l : List Waiting). map (raised_past c.args.county c.args.limit) l) c.deref.ensures.value)
