use Rattle.std.proofs.Common.{List, ℕ, ◌∷◌, ◌++◌, [], not, filter, ap, ◌∙◌}
use Rattle.grouping_laws.specs.Sets.{contains}
use Rattle.list_groupings.specs.declared.position.Waiting.{Waiting}
use Rattle.list_groupings.proofs.PositionLemmas.{closed_position}
use Rattle.list_groupings.proofs.position.Position.with_closed.Goals as goal

pub returns : goal.returns
returns c = λ p s h.
    closed_position p s c.args.codes.now c.args.self.now (record { closed = c.push.new.self; rest = c.in_ok-rest.rest }) h
    (c.in_ok-push.ensures.items
    ∙ (ap (λ (l : List (List ℕ)). l ++ c.in_ok-copy.field-0 ∷ []) (c.in_ok-closed.ensures ∙ c.deref.ensures.value)
    ∙ ap (λ (g : List ℕ). c.args.self.now.closed.items ++ g ∷ []) c.in_ok-copy.ensures))
    (c.in_ok-rest.ensures
    ∙ (ap (λ (l : List Waiting). filter (λ w. not (contains c.as_slice.result.now w.code)) l) c.deref-2.ensures.value
    ∙ ap (λ (g : List ℕ). filter (λ w. not (contains g w.code)) c.args.self.now.rest.items) c.as_slice.ensures))
