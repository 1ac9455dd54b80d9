use Rattle.std.proofs.Common.{length, ap, ◌∙◌, map, nat_lt}
use Rattle.place_sets.specs.PlaceSets.{places_of}
use Rattle.certificate_laws.proofs.StateLemmas.{all_below}
use Rattle.certificate_laws.proofs.States.{same_state}
use Rattle.state_groups.proofs.state.empty_by_places.Goals as goal

pub returns-clause-value : goal.returns-clause-value
returns-clause-value g c = same_state _ _ (ap (map (λ s. places_of (length c.in_ok-no_sizes.field-0.items) (g.C.CountySet.test s))) c.new.ensures.items) (λ x. c.in_ok-all_places.ensures x ∙ (ap (λ n. nat_lt x n) c.places-places.ensures.value ∙ all_below (length c.args.ordered.now.order) x)) (λ x. c.in_ok-no_sizes.ensures.none x)
