use Rattle.std.proofs.Common.{◌≡◌, ◌++◌, ℕ, true, ◌&&◌, not, [], ◌∷◌, ◌<◌, List, length, sym, ap, ◌∙◌, subst, cond, get_or, arith}
use Rattle.std.proofs.lemmas.Bool.{and_parts}
use Rattle.place_sets.specs.Lists.{contains}
use Rattle.std.proofs.lemmas.List.{map-id}
use Rattle.std.proofs.lemmas.List.Elements.{All-append}
use Rattle.std.proofs.lemmas.Slice.Zip.{AllZip-map}
use Rattle.county_problem.specs.ProblemValue.{problem_of}
use Rattle.grouping_laws.proofs.PlaceProblem.{order_once}
use Rattle.place_sets.specs.PlaceSets.{places_of}
use Rattle.place_sets.proofs.PlaceSets.{places_same}
use Rattle.connected_laws.specs.Listing.{lists_of, AreBelow}
use Rattle.connected_laws.proofs.PlaceLists.{placed_below}
use Rattle.certificate_laws.specs.State.{close}
use Rattle.state_groups.specs.StateValue.{state_of}
use Rattle.certificate_laws.specs.Places.{in_codes}
use Rattle.certificate_laws.proofs.PlaceStates.{states_have_codes}
use Rattle.certificate_laws.proofs.States.{same_state}
use Rattle.certificate_laws.proofs.StateLemmas.{cleared, own_places}
use Rattle.state_groups.proofs.PlacedLemmas.{all_one, copied_below, closed_lists, closed_apart}
use Rattle.state_groups.proofs.state.closed_state.Goals as goal

pub returns-clause-value : goal.returns-clause-value
returns-clause-value g c =
    let test = g.C.CountySet.test in
    let order = c.args.ordered.now.order in
    let n = length order in
    let old = c.args.state.now in
    let t = state_of test old in
    let group = test c.args.group.now in
    let below : (x : ℕ) → group x ≡ true → x < n = λ x e. c.requires.placed.rest x (c.requires.group.inside x e) in
    let same : c.in_ok-least.least.items ≡ old.least.items = AllZip-map (λ x. x) old.least.items c.in_ok-least.least.items c.in_ok-least.ensures.cases.0 ∙ map-id old.least.items in
    let count : length c.clear_sizes.new.least.items ≡ n = c.clear_sizes.ensures.count ∙ (ap length same ∙ c.requires.placed.places) in
    let closed = closed_lists (λ k (s : g.row.C.Denot). places_of k (test s)) old.closed.items c.in_ok-closed.closed.items c.push.new.self.items c.args.group.now c.in_ok-copy.field-0 (length old.least.items) (length c.clear_sizes.new.least.items) n count c.requires.placed.places
    (c.in_ok-closed.ensures.places n ∙ ap (lists_of n test) c.deref.ensures.value) c.in_ok-push.ensures.items (places_same n group (test c.in_ok-copy.field-0) c.in_ok-copy.ensures.places) in
    ap (in_codes order)
    (same_state _ (close (places_of n group) t) closed
    (λ x. c.minus-rest.ensures.places x ∙ (ap (λ b. b && not (group x)) (c.in_ok-copy-2.ensures.places x) ∙ ap (λ b. test old.rest x && not b) (sym (own_places n group below x))))
    (λ x. cleared c.in_ok-least.least.items c.clear_sizes.new.least.items group n (ap length same ∙ c.requires.placed.places) count below (λ y l. c.clear_sizes.ensures.sizes y (omega (arith, l, ap length same, c.requires.placed.places))) x ∙ ap (λ z. cond (contains (places_of n group) x) 0 (get_or z x 0)) same))
    ∙ states_have_codes.closed order t (places_of n group) (order_once (problem_of c.args.ordered.now.problem) order c.places-places.ensures.order) (λ i e. placed_below n i group e)

pub returns-clause-placed : goal.returns-clause-placed
returns-clause-placed g c =
    let test = g.C.CountySet.test in
    let n = length c.args.ordered.now.order in
    let old = c.args.state.now in
    let group = test c.args.group.now in
    let copied : (m : ℕ) → lists_of m test c.in_ok-closed.closed.items ≡ lists_of m test old.closed.items = λ m. c.in_ok-closed.ensures.places m ∙ ap (lists_of m test) c.deref.ensures.value in
    let same : c.in_ok-least.least.items ≡ old.least.items = AllZip-map (λ x. x) old.least.items c.in_ok-least.least.items c.in_ok-least.ensures.cases.0 ∙ map-id old.least.items in
    let left : (x : ℕ) → test c.minus-rest.result x ≡ (test old.rest x && not (group x)) = λ x. c.minus-rest.ensures.places x ∙ ap (λ b. b && not (group x)) (c.in_ok-copy-2.ensures.places x) in
    record {
      places = c.clear_sizes.ensures.count ∙ (ap length same ∙ c.requires.placed.places);
      rest = λ x e. c.requires.placed.rest x (and_parts (test old.rest x) (not (group x)) (sym (left x) ∙ e)).0;
      closed = subst (λ (z : List g.row.C.Denot). AreBelow n test z) {x = c.in_ok-closed.closed.items ++ c.in_ok-copy.field-0 ∷ []} (sym c.in_ok-push.ensures.items)
          (All-append (λ (s : g.row.C.Denot). (x : ℕ) → test s x ≡ true → x < n) c.in_ok-closed.closed.items (c.in_ok-copy.field-0 ∷ []) (copied_below g.row.C.Denot test n old.closed.items c.in_ok-closed.closed.items copied c.requires.placed.closed)
          (all_one (λ (s : g.row.C.Denot). (x : ℕ) → test s x ≡ true → x < n) c.in_ok-copy.field-0 (λ x e. c.requires.placed.rest x (c.requires.group.inside x (sym (c.in_ok-copy.ensures.places x) ∙ e)))));
      apart = closed_apart g.row.C.Denot test n old c.args.group.now c.in_ok-copy.field-0 c.in_ok-closed.closed.items c.push.new.self.items (test c.minus-rest.result) c.requires.placed c.requires.group (copied n) c.in_ok-push.ensures.items left;
    }
