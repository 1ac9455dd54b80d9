use Rattle.std.proofs.Common.{◌≡◌, ℕ, length, ap, ◌∙◌}
use Rattle.std.proofs.lemmas.List.{map-id}
use Rattle.std.proofs.lemmas.Slice.Zip.{AllZip-map}
use Rattle.connected_laws.specs.Listing.{lists_of}
use Rattle.certificate_laws.specs.Places.{in_codes}
use Rattle.state_groups.specs.declared.state.State.{State as StateHeld}
use Rattle.state_groups.proofs.PlacedLemmas.{copied_value, copied_placed}
use Rattle.state_groups.proofs.state.copied_state.Goals as goal

pub returns-clause-value : goal.returns-clause-value
returns-clause-value g c =
    let test = g.C.CountySet.test in
    let old = c.args.state.now in
    let new : StateHeld g.row.C.Denot = record { closed = c.in_ok-copy_sets.field-0; rest = c.in_ok-copy.field-0; least = c.in_ok-clone.field-0 } in
    let same : c.in_ok-clone.field-0.items ≡ old.least.items = AllZip-map (λ x. x) old.least.items c.in_ok-clone.field-0.items c.in_ok-clone.ensures.cases.0 ∙ map-id old.least.items in
    ap (in_codes c.args.ordered.now.order)
    (copied_value g.row.C.Denot test old new (λ (n : ℕ). c.in_ok-copy_sets.ensures.places n ∙ ap (lists_of n test) c.deref.ensures.value) c.in_ok-copy.ensures.places same)

pub returns-clause-placed : goal.returns-clause-placed
returns-clause-placed g c =
    let test = g.C.CountySet.test in
    let old = c.args.state.now in
    let new : StateHeld g.row.C.Denot = record { closed = c.in_ok-copy_sets.field-0; rest = c.in_ok-copy.field-0; least = c.in_ok-clone.field-0 } in
    let same : c.in_ok-clone.field-0.items ≡ old.least.items = AllZip-map (λ x. x) old.least.items c.in_ok-clone.field-0.items c.in_ok-clone.ensures.cases.0 ∙ map-id old.least.items in
    copied_placed g.row.C.Denot test (length c.args.ordered.now.order) old new (λ (n : ℕ). c.in_ok-copy_sets.ensures.places n ∙ ap (lists_of n test) c.deref.ensures.value) c.in_ok-copy.ensures.places same c.requires.placed
