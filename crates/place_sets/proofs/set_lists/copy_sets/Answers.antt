use Rattle.std.proofs.Common.{◌≡◌, ℕ, ◌+◌, ◌<◌, ◌≤◌, Bool, List, [], ◌∷◌, ◌++◌, add-one, append_assoc, append-nil, map, drop, get_or, length, sym, ap, ◌∙◌}
use mathlib.Core.Path.{fun_ext}
use Rattle.std.proofs.Math.Seq.{drop-cons}
use Rattle.std.proofs.lemmas.List.{map-append, drop_all}
use Rattle.place_sets.proofs.SetLists.{lists_same}
use Rattle.place_sets.proofs.set_lists.copy_sets.Goals as goal

-- one more copy
one_more : (C : Type 0) (test : C → ℕ → Bool) (old new sets : List C) (i : ℕ) (item copy : C) → i < length sets → item ≡ get_or sets i item → test copy ≡ test item → new ≡ old ++ copy ∷ [] → map test old ++ map test (drop i sets) ≡ map test sets
    → map test new ++ map test (drop (i + 1) sets) ≡ map test sets
one_more C test old new sets i item copy below at same is so_far =
    let rest = map test (drop (i + 1) sets) in
    let next : drop i sets ≡ get_or sets i item ∷ drop (i + 1) sets = rw (add-one, drop-cons sets i item) in
    let step : test copy ∷ rest ≡ map test (drop i sets) = ap (λ z. z ∷ rest) (same ∙ ap test at) ∙ ap (map test) (sym next) in
    ap (λ z. map test z ++ rest) is ∙ (ap (λ z. z ++ rest) (map-append test old (copy ∷ [])) ∙ (append_assoc (map test old) (test copy ∷ []) rest ∙ (ap (λ z. map test old ++ z) step ∙ so_far)))

-- all are copied
all_copied : (C : Type 0) (test : C → ℕ → Bool) (copies sets : List C) (i : ℕ) → length sets ≤ i → map test copies ++ map test (drop i sets) ≡ map test sets → map test copies ≡ map test sets
all_copied C test copies sets i whole so_far = sym (append-nil (map test copies)) ∙ (ap (λ z. map test copies ++ map test z) (sym (drop_all i sets whole)) ∙ so_far)

pub loop-set-init : goal.loop-set-init
loop-set-init g c = ap (λ (z : List g.row.C.Denot). map g.C.CountySet.test z ++ map g.C.CountySet.test c.args.sets.now) c.new-copies.ensures.items

pub loop-set-preserved : goal.loop-set-preserved
loop-set-preserved g c = one_more g.row.C.Denot g.C.CountySet.test c.loop-set.copies.items c.push.new.self.items c.args.sets.now c.loop-set.set-index c.set-item.result c.in_ok-copy.field-0 c.loop-set-test.true c.set-item.is (fun_ext c.in_ok-copy.ensures.places) c.in_ok-push.ensures.items c.loop-set.invariant

pub returns-clause-tests : goal.returns-clause-tests
returns-clause-tests g c = all_copied g.row.C.Denot g.C.CountySet.test c.loop-set.copies.items c.args.sets.now c.loop-set.set-index c.loop-set-test.false c.loop-set.invariant

pub returns-clause-places : goal.returns-clause-places
returns-clause-places g c = λ n. lists_same g.row.C.Denot n g.C.CountySet.test c.loop-set.copies.items c.args.sets.now (all_copied g.row.C.Denot g.C.CountySet.test c.loop-set.copies.items c.args.sets.now c.loop-set.set-index c.loop-set-test.false c.loop-set.invariant)
