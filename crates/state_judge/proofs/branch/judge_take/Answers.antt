use Rattle.std.proofs.Common.{◌≡◌, Some, refl, sym, ap, ◌∙◌, inl, inr}
use Rattle.std.specs.List.{slice_get}
use Rattle.std.proofs.lemmas.Bool.{false≢true}
use Rattle.checker_laws.specs.Fault.{MissingGroup, StrayGroup}
use Rattle.state_groups.specs.PlacedValues.{codes_of_set}
use Rattle.state_judge.proofs.TakeLemmas.{none_next}
use Rattle.state_judge.proofs.branch.judge_take.Goals.{in-Some+else-has_codes, in_default}
use Rattle.state_judge.proofs.branch.judge_take.Goals as goal

pub returns-then-is_listed : goal.returns-then-is_listed
returns-then-is_listed g c = (MissingGroup, refl, inl (refl, c.is_listed.ensures.0 c.if-is_listed.true, none_next (codes_of_set c.args.ordered.now.order g.C.CountySet.test) c.args.groups.now c.args.codes.now other))
  where
    other : (x : g.row.C.Denot) → slice_get c.args.groups.now 0 ≡ Some x → codes_of_set c.args.ordered.now.order g.C.CountySet.test x ≡ c.args.codes.now → ⊥
    other x is e = elim c.match-first.branch [
      | in-Some+else-has_codes w ↦
          let v = w.in-Some.ensures.value in
          let same : w.in-Some.first.now ≡ x = cc in
          false≢true (sym w.if-has_codes.false ∙ w.has_codes.ensures.1 (ap (codes_of_set c.args.ordered.now.order g.C.CountySet.test) same ∙ e))
      | in_default w ↦ let v = w.in_default.ensures.value in absurd (cc)
    ]

pub returns : goal.returns
returns g c = (StrayGroup, refl, inr (refl, λ k. false≢true (sym c.if-is_listed.false ∙ c.is_listed.ensures.1 k)))
