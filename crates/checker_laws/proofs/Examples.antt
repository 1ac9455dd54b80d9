-- The verdicts of the examples.
use Rattle.std.proofs.Common.{◌≡◌, [], ◌∷◌, length, refl, ap, arith, inl, inr}
use Rattle.grouping_laws.proofs.Elements.{Has, has_from_contains}
use Rattle.certificate_laws.specs.Examples.{path, stranding, plain_round}
use Rattle.certificate_laws.proofs.Examples.{plain_certificate}
use Rattle.checker_laws.specs.Fault.{MissingGroup, StrayGroup}
use Rattle.checker_laws.specs.End.{faulty}
use Rattle.checker_laws.specs.Verdict.{No, IsVerdict}
use Rattle.checker_laws.specs.Examples.{untaken, strayed}

some_left : (path ∷ []) ≡ [] → ⊥
some_left e = omega (arith, ap length e)

pub untaken_misses : IsVerdict stranding plain_round untaken (No MissingGroup 7)
untaken_misses =
    let c = plain_certificate in
    (faulty MissingGroup 7, inr (2, (c.tolerance, refl), inr (3, (c.order, refl), inr (4, (c.target.1, refl), inr (6, (c.target.0, refl), inr (7, ((c.proof.0, c.proof.1), refl), (path ∷ [], c.proof.2, inl ((refl, some_left), refl))))))), refl)

not_alone : Has (path ∷ []) (37001 ∷ []) → ⊥
not_alone (inl e) = omega (arith, ap length e)
not_alone (inr h) = h

pub strayed_strays : IsVerdict stranding plain_round strayed (No StrayGroup 7)
strayed_strays =
    let c = plain_certificate in (
      faulty StrayGroup 7,
      inr (
        2,
        (c.tolerance, refl),
        inr (
          3,
          (c.order, refl),
          inr (
            4,
            (c.target.1, refl),
            inr (
              6,
              (c.target.0, refl),
              inr (
                7,
                ((c.proof.0, c.proof.1), refl),
                (path ∷ [], c.proof.2, inl (inl (inr (refl, λ k. not_alone (has_from_contains (path ∷ []) (37001 ∷ []) k)), refl))),
              ),
            ),
          ),
        ),
      ),
      refl,
    )
