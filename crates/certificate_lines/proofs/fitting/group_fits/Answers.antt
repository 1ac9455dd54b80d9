use Rattle.std.proofs.Common.{◌≡◌, ◌∙◌, true, sym, subst}
use Rattle.std.specs.Prelude.{nat_le}
use Rattle.std.proofs.lemmas.Bool.{le-leb, leb-true}
use Rattle.certificate_lines.specs.Fitting.{IsSet}
use Rattle.certificate_lines.proofs.fitting.group_fits.Goals as goal

pub returns-then-not-are_seats : goal.returns-then-not-are_seats
returns-then-not-are_seats c = (
  (λ e. cc),
  (λ fit.
      let few : nat_le c.args.group.now.seats 65535 ≡ true = le-leb c.args.group.now.seats 65535 fit.0 in
      cc (few, c.are_seats.ensures, c.if-not-are_seats.true)),
)

pub returns : goal.returns
returns c = (
  (λ e. (leb-true c.args.group.now.seats 65535 (sym c.are_seats.ensures ∙ c.if-not-are_seats.false), subst IsSet c.as_slice.ensures (c.take_fits.ensures.0 e))),
  (λ fit. c.take_fits.ensures.1 (subst IsSet (sym c.as_slice.ensures) fit.1)),
)
