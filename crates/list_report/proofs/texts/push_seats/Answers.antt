use Rattle.std.proofs.Common.{◌≡◌, ◌++◌, refl, codes, decimal}
use Rattle.grouping_report.proofs.Appends.{first, last}
use Rattle.std.proofs.lemmas.Bool.{ne_eqb}
use Rattle.grouping_report.specs.FaultWords.{with_number}
use Rattle.list_report.specs.Listing.{seats_words}
use Rattle.list_report.proofs.texts.push_seats.Goals as goal

pub returns-else-least-greatest : goal.returns-else-least-greatest
returns-else-least-greatest c =
    let words : seats_words c.args.run ≡ decimal c.in-Some.least ++ with_number (codes " to ") c.in-Some.greatest = rw (c.in-Some.is, ne_eqb c.in-Some.least c.in-Some.greatest c.if-least-greatest.false) refl in
    let one = first c.args.out.now.items _ c.in_ok-push_number-in-Some.ensures in
    rw (words, ← c.from.ensures, ← c.from-in-Some.ensures) (last c.push_words_number.result _ _ one c.push_words_number.ensures)
