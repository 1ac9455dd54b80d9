use Rattle.std.proofs.Common.{◌≡◌, Err, sym, ◌∙◌, rules}
use Rattle.pl94_counties.specs.Geo.{area_on}
use Rattle.pl94_counties.proofs.OfTextLemmas.{of_area}
use Rattle.pl94_counties.proofs.area_list.add_line.Goals as goal

pub returns-in_err-code-clause-of_text : goal.returns-in_err-code-clause-of_text
returns-in_err-code-clause-of_text c =
    let kind = c.in_err-code.field-0.0 in
    let is : c.from_residual.result ≡ Err kind = search rules in
    let gives : area_on c.args.area c.args.state c.args.records.now.entries c.args.line.now ≡ Err kind = sym c.area_in.ensures ∙ c.in_err-code.was in
    rw is (of_area c.args.area c.args.state c.args.records.now.entries kind c.args.line.now gives)
