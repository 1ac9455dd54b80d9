use Rattle.county_codes.specs.Digits.{five_digits}
use Rattle.district_table.proofs.Blanks.{blanks_before}
use Rattle.district_table.proofs.table.push_counties.Goals as goal

pub returns-in_ok-push_code-in-len1-up : goal.returns-in_ok-push_code-in-len1-up
returns-in_ok-push_code-in-len1-up c =
    let digits = c.in_ok-push_code-in-len1-up.ensures.text in
    let text = rw digits at c.push_codes.ensures.text in
    rw (blanks_before five_digits c.args.out.now.items c.args.counties.now c.first-item.result c.in-len1-up.len_at_least, ← c.first-item.is) text
