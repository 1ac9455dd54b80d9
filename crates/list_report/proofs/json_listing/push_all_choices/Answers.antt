use Rattle.std.proofs.Common.{◌≡◌, ◌==◌, ◌∙◌, length, false, sym}
use Rattle.list_report.specs.Alternatives.{product}
use Rattle.json_report.proofs.Adding.{token, part, last_token}
use Rattle.list_report.proofs.json_listing.push_all_choices.Goals as goal

pub returns : goal.returns
returns c =
    let no : (product c.args.regions.now == length c.args.listed.now) ≡ false =
    sym c.has_product.ensures ∙ c.if-has_product.false in
    rw no
    (part _ c.in_ok-push_every.ensures
    (token c.in_ok-key.ensures
    (token c.in_ok-begin_array.ensures
    (part _ c.in_ok-push_choices.ensures (last_token _ c.end_array.ensures))))).adds
