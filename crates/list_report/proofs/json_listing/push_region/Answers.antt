use Rattle.std.proofs.Common.{append_assoc}
use Rattle.json_report.specs.Parts.{code_tokens}
use Rattle.list_report.specs.ListingObject.{alternative_objects}
use Rattle.json_report.proofs.Adding.{token, part, part_of, last_token}
use Rattle.list_report.proofs.json_listing.push_region.Goals as goal

pub returns : goal.returns
returns c =
    rw (append_assoc, append_assoc)
    (token c.in_ok-begin_object.ensures
    (part _ c.in_ok-push_number.ensures
    (token c.in_ok-key.ensures
    (part_of code_tokens c.args.region.now.counties c.as_slice.ensures c.in_ok-push_codes.ensures
    (token c.in_ok-key-2.ensures
    (token c.in_ok-begin_array.ensures
    (part_of (alternative_objects c.args.problem.now 1) c.args.region.now.alternatives c.as_slice-2.ensures
    c.in_ok-push_alternatives.ensures
    (token c.in_ok-end_array.ensures (last_token _ c.end_object.ensures))))))))).adds
