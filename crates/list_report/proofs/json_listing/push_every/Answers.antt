use Rattle.json_report.proofs.Adding.{token, last_token}
use Rattle.list_report.proofs.json_listing.push_every.Goals as goal

pub returns : goal.returns
returns c = (token c.in_ok-key.ensures (last_token _ c.boolean.ensures)).adds
