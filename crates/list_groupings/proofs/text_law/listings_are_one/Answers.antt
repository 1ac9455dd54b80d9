use Rattle.list_groupings.proofs.OneText.{listings_are_one}
use Rattle.list_groupings.proofs.text_law.listings_are_one.Goals as goal

pub returns : goal.returns
returns c = listings_are_one
