use Rattle.certificate_text.proofs.ItemReadingLaws.{readings_are_items}
use Rattle.certificate_text.proofs.laws.items_come_in_turn.Goals as goal

pub returns : goal.returns
returns c = readings_are_items
