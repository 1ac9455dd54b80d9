use Rattle.partial_text.proofs.OnePart.{one_part_text, one_part, no_part_begins}
use Rattle.partial_text.proofs.laws.parts_have_one_text.Goals as goal

pub returns : goal.returns
returns c = record { one_text = one_part_text; one_value = one_part; no_prefix = no_part_begins }
