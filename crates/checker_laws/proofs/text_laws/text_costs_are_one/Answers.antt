use Rattle.checker_laws.proofs.TextCosts.{text_costs_are_one}
use Rattle.checker_laws.proofs.text_laws.text_costs_are_one.Goals as goal

pub returns : goal.returns
returns c = text_costs_are_one
