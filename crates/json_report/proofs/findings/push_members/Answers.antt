use Rattle.json_report.proofs.findings.push_members.Goals as goal

pub returns-in-UnknownBlock : goal.returns-in-UnknownBlock
returns-in-UnknownBlock c = rw c.in-UnknownBlock.is c.push_of_block.ensures
