use Rattle.grouping_report.proofs.findings.push_finding.Goals as goal

pub returns-in-UnknownBlock : goal.returns-in-UnknownBlock
returns-in-UnknownBlock c = rw c.in-UnknownBlock.is c.push_words_block.ensures

pub returns-in-BlockTwice : goal.returns-in-BlockTwice
returns-in-BlockTwice c = rw c.in-BlockTwice.is c.push_words_block-in-BlockTwice.ensures

pub returns-in-Unassigned : goal.returns-in-Unassigned
returns-in-Unassigned c = rw c.in-Unassigned.is c.push_words_block-in-Unassigned.ensures

pub returns-in-Crosses : goal.returns-in-Crosses
returns-in-Crosses c = rw c.in-Crosses.is c.push_crossing.ensures

pub returns-in-WrongNumber : goal.returns-in-WrongNumber
returns-in-WrongNumber c = rw c.in-WrongNumber.is c.push_wrong_number.ensures

pub returns-in-DistrictSize : goal.returns-in-DistrictSize
returns-in-DistrictSize c = rw c.in-DistrictSize.is c.push_size.ensures
