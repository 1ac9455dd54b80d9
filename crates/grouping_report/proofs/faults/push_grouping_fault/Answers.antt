use Rattle.grouping_report.proofs.Appends.{first, last}
use Rattle.grouping_report.proofs.faults.push_grouping_fault.Goals as goal

pub returns-in-EmptyGroup : goal.returns-in-EmptyGroup
returns-in-EmptyGroup c = rw c.in-EmptyGroup.is c.push_words_number.ensures

pub returns-in_ok-push_words_number-in-UnknownCounty : goal.returns-in_ok-push_words_number-in-UnknownCounty
returns-in_ok-push_words_number-in-UnknownCounty c =
    rw c.in-UnknownCounty.is (last c.push_words_code.result _ _ (first c.args.out.now.items _ c.in_ok-push_words_number-in-UnknownCounty.ensures) c.push_words_code.ensures)

pub returns-in-Twice : goal.returns-in-Twice
returns-in-Twice c = rw c.in-Twice.is c.push_words_code-in-Twice.ensures

pub returns-in-Missing : goal.returns-in-Missing
returns-in-Missing c = rw c.in-Missing.is c.push_words_code-in-Missing.ensures

pub returns-in-NotConnected : goal.returns-in-NotConnected
returns-in-NotConnected c = rw c.in-NotConnected.is c.push_words_number-in-NotConnected.ensures

pub returns-in-OutOfWindow : goal.returns-in-OutOfWindow
returns-in-OutOfWindow c = rw c.in-OutOfWindow.is c.push_words_number-in-OutOfWindow.ensures

pub returns-in_ok-push_words_number-in-SeatsTotal : goal.returns-in_ok-push_words_number-in-SeatsTotal
returns-in_ok-push_words_number-in-SeatsTotal c =
    rw (c.in-SeatsTotal.is, ← c.from.ensures) (last c.push_words_number-in-SeatsTotal-2.result _ _ (first c.args.out.now.items _ c.in_ok-push_words_number-in-SeatsTotal.ensures) c.push_words_number-in-SeatsTotal-2.ensures)
