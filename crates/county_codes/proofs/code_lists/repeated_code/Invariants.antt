use Rattle.std.proofs.Common.{◌≡◌, take, drop}
use Rattle.county_codes.specs.CodeLists.{repeated_after, first_repeated}
use Rattle.county_codes.proofs.code_lists.repeated_code.Given as goal

abbrev pub invariant-loop-i : goal.invariant-loop-i
invariant-loop-i l = repeated_after (take l.i l.codes) (drop l.i l.codes) ≡ first_repeated l.codes
