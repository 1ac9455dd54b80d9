use Rattle.std.proofs.Common.{◌≡◌, drop}
use Rattle.county_codes.specs.CodeLists.{first_unlisted}
use Rattle.county_codes.proofs.code_lists.unlisted_code.Given as goal

abbrev pub invariant-loop-code : goal.invariant-loop-code
invariant-loop-code l = first_unlisted l.listed (drop l.code-index l.codes) ≡ first_unlisted l.listed l.codes
