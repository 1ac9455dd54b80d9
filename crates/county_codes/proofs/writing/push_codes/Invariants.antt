use Rattle.std.proofs.Common.{◌≡◌, ◌≤◌, ◌++◌, All, take, drop}
use Rattle.county_codes.specs.Digits.{each_after}
use Rattle.county_codes.proofs.writing.push_codes.Given as goal

abbrev pub invariant-loop-code : goal.invariant-loop-code
invariant-loop-code l = record {
  text : l.out.items ++ each_after l.mark (drop l.code-index l.codes) ≡ l.fn.out.items ++ each_after l.mark l.codes;
  small : All (λ code. code ≤ 99999) (take l.code-index l.codes);
}
