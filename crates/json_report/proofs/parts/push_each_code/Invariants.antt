use Rattle.std.proofs.Common.{◌≡◌, ◌++◌, map, drop}
use Rattle.json.specs.Token.{string}
use Rattle.county_codes.specs.Digits.{five_digits}
use Rattle.json_report.proofs.parts.push_each_code.Given as goal

abbrev pub invariant-loop-code : goal.invariant-loop-code
invariant-loop-code l = record {
  before : l.out.before ≡ l.fn.out.before;
  so_far : l.out.tokens ++ map (λ c. string (five_digits c)) (drop l.code-index l.codes)
      ≡ l.fn.out.tokens ++ map (λ c. string (five_digits c)) l.codes;
}
