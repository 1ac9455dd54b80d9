use Rattle.std.proofs.Common.{◌≡◌, ◌++◌, map, codes}
use Rattle.pl94_counties.specs.CountyNames.{county_name}
use Rattle.named_text.specs.NamedText.{line_text, named_text}
use Rattle.named_text.proofs.Joining.{joined_after}
use Rattle.named_text.proofs.text.named_text.Given as goal

abbrev pub invariant-loop-line : goal.invariant-loop-line
invariant-loop-line l =
    l.out.items ++ joined_after (line_text (map county_name l.named)) (codes "\n") l.mark l.line-iterator
    ≡ named_text (map county_name l.named) l.fn.text
