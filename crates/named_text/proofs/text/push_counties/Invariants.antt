use Rattle.std.proofs.Common.{◌≡◌, ◌++◌, map, codes}
use Rattle.pl94_counties.specs.CountyNames.{county_name}
use Rattle.named_text.specs.NamedText.{counties_text}
use Rattle.named_text.proofs.text.push_counties.Given as goal

abbrev pub invariant-loop-word : goal.invariant-loop-word
invariant-loop-word l =
    l.out.items ++ counties_text (map county_name l.named) l.mark l.word-iterator
    ≡ l.fn.out.items ++ counties_text (map county_name l.named) (codes " ") l.fn.words
