use Rattle.std.proofs.Common.{◌≡◌, ◌++◌, map, length, []}
use Rattle.field_lines.specs.Fields.{fields_of}
use Rattle.pl94_counties.specs.CountyNames.{county_name}
use Rattle.named_text.specs.NamedText.{group_text}
use Rattle.named_text.proofs.text.push_group.Given as goal

abbrev pub invariant-loop-word : goal.invariant-loop-word
invariant-loop-word l =
    l.out.items ++ group_text (map county_name l.named) l.mark l.words
    ≡ l.fn.out.items ++ group_text (map county_name l.named) [] (fields_of 32 l.fn.line)

abbrev pub decreases-loop-word : goal.decreases-loop-word
decreases-loop-word l = length l.words
