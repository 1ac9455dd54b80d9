use Rattle.std.proofs.Common.{map, codes}
use Rattle.field_lines.specs.Fields.{fields_of}
use Rattle.pl94_counties.specs.CountyNames.{county_name}
use Rattle.named_text.specs.NamedText.{line_text}
use Rattle.named_text.proofs.Joining.{joined}
use Rattle.named_text.proofs.text.named_text.Goals as goal

pub loop-line-init : goal.loop-line-init
loop-line-init c =
    rw (c.new-out.ensures.items, c.into_iter-line-iterator.ensures.into_iter_gives, c.new-line-items.ensures.fields)
    (joined (line_text (map county_name c.args.named.now)) (codes "\n") (fields_of 10 c.args.text.now))
