use Rattle.std.proofs.Common.{◌≡◌, ◌++◌, List, length, map}
use Rattle.county_codes.specs.declared.group.Group.{Group as GroupValue}
use Rattle.certificate_lines.specs.declared.item.Item.{Item as ItemValue}
use Rattle.certificate_lines.specs.declared.item.Item.TheVariants as item
use Rattle.certificate_checker.specs.Feeding.{stream_of, CountsSteps, FeedsThrough, ForEach, Fed}
use Rattle.certificate_checker.proofs.RoundsRead.{GroupsLeft}
use Rattle.certificate_checker.proofs.rounds.read_groups.Given as goal

abbrev pub invariant-reading : goal.invariant-reading
invariant-reading g l = record {
  counts : CountsSteps l.fn.feed l.feed;
  fed : FeedsThrough (stream_of g.S.ItemSource.left g.S.ItemSource.given l.fn.feed l.fn.from) (stream_of g.S.ItemSource.left g.S.ItemSource.given l.feed l.from) Fed;
  number : length l.groups.items ≡ l.done;
  left : ForEach (stream_of g.S.ItemSource.left g.S.ItemSource.given l.fn.feed l.fn.from) (stream_of g.S.ItemSource.left g.S.ItemSource.given l.feed l.from) (λ a b. (groups : List GroupValue) (rest : List ItemValue)
      → length groups ≡ l.count
      → a.reading.items ≡ map item.Grouped groups ++ rest
      → GroupsLeft groups rest l.groups.items a b);
}
