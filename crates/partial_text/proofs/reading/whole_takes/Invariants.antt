use Rattle.std.proofs.Common.{◌≡◌, ◌++◌, length}
use Rattle.std.specs.List.{flat_map}
use Rattle.std.specs.Vec.Iter.{into_iter_items, into_iter_len}
use Rattle.certificate_data.specs.TreeValue.{list_of_takes}
use Rattle.certificate_text.specs.Trees.{items_of_takes}
use Rattle.partial_text.specs.Reading.{part_take_items}
use Rattle.partial_text.proofs.reading.whole_takes.Given as goal

abbrev pub invariant-loop-take : goal.invariant-loop-take
invariant-loop-take l = record {
  all : l.yielded ++ into_iter_items l.take-iterator ≡ l.fn.takes.items;
  items : items_of_takes (list_of_takes l.whole.items) ≡ flat_map part_take_items l.yielded;
  long : into_iter_len l.take-iterator ≡ length (into_iter_items l.take-iterator);
}
