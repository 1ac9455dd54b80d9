-- The events by which a board goes on from where a search stopped. The board's first target is the grouping of the
-- search, and the limit of its first round is the longest group.
use Rattle.std.specs.Prelude.{List, [], ◌∷◌, Option, Some, None}
use Rattle.board_laws.specs.Content.{Event, part_piece}
use Rattle.partial_trees.specs.PartialValue.{partial_of}
use Rattle.partial_trees.specs.declared.tree.PartialTree.{PartialTree}

-- the part of the first piece of the first round, which is the proof as a whole; none, if nothing was proved of it
abbrev pub resuming_events : Option PartialTree → List Event
resuming_events None = []
resuming_events (Some part) = part_piece 1 1 (partial_of part) ∷ []
