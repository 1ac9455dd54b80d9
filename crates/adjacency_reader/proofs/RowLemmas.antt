-- The lines of an adjacency file that are left to be read.
use Rattle.std.proofs.Common.{Bool, true, false, List}
use Rattle.field_lines.specs.Cut.{Line}
use Rattle.adjacency_reader.specs.Rows.{without_header}

-- the rows among the lines that are left: at the start of the file the first may be a header
abbrev pub lines_left : Bool → List Line → List Line
lines_left true lines = without_header lines
lines_left false lines = lines
