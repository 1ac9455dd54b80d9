-- The object of a line that stands in place of an answer.
use Rattle.std.specs.Prelude.{ℕ, ◌-◌, List, None, length, take, codes}
use Rattle.json_report.specs.Parts.{text_member, if_utf8}
use Rattle.json_report.specs.ReportObject.{object_line}

-- a line without its line feed
abbrev pub without_end : List ℕ → List ℕ
without_end line = take (length line - 1) line

-- the object of a line: the line without its line feed
abbrev pub message_json : List ℕ → List ℕ
message_json line = object_line (text_member (codes "message") (if_utf8 (without_end line))) None
