-- What the lines of a file say of each block.
use Rattle.std.specs.Prelude.{ℕ, nat_le, ◌==◌, ◌&&◌, ◌||◌, Bool, true, false, List, Option, Some, None, if◌then◌else◌}
use Rattle.std.specs.List.{list_any}
use Rattle.baf_auditor.specs.Labels.{assigns}
use Rattle.baf_auditor.specs.Findings.{times_named}
use Rattle.baf_auditor.specs.declared.assignments.Assignment.{Assignment}
use Rattle.baf_auditor.specs.declared.line_counts.Named.{Named}

-- whether some line gives the block to a district
abbrev pub is_assigned : List Assignment → ℕ → Bool
is_assigned lines code = list_any (λ line. line.block == code && assigns line.label) lines

-- what lines say of a block that they name so often
abbrev pub named_times : ℕ → Bool → Option Named
named_times times assigned = if times == 0 then None else Some (record { twice = nat_le 2 times; assigned = assigned })

-- what lines say of a block, if they name it
abbrev pub naming : List Assignment → ℕ → Option Named
naming lines code = named_times (times_named lines code) (is_assigned lines code)

-- what is said of a block after a further line that names it
abbrev pub named_again : Option Named → List ℕ → Named
named_again None label = record { twice = false; assigned = assigns label }
named_again (Some before) label = record { twice = true; assigned = before.assigned || assigns label }

-- what is said of the block of a code after a further line
abbrev pub after_line : ℕ → Option Named → Assignment → Option Named
after_line code before line = if line.block == code then Some (named_again before line.label) else before

-- whether some line gives a block to a district, by what is said of it
abbrev pub has_district : Option Named → Bool
has_district None = false
has_district (Some named) = named.assigned
