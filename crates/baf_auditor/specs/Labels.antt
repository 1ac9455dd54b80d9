-- Labels of districts.
use Rattle.std.specs.Prelude.{ℕ, nat_le, ◌&&◌, not, Bool, List, length, Option, Some, None, if◌then◌else◌, codes}
use Rattle.std.specs.List.{list_all}
use Rattle.std.specs.Str.{bytes_eq}

-- whether each byte is from 0x20 to 0x7E
abbrev pub is_printable_label : List ℕ → Bool
is_printable_label bytes = list_all (λ b. nat_le 32 b && nat_le b 126) bytes

-- whether bytes make a label: at most 32, each from 0x20 to 0x7E
abbrev pub is_label : List ℕ → Bool
is_label bytes = nat_le (length bytes) 32 && is_printable_label bytes

-- the label that bytes make
abbrev pub label_of : List ℕ → Option (List ℕ)
label_of bytes = if is_label bytes then Some bytes else None

-- whether a label assigns a block to a district: it isn't empty, and it isn't `ZZZ`
abbrev pub assigns : List ℕ → Bool
assigns label = not (nat_le (length label) 0) && not (bytes_eq label (codes "ZZZ"))
