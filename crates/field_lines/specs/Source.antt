-- What a source gives.
use Rattle.std.specs.Prelude.{◌≡◌, ◌==◌, ℕ, Bool, true, false, List, [], ◌++◌, take, Result, Ok, Err}

-- the bytes that a source gave so far, and whether it has ended: its last pull gave none
pub record Given : Type 0 where
  pub bytes : List ℕ
  pub ended : Bool

-- nothing so far
abbrev pub nothing_given : Given
nothing_given = record { bytes = []; ended = false }

-- nothing, and nothing comes: what is pulled for a text that stands in memory
abbrev pub nothing_comes : Given
nothing_comes = record { bytes = []; ended = true }

-- A pull that answers n gives the first n bytes of the buffer, and is the end if n is 0. A pull that answers an error
-- gives none.
abbrev pub Gives : {E : Type 0} → Given → Given → Result ℕ E → List ℕ → Type 0
Gives before after (Ok n) buffer = (after.bytes ≡ before.bytes ++ take n buffer) × (after.ended ≡ (n == 0))
Gives before after (Err fault) buffer = after ≡ before
