-- The piece at the front of bytes that were pulled.
use Rattle.std.specs.Prelude.{◌≡◌, ℕ, ◌+◌, ◌<◌, ◌≤◌, Bool, true, false, List, [], ◌∷◌, ◌++◌, Option, Some, None, take}
use Rattle.std.specs.Prelude.{drop, length, All}
use Rattle.field_lines.specs.RawPieces.{is_lf}
use Rattle.field_lines.specs.Fault.{most_bytes}
use Rattle.field_lines.specs.declared.front.FrontPiece.{FrontPiece}

-- no byte is LF
abbrev pub HasNoLf : List ℕ → Type 0
HasNoLf bytes = All (λ b. is_lf b ≡ false) bytes

-- the first LF stands at this place
pub record HasLfAt (bytes : List ℕ) (place : ℕ) : Type 0 where
  pub within : place < length bytes
  pub before : HasNoLf (take place bytes)
  pub parts : bytes ≡ take place bytes ++ 10 ∷ drop (place + 1) bytes

-- all of the bytes are a piece, of which no more comes if it isn't longer than a line may be
pub record IsAllOf (bytes : List ℕ) (ended : Bool) (count : ℕ) : Type 0 where
  pub no_lf : HasNoLf bytes
  pub all : count ≡ length bytes
  pub some : 1 ≤ count
  pub last : count ≤ most_bytes → ended ≡ true

-- a piece of `count` bytes stands at the front, with an LF or without
abbrev pub IsFrontPiece : List ℕ → Bool → ℕ → Bool → Type 0
IsFrontPiece bytes ended count true = HasLfAt bytes count
IsFrontPiece bytes ended count false = IsAllOf bytes ended count

-- `count` bytes stand at the front, and an LF behind them, if there is one
abbrev pub IsWithin : List ℕ → ℕ → Bool → Type 0
IsWithin bytes count ended = (count ≤ length bytes) × (ended ≡ true → count < length bytes)

-- the piece at the front, or the end
abbrev pub HasFront : List ℕ → Bool → Option FrontPiece → Type 0
HasFront bytes ended (Some front) = IsFrontPiece bytes ended front.length front.ended
HasFront bytes ended None = (bytes ≡ []) × (ended ≡ true)
