-- What was pulled from a source and isn't taken yet.
use Rattle.std.specs.Prelude.{◌≡◌, ℕ, Bool, true, List, [], ◌++◌}
use Rattle.field_lines.specs.Source.{Given}

-- the bytes that were taken since the last pull, and those that are held
pub record Pulled : Type 0 where
  pub taken : List ℕ
  pub bytes : List ℕ

-- no byte so far
abbrev pub no_bytes : Pulled
no_bytes = record { taken = []; bytes = [] }

-- bytes that may come yet: none after the end
abbrev pub MayCome : Bool → List ℕ → Type 0
MayCome ended later = ended ≡ true → later ≡ []

-- A source that gave these bytes may give this text in the end.
pub record Foresees (given : Given) (all : List ℕ) : Type 0 where
  pub later : List ℕ
  pub text : all ≡ given.bytes ++ later
  pub may : MayCome given.ended later

-- after the end nothing is pulled, and it stays
abbrev pub StaysEnded : Bool → List ℕ → Bool → Type 0
StaysEnded before pulled after = before ≡ true → (pulled ≡ []) × (after ≡ true)

-- the bytes that a source gave meanwhile are put behind those that are held
pub record Pulls (given_before given_after : Given) (before after : Pulled) : Type 0 where
  pub pulled : List ℕ
  pub given : given_after.bytes ≡ given_before.bytes ++ pulled
  pub held : after.bytes ≡ before.bytes ++ pulled
  pub end : StaysEnded given_before.ended pulled given_after.ended
