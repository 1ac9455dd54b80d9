-- Codes of counties with names.
use Rattle.std.specs.Prelude.{ℕ, List}

-- the code of a county and a name
pub record CodeName : Type 0 where
  pub code : ℕ
  pub name : List ℕ

abbrev pub code_name : ℕ → List ℕ → CodeName
code_name code name = record { code = code; name = name }
