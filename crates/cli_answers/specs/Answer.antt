-- What the program writes, and its exit status.
use Rattle.std.specs.Prelude.{ℕ, List, codes}

-- a text and an exit status
pub record Answered : Type 0 where
  pub text : List ℕ
  pub status : ℕ

-- a growth was refused
abbrev pub memory_answer : Answered
memory_answer = record { text = codes "memory\n"; status = 5 }

-- an answer with exit status 0
abbrev pub success : List ℕ → Answered
success text = record { text = text; status = 0 }

-- the budget of a check was too small
abbrev pub budget_answer : Answered
budget_answer = record { text = codes "budget\n"; status = 3 }
