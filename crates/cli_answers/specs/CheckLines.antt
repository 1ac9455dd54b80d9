-- The line that stands for a text that is no certificate.
use Rattle.std.specs.Prelude.{ℕ, List, ◌++◌, codes, decimal}
use Rattle.state_judge.specs.declared.fault.CheckFault.{CheckFault}
use Rattle.state_judge.specs.FaultWords.{check_words}
use Rattle.cli_answers.specs.Answer.{Answered}

-- `no KIND line L`
unfoldable pub no_line : CheckFault → ℕ → List ℕ
no_line fault line = codes "no " ++ check_words fault ++ codes " line " ++ decimal line ++ codes "\n"

-- the answer to a text that is no certificate, with exit status 1
abbrev pub no_answer : CheckFault → ℕ → Answered
no_answer fault line = record { text = no_line fault line; status = 1 }
