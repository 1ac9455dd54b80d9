-- What a run writes before its answer, as it goes on: `board` and `worker` write what they have to say at once.
use Rattle.std.specs.Prelude.{ℕ, List, ◌++◌}
use Rattle.cli_answers.specs.Answer.{Answered}

-- an answer behind a text that was written before it
abbrev pub behind : List ℕ → Answered → Answered
behind text a = record { text = text ++ a.text; status = a.status }
