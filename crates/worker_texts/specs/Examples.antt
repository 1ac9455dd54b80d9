-- What is told of the first round for three counties: a group has at most four, and the target has two groups.
use Rattle.std.specs.Prelude.{ℕ, List, [], ◌∷◌, codes}
use Rattle.worker_texts.specs.RoundText.{RoundTold}

abbrev pub first_round : RoundTold
first_round =
    record {
      number = 1;
      limit = 4;
      target = record { seats = 2; codes = 37001 ∷ 37003 ∷ [] } ∷ record { seats = 1; codes = 37005 ∷ [] } ∷ [];
    }

-- its text
abbrev pub round_text : List ℕ
round_text = codes "round 1 4 2\ngroup 2 37001 37003\ngroup 1 37005\n"
