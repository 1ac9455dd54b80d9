-- The first round of a board whose counties stand by ascending codes.
use Rattle.std.specs.Prelude.{ℕ, ◌≡◌}
use Rattle.std.specs.List.Sorted.{IsStrictlyIncreasing}
use Rattle.grouping_laws.specs.Problem.{Problem}
use Rattle.grouping_laws.specs.Grouping.{Grouping}
use Rattle.grouping_laws.specs.GroupsFrom.{IsOrder}
use Rattle.certificate_data.specs.declared.format.Format.{Format}
use Rattle.certificate_data.specs.Round.{Round}
use Rattle.share_board.specs.Rounds.{first_round}

-- the first round of a board, of which there is one: its order has each county of the problem once, by ascending codes
pub record IsFirstRound (p : Problem) (target : Grouping) (limit : ℕ) (format : Format)
    (round : Round) : Type 0 where
  pub order : IsOrder p round.order
  pub ascending : IsStrictlyIncreasing round.order
  pub is : round ≡ first_round p target round.order limit format

-- the first round of a problem whose counties are listed by ascending codes
abbrev pub round_by_code : Problem → Grouping → ℕ → Format → Round
round_by_code p target limit format = first_round p target p.counties limit format
