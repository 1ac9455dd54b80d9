-- The text of a round.
use Rattle.std.specs.Prelude.{ℕ, ◌≤◌, List, [], ◌∷◌, ◌++◌, map, length, codes, decimal}
use Rattle.grouping_laws.specs.Grouping.{Grouping}
use Rattle.certificate_lines.specs.Lines.{most}
use Rattle.certificate_lines.specs.Items.{groups_wanted}
use Rattle.certificate_lines.specs.Fitting.{AllFit}
use Rattle.certificate_lines.specs.Spelling.{text_of_items}
use Rattle.certificate_lines.specs.declared.item.Item.TheVariants.{Grouped}
use Rattle.piece_states.specs.Text.{line_of}
use Rattle.piece_states.specs.TextLines.{greatest}

-- what is told of a round: its number, the greatest number of counties of a group, and the target
pub record RoundTold : Type 0 where
  pub number : ℕ
  pub limit : ℕ
  pub target : Grouping

-- the words of the first line: the number, the limit, and how many groups the target has
abbrev pub round_words : RoundTold → List (List ℕ)
round_words r = codes "round" ∷ decimal r.number ∷ decimal r.limit ∷ decimal (length r.target) ∷ []

-- the text of a round: its first line, and a line for each group of the target
abbrev pub text_of_round : RoundTold → List ℕ
text_of_round r = line_of (round_words r) ++ text_of_items (map Grouped r.target)

-- all numbers are in the ranges of their lines
pub record HasRoundText (r : RoundTold) : Type 0 where
  pub number : r.number ≤ greatest
  pub limit : r.limit ≤ most
  pub groups : length r.target ≤ most
  pub each : AllFit (groups_wanted (length r.target)) (map Grouped r.target)
