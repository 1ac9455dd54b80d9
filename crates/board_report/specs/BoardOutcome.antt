-- What is said of a board when events were taken.
use Rattle.std.specs.Prelude.{ℕ, ◌≡◌, List, [], ◌∷◌, ◌++◌, length, codes, decimal, Option, Some, None, option_map}
use Rattle.std.specs.List.{flat_map}
use Rattle.certificate_data.specs.declared.format.Format.{Format}
use Rattle.certificate_data.specs.declared.format.Format.TheVariants.{Plain, Wide}
use Rattle.grouping_laws.specs.Problem.{Problem}
use Rattle.grouping_laws.specs.Grouping.{Grouping, IsBest}
use Rattle.certificate_data.specs.Round.{Round}
use Rattle.certificate_data.specs.Tree.{Tree}
use Rattle.certificate_laws.specs.Certificate.{IsCertificate}
use Rattle.certificate_text.specs.Spelling.{IsSpelling}
use Rattle.board_laws.specs.Skeleton.{joined}
use Rattle.board_laws.specs.Content.{Content, Event, Reply}
use Rattle.share_board.specs.OpenPieces.{AreOpen}
use Rattle.board_report.specs.ReplyLines.{reply_line}
use Rattle.board_report.specs.Taking.{EventsAreTaken}
use Rattle.board_report.specs.declared.board_outcome.Shared.{Shared}

-- a piece that waits, with the number of its round
abbrev pub open_line : ℕ → ℕ → List ℕ
open_line number piece = codes "open " ++ decimal number ++ (codes " " ++ (decimal piece ++ codes "\n"))

-- which pieces wait; it is said of a wide round alone
abbrev pub open_lines : Format → ℕ → List ℕ → List ℕ
open_lines Plain number found = []
open_lines Wide number found = flat_map (open_line number) found

-- how many pieces wait, and which
abbrev pub left_lines : Format → ℕ → List ℕ → List ℕ
left_lines format number found =
    codes "left " ++ decimal (length found) ++ codes "\n" ++ open_lines format number found

-- the last lines: `joined` if no piece waits, and else how many pieces wait, and which
abbrev pub board_end_lines : Content → List ℕ → List ℕ
board_end_lines b [] = codes "joined\n"
board_end_lines b (piece ∷ found) = left_lines b.round.format b.number (piece ∷ found)

-- the text spells the certificate to which the pieces join, and its target is best
pub record IsJoinedText (p : Problem) (b : Content) (text : List ℕ) : Type 0 where
  pub tree : Tree
  pub joins : joined b.skeleton ≡ Some tree
  pub certifies : IsCertificate p b.round tree
  pub spells : IsSpelling text (record { round = b.round; tree = tree })
  pub target : Grouping
  pub target_is : b.round.target ≡ Some target
  pub best : IsBest p target

-- the text of a certificate is there exactly where no piece waits
abbrev pub AreJoined : Problem → Content → List ℕ → Option (List ℕ) → Type 0
AreJoined p b [] (Some text) = IsJoinedText p b text
AreJoined p b (piece ∷ found) None = joined b.skeleton ≡ None
AreJoined p b found text = ⊥

-- the end of the text stands behind the lines of the replies, beside how many pieces wait and the certificate
pub record IsEnded (p : Problem) (b : Content) (before : List ℕ) (shared : Shared) : Type 0 where
  pub found : List ℕ
  pub found_are : AreOpen b.skeleton found
  pub left : shared.left ≡ length found
  pub text : shared.text.items ≡ before ++ board_end_lines b found
  pub certificate : AreJoined p b found (option_map (λ t. t.items) shared.certificate)

-- a line for the reply to each event, and then how the board stands
pub record IsShared (p : Problem) (depth budget : ℕ) (round : Round) (events : List Event)
    (shared : Shared) : Type 0 where
  pub replies : List Reply
  pub last : Content
  pub taken : EventsAreTaken p depth budget round events replies last
  pub ended : IsEnded p last (flat_map reply_line replies) shared
