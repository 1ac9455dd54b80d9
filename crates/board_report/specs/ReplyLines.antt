-- The lines of replies.
use Rattle.std.specs.Prelude.{ℕ, ◌+◌, ◌-◌, List, ◌++◌, codes, decimal}
use Rattle.board_laws.specs.Content.{Reply, Piece, NothingLeft, Accepted, Split, NewRound, OldRound, NoSuchPiece}
use Rattle.board_laws.specs.Content.{AlreadyDone, AlreadySplit, CantSplit, NotAPart, NotAProof, NotBetter, CantWiden}
use Rattle.board_laws.specs.Content.{TooManyPieces, Budget, Memory}

-- of a piece: its round and its number
abbrev pub piece_line : ℕ → ℕ → List ℕ
piece_line number piece = codes "piece " ++ (decimal number ++ (codes " " ++ (decimal piece ++ codes "\n")))

-- of a split: the number of its first piece and that of its last
abbrev pub split_line : ℕ → ℕ → List ℕ
split_line first many =
    codes "split into " ++ (decimal first ++ (codes " to " ++ (decimal (first + many - 1) ++ codes "\n")))

abbrev pub reply_line : Reply → List ℕ
reply_line (Piece number piece state) = piece_line number piece
reply_line NothingLeft = codes "nothing left\n"
reply_line Accepted = codes "accepted\n"
reply_line (Split first many) = split_line first many
reply_line (NewRound number) = codes "new round " ++ (decimal number ++ codes "\n")
reply_line OldRound = codes "old round\n"
reply_line NoSuchPiece = codes "no such piece\n"
reply_line AlreadyDone = codes "already done\n"
reply_line AlreadySplit = codes "already split\n"
reply_line CantSplit = codes "cant split\n"
reply_line NotAPart = codes "not a part\n"
reply_line NotAProof = codes "not a proof\n"
reply_line NotBetter = codes "not better\n"
reply_line CantWiden = codes "cant widen\n"
reply_line TooManyPieces = codes "too many pieces\n"
reply_line Budget = codes "budget\n"
reply_line Memory = codes "memory\n"
