use Rattle.std.proofs.Common.{◌≡◌, ◌<◌, length, sym, subst, arith, IfOk}
use Rattle.share_board.specs.OpenPieces.{numbers}
use Rattle.share_board.proofs.OpenPieces.{open_as}
use Rattle.share_board.proofs.board.Board.open_pieces.Goals as goal

pub open_numbers-requires : goal.open_numbers-requires
open_numbers-requires g c = subst (λ z. length z < 4294967296) (sym c.deref.ensures.value) (omega (arith, c.requires.1.few))

pub returns : goal.returns
returns g c = λ b is. open_as g.C.CountySet.test c.args.self.now b is c.open_numbers.result (subst (λ z. IfOk c.open_numbers.result (λ v. v.items ≡ numbers 1 z)) c.deref.ensures.value c.open_numbers.ensures)
