-- What is said of an open piece by the round that a worker holds.
use Rattle.std.proofs.Common.{◌≡◌, ℕ, List, Option, Some, None, refl, sym, ◌∙◌, subst}
use Rattle.grouping_laws.specs.Problem.{Problem}
use Rattle.certificate_data.specs.RoundValue.{round_of}
use Rattle.piece_states.specs.PieceValue.{PieceTold}
use Rattle.piece_states.specs.RoundStates.{IsTold}
use Rattle.worker_texts.specs.RoundText.{RoundTold}
use Rattle.piece_worker.specs.Rounds.{HoldsRound, round_told}
use Rattle.piece_worker.specs.Answers.{IsAnswerIn, IsAnswerIfAny}
use Rattle.piece_worker.specs.declared.worker.NumberedRound.{NumberedRound}

-- one round was told last
told_same : (a b : RoundTold) → Some a ≡ Some b → a ≡ b
told_same a b e = cc

-- what is said of a piece in that round is what is said of it
pub said_in : (p : Problem) (last : Option RoundTold) (held : NumberedRound) (piece : PieceTold) (text : Option (List ℕ)) → HoldsRound p last (Some held) → held.number ≡ piece.round → IsAnswerIn p (round_of held.round) piece text → IsAnswerIfAny p last piece text
said_in p None held piece text h e is = absurd h
said_in p (Some told) held piece None h e is = λ can.
    subst (λ r. IsTold p r.order r piece.told → ⊥) h.round is
    (subst (λ z. IsTold p p.counties (round_told p z) piece.told) (sym (told_same told can.told can.told_is)) can.state)
said_in p (Some told) held piece (Some text) h e is =
    let there = subst (λ r. IsAnswerIn p r piece (Some text)) h.round is in
    (record { told = told; told_is = refl; same = sym e ∙ h.number; state = there.0 }, there.1)
