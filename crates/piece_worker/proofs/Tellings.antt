-- What is said of one text, and of texts behind one another.
use Rattle.std.proofs.Common.{◌≡◌, ℕ, List, [], ◌∷◌, ◌++◌, Option, Some, refl, sym, ap, ◌∙◌, subst, append_assoc, append-nil, codes}
use Rattle.grouping_laws.specs.Problem.{Problem}
use Rattle.piece_states.specs.PieceValue.{piece_of}
use Rattle.piece_states.specs.declared.piece.OpenPiece.{OpenPiece}
use Rattle.worker_texts.specs.RoundText.{RoundTold}
use Rattle.worker_texts.specs.WorkerText.{WorkerTextTold, Round, Open}
use Rattle.worker_texts.specs.TextValue.{round_told, worker_text_of}
use Rattle.worker_texts.specs.declared.round.RoundTold.{RoundTold as RoundHeld}
use Rattle.worker_texts.specs.declared.worker_text.WorkerText.{WorkerText}
use Rattle.worker_texts.specs.declared.worker_text.WorkerText.TheVariants as held
use Rattle.written_output.specs.Writing.{IsWritten}
use Rattle.piece_worker.specs.Rounds.{HoldsRound}
use Rattle.piece_worker.specs.Answers.{IsEndedAnswer, AnswersTexts}
use Rattle.piece_worker.specs.Taking.{Moment, Tells}

module _ {C : Type 0} (p : Problem) (last : Option RoundTold) (text : WorkerText) (old new : Moment C) where
  -- nothing is said of a round
  pub round_tells : (round : RoundHeld) → text ≡ held.Round round → HoldsRound p (Some (round_told round)) new.worker.last → IsWritten old.contents new.contents old.failed new.failed old.written new.written [] → Tells p last text old new
  round_tells round e holds written = record {
    said = [];
    end = Some (round_told round);
    answers = subst (λ t. AnswersTexts p last (worker_text_of t ∷ []) [] (Some (round_told round))) (sym e) (refl, refl);
    holds = holds;
    written = written;
  }

  -- a piece has its answer
  pub piece_tells : (piece : OpenPiece) (said : List ℕ) → text ≡ held.Open piece → IsEndedAnswer p last (piece_of piece) said → HoldsRound p last new.worker.last → IsWritten old.contents new.contents old.failed new.failed old.written new.written said → Tells p last text old new
  piece_tells piece said e is holds written = record {
    said = said;
    end = last;
    answers = subst (λ t. AnswersTexts p last (worker_text_of t ∷ []) said last) (sym e) (is.0, [], is.1, (refl, refl), is.2 ∙ sym (append-nil (is.0 ++ codes "end\n")));
    holds = holds;
    written = written;
  }

-- texts behind others
pub answers_both : (p : Problem) (first mid last : Option RoundTold) (texts more : List WorkerTextTold) (said later : List ℕ) → AnswersTexts p first texts said mid → AnswersTexts p mid more later last → AnswersTexts p first (texts ++ more) (said ++ later) last
answers_both p first mid last [] more said later a b =
    subst (λ z. AnswersTexts p first more z last) (ap (λ (t : List ℕ). t ++ later) (sym a.0))
    (subst (λ z. AnswersTexts p z more later last) a.1 b)
answers_both p first mid last (Round told ∷ texts) more said later a b = answers_both p (Some told) mid last texts more said later a b
answers_both p first mid last (Open piece ∷ texts) more said later a b = (
  a.0,
  a.1 ++ later,
  a.2,
  answers_both p first mid last texts more a.1 later a.3 b,
  ap (λ (t : List ℕ). t ++ later) a.4 ∙ append_assoc (a.0 ++ codes "end\n") a.1 later,
)
