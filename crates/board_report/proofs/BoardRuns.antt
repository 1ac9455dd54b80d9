-- A board from its first round on, through all events.
use Rattle.std.proofs.Common.{◌≡◌, ℕ, Bool, List, [], ◌++◌, sym, ap, ◌∙◌, subst, Option, IfSome}
use Rattle.std.specs.List.{flat_map}
use Rattle.county_problem.specs.ProblemValue.{problem_of}
use Rattle.county_problem.specs.declared.problem.Problem.{Problem as ProblemHeld}
use Rattle.certificate_data.specs.declared.format.Format.{Format}
use Rattle.certificate_data.specs.Round.{Round}
use Rattle.board_laws.specs.Content.{Content, Event}
use Rattle.share_board.specs.declared.board.Board.{Board}
use Rattle.share_board.specs.BoardValue.{IsOf, Keeps}
use Rattle.share_board.specs.Rounds.{IsOpening}
use Rattle.board_report.specs.ReplyLines.{reply_line}
use Rattle.branch_bound.specs.declared.piece_answer.PieceAnswer.{PieceAnswer}
use Rattle.board_report.specs.Taking.{TakesEvents, EventsAreTaken, HasTaken, HasTold, HasHeard}
use Rattle.board_report.specs.BoardOutcome.{IsEnded, IsShared}
use Rattle.board_report.specs.declared.board_outcome.Shared.{Shared}
use Rattle.board_report.specs.PieceText.{HasText}
use Rattle.board_report.specs.PieceAnswers.{IsAnswerAt, IsAnswered, piece_budget}
use Rattle.board_report.proofs.InTurn.{same_format}

module _ {C : Type 0} (test : C → ℕ → Bool) (problem : ProblemHeld) (depth budget : ℕ) (round : Round) (before later : Board C) (b : Content) (events : List Event) where
  taken_from : before.problem ≡ problem → before.depth ≡ depth → before.budget ≡ budget → IsOpening (problem_of problem) depth round b → (taken : HasTaken test before b events later) → EventsAreTaken (problem_of problem) depth budget round events taken.replies taken.last
  taken_from problem_is depth_is budget_is opening taken = record {
    first = b;
    opening = opening;
    takes =
        subst (λ z. TakesEvents (problem_of z) depth budget b events taken.replies taken.last) problem_is
        (subst (λ z. TakesEvents (problem_of before.problem) z budget b events taken.replies taken.last) depth_is
        (subst (λ z. TakesEvents (problem_of before.problem) before.depth z b events taken.replies taken.last) budget_is taken.takes));
  }

  pub shared_so : before.problem ≡ problem → before.depth ≡ depth → before.budget ≡ budget → IsOpening (problem_of problem) depth round b → (start text : List ℕ) → start ≡ [] → HasTold test before b events later start text → Keeps before later
      → (s : Shared) → ((c : Content) → IsOf test later c → IsEnded (problem_of later.problem) c text s) → IsShared (problem_of problem) depth budget round events s
  shared_so problem_is depth_is budget_is opening start text none told keeps s ended = record {
    replies = (told.0).replies;
    last = (told.0).last;
    taken = taken_from problem_is depth_is budget_is opening told.0;
    ended =
        subst (λ z. IsEnded (problem_of problem) (told.0).last z s) (told.1 ∙ ap (λ z. z ++ flat_map reply_line (told.0).replies) none)
        (subst (λ z. IsEnded (problem_of z) (told.0).last text s) (keeps.problem ∙ problem_is) (ended (told.0).last (told.0).is));
  }

  pub answered_so : before.problem ≡ problem → before.depth ≡ depth → before.budget ≡ piece_budget → IsOpening (problem_of problem) depth round b → HasHeard test before b events later
      → (number : ℕ) (answer : Option PieceAnswer) → ((c : Content) → IsOf test later c → IsAnswerAt (problem_of problem) c number answer) → budget ≡ piece_budget → IsAnswered (problem_of problem) depth round events number answer
  answered_so problem_is depth_is budget_is opening heard number answer is same = record {
    replies = (heard.0).replies;
    last = (heard.0).last;
    taken = subst (λ z. EventsAreTaken (problem_of problem) depth z round events (heard.0).replies (heard.0).last) same (taken_from problem_is depth_is (budget_is ∙ sym same) opening heard.0);
    none_refused = heard.1;
    answer_is = is (heard.0).last (heard.0).is;
  }

  -- the format is that of the first round
  pub format_so : (format : Format) → round.format ≡ format → IsOpening (problem_of problem) depth round b → HasTaken test before b events later → later.round.format ≡ format
  format_so format is opening taken =
      ap (λ (z : Round). z.format) taken.is.round
      ∙ same_format (problem_of before.problem) before.depth before.budget b taken.last events taken.replies taken.takes
      ∙ ap (λ (z : Round). z.format) opening.round_is
      ∙ is

pub text_so : (format other : Format) (places counties number : ℕ) (answer : Option PieceAnswer) → format ≡ other → places ≡ counties → IfSome answer (HasText format places number) → IfSome answer (HasText other counties number)
text_so format other places counties number answer e k h = subst (λ z. IfSome answer (HasText z counties number)) e (subst (λ z. IfSome answer (HasText format z number)) k h)
