-- The first round of a board whose order is that of ascending codes.
use Rattle.std.proofs.Common.{◌≡◌, ℕ, Bool, List, length, refl, sym, ap, ◌∙◌, subst, Result, Ok, Err, IfOk, MatchResult}
use Rattle.std.specs.Prelude.{IsErrAnd}
use Rattle.std.proofs.lemmas.List.{length-map}
use Rattle.std.specs.List.Sorted.{IsStrictlyIncreasing}
use Rattle.county_codes.specs.Counties.{codes_of}
use Rattle.county_codes.specs.declared.county.County.{County}
use Rattle.grouping_laws.specs.Problem.{Problem, IsProblem}
use Rattle.grouping_laws.specs.Grouping.{Grouping}
use Rattle.grouping_laws.proofs.Digits.{often_member}
use Rattle.county_problem.specs.ProblemValue.{problem_of}
use Rattle.county_problem.specs.declared.problem.Problem.{Problem as ProblemHeld}
use Rattle.connected_sets.specs.declared.county_graph.CountyGraph.{CountyGraph}
use Rattle.certificate_data.specs.declared.format.Format.{Format}
use Rattle.certificate_data.specs.Round.{Round}
use Rattle.board_laws.specs.Content.{Content}
use Rattle.share_board.specs.declared.board.Board.{Board}
use Rattle.share_board.specs.declared.fault.BoardFault.{BoardFault}
use Rattle.share_board.specs.declared.fault.BoardFault.TheVariants.{Memory}
use Rattle.share_board.specs.BoardValue.{IsOf, IsBoardGraph}
use Rattle.share_board.specs.Rounds.{first_round, IsOpening, MayOpen, IsBoardFault}
use Rattle.board_report.specs.Rounds.{IsFirstRound, round_by_code}

pub first_by_code : (p : Problem) (target : Grouping) (limit : ℕ) (format : Format) → IsProblem p → IsStrictlyIncreasing p.counties → IsFirstRound p target limit format (round_by_code p target limit format)
first_by_code p target limit format is up = record { order = λ c. often_member p.counties c (is.once c); ascending = up; is = refl }

-- a board that was opened with such an order
pub opened_so : {C : Type 0} (test : C → ℕ → Bool) (p : Problem) (depth budget : ℕ) (target : Grouping) (limit : ℕ) (format : Format) (order : List ℕ) (r : Result (Board C) BoardFault) → order ≡ p.counties
    → IfOk r (λ board. (b : Content) × IsOpening p depth (first_round p target order limit format) b × IsOf test board b)
    → MatchResult r (λ _. MayOpen p depth target (first_round p target order limit format)) (IsBoardFault p depth budget target (first_round p target order limit format))
    → MatchResult r (λ board. (b : Content) × IsOpening p depth (round_by_code p target limit format) b × IsOf test board b) (IsBoardFault p depth budget target (round_by_code p target limit format))
opened_so test p depth budget target limit format order (Ok board) e opens may = subst (λ z. (b : Content) × IsOpening p depth (first_round p target z limit format) b × IsOf test board b) e opens
opened_so test p depth budget target limit format order (Err fault) e opens may = subst (λ z. IsBoardFault p depth budget target (first_round p target z limit format) fault) e may

pub order_so : {C : Type 0} (test : C → ℕ → Bool) (p : Problem) (depth : ℕ) (target : Grouping) (limit : ℕ) (format : Format) (order : List ℕ) (r : Result (Board C) BoardFault) → order ≡ p.counties
    → IfOk r (λ board. (b : Content) × IsOpening p depth (first_round p target order limit format) b × IsOf test board b) → IfOk r (λ board. board.round.order ≡ p.counties)
order_so test p depth target limit format order (Ok board) e opens = ap (λ (z : Round). z.order) (opens.2.round ∙ opens.1.round_is) ∙ e
order_so test p depth target limit format order (Err fault) e opens = tt

pub as_many : (counties : List County) → length (codes_of counties) ≡ length counties
as_many counties = length-map counties (λ z. z.code)

-- the county graph of the problem by such an order is that of the board
pub graph_so : {C : Type 0} (board : Board C) (problem : ProblemHeld) (graph : CountyGraph C) → graph.ordered.now ≡ record { problem = problem; order = (problem_of problem).counties } → board.problem ≡ problem → board.round.order ≡ (problem_of problem).counties → IsBoardGraph board graph
graph_so board problem graph is problem_is order_is =
    subst (λ (v : ProblemHeld). graph.ordered.now ≡ record { problem = v; order = board.round.order }) (sym problem_is)
    (subst (λ z. graph.ordered.now ≡ record { problem = problem; order = z }) (sym order_is) is)

-- what a call ends with to which memory was refused
pub memory_refused : {T : Type 0} (result : Result T BoardFault) (P : T → Type 0) (Q : BoardFault → Type 0) → Q Memory → IsErrAnd result (λ fault. fault ≡ Memory) → MatchResult result P Q
memory_refused (Ok value) P Q holds is = absurd is
memory_refused (Err fault) P Q holds is = subst Q (sym is) holds
