-- What runs of `share` and of `piece` tell.
use Rattle.std.proofs.Common.{◌≡◌, ◌≤◌, ◌⊎◌, ℕ, List, [], ◌∷◌, ◌++◌, length, Option, Some, None, inl, inr, refl, ap, subst, ◌∙◌}
use Rattle.std.specs.Prelude.{Ok, Err, option_map}
use Rattle.std.specs.List.{flat_map}
use Rattle.std.specs.Borrow.{Bor}
use Rattle.county_problem.specs.ProblemValue.{ProblemValue, problem_of}
use Rattle.grouping_laws.specs.Problem.{Problem}
use Rattle.grouping_laws.specs.Grouping.{Grouping}
use Rattle.certificate_data.specs.Round.{Round}
use Rattle.board_laws.specs.Content.{Content, Event}
use Rattle.board_report.specs.ReplyLines.{reply_line}
use Rattle.share_board.specs.Rounds.{IsBoardFault}
use Rattle.share_board.specs.declared.fault.BoardFault.{BoardFault}
use Rattle.share_board.specs.declared.fault.BoardFault.TheVariants as board
use Rattle.share_board.specs.OpenPieces.{AreOpen}
use Rattle.board_report.specs.BoardOutcome.{IsShared, IsJoinedText, AreJoined, board_end_lines}
use Rattle.board_report.specs.Rounds.{IsFirstRound}
use Rattle.board_report.specs.PieceAnswers.{IsAnswered, piece_budget}
use Rattle.board_report.specs.declared.board_outcome.Shared.{Shared}
use Rattle.branch_bound.specs.declared.piece_answer.PieceAnswer.{PieceAnswer}
use Rattle.branch_bound.specs.declared.piece_answer.PieceAnswer.TheVariants.{Proved, Better, Wider, Open}
use Rattle.cli_words.specs.declared.words.BoardWords.{BoardWords}
use Rattle.cli_words.specs.declared.words.ShareWords.{ShareWords}
use Rattle.cli_words.specs.declared.words.PieceWords.{PieceWords}
use Rattle.cli_words.specs.declared.words.CommandWords.TheVariants.{Share, Piece}
use Rattle.cli_file_stores.specs.Files.{NamedFile, Files}
use Rattle.cli_file_stores.specs.History.{History}
use Rattle.cli_answers.specs.Answer.{Answered}
use Rattle.cli_answers.specs.Refusals.{board_answer, events_answer}
use Rattle.run_laws.specs.Steps.{Steps, ◌>>=◌, StepsEndIn, load_step}
use Rattle.run_laws.specs.FilesProblem.{IsProblemOfFiles, IsGroupingOfFile}
use Rattle.run_laws.specs.ProblemSteps.{grouping_of}
use Rattle.run_laws.specs.BoardSteps.{format_of, depth_of, limit_of_words, AreEvents, events_in, events_of, named_events_of}
use Rattle.run_laws.specs.ShareSteps.{left_status, share_answer, share_step, share_steps, joined_file}
use Rattle.run_laws.specs.PieceSteps.{no_such_piece, piece_said, said_step, piece_steps}
use Rattle.run_laws.specs.Storing.{named_file}
use Rattle.run_laws.specs.Run.{CommandRun}
use Rattle.run_laws.specs.Headline.{AreEventsOfFile, IsFirstRoundOfFiles, TookEvents, ShareTellsBest, BoardTellsBudget, PieceTells, Tells}
use Rattle.run_laws.proofs.Refusing.{IsRefusal, Refuses, as_refused, bind_refuses, load_refuses, call_refuses, value_refuses, problem_refuses, grouping_refuses, events_status}
use Rattle.run_laws.proofs.Ending.{HasEnded, same_status, not_refused, stopped_or_ended}
use Rattle.run_laws.proofs.Shown.{ends_low}
use Rattle.run_laws.proofs.FilesRead.{ReadsProblem, went, problem_reads, problem_of_files}
use Rattle.run_laws.proofs.FilesProblemLemmas.{grouping_found}

events_refuse : (files : Files) (words : BoardWords) (counties : ℕ) (name : List ℕ) → Refuses (events_of (Some files) (format_of words.round) counties name)
events_refuse files words counties name =
    bind_refuses (load_step (Some files) name) (events_in (format_of words.round) counties) (load_refuses (Some files) name)
    (λ text. call_refuses events_answer (AreEvents (format_of words.round) counties text) events_status)

named_events_refuse : (files : Files) (words : BoardWords) (counties : ℕ) (name : Option (Bor (List ℕ))) → Refuses (named_events_of (Some files) (format_of words.round) counties name)
named_events_refuse files words counties None = value_refuses (λ (events : List Event). events ≡ [])
named_events_refuse files words counties (Some name) = events_refuse files words counties name.now

-- a board at which no piece waits has a certificate, and one at which some wait has none
pub joined_text : (p : Problem) (b : Content) (text : Option (List ℕ)) → AreJoined p b [] text → (t : List ℕ) × (text ≡ Some t) × IsJoinedText p b t
joined_text p b (Some text) h = (text, refl, h)
joined_text p b None h = absurd h

pub none_joined : (p : Problem) (b : Content) (piece : ℕ) (pieces : List ℕ) (text : Option (List ℕ)) → AreJoined p b (piece ∷ pieces) text → text ≡ None
none_joined p b piece pieces (Some text) h = absurd h
none_joined p b piece pieces None h = refl

-- no certificate is no file
pub named_none : (name : Option (Bor (List ℕ))) → named_file name None ≡ []
named_none None = refl
named_none (Some name) = refl

-- what `share` says, by its text and by how many pieces wait
pub said_with : (s : Shared) (text : List ℕ) (left : ℕ) → s.text.items ≡ text → s.left ≡ left → share_answer s ≡ record { text = text; status = left_status left }
said_with s text left is count = ap (λ (t : List ℕ). record { text = t; status = left_status s.left }) is ∙ ap (λ (n : ℕ). record { text = text; status = left_status n }) count

module _ (files : Files) where
  -- ---- the board

  -- the events of a file
  events_told : (words : BoardWords) (v : ProblemValue) (name : Option (Bor (List ℕ))) (before after : History) (events : List Event)
      → named_events_of (Some files) (format_of words.round) (length v.counties) name before after (Ok events) → AreEventsOfFile files words v name events
  events_told words v None before after events h = h.1
  events_told words v (Some name) before after events h =
      let t = went _ _ before after events h in
      (t.value, t.given.0, t.goes_on.1)

  -- a board for a problem, a target and events of files, or a budget that is below the cost of its opening
  abbrev pub StopsAtBudget : BoardWords → ℕ → Answered → Type 0
  StopsAtBudget words budget a = IsRefusal a ⊎ BoardTellsBudget files words budget a

  module _ (words : BoardWords) (budget : ℕ) (v : ProblemValue) (problem : IsProblemOfFiles files words.problem v) (target : Grouping) (target_is : IsGroupingOfFile files words.grouping.now target) where
    pub fault_tells : (round : Round) → IsFirstRound (problem_of v) target (limit_of_words target words.round) (format_of words.round) round
        → (f : BoardFault) → IsBoardFault (problem_of v) (depth_of words.round) budget target round f → (a : Answered) → a ≡ board_answer f → StopsAtBudget words budget a
    fault_tells round first board.Budget below a said = inr (record {
      v = v;
      problem = problem;
      target = target;
      round = round;
      first = record { target_is = target_is; round_is = first };
      below = below;
      answer = said;
    })
    fault_tells round first board.DepthOutOfRange at a said = inl (as_refused a _ said (inl refl))
    fault_tells round first board.WrongOrder at a said = inl (as_refused a _ said (inl refl))
    fault_tells round first (board.Target kind) at a said = inl (as_refused a _ said (inl refl))
    fault_tells round first board.LimitTooSmall at a said = inl (as_refused a _ said (inl refl))
    fault_tells round first board.LimitTooLarge at a said = inl (as_refused a _ said (inl refl))
    fault_tells round first board.TooManyPieces at a said = inl (as_refused a _ said (inl refl))
    fault_tells round first board.Memory at a said = inl (as_refused a _ said (inr refl))

  -- ---- share
  module _ (words : ShareWords) where
    abbrev with_events : ProblemValue → Grouping → Steps Shared
    with_events v g = events_of (Some files) (format_of words.board.round) (length v.counties) words.events.now >>= share_step v g words

    abbrev with_grouping : ProblemValue → Steps Shared
    with_grouping v = grouping_of (Some files) words.board.grouping.now >>= with_events v

    events_stop : (v : ProblemValue) → IsProblemOfFiles files words.board.problem v → (g : Grouping) → IsGroupingOfFile files words.board.grouping.now g
        → (start after : History) (a : Answered) → with_events v g start after (Err a) → StopsAtBudget words.board words.budget a
    events_stop v problem g target start after a (inl stop) = inl (events_refuse files words.board (length v.counties) words.events.now start after a stop)
    events_stop v problem g target start after a (inr on) =
        let fault = on.goes_on.1 in
        fault_tells words.board words.budget v problem g target fault.1.0 fault.1.1 fault.0 fault.1.2 a fault.2

    grouping_stops : (v : ProblemValue) → IsProblemOfFiles files words.board.problem v → (start after : History) (a : Answered) → with_grouping v start after (Err a) → StopsAtBudget words.board words.budget a
    grouping_stops v problem start after a (inl stop) = inl (grouping_refuses (Some files) words.board.grouping.now start after a stop)
    grouping_stops v problem start after a (inr on) =
        events_stop v problem on.value (grouping_found files words.board.grouping.now start on.between on.value on.given) on.between after a on.goes_on

    pub share_stops : (before after : History) (a : Answered) → share_steps (Some files) words before after (Err a) → StopsAtBudget words.board words.budget a
    share_stops before after a (inl stop) = inl (problem_refuses (Some files) words.board.problem before after a stop)
    share_stops before after a (inr on) =
        grouping_stops on.value (problem_of_files files words.board.problem on.value (problem_reads files words.board.problem before on.between on.value on.given)) on.between after a on.goes_on

    -- what a board came to that took the events of a run
    pub record HasShared (s : Shared) : Type 0 where
      pub v : ProblemValue
      pub reads : ReadsProblem files words.board.problem v
      pub target : Grouping
      pub round : Round
      pub first : IsFirstRoundOfFiles files words.board v target round
      pub events : List Event
      pub events_are : AreEventsOfFile files words.board v (Some words.events) events
      pub shared : IsShared (problem_of v) (depth_of words.board.round) words.budget round events s

    pub shared_of : (before after : History) (s : Shared) → share_steps (Some files) words before after (Ok s) → HasShared s
    shared_of before after s h =
        let p = went _ _ before after s h in
        let g = went _ _ p.between after s p.goes_on in
        let e = went _ _ g.between after s g.goes_on in
        let on = e.goes_on.1 in
        record {
          v = p.value;
          reads = problem_reads files words.board.problem before p.between p.value p.given;
          target = g.value;
          round = on.0;
          first = record { target_is = grouping_found files words.board.grouping.now p.between g.between g.value g.given; round_is = on.1 };
          events = e.value;
          events_are = events_told words.board p.value (Some words.events) g.between e.between e.value e.given;
          shared = on.2;
        }

    pub took_events : (s : Shared) (h : HasShared s) → TookEvents files words.board (Some words.events) words.budget h.v h.shared.replies h.shared.last
    took_events s h = record {
      problem = problem_of_files files words.board.problem h.v h.reads;
      target = h.target;
      round = h.round;
      first = h.first;
      events = h.events;
      events_are = h.events_are;
      taken = h.shared.taken;
    }

    abbrev pub certificate_of_run : Shared → Option (List ℕ)
    certificate_of_run s = option_map (λ t. t.items) s.certificate

    -- nothing is stored if some piece waits
    pub none_to_store : (s : Shared) → certificate_of_run s ≡ None → joined_file words s ≡ []
    none_to_store s none = ap (named_file words.certificate) none ∙ named_none words.certificate

    -- what is told of a board by the pieces that wait
    module _ (a : Answered) (s : Shared) (h : HasShared s) (said : a ≡ share_answer s) where
      pub answer_is : (found : List ℕ) → h.shared.ended.found ≡ found
          → a ≡ record { text = flat_map reply_line h.shared.replies ++ board_end_lines h.shared.last found; status = left_status (length found) }
      answer_is found is =
          said ∙ said_with s _ _ h.shared.ended.text h.shared.ended.left
          ∙ ap (λ (pieces : List ℕ). record { text = flat_map reply_line h.shared.replies ++ board_end_lines h.shared.last pieces; status = left_status (length pieces) }) is

      abbrev pub best_found : h.shared.ended.found ≡ [] → (text : List ℕ) → IsJoinedText (problem_of h.v) h.shared.last text → ShareTellsBest files words a
      best_found is text j = record {
        v = h.v;
        replies = h.shared.replies;
        last = h.shared.last;
        board = took_events s h;
        target = j.target;
        target_is = j.target_is;
        best = j.best;
        answer = answer_is [] is;
      }

      pieces_tell : (stored : List NamedFile) → stored ≡ joined_file words s → (found : List ℕ) → h.shared.ended.found ≡ found → AreJoined (problem_of h.v) h.shared.last found (certificate_of_run s)
          → Tells files (Share words) stored a
      pieces_tell stored all [] is joined =
          let text = joined_text (problem_of h.v) h.shared.last (certificate_of_run s) joined in
          inl (same_status a _ (answer_is [] is), best_found is text.0 text.2)
      pieces_tell stored all (piece ∷ pieces) is joined =
          let none = none_joined (problem_of h.v) h.shared.last piece pieces (certificate_of_run s) joined in
          inr (inr (
            same_status a _ (answer_is (piece ∷ pieces) is),
            inl (record {
              v = h.v;
              replies = h.shared.replies;
              last = h.shared.last;
              board = took_events s h;
              waiting = piece ∷ pieces;
              waiting_are = subst (λ (found : List ℕ). AreOpen h.shared.last.skeleton found) is h.shared.ended.found_are;
              some = λ e. cc;
              answer = answer_is (piece ∷ pieces) is;
              none_stored = all ∙ none_to_store s none;
            }),
          ))

    share_end : (before after : History) (stored : List NamedFile) (a : Answered) → a.status ≤ 3
        → share_steps (Some files) words before after (Err a) ⊎ HasEnded (share_steps (Some files) words) (joined_file words) share_answer before stored a → Tells files (Share words) stored a
    share_end before after stored a low (inl stop) = by_stop (share_stops before after a stop)
      where
        by_stop : StopsAtBudget words.board words.budget a → Tells files (Share words) stored a
        by_stop (inl refusal) = absurd (not_refused a low refusal)
        by_stop (inr told) = inr (inr (same_status a _ told.answer, inr told))
    share_end before after stored a low (inr ended) =
        let h = shared_of before ended.between ended.s ended.given in
        pieces_tell a ended.s h ended.said stored ended.all h.shared.ended.found refl h.shared.ended.certificate

    pub share_tells : (before after : History) (stored : List NamedFile) (a : Answered) → CommandRun (Some files) (Share words) before after stored a → a.status ≤ 3 → Tells files (Share words) stored a
    share_tells before after stored a run low =
        let ends = ends_low (Some files) (Share words) before after stored a run low in
        share_end before after stored a low (stopped_or_ended (share_steps (Some files) words) (joined_file words) share_answer before after stored a low ends)

  -- ---- piece
  module _ (words : PieceWords) where
    abbrev piece_with_events : ProblemValue → Grouping → Steps Answered
    piece_with_events v g = named_events_of (Some files) (format_of words.board.round) (length v.counties) words.events >>= said_step v g words

    abbrev piece_with_grouping : ProblemValue → Steps Answered
    piece_with_grouping v = grouping_of (Some files) words.board.grouping.now >>= piece_with_events v

    said_stops : (v : ProblemValue) → IsProblemOfFiles files words.board.problem v → (g : Grouping) → IsGroupingOfFile files words.board.grouping.now g
        → (events : List Event) (start after : History) (a : Answered) → said_step v g words events start after (Err a) → StopsAtBudget words.board piece_budget a
    said_stops v problem g target events start after a (inl stop) =
        let fault = stop.1 in
        fault_tells words.board piece_budget v problem g target fault.1.0 fault.1.1 fault.0 fault.1.2 a fault.2
    said_stops v problem g target events start after a (inr on) = absurd on.goes_on

    piece_events_stop : (v : ProblemValue) → IsProblemOfFiles files words.board.problem v → (g : Grouping) → IsGroupingOfFile files words.board.grouping.now g
        → (start after : History) (a : Answered) → piece_with_events v g start after (Err a) → StopsAtBudget words.board piece_budget a
    piece_events_stop v problem g target start after a (inl stop) = inl (named_events_refuse files words.board (length v.counties) words.events start after a stop)
    piece_events_stop v problem g target start after a (inr on) = said_stops v problem g target on.value on.between after a on.goes_on

    piece_grouping_stops : (v : ProblemValue) → IsProblemOfFiles files words.board.problem v → (start after : History) (a : Answered) → piece_with_grouping v start after (Err a)
        → StopsAtBudget words.board piece_budget a
    piece_grouping_stops v problem start after a (inl stop) = inl (grouping_refuses (Some files) words.board.grouping.now start after a stop)
    piece_grouping_stops v problem start after a (inr on) =
        piece_events_stop v problem on.value (grouping_found files words.board.grouping.now start on.between on.value on.given) on.between after a on.goes_on

    piece_stops : (before after : History) (a : Answered) → piece_steps (Some files) words before after (Err a) → StopsAtBudget words.board piece_budget a
    piece_stops before after a (inl stop) = inl (problem_refuses (Some files) words.board.problem before after a stop)
    piece_stops before after a (inr on) =
        piece_grouping_stops on.value (problem_of_files files words.board.problem on.value (problem_reads files words.board.problem before on.between on.value on.given)) on.between after a on.goes_on

    -- what is told of a piece that waits
    by_piece : (a : Answered) (answer : PieceAnswer) → a ≡ piece_said words.round words.number (Some answer) → PieceTells files words a → (stored : List NamedFile) → Tells files (Piece words) stored a
    by_piece a (Proved tree) said told stored = inl (same_status a _ said, told)
    by_piece a (Better g) said told stored = inl (same_status a _ said, told)
    by_piece a (Wider g) said told stored = inl (same_status a _ said, told)
    by_piece a (Open part) said told stored = inr (inr (same_status a _ said, inl told))

    module _ (stored : List NamedFile) (a : Answered) (low : a.status ≤ 3) (v : ProblemValue) (problem : IsProblemOfFiles files words.board.problem v)
        (target : Grouping) (round : Round) (first : IsFirstRoundOfFiles files words.board v target round)
        (events : List Event) (events_are : AreEventsOfFile files words.board v words.events events) where
      answer_tells : (answer : Option PieceAnswer) → IsAnswered (problem_of v) (depth_of words.board.round) round events words.number answer → a ≡ piece_said words.round words.number answer
          → Tells files (Piece words) stored a
      answer_tells None answered said = absurd (not_refused a low (inl (same_status a no_such_piece said)))
      answer_tells (Some answer) answered said = by_piece a answer said (record {
        v = v;
        replies = answered.replies;
        last = answered.last;
        board = record { problem = problem; target = target; round = round; first = first; events = events; events_are = events_are; taken = answered.taken };
        piece_answer = answer;
        piece_answer_is = answered.answer_is;
        answer = said;
      }) stored

    piece_ended : (before after : History) (stored : List NamedFile) (a : Answered) → a.status ≤ 3 → piece_steps (Some files) words before after (Ok a) → Tells files (Piece words) stored a
    piece_ended before after stored a low h =
        let p = went _ _ before after a h in
        let g = went _ _ p.between after a p.goes_on in
        let e = went _ _ g.between after a g.goes_on in
        let s = went _ _ e.between after a e.goes_on in
        let on = s.given.1 in
        answer_tells stored a low p.value (problem_of_files files words.board.problem p.value (problem_reads files words.board.problem before p.between p.value p.given))
        g.value on.0 (record { target_is = grouping_found files words.board.grouping.now p.between g.between g.value g.given; round_is = on.1 })
        e.value (events_told words.board p.value words.events g.between e.between e.value e.given) s.value on.2 s.goes_on.1

    pub piece_tells : (before after : History) (stored : List NamedFile) (a : Answered) → CommandRun (Some files) (Piece words) before after stored a → a.status ≤ 3 → Tells files (Piece words) stored a
    piece_tells before after stored a run low = by_end (ends_low (Some files) (Piece words) before after stored a run low).0
      where
        by_stop : StopsAtBudget words.board piece_budget a → Tells files (Piece words) stored a
        by_stop (inl refusal) = absurd (not_refused a low refusal)
        by_stop (inr told) = inr (inr (same_status a _ told.answer, inr told))

        by_end : StepsEndIn (piece_steps (Some files) words) before after a → Tells files (Piece words) stored a
        by_end (inl ended) = piece_ended before after stored a low ended
        by_end (inr stop) = by_stop (piece_stops before after a stop)
