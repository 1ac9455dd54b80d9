-- Every check of a certificate that `share` stored says that the board's target is best.
use Rattle.std.proofs.Common.{◌≡◌, ◌≢◌, ◌≤◌, ◌⊎◌, ℕ, List, [], ◌∷◌, Option, Some, None, inl, inr, refl, sym, ap₂, subst, ◌∙◌, arith}
use Rattle.std.specs.Prelude.{Err, option_map}
use Rattle.std.specs.Borrow.{Bor}
use Rattle.county_problem.specs.ProblemValue.{problem_of}
use Rattle.board_report.specs.BoardOutcome.{IsJoinedText, AreJoined}
use Rattle.board_report.specs.declared.board_outcome.Shared.{Shared}
use Rattle.certificate_checker.proofs.Agrees as texts
use Rattle.cli_words.specs.declared.words.ShareWords.{ShareWords}
use Rattle.cli_words.specs.declared.words.CommandWords.TheVariants.{Share}
use Rattle.cli_file_stores.specs.Files.{NamedFile, Files}
use Rattle.cli_file_stores.specs.History.{History}
use Rattle.cli_answers.specs.Answer.{Answered}
use Rattle.run_laws.specs.ShareSteps.{share_answer, share_steps, joined_file}
use Rattle.run_laws.specs.Storing.{named_file, store_steps, said_after}
use Rattle.run_laws.specs.Run.{CommandEnds, CommandRun}
use Rattle.run_laws.specs.Agreement.{ChecksAs, best_said, SharesBest}
use Rattle.run_laws.proofs.Ending.{HasEnded, same_status, not_refused, stopped_or_ended}
use Rattle.run_laws.proofs.Shown.{shown_plain, ends_low}
use Rattle.run_laws.proofs.StoreLemmas.{all_stored}
use Rattle.run_laws.proofs.FilesRead.{reads_again}
use Rattle.run_laws.proofs.Checking.{checked_best, check_agrees}
use Rattle.run_laws.proofs.BoardTells.{StopsAtBudget, HasShared, shared_of, share_stops, joined_text, none_joined, certificate_of_run, none_to_store, answer_is, best_found}

module _ (files : Files) (words : ShareWords) (s : Shared) (h : HasShared files words s) (text : List ℕ) (j : IsJoinedText (problem_of h.v) h.shared.last text) where
  -- every check of the text says that the target is best
  joined_checks : ChecksAs files words.board.problem text (best_said h.v j.target)
  joined_checks others check start end none b same certificate run =
      check_agrees others check h.v text (best_said h.v j.target) (λ form named. omega arith)
      (reads_again files others words.board.problem check.check.problem h.v same h.reads) certificate
      (λ budget form t r alike checked. checked_best h.v text budget form t alike r checked j.target
      (λ verdict. texts.agrees.best (problem_of h.v) text (record { round = h.shared.last.round; tree = j.tree }) j.target budget verdict j.spells j.certifies j.target_is))
      start end none b run

-- one file that is refused
refused_none : (name : Option (Bor (List ℕ))) (text : Option (List ℕ)) (before after : History) (stored : List NamedFile) (refusal : Answered)
    → store_steps (named_file name text) before after stored (Some refusal) → stored ≡ []
refused_none None text before after stored refusal h = h.1
refused_none (Some name) None before after stored refusal h = h.1
refused_none (Some name) (Some text) before after stored refusal (inl h) = h.none_stored
refused_none (Some name) (Some text) before after stored refusal (inr h) = absurd (some_none h.4.2)
  where
    some_none : Some refusal ≡ None → ⊥
    some_none e = cc

module _ (files : Files) (words : ShareWords) (stored : List NamedFile) (a : Answered) where
  -- ---- with status 0
  module _ (s : Shared) (h : HasShared files words s) (all : stored ≡ joined_file words s) (said : a ≡ share_answer s) (zero : a.status ≡ 0) where
    pieces_share : (found : List ℕ) → h.shared.ended.found ≡ found → AreJoined (problem_of h.v) h.shared.last found (certificate_of_run files words s) → SharesBest files words stored a
    pieces_share [] is joined =
        let text = joined_text (problem_of h.v) h.shared.last (certificate_of_run files words s) joined in
        record {
          told = best_found files words a s h said is text.0 text.2;
          proof = λ name named. (
            text.0,
            [],
            all ∙ ap₂ (λ (n : Option (Bor (List ℕ))) (t : Option (List ℕ)). named_file n t) named text.1,
            joined_checks files words s h text.0 text.2,
          );
        }
    pieces_share (piece ∷ pieces) is joined =
        let three : a.status ≡ 3 = same_status a _ (answer_is files words a s h said (piece ∷ pieces) is) in
        absurd (omega (arith, zero))

  refused_before : a.status ≡ 0 → StopsAtBudget files words.board words.budget a → ⊥
  refused_before zero (inl refusal) = not_refused a (omega (arith, zero)) refusal
  refused_before zero (inr told) = let three : a.status ≡ 3 = same_status a _ told.answer in omega (arith, zero)

  pub shared : (before after : History) → CommandRun (Some files) (Share words) before after stored a → a.status ≡ 0 → SharesBest files words stored a
  shared before after run zero = by_end (stopped_or_ended (share_steps (Some files) words) (joined_file words) share_answer before after stored a low ends)
    where
      low : a.status ≤ 3
      low = omega (arith, zero)

      ends : CommandEnds (Some files) (Share words) before after stored a
      ends = ends_low (Some files) (Share words) before after stored a run low

      by_end : share_steps (Some files) words before after (Err a) ⊎ HasEnded (share_steps (Some files) words) (joined_file words) share_answer before stored a → SharesBest files words stored a
      by_end (inl stop) = absurd (refused_before zero (share_stops files words before after a stop))
      by_end (inr end) =
          let h = shared_of files words before end.between end.s end.given in
          pieces_share end.s h end.all end.said zero h.shared.ended.found refl h.shared.ended.certificate

  -- ---- with another status
  pieces_none : (s : Shared) (h : HasShared files words s) → a ≡ share_answer s → a.status ≢ 0 → (found : List ℕ) → h.shared.ended.found ≡ found
      → AreJoined (problem_of h.v) h.shared.last found (certificate_of_run files words s) → joined_file words s ≡ []
  pieces_none s h said other [] is joined = absurd (other (same_status a _ (answer_is files words a s h said [] is)))
  pieces_none s h said other (piece ∷ pieces) is joined =
      none_to_store files words s (none_joined (problem_of h.v) h.shared.last piece pieces (certificate_of_run files words s) joined)

  -- a file that was refused, or nothing to store
  stored_none : (s : Shared) (h : HasShared files words s) (between after : History) (refusal : Option Answered)
      → store_steps (joined_file words s) between after stored refusal → a ≡ said_after refusal (share_answer s) → a.status ≢ 0 → stored ≡ []
  stored_none s h between after None stores said other =
      all_stored (joined_file words s) between after stored stores ∙ pieces_none s h said other h.shared.ended.found refl h.shared.ended.certificate
  stored_none s h between after (Some refusal) stores said other = refused_none words.certificate (option_map (λ t. t.items) s.certificate) between after stored refusal stores

  pub unshared : (before after : History) → CommandRun (Some files) (Share words) before after stored a → a.status ≢ 0 → stored ≡ []
  unshared before after (inl none) other = none.1
  unshared before after (inr run) other =
      by_end (subst (λ (x : Answered). CommandEnds (Some files) (Share words) before after stored x) (sym (shown_plain run.raw a run.shown)) run.ends)
    where
      by_end : CommandEnds (Some files) (Share words) before after stored a → stored ≡ []
      by_end (inl stop) = stop.1
      by_end (inr s) = stored_none s.0 (shared_of files words before s.1 s.0 s.3) s.1 after s.2 s.4 s.5 other
