-- Every list by a certificate that `solve` stored lists all best groupings.
use Rattle.std.proofs.Common.{◌≡◌, ◌≤◌, ◌⊎◌, ℕ, Bool, List, map, Option, Some, None, inl, inr, refl, sym, ap, subst, ◌∙◌, arith}
use Rattle.std.specs.Prelude.{Ok, Err}
use Rattle.county_problem.specs.ProblemValue.{ProblemValue, problem_of}
use Rattle.grouping_laws.specs.Grouping.{Grouping}
use Rattle.certificate_data.specs.TreeValue.{Certificate, certificate_of}
use Rattle.certificate_text.specs.Spelling.{IsSpelling}
use Rattle.certificate_laws.specs.State.{empty_state}
use Rattle.certificate_laws.specs.Certificate.{IsCertificate}
use Rattle.list_laws.specs.AllBest.{AreAllBest}
use Rattle.list_laws.specs.Completeness.{IsComplete}
use Rattle.list_groupings.specs.ListOrder.{AreInOrder}
use Rattle.list_groupings.specs.declared.listing.Listing.{Listing}
use Rattle.list_groupings.specs.declared.listing.Listing.TheVariants.{All, Open, Impossible, No, Budget}
use Rattle.list_groupings.specs.Answers.{IsListing, ListsAllBest}
use Rattle.list_groupings.specs.Walking.{sets_held}
use Rattle.branch_bound.specs.declared.answer.Answer as search
use Rattle.branch_bound.specs.declared.answer.Answer.TheVariants as found
use Rattle.branch_bound.specs.Answers.{IsSolveAnswer, HasCompleteTree}
use Rattle.certificate_checker.specs.declared.verdict.Verdict.TheVariants as verdict
use Rattle.certificate_checker.proofs.Agrees as texts
use Rattle.cli_words.specs.declared.words.ListWords.{ListWords}
use Rattle.cli_words.specs.declared.words.SolveWords.{SolveWords}
use Rattle.cli_words.specs.declared.words.CommandWords.TheVariants.{Solve, List as ListAll}
use Rattle.pl94_counties.specs.CountyNames.{CountyName}
use Rattle.cli_file_stores.specs.Files.{NamedFile, Files}
use Rattle.cli_file_stores.specs.History.{History}
use Rattle.cli_answers.specs.Answer.{Answered, memory_answer}
use Rattle.run_laws.specs.Forms.{has_names, IsShown, line_in, reads_names, shown_in}
use Rattle.run_laws.specs.Steps.{Steps, ◌>>=◌, load_step, value_step}
use Rattle.run_laws.specs.TableSteps.{Tabled, tabled_problem_in}
use Rattle.run_laws.specs.FilesProblem.{AreNamesIf, IsGroupingIfNamed}
use Rattle.run_laws.specs.Agreement.{IsCutOff, IsUnnamed, IsListOfFiles, ListsAllOfFiles, IsStoredFirst}
use Rattle.run_laws.specs.SolveSteps.{SaysSolved}
use Rattle.run_laws.specs.ListSteps.{Asked, Listed, IsListAnswer, which_of, asked_by, list_steps, ListEnds, listed_files, listed_with, listed_by_number, listing_answer, listing_said, no_such_grouping, grouping_numbered}
use Rattle.run_laws.specs.Storing.{store_steps, said_after}
use Rattle.run_laws.specs.Run.{CommandRun}
use Rattle.run_laws.proofs.StoreLemmas.{refusal_status}
use Rattle.run_laws.proofs.Ending.{same_status}
use Rattle.run_laws.proofs.FilesRead.{ReadsProblem, names_shown, problem_of_files, reads_again}
use Rattle.run_laws.proofs.Repeating.{EndsBy, bind_ends, bind_gives, value_ends, load_gives}
use Rattle.run_laws.proofs.SameProblem.{IsTabled, tabled_again, which_again}
use Rattle.run_laws.proofs.Shown.{IsStopped, at_name, shown_or_cut, cut_shown, stopped_shown}
use Rattle.run_laws.proofs.ListTells.{listing_status}
use Rattle.run_laws.proofs.Listings.{never_open}
use Rattle.run_laws.proofs.Agrees.{HasSaid, has_said, stored_later, stored_first, other_status}
use Rattle.cli_words.specs.declared.words.Form.{Form}
use Rattle.cli_words.specs.declared.words.Form.TheVariants.{Codes, Names, Object}

-- what a list of a problem says by a complete certificate, if a grouping's number is asked for
record SaysAll (form : Form) (v : ProblemValue) (named : Option (List CountyName)) (which : Option Grouping) (a : Answered) : Type 0 where
  groupings : List Grouping
  all : AreAllBest (problem_of v) groupings
  in_order : AreInOrder groupings
  answer : a ≡ listing_answer form v named groupings which

at_most_one : (n : ℕ) → (n ≡ 0) ⊎ (n ≡ 1) → n ≤ 3
at_most_one n (inl zero) = omega (arith, zero)
at_most_one n (inr one) = omega (arith, one)

-- all of them, no grouping of the number, or that the budget is too small
abbrev SaysAllOrStops : Form → ProblemValue → Option (List CountyName) → Option Grouping → Answered → Type 0
SaysAllOrStops form v named which a = SaysAll form v named which a ⊎ ((a ≡ no_such_grouping) ⊎ IsCutOff form a)

-- what every list by a text says that has this problem
abbrev ListsSay : ProblemValue → List ℕ → Type 0
ListsSay v text =
    (budget : ℕ) (form : Form) (t : Tabled) → t.problem ≡ v → (asked : Asked) (s : Listed) → IsListAnswer form t budget asked text s
    → SaysAllOrStops form v t.named asked.which s.answer

-- that no grouping has the number is a line
none_line : (form : Form) → shown_in form no_such_grouping ≡ line_in form no_such_grouping
none_line Codes = refl
none_line Names = refl
none_line Object = refl

-- what is said of a text that spells a certificate with a complete tree
module _ (v : ProblemValue) (text : List ℕ) (c : Certificate) (g : Grouping) (spelling : IsSpelling text c) (is : IsCertificate (problem_of v) c.round c.tree)
    (target : c.round.target ≡ Some g) (complete : IsComplete c.tree (problem_of v) c.round (empty_state (problem_of v))) (budget : ℕ) (form : Form) where
  module _ (t : Tabled) (same : t.problem ≡ v) (groupings : List Grouping) (all : AreAllBest (problem_of v) groupings)
      (in_order : AreInOrder groupings) (which : Option Grouping) where
    listing_is : listing_answer form t.problem t.named groupings which ≡ listing_answer form v t.named groupings which
    listing_is = ap (λ (w : ProblemValue). listing_answer form w t.named groupings which) same

    says_numbered : (h : Option Grouping) → SaysAllOrStops form v t.named which (listed_with form t groupings which h).answer
    says_numbered None = inr (inl refl)
    says_numbered (Some h) = inl (record { groupings = groupings; all = all; in_order = in_order; answer = listing_is })

    says_all : (number : Option ℕ) → SaysAllOrStops form v t.named which (listed_by_number form t groupings which number).answer
    says_all None = inl (record { groupings = groupings; all = all; in_order = in_order; answer = listing_is })
    says_all (Some number) = says_numbered (grouping_numbered groupings number)

  says : (t : Tabled) → t.problem ≡ v → (asked : Asked) (listing : Listing) → IsListing (problem_of v) text budget listing → ListsAllBest (problem_of v) listing
      → SaysAllOrStops form v t.named asked.which (listing_said form t asked listing).answer
  says t same asked (All list) h all = says_all t same (map sets_held list.items) all.0 all.1 asked.which asked.number
  says t same asked (Open gap line) h all = absurd (never_open (problem_of v) text budget c gap line spelling complete h)
  says t same asked Impossible h all = absurd (texts.agrees.best (problem_of v) text c g budget verdict.Impossible spelling is target h)
  says t same asked (No fault line) h all = absurd (texts.agrees.best (problem_of v) text c g budget (verdict.No fault line) spelling is target h)
  says t same asked Budget h all = inr (inr (inl refl))

  listed_says : (t : Tabled) → t.problem ≡ v → (asked : Asked) (s : Listed) → IsListAnswer form t budget asked text s
      → SaysAllOrStops form v t.named asked.which s.answer
  listed_says t same asked s h =
      let listed = subst (λ (w : ProblemValue). IsListing (problem_of w) text budget h.listing) same h.is in
      let all = subst (λ (w : ProblemValue). ListsAllBest (problem_of w) h.listing) same h.all in
      subst (λ (x : Listed). SaysAllOrStops form v t.named asked.which x.answer) (sym h.said) (says t same asked h.listing listed all)

-- a list by this text over files that tell the problem
module _ (others : Files) (list : ListWords) (which : Option Grouping) (v : ProblemValue) (text : List ℕ)
    (reads : ReadsProblem others list.check.problem v) (certificate : others list.check.certificate.now ≡ Some text)
    (which_is : IsGroupingIfNamed others list.which which) (listed : ListsSay v text) where
  -- the form of its answer, and whether it reads the names of the counties
  abbrev form : Form
  form = list.check.problem.common.form

  abbrev names_read : Bool
  names_read = reads_names list.check.problem.common list.groupings

  -- what it comes to
  record IsSaid (b : Answered) : Type 0 where
    named : Option (List CountyName)
    named_are : AreNamesIf (has_names form) others list.check.problem.common named
    said : SaysAllOrStops form v named which b

  abbrev IsTold : Tabled → Type 0
  IsTold = IsTabled others list.check.problem v names_read

  five_stops : (b : Answered) → b.status ≡ 5 → IsStopped names_read b
  five_stops b five = inl five

  -- what is answered to the certificate's bytes, and the steps behind the grouping whose number is asked for
  abbrev IsListed : Tabled → Option Grouping → List ℕ → Listed → Type 0
  IsListed t asked bytes = IsListAnswer form t list.check.budget (asked_by list asked) bytes

  abbrev behind : Tabled → Option Grouping → Steps Listed
  behind t asked = load_step (Some others) list.check.certificate.now >>= λ bytes. value_step (IsListed t asked bytes)

  behind_which : (t : Tabled) → IsTold t → EndsBy (λ (s : Listed). IsSaid s.answer) (IsStopped names_read) (behind t which)
  behind_which t told =
      bind_gives (IsStopped names_read) text (λ (s : Listed). IsSaid s.answer) (load_step (Some others) list.check.certificate.now)
      (λ bytes. value_step (IsListed t which bytes))
      (load_gives (IsStopped names_read) five_stops others list.check.certificate.now text certificate)
      (value_ends (IsStopped names_read) (λ (s : Listed). IsSaid s.answer) (IsListed t which text) (λ s so. record {
        named = t.named;
        named_are = names_shown others list.check.problem.common list.groupings t.named told.1;
        said = listed list.check.budget form t told.0 (asked_by list which) s so;
      }))

  steps_end : EndsBy (λ (s : Listed). IsSaid s.answer) (IsStopped names_read) (list_steps (Some others) list)
  steps_end =
      bind_ends (IsStopped names_read) IsTold (λ (s : Listed). IsSaid s.answer) (tabled_problem_in (Some others) list.check.problem names_read)
      (λ t. which_of (Some others) list.which >>= behind t)
      (tabled_again (IsStopped names_read) five_stops others list.check.problem v reads names_read (at_name names_read)) (λ t told.
      bind_gives (IsStopped names_read) which (λ (s : Listed). IsSaid s.answer) (which_of (Some others) list.which) (behind t)
      (which_again (IsStopped names_read) five_stops others list.which which which_is) (behind_which t told))

  -- it ends as its steps do, or at a file that was refused
  ends : (start end : History) (none : List NamedFile) (b : Answered) → ListEnds (Some others) list start end none b → IsSaid b ⊎ IsStopped names_read b
  ends start end none b (inl stop) = inr (steps_end start end (Err b) stop.0)
  ends start end none b (inr k) = after_stores k.2 k.4 k.5
    where
      after_stores : (refusal : Option Answered) → store_steps (listed_files list k.0) k.1 end none refusal → b ≡ said_after refusal k.0.answer
          → IsSaid b ⊎ IsStopped names_read b
      after_stores None stores said = inl (subst IsSaid (sym said) (steps_end start k.1 (Ok k.0) k.3))
      after_stores (Some refusal) stores said =
          inr (inl (same_status b refusal said ∙ refusal_status (listed_files list k.0) k.1 end none refusal stores))

  -- and so it is shown
  abbrev IsEnd : Answered → Type 0
  IsEnd b = IsListOfFiles others list which b ⊎ ((b ≡ line_in form no_such_grouping) ⊎ (IsCutOff form b ⊎ IsUnnamed form names_read b))

  module _ (raw b : Answered) (is : IsShown form raw b) where
    none_shown : raw ≡ no_such_grouping → (b ≡ line_in form no_such_grouping) ⊎ IsCutOff form b
    none_shown none = by_shown is
      where
        by_shown : IsShown form raw b → (b ≡ line_in form no_such_grouping) ⊎ IsCutOff form b
        by_shown (inl e) = inl (e ∙ ap (shown_in form) none ∙ none_line form)
        by_shown (inr memory) = inr (inr (same_status b memory_answer memory.1))

    all_shown : (s : IsSaid raw) → SaysAll form v s.named which raw → IsListOfFiles others list which b ⊎ IsCutOff form b
    all_shown s said = by_kept (shown_or_cut form raw b is low)
      where
        low : raw.status ≤ 3
        low = subst (λ (x : Answered). x.status ≤ 3) (sym said.answer)
            (at_most_one (listing_answer form v s.named said.groupings which).status (listing_status form v s.named said.groupings which))

        by_kept : (b ≡ raw) ⊎ IsCutOff form b → IsListOfFiles others list which b ⊎ IsCutOff form b
        by_kept (inl same) = inl (record {
          v = v;
          problem = problem_of_files others list.check.problem v reads;
          groupings = said.groupings;
          all = said.all;
          in_order = said.in_order;
          named = s.named;
          named_are = s.named_are;
          answer = same ∙ said.answer;
        })
        by_kept (inr cut) = inr cut

    shown : IsSaid raw ⊎ IsStopped names_read raw → IsEnd b
    shown (inl s) = by_said s.said
      where
        by_said : SaysAllOrStops form v s.named which raw → IsEnd b
        by_said (inl said) = by_list (all_shown s said)
          where
            by_list : IsListOfFiles others list which b ⊎ IsCutOff form b → IsEnd b
            by_list (inl all) = inl all
            by_list (inr cut) = inr (inr (inl cut))
        by_said (inr (inl none)) = by_none (none_shown none)
          where
            by_none : (b ≡ line_in form no_such_grouping) ⊎ IsCutOff form b → IsEnd b
            by_none (inl line) = inr (inl line)
            by_none (inr cut) = inr (inr (inl cut))
        by_said (inr (inr cut)) = inr (inr (inl (cut_shown form raw b is cut)))
    shown (inr stopped) = inr (inr (stopped_shown form names_read raw b is stopped))

  run_ends : (start end : History) (none : List NamedFile) (b : Answered) → CommandRun (Some others) (ListAll list) start end none b → IsEnd b
  run_ends start end none b (inl memory) = inr (inr (inl (inr (same_status b memory_answer memory.0))))
  run_ends start end none b (inr run) = shown run.raw b run.shown (ends start end none run.raw run.ends)

module _ (files : Files) (words : SolveWords) (stored : List NamedFile) (a : Answered) (h : HasSaid files words stored a) where
  stored_list : (text : List ℕ) → ListsSay h.t.problem text → h.s.certificate ≡ Some text
      → IsStoredFirst words.certificate (ListsAllOfFiles files words.problem) stored
  stored_list text listed spelled name named = (
    text,
    stored_later words h.s,
    h.all ∙ stored_first words h.s name text named spelled,
    λ others list which start end none b same certificate which_is.
        run_ends others list which h.t.problem text
        (reads_again files others words.problem list.check.problem h.t.problem same h.reads.reads) certificate which_is listed start end none b,
  )

  solved_lists : (answer : search.Answer) → IsSolveAnswer (problem_of h.t.problem) words.steps answer → HasCompleteTree (problem_of h.t.problem) answer
      → SaysSolved words.problem.common.form h.t answer h.s → a.status ≡ 0 → IsStoredFirst words.certificate (ListsAllOfFiles files words.problem) stored
  solved_lists (found.Best g c) is complete said zero =
      stored_list said.0
      (λ budget form. listed_says h.t.problem said.0 (certificate_of c) g.groups.items said.1 is.1.proves is.1.target_is complete budget form)
      (ap (λ x. x.certificate) said.2)
  solved_lists (found.Impossible c) is complete said zero = absurd (other_status files words stored a h _ 0 1 said.2 zero refl (omega arith))
  solved_lists (found.Open None part steps) is complete said zero = absurd (other_status files words stored a h _ 0 3 said zero refl (omega arith))
  solved_lists (found.Open (Some g) part steps) is complete said zero = absurd (other_status files words stored a h _ 0 3 said zero refl (omega arith))

pub listed : (files : Files) (words : SolveWords) (before after : History) (stored : List NamedFile) (a : Answered) → CommandRun (Some files) (Solve words) before after stored a → a.status ≡ 0
    → IsStoredFirst words.certificate (ListsAllOfFiles files words.problem) stored
listed files words before after stored a run zero =
    let h = has_said files words before after stored a run (omega (arith, zero)) in
    solved_lists files words stored a h h.solved.found h.solved.is h.solved.complete h.solved.said zero
