-- What a run of `list` tells.
use Rattle.std.proofs.Common.{◌≡◌, ◌≤◌, ◌⊎◌, ℕ, List, [], ◌++◌, map, Option, Some, None, inl, inr, refl, ap, ◌∙◌, arith}
use Rattle.std.specs.Prelude.{Ok, option_map}
use Rattle.county_problem.specs.ProblemValue.{ProblemValue, problem_of}
use Rattle.grouping_laws.specs.Grouping.{Grouping}
use Rattle.grouping_report.specs.GroupingText.{grouping_text}
use Rattle.list_groupings.specs.declared.listing.Listing.{Listing}
use Rattle.list_groupings.specs.declared.listing.Listing.TheVariants.{All, Open, Impossible, No, Budget}
use Rattle.list_groupings.specs.Answers.{IsListing, ListsAllBest}
use Rattle.list_groupings.specs.Walking.{sets_held}
use Rattle.certificate_checker.specs.declared.verdict.Verdict.TheVariants as verdict
use Rattle.certificate_checker.proofs.Answering.{shows_impossible}
use Rattle.cli_words.specs.declared.words.ListWords.{ListWords}
use Rattle.cli_words.specs.declared.words.StoredWords.{StoredWords}
use Rattle.cli_words.specs.declared.words.CommandWords.TheVariants.{List as ListAll}
use Rattle.cli_file_stores.specs.Files.{NamedFile, Files}
use Rattle.cli_file_stores.specs.History.{History}
use Rattle.pl94_counties.specs.CountyNames.{CountyName}
use Rattle.cli_answers.specs.Answer.{Answered, budget_answer}
use Rattle.cli_answers.specs.CheckLines.{no_answer}
use Rattle.run_laws.specs.Forms.{has_names, reads_names}
use Rattle.run_laws.specs.TableSteps.{Tabled}
use Rattle.run_laws.specs.FilesProblem.{AreNamesIf, IsProblemOfFiles, IsLongTableOfFiles, IsGroupingIfNamed}
use Rattle.run_laws.specs.WhichGrouping.{number_in_list, number_status}
use Rattle.run_laws.specs.ListSteps.{Listed, IsListAnswer, asked_by, list_steps, listed_files, listed_all, listed_with, listed_by_number, listing_answer, listing_said, open_answer, grouping_numbered}
use Rattle.run_laws.specs.Storing.{IsStoredAs, named_file}
use Rattle.run_laws.specs.Run.{CommandRun}
use Rattle.run_laws.specs.Headline.{IsNumberedStored, ListTellsAll, Tells}
use Rattle.run_laws.proofs.Refusing.{Refuses, bind_refuses, load_refuses, tabled_refuses, which_refuses, value_refuses}
use Rattle.run_laws.proofs.Ending.{same_status, has_ended}
use Rattle.run_laws.proofs.Shown.{line_status, ends_low}
use Rattle.run_laws.proofs.FilesProblemLemmas.{which_found}
use Rattle.run_laws.proofs.FilesRead.{ReadsTabled, names_shown, went, tabled_reads, problem_of_files, stored_between, long_table_stored}
use Rattle.cli_words.specs.declared.words.Form.{Form}

-- what the steps of `list` come to
record HasListed (files : Files) (words : ListWords) (s : Listed) : Type 0 where
  t : Tabled
  reads : ReadsTabled files words.check.problem (reads_names words.check.problem.common words.groupings) t
  which : Option Grouping
  which_is : IsGroupingIfNamed files words.which which
  text : List ℕ
  held : files words.check.certificate.now ≡ Some text
  answer : IsListAnswer words.check.problem.common.form t words.check.budget (asked_by words which) text s

has_listed : (files : Files) (words : ListWords) (before after : History) (s : Listed) → list_steps (Some files) words before after (Ok s) → HasListed files words s
has_listed files words before after s h =
    let p = went _ _ before after s h in
    let w = went _ _ p.between after s p.goes_on in
    let l = went _ _ w.between after s w.goes_on in
    record {
      t = p.value;
      reads = tabled_reads files words.check.problem (reads_names words.check.problem.common words.groupings) before p.between p.value p.given;
      which = w.value;
      which_is = which_found files words.which p.between w.between w.value w.given;
      text = l.value;
      held = l.given.0;
      answer = l.goes_on.1;
    }

-- a listing has status 0, or 1 if a grouping isn't listed
number_is : (number : Option ℕ) → (number_status number ≡ 0) ⊎ (number_status number ≡ 1)
number_is None = inr refl
number_is (Some n) = inl refl

pub listing_status : (form : Form) (v : ProblemValue) (named : Option (List CountyName)) (groupings : List Grouping) (which : Option Grouping)
    → ((listing_answer form v named groupings which).status ≡ 0) ⊎ ((listing_answer form v named groupings which).status ≡ 1)
listing_status form v named groupings None = inl refl
listing_status form v named groupings (Some g) = number_is (number_in_list g groupings)

-- what was said, after all files were stored
module _ (files : Files) (words : ListWords) (stored : List NamedFile) (a : Answered) (s : Listed) (h : HasListed files words s)
    (all : stored ≡ listed_files words s) (said : a ≡ s.answer) (low : a.status ≤ 3) where
  -- the form of the answer, and the names of the counties if it has them
  abbrev form : Form
  form = words.check.problem.common.form

  named_are : AreNamesIf (has_names form) files words.check.problem.common h.t.named
  named_are = names_shown files words.check.problem.common words.groupings h.t.named h.reads.names

  answer_is : (r : Listed) → s ≡ r → a ≡ r.answer
  answer_is r is = said ∙ ap (λ (x : Listed). x.answer) is

  problem : IsProblemOfFiles files words.check.problem h.t.problem
  problem = problem_of_files files words.check.problem h.t.problem h.reads.reads

  -- the listing of these groupings was said, and its files were stored
  record SaysListing (groupings : List Grouping) (stored_words : Option StoredWords) : Type 0 where
    listing : a ≡ listing_answer form h.t.problem h.t.named groupings h.which
    lines : IsNumberedStored groupings stored_words stored
    table : IsStoredAs words.groupings (IsLongTableOfFiles files words.check.problem h.t.problem groupings) stored

  module _ (groupings : List Grouping) where
    table_is : (grouping : Option (List ℕ)) (earlier : List NamedFile) → s ≡ listed_all form h.t groupings h.which grouping → stored ≡ earlier ++ named_file words.groupings s.table
        → IsStoredAs words.groupings (IsLongTableOfFiles files words.check.problem h.t.problem groupings) stored
    table_is grouping earlier is whole =
        long_table_stored files words.check.problem words.groupings h.t groupings s.table earlier stored h.reads (ap (λ (x : Listed). x.table) is) whole

    -- no grouping of the number is said with a higher status
    too_high : (r : Listed) → s ≡ r → 4 ≤ r.answer.status → ⊥
    too_high r is high =
        let same : a.status ≡ r.answer.status = same_status a r.answer (answer_is r is) in
        omega arith

    says_with : (w : StoredWords) (g : Option Grouping) → grouping_numbered groupings w.number ≡ g → s ≡ listed_with form h.t groupings h.which g
        → stored ≡ named_file (Some w.out) s.grouping ++ named_file words.groupings s.table → SaysListing groupings (Some w)
    says_with w None numbered is whole = absurd (too_high _ is (omega arith))
    says_with w (Some g) numbered is whole = record {
      listing = answer_is _ is;
      lines = (
        g,
        numbered,
        stored_between (Some w.out) (λ text. text ≡ grouping_text g) (grouping_text g) s.grouping [] (named_file words.groupings s.table) stored refl (ap (λ (x : Listed). x.grouping) is) whole,
      );
      table = table_is (Some (grouping_text g)) (named_file (Some w.out) s.grouping) is whole;
    }

    says_listing : (stored_words : Option StoredWords) → s ≡ listed_by_number form h.t groupings h.which (option_map (λ w. w.number) stored_words)
        → stored ≡ named_file (option_map (λ w. w.out) stored_words) s.grouping ++ named_file words.groupings s.table → SaysListing groupings stored_words
    says_listing None is whole = record { listing = answer_is _ is; lines = tt; table = table_is None [] is whole }
    says_listing (Some w) is whole = says_with w (grouping_numbered groupings w.number) refl is whole

  by_status : (told : ListTellsAll files words stored a)
      → ((listing_answer form told.v told.named told.groupings told.which).status ≡ 0)
      ⊎ ((listing_answer form told.v told.named told.groupings told.which).status ≡ 1)
      → Tells files (ListAll words) stored a
  by_status told (inl zero) = inl (same_status a _ told.answer ∙ zero, told)
  by_status told (inr one) = inr (inl (same_status a _ told.answer ∙ one, inl told))

  listing_tells : (listing : Listing) → IsListing (problem_of h.t.problem) h.text words.check.budget listing → ListsAllBest (problem_of h.t.problem) listing
      → s ≡ listing_said form h.t (asked_by words h.which) listing → Tells files (ListAll words) stored a
  listing_tells (All list) is best so =
      let groupings = map sets_held list.items in
      let seen = says_listing groupings words.stored so all in
      by_status (record {
        v = h.t.problem;
        problem = problem;
        groupings = groupings;
        all = best.0;
        in_order = best.1;
        which = h.which;
        which_is = h.which_is;
        named = h.t.named;
        named_are = named_are;
        answer = seen.listing;
        lines = seen.lines;
        table = seen.table;
      }) (listing_status form h.t.problem h.t.named groupings h.which)
  listing_tells (Open gap line) is best so = inr (inr (
    same_status a _ (answer_is _ so) ∙ line_status form (open_answer gap line),
    inl (record {
      v = h.t.problem;
      problem = problem;
      certificate = h.text;
      certificate_is = h.held;
      gap = gap;
      line = line;
      first = is;
      answer = answer_is _ so;
    }),
  ))
  listing_tells Impossible is best so =
      let none = shows_impossible {E = ℕ} (problem_of h.t.problem) h.text words.check.budget (Ok verdict.Impossible) is in
      inr (inl (
        same_status a _ (answer_is _ so),
        inr (inl (record { v = h.t.problem; problem = problem; none = none; named = h.t.named; named_are = named_are; answer = answer_is _ so })),
      ))
  listing_tells (No fault line) is best so = inr (inl (
    same_status a _ (answer_is _ so) ∙ line_status form (no_answer fault line),
    inr (inr (record {
      v = h.t.problem;
      problem = problem;
      certificate = h.text;
      certificate_is = h.held;
      fault = fault;
      line = line;
      first = is;
      answer = answer_is _ so;
    })),
  ))
  listing_tells Budget is best so = inr (inr (
    same_status a _ (answer_is _ so) ∙ line_status form budget_answer,
    inr (record { v = h.t.problem; problem = problem; certificate = h.text; certificate_is = h.held; above = is; answer = answer_is _ so }),
  ))

list_refuses : (files : Files) (words : ListWords) → Refuses (list_steps (Some files) words)
list_refuses files words =
    bind_refuses _ _ (tabled_refuses (Some files) words.check.problem (reads_names words.check.problem.common words.groupings)) (λ t.
    bind_refuses _ _ (which_refuses (Some files) words.which) (λ which.
    bind_refuses _ _ (load_refuses (Some files) words.check.certificate.now) (λ text.
    value_refuses (IsListAnswer words.check.problem.common.form t words.check.budget (asked_by words which) text))))

pub list_tells : (files : Files) (words : ListWords) (before after : History) (stored : List NamedFile) (a : Answered) → CommandRun (Some files) (ListAll words) before after stored a → a.status ≤ 3
    → Tells files (ListAll words) stored a
list_tells files words before after stored a run low =
    let ends = ends_low (Some files) (ListAll words) before after stored a run low in
    let end = has_ended (list_steps (Some files) words) (listed_files words) (λ s. s.answer) before after stored a low (list_refuses files words) ends in
    let h = has_listed files words before end.between end.s end.given in
    listing_tells files words stored a end.s h end.all end.said low h.answer.listing h.answer.is h.answer.all h.answer.said
