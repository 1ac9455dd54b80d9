-- What runs of `audit` and of `size` tell.
use Rattle.std.proofs.Common.{◌≡◌, ◌≤◌, ℕ, Bool, true, false, List, [], ◌∷◌, Option, Some, None, inl, inr, refl, ◌∙◌}
use Rattle.std.specs.Prelude.{Ok, is_some}
use Rattle.std.specs.Borrow.{Bor}
use Rattle.county_problem.specs.ProblemValue.{ProblemValue}
use Rattle.grouping_laws.specs.Grouping.{Grouping}
use Rattle.county_codes.specs.declared.county.County.{County}
use Rattle.grouping_table.specs.Table.{unnamed_counties as without_names}
use Rattle.pl94_counties.specs.CountyNames.{CountyName}
use Rattle.pl94_counties.specs.declared.blocks.Block.{Block}
use Rattle.baf_auditor.specs.declared.assignments.Assignment.{Assignment}
use Rattle.baf_auditor.specs.declared.finding.Finding.{Finding}
use Rattle.cli_words.specs.declared.words.CommonWords.{CommonWords}
use Rattle.cli_words.specs.declared.words.AuditWords.{AuditWords}
use Rattle.cli_words.specs.declared.words.CommandWords.TheVariants.{Size, Audit}
use Rattle.cli_file_stores.specs.Files.{NamedFile, Files}
use Rattle.cli_file_stores.specs.History.{History}
use Rattle.cli_answers.specs.Answer.{Answered, success}
use Rattle.cli_answers.specs.Refusals.{problem_answer}
use Rattle.run_laws.specs.Forms.{has_names, size_in}
use Rattle.run_laws.specs.Steps.{StepsEndIn}
use Rattle.run_laws.specs.FilesProblem.{AreNamesIf, AreCountiesOfFiles}
use Rattle.run_laws.specs.ProblemSteps.{IsBuilt}
use Rattle.run_laws.specs.JudgeSteps.{sizes_of, sizes_by, size_steps, IsDistrictsTable, IsTableIfAsked, IsAudited, findings_answer, audit_steps}
use Rattle.run_laws.specs.Storing.{IsStoredAs, named_file}
use Rattle.run_laws.specs.Run.{CommandRun}
use Rattle.run_laws.specs.Headline.{AuditTells, Tells}
use Rattle.run_laws.proofs.Ending.{HasEnded, same_status, not_refused, has_ended}
use Rattle.run_laws.proofs.Shown.{ends_low}
use Rattle.run_laws.proofs.Refusing.{Refuses, bind_refuses, call_refuses, counties_refuse, named_refuse, problem_status, problem_refuses, grouping_refuses, blocks_refuse, assignments_refuse, value_refuses}
use Rattle.run_laws.proofs.FilesRead.{went, named_told, counties_with_names, stored_last}
use Rattle.run_laws.proofs.FilesProblemLemmas.{counties_found, problem_found, grouping_found, blocks_found, assignments_found}

module _ (files : Files) where
  -- ---- audit
  audit_refuses : (words : AuditWords) → Refuses (audit_steps (Some files) words)
  audit_refuses words = bind_refuses _ _ (problem_refuses (Some files) words.problem) (λ v.
      bind_refuses _ _ (blocks_refuse (Some files) words.census words.problem.common.state) (λ blocks.
      bind_refuses _ _ (grouping_refuses (Some files) words.grouping.now) (λ g.
      bind_refuses _ _ (assignments_refuse (Some files) words.assignments.now) (λ lines.
      value_refuses (IsAudited words.problem.common.form (is_some words.districts) v g blocks lines)))))

  -- the table of the districts is stored, if its file is named
  districts_stored : (name : Option (Bor (List ℕ))) (v : ProblemValue) (g : Grouping) (blocks : List Block) (lines : List Assignment) (table : Option (List ℕ)) (stored : List NamedFile)
      → IsTableIfAsked (is_some name) v g blocks lines table → stored ≡ named_file name table → IsStoredAs name (IsDistrictsTable v g blocks lines) stored
  districts_stored None v g blocks lines table stored h all = tt
  districts_stored (Some name) v g blocks lines table stored h all = stored_last name (IsDistrictsTable v g blocks lines) h.0 table [] stored h.2 h.1 all

  ended_tells : (words : AuditWords) (before : History) (stored : List NamedFile) (a : Answered)
      → HasEnded (audit_steps (Some files) words) (λ s. named_file words.districts s.districts) (λ s. s.answer) before stored a → AuditTells files words stored a
  ended_tells words before stored a h =
      let p = went _ _ before h.between h.s h.given in
      let b = went _ _ p.between h.between h.s p.goes_on in
      let g = went _ _ b.between h.between h.s b.goes_on in
      let s = went _ _ g.between h.between h.s g.goes_on in
      let audited : IsAudited words.problem.common.form (is_some words.districts) p.value g.value b.value s.value h.s = s.goes_on.1 in
      record {
        v = p.value;
        problem = problem_found files words.problem before p.between p.value p.given;
        grouping = g.value;
        grouping_is = grouping_found files words.grouping.now b.between g.between g.value g.given;
        blocks = b.value;
        blocks_are = blocks_found files words.census words.problem.common.state p.between b.between b.value b.given;
        assignments = s.value;
        assignments_are = assignments_found files words.assignments.now g.between s.between s.value s.given;
        findings = audited.findings;
        findings_are = audited.are;
        answer = h.said ∙ audited.said;
        table = districts_stored words.districts p.value g.value b.value s.value h.s.districts stored audited.districts h.all;
      }

  by_findings : (words : AuditWords) (stored : List NamedFile) (a : Answered) (findings : List Finding)
      → a ≡ findings_answer words.problem.common.form findings → AuditTells files words stored a → Tells files (Audit words) stored a
  by_findings words stored a [] said told = inl (same_status a _ said, told)
  by_findings words stored a (f ∷ fs) said told = inr (inl (same_status a _ said, told))

  pub audit_tells : (words : AuditWords) (before after : History) (stored : List NamedFile) (a : Answered) → CommandRun (Some files) (Audit words) before after stored a → a.status ≤ 3
      → Tells files (Audit words) stored a
  audit_tells words before after stored a run low =
      let ends = ends_low (Some files) (Audit words) before after stored a run low in
      let told = ended_tells words before stored a
      (has_ended (audit_steps (Some files) words) (λ s. named_file words.districts s.districts) (λ s. s.answer) before after stored a low (audit_refuses words) ends) in
      by_findings words stored a told.findings told.answer told

  -- ---- size
  -- counties that may have names, and the steps behind them
  record HasCounties (reads : Bool) (words : CommonWords) (after : History) (a : Answered) : Type 0 where
    between : History
    counties : List County
    counties_are : AreCountiesOfFiles files words counties
    named : Option (List CountyName)
    named_are : AreNamesIf reads files words named
    sizes : sizes_of words named counties between after (Ok a)

  has_counties : (reads : Bool) (words : CommonWords) (before after : History) (a : Answered) → sizes_by reads (Some files) words before after (Ok a)
      → HasCounties reads words after a
  has_counties false words before after a h =
      let c = went _ _ before after a h in
      record {
        between = c.between;
        counties = c.value;
        counties_are = counties_found files words before c.between c.value c.given;
        named = None;
        named_are = tt;
        sizes = c.goes_on;
      }
  has_counties true words before after a h =
      let n = went _ _ before after a h in
      let named = named_told files words.state words.counties before n.between n.value n.given in
      record {
        between = n.between;
        counties = without_names n.value;
        counties_are = counties_with_names files words.state words.counties n.value named;
        named = Some n.value;
        named_are = (n.value, refl, named);
        sizes = n.goes_on;
      }

  of_sizes_refuse : (words : CommonWords) (named : Option (List CountyName)) (counties : List County) → Refuses (sizes_of words named counties)
  of_sizes_refuse words named counties =
      bind_refuses _ _ (call_refuses problem_answer (IsBuilt counties [] [] words.chamber words.tolerance) problem_status)
      (λ v. value_refuses (λ a. a ≡ success (size_in words.form v named)))

  sizes_refuse : (reads : Bool) (words : CommonWords) → Refuses (sizes_by reads (Some files) words)
  sizes_refuse false words = bind_refuses _ _ (counties_refuse (Some files) words) (of_sizes_refuse words None)
  sizes_refuse true words =
      bind_refuses _ _ (named_refuse (Some files) words) (λ named. of_sizes_refuse words (Some named) (without_names named))

  size_ended : (words : CommonWords) (before after : History) (stored : List NamedFile) (a : Answered) → size_steps (Some files) words before after (Ok a)
      → Tells files (Size words) stored a
  size_ended words before after stored a h =
      let c = has_counties (has_names words.form) words before after a h in
      let b = went _ _ c.between after a c.sizes in
      let said : a ≡ success (size_in words.form b.value c.named) = b.goes_on.1 in
      inl (
        same_status a _ said,
        record {
          counties = c.counties;
          counties_are = c.counties_are;
          v = b.value;
          faultless = b.given.1.0;
          problem = b.given.1.1;
          named = c.named;
          named_are = c.named_are;
          answer = said;
        },
      )

  pub size_tells : (words : CommonWords) (before after : History) (stored : List NamedFile) (a : Answered) → CommandRun (Some files) (Size words) before after stored a → a.status ≤ 3
      → Tells files (Size words) stored a
  size_tells words before after stored a run low = by_end (ends_low (Some files) (Size words) before after stored a run low).0
    where
      by_end : StepsEndIn (size_steps (Some files) words) before after a → Tells files (Size words) stored a
      by_end (inl ended) = size_ended words before after stored a ended
      by_end (inr stop) = absurd (not_refused a low (sizes_refuse (has_names words.form) words before after a stop))
