-- What the definitions of `specs/Headline.antt` say of a state of one county that is written out, and of files that are
-- refused. A weakened definition would say more.
use Rattle.std.proofs.Common.{◌≡◌, ℕ, List, [], ◌∷◌, ◌++◌, Option, Some, None, inl, inr, refl, sym, ap, subst, subst₂, ◌∙◌, arith, codes}
use Rattle.std.specs.Prelude.{Ok, Err}
use Rattle.std.specs.List.Sorted.{IsStrictlySortedBy}
use Rattle.std.specs.Borrow.{Bor}
use Rattle.county_codes.specs.declared.county.County.{County}
use Rattle.county_codes.specs.declared.tolerance.Tolerance.{Tolerance}
use Rattle.county_problem.specs.ProblemValue.{ProblemValue, problem_of}
use Rattle.county_problem.specs.Building.{IsProblemOf, problem_fault}
use Rattle.grouping_laws.specs.Grouping.{Grouping, IsBest}
use Rattle.pl94_counties.proofs.TraceLemmas.{contains_nil}
use Rattle.pl94_counties.specs.Counties.{county_list}
use Rattle.pl94_counties.specs.Fields.{geo_fields}
use Rattle.pl94_counties.specs.Geo.{area_on}
use Rattle.pl94_counties.specs.Segment.{record_on}
use Rattle.pl94_counties.specs.declared.fault.File.TheVariants as file
use Rattle.pl94_counties.specs.declared.fault.Pl94Fault.{Pl94Fault}
use Rattle.pl94_counties.specs.declared.fault.Pl94Kind.TheVariants as kinds
use Rattle.certificate_checker.proofs.Agrees as texts
use Rattle.certificate_checker.specs.declared.verdict.Verdict.TheVariants as verdict
use Rattle.certificate_data.specs.TreeValue.{Certificate}
use Rattle.certificate_laws.specs.Certificate.{IsCertificate, Conclusion}
use Rattle.certificate_laws.proofs.Agreement.{certificate_shows}
use Rattle.certificate_text.specs.Spelling.{IsSpelling}
use Rattle.grouping_reader.specs.GroupingLines.{grouping_list}
use Rattle.adjacency_reader.specs.Rows.{row_on, row_list}
use Rattle.adjacency_reader.specs.Pairs.{ArePairs}
use Rattle.adjacency_reader.specs.Links.{link_list}
use Rattle.adjacency_reader.specs.WithdrawnSets.{withdrawn_list}
use Rattle.adjacency_reader.specs.Adjacency.{AreLinked}
use Rattle.cli_words.specs.declared.words.CommonWords.{CommonWords}
use Rattle.cli_words.specs.declared.words.CensusWords.{CensusWords}
use Rattle.cli_words.specs.declared.words.CountyWords.{CountyWords}
use Rattle.cli_words.specs.declared.words.CountyWords.TheVariants.{Census}
use Rattle.cli_words.specs.declared.words.ProblemWords.{ProblemWords}
use Rattle.cli_words.specs.declared.words.ListWords.{ListWords}
use Rattle.cli_words.specs.declared.words.JudgeWords.{JudgeWords}
use Rattle.cli_words.specs.declared.words.ShareWords.{ShareWords}
use Rattle.cli_words.specs.declared.words.WorkerWords.{WorkerWords}
use Rattle.cli_words.specs.declared.words.CommandWords.TheVariants.{List as ListAll}
use Rattle.cli_file_stores.specs.Files.{NamedFile, Files}
use Rattle.cli_answers.specs.Answer.{Answered}
use Rattle.run_laws.specs.FilesProblem.{AreCountiesBy, AreCountiesOfFiles, IsReadAsIfNamed, IsProblemOfFiles, IsGroupingIfNamed}
use Rattle.run_laws.specs.ListSteps.{listing_answer}
use Rattle.cli_words.specs.Words.{standard_input}
use Rattle.run_laws.specs.Headline.{TellsNone, TellsFault, JudgeTellsLawful, ListTellsAll, ShareTellsBest, WorkerTells, Tells}
use Rattle.run_laws.proofs.FilesRead.{counties_of_census}

-- ---- the counties of files

-- a county line with the code 001 and the record 0
abbrev county_line : List ℕ
county_line = codes "||050||00|||0|||||37||001\n"

-- the record 0 has 100 people
abbrev record_line : List ℕ
record_line = codes "||||0|100\n"

abbrev one_county : List County
one_county = record { code = 37001; people = 100 } ∷ []

listed_one : county_list county_line record_line 37 ≡ Ok one_county
unfolding geo_fields area_on record_on
listed_one = refl

-- a further line that was cut off
cut_off : county_list (county_line ++ codes "||050||0") record_line 37 ≡ Err (record { kind = kinds.TooFewFields; file = file.Geo; line = 2 })
unfolding geo_fields area_on record_on
cut_off = refl

-- a further line of a county whose code has a letter
malformed : county_list (county_line ++ codes "||050||00|||0|||||37||0x3\n") record_line 37 ≡ Err (record { kind = kinds.BadCode; file = file.Geo; line = 2 })
unfolding geo_fields area_on record_on
malformed = refl

module _ (files : Files) (words : CommonWords) (census : CensusWords) (by : words.counties ≡ Census census) (state : words.state ≡ 37) (segment : files census.segment.now ≡ Some record_line) where
  -- one line: its county is that of the files
  one_is_listed : files census.geo.now ≡ Some county_line → AreCountiesOfFiles files words one_county
  one_is_listed geo = subst (λ (named : CountyWords). AreCountiesBy files words.state named one_county) (sym by)
      (counties_of_census files words.state census county_line record_line one_county geo segment (subst (λ n. county_list county_line record_line n ≡ Ok one_county) (sym state) listed_one))

  -- no counties are those of a file with a fault
  none_of : (text : List ℕ) (fault : Pl94Fault) → files census.geo.now ≡ Some text → county_list text record_line 37 ≡ Err fault → (counties : List County) → ¬ AreCountiesOfFiles files words counties
  none_of text fault geo at counties found =
      let are = subst (λ (named : CountyWords). AreCountiesBy files words.state named counties) by found in
      let one : Some are.geo ≡ Some text = sym are.geo_is ∙ geo in
      let two : Some are.segment ≡ Some record_line = sym are.segment_is ∙ segment in
      let held : are.geo ≡ text = cc one in
      let records : are.segment ≡ record_line = cc two in
      let same : county_list text record_line words.state ≡ Ok counties = subst₂ (λ (g s : List ℕ). county_list g s words.state ≡ Ok counties) held records are.faultless in
      let no : Err fault ≡ Ok counties = sym at ∙ subst (λ (n : ℕ). county_list text record_line n ≡ Ok counties) state same in
      absurd (cc no)

  cut_off_has_none : files census.geo.now ≡ Some (county_line ++ codes "||050||0") → (counties : List County) → ¬ AreCountiesOfFiles files words counties
  cut_off_has_none geo = none_of _ _ geo cut_off

  malformed_has_none : files census.geo.now ≡ Some (county_line ++ codes "||050||00|||0|||||37||0x3\n") → (counties : List County) → ¬ AreCountiesOfFiles files words counties
  malformed_has_none geo = none_of _ _ geo malformed

-- ---- the problem of files

-- an adjacency file without a pair
abbrev header_line : List ℕ
header_line = codes "County Name|County GEOID|Neighbor Name|Neighbor GEOID|Length\n"

no_rows : row_list header_line ≡ Ok []
unfolding row_on
no_rows = refl

no_pairs : ArePairs (37001 ∷ []) [] []
unfolding IsStrictlySortedBy
no_pairs = record { ascending = tt; each = λ a b. (λ c. absurd (contains_nil (a, b) c), λ h. absurd (cc h.3)) }

no_links : AreLinked [] [] []
unfolding IsStrictlySortedBy
no_links = record { ascending = tt; each = λ a b. (λ c. absurd (contains_nil (a, b) c), λ h. absurd (cc h.1)) }

abbrev twentieth : Tolerance
twentieth = record { numerator = 1; denominator = 20 }

-- the one county with the two seats of a chamber
abbrev one_problem : ProblemValue
one_problem = record { counties = one_county; withdrawn = []; pairs = []; total_people = 100; chamber = 2; seats_left = 2; numerator = 1; denominator = 20 }

without_fault : problem_fault one_county [] [] 2 twentieth ≡ None
without_fault = refl

built : IsProblemOf one_county [] [] 2 twentieth one_problem
built = record {
  same = record { moves = []; below = tt; is = refl };
  by_code = λ k within. absurd (omega (arith, within));
  sets = refl;
  joined = refl;
  total_people = refl;
  seats = refl;
  seats_left = refl;
  numerator = refl;
  denominator = refl;
}

-- the words name the files, a chamber of two seats, and neither links nor withdrawn sets
record NamesOne (files : Files) (words : ProblemWords) : Type 0 where
  census : CensusWords
  by : words.common.counties ≡ Census census
  geo : files census.geo.now ≡ Some county_line
  segment : files census.segment.now ≡ Some record_line
  adjacency : files words.adjacency.now ≡ Some header_line
  links : words.links ≡ None
  withdrawn : words.withdrawn ≡ None
  state : words.common.state ≡ 37
  chamber : words.common.chamber ≡ 2
  tolerance : words.common.tolerance ≡ twentieth

one_is_found : (files : Files) (words : ProblemWords) → NamesOne files words → IsProblemOfFiles files words one_problem
one_is_found files words n = record {
  counties = one_county;
  counties_are = one_is_listed files words.common n.census n.by n.state n.segment n.geo;
  pairs = [];
  pairs_are = record {
    rows = [];
    rows_are = (header_line, n.adjacency, no_rows);
    named = [];
    named_are = no_pairs;
    links = [];
    links_are = subst (λ (name : Option (Bor (List ℕ))). IsReadAsIfNamed link_list files name []) (sym n.links) refl;
    linked = no_links;
  };
  withdrawn = [];
  withdrawn_are = subst (λ (name : Option (Bor (List ℕ))). IsReadAsIfNamed withdrawn_list files name []) (sym n.withdrawn) refl;
  faultless = subst₂ (λ (chamber : ℕ) (tolerance : Tolerance). problem_fault one_county [] [] chamber tolerance ≡ None) (sym n.chamber) (sym n.tolerance) without_fault;
  problem = subst₂ (λ (chamber : ℕ) (tolerance : Tolerance). IsProblemOf one_county [] [] chamber tolerance one_problem) (sym n.chamber) (sym n.tolerance) built;
}

-- ---- judge: the grouping that is told is that of the file

told_grouping : (files : Files) (words : JudgeWords) (stored : List NamedFile) (a : Answered) (told : JudgeTellsLawful files words stored a) (text : List ℕ) (g : Grouping)
    → files words.grouping.now ≡ Some text → grouping_list text ≡ Ok g → told.grouping ≡ g
told_grouping files words stored a told text g held read =
    let one : Some told.grouping_is.0 ≡ Some text = sym told.grouping_is.1 ∙ held in
    let same : told.grouping_is.0 ≡ text = cc one in
    let both : Ok told.grouping ≡ Ok g = sym told.grouping_is.2 ∙ ap grouping_list same ∙ read in
    cc both

-- ---- share: the grouping that is told is the target of the board

told_target : (files : Files) (words : ShareWords) (a : Answered) (told : ShareTellsBest files words a) (g : Grouping) → told.last.round.target ≡ Some g → told.target ≡ g
told_target files words a told g is =
    let both : Some told.target ≡ Some g = sym told.target_is ∙ is in
    cc both

-- ---- worker: what was read is all of standard input

proved_input : (files : Files) (words : WorkerWords) (a : Answered) (told : WorkerTells files words a) (text : List ℕ) → files standard_input ≡ Some text → told.bytes ≡ text
proved_input files words a told text held =
    let both : Some told.bytes ≡ Some text = sym told.input ∙ held in
    cc both

-- ---- list: a certificate of the files' problem is never refused

module _ (files : Files) (words : ListWords) (stored : List NamedFile) (a : Answered) (text : List ℕ) (c : Certificate) (g : Grouping)
    (alone : words.which ≡ None) (held : files words.check.certificate.now ≡ Some text) (spells : IsSpelling text c) (target : c.round.target ≡ Some g)
    (certifies : (v : ProblemValue) → IsProblemOfFiles files words.check.problem v → IsCertificate (problem_of v) c.round c.tree) where
  best : (v : ProblemValue) → IsProblemOfFiles files words.check.problem v → IsBest (problem_of v) g
  best v problem = subst (Conclusion (problem_of v)) target (certificate_shows (problem_of v) c.round c.tree (certifies v problem))

  not_none : TellsNone files words.check.problem a → ⊥
  not_none told = told.none g (best told.v told.problem).lawful

  no_fault : TellsFault files words.check a → ⊥
  no_fault told =
      let one : Some told.certificate ≡ Some text = sym told.certificate_is ∙ held in
      let same : text ≡ told.certificate = cc one in
      texts.agrees.best (problem_of told.v) told.certificate c g words.check.budget (verdict.No told.fault told.line)
      (subst (λ (bytes : List ℕ). IsSpelling bytes c) same spells) (certifies told.v told.problem) target told.first

  no_number : (told : ListTellsAll files words stored a) → told.which ≡ None → a.status ≡ 1 → ⊥
  no_number told none one =
      let zero : a.status ≡ 0 = ap (λ (x : Answered). x.status) (told.answer ∙ ap (listing_answer words.check.problem.common.form told.v told.named told.groupings) none) in
      omega (arith, zero, one)

  which_is_none : (name : Option (Bor (List ℕ))) (which : Option Grouping) → name ≡ None → IsGroupingIfNamed files name which → which ≡ None
  which_is_none None which is h = h
  which_is_none (Some name) which is h = cc

  never_refused : Tells files (ListAll words) stored a → a.status ≡ 1 → ⊥
  never_refused (inl told) one = let zero : a.status ≡ 0 = told.0 in omega (arith, zero, one)
  never_refused (inr (inl (is, inl told))) one = no_number told (which_is_none words.which told.which alone told.which_is) one
  never_refused (inr (inl (is, inr (inl told)))) one = not_none told
  never_refused (inr (inl (is, inr (inr told)))) one = no_fault told
  never_refused (inr (inr told)) one = let three : a.status ≡ 3 = told.0 in omega (arith, three, one)
