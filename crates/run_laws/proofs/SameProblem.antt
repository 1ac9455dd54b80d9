-- Steps over files that tell a problem give it, unless one of the files is refused.
use Rattle.std.proofs.Common.{◌≡◌, ℕ, ◌+◌, Bool, true, false, List, Option, Some, None, filter, sym, ap, subst, ◌∙◌, arith, refl}
use Rattle.std.specs.Prelude.{Result, Ok, Err}
use Rattle.std.specs.Borrow.{Bor}
use Rattle.std.proofs.lemmas.List.Sorted.{Contains-permutation, IsPermutation-sym}
use Rattle.county_codes.specs.declared.county.County.{County}
use Rattle.county_codes.specs.declared.tolerance.Tolerance.{Tolerance}
use Rattle.county_codes.specs.declared.withdrawn.Withdrawn.{Withdrawn}
use Rattle.county_problem.specs.declared.fault.ProblemFault.{ProblemFault}
use Rattle.county_problem.specs.ProblemValue.{ProblemValue, codes_of}
use Rattle.county_problem.specs.Building.{IsProblemOf, problem_fault, is_left, joins, seats_in}
use Rattle.pl94_counties.specs.declared.county_names.NamedFault.{NamedFault}
use Rattle.pl94_counties.specs.declared.county_names.NamedFault.TheVariants.{BadName}
use Rattle.pl94_counties.specs.Counties.{county_list}
use Rattle.pl94_counties.specs.CountyNames.{CountyName, named_list}
use Rattle.people_table.specs.Listed.{people_list, named_people_list}
use Rattle.adjacency_reader.specs.declared.links.Link.{Link}
use Rattle.adjacency_reader.specs.Rows.{row_list}
use Rattle.adjacency_reader.specs.Pairs.{ArePairs, IsPairsAnswer}
use Rattle.adjacency_reader.specs.Links.{link_list}
use Rattle.adjacency_reader.specs.WithdrawnSets.{withdrawn_list}
use Rattle.adjacency_reader.specs.Adjacency.{AreLinked}
use Rattle.grouping_table.specs.Table.{unnamed_counties as without_names}
use Rattle.grouping_laws.specs.Grouping.{Grouping}
use Rattle.grouping_reader.specs.GroupingLines.{grouping_list}
use Rattle.cli_words.specs.declared.words.CountyWords.{CountyWords}
use Rattle.cli_words.specs.declared.words.CountyWords.TheVariants.{Census, People}
use Rattle.cli_words.specs.declared.words.ProblemWords.{ProblemWords}
use Rattle.cli_file_stores.specs.Files.{Files}
use Rattle.cli_answers.specs.declared.refusal.InputFile.TheVariants as input
use Rattle.cli_answers.specs.Answer.{Answered}
use Rattle.cli_answers.specs.Refusals.{pl94_answer, named_answer, people_answer, code_file_answer, problem_answer}
use Rattle.run_laws.specs.Steps.{◌>>=◌, load_step, value_step}
use Rattle.run_laws.specs.ProblemSteps.{counties_by, counties_steps, counties_in, people_in, pairs_of, pairs_in, links_of, links_in, withdrawn_of, withdrawn_in, adjacency_of, IsBuilt, build_step, problem_over, problem_steps, grouping_in, grouping_of}
use Rattle.run_laws.specs.ListSteps.{which_of}
use Rattle.run_laws.specs.FilesProblem.{AreNamesIf, AreNamedBy, AreCountiesBy, IsGroupingOfFile, IsGroupingIfNamed}
use Rattle.run_laws.specs.TableSteps.{Tabled, untabled, tabled_by, named_counties_in, named_counties_by, named_counties_of, named_people_in, named_problem_over, tabled_problem_in}
use Rattle.field_lines.specs.Source.{Given}
use Rattle.field_lines.specs.HeldBytes.{Foresees}
use Rattle.run_laws.specs.Reading.{given_of_both, OfTexts}
use Rattle.run_laws.proofs.OneList.{one_list_of_pairs, one_list_of_counties}
use Rattle.run_laws.proofs.NamedLists.{counties_named, name_at_fault, people_named, people_at_fault}
use Rattle.run_laws.proofs.FilesRead.{ReadsOver, ReadsProblem}
use Rattle.run_laws.proofs.Repeating.{EndsBy, Gives, bind_ends, bind_gives, call_ends, value_ends, function_gives, load_gives, both_begin, optional_gives}

-- the pairs of rows, and those after links, are one list
one_pairs : (listed : List ℕ) (rows pairs others : List (ℕ × ℕ)) → ArePairs listed rows pairs → ArePairs listed rows others → pairs ≡ others
one_pairs listed rows pairs others h k = one_list_of_pairs pairs others h.ascending k.ascending
    (λ a b there. (k.each a b).1 ((h.each a b).0 there))
    (λ a b there. (h.each a b).1 ((k.each a b).0 there))

one_linked : (pairs : List (ℕ × ℕ)) (links : List Link) (linked others : List (ℕ × ℕ)) → AreLinked pairs links linked → AreLinked pairs links others → linked ≡ others
one_linked pairs links linked others h k = one_list_of_pairs linked others h.ascending k.ascending
    (λ a b there. (k.each a b).1 ((h.each a b).0 there))
    (λ a b there. (h.each a b).1 ((k.each a b).0 there))

one_ok : {X F : Type 0} (given : Result X F) (x y : X) → given ≡ Ok x → given ≡ Ok y → y ≡ x
one_ok given x y e f = cc

ok_or_err : {X F : Type 0} (given : Result X F) (x : X) (fault : F) → given ≡ Ok x → given ≡ Err fault → ⊥
ok_or_err given x fault e f = let no : Ok x ≡ Err fault = sym e ∙ f in cc

one_pairs_answer : (text listed : List ℕ) (pairs others : List (ℕ × ℕ)) → IsPairsAnswer text listed (Ok pairs) → IsPairsAnswer text listed (Ok others) → others ≡ pairs
one_pairs_answer text listed pairs others h k =
    let same : k.0 ≡ h.0 = one_ok (row_list text) h.0 k.0 h.1 k.1 in
    one_pairs listed h.0 others pairs (subst (λ (rows : List (ℕ × ℕ)). ArePairs listed rows others) same k.2) h.2

-- a problem has all of another
same_value : (v w : ProblemValue) → v.counties ≡ w.counties → v.withdrawn ≡ w.withdrawn → v.pairs ≡ w.pairs → v.total_people ≡ w.total_people
    → v.chamber ≡ w.chamber → v.seats_left ≡ w.seats_left → v.numerator ≡ w.numerator → v.denominator ≡ w.denominator → v ≡ w
same_value v w counties withdrawn pairs people chamber seats numerator denominator = λ i. record {
  counties = counties i;
  withdrawn = withdrawn i;
  pairs = pairs i;
  total_people = people i;
  chamber = chamber i;
  seats_left = seats i;
  numerator = numerator i;
  denominator = denominator i;
}

module _ (counties : List County) (pairs : List (ℕ × ℕ)) (withdrawn : List Withdrawn) (chamber : ℕ) (tolerance : Tolerance) where
  abbrev left : List County
  left = filter (is_left withdrawn) counties

  same_counties : (v w : ProblemValue) → IsProblemOf counties pairs withdrawn chamber tolerance v → IsProblemOf counties pairs withdrawn chamber tolerance w → v.counties ≡ w.counties
  same_counties v w h k = one_list_of_counties v.counties w.counties h.by_code k.by_code
      (λ c there. Contains-permutation left w.counties c k.same (Contains-permutation v.counties left c (IsPermutation-sym left v.counties h.same) there))
      (λ c there. Contains-permutation left v.counties c h.same (Contains-permutation w.counties left c (IsPermutation-sym left w.counties k.same) there))

  one_problem : (v w : ProblemValue) → IsProblemOf counties pairs withdrawn chamber tolerance v → IsProblemOf counties pairs withdrawn chamber tolerance w → v ≡ w
  one_problem v w h k =
      let same : v.counties ≡ w.counties = same_counties v w h k in
      let taken : v.seats_left + seats_in withdrawn ≡ chamber = h.seats_left in
      let taken_too : w.seats_left + seats_in withdrawn ≡ chamber = k.seats_left in
      same_value v w same
      (h.sets ∙ sym k.sets)
      (h.joined ∙ ap (λ (cs : List County). filter (joins (codes_of cs)) pairs) same ∙ sym k.joined)
      (h.total_people ∙ sym k.total_people)
      (h.seats ∙ sym k.seats)
      (omega arith)
      (h.numerator ∙ sym k.numerator)
      (h.denominator ∙ sym k.denominator)

  none_or_some : (fault : ProblemFault) → problem_fault counties pairs withdrawn chamber tolerance ≡ None → problem_fault counties pairs withdrawn chamber tolerance ≡ Some fault → ⊥
  none_or_some fault e f = let no : None ≡ Some fault = sym e ∙ f in cc

-- the grouping of a file is had again
module _ (E : Answered → Type 0) (five : (a : Answered) → a.status ≡ 5 → E a) (files : Files) where
  grouping_again : (name : List ℕ) (g : Grouping) → IsGroupingOfFile files name g → Gives g E (grouping_of (Some files) name)
  grouping_again name g held =
      bind_gives E held.0 (λ (x : Grouping). x ≡ g) (load_step (Some files) name) grouping_in (load_gives E five files name held.0 held.1)
      (function_gives E (code_file_answer input.Grouping) (grouping_list held.0) g held.2)

  pub which_again : (name : Option (Bor (List ℕ))) (which : Option Grouping) → IsGroupingIfNamed files name which → Gives which E (which_of (Some files) name)
  which_again None which is = value_ends E (λ (x : Option Grouping). x ≡ which) (λ x. x ≡ None) (λ x e. e ∙ sym is)
  which_again (Some name) which is =
      bind_gives E is.0 (λ (x : Option Grouping). x ≡ which) (grouping_of (Some files) name.now) (λ g. value_step (λ held. held ≡ Some g)) (grouping_again name.now is.0 is.2)
      (value_ends E (λ (x : Option Grouping). x ≡ which) (λ held. held ≡ Some is.0) (λ x e. e ∙ sym is.1))

-- counties with the names that the files give
abbrev AreNamed : Files → ℕ → CountyWords → List County → List CountyName → Type 0
AreNamed files state words counties named = (without_names named ≡ counties) × AreNamedBy files state words named

-- a problem, with the names that the files give if they are read
abbrev pub IsTabled : Files → ProblemWords → ProblemValue → Bool → Tabled → Type 0
IsTabled files words v reads t = (t.problem ≡ v) × AreNamesIf reads files words.common t.named

-- the counties are had again
module _ (E : Answered → Type 0) (five : (a : Answered) → a.status ≡ 5 → E a) (files : Files) (state : ℕ) (counties : List County) where
  counties_again : (words : CountyWords) → AreCountiesBy files state words counties → Gives counties E (counties_by (Some files) state words)
  counties_again (Census census) h =
      bind_ends E (λ (given : Given × Given). Foresees given.0 h.geo × Foresees given.1 h.segment) (λ (found : List County). found ≡ counties) (given_of_both (Some files) census.geo.now census.segment.now)
      (λ given. counties_in state given.0 given.1)
      (both_begin E five files census.geo.now census.segment.now h.geo h.segment h.geo_is h.segment_is) (λ given begun.
      call_ends E (λ (found : List County). found ≡ counties) pl94_answer (λ found. OfTexts (λ g s. county_list g s state ≡ found) given.0 given.1)
      (λ found k. one_ok (county_list h.geo h.segment state) counties found h.faultless (k h.geo h.segment begun.0 begun.1))
      (λ fault k. absurd (ok_or_err (county_list h.geo h.segment state) counties fault h.faultless (k h.geo h.segment begun.0 begun.1))))
  counties_again (People table) h =
      bind_gives E h.table (λ (found : List County). found ≡ counties) (load_step (Some files) table.now) (people_in state) (load_gives E five files table.now h.table h.table_is)
      (function_gives E people_answer (people_list h.table state) counties h.faultless)

  -- counties with their names are the same counties
  named_again : (words : CountyWords) → AreCountiesBy files state words counties → ((line : ℕ) → E (named_answer (BadName line)))
      → EndsBy (AreNamed files state words counties) E (named_counties_by (Some files) state words)
  named_again (Census census) h unnamed =
      bind_ends E (λ (given : Given × Given). Foresees given.0 h.geo × Foresees given.1 h.segment) (AreNamed files state (Census census) counties) (given_of_both (Some files) census.geo.now census.segment.now)
      (λ given. named_counties_in state given.0 given.1)
      (both_begin E five files census.geo.now census.segment.now h.geo h.segment h.geo_is h.segment_is) (λ given begun.
      call_ends E (AreNamed files state (Census census) counties) named_answer (λ found. OfTexts (λ g s. named_list g s state ≡ found) given.0 given.1)
      (λ named k.
      let read = k h.geo h.segment begun.0 begun.1 in (
        one_ok (county_list h.geo h.segment state) counties (without_names named) h.faultless (counties_named h.geo h.segment state named read),
        record { geo = h.geo; segment = h.segment; geo_is = h.geo_is; segment_is = h.segment_is; are = read },
      ))
      (λ fault k.
      let bad = name_at_fault h.geo h.segment state counties fault h.faultless (k h.geo h.segment begun.0 begun.1) in
      subst (λ (f : NamedFault). E (named_answer f)) (sym bad.1) (unnamed bad.0)))
  named_again (People table) h unnamed =
      bind_gives E h.table (AreNamed files state (People table) counties) (load_step (Some files) table.now) (named_people_in state) (load_gives E five files table.now h.table h.table_is)
      (call_ends E (AreNamed files state (People table) counties) people_answer (λ found. named_people_list h.table state ≡ found)
      (λ named k. (
        one_ok (people_list h.table state) counties (without_names named) h.faultless (people_named h.table state named k),
        record { table = h.table; table_is = h.table_is; are = k },
      ))
      (λ fault k. absurd (people_at_fault h.table state counties fault h.faultless k)))

module _ (E : Answered → Type 0) (five : (a : Answered) → a.status ≡ 5 → E a) (files : Files) (words : ProblemWords) (v : ProblemValue) where
  -- the problem of counties is had again
  module _ (counties : List County) (h : ReadsOver files words counties v) where
    built_again : Gives v E (build_step words.common.chamber words.common.tolerance counties h.pairs h.withdrawn)
    built_again = call_ends E (λ (w : ProblemValue). w ≡ v) problem_answer (IsBuilt counties h.pairs h.withdrawn words.common.chamber words.common.tolerance)
        (λ w k. one_problem counties h.pairs h.withdrawn words.common.chamber words.common.tolerance w v k.1 h.built.1)
        (λ fault k. absurd (none_or_some counties h.pairs h.withdrawn words.common.chamber words.common.tolerance fault h.built.0 k))

    withdrawn_again : Gives h.withdrawn E (withdrawn_of (Some files) words.withdrawn)
    withdrawn_again = optional_gives E five files withdrawn_list (λ file. load_step (Some files) file >>= withdrawn_in) words.withdrawn h.withdrawn h.withdrawn_are (λ file text held is.
        bind_gives E text (λ (sets : List Withdrawn). sets ≡ h.withdrawn) (load_step (Some files) file) withdrawn_in (load_gives E five files file text held)
        (function_gives E (code_file_answer input.Withdrawn) (withdrawn_list text) h.withdrawn is))

    links_again : Gives h.links E (links_of (Some files) words.links)
    links_again = optional_gives E five files link_list (λ file. load_step (Some files) file >>= links_in) words.links h.links h.links_are (λ file text held is.
        bind_gives E text (λ (links : List Link). links ≡ h.links) (load_step (Some files) file) links_in (load_gives E five files file text held)
        (function_gives E (code_file_answer input.Links) (link_list text) h.links is))

    pairs_again : Gives h.named E (pairs_of (Some files) (codes_of counties) words.adjacency.now)
    pairs_again =
        bind_gives E h.text (λ (pairs : List (ℕ × ℕ)). pairs ≡ h.named) (load_step (Some files) words.adjacency.now) (pairs_in (codes_of counties)) (load_gives E five files words.adjacency.now h.text h.text_is)
        (call_ends E (λ (pairs : List (ℕ × ℕ)). pairs ≡ h.named) (code_file_answer input.Adjacency) (IsPairsAnswer h.text (codes_of counties))
        (λ pairs k. one_pairs_answer h.text (codes_of counties) h.named pairs h.named_are k)
        (λ fault k. absurd (ok_or_err (row_list h.text) h.named_are.0 fault h.named_are.1 k)))

    adjacency_again : Gives h.pairs E (adjacency_of (Some files) (codes_of counties) words)
    adjacency_again =
        bind_gives E h.named (λ (pairs : List (ℕ × ℕ)). pairs ≡ h.pairs) (pairs_of (Some files) (codes_of counties) words.adjacency.now)
        (λ pairs. links_of (Some files) words.links >>= λ links. value_step (AreLinked pairs links)) pairs_again
        (bind_gives E h.links (λ (pairs : List (ℕ × ℕ)). pairs ≡ h.pairs) (links_of (Some files) words.links) (λ links. value_step (AreLinked h.named links)) links_again
        (value_ends E (λ (pairs : List (ℕ × ℕ)). pairs ≡ h.pairs) (AreLinked h.named h.links) (λ pairs k. one_linked h.named h.links pairs h.pairs k h.linked)))

    over_again : Gives v E (problem_over (Some files) words counties)
    over_again =
        bind_gives E h.pairs (λ (w : ProblemValue). w ≡ v) (adjacency_of (Some files) (codes_of counties) words)
        (λ pairs. withdrawn_of (Some files) words.withdrawn >>= build_step words.common.chamber words.common.tolerance counties pairs) adjacency_again
        (bind_gives E h.withdrawn (λ (w : ProblemValue). w ≡ v) (withdrawn_of (Some files) words.withdrawn) (build_step words.common.chamber words.common.tolerance counties h.pairs) withdrawn_again built_again)

  module _ (h : ReadsProblem files words v) where
    counties_too : Gives h.counties E (counties_steps (Some files) words.common)
    counties_too = counties_again E five files words.common.state h.counties words.common.counties h.counties_are

    -- the problem is had again
    pub problem_again : Gives v E (problem_steps (Some files) words)
    problem_again = bind_gives E h.counties (λ (w : ProblemValue). w ≡ v) (counties_steps (Some files) words.common) (problem_over (Some files) words) counties_too (over_again h.counties h.over)

    -- the problem is had again, whether names are read or not
    pub tabled_again : (reads : Bool) → (reads ≡ true → (line : ℕ) → E (named_answer (BadName line)))
        → EndsBy (IsTabled files words v reads) E (tabled_problem_in (Some files) words reads)
    tabled_again false unnamed =
        bind_gives E v (IsTabled files words v false) (problem_steps (Some files) words) (λ w. value_step (λ t. t ≡ untabled w)) problem_again
        (value_ends E (IsTabled files words v false) (λ t. t ≡ untabled v) (λ t same. (ap (λ (x : Tabled). x.problem) same, tt)))
    tabled_again true unnamed =
        bind_ends E (AreNamed files words.common.state words.common.counties h.counties) (IsTabled files words v true)
        (named_counties_of (Some files) words.common) (named_problem_over (Some files) words)
        (named_again E five files words.common.state h.counties words.common.counties h.counties_are (unnamed refl)) (λ named these.
        bind_gives E v (IsTabled files words v true) (problem_over (Some files) words (without_names named)) (λ w. value_step (λ t. t ≡ tabled_by named w))
        (subst (λ (counties : List County). Gives v E (problem_over (Some files) words counties)) (sym these.0) (over_again h.counties h.over))
        (value_ends E (IsTabled files words v true) (λ t. t ≡ tabled_by named v)
        (λ t is. (ap (λ (x : Tabled). x.problem) is, (named, ap (λ (x : Tabled). x.named) is, these.1)))))
