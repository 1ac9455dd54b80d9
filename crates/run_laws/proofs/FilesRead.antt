-- The values of readers by which steps over the files that a run was given come to a problem.
use Rattle.std.proofs.Common.{◌≡◌, ℕ, Bool, true, false, List, [], ◌∷◌, ◌++◌, append-nil, Contains, Option, Some, None, inl, inr, refl, sym, ap, ◌∙◌, subst, subst₂}
use Rattle.std.specs.Prelude.{Result, Ok, option_map}
use Rattle.std.proofs.lemmas.List.Elements.{Contains-append_right}
use Rattle.std.specs.Borrow.{Bor}
use Rattle.county_codes.specs.declared.county.County.{County}
use Rattle.county_codes.specs.declared.tolerance.Tolerance.{Tolerance}
use Rattle.county_codes.specs.declared.withdrawn.Withdrawn.{Withdrawn}
use Rattle.county_problem.specs.ProblemValue.{ProblemValue, codes_of}
use Rattle.grouping_laws.specs.Grouping.{Grouping}
use Rattle.pl94_counties.specs.Counties.{county_list}
use Rattle.pl94_counties.specs.CountyNames.{CountyName}
use Rattle.people_table.specs.Listed.{people_list}
use Rattle.people_table.proofs.TableLaws.{counties_are_of_table}
use Rattle.pl94_counties.proofs.ListedLemmas.{are_counties}
use Rattle.pl94_counties.proofs.TraceLemmas.{contains_head}
use Rattle.adjacency_reader.specs.declared.links.Link.{Link}
use Rattle.adjacency_reader.specs.Pairs.{IsPairsAnswer}
use Rattle.adjacency_reader.specs.Links.{link_list}
use Rattle.adjacency_reader.specs.WithdrawnSets.{withdrawn_list}
use Rattle.adjacency_reader.specs.Adjacency.{AreLinked}
use Rattle.grouping_table.specs.Table.{unnamed_counties as without_names, table_text}
use Rattle.grouping_table.specs.GroupingsTable.{groupings_text}
use Rattle.cli_words.specs.declared.words.CommonWords.{CommonWords}
use Rattle.cli_words.specs.declared.words.CensusWords.{CensusWords}
use Rattle.cli_words.specs.declared.words.CountyWords.{CountyWords}
use Rattle.cli_words.specs.declared.words.CountyWords.TheVariants.{Census, People}
use Rattle.cli_words.specs.declared.words.ProblemWords.{ProblemWords}
use Rattle.cli_file_stores.specs.Files.{NamedFile, Files}
use Rattle.cli_file_stores.specs.History.{History}
use Rattle.run_laws.specs.Forms.{has_names, reads_names}
use Rattle.run_laws.specs.Steps.{Steps, ◌>>=◌, GoesOn}
use Rattle.run_laws.specs.ProblemSteps.{IsBuilt, counties_by, links_of, withdrawn_of, problem_over, problem_steps}
use Rattle.run_laws.specs.TableSteps.{Tabled, named_counties_by, tabled_problem_in, table_of}
use Rattle.run_laws.specs.ListSteps.{table_of_all}
use Rattle.run_laws.specs.FilesProblem.{AreNamesIf, IsReadAsIfNamed, AreCountiesOfCensus, AreCountiesBy, AreCountiesOfFiles, AreNamedBy, IsProblemOfFiles, IsTableOfFiles, IsLongTableOfFiles}
use Rattle.run_laws.specs.Storing.{IsStoredAs, named_file}
use Rattle.run_laws.specs.Agreement.{HoldsSameIfNamed, HasSameCounties, HasSameProblem}
use Rattle.run_laws.proofs.Texts.{given_of_both_found}
use Rattle.run_laws.proofs.NamedLists.{counties_named, people_named}
use Rattle.cli_words.specs.declared.words.Form.{Form}
use Rattle.cli_words.specs.declared.words.Form.TheVariants.{Codes, Names, Object}

-- the readers' values behind the counties, and the problem that is built of them
pub record ReadsOver (files : Files) (words : ProblemWords) (counties : List County) (v : ProblemValue) : Type 0 where
  pub text : List ℕ
  pub text_is : files words.adjacency.now ≡ Some text
  pub named : List (ℕ × ℕ)
  pub named_are : IsPairsAnswer text (codes_of counties) (Ok named)
  pub links : List Link
  pub links_are : IsReadAsIfNamed link_list files words.links links
  pub pairs : List (ℕ × ℕ)
  pub linked : AreLinked named links pairs
  pub withdrawn : List Withdrawn
  pub withdrawn_are : IsReadAsIfNamed withdrawn_list files words.withdrawn withdrawn
  pub built : IsBuilt counties pairs withdrawn words.common.chamber words.common.tolerance (Ok v)

-- the counties of the files that are named for them, and all behind them
pub record ReadsProblem (files : Files) (words : ProblemWords) (v : ProblemValue) : Type 0 where
  pub counties : List County
  pub counties_are : AreCountiesOfFiles files words.common counties
  pub over : ReadsOver files words counties v

-- steps that come to a value went on behind the first of them
pub went : {X Y : Type 0} (first : Steps X) (next : X → Steps Y) (before after : History) (y : Y) → (first >>= next) before after (Ok y) → GoesOn first next before after (Ok y)
went first next before after y (inl stop) = absurd stop
went first next before after y (inr on) = on

-- a text for which P holds is the last of the files that are stored
pub stored_last : (name : Bor (List ℕ)) (P : List ℕ → Type 0) (bytes : List ℕ) (text : Option (List ℕ)) (earlier stored : List NamedFile)
    → P bytes → text ≡ Some bytes → stored ≡ earlier ++ named_file (Some name) text → IsStoredAs (Some name) P stored
stored_last name P bytes text earlier stored holds is all =
    let file : NamedFile = record { name = name.now; bytes = bytes } in
    let whole : stored ≡ earlier ++ file ∷ [] = all ∙ ap (λ (x : Option (List ℕ)). earlier ++ named_file (Some name) x) is in
    (bytes, holds, subst (λ (list : List NamedFile). Contains list file) (sym whole) (Contains-append_right earlier (file ∷ []) file (contains_head file [])))

-- the same between others, if its file is named
pub stored_between : (name : Option (Bor (List ℕ))) (P : List ℕ → Type 0) (bytes : List ℕ) (text : Option (List ℕ)) (earlier later stored : List NamedFile)
    → P bytes → text ≡ Some bytes → stored ≡ earlier ++ (named_file name text ++ later) → IsStoredAs name P stored
stored_between None P bytes text earlier later stored holds is all = tt
stored_between (Some name) P bytes text earlier later stored holds is all =
    let file : NamedFile = record { name = name.now; bytes = bytes } in
    let whole : stored ≡ earlier ++ (file ∷ later) = all ∙ ap (λ (x : Option (List ℕ)). earlier ++ (named_file (Some name) x ++ later)) is in
    (bytes, holds, subst (λ (list : List NamedFile). Contains list file) (sym whole) (Contains-append_right earlier (file ∷ later) file (contains_head file later)))

module _ (files : Files) where
  links_told : (name : Option (Bor (List ℕ))) (before after : History) (links : List Link) → links_of (Some files) name before after (Ok links) → IsReadAsIfNamed link_list files name links
  links_told None before after links h = h.1
  links_told (Some name) before after links h =
      let t = went _ _ before after links h in
      (t.value, t.given.0, t.goes_on.1)

  withdrawn_told : (name : Option (Bor (List ℕ))) (before after : History) (sets : List Withdrawn) → withdrawn_of (Some files) name before after (Ok sets) → IsReadAsIfNamed withdrawn_list files name sets
  withdrawn_told None before after sets h = h.1
  withdrawn_told (Some name) before after sets h =
      let t = went _ _ before after sets h in
      (t.value, t.given.0, t.goes_on.1)

  over_told : (words : ProblemWords) (counties : List County) (before after : History) (v : ProblemValue) → problem_over (Some files) words counties before after (Ok v) → ReadsOver files words counties v
  over_told words counties before after v h =
      let a = went _ _ before after v h in
      let p = went _ _ before a.between a.value a.given in
      let t = went _ _ before p.between p.value p.given in
      let l = went _ _ p.between a.between a.value p.goes_on in
      let w = went _ _ a.between after v a.goes_on in
      record {
        text = t.value;
        text_is = t.given.0;
        named = p.value;
        named_are = t.goes_on.1;
        links = l.value;
        links_are = links_told words.links p.between l.between l.value l.given;
        pairs = a.value;
        linked = l.goes_on.1;
        withdrawn = w.value;
        withdrawn_are = withdrawn_told words.withdrawn a.between w.between w.value w.given;
        built = w.goes_on.1;
      }

  -- the counties of the census files
  pub counties_of_census : (state : ℕ) (census : CensusWords) (geo segment : List ℕ) (counties : List County) → files census.geo.now ≡ Some geo → files census.segment.now ≡ Some segment
      → county_list geo segment state ≡ Ok counties → AreCountiesOfCensus files state census counties
  counties_of_census state census geo segment counties geo_is segment_is listed = record {
    geo = geo;
    segment = segment;
    geo_is = geo_is;
    segment_is = segment_is;
    faultless = listed;
    are = are_counties geo segment state counties listed;
  }

  -- the counties of the files that the words name
  pub counties_told : (state : ℕ) (words : CountyWords) (before after : History) (counties : List County) → counties_by (Some files) state words before after (Ok counties) → AreCountiesBy files state words counties
  counties_told state (Census census) before after counties h =
      let t = went _ _ before after counties h in
      let begun = given_of_both_found files census.geo.now census.segment.now before t.between t.value t.given in
      counties_of_census state census begun.0.text begun.1.text counties begun.0.is begun.1.is (t.goes_on.1 begun.0.text begun.1.text begun.0.sees begun.1.sees)
  counties_told state (People table) before after counties h =
      let t = went _ _ before after counties h in
      record { table = t.value; table_is = t.given.0; faultless = t.goes_on.1; are = counties_are_of_table t.value state counties t.goes_on.1 }

  -- the problem of steps that read no names
  pub problem_reads : (words : ProblemWords) (before after : History) (v : ProblemValue) → problem_steps (Some files) words before after (Ok v) → ReadsProblem files words v
  problem_reads words before after v h =
      let c = went _ _ before after v h in
      record {
        counties = c.value;
        counties_are = counties_told words.common.state words.common.counties before c.between c.value c.given;
        over = over_told words c.value c.between after v c.goes_on;
      }

  -- the names of counties
  pub named_told : (state : ℕ) (words : CountyWords) (before after : History) (named : List CountyName) → named_counties_by (Some files) state words before after (Ok named) → AreNamedBy files state words named
  named_told state (Census census) before after named h =
      let t = went _ _ before after named h in
      let begun = given_of_both_found files census.geo.now census.segment.now before t.between t.value t.given in
      record {
        geo = begun.0.text;
        segment = begun.1.text;
        geo_is = begun.0.is;
        segment_is = begun.1.is;
        are = t.goes_on.1 begun.0.text begun.1.text begun.0.sees begun.1.sees;
      }
  named_told state (People table) before after named h =
      let t = went _ _ before after named h in
      record { table = t.value; table_is = t.given.0; are = t.goes_on.1 }

  -- counties that have names are counties
  pub counties_with_names : (state : ℕ) (words : CountyWords) (named : List CountyName) → AreNamedBy files state words named → AreCountiesBy files state words (without_names named)
  counties_with_names state (Census census) named h =
      counties_of_census state census h.geo h.segment (without_names named) h.geo_is h.segment_is (counties_named h.geo h.segment state named h.are)
  counties_with_names state (People table) named h =
      let listed : people_list h.table state ≡ Ok (without_names named) = people_named h.table state named h.are in
      record { table = h.table; table_is = h.table_is; faultless = listed; are = counties_are_of_table h.table state (without_names named) listed }

  -- names that are read for a table or for the answer are those of the answer
  names_if : (form : Form) (words : CommonWords) (named : Option (List CountyName)) → AreNamesIf true files words named → AreNamesIf (has_names form) files words named
  names_if Codes words named h = tt
  names_if Names words named h = h
  names_if Object words named h = h

  pub names_shown : (words : CommonWords) (table : Option (Bor (List ℕ))) (named : Option (List CountyName))
      → AreNamesIf (reads_names words table) files words named → AreNamesIf (has_names words.form) files words named
  names_shown words None named h = h
  names_shown words (Some table) named h = names_if words.form words named h

  -- the problem of steps that may read names
  pub record ReadsTabled (words : ProblemWords) (names_read : Bool) (t : Tabled) : Type 0 where
    pub reads : ReadsProblem files words t.problem
    pub names : AreNamesIf names_read files words.common t.named

  pub tabled_reads : (words : ProblemWords) (names_read : Bool) (before after : History) (t : Tabled)
      → tabled_problem_in (Some files) words names_read before after (Ok t) → ReadsTabled words names_read t
  tabled_reads words false before after t h =
      let p = went _ _ before after t h in
      subst (λ (x : Tabled). ReadsTabled words false x) (sym p.goes_on.1) (record { reads = problem_reads words before p.between p.value p.given; names = tt })
  tabled_reads words true before after t h =
      let n = went _ _ before after t h in
      let p = went _ _ n.between after t n.goes_on in
      let names = named_told words.common.state words.common.counties before n.between n.value n.given in
      subst (λ (x : Tabled). ReadsTabled words true x) (sym p.goes_on.1) (record {
        reads = record {
          counties = without_names n.value;
          counties_are = counties_with_names words.common.state words.common.counties n.value names;
          over = over_told words (without_names n.value) n.between p.between p.value p.given;
        };
        names = (n.value, refl, names);
      })

  -- the problem of the files
  pub problem_of_files : (words : ProblemWords) (v : ProblemValue) → ReadsProblem files words v → IsProblemOfFiles files words v
  problem_of_files words v h = record {
    counties = h.counties;
    counties_are = h.counties_are;
    pairs = h.over.pairs;
    pairs_are = record {
      rows = h.over.named_are.0;
      rows_are = (h.over.text, h.over.text_is, h.over.named_are.1);
      named = h.over.named;
      named_are = h.over.named_are.2;
      links = h.over.links;
      links_are = h.over.links_are;
      linked = h.over.linked;
    };
    withdrawn = h.over.withdrawn;
    withdrawn_are = h.over.withdrawn_are;
    faultless = h.over.built.0;
    problem = h.over.built.1;
  }

  -- the table of a grouping stands between the files that are stored before it and behind it
  pub table_between : (words : ProblemWords) (table : Option (Bor (List ℕ))) (t : Tabled) (g : Grouping) (text : Option (List ℕ)) (earlier later stored : List NamedFile)
      → ReadsTabled words (reads_names words.common table) t → text ≡ table_of t g → stored ≡ earlier ++ (named_file table text ++ later) → IsStoredAs table (IsTableOfFiles files words t.problem g) stored
  table_between words None t g text earlier later stored r is all = tt
  table_between words (Some name) t g text earlier later stored r is all =
      let bytes = table_text r.names.0 t.problem.withdrawn g in
      let own : text ≡ Some bytes = is ∙ ap (option_map (λ named. table_text named t.problem.withdrawn g)) r.names.1 in
      stored_between (Some name) (IsTableOfFiles files words t.problem g) bytes text earlier later stored (record { named = r.names.0; named_are = r.names.2; table = refl }) own all

  -- the same, if it is the last
  pub table_stored : (words : ProblemWords) (table : Option (Bor (List ℕ))) (t : Tabled) (g : Grouping) (text : Option (List ℕ)) (earlier stored : List NamedFile)
      → ReadsTabled words (reads_names words.common table) t → text ≡ table_of t g → stored ≡ earlier ++ named_file table text → IsStoredAs table (IsTableOfFiles files words t.problem g) stored
  table_stored words table t g text earlier stored r is all =
      table_between words table t g text earlier [] stored r is (all ∙ ap (λ l. earlier ++ l) (sym (append-nil (named_file table text))))

  -- the table of several groupings is the last of the files that are stored
  pub long_table_stored : (words : ProblemWords) (table : Option (Bor (List ℕ))) (t : Tabled) (groupings : List Grouping) (text : Option (List ℕ)) (earlier stored : List NamedFile)
      → ReadsTabled words (reads_names words.common table) t → text ≡ table_of_all t groupings → stored ≡ earlier ++ named_file table text → IsStoredAs table (IsLongTableOfFiles files words t.problem groupings) stored
  long_table_stored words None t groupings text earlier stored r is all = tt
  long_table_stored words (Some name) t groupings text earlier stored r is all =
      let bytes = groupings_text r.names.0 t.problem.withdrawn groupings in
      let own : text ≡ Some bytes = is ∙ ap (option_map (λ named. groupings_text named t.problem.withdrawn groupings)) r.names.1 in
      stored_last name (IsLongTableOfFiles files words t.problem groupings) bytes text earlier stored (record { named = r.names.0; named_are = r.names.2; table = refl }) own all

-- the same bytes are read as the same values
read_again : {X F : Type 0} (read : List ℕ → Result (List X) F) (files others : Files) (name other : Option (Bor (List ℕ))) (list : List X)
    → HoldsSameIfNamed files others name other → IsReadAsIfNamed read files name list → IsReadAsIfNamed read others other list
read_again read files others None None list same h = h
read_again read files others None (Some other) list same h = absurd same
read_again read files others (Some name) None list same h = absurd same
read_again read files others (Some name) (Some other) list same h = (h.0, sym same ∙ h.1, h.2)

-- the same bytes give the same counties
counties_again : (files others : Files) (state : ℕ) (words other : CountyWords) (counties : List County) → HasSameCounties files others words other
    → AreCountiesBy files state words counties → AreCountiesBy others state other counties
counties_again files others state (Census one) (Census other) counties same h =
    counties_of_census others state other h.geo h.segment counties (sym same.0 ∙ h.geo_is) (sym same.1 ∙ h.segment_is) h.faultless
counties_again files others state (Census one) (People other) counties same h = absurd same
counties_again files others state (People one) (Census other) counties same h = absurd same
counties_again files others state (People one) (People other) counties same h =
    record { table = h.table; table_is = sym same ∙ h.table_is; faultless = h.faultless; are = h.are }

-- and the problem is the same
pub reads_again : (files others : Files) (words other : ProblemWords) (v : ProblemValue) → HasSameProblem files others words other → ReadsProblem files words v → ReadsProblem others other v
reads_again files others words other v same h = record {
  counties = h.counties;
  counties_are = subst (λ (state : ℕ). AreCountiesBy others state other.common.counties h.counties) same.state
      (counties_again files others words.common.state words.common.counties other.common.counties h.counties same.counties h.counties_are);
  over = record {
    text = h.over.text;
    text_is = sym same.adjacency ∙ h.over.text_is;
    named = h.over.named;
    named_are = h.over.named_are;
    links = h.over.links;
    links_are = read_again link_list files others words.links other.links h.over.links same.links h.over.links_are;
    pairs = h.over.pairs;
    linked = h.over.linked;
    withdrawn = h.over.withdrawn;
    withdrawn_are = read_again withdrawn_list files others words.withdrawn other.withdrawn h.over.withdrawn same.withdrawn h.over.withdrawn_are;
    built = subst₂ (λ (chamber : ℕ) (tolerance : Tolerance). IsBuilt h.counties h.over.pairs h.over.withdrawn chamber tolerance (Ok v)) same.chamber same.tolerance h.over.built;
  };
}
