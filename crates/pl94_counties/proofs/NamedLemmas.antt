-- Counties and names that are collected together, line by line.
use Rattle.std.proofs.Common.{◌≡◌, ℕ, ◌+◌, ◌≤◌, ◌&&◌, Bool, true, false, cond, nat_lt, List, [], ◌∷◌, ◌++◌, Option, Some, None, IfSome, Result, Ok, Err, is_some, find, map, Contains, option_to_list, if◌then◌else◌, refl, sym, ap, ◌∙◌, subst, append_assoc, arith}
use Rattle.std.specs.List.{cons_option, filter_map}
use Rattle.std.specs.List.Sorted.{IsStrictlyIncreasing}
use Rattle.std.specs.Option.{option_map, option_and_then}
use Rattle.std.specs.Result.{result_map_both}
use Rattle.std.proofs.lemmas.Bool.Decides.{nat_tests}
use Rattle.std.proofs.lemmas.List.{append-nil}
use Rattle.field_lines.specs.Chain.{◌>>=◌}
use Rattle.field_lines.specs.Cut.{Cut, Line, cut}
use Rattle.field_lines.specs.declared.fault.LineFault.{LineFault}
use Rattle.pl94_counties.specs.declared.fault.Pl94Kind.{Pl94Kind}
use Rattle.pl94_counties.specs.declared.fault.Pl94Kind.TheVariants.{TooFewFields}
use Rattle.pl94_counties.specs.declared.fault.File.{File}
use Rattle.pl94_counties.specs.declared.fault.File.TheVariants.{Geo, Segment1}
use Rattle.pl94_counties.specs.declared.fault.Pl94Fault.{Pl94Fault}
use Rattle.pl94_counties.specs.declared.geo.Area.TheVariants as areas
use Rattle.pl94_counties.specs.declared.county_names.NamedFault.{NamedFault}
use Rattle.pl94_counties.specs.declared.county_names.NamedFault.TheVariants.{Files, BadName}
use Rattle.pl94_counties.specs.PeopleByCode.{LineEntry, Rule, with_given, pl94_cut_fault, people_at_number}
use Rattle.pl94_counties.specs.Fields.{GeoFields, geo_fields, small_number}
use Rattle.pl94_counties.specs.Geo.{rule_of, area_on, is_line_of, county_code, joined}
use Rattle.pl94_counties.specs.Areas.{found_list_in, some_areas, area_list_in, area_list}
use Rattle.county_codes.specs.declared.county.County.{County}
use Rattle.county_codes.specs.Counties.{codes_of}
use Rattle.pl94_counties.specs.Segment.{record_on, record_rule, record_list_in}
use Rattle.pl94_counties.specs.Counties.{county_of, county_in, county_list}
use Rattle.pl94_counties.specs.CountyNames.{CodeName, CountyName, code_in, code_on, has_bad_name, bad_name, named_on, names_on, with_names, is_after, first_named_fault, unless_bad, named_by_lines, named_list}
use Rattle.pl94_counties.specs.NamedReaders.{NamedEntries, AreInOrder, with_name, entries_unless_bad, entries_by_lines, named_entries_in, named_entries, some_named}
use Rattle.pl94_counties.proofs.CollectLemmas.{collect_from, collected_in}
use Rattle.pl94_counties.proofs.LawLemmas.{joined_of, with_people}
use Rattle.pl94_counties.proofs.OfTextLemmas.{segment_stops, geo_stops}
use Rattle.pl94_counties.proofs.ListedLemmas.{counties_listed, counties_rise}
use Rattle.pl94_counties.proofs.TraceLemmas.{contains_head, contains_tail, given_by_line}

-- ---- where a fault stands
-- what comes to a fault of lines has their file
fault_file : (read : List ℕ → LineEntry) (rule : Rule) (file : File) (ls : List Line) (fault : Option LineFault) (placed : List (ℕ × ℕ)) (f : Pl94Fault)
    → collect_from read rule file placed ls fault ≡ Err f → f.file ≡ file
fault_file read rule file [] None placed f is = absurd cc
fault_file read rule file [] (Some c) placed f is = let same : pl94_cut_fault file c ≡ f = cc in ap (λ (g : Pl94Fault). g.file) (sym same)
fault_file read rule file (l ∷ ls) fault placed f is = by (λ more at. fault_file read rule file ls fault more f at) (with_given rule placed (read l.bytes)) is
  where
    by : ((more : List (ℕ × ℕ)) → collect_from read rule file more ls fault ≡ Err f → f.file ≡ file) → (g : Result (List (ℕ × ℕ)) Pl94Kind)
        → (elim g as (λ _. Result (List (ℕ × ℕ)) Pl94Fault) [
          | Ok more ↦ collect_from read rule file more ls fault
          | Err kind ↦ Err (record { kind = kind; file = file; line = l.number })
        ]) ≡ Err f → f.file ≡ file
    by later (Ok more) at = later more at
    by later (Err kind) at =
        let same : ◌≡◌ {A = Pl94Fault} (record { kind = kind; file = file; line = l.number }) f = cc in
        ap (λ (g : Pl94Fault). g.file) (sym same)

-- a fault of lines in order stands from their first number on
fault_line : (read : List ℕ → LineEntry) (rule : Rule) (file : File) (n : ℕ) (ls : List Line) (fault : Option LineFault) (placed : List (ℕ × ℕ)) (f : Pl94Fault) → AreInOrder n ls fault
    → collect_from read rule file placed ls fault ≡ Err f → n ≤ f.line
fault_line read rule file n [] None placed f order is = absurd cc
fault_line read rule file n [] (Some c) placed f order is = let same : pl94_cut_fault file c ≡ f = cc in subst (λ (g : Pl94Fault). n ≤ g.line) same order
fault_line read rule file n (l ∷ ls) fault placed f order is = by (λ more at. fault_line read rule file (l.number + 1) ls fault more f order.1 at) (with_given rule placed (read l.bytes)) is
  where
    by : ((more : List (ℕ × ℕ)) → collect_from read rule file more ls fault ≡ Err f → l.number + 1 ≤ f.line) → (g : Result (List (ℕ × ℕ)) Pl94Kind)
        → (elim g as (λ _. Result (List (ℕ × ℕ)) Pl94Fault) [
          | Ok more ↦ collect_from read rule file more ls fault
          | Err kind ↦ Err (record { kind = kind; file = file; line = l.number })
        ]) ≡ Err f → n ≤ f.line
    by later (Ok more) at =
        let from : n ≤ l.number = order.0 in
        let line : l.number + 1 ≤ f.line = later more at in
        omega arith
    by later (Err kind) at =
        let same : ◌≡◌ {A = Pl94Fault} (record { kind = kind; file = file; line = l.number }) f = cc in
        subst (λ (g : Pl94Fault). n ≤ g.line) same order.0

-- ---- the first bad name
bad_first : (state : ℕ) (l : Line) (ls : List Line) (b : Bool) → has_bad_name state l.bytes ≡ b → bad_name state (l ∷ ls) ≡ cond b (Some l.number) (bad_name state ls)
bad_first state l ls true is = ap (λ (b : Bool). option_map (λ (m : Line). m.number) (cond b (Some l) (find (λ (m : Line). has_bad_name state m.bytes) ls))) is
bad_first state l ls false is = ap (λ (b : Bool). option_map (λ (m : Line). m.number) (cond b (Some l) (find (λ (m : Line). has_bad_name state m.bytes) ls))) is

-- the first bad name stands from the first number on
bad_from : (state n : ℕ) (ls : List Line) (fault : Option LineFault) → AreInOrder n ls fault → IfSome (bad_name state ls) (λ m. n ≤ m)
bad_from state n [] fault order = tt
bad_from state n (l ∷ ls) fault order = by (bad_from state (l.number + 1) ls fault order.1) (has_bad_name state l.bytes) refl
  where
    further : (o : Option ℕ) → IfSome o (λ m. l.number + 1 ≤ m) → IfSome o (λ m. n ≤ m)
    further None le = tt
    further (Some m) le = let from : n ≤ l.number = order.0 in omega arith

    by : IfSome (bad_name state ls) (λ m. l.number + 1 ≤ m) → (b : Bool) → has_bad_name state l.bytes ≡ b → IfSome (bad_name state (l ∷ ls)) (λ m. n ≤ m)
    by later true is = subst (λ (o : Option ℕ). IfSome o (λ m. n ≤ m)) (sym (bad_first state l ls true is)) order.0
    by later false is = subst (λ (o : Option ℕ). IfSome o (λ m. n ≤ m)) (sym (bad_first state l ls false is)) (further (bad_name state ls) later)

-- a fault of a line comes before a bad name on it or after it
fault_first : (kind : Pl94Kind) (line : ℕ) (o : Option ℕ) → IfSome o (λ m. line ≤ m) → first_named_fault (record { kind = kind; file = Geo; line = line }) o ≡ Files (record { kind = kind; file = Geo; line = line })
fault_first kind line None le = refl
fault_first kind line (Some m) le = let test : nat_lt m line ≡ false = grind (arith, nat_tests) in ap (λ (b : Bool). cond b (BadName m) (Files (record { kind = kind; file = Geo; line = line }))) test

-- a bad name comes before a fault of a later line
name_first : (number : ℕ) (names : List CodeName) (listed : Result (List (ℕ × ℕ)) Pl94Fault) → ((f : Pl94Fault) → listed ≡ Err f → (f.file ≡ Geo) × (number + 1 ≤ f.line))
    → entries_unless_bad (Some number) names listed ≡ Err (BadName number)
name_first number names (Ok entries) later = refl
name_first number names (Err f) later = by f.kind f.file f.line (later f refl).0 (later f refl).1
  where
    by : (kind : Pl94Kind) (file : File) (line : ℕ) → file ≡ Geo → number + 1 ≤ line → ◌≡◌ {A = Result NamedEntries NamedFault} (Err (first_named_fault (record { kind = kind; file = file; line = line }) (Some number))) (Err (BadName number))
    by kind Geo line is le = let test : nat_lt number line ≡ true = grind (arith, nat_tests) in ap (λ (b : Bool). Err (cond b (BadName number) (Files (record { kind = kind; file = Geo; line = line })))) test
    by kind Segment1 line is le = absurd cc

-- ---- line by line
names_further : (names rest : List CodeName) (o : Option CodeName) → (names ++ option_to_list o) ++ rest ≡ names ++ cons_option o rest
names_further names rest None = ap (λ (ns : List CodeName). ns ++ rest) (append-nil names)
names_further names rest (Some n) = append_assoc names (n ∷ []) rest

module _ (state : ℕ) (records : List (ℕ × ℕ)) where
  -- what was found, after further lines, each in turn, or the first fault
  abbrev pub named_from : NamedEntries → List Line → Option LineFault → Result NamedEntries NamedFault
  named_from found [] None = Ok found
  named_from found [] (Some fault) = Err (Files (pl94_cut_fault Geo fault))
  named_from found (l ∷ ls) fault = elim (with_name state l found.names (with_given (rule_of areas.County) found.entries (area_on areas.County state records l.bytes))) as (λ _. Result NamedEntries NamedFault) [
    | Ok more ↦ named_from more ls fault
    | Err f ↦ Err f
  ]

  -- what the counties alone come to
  abbrev collect : List (ℕ × ℕ) → List Line → Option LineFault → Result (List (ℕ × ℕ)) Pl94Fault
  collect placed ls fault = collect_from (area_on areas.County state records) (rule_of areas.County) Geo placed ls fault

  abbrev Together : NamedEntries → List Line → Option LineFault → Type 0
  Together found ls fault = named_from found ls fault ≡ entries_unless_bad (bad_name state ls) (found.names ++ names_on state ls) (collect found.entries ls fault)

  module _ (n : ℕ) (l : Line) (ls : List Line) (fault : Option LineFault) (order : AreInOrder n (l ∷ ls) fault) (names : List CodeName) (more : List (ℕ × ℕ))
      (later : Together (record { entries = more; names = names ++ option_to_list (named_on state l.bytes) }) ls fault) where
    line_named : (b : Bool) → has_bad_name state l.bytes ≡ b
        → (elim (if◌then◌else◌ {A = Result NamedEntries NamedFault} b (Err (BadName l.number)) (Ok (record { entries = more; names = names ++ option_to_list (named_on state l.bytes) }))) as (λ _. Result NamedEntries NamedFault) [
          | Ok found ↦ named_from found ls fault
          | Err f ↦ Err f
        ]) ≡ entries_unless_bad (bad_name state (l ∷ ls)) (names ++ names_on state (l ∷ ls)) (collect more ls fault)
    line_named true is =
        sym (name_first l.number (names ++ names_on state (l ∷ ls)) (collect more ls fault) (λ (f : Pl94Fault) (at : collect more ls fault ≡ Err f).
        (fault_file (area_on areas.County state records) (rule_of areas.County) Geo ls fault more f at, fault_line (area_on areas.County state records) (rule_of areas.County) Geo (l.number + 1) ls fault more f order.1 at)))
        ∙ ap (λ (o : Option ℕ). entries_unless_bad o (names ++ names_on state (l ∷ ls)) (collect more ls fault)) (sym (bad_first state l ls true is))
    line_named false is =
        later
        ∙ ap (λ (ns : List CodeName). entries_unless_bad (bad_name state ls) ns (collect more ls fault)) (names_further names (names_on state ls) (named_on state l.bytes))
        ∙ ap (λ (o : Option ℕ). entries_unless_bad o (names ++ names_on state (l ∷ ls)) (collect more ls fault)) (sym (bad_first state l ls false is))

  -- The lines in turn, counties and names together, come to what the counties alone and the names alone come to.
  pub named_together : (n : ℕ) (ls : List Line) (fault : Option LineFault) (found : NamedEntries) → AreInOrder n ls fault → Together found ls fault
  named_together n [] None found order = ap (λ (ns : List CodeName). Ok (record { entries = found.entries; names = ns })) (sym (append-nil found.names))
  named_together n [] (Some fault) found order = refl
  named_together n (l ∷ ls) fault found order = by (λ more. named_together (l.number + 1) ls fault (record { entries = more; names = found.names ++ option_to_list (named_on state l.bytes) }) order.1) (with_given (rule_of areas.County) found.entries (area_on areas.County state records l.bytes))
    where
      by : ((more : List (ℕ × ℕ)) → Together (record { entries = more; names = found.names ++ option_to_list (named_on state l.bytes) }) ls fault) → (g : Result (List (ℕ × ℕ)) Pl94Kind)
          → (elim (with_name state l found.names g) as (λ _. Result NamedEntries NamedFault) [
            | Ok more ↦ named_from more ls fault
            | Err f ↦ Err f
          ]) ≡ entries_unless_bad (bad_name state (l ∷ ls)) (found.names ++ names_on state (l ∷ ls)) (elim g as (λ _. Result (List (ℕ × ℕ)) Pl94Fault) [
            | Ok more ↦ collect more ls fault
            | Err kind ↦ Err (record { kind = kind; file = Geo; line = l.number })
          ])
      by later (Ok more) = line_named n l ls fault order found.names more (later more) (has_bad_name state l.bytes) refl
      by later (Err kind) = ap (λ (f : NamedFault). Err f) (sym (fault_first kind l.number (bad_name state (l ∷ ls)) (bad_from state l.number (l ∷ ls) fault (omega arith, order.1))))

  -- a loop that has found nothing yet comes to what the lines of the cut give
  pub named_in_turn : (c : Cut) → AreInOrder 1 c.lines c.fault → named_from (record { entries = []; names = [] }) c.lines c.fault ≡ entries_by_lines c.lines state (found_list_in areas.County state records c)
  named_in_turn c order =
      named_together 1 c.lines c.fault (record { entries = []; names = [] }) order
      ∙ ap (λ (r : Result (List (ℕ × ℕ)) Pl94Fault). entries_unless_bad (bad_name state c.lines) (names_on state c.lines) r) (collected_in (area_on areas.County state records) (rule_of areas.County) Geo c)

-- ---- both files

-- a fault of segment 1 comes before each bad name
segment_first : (f : Pl94Fault) (bad : Option ℕ) → f.file ≡ Segment1 → first_named_fault f bad ≡ Files f
segment_first f None is = refl
segment_first f (Some number) is = ap (λ (file : File). cond (is_after file f.line number) (BadName number) (Files f)) is

pub segment1_stops : (geo segment1 : Cut) (state : ℕ) (f : Pl94Fault) → record_list_in segment1 ≡ Err f → named_entries_in geo segment1 state ≡ Err (Files f)
segment1_stops geo segment1 state f is =
    let file : f.file ≡ Segment1 = fault_file record_on record_rule Segment1 segment1.lines segment1.fault [] f (collected_in record_on record_rule Segment1 segment1 ∙ is) in
    ap (λ (r : Result (List (ℕ × ℕ)) Pl94Fault). entries_by_lines geo.lines state r) (segment_stops areas.County geo segment1 state f is)
    ∙ ap (λ (g : NamedFault). Err g) (segment_first f (bad_name state geo.lines) file)

-- a line for a county never gives nothing
never_joined : (records : List (ℕ × ℕ)) (k m : Option ℕ) → joined_of records k m ≡ Ok None → ⊥
never_joined records None m is = cc
never_joined records (Some code) None is = cc
never_joined records (Some code) (Some number) is = by (people_at_number number records) is
  where
    by : (q : Option ℕ) → with_people code q ≡ Ok None → ⊥
    by None at = cc
    by (Some p) at = cc

module _ (state : ℕ) (records : List (ℕ × ℕ)) (line : List ℕ) where
  never_nothing_on : (g : GeoFields) (b : Bool) → (if b then joined areas.County state records g else Ok None) ≡ Ok None → is_some (if b then county_code state g.county else None) ≡ true → ⊥
  never_nothing_on g true is coded = never_joined records (county_code state g.county) (small_number g.record_number) is
  never_nothing_on g false is coded = cc

  never_nothing_in : (o : Option GeoFields) → (elim o as (λ _. LineEntry) [
    | Some g ↦ if is_line_of areas.County state g then joined areas.County state records g else Ok None
    | None ↦ Err TooFewFields
  ]) ≡ Ok None → is_some (option_and_then (code_in state) o) ≡ true → ⊥
  never_nothing_in None is coded = cc
  never_nothing_in (Some g) is coded = never_nothing_on g (is_line_of areas.County state g) is coded

  county_gives : area_on areas.County state records line ≡ Ok None → is_some (code_on state line) ≡ true → ⊥
  unfolding area_on
  county_gives is coded = never_nothing_in (geo_fields line) is coded

-- the line of the first bad name
bad_line : (state : ℕ) (ls : List Line) (number : ℕ) → bad_name state ls ≡ Some number → (l : Line) × Contains ls l × (has_bad_name state l.bytes ≡ true)
bad_line state [] number is = absurd cc
bad_line state (l ∷ ls) number is = by (λ at. bad_line state ls number at) (has_bad_name state l.bytes) refl
  where
    by : (bad_name state ls ≡ Some number → (m : Line) × Contains ls m × (has_bad_name state m.bytes ≡ true)) → (b : Bool) → has_bad_name state l.bytes ≡ b → (m : Line) × Contains (l ∷ ls) m × (has_bad_name state m.bytes ≡ true)
    by later true at = (l, contains_head l ls, at)
    by later false at =
        let further = later (sym (bad_first state l ls false at) ∙ is) in
        (further.0, contains_tail l ls further.0 further.1, further.2)

first_true : (a b : Bool) → (a && b) ≡ true → a ≡ true
first_true true b is = refl
first_true false b is = is

-- where a name is bad, there is a county
bad_is_listed : (state : ℕ) (records : List (ℕ × ℕ)) (geo : Cut) (number : ℕ) → bad_name state geo.lines ≡ Some number → found_list_in areas.County state records geo ≡ Ok [] → ⊥
bad_is_listed state records geo number bad found =
    let read = area_on areas.County state records in
    let at = bad_line state geo.lines number bad in
    let coded : is_some (code_on state at.0.bytes) ≡ true = first_true _ _ at.2 in
    let given = given_by_line read (rule_of areas.County) Geo geo.fault [] geo.lines [] at.0 (collected_in read (rule_of areas.County) Geo geo ∙ found) at.1 in
    by at.0.bytes given.0 given.1 given.2 coded
  where
    by : (line : List ℕ) (entry : Option (ℕ × ℕ)) → area_on areas.County state records line ≡ Ok entry → ((e : ℕ × ℕ) → entry ≡ Some e → people_at_number e.0 [] ≡ Some e.1) → is_some (code_on state line) ≡ true → ⊥
    by line None is there coded = county_gives state records line is coded
    by line (Some e) is there coded = let found_there : None ≡ Some e.1 = there e refl in cc

-- what parts the counties with the names have
entries_parts : (bad : Option ℕ) (names : List CodeName) (listed : Result (List (ℕ × ℕ)) Pl94Fault) (found : NamedEntries) → entries_unless_bad bad names listed ≡ Ok found
    → (bad ≡ None) × (names ≡ found.names) × (listed ≡ Ok found.entries)
entries_parts bad names (Err f) found is = absurd cc
entries_parts (Some number) names (Ok entries) found is = absurd cc
entries_parts None names (Ok entries) found is =
    let same : ◌≡◌ {A = NamedEntries} (record { entries = entries; names = names }) found = cc in
    (refl, ap (λ (f : NamedEntries). f.names) same, ap (λ (f : NamedEntries). Ok f.entries) same)

module _ (geo segment1 : Cut) (state : ℕ) (records : List (ℕ × ℕ)) (are : record_list_in segment1 ≡ Ok records) where
  listed_after : (entries : List (ℕ × ℕ)) → found_list_in areas.County state records geo ≡ Ok entries → area_list_in areas.County geo segment1 state ≡ some_areas areas.County entries
  listed_after entries is =
      ap (λ (r : Result (List (ℕ × ℕ)) Pl94Fault). r >>= (λ records. found_list_in areas.County state records geo >>= (λ found. some_areas areas.County found))) are
      ∙ ap (λ (r : Result (List (ℕ × ℕ)) Pl94Fault). r >>= (λ found. some_areas areas.County found)) is

  -- counties and names that were found are answered, unless there are none
  pub found_answers : (found : NamedEntries) → entries_by_lines geo.lines state (found_list_in areas.County state records geo) ≡ Ok found → named_entries_in geo segment1 state ≡ some_named found
  found_answers found is =
      let parts = entries_parts (bad_name state geo.lines) (names_on state geo.lines) (found_list_in areas.County state records geo) found is in
      ap (λ (r : Result (List (ℕ × ℕ)) Pl94Fault). entries_by_lines geo.lines state r) (listed_after found.entries parts.2)
      ∙ ap (λ (bad : Option ℕ). entries_unless_bad bad (names_on state geo.lines) (some_areas areas.County found.entries)) parts.0
      ∙ ap (λ (ns : List CodeName). entries_unless_bad None ns (some_areas areas.County found.entries)) parts.1

  name_stops : (entries : List (ℕ × ℕ)) (bad : Option ℕ) (fault : NamedFault) → found_list_in areas.County state records geo ≡ Ok entries → bad_name state geo.lines ≡ bad
      → entries_unless_bad bad (names_on state geo.lines) (Ok entries) ≡ Err fault → entries_unless_bad bad (names_on state geo.lines) (some_areas areas.County entries) ≡ Err fault
  name_stops entries None fault found bad is = absurd cc
  name_stops [] (Some number) fault found bad is = absurd (bad_is_listed state records geo number bad found)
  name_stops (e ∷ es) (Some number) fault found bad is = is

  fault_stops : (listed : Result (List (ℕ × ℕ)) Pl94Fault) (fault : NamedFault) → found_list_in areas.County state records geo ≡ listed → entries_by_lines geo.lines state listed ≡ Err fault
      → named_entries_in geo segment1 state ≡ Err fault
  fault_stops (Err f) fault found is = ap (λ (r : Result (List (ℕ × ℕ)) Pl94Fault). entries_by_lines geo.lines state r) (geo_stops areas.County geo segment1 state records f are found) ∙ is
  fault_stops (Ok entries) fault found is =
      ap (λ (r : Result (List (ℕ × ℕ)) Pl94Fault). entries_by_lines geo.lines state r) (listed_after entries found)
      ∙ name_stops entries (bad_name state geo.lines) fault found refl is

  -- the first fault of geo or of a name is answered
  pub found_stops : (fault : NamedFault) → entries_by_lines geo.lines state (found_list_in areas.County state records geo) ≡ Err fault → named_entries_in geo segment1 state ≡ Err fault
  found_stops fault is = fault_stops (found_list_in areas.County state records geo) fault refl is

-- ---- the list
module _ (geo segment1 : List ℕ) (state : ℕ) where
  abbrev listed_by : Result (List (ℕ × ℕ)) Pl94Fault → Result (List County) Pl94Fault
  listed_by r = result_map_both (λ entries. map (λ e. county_of e.0 e.1) entries) (λ fault. fault) r

  stops_by : (r : Result (List (ℕ × ℕ)) Pl94Fault) (bad : Option ℕ) (names : List CodeName) (fault : NamedFault) → entries_unless_bad bad names r ≡ Err fault
      → (elim (listed_by r) as (λ _. Result (List CountyName) NamedFault) [
        | Ok counties ↦ unless_bad bad (with_names names counties)
        | Err f ↦ Err (first_named_fault f bad)
      ]) ≡ Err fault
  stops_by (Err f) bad names fault is = let same : first_named_fault f bad ≡ fault = cc in ap (λ (g : NamedFault). Err g) same
  stops_by (Ok entries) None names fault is = absurd cc
  stops_by (Ok entries) (Some number) names fault is = let same : BadName number ≡ fault = cc in ap (λ (g : NamedFault). Err g) same

  -- a fault of the counties with the names is that of the list
  pub named_stops_list : (fault : NamedFault) → named_entries geo segment1 state ≡ Err fault → named_list geo segment1 state ≡ Err fault
  named_stops_list fault is = stops_by (area_list areas.County geo segment1 state) (bad_name state (cut geo).lines) (names_on state (cut geo).lines) fault is

  module _ (found : NamedEntries) (digits : state ≤ 99) (rises : IsStrictlyIncreasing (map (λ e. e.0) found.entries)) (is : named_entries geo segment1 state ≡ Ok found) where
    abbrev counties : List County
    counties = filter_map (λ e. county_in e.0 e.1) found.entries

    -- the counties that were found are those of the list
    pub found_counties : county_list geo segment1 state ≡ Ok counties
    found_counties =
        let parts = entries_parts (bad_name state (cut geo).lines) (names_on state (cut geo).lines) (area_list areas.County geo segment1 state) found is in
        counties_listed geo segment1 state found.entries counties digits rises parts.2 refl

    -- and so are they with their names
    pub found_named : named_list geo segment1 state ≡ Ok (with_names found.names counties)
    found_named =
        let parts = entries_parts (bad_name state (cut geo).lines) (names_on state (cut geo).lines) (area_list areas.County geo segment1 state) found is in
        ap (λ (r : Result (List County) Pl94Fault). named_by_lines (cut geo).lines state r) found_counties
        ∙ ap (λ (bad : Option ℕ). unless_bad bad (with_names (names_on state (cut geo).lines) counties)) parts.0
        ∙ ap (λ (ns : List CodeName). Ok (with_names ns counties)) parts.1

    -- their codes ascend
    pub found_rises : IsStrictlyIncreasing (codes_of counties)
    found_rises =
        let parts = entries_parts (bad_name state (cut geo).lines) (names_on state (cut geo).lines) (area_list areas.County geo segment1 state) found is in
        counties_rise geo segment1 state found.entries digits rises parts.2
