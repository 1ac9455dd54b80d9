-- The counties that a table lists are those of its lines.
use Rattle.std.proofs.Common.{◌≡◌, ℕ, Bool, true, false, cond, List, [], ◌∷◌, ◌++◌, map, filter, Option, Some, None, Result, Ok, Err, if◌then◌else◌, refl, sym, subst, arith}
use Rattle.std.proofs.lemmas.List.{append-nil}
use Rattle.std.proofs.lemmas.List.Sorted.{IsPermutation-refl, IsPermutation-trans, IsPermutation-sym, IsPermutation-middle, IsPermutation-append_left}
use Rattle.std.specs.List.Sorted.{IsPermutation, IsStrictlyIncreasing}
use Rattle.std.specs.Option.{ok_or}
use Rattle.std.specs.Result.{result_map_both}
use Rattle.std.specs.Str.{is_utf8}
use Rattle.field_lines.specs.Chain.{◌>>=◌}
use Rattle.field_lines.specs.Cut.{Line, cut}
use Rattle.field_lines.specs.Number.{digits_of, number_in}
use Rattle.field_lines.specs.declared.fault.LineFault.{LineFault}
use Rattle.county_codes.specs.declared.county.County.{County}
use Rattle.pl94_counties.specs.CountyNames.{CountyName}
use Rattle.people_table.specs.declared.fault.PeopleFault.{PeopleFault}
use Rattle.people_table.specs.declared.fault.PeopleKind.{PeopleKind}
use Rattle.people_table.specs.declared.fault.PeopleKind.TheVariants.{BadLine, BadCode, BadNumber, BadName, DoubleCounty}
use Rattle.people_table.specs.QuotedFields.{quoted_fields}
use Rattle.people_table.specs.TableFaults.{people_line_fault}
use Rattle.people_table.specs.CountyLines.{CountyTexts, texts_of, named_county, county_in, county_on, delimiter_of, without_header}
use Rattle.people_table.specs.Listed.{is_of_state, has_county, put_county, with_county, counties_after, some_counties, named_people_list, people_list}
use Rattle.people_table.specs.CountiesOfTable.{IsCountyLine, AreOnLines, AreNamedOfTable, AreCountiesOfTable}
use Rattle.people_table.proofs.PlaceLemmas.{codes_found, put_moves, rising_put}

-- ---- the county on a line
of_texts : (d : ℕ) (line : List ℕ) (k : CountyName) (t : CountyTexts) → texts_of (quoted_fields d line) ≡ Some t → county_in t ≡ Ok k → IsCountyLine d line k
unfolding county_in
of_texts d line k t has is = by (digits_of 5 t.code) refl (number_in 0 4294967295 t.people) refl (is_utf8 t.name) refl is
  where
    by : (c : Option ℕ) → digits_of 5 t.code ≡ c → (p : Option ℕ) → number_in 0 4294967295 t.people ≡ p → (u : Bool) → is_utf8 t.name ≡ u
        → (ok_or c BadCode >>= (λ code. ok_or p BadNumber >>= (λ people. ok_or (if u then Some t.name else None) BadName >>= (λ name. Ok (named_county code people name))))) ≡ Ok k
        → IsCountyLine d line k
    by None code p people u text is = absurd cc
    by (Some c) code None people u text is = absurd cc
    by (Some c) code (Some p) people false text is = absurd cc
    by (Some c) code (Some p) people true text is =
        let same : named_county c p t.name ≡ k = cc in
        subst (λ (n : CountyName). IsCountyLine d line n) same
        (record { texts = t; has_texts = has; code_is = code; people_are = people; name_is = refl; name_is_text = text })

county_line : (d : ℕ) (line : List ℕ) (k : CountyName) → county_on d line ≡ Ok k → IsCountyLine d line k
county_line d line k is = by (texts_of (quoted_fields d line)) refl is
  where
    by : (o : Option CountyTexts) → texts_of (quoted_fields d line) ≡ o → (ok_or o BadLine >>= county_in) ≡ Ok k → IsCountyLine d line k
    by None has is = absurd cc
    by (Some t) has is = of_texts d line k t has is

-- ---- the lines in turn
module _ (d state : ℕ) (ks : List CountyName) where
  -- the counties at the end are those that were found and those of the lines that are left
  record Ends (found : List CountyName) (ls : List Line) (fault : Option LineFault) : Type 0 where
    readable : fault ≡ None
    on_table : List CountyName
    on_lines : AreOnLines d ls on_table
    moved : IsPermutation ks (found ++ filter (is_of_state state) on_table)
    by_code : IsStrictlyIncreasing (codes_found ks)

  abbrev Later : List Line → Option LineFault → Type 0
  Later ls fault = (more : List CountyName) → IsStrictlyIncreasing (codes_found more) → counties_after d state more ls fault ≡ Ok ks → Ends more ls fault

  abbrev goes_on : List Line → Option LineFault → ℕ → Result (List CountyName) PeopleKind → Result (List CountyName) PeopleFault
  goes_on ls fault number r = elim r as (λ _. Result (List CountyName) PeopleFault) [
    | Ok more ↦ counties_after d state more ls fault
    | Err kind ↦ Err (people_line_fault kind number)
  ]

  of_other : (found : List CountyName) (l : Line) (ls : List Line) (fault : Option LineFault) (k : CountyName) → county_on d l.bytes ≡ Ok k → is_of_state state k ≡ false → Ends found ls fault → Ends found (l ∷ ls) fault
  of_other found l ls fault k on other e =
      let others = filter (is_of_state state) e.on_table in
      record {
        readable = e.readable;
        on_table = k ∷ e.on_table;
        on_lines = (county_line d l.bytes k on, e.on_lines);
        moved = subst (λ (b : Bool). IsPermutation ks (found ++ cond b (k ∷ others) others)) (sym other) e.moved;
        by_code = e.by_code;
      }

  of_state : (found : List CountyName) (l : Line) (ls : List Line) (fault : Option LineFault) (k : CountyName) → county_on d l.bytes ≡ Ok k → is_of_state state k ≡ true → Ends (put_county k found) ls fault → Ends found (l ∷ ls) fault
  of_state found l ls fault k on mine e =
      let others = filter (is_of_state state) e.on_table in
      let front : IsPermutation (put_county k found ++ others) (k ∷ (found ++ others)) =
      IsPermutation-append_left others (put_county k found) (k ∷ found) (IsPermutation-sym (k ∷ found) (put_county k found) (put_moves k found)) in
      let back : IsPermutation (k ∷ (found ++ others)) (found ++ k ∷ others) =
      IsPermutation-sym (found ++ k ∷ others) (k ∷ (found ++ others)) (IsPermutation-middle found k others) in
      let all : IsPermutation ks (found ++ k ∷ others) =
      IsPermutation-trans ks (put_county k found ++ others) (found ++ k ∷ others) e.moved
      (IsPermutation-trans (put_county k found ++ others) (k ∷ (found ++ others)) (found ++ k ∷ others) front back) in
      record {
        readable = e.readable;
        on_table = k ∷ e.on_table;
        on_lines = (county_line d l.bytes k on, e.on_lines);
        moved = subst (λ (b : Bool). IsPermutation ks (found ++ cond b (k ∷ others) others)) (sym mine) all;
        by_code = e.by_code;
      }

  with_first : (found : List CountyName) (l : Line) (ls : List Line) (fault : Option LineFault) → IsStrictlyIncreasing (codes_found found) → Later ls fault
      → (r : Result CountyName PeopleKind) → county_on d l.bytes ≡ r → goes_on ls fault l.number (r >>= with_county state found) ≡ Ok ks → Ends found (l ∷ ls) fault
  with_first found l ls fault rises later (Err kind) on is = absurd cc
  with_first found l ls fault rises later (Ok k) on is = by (is_of_state state k) refl (has_county k.county.code found) refl is
    where
      by : (s : Bool) → is_of_state state k ≡ s → (t : Bool) → has_county k.county.code found ≡ t
          → goes_on ls fault l.number (if s then (if t then Err DoubleCounty else Ok (put_county k found)) else Ok found) ≡ Ok ks → Ends found (l ∷ ls) fault
      by false other t has is = of_other found l ls fault k on other (later found rises is)
      by true mine true has is = absurd cc
      by true mine false has is = of_state found l ls fault k on mine (later (put_county k found) (rising_put k found has rises) is)

  ends : (found : List CountyName) (ls : List Line) (fault : Option LineFault) → IsStrictlyIncreasing (codes_found found) → counties_after d state found ls fault ≡ Ok ks → Ends found ls fault
  ends found [] None rises is =
      let same : found ≡ ks = cc in
      record {
        readable = refl;
        on_table = [];
        on_lines = tt;
        moved = subst (λ (l : List CountyName). IsPermutation ks l) (sym (append-nil found)) (subst (λ (l : List CountyName). IsPermutation l found) same (IsPermutation-refl found));
        by_code = subst (λ (l : List CountyName). IsStrictlyIncreasing (codes_found l)) same rises;
      }
  ends found [] (Some fault) rises is = absurd cc
  ends found (l ∷ ls) fault rises is = with_first found l ls fault rises (λ more up later. ends more ls fault up later) (county_on d l.bytes) refl is

-- ---- a whole table
some_found : (r : Result (List CountyName) PeopleFault) (ks : List CountyName) → (r >>= some_counties) ≡ Ok ks → r ≡ Ok ks
some_found (Err fault) ks is = absurd cc
some_found (Ok []) ks is = absurd cc
some_found (Ok (k ∷ found)) ks is = is

pub named_are_of_table : (table : List ℕ) (state : ℕ) (named : List CountyName) → named_people_list table state ≡ Ok named → AreNamedOfTable table state named
named_are_of_table table state named is =
    let lines = (cut table).lines in
    let d = delimiter_of lines in
    let e = ends d state named [] (without_header d lines) (cut table).fault (λ i within. absurd (omega arith)) (some_found (counties_after d state [] (without_header d lines) (cut table).fault) named is) in
    record { readable = e.readable; on_table = e.on_table; on_lines = e.on_lines; of_state = e.moved; by_code = e.by_code }

without_names : (r : Result (List CountyName) PeopleFault) (counties : List County) → result_map_both (λ named. map (λ k. k.county) named) (λ fault. fault) r ≡ Ok counties
    → (named : List CountyName) × (r ≡ Ok named) × (counties ≡ map (λ k. k.county) named)
without_names (Ok named) counties is = (named, refl, cc)
without_names (Err fault) counties is = cc

pub counties_are_of_table : (table : List ℕ) (state : ℕ) (counties : List County) → people_list table state ≡ Ok counties → AreCountiesOfTable table state counties
counties_are_of_table table state counties is =
    let of = without_names (named_people_list table state) counties is in
    record { named = of.0; are_named = named_are_of_table table state of.0 of.1; counties_are = of.2 }
