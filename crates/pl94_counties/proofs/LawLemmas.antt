-- The law of the list of areas, from its definition.
use Rattle.std.proofs.Common.{◌≡◌, ℕ, ◌<◌, ◌==◌, ◌&&◌, inl, inr, cond, filter, Bool, true, false, List, [], ◌∷◌, length, map, Option, Some, None, Ok, Err, All, Contains, get_or, codes, if◌then◌else◌, refl, sym, ap, ◌∙◌, subst}
use Rattle.std.specs.List.Sorted.{IsStrictlyIncreasing}
use Rattle.std.specs.Str.{bytes_eq}
use Rattle.std.specs.Ordering.{nat_cmp, is_eq}
use Rattle.std.specs.Option.{ok_or, option_and_then, option_map_or}
use Rattle.std.specs.Cmp.{nat_cmp_total, eq_by_cmp_equiv}
use Rattle.std.proofs.lemmas.Slice.Eq.{bytes_eq-Decides}
use Rattle.std.proofs.lemmas.List.Elements.{Contains-get_or}
use Rattle.std.proofs.lemmas.Option.{slice_get-get_or}
use Rattle.std.proofs.lemmas.Map.Entries.{lookup_from_place}
use Rattle.std.proofs.lemmas.Map.Keys.{sorted_from_strictly_increasing, IsDistinct-from_sorted}
use Rattle.field_lines.specs.Cut.{Line, cut}
use Rattle.pl94_counties.specs.declared.fault.Pl94Kind.TheVariants.{TooFewFields, BadCode, BadNumber, NoRecord}
use Rattle.pl94_counties.specs.declared.fault.File.TheVariants.{Geo, Segment1}
use Rattle.pl94_counties.specs.declared.geo.Area.{Area}
use Rattle.field_lines.specs.Chain.{◌>>=◌}
use Rattle.pl94_counties.specs.Fields.{field, small_number, GeoFields, geo_fields}
use Rattle.pl94_counties.specs.PeopleByCode.{LineEntry, people_at_number}
use Rattle.pl94_counties.specs.Segment.{record_on, record_rule, record_list}
use Rattle.pl94_counties.specs.Geo.{state_digits, level_of, area_code, rule_of, is_line_of, joined, area_on}
use Rattle.pl94_counties.specs.Areas.{found_list}
use Rattle.pl94_counties.specs.JoinedLines.{IsRecordLine, has_logrecno, StandsOnce, IsAreaLine, IsJoined, IsListedArea}
use Rattle.pl94_counties.proofs.CollectLemmas.{collected, tied_same}
use Rattle.pl94_counties.proofs.TraceLemmas.{one_line, given_by_line, contains_head, contains_tail, contains_cases}

-- ---- records
abbrev pub record_in_fields : Option (List ℕ) → Option (List ℕ) → LineEntry
record_in_fields a b = do
  x ← ok_or a TooFewFields
  y ← ok_or b TooFewFields
  number ← ok_or (small_number x) BadNumber
  people ← ok_or (small_number y) BadNumber
  Ok (Some (number, people))

abbrev pub record_of_numbers : Option ℕ → Option ℕ → LineEntry
record_of_numbers m q = do
  number ← ok_or m BadNumber
  people ← ok_or q BadNumber
  Ok (Some (number, people))

both_numbers : (m q : Option ℕ) (n p : ℕ) → record_of_numbers m q ≡ Ok (Some (n, p)) → (m ≡ Some n) × (q ≡ Some p)
both_numbers None q n p is = cc
both_numbers (Some m) None n p is = cc
both_numbers (Some m) (Some q) n p is = let same : ◌≡◌ {A = ℕ × ℕ} (m, q) (n, p) = cc in (ap (λ e. Some e.0) same, ap (λ e. Some e.1) same)

both_fields : (a b : Option (List ℕ)) (n p : ℕ) → record_in_fields a b ≡ Ok (Some (n, p)) → (option_and_then small_number a ≡ Some n) × (option_and_then small_number b ≡ Some p)
both_fields None b n p is = cc
both_fields (Some x) None n p is = cc
both_fields (Some x) (Some y) n p is = both_numbers (small_number x) (small_number y) n p is

never_nothing_by : (m q : Option ℕ) → record_of_numbers m q ≡ Ok None → ⊥
never_nothing_by None q is = cc
never_nothing_by (Some m) None is = cc
never_nothing_by (Some m) (Some q) is = cc

never_nothing : (a b : Option (List ℕ)) → record_in_fields a b ≡ Ok None → ⊥
never_nothing None b is = cc
never_nothing (Some x) None is = cc
never_nothing (Some x) (Some y) is = never_nothing_by (small_number x) (small_number y) is

record_line : (line : List ℕ) (n p : ℕ) → record_on line ≡ Ok (Some (n, p)) → IsRecordLine line n p
unfolding record_on
record_line line n p is = let parts = both_fields (field 5 line) (field 6 line) n p is in record { number_is = parts.0; people_is = parts.1 }

always_record : (line : List ℕ) → record_on line ≡ Ok None → ⊥
unfolding record_on
always_record line is = never_nothing (field 5 line) (field 6 line) is

-- a number that is found among the records stands once in segment 1
pub stands_once : (text : List ℕ) (records : List (ℕ × ℕ)) → record_list text ≡ Ok records → (n p : ℕ) → people_at_number n records ≡ Some p → StandsOnce (cut text).lines n p
stands_once text records is n p there =
    let found = one_line record_on record_rule Segment1 (cut text).fault records (λ (l : Line). has_logrecno n l.bytes) n
    (λ (l : Line) (nothing : record_on l.bytes ≡ Ok None). absurd (always_record l.bytes nothing))
    (λ (l : Line) (e : ℕ × ℕ) (gives : record_on l.bytes ≡ Ok (Some e)). ap (λ (o : Option ℕ). option_map_or (λ k. n == k) o false) (record_line l.bytes e.0 e.1 gives).number_is)
    p (cut text).lines [] (collected record_on record_rule Segment1 text ∙ is) there refl in
    record { line = found.0; only = found.1; is_record = record_line found.0.bytes n p found.2 }

-- ---- lines of areas
both : (s t : Bool) → (s && t) ≡ true → (s ≡ true) × (t ≡ true)
both true t h = (refl, h)
both false t h = cc

both_true : (s t : Bool) → s ≡ true → t ≡ true → (s && t) ≡ true
both_true true t f g = g
both_true false t f g = cc

abbrev pub joined_of : List (ℕ × ℕ) → Option ℕ → Option ℕ → LineEntry
joined_of records k m = do
  code ← ok_or k BadCode
  number ← ok_or m BadNumber
  people ← ok_or (people_at_number number records) NoRecord
  Ok (Some (code, people))

abbrev pub with_people : ℕ → Option ℕ → LineEntry
with_people code q = do
  people ← ok_or q NoRecord
  Ok (Some (code, people))

module _ (records : List (ℕ × ℕ)) (code people : ℕ) where
  abbrev Parts : Option ℕ → Option ℕ → Type 0
  Parts k m = (number : ℕ) × (k ≡ Some code) × (m ≡ Some number) × (people_at_number number records ≡ Some people)

  last_part : (c number : ℕ) (q : Option ℕ) → people_at_number number records ≡ q → with_people c q ≡ Ok (Some (code, people)) → Parts (Some c) (Some number)
  last_part c number None there is = cc
  last_part c number (Some p) there is = let same : ◌≡◌ {A = ℕ × ℕ} (c, p) (code, people) = cc in (number, ap (λ e. Some e.0) same, refl, there ∙ ap (λ e. Some e.1) same)

  joined_parts : (k m : Option ℕ) → joined_of records k m ≡ Ok (Some (code, people)) → Parts k m
  joined_parts None m is = cc
  joined_parts (Some c) None is = cc
  joined_parts (Some c) (Some number) is = last_part c number (people_at_number number records) refl is

abbrev IsAreaWith : Area → ℕ → List (ℕ × ℕ) → List ℕ → ℕ → ℕ → Type 0
IsAreaWith area state records line code people = (number : ℕ) × IsAreaLine area state line code number × (people_at_number number records ≡ Some people)

of_line : (area : Area) (state : ℕ) (g : GeoFields) → is_line_of area state g ≡ true → (g.level ≡ level_of area) × (g.component ≡ codes "00") × (g.of_state ≡ state_digits state)
of_line area state g is =
    let front = both (bytes_eq g.level (level_of area) && bytes_eq g.component (codes "00")) (bytes_eq g.of_state (state_digits state)) is in
    let ends = both (bytes_eq g.level (level_of area)) (bytes_eq g.component (codes "00")) front.0 in
    ((bytes_eq-Decides g.level (level_of area)).0 ends.0, (bytes_eq-Decides g.component (codes "00")).0 ends.1, (bytes_eq-Decides g.of_state (state_digits state)).0 front.1)

area_line_choose : (area : Area) (state : ℕ) (records : List (ℕ × ℕ)) (line : List ℕ) (code people : ℕ) (g : GeoFields) → geo_fields line ≡ Some g
    → (b : Bool) → is_line_of area state g ≡ b → (if b then joined area state records g else Ok None) ≡ Ok (Some (code, people)) → IsAreaWith area state records line code people
area_line_choose area state records line code people g has true taken is =
    let of = of_line area state g taken in
    let parts = joined_parts records code people (area_code area state g) (small_number g.record_number) is in
    (parts.0, record { fields = g; has_fields = has; level = of.0; component = of.1; of_state = of.2; code_is = parts.1; number_is = parts.2 }, parts.3)
area_line_choose area state records line code people g has false taken is = cc

area_line_by : (area : Area) (state : ℕ) (records : List (ℕ × ℕ)) (line : List ℕ) (code people : ℕ) (o : Option GeoFields) → geo_fields line ≡ o
    → (elim o as (λ _. LineEntry) [
      | Some g ↦ if is_line_of area state g then joined area state records g else Ok None
      | None ↦ Err TooFewFields
    ]) ≡ Ok (Some (code, people)) → IsAreaWith area state records line code people
area_line_by area state records line code people None has is = cc
area_line_by area state records line code people (Some g) has is = area_line_choose area state records line code people g has (is_line_of area state g) refl is

-- a line of an area of the state, and the people of its number, where a line gives a code
pub area_line : (area : Area) (state : ℕ) (records : List (ℕ × ℕ)) (line : List ℕ) (code people : ℕ) → area_on area state records line ≡ Ok (Some (code, people))
    → IsAreaWith area state records line code people
unfolding area_on
area_line area state records line code people is = area_line_by area state records line code people (geo_fields line) refl is

-- what a line of an area gives
pub area_line_gives : (area : Area) (state : ℕ) (records : List (ℕ × ℕ)) (line : List ℕ) (code number : ℕ) → IsAreaLine area state line code number
    → area_on area state records line ≡ with_people code (people_at_number number records)
unfolding area_on
area_line_gives area state records line code number l =
    let level : bytes_eq l.fields.level (level_of area) ≡ true = (bytes_eq-Decides _ _).1 l.level in
    let component : bytes_eq l.fields.component (codes "00") ≡ true = (bytes_eq-Decides _ _).1 l.component in
    let of_state : bytes_eq l.fields.of_state (state_digits state) ≡ true = (bytes_eq-Decides _ _).1 l.of_state in
    ap (λ (o : Option GeoFields). elim o as (λ _. LineEntry) [
      | Some g ↦ if is_line_of area state g then joined area state records g else Ok None
      | None ↦ Err TooFewFields
    ]) l.has_fields
    ∙ ap (λ (b : Bool). if b then joined area state records l.fields else Ok None) (both_true _ _ (both_true _ _ level component) of_state)
    ∙ ap (λ (k : Option ℕ). joined_of records k (small_number l.fields.record_number)) l.code_is
    ∙ ap (λ (m : Option ℕ). joined_of records (Some code) m) l.number_is

-- ---- the list
-- an entry that is found is listed
found_contains_by : (n p : ℕ) (e : ℕ × ℕ) (es : List (ℕ × ℕ)) (b : Bool) → is_eq (nat_cmp n e.0) ≡ b → cond b (Some e.1) (people_at_number n es) ≡ Some p
    → (people_at_number n es ≡ Some p → Contains es (n, p)) → Contains (e ∷ es) (n, p)
found_contains_by n p e es true tied is later =
    let number : e.0 ≡ n = sym (tied_same n e.0 tied) in
    let people : e.1 ≡ p = cc in
    let same : ◌≡◌ {A = ℕ × ℕ} (e.0, e.1) (n, p) = cc in
    subst (λ (d : ℕ × ℕ). Contains (e ∷ es) d) same (contains_head e es)
found_contains_by n p e es false tied is later = contains_tail e es (n, p) (later is)

found_contains : (n p : ℕ) (es : List (ℕ × ℕ)) → people_at_number n es ≡ Some p → Contains es (n, p)
found_contains n p [] is = cc
found_contains n p (e ∷ es) is = found_contains_by n p e es (is_eq (nat_cmp n e.0)) refl is (found_contains n p es)

contains_filter_by : {X : Type 0} (test : X → Bool) (y : X) (xs : List X) (x : X) (b : Bool) → Contains (cond b (y ∷ filter test xs) (filter test xs)) x
    → (Contains (filter test xs) x → Contains xs x) → Contains (y ∷ xs) x
contains_filter_by test y xs x true stands later = elim (contains_cases y (filter test xs) x stands) as (λ _. Contains (y ∷ xs) x) [
  | inl same ↦ subst (λ z. Contains (y ∷ xs) z) same (contains_head y xs)
  | inr kept ↦ contains_tail y xs x (later kept)
]
contains_filter_by test y xs x false stands later = contains_tail y xs x (later stands)

contains_filter : {X : Type 0} (test : X → Bool) (xs : List X) (x : X) → Contains (filter test xs) x → Contains xs x
contains_filter test [] x stands = stands
contains_filter test (y ∷ xs) x stands = contains_filter_by test y xs x (test y) stands (contains_filter test xs x)

-- whether a line gives an entry of the number
abbrev gives : ℕ → LineEntry → Bool
gives n (Ok (Some e)) = n == e.0
gives n (Ok None) = false
gives n (Err kind) = false

module _ (area : Area) (geo segment1 : List ℕ) (state : ℕ) (records found : List (ℕ × ℕ))
    (segment_is : record_list segment1 ≡ Ok records) (geo_is : found_list area state records geo ≡ Ok found) where
  joined_entry : (code people : ℕ) → people_at_number code found ≡ Some people → IsJoined area (cut geo).lines (cut segment1).lines state code people
  joined_entry code people there =
      let one = one_line (area_on area state records) (rule_of area) Geo (cut geo).fault found (λ (l : Line). gives code (area_on area state records l.bytes)) code
      (λ (l : Line) (nothing : area_on area state records l.bytes ≡ Ok None). ap (λ (g : LineEntry). gives code g) nothing)
      (λ (l : Line) (e : ℕ × ℕ) (is : area_on area state records l.bytes ≡ Ok (Some e)). ap (λ (g : LineEntry). gives code g) is)
      people (cut geo).lines [] (collected (area_on area state records) (rule_of area) Geo geo ∙ geo_is) there refl in
      let stands : Contains (cut geo).lines one.0 = contains_filter (λ (l : Line). gives code (area_on area state records l.bytes)) (cut geo).lines one.0
      (subst (λ (ls : List Line). Contains ls one.0) (sym one.1) (contains_head one.0 [])) in
      let of = area_line area state records one.0.bytes code people one.2 in
      record { line = one.0; number = of.0; stands = stands; of_area = of.1; of_record = stands_once segment1 records segment_is of.0 people of.2 }

  pub from_lines : IsStrictlyIncreasing (map (λ e. e.0) found) → All (λ e. IsJoined area (cut geo).lines (cut segment1).lines state e.0 e.1) found
  from_lines ascending = λ (k : ℕ) (d : ℕ × ℕ) (lt : k < length found).
      let e : ℕ × ℕ = get_or found k d in
      let sorted = sorted_from_strictly_increasing (map (λ (e : ℕ × ℕ). e.0) found) ascending in
      let there : people_at_number e.0 found ≡ Some e.1 = lookup_from_place (eq_by_cmp_equiv nat_cmp_total) found k e.0 e.1 (IsDistinct-from_sorted nat_cmp (map (λ (e : ℕ × ℕ). e.0) found) sorted) (slice_get-get_or found k d lt) in
      joined_entry e.0 e.1 there

  listed_line : (line : Line) → Contains (cut geo).lines line → (code number : ℕ) → IsAreaLine area state line.bytes code number → (q : Option ℕ) → people_at_number number records ≡ q
      → (people : ℕ) × StandsOnce (cut segment1).lines number people × Contains found (code, people)
  listed_line line stands code number l None absent =
      let given = given_by_line (area_on area state records) (rule_of area) Geo (cut geo).fault found (cut geo).lines [] line (collected (area_on area state records) (rule_of area) Geo geo ∙ geo_is) stands in
      let gives_none : area_on area state records line.bytes ≡ Err NoRecord = area_line_gives area state records line.bytes code number l ∙ ap (λ (o : Option ℕ). with_people code o) absent in
      let reads : area_on area state records line.bytes ≡ Ok given.0 = given.1 in
      cc
  listed_line line stands code number l (Some people) there =
      let given = given_by_line (area_on area state records) (rule_of area) Geo (cut geo).fault found (cut geo).lines [] line (collected (area_on area state records) (rule_of area) Geo geo ∙ geo_is) stands in
      let gives_it : area_on area state records line.bytes ≡ Ok (Some (code, people)) = area_line_gives area state records line.bytes code number l ∙ ap (λ (o : Option ℕ). with_people code o) there in
      let reads : area_on area state records line.bytes ≡ Ok given.0 = given.1 in
      let entry : given.0 ≡ Some (code, people) = cc in
      (people, stands_once segment1 records segment_is number people there, found_contains code people found (given.2 (code, people) entry))

  pub each_line : All (IsListedArea (λ code people. (code, people)) area (cut segment1).lines state found) (cut geo).lines
  each_line = λ (k : ℕ) (d : Line) (lt : k < length (cut geo).lines) (code number : ℕ) (l : IsAreaLine area state (get_or (cut geo).lines k d).bytes code number).
      listed_line (get_or (cut geo).lines k d) (Contains-get_or (cut geo).lines k d lt) code number l (people_at_number number records) refl
