-- The faults of the county list are those that texts can have.
use Rattle.std.proofs.Common.{◌≡◌, ◌≢◌, ℕ, Bool, true, false, List, [], ◌∷◌, ◌++◌, Option, Some, None, Result, Ok, Err, nat_lt, length, if◌then◌else◌, refl, ap, ◌∙◌, subst}
use Rattle.std.specs.List.{slice_get, filter_map, cons_option}
use Rattle.field_lines.specs.RawPieces.{RawLine, raw_lines}
use Rattle.field_lines.specs.Fault.{most_lines, most_bytes}
use Rattle.field_lines.specs.Cut.{Cut, Line, cut, fault_in}
use Rattle.field_lines.specs.Chain.{◌>>=◌}
use Rattle.field_lines.specs.Values.{fault_or_later}
use Rattle.field_lines.specs.declared.fault.LineFault.{LineFault}
use Rattle.field_lines.specs.declared.fault.LineFault.TheVariants.{LineTooLong, TooManyLines}
use Rattle.pl94_counties.specs.declared.fault.Pl94Kind.{Pl94Kind}
use Rattle.pl94_counties.specs.declared.fault.Pl94Kind.TheVariants.{TooFewFields, BadCode, BadNumber, DoubleRecord, NoRecord, DoubleCounty, DoubleBlock, NoCounties, NoBlocks, TooMany, Lower, Memory}
use Rattle.pl94_counties.specs.declared.fault.File.{File}
use Rattle.pl94_counties.specs.declared.fault.File.TheVariants.{Geo, Segment1}
use Rattle.pl94_counties.specs.declared.fault.Pl94Fault.{Pl94Fault}
use Rattle.pl94_counties.specs.declared.geo.Area.{Area}
use Rattle.pl94_counties.specs.declared.geo.Area.TheVariants as areas
use Rattle.pl94_counties.specs.Fields.{field, small_number, GeoFields, geo_fields}
use Rattle.pl94_counties.specs.PeopleByCode.{LineEntry, Rule, people_at_number, has_number, is_full, by_number, pl94_line_fault, entries_on, first_entry_fault, pl94_cut_fault, unless_entry_fault, people_by_number}
use Rattle.pl94_counties.specs.Segment.{record_on, record_rule, record_list, record_list_in}
use Rattle.pl94_counties.specs.Geo.{area_code, rule_of, is_line_of, joined, area_on}
use Rattle.pl94_counties.specs.Areas.{found_list, found_list_in, no_areas, some_areas, area_list_in, area_list}
use Rattle.pl94_counties.specs.TextFaults.{IsPl94OfText}
use Rattle.pl94_counties.proofs.LawLemmas.{record_of_numbers, record_in_fields, with_people, joined_of}

-- what is wrong with a line is the given kind
is_kind : (k kind : Pl94Kind) → ◌≡◌ {A = LineEntry} (Err k) (Err kind) → IsPl94OfText k → IsPl94OfText kind
is_kind k kind is own = let same : k ≡ kind = cc in subst IsPl94OfText same own

-- ---- records
of_numbers : (m q : Option ℕ) (kind : Pl94Kind) → record_of_numbers m q ≡ Err kind → IsPl94OfText kind
of_numbers None q kind is = is_kind BadNumber kind is tt
of_numbers (Some m) None kind is = is_kind BadNumber kind is tt
of_numbers (Some m) (Some q) kind is = absurd cc

of_fields : (a b : Option (List ℕ)) (kind : Pl94Kind) → record_in_fields a b ≡ Err kind → IsPl94OfText kind
of_fields None b kind is = is_kind TooFewFields kind is tt
of_fields (Some x) None kind is = is_kind TooFewFields kind is tt
of_fields (Some x) (Some y) kind is = of_numbers (small_number x) (small_number y) kind is

pub of_record : (line : List ℕ) (kind : Pl94Kind) → record_on line ≡ Err kind → IsPl94OfText kind
unfolding record_on
of_record line kind is = of_fields (field 5 line) (field 6 line) kind is

-- ---- lines of areas
of_people : (code : ℕ) (q : Option ℕ) (kind : Pl94Kind) → with_people code q ≡ Err kind → IsPl94OfText kind
of_people code None kind is = is_kind NoRecord kind is tt
of_people code (Some p) kind is = absurd cc

of_joined : (records : List (ℕ × ℕ)) (k m : Option ℕ) (kind : Pl94Kind) → joined_of records k m ≡ Err kind → IsPl94OfText kind
of_joined records None m kind is = is_kind BadCode kind is tt
of_joined records (Some code) None kind is = is_kind BadNumber kind is tt
of_joined records (Some code) (Some number) kind is = of_people code (people_at_number number records) kind is

module _ (area : Area) (state : ℕ) (records : List (ℕ × ℕ)) (kind : Pl94Kind) where
  of_choice : (g : GeoFields) (b : Bool) → (if b then joined area state records g else Ok None) ≡ Err kind → IsPl94OfText kind
  of_choice g true is = of_joined records (area_code area state g) (small_number g.record_number) kind is
  of_choice g false is = absurd cc

  of_geo_fields : (o : Option GeoFields) → (elim o as (λ _. LineEntry) [
    | Some g ↦ if is_line_of area state g then joined area state records g else Ok None
    | None ↦ Err TooFewFields
  ]) ≡ Err kind → IsPl94OfText kind
  of_geo_fields None is = is_kind TooFewFields kind is tt
  of_geo_fields (Some g) is = of_choice g (is_line_of area state g) is

  pub of_area : (line : List ℕ) → area_on area state records line ≡ Err kind → IsPl94OfText kind
  unfolding area_on
  of_area line is = of_geo_fields (geo_fields line) is

-- ---- the first line at fault
module _ (read : List ℕ → LineEntry) (rule : Rule) (own : (line : List ℕ) (kind : Pl94Kind) → read line ≡ Err kind → IsPl94OfText kind) (own_double : IsPl94OfText rule.double) where
  some_kind : (k kind : Pl94Kind) → ◌≡◌ {A = Option Pl94Kind} (Some k) (Some kind) → IsPl94OfText k → IsPl94OfText kind
  some_kind k kind is of = let same : k ≡ kind = cc in subst IsPl94OfText same of

  of_double : (b full : Bool) (kind : Pl94Kind) → (if b then Some rule.double else if full then Some TooMany else None) ≡ Some kind → IsPl94OfText kind
  of_double true full kind is = some_kind rule.double kind is own_double
  of_double false true kind is = some_kind TooMany kind is tt
  of_double false false kind is = absurd cc

  of_line : (earlier : List (ℕ × ℕ)) (line : List ℕ) (g : LineEntry) (kind : Pl94Kind) → read line ≡ g → pl94_line_fault rule earlier g ≡ Some kind → IsPl94OfText kind
  of_line earlier line (Err k) kind gives is = some_kind k kind is (own line k gives)
  of_line earlier line (Ok None) kind gives is = absurd cc
  of_line earlier line (Ok (Some e)) kind gives is = of_double (has_number e.0 earlier) (is_full rule.most (length (by_number earlier))) kind is

  of_first : (number : ℕ) (o : Option Pl94Kind) (later : Option (Pl94Kind × ℕ)) (f : Pl94Kind × ℕ) → ((kind : Pl94Kind) → o ≡ Some kind → IsPl94OfText kind) → (later ≡ Some f → IsPl94OfText f.0) → fault_or_later number o later ≡ Some f → IsPl94OfText f.0
  of_first number (Some kind) later f here after is =
      let same : ◌≡◌ {A = Pl94Kind × ℕ} (kind, number) f = cc in
      subst (λ (p : Pl94Kind × ℕ). IsPl94OfText p.0) same (here kind refl)
  of_first number None later f here after is = after is

  of_first_fault : (before ls : List Line) (f : Pl94Kind × ℕ) → first_entry_fault read rule before ls ≡ Some f → IsPl94OfText f.0
  of_first_fault before [] f is = absurd cc
  of_first_fault before (l ∷ ls) f is = of_first l.number (pl94_line_fault rule (entries_on read before) (read l.bytes)) (first_entry_fault read rule (before ++ l ∷ []) ls) f
      (λ (kind : Pl94Kind) (at : pl94_line_fault rule (entries_on read before) (read l.bytes) ≡ Some kind). of_line (entries_on read before) l.bytes (read l.bytes) kind refl at)
      (of_first_fault (before ++ l ∷ []) ls f) is

-- ---- the cut
of_limits : (b d : Bool) (number : ℕ) (f : LineFault) → (if b then Some TooManyLines else if d then Some (LineTooLong number) else None) ≡ Some f → IsPl94OfText (Lower f)
of_limits true d number f is = let same : TooManyLines ≡ f = cc in subst (λ (g : LineFault). IsPl94OfText (Lower g)) same tt
of_limits false true number f is = let same : LineTooLong number ≡ f = cc in subst (λ (g : LineFault). IsPl94OfText (Lower g)) same tt
of_limits false false number f is = absurd cc

of_pieces_by : (o : Option LineFault) (later : List LineFault) (f : LineFault) → ((g : LineFault) → o ≡ Some g → IsPl94OfText (Lower g)) → (slice_get later 0 ≡ Some f → IsPl94OfText (Lower f)) → slice_get (cons_option o later) 0 ≡ Some f → IsPl94OfText (Lower f)
of_pieces_by (Some g) later f here after is = let same : g ≡ f = cc in subst (λ (h : LineFault). IsPl94OfText (Lower h)) same (here g refl)
of_pieces_by None later f here after is = after is

of_pieces : (ps : List RawLine) (f : LineFault) → slice_get (filter_map fault_in ps) 0 ≡ Some f → IsPl94OfText (Lower f)
of_pieces [] f is = absurd cc
of_pieces (p ∷ ps) f is = of_pieces_by (fault_in p) (filter_map fault_in ps) f
    (λ (g : LineFault) (at : fault_in p ≡ Some g). of_limits (nat_lt most_lines p.number) (nat_lt most_bytes (length p.bytes)) p.number g at)
    (of_pieces ps f) is

-- ---- a whole text
of_outcome : (file : File) (first : Option (Pl94Kind × ℕ)) (last : Option LineFault) (entries : List (ℕ × ℕ)) (fault : Pl94Fault)
    → ((f : Pl94Kind × ℕ) → first ≡ Some f → IsPl94OfText f.0) → ((f : LineFault) → last ≡ Some f → IsPl94OfText (Lower f))
    → unless_entry_fault file first last entries ≡ Err fault → IsPl94OfText fault.kind
of_outcome file (Some f) last entries fault here after is = let same : ◌≡◌ {A = Pl94Fault} (record { kind = f.0; file = file; line = f.1 }) fault = cc in subst (λ (g : Pl94Fault). IsPl94OfText g.kind) same (here f refl)
of_outcome file None (Some f) entries fault here after is = let same : pl94_cut_fault file f ≡ fault = cc in subst (λ (g : Pl94Fault). IsPl94OfText g.kind) same (after f refl)
of_outcome file None None entries fault here after is = absurd cc

of_text : (read : List ℕ → LineEntry) (rule : Rule) (file : File) (text : List ℕ) (fault : Pl94Fault)
    → ((line : List ℕ) (kind : Pl94Kind) → read line ≡ Err kind → IsPl94OfText kind) → IsPl94OfText rule.double
    → people_by_number read rule file text ≡ Err fault → IsPl94OfText fault.kind
of_text read rule file text fault own own_double is = of_outcome file (first_entry_fault read rule [] (cut text).lines) (cut text).fault _ fault
    (of_first_fault read rule own own_double [] (cut text).lines) (of_pieces (raw_lines text)) is

-- a reader's fault is that of a text, or memory was refused
unless_memory : {Y : Type 0} (fault : Pl94Fault) (given : Result Y Pl94Fault) → (fault.kind ≢ Memory → given ≡ Err fault) → (given ≡ Err fault → IsPl94OfText fault.kind) → (k : Pl94Kind) → fault.kind ≡ k → IsPl94OfText k
unless_memory fault given answers of Memory is = tt
unless_memory fault given answers of (Lower f) is = subst IsPl94OfText is (of (answers (λ (m : fault.kind ≡ Memory). cc)))
unless_memory fault given answers of TooFewFields is = tt
unless_memory fault given answers of BadCode is = tt
unless_memory fault given answers of BadNumber is = tt
unless_memory fault given answers of DoubleRecord is = tt
unless_memory fault given answers of NoRecord is = tt
unless_memory fault given answers of DoubleCounty is = tt
unless_memory fault given answers of DoubleBlock is = tt
unless_memory fault given answers of NoCounties is = tt
unless_memory fault given answers of NoBlocks is = tt
unless_memory fault given answers of TooMany is = tt

pub of_segment : (text : List ℕ) (fault : Pl94Fault) → (fault.kind ≢ Memory → record_list text ≡ Err fault) → IsPl94OfText fault.kind
of_segment text fault answers = unless_memory fault (record_list text) answers (of_text record_on record_rule Segment1 text fault of_record tt) fault.kind refl

pub of_rule : (area : Area) → IsPl94OfText (rule_of area).double
of_rule areas.County = tt
of_rule areas.Block = tt

pub of_geo : (area : Area) (state : ℕ) (records : List (ℕ × ℕ)) (text : List ℕ) (fault : Pl94Fault) → (fault.kind ≢ Memory → found_list area state records text ≡ Err fault) → IsPl94OfText fault.kind
of_geo area state records text fault answers = unless_memory fault (found_list area state records text) answers
    (of_text (area_on area state records) (rule_of area) Geo text fault (λ (line : List ℕ) (kind : Pl94Kind) (is : area_on area state records line ≡ Err kind). of_area area state records kind line is) (of_rule area)) fault.kind refl

-- ---- both texts
module _ (area : Area) (geo segment1 : List ℕ) (state : ℕ) where
  abbrev after_found : Result (List (ℕ × ℕ)) Pl94Fault → Result (List (ℕ × ℕ)) Pl94Fault
  after_found found = found >>= (λ es. some_areas area es)

  abbrev after_records : Result (List (ℕ × ℕ)) Pl94Fault → Result (List (ℕ × ℕ)) Pl94Fault
  after_records records = records >>= (λ rs. after_found (found_list area state rs geo))

  -- what stands behind areas that are found
  pub record Found (entries : List (ℕ × ℕ)) : Type 0 where
    pub records : List (ℕ × ℕ)
    pub records_are : record_list segment1 ≡ Ok records
    pub found_are : found_list area state records geo ≡ Ok entries

  some_found : (found entries : List (ℕ × ℕ)) → some_areas area found ≡ Ok entries → found ≡ entries
  some_found [] entries is = absurd cc
  some_found (e ∷ es) entries is = cc

  found_by : (records : List (ℕ × ℕ)) → record_list segment1 ≡ Ok records → (entries : List (ℕ × ℕ)) (r : Result (List (ℕ × ℕ)) Pl94Fault) → found_list area state records geo ≡ r → after_found r ≡ Ok entries → Found entries
  found_by records are entries (Err fault) gives is = absurd cc
  found_by records are entries (Ok found) gives is =
      let same : found ≡ entries = some_found found entries is in
      record { records = records; records_are = are; found_are = gives ∙ ap (λ (es : List (ℕ × ℕ)). Ok es) same }

  records_by : (entries : List (ℕ × ℕ)) (r : Result (List (ℕ × ℕ)) Pl94Fault) → record_list segment1 ≡ r → after_records r ≡ Ok entries → Found entries
  records_by entries (Err fault) gives is = absurd cc
  records_by entries (Ok records) gives is = found_by records gives entries (found_list area state records geo) refl is

  pub areas_found : (entries : List (ℕ × ℕ)) → area_list area geo segment1 state ≡ Ok entries → Found entries
  areas_found entries is = records_by entries (record_list segment1) refl is

  none_of_text : (area : Area) → IsPl94OfText (no_areas area)
  none_of_text areas.County = tt
  none_of_text areas.Block = tt

  some_faulty : (found : List (ℕ × ℕ)) (fault : Pl94Fault) → some_areas area found ≡ Err fault → IsPl94OfText fault.kind
  some_faulty [] fault is = let same : ◌≡◌ {A = Pl94Fault} (record { kind = no_areas area; file = Geo; line = 0 }) fault = cc in subst (λ (f : Pl94Fault). IsPl94OfText f.kind) same (none_of_text area)
  some_faulty (e ∷ es) fault is = absurd cc

  found_faulty : (records : List (ℕ × ℕ)) (fault : Pl94Fault) (r : Result (List (ℕ × ℕ)) Pl94Fault) → found_list area state records geo ≡ r → after_found r ≡ Err fault → IsPl94OfText fault.kind
  found_faulty records fault (Err f) gives is =
      let same : f ≡ fault = cc in
      of_geo area state records geo fault (λ other. gives ∙ ap (λ (g : Pl94Fault). Err g) same)
  found_faulty records fault (Ok found) gives is = some_faulty found fault is

  records_faulty : (fault : Pl94Fault) (r : Result (List (ℕ × ℕ)) Pl94Fault) → record_list segment1 ≡ r → after_records r ≡ Err fault → IsPl94OfText fault.kind
  records_faulty fault (Err f) gives is =
      let same : f ≡ fault = cc in
      of_segment segment1 fault (λ other. gives ∙ ap (λ (g : Pl94Fault). Err g) same)
  records_faulty fault (Ok records) gives is = found_faulty records fault (found_list area state records geo) refl is

  pub of_areas : (fault : Pl94Fault) → (fault.kind ≢ Memory → area_list area geo segment1 state ≡ Err fault) → IsPl94OfText fault.kind
  of_areas fault answers = unless_memory fault (area_list area geo segment1 state) answers (records_faulty fault (record_list segment1) refl) fault.kind refl

-- a fault of segment 1 is the first of both
pub segment_stops : (area : Area) (geo segment1 : Cut) (state : ℕ) (fault : Pl94Fault) → record_list_in segment1 ≡ Err fault → area_list_in area geo segment1 state ≡ Err fault
segment_stops area geo segment1 state fault is =
    ap (λ (r : Result (List (ℕ × ℕ)) Pl94Fault). r >>= (λ records. found_list_in area state records geo >>= (λ found. some_areas area found))) is

-- a fault of geo is the first of both, where segment 1 has none
pub geo_stops : (area : Area) (geo segment1 : Cut) (state : ℕ) (records : List (ℕ × ℕ)) (fault : Pl94Fault) → record_list_in segment1 ≡ Ok records → found_list_in area state records geo ≡ Err fault
    → area_list_in area geo segment1 state ≡ Err fault
geo_stops area geo segment1 state records fault are is =
    ap (λ (r : Result (List (ℕ × ℕ)) Pl94Fault). r >>= (λ records. found_list_in area state records geo >>= (λ found. some_areas area found))) are
    ∙ ap (λ (r : Result (List (ℕ × ℕ)) Pl94Fault). r >>= (λ found. some_areas area found)) is
