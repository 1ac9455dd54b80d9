-- Reading the lines of a file from any source.
use Rattle.std.proofs.Common.{◌≡◌, ◌≢◌, ◌&&◌, inl, inr, ℕ, Bool, true, false, List, [], ◌++◌, Option, Some, Result, Ok, Err, refl, sym, ap, ◌∙◌, subst}
use Rattle.std.specs.Borrow.{Bor}
use Rattle.field_lines.specs.Source.{Given}
use Rattle.field_lines.specs.LinesFrom.{LinesHeld, nothing_read, lines_held, LinesLeft, IsNextAnswer, ReadsText}
use Rattle.field_lines.proofs.ReadingLemmas.{ReadsOn, reads_more, reads_stop, reads_fault, given_fault, never_memory}
use Rattle.field_lines.specs.Cut.{Cut, Line, cut, in_front, line_of}
use Rattle.field_lines.specs.Values.{GivesUnless}
use Rattle.field_lines.specs.declared.fault.LineFault.{LineFault}
use Rattle.field_lines.specs.declared.fault.LineFault.TheVariants.{LineTooLong, TooManyLines, ReadFault}
use Rattle.field_lines.specs.declared.fault.LineFault.TheVariants as line_faults
use Rattle.pl94_counties.specs.declared.fault.Pl94Kind.{Pl94Kind}
use Rattle.pl94_counties.specs.declared.fault.Pl94Kind.TheVariants.{TooFewFields, BadCode, BadNumber, DoubleRecord, NoRecord, DoubleCounty, DoubleBlock, NoCounties, NoBlocks, TooMany, Lower, Memory}
use Rattle.pl94_counties.specs.declared.fault.File.{File}
use Rattle.pl94_counties.specs.declared.fault.File.TheVariants.{Geo, Segment1}
use Rattle.pl94_counties.specs.declared.fault.Pl94Fault.{Pl94Fault}
use Rattle.pl94_counties.specs.PeopleByCode.{LineEntry, Rule, with_given, pl94_cut_fault, IsPl94Memory}
use Rattle.pl94_counties.specs.declared.geo.Area.{Area}
use Rattle.pl94_counties.specs.Areas.{area_list_in, area_list}
use Rattle.pl94_counties.specs.TextFaults.{IsPl94OfText}
use Rattle.pl94_counties.specs.Readers.{is_pl94_read_fault, same_file, read_failed, IsPl94Refused, ReadsBoth}
use Rattle.pl94_counties.proofs.CollectLemmas.{collect_from}

-- a text's own fault is no failure of its source
pub own_fault : (k : Pl94Kind) → IsPl94OfText k → is_pl94_read_fault k ≡ false
own_fault (Lower (LineTooLong number)) of = refl
own_fault (Lower TooManyLines) of = refl
own_fault (Lower (ReadFault number)) of = absurd of
own_fault (Lower line_faults.Memory) of = refl
own_fault TooFewFields of = refl
own_fault BadCode of = refl
own_fault BadNumber of = refl
own_fault DoubleRecord of = refl
own_fault NoRecord of = refl
own_fault DoubleCounty of = refl
own_fault DoubleBlock of = refl
own_fault NoCounties of = refl
own_fault NoBlocks of = refl
own_fault TooMany of = refl
own_fault Memory of = refl

-- the answer that was matched is the one that a reader gave
pub answer_is : {now new : LinesLeft} {h i : Given} {d e : Bool} {a b : Result (Option (ℕ × Bor (List ℕ))) LineFault} → a ≡ b → IsNextAnswer now h d a new i e → IsNextAnswer now h d b new i e
answer_is {now} {new} {h} {i} {d} {e} is next = subst (λ (a : Result (Option (ℕ × Bor (List ℕ))) LineFault). IsNextAnswer now h d a new i e) is next

-- and so is the line in it
pub line_is : {a : Result (Option (ℕ × Bor (List ℕ))) LineFault} {o : Option (ℕ × Bor (List ℕ))} {r : ℕ × Bor (List ℕ)} → a ≡ Ok o → o ≡ Some r → a ≡ Ok (Some r)
line_is is some = is ∙ ap (λ (o : Option (ℕ × Bor (List ℕ))). Ok o) some

module _ (read : List ℕ → LineEntry) (rule : Rule) (file : File) where
  -- what a loop answers that has found these entries, on the cut that is left
  abbrev pub collect_cut : List (ℕ × ℕ) → Cut → Result (List (ℕ × ℕ)) Pl94Fault
  collect_cut placed c = collect_from read rule file placed c.lines c.fault

  module _ (placed : List (ℕ × ℕ)) (l : Line) (c : Cut) where
    abbrev then_more : Result (List (ℕ × ℕ)) Pl94Kind → Result (List (ℕ × ℕ)) Pl94Fault
    then_more given = elim given as (λ _. Result (List (ℕ × ℕ)) Pl94Fault) [
      | Ok more ↦ collect_from read rule file more c.lines c.fault
      | Err kind ↦ Err (record { kind = kind; file = file; line = l.number })
    ]

    pub line_added : (more : List (ℕ × ℕ)) → with_given rule placed (read l.bytes) ≡ Ok more → collect_cut placed (in_front l c) ≡ collect_cut more c
    line_added more is = ap then_more is

    pub line_refused : (kind : Pl94Kind) → with_given rule placed (read l.bytes) ≡ Err kind → collect_cut placed (in_front l c) ≡ Err (record { kind = kind; file = file; line = l.number })
    line_refused kind is = ap then_more is

-- what is given is this fault, unless it is a refusal
abbrev pub StopsAt : Pl94Fault → Result (List (ℕ × ℕ)) Pl94Fault → Type 0
StopsAt fault given = (IsPl94Refused fault → ⊥) → given ≡ Err fault

module _ (read : List ℕ → LineEntry) (rule : Rule) (file : File) (start now new : LinesLeft) (g h i : Given) (d e : Bool) (Whole : Cut → Result (List (ℕ × ℕ)) Pl94Fault) (placed : List (ℕ × ℕ))
    (s : ReadsOn start g Whole now h d (collect_cut read rule file placed)) where
  module _ (r : ℕ × Bor (List ℕ)) (next : IsNextAnswer now h d (Ok (Some r)) new i e) where
    -- a line is added to those before
    pub line_more : (more : List (ℕ × ℕ)) → with_given rule placed (read r.1.now) ≡ Ok more → ReadsOn start g Whole new i e (collect_cut read rule file more)
    line_more more is = reads_more start now new g h i d e Whole (collect_cut read rule file placed) s r next (collect_cut read rule file more) (λ c. line_added read rule file placed (line_of r) c more is)

    -- a line is at fault after those before
    pub line_stops : (kind : Pl94Kind) → (kind ≢ Memory → with_given rule placed (read r.1.now) ≡ Err kind)
        → ReadsText start.cut g i (λ c. StopsAt (record { kind = kind; file = file; line = r.0 }) (Whole c))
    line_stops kind is =
        let fault : Pl94Fault = record { kind = kind; file = file; line = r.0 } in
        let comes = reads_stop start now new g h i d e Whole (collect_cut read rule file placed) s r next (IsPl94Refused fault → ⊥) (Err fault)
        (λ (kept : IsPl94Refused fault → ⊥) (c : Cut). line_refused read rule file placed (line_of r) c kind (is (λ (m : kind ≡ Memory). kept (inl m)))) in
        record { pulled = comes.pulled; given = comes.given; holds = λ later may kept. comes.is kept later may }

  -- the text ends in a fault, or a read failed
  text_stops : (fault : LineFault) → IsNextAnswer now h d (Err fault) new i e → ReadsText start.cut g i (λ c. StopsAt (pl94_cut_fault file fault) (Whole c))
  text_stops (LineTooLong line) next =
      let comes = reads_fault start now new g h i d e Whole (collect_cut read rule file placed) s (IsPl94Refused (pl94_cut_fault file (LineTooLong line)) → ⊥) (LineTooLong line) tt next in
      record { pulled = comes.pulled; given = comes.given; holds = λ later may kept. comes.is kept later may }
  text_stops TooManyLines next =
      let comes = reads_fault start now new g h i d e Whole (collect_cut read rule file placed) s (IsPl94Refused (pl94_cut_fault file TooManyLines) → ⊥) TooManyLines tt next in
      record { pulled = comes.pulled; given = comes.given; holds = λ later may kept. comes.is kept later may }
  text_stops (ReadFault line) next =
      let given = given_fault start now new g h i d e Whole (collect_cut read rule file placed) s (ReadFault line) next in
      record { pulled = given.0; given = given.1; holds = λ later may kept. absurd (kept (inr refl)) }
  text_stops line_faults.Memory next = absurd (never_memory start now new g h i d e Whole (collect_cut read rule file placed) s next)

  -- the same of a fault that is that of the cut
  pub cut_stops : (fault : LineFault) (f : Pl94Fault) → f ≡ pl94_cut_fault file fault → IsNextAnswer now h d (Err fault) new i e → ReadsText start.cut g i (λ c. StopsAt f (Whole c))
  cut_stops fault f is next = subst (λ (k : Pl94Fault). ReadsText start.cut g i (λ c. StopsAt k (Whole c))) (sym is) (text_stops fault next)

-- ---- both files

-- a file of which no read failed
pub no_failure : (k : Pl94Kind) (f : File) → false ≡ is_pl94_read_fault k && same_file Geo f → false ≡ is_pl94_read_fault k && same_file Segment1 f → is_pl94_read_fault k ≡ true → ⊥
no_failure k Geo geo segment1 is = let failed : false ≡ true && true = geo ∙ ap (λ (b : Bool). b && true) is in cc
no_failure k Segment1 geo segment1 is = let failed : false ≡ true && true = segment1 ∙ ap (λ (b : Bool). b && true) is in cc

-- where no read failed, only memory is refused
pub only_memory : {X Y : Type 0} (view : X → Y) (answer : Result X Pl94Fault) (given : Result Y Pl94Fault) → false ≡ read_failed Geo answer → false ≡ read_failed Segment1 answer
    → GivesUnless IsPl94Refused view answer given → GivesUnless IsPl94Memory view answer given
only_memory view (Ok x) given geo segment1 is = is
only_memory view (Err fault) given geo segment1 is = λ kept. is (λ refused. elim refused as (λ _. ⊥) [
  | inl memory ↦ kept memory
  | inr failed ↦ no_failure fault.kind fault.file geo segment1 failed
])

-- what is answered for two sources, where it gives another answer
pub reads_give : {X Y V W : Type 0} (view : X → Y) (shown : V → W) (geo_before geo_after segment1_before segment1_after : Given) (answer : Result X Pl94Fault) (made : Result V Pl94Fault) (given : List ℕ → List ℕ → Result Y Pl94Fault) (other : List ℕ → List ℕ → Result W Pl94Fault)
    → ((geo segment1 : List ℕ) → GivesUnless IsPl94Refused view answer (given geo segment1) → GivesUnless IsPl94Refused shown made (other geo segment1))
    → ReadsBoth view geo_before geo_after segment1_before segment1_after answer given → ReadsBoth shown geo_before geo_after segment1_before segment1_after made other
reads_give view shown geo_before geo_after segment1_before segment1_after answer made given other gives reads = record {
  geo = reads.geo;
  segment1 = reads.segment1;
  geo_given = reads.geo_given;
  segment1_given = reads.segment1_given;
  value = λ geo_later segment1_later geo_may segment1_may. gives (reads.geo ++ geo_later) (reads.segment1 ++ segment1_later) (reads.value geo_later segment1_later geo_may segment1_may);
}

-- a reading of two sources, said in other words
pub reads_as : {X Y : Type 0} (view : X → Y) (geo_before geo_after segment1_before segment1_after : Given) (answer : Result X Pl94Fault) (given other : List ℕ → List ℕ → Result Y Pl94Fault)
    → ((geo segment1 : List ℕ) → given geo segment1 ≡ other geo segment1) → ReadsBoth view geo_before geo_after segment1_before segment1_after answer given
    → ReadsBoth view geo_before geo_after segment1_before segment1_after answer other
reads_as view geo_before geo_after segment1_before segment1_after answer given other same reads =
    reads_give view view geo_before geo_after segment1_before segment1_after answer answer given other (λ geo segment1 is. subst (GivesUnless IsPl94Refused view answer) (same geo segment1) is) reads

-- readers that have read nothing have the lines of whole texts
pub fresh_lines : (area : Area) (state : ℕ) (geo segment1 : LinesHeld) → geo ≡ nothing_read → segment1 ≡ nothing_read → (g s : List ℕ)
    → area_list_in area ((lines_held geo).cut g) ((lines_held segment1).cut s) state ≡ area_list area g s state
fresh_lines area state geo segment1 geo_is segment1_is g s =
    ap (λ (h : LinesHeld). area_list_in area ((lines_held h).cut g) ((lines_held segment1).cut s) state) geo_is
    ∙ ap (λ (h : LinesHeld). area_list_in area (cut g) ((lines_held h).cut s) state) segment1_is

-- what is answered for two texts in memory
pub texts_value : (area : Area) (state : ℕ) (geo segment1 : List ℕ) (geo_lines segment1_lines : Cut) {X : Type 0} (view : X → List (ℕ × ℕ)) (geo_before geo_after segment1_before segment1_after : Given) (answer : Result X Pl94Fault)
    → geo_lines ≡ cut geo → segment1_lines ≡ cut segment1 → false ≡ read_failed Geo answer → false ≡ read_failed Segment1 answer
    → ReadsBoth view geo_before geo_after segment1_before segment1_after answer (λ g s. area_list_in area geo_lines segment1_lines state)
    → GivesUnless IsPl94Memory view answer (area_list area geo segment1 state)
texts_value area state geo segment1 geo_lines segment1_lines view geo_before geo_after segment1_before segment1_after answer geo_are segment1_are geo_failed segment1_failed reads =
    only_memory view answer (area_list area geo segment1 state) geo_failed segment1_failed (
    subst (λ (c : Cut). GivesUnless IsPl94Refused view answer (area_list_in area c (cut segment1) state)) geo_are
    (subst (λ (c : Cut). GivesUnless IsPl94Refused view answer (area_list_in area geo_lines c state)) segment1_are
    (reads.value [] [] (λ ended. refl) (λ ended. refl))))
