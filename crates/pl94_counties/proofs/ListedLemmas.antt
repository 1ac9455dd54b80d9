-- The counties and the blocks that two texts give are those of their lines.
use Rattle.std.proofs.Common.{◌≡◌, ℕ, zero, suc, ◌+◌, ◌<◌, ◌≤◌, List, [], ◌∷◌, map, fold, Option, Some, None, Result, Ok, Err, All, refl, sym, ap, ◌∙◌, subst, get_or, arith}
use Rattle.std.specs.declared.cmp.Ordering.{Ordering}
use Rattle.std.specs.declared.cmp.Ordering.TheVariants.{Less, Equal, Greater}
use Rattle.std.specs.Ordering.{nat_cmp, match_ordering}
use Rattle.std.specs.Cmp.{ranked}
use Rattle.std.specs.BTreeMap.{insert_entry}
use Rattle.std.specs.List.{filter_map}
use Rattle.std.specs.Result.{result_map_both}
use Rattle.std.specs.List.Sorted.{IsStrictlyIncreasing}
use Rattle.std.proofs.lemmas.List.Elements.{All-cons, All-map}
use Rattle.std.proofs.lemmas.List.Kept.{AllPairs-from_increasing}
use Rattle.std.proofs.lemmas.Map.Views.{All-keys-insert_entry}
use Rattle.field_lines.specs.Cut.{cut}
use Rattle.field_lines.specs.declared.fault.LineFault.{LineFault}
use Rattle.county_codes.specs.Counties.{codes_of}
use Rattle.county_codes.specs.declared.county.County.{County}
use Rattle.pl94_counties.specs.declared.blocks.Block.{Block}
use Rattle.pl94_counties.specs.declared.fault.File.{File}
use Rattle.pl94_counties.specs.declared.fault.Pl94Fault.{Pl94Fault}
use Rattle.pl94_counties.specs.declared.fault.Pl94Kind.{Pl94Kind}
use Rattle.pl94_counties.specs.declared.geo.Area.{Area}
use Rattle.pl94_counties.specs.declared.geo.Area.TheVariants as areas
use Rattle.pl94_counties.specs.PeopleByCode.{by_number, unless_entry_fault}
use Rattle.pl94_counties.specs.Geo.{area_on}
use Rattle.pl94_counties.specs.PeopleByCode.{entries_on}
use Rattle.pl94_counties.specs.Areas.{area_list, found_list}
use Rattle.pl94_counties.specs.Counties.{county_of, county_in, block_of, county_list, block_list}
use Rattle.pl94_counties.specs.JoinedLines.{IsJoined, IsListedArea}
use Rattle.pl94_counties.specs.ListedAreas.{AreCounties, AreBlocks}
use Rattle.pl94_counties.proofs.ListLemmas.{codes_made, listed_made, counties_kept, codes_small}
use Rattle.pl94_counties.proofs.LawLemmas.{from_lines, each_line}
use Rattle.pl94_counties.proofs.OfTextLemmas.{areas_found}

-- ---- entries by number have ascending numbers
rising_cons : (x : ℕ) (xs : List ℕ) → All (λ y. x < y) xs → IsStrictlyIncreasing xs → IsStrictlyIncreasing (x ∷ xs)
rising_cons x xs above rises zero within = above 0 0 (omega arith)
rising_cons x xs above rises (suc k) within =
    let e : suc (k + 1) ≡ suc k + 1 = omega arith in
    subst (λ (n : ℕ). get_or xs k 0 < get_or (x ∷ xs) n 0) e (rises k (omega arith))

rising_tail : (x : ℕ) (xs : List ℕ) → IsStrictlyIncreasing (x ∷ xs) → IsStrictlyIncreasing xs
rising_tail x xs rises k within =
    let e : suc k + 1 ≡ suc (k + 1) = omega arith in
    subst (λ (n : ℕ). get_or xs k 0 < get_or (x ∷ xs) n 0) e (rises (suc k) (omega arith))

above_head : (x : ℕ) (xs : List ℕ) → IsStrictlyIncreasing (x ∷ xs) → All (λ y. x < y) xs
above_head x xs rises k d within = AllPairs-from_increasing (x ∷ xs) rises zero (suc k) d (omega arith) (omega arith)

all_above : (x y : ℕ) (xs : List ℕ) → x < y → All (λ z. y < z) xs → All (λ z. x < z) xs
all_above x y xs below above k d within = let next : y < get_or xs k d = above k d within in omega arith

rising_insert : (k v : ℕ) (es : List (ℕ × ℕ)) → IsStrictlyIncreasing (map (λ e. e.0) es) → IsStrictlyIncreasing (map (λ e. e.0) (insert_entry nat_cmp es k v))
rising_insert k v [] rises = λ i within. absurd (omega arith)
rising_insert k v (e ∷ es) rises = by (rising_insert k v es (rising_tail e.0 (map (λ f. f.0) es) rises)) (nat_cmp k e.0) refl
  where
    by : IsStrictlyIncreasing (map (λ f. f.0) (insert_entry nat_cmp es k v)) → (r : Ordering) → r ≡ nat_cmp k e.0
        → IsStrictlyIncreasing (map (λ f. f.0) (match_ordering r ((k, v) ∷ e ∷ es) ((e.0, v) ∷ es) (e ∷ insert_entry nat_cmp es k v)))
    by later Less is =
        let below : k < e.0 = ranked k e.0 Less is in
        rising_cons k (e.0 ∷ map (λ f. f.0) es)
        (All-cons (λ y. k < y) e.0 (map (λ f. f.0) es) below (all_above k e.0 (map (λ f. f.0) es) below (above_head e.0 (map (λ f. f.0) es) rises)))
        rises
    by later Equal is = rises
    by later Greater is =
        let below : e.0 < k = ranked k e.0 Greater is in
        rising_cons e.0 (map (λ f. f.0) (insert_entry nat_cmp es k v))
        (All-keys-insert_entry nat_cmp k v (λ y. e.0 < y) es (above_head e.0 (map (λ f. f.0) es) rises) below)
        later

rising_fold : (placed es : List (ℕ × ℕ)) → IsStrictlyIncreasing (map (λ e. e.0) placed) → IsStrictlyIncreasing (map (λ e. e.0) (fold (λ p e. insert_entry nat_cmp p e.0 e.1) placed es))
rising_fold placed [] rises = rises
rising_fold placed (e ∷ es) rises = rising_fold (insert_entry nat_cmp placed e.0 e.1) es (rising_insert e.0 e.1 placed rises)

by_number_rises : (es : List (ℕ × ℕ)) → IsStrictlyIncreasing (map (λ e. e.0) (by_number es))
by_number_rises es = rising_fold [] es (λ i within. absurd (omega arith))

-- ---- what is found is by number
no_fault : (file : File) (first : Option (Pl94Kind × ℕ)) (fault : Option LineFault) (entries found : List (ℕ × ℕ)) → unless_entry_fault file first fault entries ≡ Ok found → entries ≡ found
no_fault file (Some f) fault entries found is = cc
no_fault file None (Some fault) entries found is = cc
no_fault file None None entries found is = cc

found_rises : (area : Area) (state : ℕ) (records : List (ℕ × ℕ)) (geo : List ℕ) (found : List (ℕ × ℕ)) → found_list area state records geo ≡ Ok found → IsStrictlyIncreasing (map (λ e. e.0) found)
found_rises area state records geo found is =
    subst (λ (es : List (ℕ × ℕ)). IsStrictlyIncreasing (map (λ (e : ℕ × ℕ). e.0) es))
    (no_fault _ _ _ (by_number (entries_on (area_on area state records) (cut geo).lines)) found is)
    (by_number_rises (entries_on (area_on area state records) (cut geo).lines))

-- ---- what is made of the entries
made_of : {X : Type 0} (made : ℕ → ℕ → X) (listed : Result (List (ℕ × ℕ)) Pl94Fault) (xs : List X) → result_map_both (λ entries. map (λ e. made e.0 e.1) entries) (λ fault. fault) listed ≡ Ok xs
    → (entries : List (ℕ × ℕ)) × (listed ≡ Ok entries) × (xs ≡ map (λ e. made e.0 e.1) entries)
made_of made (Ok entries) xs is = (entries, refl, cc)
made_of made (Err fault) xs is = cc

-- what is said of counties and of blocks
record AreMade {X : Type 0} (made : ℕ → ℕ → X) (code people : X → ℕ) (area : Area) (geo segment1 : List ℕ) (state : ℕ) (xs : List X) : Type 0 where
  by_code : IsStrictlyIncreasing (map code xs)
  from_lines : All (λ x. IsJoined area (cut geo).lines (cut segment1).lines state (code x) (people x)) xs
  each_line : All (IsListedArea made area (cut segment1).lines state xs) (cut geo).lines

module _ (geo segment1 : List ℕ) (state : ℕ) where
  module _ {X : Type 0} (made : ℕ → ℕ → X) (code people : X → ℕ) (area : Area) (code_is : (n p : ℕ) → code (made n p) ≡ n) (people_are : (n p : ℕ) → people (made n p) ≡ p) where
    joined_made : (entries : List (ℕ × ℕ)) → All (λ e. IsJoined area (cut geo).lines (cut segment1).lines state e.0 e.1) entries
        → All (λ e. IsJoined area (cut geo).lines (cut segment1).lines state (code (made e.0 e.1)) (people (made e.0 e.1))) entries
    joined_made entries all = λ k d lt.
        let e : ℕ × ℕ = get_or entries k d in
        subst (λ (n : ℕ). IsJoined area (cut geo).lines (cut segment1).lines state n (people (made e.0 e.1))) (sym (code_is e.0 e.1))
        (subst (λ (p : ℕ). IsJoined area (cut geo).lines (cut segment1).lines state e.0 p) (sym (people_are e.0 e.1)) (all k d lt))

    are_made : (xs : List X) → result_map_both (λ entries. map (λ e. made e.0 e.1) entries) (λ fault. fault) (area_list area geo segment1 state) ≡ Ok xs → AreMade made code people area geo segment1 state xs
    are_made xs is =
        let of = made_of made (area_list area geo segment1 state) xs is in
        let entries = of.0 in
        let f = areas_found area geo segment1 state entries of.1 in
        let rises = found_rises area state f.records geo entries f.found_are in
        subst (AreMade made code people area geo segment1 state) (sym of.2) (record {
          by_code = subst (λ (ns : List ℕ). IsStrictlyIncreasing ns) (sym (codes_made made code code_is entries)) rises;
          from_lines = All-map (λ (x : X). IsJoined area (cut geo).lines (cut segment1).lines state (code x) (people x)) (λ (e : ℕ × ℕ). made e.0 e.1) entries
              (joined_made entries (from_lines area geo segment1 state f.records entries f.records_are f.found_are rises));
          each_line = listed_made made area (cut segment1).lines state entries (cut geo).lines (each_line area geo segment1 state f.records entries f.records_are f.found_are);
        })

  pub are_counties : (counties : List County) → county_list geo segment1 state ≡ Ok counties → AreCounties geo segment1 state counties
  are_counties counties is =
      let are = are_made county_of (λ (c : County). c.code) (λ (c : County). c.people) areas.County (λ n p. refl) (λ n p. refl) counties is in
      record { by_code = are.by_code; from_lines = are.from_lines; each_line = are.each_line }

  pub are_blocks : (blocks : List Block) → block_list geo segment1 state ≡ Ok blocks → AreBlocks geo segment1 state blocks
  are_blocks blocks is =
      let are = are_made block_of (λ (b : Block). b.code) (λ (b : Block). b.people) areas.Block (λ n p. refl) (λ n p. refl) blocks is in
      record { by_code = are.by_code; from_lines = are.from_lines; each_line = are.each_line }

-- entries that are listed by ascending codes, as counties
pub counties_listed : (geo segment1 : List ℕ) (state : ℕ) (entries : List (ℕ × ℕ)) (items : List County) → state ≤ 99 → IsStrictlyIncreasing (map (λ e. e.0) entries)
    → area_list areas.County geo segment1 state ≡ Ok entries → items ≡ filter_map (λ (e : ℕ × ℕ). county_in e.0 e.1) entries → county_list geo segment1 state ≡ Ok items
counties_listed geo segment1 state entries items digits rises found is =
    let f = areas_found areas.County geo segment1 state entries found in
    let joined = from_lines areas.County geo segment1 state f.records entries f.records_are f.found_are rises in
    let same : items ≡ map (λ (e : ℕ × ℕ). county_of e.0 e.1) entries = is ∙ counties_kept entries (codes_small (cut geo).lines (cut segment1).lines state entries digits joined) in
    ap (λ (r : Result (List (ℕ × ℕ)) Pl94Fault). result_map_both (λ es. map (λ e. county_of e.0 e.1) es) (λ fault. fault) r) found ∙ ap (λ (cs : List County). Ok cs) (sym same)

-- the codes of counties that are listed so ascend
pub counties_rise : (geo segment1 : List ℕ) (state : ℕ) (entries : List (ℕ × ℕ)) → state ≤ 99 → IsStrictlyIncreasing (map (λ e. e.0) entries)
    → area_list areas.County geo segment1 state ≡ Ok entries → IsStrictlyIncreasing (codes_of (filter_map (λ (e : ℕ × ℕ). county_in e.0 e.1) entries))
counties_rise geo segment1 state entries digits rises found =
    let f = areas_found areas.County geo segment1 state entries found in
    let joined = from_lines areas.County geo segment1 state f.records entries f.records_are f.found_are rises in
    let same : filter_map (λ (e : ℕ × ℕ). county_in e.0 e.1) entries ≡ map (λ (e : ℕ × ℕ). county_of e.0 e.1) entries = counties_kept entries (codes_small (cut geo).lines (cut segment1).lines state entries digits joined) in
    subst (λ (cs : List County). IsStrictlyIncreasing (codes_of cs)) (sym same)
    (subst (λ (ns : List ℕ). IsStrictlyIncreasing ns) (sym (codes_made county_of (λ (c : County). c.code) (λ n p. refl) entries)) rises)
