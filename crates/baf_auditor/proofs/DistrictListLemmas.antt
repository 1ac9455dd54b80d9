-- The districts of a plan are those that the lists of their people, sets and counties have.
use Rattle.std.proofs.Common.{◌≡◌, ℕ, ◌<◌, ◌⊎◌, inl, inr, ◌==◌, Bool, true, false, List, [], ◌∷◌, length, map, Contains, Option, Some, None, refl, sym, ap, ◌∙◌, subst, if◌then◌else◌}
use Rattle.std.specs.List.{filter_map}
use Rattle.std.specs.List.Sorted.{IsStrictlySortedBy}
use Rattle.std.specs.Map.{lookup}
use Rattle.std.specs.Ordering.{nat_cmp, eq_by_cmp, is_eq}
use Rattle.std.specs.declared.cmp.Ordering.{Ordering}
use Rattle.std.specs.declared.cmp.Ordering.TheVariants.{Less, Equal}
use Rattle.std.specs.Cmp.{eq_by_cmp_equiv, tied_itself}
use Rattle.std.specs.Cmp.Lexicographic.{slice_cmp, nat_list_cmp_total}
use Rattle.std.specs.BTreeMap.{is_at}
use Rattle.std.specs.BTreeSet.{BTreeSet, contains}
use Rattle.std.specs.Str.{bytes_eq}
use Rattle.std.proofs.lemmas.List.Elements.{All-contains}
use Rattle.std.proofs.lemmas.Map.Views.{Contains-from_lookup, lookup-from_Contains}
use Rattle.std.proofs.lemmas.Map.Keys.{IsDistinct-from_sorted}
use Rattle.grouping_laws.specs.Grouping.{Grouping}
use Rattle.county_problem.specs.ProblemValue.{ProblemValue}
use Rattle.pl94_counties.specs.declared.blocks.Block.{Block}
use Rattle.baf_auditor.specs.declared.assignments.Assignment.{Assignment}
use Rattle.baf_auditor.specs.Findings.{Plan, drawn_sets, county_of_block, IsGivenTo, HasBlockIn, IsDistrict, HasPeople, AreCodesWith}
use Rattle.baf_auditor.specs.Giving.{by_label}
use Rattle.baf_auditor.specs.Districts.{GivenBlock, district_people, standing, name_at, shows_county, has_county, of_label, IsListedBy, AreListedBy}
use Rattle.baf_auditor.specs.DistrictList.{HasBlockInNamed, HasBlockInCounty, by_set, AreItsSets, IsDistrictOf, AreDistricts}
use Rattle.baf_auditor.specs.declared.finding.Set.{Set}
use Rattle.baf_auditor.specs.declared.district.District.{District}
use Rattle.baf_auditor.proofs.ListLemmas.{chosen_from, chosen_to, chosen_sorted, any_from, any_to, mapped_from, mapped_to}
use Rattle.baf_auditor.proofs.KindLemmas.{both, same_number, number_same}
use Rattle.baf_auditor.proofs.DistrictLemmas.{label_same, same_label, both_true, by_label_total, key_same, is_listed, given_from, given_to, people_sum, has_people, district_of_sum, sum_of_district, stands_from, stands_to}
use Rattle.baf_auditor.proofs.OrderLemmas.{label_less, less_number, place_before}
use Rattle.baf_auditor.proofs.AuditLemmas.{GivenBy, all_of, drawn_named, label_tied}

-- ---- what the numbers of a label give
module _ {Y : Type 0} (f : ℕ → Y) (label : List ℕ) where
  pub label_from : (k : List ℕ × ℕ) (y : Y) → of_label f label k ≡ Some y → (k.0 ≡ label) × (f k.1 ≡ y)
  label_from k y is = by (bytes_eq k.0 label) refl is
    where
      by : (b : Bool) → bytes_eq k.0 label ≡ b → (if b then Some (f k.1) else None) ≡ Some y → (k.0 ≡ label) × (f k.1 ≡ y)
      by true t there = (label_same k.0 label t, cc)
      by false t there = absurd cc

  pub label_to : (n : ℕ) → of_label f label (label, n) ≡ Some (f n)
  label_to n = ap (λ (b : Bool). if b then Some (f n) else None) (same_label label label refl)

  rises : (x z : List ℕ × ℕ) → x.0 ≡ z.0 → (slice_cmp nat_cmp x.0 z.0 ≡ Less) ⊎ ((x.0 ≡ z.0) × (x.1 < z.1)) → x.1 < z.1
  rises x z same (inr e) = e.1
  rises x z same (inl less) =
      let round : slice_cmp nat_cmp x.0 x.0 ≡ Less = subst (λ (l : List ℕ). slice_cmp nat_cmp x.0 l ≡ Less) (sym same) less in
      let itself : slice_cmp nat_cmp x.0 x.0 ≡ Equal = tied_itself nat_list_cmp_total x.0 in
      absurd cc

  -- they rise if the function does
  pub label_sorted : (d : Y → Y → Ordering) → ((i j : ℕ) → i < j → d (f i) (f j) ≡ Less) → (ks : List (List ℕ × ℕ)) → IsStrictlySortedBy by_label ks → IsStrictlySortedBy d (filter_map (of_label f label) ks)
  label_sorted d less ks sorted = chosen_sorted (of_label f label) by_label d kept ks sorted
    where
      kept : (x z : List ℕ × ℕ) (y w : Y) → by_label x z ≡ Less → of_label f label x ≡ Some y → of_label f label z ≡ Some w → d y w ≡ Less
      kept x z y w before one other =
          let a = label_from x y one in
          let b = label_from z w other in
          let number : x.1 < z.1 = rises x z (a.0 ∙ sym b.0) (label_less x z before) in
          subst (λ (v : Y). d v w ≡ Less) a.1 (subst (λ (v : Y). d (f x.1) v ≡ Less) b.1 (less x.1 z.1 number))

-- ---- the keys of a set
pub key_from : (s : BTreeSet (List ℕ × ℕ)) (key : List ℕ × ℕ) → contains by_label s key ≡ true → Contains s.keys key
key_from s key is =
    let l = any_from (is_at (by_label key)) s.keys is in
    subst (λ (k : List ℕ × ℕ). Contains s.keys k) (sym (key_same key l.0 l.2)) l.1

pub key_to : (s : BTreeSet (List ℕ × ℕ)) (key : List ℕ × ℕ) → Contains s.keys key → contains by_label s key ≡ true
key_to s key h = any_to (is_at (by_label key)) s.keys key h (ap is_eq (tied_itself by_label_total key))

-- ---- the districts of a plan
module _ (problem : ProblemValue) (gs : Grouping) (blocks : List Block) (lines : List Assignment)
    (listed : ℕ → Option ℕ) (given : List GivenBlock) (by : GivenBy problem gs blocks lines listed given) where
  abbrev plan : Plan
  plan = record { drawn = drawn_sets problem gs; blocks = blocks; lines = lines }

  -- ---- the sets of a district
  module _ (found : List ((List ℕ × ℕ) × Unit {0})) (found_sorted : IsStrictlySortedBy by_label (map (λ e. e.0) found))
      (standing_is : (key : List ℕ × ℕ) → lookup (is_at (by_label key)) found ≡ standing (drawn_sets problem gs) (map (λ e. e.0) given) key) where
    abbrev places : List (List ℕ × ℕ)
    places = map (λ (e : (List ℕ × ℕ) × Unit {0}). e.0) found

    abbrev sets_of : List ℕ → List Set
    sets_of label = filter_map (of_label (name_at (length gs)) label) places

    set_from : (label : List ℕ) (name : Set) → Contains (sets_of label) name → HasBlockInNamed plan label name
    set_from label name h =
        let l = chosen_from (of_label (name_at (length gs)) label) places name h in
        let own = label_from (name_at (length gs)) label l.0 name l.2 in
        let s = stands_from plan by.blocks_sorted listed by.listing_is given by.given_are found found_sorted standing_is l.0.0 l.0.1 l.1 in
        record {
          set = s.0;
          name_is = drawn_named gs problem.withdrawn l.0.1 s.0 s.1 ∙ own.1;
          has = subst (λ (t : List ℕ). HasBlockIn plan t s.0) own.0 s.3;
        }

    set_to : (label : List ℕ) (name : Set) → HasBlockInNamed plan label name → Contains (sets_of label) name
    set_to label name is =
        let p = stands_to plan by.blocks_sorted listed by.listing_is given by.given_are found found_sorted standing_is label is.set is.has in
        let named : name_at (length gs) p.0 ≡ name = sym (drawn_named gs problem.withdrawn p.0 is.set p.1) ∙ is.name_is in
        chosen_to (of_label (name_at (length gs)) label) places (label, p.0) name p.2 (label_to (name_at (length gs)) label p.0 ∙ ap (λ (s : Set). Some s) named)

    pub are_its_sets : (label : List ℕ) → AreItsSets plan label (sets_of label)
    are_its_sets label = record {
      in_order = label_sorted (name_at (length gs)) label by_set (λ i j lt. place_before (length gs) i j lt) places found_sorted;
      are = λ name. (set_from label name, set_to label name);
    }

  -- ---- the counties of a district
  module _ (counties : BTreeSet (List ℕ × ℕ)) (counties_sorted : IsStrictlySortedBy by_label counties.keys)
      (counties_are : (key : List ℕ × ℕ) → contains by_label counties key ≡ has_county (map (λ e. e.0) given) key) where
    abbrev counties_of : List ℕ → List ℕ
    counties_of label = filter_map (of_label (λ (county : ℕ). county) label) counties.keys

    shown_from : (label : List ℕ) (county : ℕ) → Contains counties.keys (label, county) → HasBlockInCounty plan label county
    shown_from label county h =
        let shown = any_from (shows_county (label, county)) (map (λ (e : GivenBlock). e.0) given) (sym (counties_are (label, county)) ∙ key_to counties (label, county) h) in
        let own = shown.0 in
        let parts = both (bytes_eq own.0 label) (county_of_block own.1 == county) shown.2 in
        let e = mapped_from (λ (e : GivenBlock). e.0) given own shown.1 in
        let block = is_listed plan by.blocks_sorted listed by.listing_is given by.given_are e.0 e.1 in
        let line : IsGivenTo plan e.0.0.1 e.0.0.0 = (given_from plan by.blocks_sorted listed by.listing_is given by.given_are e.0.0.0 e.0.0.1 e.0.1 e.1).0 in
        let same : e.0.0.0 ≡ label = ap (λ (k : List ℕ × ℕ). k.0) e.2 ∙ label_same own.0 label parts.0 in
        let code : block.0.code ≡ own.1 = block.2 ∙ ap (λ (k : List ℕ × ℕ). k.1) e.2 in
        record {
          block = block.0;
          listed = block.1;
          given = subst (λ (c : ℕ). IsGivenTo plan c label) (sym block.2) (subst (λ (l : List ℕ). IsGivenTo plan e.0.0.1 l) same line);
          county_is = ap county_of_block code ∙ same_number (county_of_block own.1) county parts.1;
        }

    shown_to : (label : List ℕ) (county : ℕ) → HasBlockInCounty plan label county → Contains counties.keys (label, county)
    shown_to label county is =
        let code = is.block.code in
        let entry = given_to plan by.blocks_sorted listed by.listing_is given by.given_are is.block label is.listed is.given in
        let shown : shows_county (label, county) (label, code) ≡ true = both_true (bytes_eq label label) (county_of_block code == county) (same_label label label refl) (number_same (county_of_block code) county is.county_is) in
        key_from counties (label, county) (counties_are (label, county) ∙ any_to (shows_county (label, county)) (map (λ (e : GivenBlock). e.0) given) (label, code) (mapped_to (λ (e : GivenBlock). e.0) given ((label, code), is.block.people) entry) shown)

    county_from : (label : List ℕ) (county : ℕ) → Contains (counties_of label) county → HasBlockInCounty plan label county
    county_from label county h =
        let l = chosen_from (of_label (λ (n : ℕ). n) label) counties.keys county h in
        let own = label_from (λ (n : ℕ). n) label l.0 county l.2 in
        let key : l.0 ≡ (label, county) = ap (λ (t : List ℕ). (t, l.0.1)) own.0 ∙ ap (λ (n : ℕ). (label, n)) own.1 in
        shown_from label county (subst (λ (k : List ℕ × ℕ). Contains counties.keys k) key l.1)

    county_to : (label : List ℕ) (county : ℕ) → HasBlockInCounty plan label county → Contains (counties_of label) county
    county_to label county is = chosen_to (of_label (λ (n : ℕ). n) label) counties.keys (label, county) county (shown_to label county is) (label_to (λ (n : ℕ). n) label county)

    pub are_its_counties : (label : List ℕ) → AreCodesWith (HasBlockInCounty plan label) (counties_of label)
    are_its_counties label = record {
      ascending = label_sorted (λ (n : ℕ). n) label nat_cmp (λ i j lt. less_number i j lt) counties.keys counties_sorted;
      are = λ county. (county_from label county, county_to label county);
    }

  -- ---- all districts
  module _ (found : List ((List ℕ × ℕ) × Unit {0})) (found_sorted : IsStrictlySortedBy by_label (map (λ e. e.0) found))
      (standing_is : (key : List ℕ × ℕ) → lookup (is_at (by_label key)) found ≡ standing (drawn_sets problem gs) (map (λ e. e.0) given) key)
      (counties : BTreeSet (List ℕ × ℕ)) (counties_sorted : IsStrictlySortedBy by_label counties.keys)
      (counties_are : (key : List ℕ × ℕ) → contains by_label counties key ≡ has_county (map (λ e. e.0) given) key)
      (sums : List (List ℕ × ℕ)) (sums_sorted : IsStrictlySortedBy (slice_cmp nat_cmp) (map (λ e. e.0) sums))
      (sums_are : (label : List ℕ) → lookup (is_at (slice_cmp nat_cmp label)) sums ≡ district_people given label)
      (list : List District) (list_is : AreListedBy (length gs) (map (λ e. e.0) found) counties.keys sums list) where
    is_district : (d : District) → Contains list d → IsDistrictOf plan d
    is_district d h =
        let entry : Contains sums (d.label, d.people) = subst (λ (es : List (List ℕ × ℕ)). Contains es (d.label, d.people)) list_is.people (mapped_to (λ (e : District). (e.label, e.people)) list d h) in
        let known : lookup (is_at (slice_cmp nat_cmp d.label)) sums ≡ Some d.people =
        lookup-from_Contains (eq_by_cmp_equiv nat_list_cmp_total) d.label d.people sums (IsDistinct-from_sorted (slice_cmp nat_cmp) (map (λ (e : List ℕ × ℕ). e.0) sums) sums_sorted) entry in
        let own = district_of_sum plan by.blocks_sorted listed by.listing_is given by.given_are d.label d.people (sym (sums_are d.label) ∙ known) in
        let is : IsListedBy (length gs) (map (λ (e : (List ℕ × ℕ) × Unit {0}). e.0) found) counties.keys d = All-contains (IsListedBy (length gs) (map (λ (e : (List ℕ × ℕ) × Unit {0}). e.0) found) counties.keys) list d list_is.each h in
        record {
          district = own.0;
          people = subst (λ (n : ℕ). HasPeople plan d.label n) (sym own.1) (has_people plan by.blocks_sorted listed by.listing_is given by.given_are d.label);
          sets = subst (λ (l : List Set). AreItsSets plan d.label l) (sym is.sets) (are_its_sets found found_sorted standing_is d.label);
          counties = subst (λ (l : List ℕ). AreCodesWith (HasBlockInCounty plan d.label) l) (sym is.counties_are) (are_its_counties counties counties_sorted counties_are d.label);
        }

    labels : map (λ (e : List ℕ × ℕ). e.0) sums ≡ map (λ (d : District). d.label) list
    labels = ap (λ (es : List (List ℕ × ℕ)). map (λ (e : List ℕ × ℕ). e.0) es) (sym list_is.people) ∙ first list
      where
        first : (ds : List District) → map (λ (e : List ℕ × ℕ). e.0) (map (λ (d : District). (d.label, d.people)) ds) ≡ map (λ (d : District). d.label) ds
        first [] = refl
        first (d ∷ ds) = ap (λ (ls : List (List ℕ)). d.label ∷ ls) (first ds)

    every : (label : List ℕ) → IsDistrict plan label → Contains (map (λ (d : District). d.label) list) label
    every label is =
        let known = sums_are label ∙ sum_of_district plan by.blocks_sorted listed by.listing_is given by.given_are label is in
        let people = people_sum plan by.blocks_sorted listed by.listing_is given by.given_are label in
        let entry : Contains sums (label, people) = Contains-from_lookup {eq = eq_by_cmp (slice_cmp nat_cmp)} label_tied label people sums known in
        subst (λ (ls : List (List ℕ)). Contains ls label) labels (mapped_to (λ (e : List ℕ × ℕ). e.0) sums (label, people) entry)

    pub are_districts : AreDistricts plan list
    are_districts = record {
      in_order = subst (λ (ls : List (List ℕ)). IsStrictlySortedBy (slice_cmp nat_cmp) ls) labels sums_sorted;
      so = all_of (IsDistrictOf plan) list is_district;
      every = every;
    }
