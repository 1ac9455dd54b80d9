-- The findings of a plan are all that are so.
use Rattle.std.proofs.Common.{◌≡◌, ◌↔◌, ℕ, zero, suc, ◌+◌, ◌-◌, ◌<◌, ◌≤◌, nat_lt, ◌⊎◌, inl, inr, Bool, true, false, List, [], ◌∷◌, ◌++◌, length, map, Contains, Option, Some, refl, sym, ap, ◌∙◌, subst, arith, append_assoc, if◌then◌else◌}
use Rattle.std.specs.List.{All, filter_map}
use Rattle.std.specs.List.Sorted.{IsStrictlyIncreasing, IsStrictlySortedBy}
use Rattle.std.specs.Map.{lookup}
use Rattle.std.specs.Ordering.{nat_cmp, eq_by_cmp, ordering_then}
use Rattle.std.specs.declared.cmp.Ordering.TheVariants.{Less, Equal}
use Rattle.std.specs.Cmp.{eq_by_cmp_equiv}
use Rattle.std.specs.Cmp.Lexicographic.{slice_cmp, nat_list_cmp_total, texts_ties}
use Rattle.std.specs.BTreeMap.{is_at}
use Rattle.std.proofs.lemmas.Bool.Decides.{nat_tests}
use Rattle.std.proofs.lemmas.List.Elements.{All-weaker, All-contains, All-contains_itself, Contains-append_left, Contains-append_right}
use Rattle.std.proofs.lemmas.Map.Views.{Contains-from_lookup, lookup-from_Contains}
use Rattle.std.proofs.lemmas.Map.Keys.{IsDistinct-from_sorted, sorted_from_strictly_increasing}
use Rattle.county_codes.specs.declared.withdrawn.Withdrawn as county
use Rattle.grouping_laws.specs.Problem.{Suits}
use Rattle.grouping_laws.specs.Grouping.{Grouping}
use Rattle.county_problem.specs.ProblemValue.{ProblemValue, problem_of}
use Rattle.pl94_counties.specs.declared.blocks.Block.{Block}
use Rattle.pl94_counties.proofs.TraceLemmas.{contains_head, contains_nil}
use Rattle.baf_auditor.specs.declared.assignments.Assignment.{Assignment}
use Rattle.baf_auditor.specs.Findings.{DrawnSet, Plan, groups_from, withdrawn_from, drawn_sets, EachOnce, HasBlockIn, HasPeople, IsUnknown, IsTwice, IsUnassigned, IsCrossing, IsWrongNumber, IsWrongSize, IsFinding, IsLesserKey, set_key, key_of, AreAll, AreCodesWith, AreFindings, plan_of}
use Rattle.baf_auditor.specs.Listing.{listing}
use Rattle.baf_auditor.specs.Giving.{AreGiven}
use Rattle.baf_auditor.specs.Districts.{GivenBlock, district_people, size_finding, name_at, crossings, districts_at, numbers_from}
use Rattle.baf_auditor.specs.Kinds.{code_finding, AreOfDistricts, IsClean}
use Rattle.baf_auditor.specs.declared.block_findings.CodeKind.TheVariants as kinds
use Rattle.baf_auditor.specs.declared.finding.Set.{Set}
use Rattle.baf_auditor.specs.declared.finding.Set.TheVariants as sets
use Rattle.baf_auditor.specs.declared.finding.Finding.{Finding}
use Rattle.baf_auditor.specs.declared.finding.Finding.TheVariants as findings
use Rattle.baf_auditor.proofs.ListLemmas.{chosen_from, chosen_to, mapped_to}
use Rattle.baf_auditor.proofs.DistrictLemmas.{item_at, label_same, is_listed, people_sum, has_people, people_are, district_of_sum, sum_of_district, stands_from, stands_to, has_districts, districts_are}
use Rattle.baf_auditor.proofs.OrderLemmas.{IsOrdered, ordered_both, codes_kind, codes_ordered, place_before, before_place, place_alone}
use Rattle.baf_auditor.proofs.CrossingLemmas.{Pair, crossings_from, crossings_to, crossings_sorted}
use Rattle.baf_auditor.proofs.NumberLemmas.{item_contains, contains_item, numbers-append, WrongAt, numbers_of, of_numbers, numbers_sorted, size_from, size_to, sizes_sorted}

-- what holds of each item
pub all_of : {X : Type 0} (P : X → Type 0) (xs : List X) → ((x : X) → Contains xs x → P x) → All P xs
all_of P xs h = All-weaker (Contains xs) P h xs (All-contains_itself xs)

-- places below one bound are below a greater one
pub places_below : (groups most : ℕ) (keys places : List (List ℕ × ℕ)) → places ≡ keys → groups + 1000 ≤ most → All (λ k. k.1 < groups + 1000) keys → All (λ k. k.1 < most) places
places_below groups most keys places same bound below =
    subst (λ (l : List (List ℕ × ℕ)). All (λ k. k.1 < most) l) (sym same)
    (All-weaker (λ (k : List ℕ × ℕ). k.1 < groups + 1000) (λ k. k.1 < most) (λ k lt. omega (arith, lt, bound)) keys below)

-- ---- the sets of a plan and their names
groups_long : (gs : Grouping) (n : ℕ) → length (groups_from n gs) ≡ length gs
groups_long [] n = refl
groups_long (g ∷ gs) n = ap suc (groups_long gs (n + 1))

withdrawn_named : (ws : List county.Withdrawn) (n i : ℕ) (d : DrawnSet) → item_at (withdrawn_from n ws) i ≡ Some d → d.name ≡ sets.Withdrawn (n + i)
withdrawn_named [] n i d is = cc
withdrawn_named (w ∷ ws) n zero d is =
    let same : ◌≡◌ {A = DrawnSet} (record { name = sets.Withdrawn n; seats = w.seats; codes = w.codes }) d = cc in
    let e : n ≡ n + zero = omega arith in
    sym (ap (λ (c : DrawnSet). c.name) same) ∙ ap (λ m. sets.Withdrawn m) e
withdrawn_named (w ∷ ws) n (suc i) d is = withdrawn_named ws (n + 1) i d is ∙ (let e : n + 1 + i ≡ n + suc i = omega arith in ap (λ m. sets.Withdrawn m) e)

abbrev NamedAs : ℕ → ℕ → ℕ → DrawnSet → Type 0
NamedAs k groups i d = ((i < groups) × (d.name ≡ sets.Group (k + i))) ⊎ ((j : ℕ) × (i ≡ groups + j) × (d.name ≡ sets.Withdrawn (1 + j)))

groups_named : (gs : Grouping) (ws : List county.Withdrawn) (k i : ℕ) (d : DrawnSet) → item_at (groups_from k gs ++ withdrawn_from 1 ws) i ≡ Some d → NamedAs k (length gs) i d
groups_named [] ws k i d is = let e : i ≡ 0 + i = omega arith in inr (i, e, withdrawn_named ws 1 i d is)
groups_named (g ∷ gs) ws k zero d is =
    let same : ◌≡◌ {A = DrawnSet} (record { name = sets.Group k; seats = g.seats; codes = g.codes }) d = cc in
    let e : k ≡ k + zero = omega arith in
    let in' : zero < suc (length gs) = omega arith in
    inl (in', sym (ap (λ (c : DrawnSet). c.name) same) ∙ ap (λ m. sets.Group m) e)
groups_named (g ∷ gs) ws k (suc i) d is = by (groups_named gs ws (k + 1) i d is)
  where
    by : NamedAs (k + 1) (length gs) i d → NamedAs k (suc (length gs)) (suc i) d
    by (inl h) = let in' : suc i < suc (length gs) = omega (arith, h.0) in let e : k + 1 + i ≡ k + suc i = omega arith in inl (in', h.1 ∙ ap (λ m. sets.Group m) e)
    by (inr h) = let at : suc i ≡ suc (length gs) + h.0 = omega (arith, h.1) in inr (h.0, at, h.2)

pub drawn_named : (gs : Grouping) (ws : List county.Withdrawn) (i : ℕ) (d : DrawnSet) → item_at (groups_from 1 gs ++ withdrawn_from 1 ws) i ≡ Some d → d.name ≡ name_at (length gs) i
drawn_named gs ws i d is = by (groups_named gs ws 1 i d is)
  where
    by : NamedAs 1 (length gs) i d → d.name ≡ name_at (length gs) i
    by (inl h) =
        let test : nat_lt i (length gs) ≡ true = (let below : i < length gs = h.0 in grind (arith, nat_tests, below)) in
        let e : 1 + i ≡ i + 1 = omega arith in
        h.1 ∙ ap (λ m. sets.Group m) e ∙ ap (λ (b : Bool). if b then sets.Group (i + 1) else sets.Withdrawn (i - length gs + 1)) (sym test)
    by (inr h) =
        let at : i ≡ length gs + h.0 = h.1 in
        let test : nat_lt i (length gs) ≡ false = (let from : length gs ≤ i = omega (arith, at) in grind (arith, nat_tests, from)) in
        let e : 1 + h.0 ≡ i - length gs + 1 = omega (arith, at) in
        h.2 ∙ ap (λ m. sets.Withdrawn m) e ∙ ap (λ (b : Bool). if b then sets.Group (i + 1) else sets.Withdrawn (i - length gs + 1)) (sym test)

-- ---- what a loop after a loop adds
pub districts_added : (keys : List (List ℕ × ℕ)) (gs : Grouping) (ws : List county.Withdrawn) (old one two three new cs ss : List Finding)
    → one ≡ old ++ cs → two ≡ one ++ numbers_from keys 0 (groups_from 1 gs) → three ≡ two ++ numbers_from keys (length gs) (withdrawn_from 1 ws) → new ≡ three ++ ss
    → new ≡ old ++ (cs ++ (numbers_from keys 0 (groups_from 1 gs ++ withdrawn_from 1 ws) ++ ss))
districts_added keys gs ws old one two three new cs ss e f g h =
    let n = numbers_from keys 0 (groups_from 1 gs) in
    let m = numbers_from keys (length gs) (withdrawn_from 1 ws) in
    let long : 0 + length (groups_from 1 gs) ≡ length gs = (let l = groups_long gs 1 in omega (arith, l)) in
    let all : numbers_from keys 0 (groups_from 1 gs ++ withdrawn_from 1 ws) ≡ n ++ m = numbers-append keys 0 (groups_from 1 gs) (withdrawn_from 1 ws) ∙ ap (λ (k : ℕ). n ++ numbers_from keys k (withdrawn_from 1 ws)) long in
    h ∙ ap (λ (l : List Finding). l ++ ss) (g ∙ ap (λ (l : List Finding). l ++ m) (f ∙ ap (λ (l : List Finding). l ++ n) e))
    ∙ regroup old cs n m ss ∙ ap (λ (l : List Finding). old ++ (cs ++ (l ++ ss))) (sym all)
  where
    regroup : (o c n m s : List Finding) → (((o ++ c) ++ n) ++ m) ++ s ≡ o ++ (c ++ ((n ++ m) ++ s))
    regroup o c n m s =
        ap (λ (l : List Finding). l ++ s) (append_assoc (o ++ c) n m) ∙ append_assoc (o ++ c) (n ++ m) s ∙ append_assoc o c ((n ++ m) ++ s)

pub kinds_added : (a b c d e u t n : List Finding) → a ≡ [] ++ u → b ≡ a ++ t → c ≡ b ++ n → e ≡ c ++ d → e ≡ u ++ (t ++ (n ++ d))
kinds_added a b c d e u t n f g h i =
    i ∙ ap (λ (l : List Finding). l ++ d) (h ∙ ap (λ (l : List Finding). l ++ n) (g ∙ ap (λ (l : List Finding). l ++ t) f))
    ∙ ap (λ (l : List Finding). l ++ d) (append_assoc u t n) ∙ append_assoc u (t ++ n) d ∙ ap (λ (l : List Finding). u ++ l) (append_assoc t n d)

-- ---- sums by label
pub label_tied : (x y : List ℕ) → eq_by_cmp (slice_cmp nat_cmp) x y ≡ true → x ≡ y
label_tied x y tied = label_same x y (texts_ties x y ∙ tied)

-- the listed blocks are those of the problem, and what lines give to labels is given
pub record GivenBy (problem : ProblemValue) (gs : Grouping) (blocks : List Block) (lines : List Assignment) (listed : ℕ → Option ℕ) (given : List GivenBlock) : Type 0 where
  pub blocks_sorted : IsStrictlySortedBy nat_cmp (map (λ b. b.code) blocks)
  pub listing_is : (code : ℕ) → listed code ≡ listing (drawn_sets problem gs) blocks code
  pub given_are : AreGiven listed lines given

pub given_by : (problem : ProblemValue) (gs : Grouping) (blocks : List Block) (lines : List Assignment) (listed : ℕ → Option ℕ) (given : List GivenBlock) → IsStrictlyIncreasing (map (λ b. b.code) blocks)
    → ((code : ℕ) → listed code ≡ listing (drawn_sets problem gs) blocks code) → AreGiven listed lines given → GivenBy problem gs blocks lines listed given
given_by problem gs blocks lines listed given ascending listing_is given_are = record {
  blocks_sorted = sorted_from_strictly_increasing (map (λ b. b.code) blocks) ascending;
  listing_is = listing_is;
  given_are = given_are;
}

-- ---- all findings of a plan
module _ (problem : ProblemValue) (gs : Grouping) (blocks : List Block) (lines : List Assignment)
    (listed : ℕ → Option ℕ) (given : List GivenBlock) (by : GivenBy problem gs blocks lines listed given) where
  abbrev plan : Plan
  plan = record { drawn = drawn_sets problem gs; blocks = blocks; lines = lines }

  -- the codes of listed blocks
  pub given_fit : All (λ b. b.code < 1000000000000000) blocks → All (λ e. e.0.1 < 1000000000000000) given
  given_fit fits = all_of (λ (e : GivenBlock). e.0.1 < 1000000000000000) given (λ e h.
      let b = is_listed plan by.blocks_sorted listed by.listing_is given by.given_are e h in
      let small : b.0.code < 1000000000000000 = All-contains (λ (x : Block). x.code < 1000000000000000) blocks b.0 fits b.1.1.0 in
      subst (λ (c : ℕ). c < 1000000000000000) b.2 small)

  module _ (list : List Finding) (ds : AreOfDistricts (problem_of problem) (drawn_sets problem gs) (length gs) given list) where
    abbrev keys : List (List ℕ × ℕ)
    keys = map (λ (e : (List ℕ × ℕ) × Unit {0}). e.0) ds.found

    abbrev sizes : List Finding
    sizes = filter_map (size_finding ds.bounds.0 ds.bounds.1) ds.sums

    names : (i : ℕ) (d : DrawnSet) → item_at (drawn_sets problem gs) i ≡ Some d → d.name ≡ name_at (length gs) i
    names i d is = drawn_named gs problem.withdrawn i d is

    alone : (i j : ℕ) (d : DrawnSet) → item_at (drawn_sets problem gs) i ≡ Some d → item_at (drawn_sets problem gs) j ≡ Some d → i ≡ j
    alone i j d one other = place_alone (length gs) i j (sym (names i d one) ∙ names j d other)

    -- ---- districts in two sets
    crossing_so : (f : Finding) → Pair (length gs) keys f → IsFinding problem plan f
    crossing_so f p =
        let k = p.0 in
        let l = p.1 in
        let one = stands_from plan by.blocks_sorted listed by.listing_is given by.given_are ds.found ds.found_sorted ds.standing_is k.0 k.1 p.2 in
        let other = stands_from plan by.blocks_sorted listed by.listing_is given by.given_are ds.found ds.found_sorted ds.standing_is l.0 l.1 p.3 in
        let is : IsCrossing plan k.0 (name_at (length gs) k.1) (name_at (length gs) l.1) = record {
          one = one.0;
          other = other.0;
          one_is = names k.1 one.0 one.1;
          other_is = names l.1 other.0 other.1;
          before = place_before (length gs) k.1 l.1 p.5;
          in_one = one.3;
          in_other = subst (λ (label : List ℕ). HasBlockIn plan label other.0) p.4 other.3;
        } in
        subst (λ (g : Finding). IsFinding problem plan g) p.6 is

    crossing_there : (label : List ℕ) (s t : Set) → IsCrossing plan label s t → Contains (crossings (length gs) keys) (findings.Crosses label s t)
    crossing_there label s t is =
        let a = stands_to plan by.blocks_sorted listed by.listing_is given by.given_are ds.found ds.found_sorted ds.standing_is label is.one is.in_one in
        let b = stands_to plan by.blocks_sorted listed by.listing_is given by.given_are ds.found ds.found_sorted ds.standing_is label is.other is.in_other in
        let first : name_at (length gs) a.0 ≡ s = sym (names a.0 is.one a.1) ∙ is.one_is in
        let second : name_at (length gs) b.0 ≡ t = sym (names b.0 is.other b.1) ∙ is.other_is in
        let lesser : IsLesserKey (set_key (name_at (length gs) a.0)) (set_key (name_at (length gs) b.0)) =
        subst (λ (x : Set). IsLesserKey (set_key x) (set_key (name_at (length gs) b.0))) (sym first) (subst (λ (x : Set). IsLesserKey (set_key s) (set_key x)) (sym second) is.before) in
        let pair = crossings_to (length gs) keys (label, a.0) (label, b.0) ds.found_sorted a.2 b.2 refl (before_place (length gs) a.0 b.0 lesser) in
        subst (λ (x : Set). Contains (crossings (length gs) keys) (findings.Crosses label s x)) second
        (subst (λ (x : Set). Contains (crossings (length gs) keys) (findings.Crosses label x (name_at (length gs) b.0))) first pair)

    crossing_kind : (f : Finding) → Contains (crossings (length gs) keys) f → (key_of f).0 ≡ 5
    crossing_kind f h = let p = crossings_from (length gs) keys f ds.found_sorted h in sym (ap (λ (g : Finding). (key_of g).0) p.6)

    -- ---- numbers of districts
    number_so : (f : Finding) → WrongAt keys 0 (drawn_sets problem gs) f → IsFinding problem plan f
    number_so f w =
        let at : 0 + w.0 ≡ w.0 = omega arith in
        let is : IsWrongNumber plan w.1.name w.1.seats (districts_at (0 + w.0) keys) = record {
          set = w.1;
          stands = item_contains (drawn_sets problem gs) w.0 w.1 w.2;
          name_is = refl;
          seats_are = refl;
          counted = subst (λ (i : ℕ). (labels : List (List ℕ)) × EachOnce (λ (label : List ℕ). HasBlockIn plan label w.1) labels × (length labels ≡ districts_at i keys)) (sym at)
              (has_districts plan by.blocks_sorted listed by.listing_is given by.given_are ds.found ds.found_sorted ds.standing_is alone w.1 w.0 w.2);
          wrong = w.3;
        } in
        subst (λ (g : Finding). IsFinding problem plan g) w.4 is

    number_there : (name : Set) (seats districts : ℕ) → IsWrongNumber plan name seats districts → Contains (numbers_from keys 0 (drawn_sets problem gs)) (findings.WrongNumber name seats districts)
    number_there name seats districts is =
        let p = contains_item (drawn_sets problem gs) is.set is.stands in
        let at : p.0 ≡ 0 + p.0 = omega arith in
        let count : districts ≡ districts_at (0 + p.0) keys =
        districts_are plan by.blocks_sorted listed by.listing_is given by.given_are ds.found ds.found_sorted ds.standing_is alone is.set p.0 districts p.1 is.counted ∙ ap (λ (i : ℕ). districts_at i keys) at in
        let there = of_numbers keys 0 (drawn_sets problem gs) p.0 is.set p.1 (λ (e : districts_at (0 + p.0) keys ≡ is.set.seats). is.wrong (count ∙ e ∙ is.seats_are)) in
        subst (λ (n : ℕ). Contains (numbers_from keys 0 (drawn_sets problem gs)) (findings.WrongNumber name seats n)) (sym count)
        (subst (λ (n : ℕ). Contains (numbers_from keys 0 (drawn_sets problem gs)) (findings.WrongNumber name n (districts_at (0 + p.0) keys))) is.seats_are
        (subst (λ (x : Set). Contains (numbers_from keys 0 (drawn_sets problem gs)) (findings.WrongNumber x is.set.seats (districts_at (0 + p.0) keys))) is.name_is there))

    number_kind : (f : Finding) → Contains (numbers_from keys 0 (drawn_sets problem gs)) f → (key_of f).0 ≡ 6
    number_kind f h = let w = numbers_of keys 0 (drawn_sets problem gs) f h in sym (ap (λ (g : Finding). (key_of g).0) w.4)

    -- ---- people of districts
    size_so : (f : Finding) → Contains sizes f → IsFinding problem plan f
    size_so f h =
        let e = chosen_from (size_finding ds.bounds.0 ds.bounds.1) ds.sums f h in
        let s = size_from ds.bounds.0 ds.bounds.1 e.0 f e.2 in
        let entry : lookup (is_at (slice_cmp nat_cmp e.0.0)) ds.sums ≡ Some e.0.1 =
        lookup-from_Contains (eq_by_cmp_equiv nat_list_cmp_total) e.0.0 e.0.1 ds.sums (IsDistinct-from_sorted (slice_cmp nat_cmp) (map (λ (x : List ℕ × ℕ). x.0) ds.sums) ds.sums_sorted) e.1 in
        let d = district_of_sum plan by.blocks_sorted listed by.listing_is given by.given_are e.0.0 e.0.1 (sym (ds.sums_are e.0.0) ∙ entry) in
        let is : IsWrongSize problem plan e.0.0 e.0.1 = record {
          district = d.0;
          counted = subst (λ (n : ℕ). HasPeople plan e.0.0 n) (sym d.1) (has_people plan by.blocks_sorted listed by.listing_is given by.given_are e.0.0);
          wrong = λ (suits : Suits (problem_of problem) e.0.1 1). s.0 ((ds.law e.0.1).0 suits);
        } in
        subst (λ (g : Finding). IsFinding problem plan g) s.1 is

    size_there : (label : List ℕ) (people : ℕ) → IsWrongSize problem plan label people → Contains sizes (findings.DistrictSize label people)
    size_there label people is =
        let sum : people ≡ people_sum plan by.blocks_sorted listed by.listing_is given by.given_are label = people_are plan by.blocks_sorted listed by.listing_is given by.given_are label people is.counted in
        let known : district_people given label ≡ Some people = sum_of_district plan by.blocks_sorted listed by.listing_is given by.given_are label is.district ∙ ap (λ (n : ℕ). Some n) (sym sum) in
        let entry : Contains ds.sums (label, people) = Contains-from_lookup {eq = eq_by_cmp (slice_cmp nat_cmp)} label_tied label people ds.sums (ds.sums_are label ∙ known) in
        chosen_to (size_finding ds.bounds.0 ds.bounds.1) ds.sums (label, people) (findings.DistrictSize label people) entry
        (size_to ds.bounds.0 ds.bounds.1 label people (λ within. is.wrong ((ds.law people).1 within)))

    size_kind : (f : Finding) → Contains sizes f → (key_of f).0 ≡ 7
    size_kind f h =
        let e = chosen_from (size_finding ds.bounds.0 ds.bounds.1) ds.sums f h in
        let s = size_from ds.bounds.0 ds.bounds.1 e.0 f e.2 in
        sym (ap (λ (g : Finding). (key_of g).0) s.1)

    -- ---- kind after kind
    districts_ordered : IsOrdered (IsFinding problem plan) 5 list
    districts_ordered = subst (λ (l : List Finding). IsOrdered (IsFinding problem plan) 5 l) (sym ds.list_is)
        (ordered_both (IsFinding problem plan) 5 (crossings (length gs) keys) (numbers_from keys 0 (drawn_sets problem gs) ++ sizes)
        (record {
          in_order = crossings_sorted (length gs) keys ds.found_sorted;
          is_so = λ f h. crossing_so f (crossings_from (length gs) keys f ds.found_sorted h);
          from_kind = λ f h. (let e = crossing_kind f h in omega (arith, e));
        })
        crossing_kind
        (ordered_both (IsFinding problem plan) 6 (numbers_from keys 0 (drawn_sets problem gs)) sizes
        (record {
          in_order = numbers_sorted keys (length gs) 0 (drawn_sets problem gs) (λ i d is. names i d is ∙ (let e : i ≡ 0 + i = omega arith in ap (λ m. name_at (length gs) m) e));
          is_so = λ f h. number_so f (numbers_of keys 0 (drawn_sets problem gs) f h);
          from_kind = λ f h. (let e = number_kind f h in omega (arith, e));
        })
        number_kind
        (record {
          in_order = sizes_sorted ds.bounds.0 ds.bounds.1 ds.sums ds.sums_sorted;
          is_so = size_so;
          from_kind = λ f h. (let e = size_kind f h in omega (arith, e));
        })))

    module _ (unknown twice unassigned : List ℕ) (unknown_are : AreCodesWith (IsUnknown plan) unknown) (twice_are : AreCodesWith (IsTwice plan) twice) (unassigned_are : AreCodesWith (IsUnassigned plan) unassigned) where
      abbrev us : List Finding
      us = map (code_finding kinds.Unknown) unknown

      abbrev ts : List Finding
      ts = map (code_finding kinds.Twice) twice

      abbrev ns : List Finding
      ns = map (code_finding kinds.Unassigned) unassigned

      one_kept : (n : ℕ) (c d : ℕ) → nat_cmp c d ≡ Less → ordering_then (nat_cmp c d) Equal ≡ Less
      one_kept n c d less = ap (λ r. ordering_then r Equal) less

      all_ordered : IsOrdered (IsFinding problem plan) 2 (us ++ (ts ++ (ns ++ list)))
      all_ordered =
          ordered_both (IsFinding problem plan) 2 us (ts ++ (ns ++ list))
          (codes_ordered (IsFinding problem plan) (IsUnknown plan) 2 (code_finding kinds.Unknown) (λ code. refl) (λ c d less. one_kept 2 c d less) (λ code is. is) unknown unknown_are)
          (codes_kind (IsFinding problem plan) (IsUnknown plan) 2 (code_finding kinds.Unknown) (λ code. refl) (λ c d less. one_kept 2 c d less) (λ code is. is) unknown)
          (ordered_both (IsFinding problem plan) 3 ts (ns ++ list)
          (codes_ordered (IsFinding problem plan) (IsTwice plan) 3 (code_finding kinds.Twice) (λ code. refl) (λ c d less. one_kept 3 c d less) (λ code is. is) twice twice_are)
          (codes_kind (IsFinding problem plan) (IsTwice plan) 3 (code_finding kinds.Twice) (λ code. refl) (λ c d less. one_kept 3 c d less) (λ code is. is) twice)
          (ordered_both (IsFinding problem plan) 4 ns list
          (codes_ordered (IsFinding problem plan) (IsUnassigned plan) 4 (code_finding kinds.Unassigned) (λ code. refl) (λ c d less. one_kept 4 c d less) (λ code is. is) unassigned unassigned_are)
          (codes_kind (IsFinding problem plan) (IsUnassigned plan) 4 (code_finding kinds.Unassigned) (λ code. refl) (λ c d less. one_kept 4 c d less) (λ code is. is) unassigned)
          districts_ordered))

      in_list : (f : Finding) → Contains list f → Contains (us ++ (ts ++ (ns ++ list))) f
      in_list f h = Contains-append_right us (ts ++ (ns ++ list)) f (Contains-append_right ts (ns ++ list) f (Contains-append_right ns list f h))

      in_districts : (f : Finding) → Contains (crossings (length gs) keys ++ (numbers_from keys 0 (drawn_sets problem gs) ++ sizes)) f → Contains list f
      in_districts f h = subst (λ (l : List Finding). Contains l f) (sym ds.list_is) h

      all_there : (f : Finding) → IsFinding problem plan f → Contains (us ++ (ts ++ (ns ++ list))) f
      all_there (findings.Grouping fault) is = absurd is
      all_there (findings.UnknownBlock code) is = Contains-append_left us (ts ++ (ns ++ list)) (findings.UnknownBlock code) (mapped_to (code_finding kinds.Unknown) unknown code ((unknown_are.are code).1 is))
      all_there (findings.BlockTwice code) is =
          Contains-append_right us (ts ++ (ns ++ list)) (findings.BlockTwice code) (Contains-append_left ts (ns ++ list) (findings.BlockTwice code) (mapped_to (code_finding kinds.Twice) twice code ((twice_are.are code).1 is)))
      all_there (findings.Unassigned code) is =
          Contains-append_right us (ts ++ (ns ++ list)) (findings.Unassigned code)
          (Contains-append_right ts (ns ++ list) (findings.Unassigned code) (Contains-append_left ns list (findings.Unassigned code) (mapped_to (code_finding kinds.Unassigned) unassigned code ((unassigned_are.are code).1 is))))
      all_there (findings.Crosses label s t) is =
          in_list (findings.Crosses label s t) (in_districts (findings.Crosses label s t)
          (Contains-append_left (crossings (length gs) keys) (numbers_from keys 0 (drawn_sets problem gs) ++ sizes) (findings.Crosses label s t) (crossing_there label s t is)))
      all_there (findings.WrongNumber name seats districts) is =
          in_list (findings.WrongNumber name seats districts) (in_districts (findings.WrongNumber name seats districts)
          (Contains-append_right (crossings (length gs) keys) (numbers_from keys 0 (drawn_sets problem gs) ++ sizes) (findings.WrongNumber name seats districts)
          (Contains-append_left (numbers_from keys 0 (drawn_sets problem gs)) sizes (findings.WrongNumber name seats districts) (number_there name seats districts is))))
      all_there (findings.DistrictSize label people) is =
          in_list (findings.DistrictSize label people) (in_districts (findings.DistrictSize label people)
          (Contains-append_right (crossings (length gs) keys) (numbers_from keys 0 (drawn_sets problem gs) ++ sizes) (findings.DistrictSize label people)
          (Contains-append_right (numbers_from keys 0 (drawn_sets problem gs)) sizes (findings.DistrictSize label people) (size_there label people is))))

      -- the list has each finding that is so, and no other
      pub are_all : AreAll (IsFinding problem plan) (us ++ (ts ++ (ns ++ list)))
      are_all = record {
        in_order = all_ordered.in_order;
        are = λ f. (all_ordered.is_so f, all_there f);
      }

-- ---- no findings
pub none_found : (problem : ProblemValue) (gs : Grouping) (blocks : List Block) (lines : List Assignment) (list : List Finding) → AreFindings problem gs blocks lines list
    → (list ≡ []) ↔ IsClean problem gs (plan_of problem gs blocks lines)
none_found problem gs blocks lines list (inl g) = (
  λ none. absurd (let e : findings.Grouping g.fault ∷ [] ≡ [] = sym g.only ∙ none in cc),
  λ clean. absurd (g.unlawful clean.0),
)
none_found problem gs blocks lines list (inr p) = (
  λ none. (p.lawful, (λ f is. contains_nil f (subst (λ (l : List Finding). Contains l f) none ((p.all.are f).1 is)))),
  λ clean. empty list (λ f h. clean.1 f ((p.all.are f).0 h)),
)
  where
    empty : (l : List Finding) → ((f : Finding) → Contains l f → ⊥) → l ≡ []
    empty [] none = refl
    empty (f ∷ fs) none = absurd (none f (contains_head f fs))
