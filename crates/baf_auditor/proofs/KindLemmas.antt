-- What is found of single blocks, by what is said of them and by the listed blocks.
use Rattle.std.proofs.Common.{◌≡◌, ℕ, zero, suc, ◌+◌, ◌==◌, ◌<◌, ◌≤◌, nat_le, nat_lt, ◌&&◌, ◌||◌, not, ◌⊎◌, inl, inr, cond, Bool, true, false, List, [], ◌∷◌, map, Contains, Option, Some, None, is_some, is_none, find, refl, sym, ap, ◌∙◌, subst, arith, if◌then◌else◌}
use Rattle.std.specs.Ordering.{nat_cmp, eq_by_cmp}
use Rattle.std.specs.Cmp.{nat_cmp_total, eq_by_cmp_equiv, ranked}
use Rattle.std.specs.declared.cmp.Ordering.TheVariants.{Less}
use Rattle.std.specs.List.{filter_map, cons_option, position_from, AllByRecursion}
use Rattle.std.specs.List.Sorted.{IsStrictlySortedBy}
use Rattle.std.specs.Map.{lookup}
use Rattle.std.specs.Option.{option_or}
use Rattle.std.specs.BTreeMap.{is_at}
use Rattle.std.proofs.lemmas.Bool.Decides.{nat_tests}
use Rattle.std.proofs.lemmas.Map.Views.{Contains-from_lookup, lookup-from_Contains}
use Rattle.std.proofs.lemmas.Map.Keys.{IsDistinct-from_sorted}
use Rattle.grouping_laws.specs.Sets.{indicator, contains}
use Rattle.pl94_counties.specs.declared.blocks.Block.{Block}
use Rattle.pl94_counties.proofs.CollectLemmas.{tied_same}
use Rattle.pl94_counties.proofs.TraceLemmas.{contains_head, contains_tail, contains_nil, contains_cases}
use Rattle.baf_auditor.specs.Labels.{assigns}
use Rattle.baf_auditor.specs.Findings.{DrawnSet, Plan, county_of_block, IsListedBlock, IsGivenTo, times_named, IsUnknown, IsTwice, IsUnassigned, AreCodesWith}
use Rattle.baf_auditor.specs.Naming.{is_assigned, named_times, naming, has_district}
use Rattle.baf_auditor.specs.Listing.{kept, place_of, people_in_set, after_block, after_blocks, listing}
use Rattle.baf_auditor.specs.declared.assignments.Assignment.{Assignment}
use Rattle.baf_auditor.specs.declared.line_counts.Named.{Named}

-- ---- codes kept of entries
module _ {V : Type 0} (test : ℕ × V → Bool) where
  abbrev pub picked : List (ℕ × V) → List ℕ
  picked es = filter_map (λ (e : ℕ × V). kept (test e) e.0) es

  abbrev pub HasEntry : List (ℕ × V) → ℕ → Type 0
  HasEntry es c = (v : V) × Contains es (c, v) × (test (c, v) ≡ true)

  from_first : (e : ℕ × V) (es : List (ℕ × V)) (c : ℕ) (b : Bool) → test e ≡ b → Contains (cons_option (kept b e.0) (picked es)) c
      → (Contains (picked es) c → HasEntry es c) → HasEntry (e ∷ es) c
  from_first e es c true is h later = elim (contains_cases e.0 (picked es) c h) as (λ _. HasEntry (e ∷ es) c) [
    | inl same ↦ (e.1, subst (λ (k : ℕ). Contains (e ∷ es) (k, e.1)) same (contains_head e es), subst (λ (k : ℕ). test (k, e.1) ≡ true) same is)
    | inr rest ↦ (let l = later rest in (l.0, contains_tail e es (c, l.0) l.1, l.2))
  ]
  from_first e es c false is h later = let l = later h in (l.0, contains_tail e es (c, l.0) l.1, l.2)

  pub picked_from : (es : List (ℕ × V)) (c : ℕ) → Contains (picked es) c → HasEntry es c
  picked_from [] c h = absurd (contains_nil c h)
  picked_from (e ∷ es) c h = from_first e es c (test e) refl h (picked_from es c)

  to_first : (e : ℕ × V) (es : List (ℕ × V)) (c : ℕ) (v : V) (b : Bool) → test e ≡ b → Contains (e ∷ es) (c, v) → test (c, v) ≡ true
      → (Contains es (c, v) → Contains (picked es) c) → Contains (cons_option (kept b e.0) (picked es)) c
  to_first e es c v true is h passes later = elim (contains_cases e es (c, v) h) as (λ _. Contains (e.0 ∷ picked es) c) [
    | inl same ↦ subst (λ (d : ℕ × V). Contains (e.0 ∷ picked es) d.0) same (contains_head e.0 (picked es))
    | inr rest ↦ contains_tail e.0 (picked es) c (later rest)
  ]
  to_first e es c v false is h passes later = elim (contains_cases e es (c, v) h) as (λ _. Contains (picked es) c) [
    | inl same ↦ (let t : test e ≡ true = subst (λ (d : ℕ × V). test d ≡ true) (sym same) passes in cc)
    | inr rest ↦ later rest
  ]

  pub picked_to : (es : List (ℕ × V)) (c : ℕ) (v : V) → Contains es (c, v) → test (c, v) ≡ true → Contains (picked es) c
  picked_to [] c v h passes = absurd (contains_nil (c, v) h)
  picked_to (e ∷ es) c v h passes = to_first e es c v (test e) refl h passes (λ rest. picked_to es c v rest passes)

  all_first : (P : ℕ → Type 0) (e : ℕ × V) (es : List (ℕ × V)) (b : Bool) → P e.0 → AllByRecursion P (picked es) → AllByRecursion P (cons_option (kept b e.0) (picked es))
  all_first P e es true here later = (here, later)
  all_first P e es false here later = later

  all_picked : (P : ℕ → Type 0) (es : List (ℕ × V)) → AllByRecursion P (map (λ e. e.0) es) → AllByRecursion P (picked es)
  all_picked P [] all = tt
  all_picked P (e ∷ es) all = all_first P e es (test e) all.0 (all_picked P es all.1)

  sorted_first : (e : ℕ × V) (es : List (ℕ × V)) (b : Bool) → AllByRecursion (λ y. nat_cmp e.0 y ≡ Less) (picked es) → IsStrictlySortedBy nat_cmp (picked es)
      → IsStrictlySortedBy nat_cmp (cons_option (kept b e.0) (picked es))
  unfolding IsStrictlySortedBy
  sorted_first e es true above later = (above, later)
  sorted_first e es false above later = later

  pub picked_sorted : (es : List (ℕ × V)) → IsStrictlySortedBy nat_cmp (map (λ e. e.0) es) → IsStrictlySortedBy nat_cmp (picked es)
  unfolding IsStrictlySortedBy
  picked_sorted [] sorted = tt
  picked_sorted (e ∷ es) sorted = sorted_first e es (test e) (all_picked (λ y. nat_cmp e.0 y ≡ Less) es sorted.0) (picked_sorted es sorted.1)

-- an entry is what a look-up finds
pub found_from : {V : Type 0} (es : List (ℕ × V)) (c : ℕ) (v : V) → lookup (is_at (nat_cmp c)) es ≡ Some v → Contains es (c, v)
found_from es c v is = Contains-from_lookup {eq = eq_by_cmp nat_cmp} (λ x y tied. tied_same x y tied) c v es is

pub found_to : {V : Type 0} (es : List (ℕ × V)) → IsStrictlySortedBy nat_cmp (map (λ e. e.0) es) → (c : ℕ) (v : V) → Contains es (c, v) → lookup (is_at (nat_cmp c)) es ≡ Some v
found_to es sorted c v h = lookup-from_Contains (eq_by_cmp_equiv nat_cmp_total) c v es (IsDistinct-from_sorted nat_cmp (map (λ e. e.0) es) sorted) h

-- ---- what lines say
pub both : (s t : Bool) → (s && t) ≡ true → (s ≡ true) × (t ≡ true)
both true t h = (refl, h)
both false t h = cc

pub same_number : (x y : ℕ) → (x == y) ≡ true → x ≡ y
same_number x y is = grind (arith, nat_tests, is)

pub number_same : (x y : ℕ) → x ≡ y → (x == y) ≡ true
number_same x y is = grind (arith, nat_tests, is)

module _ (code : ℕ) where
  abbrev NamedBy : List Assignment → Type 0
  NamedBy lines = (line : Assignment) × Contains lines line × (line.block ≡ code)

  named_first : (l : Assignment) (ls : List Assignment) (b : Bool) → (l.block == code) ≡ b → 1 ≤ indicator b + times_named ls code → (1 ≤ times_named ls code → NamedBy ls) → NamedBy (l ∷ ls)
  named_first l ls true is some later = (l, contains_head l ls, same_number l.block code is)
  named_first l ls false is some later = let n = later (omega (arith, some)) in (n.0, contains_tail l ls n.0 n.1, n.2)

  pub named_by : (lines : List Assignment) → 1 ≤ times_named lines code → NamedBy lines
  named_by [] some = absurd (omega (arith, some))
  named_by (l ∷ ls) some = named_first l ls (l.block == code) refl some (named_by ls)

  pub times_some : (lines : List Assignment) (line : Assignment) → Contains lines line → line.block ≡ code → 1 ≤ times_named lines code
  times_some [] line h is = absurd (contains_nil line h)
  times_some (l ∷ ls) line h is = elim (contains_cases l ls line h) as (λ _. 1 ≤ times_named (l ∷ ls) code) [
    | inl same ↦ (let here : (l.block == code) ≡ true = number_same l.block code (ap (λ (a : Assignment). a.block) same ∙ is) in
        let one : indicator (l.block == code) ≡ 1 = ap indicator here in omega (arith, one))
    | inr rest ↦ (let later : 1 ≤ times_named ls code = times_some ls line rest is in omega (arith, later))
  ]

  abbrev AssignedBy : List Assignment → Type 0
  AssignedBy lines = (line : Assignment) × Contains lines line × (line.block ≡ code) × (assigns line.label ≡ true)

  assigned_first : (l : Assignment) (ls : List Assignment) (b : Bool) → (l.block == code && assigns l.label) ≡ b → (b ≡ false → is_assigned ls code ≡ true) → (is_assigned ls code ≡ true → AssignedBy ls) → AssignedBy (l ∷ ls)
  assigned_first l ls true is rest later = let parts = both (l.block == code) (assigns l.label) is in (l, contains_head l ls, same_number l.block code parts.0, parts.1)
  assigned_first l ls false is rest later = let n = later (rest refl) in (n.0, contains_tail l ls n.0 n.1, n.2, n.3)

  pub assigned_by : (lines : List Assignment) → is_assigned lines code ≡ true → AssignedBy lines
  assigned_by [] is = cc
  assigned_by (l ∷ ls) is = assigned_first l ls (l.block == code && assigns l.label) refl (λ none. rw none at is) (assigned_by ls)

  pub line_assigned : (lines : List Assignment) (line : Assignment) → Contains lines line → line.block ≡ code → assigns line.label ≡ true → is_assigned lines code ≡ true
  line_assigned [] line h is a = absurd (contains_nil line h)
  line_assigned (l ∷ ls) line h is a = elim (contains_cases l ls line h) as (λ _. is_assigned (l ∷ ls) code ≡ true) [
    | inl same ↦ (let here : (l.block == code) ≡ true = number_same l.block code (ap (λ (m : Assignment). m.block) same ∙ is) in
        let own : assigns l.label ≡ true = ap (λ (m : Assignment). assigns m.label) same ∙ a in
        rw (here, own) refl)
    | inr rest ↦ later (l.block == code && assigns l.label) (line_assigned ls line rest is a)
  ]
    where
      later : (b : Bool) → is_assigned ls code ≡ true → (b || is_assigned ls code) ≡ true
      later true t = refl
      later false t = t

-- what is said of a block that is named so often
pub named_known : (times : ℕ) (assigned : Bool) (n : Named) → named_times times assigned ≡ Some n → (1 ≤ times) × (n.twice ≡ nat_le 2 times) × (n.assigned ≡ assigned)
named_known zero assigned n is = cc
named_known (suc times) assigned n is =
    let some : (suc times == 0) ≡ false = grind (arith, nat_tests) in
    let said : Some (record { twice = nat_le 2 (suc times); assigned = assigned }) ≡ Some n = rw some at is in
    let same : ◌≡◌ {A = Named} (record { twice = nat_le 2 (suc times); assigned = assigned }) n = cc in
    let one : 1 ≤ suc times = omega arith in
    (one, sym (ap (λ (m : Named). m.twice) same), sym (ap (λ (m : Named). m.assigned) same))

pub named_there : (times : ℕ) (assigned : Bool) → 1 ≤ times → named_times times assigned ≡ Some (record { twice = nat_le 2 times; assigned = assigned })
named_there times assigned some = let known : (times == 0) ≡ false = grind (arith, nat_tests, some) in rw known refl

-- ---- the listed blocks
-- the set that has a county, and its place
set_at : (test : DrawnSet → Bool) (drawn : List DrawnSet) (n : ℕ) → is_some (position_from test n drawn) ≡ true → (set : DrawnSet) × (find test drawn ≡ Some set)
set_at test [] n there = cc
set_at test (d ∷ ds) n there = by (test d) there (set_at test ds (n + 1))
  where
    by : (b : Bool) → is_some (cond b (Some n) (position_from test (n + 1) ds)) ≡ true → (is_some (position_from test (n + 1) ds) ≡ true → (set : DrawnSet) × (find test ds ≡ Some set))
        → (set : DrawnSet) × (cond b (Some d) (find test ds) ≡ Some set)
    by true h later = (d, refl)
    by false h later = later h

place_at : (test : DrawnSet → Bool) (drawn : List DrawnSet) (n : ℕ) (set : DrawnSet) → find test drawn ≡ Some set → is_some (position_from test n drawn) ≡ true
place_at test [] n set there = cc
place_at test (d ∷ ds) n set there = by (test d) there (place_at test ds (n + 1) set)
  where
    by : (b : Bool) → cond b (Some d) (find test ds) ≡ Some set → (find test ds ≡ Some set → is_some (position_from test (n + 1) ds) ≡ true) → is_some (cond b (Some n) (position_from test (n + 1) ds)) ≡ true
    by true h later = refl
    by false h later = later h

module _ (drawn : List DrawnSet) (code : ℕ) where
  abbrev ListedBy : List Block → ℕ → Type 0
  ListedBy bs p = (block : Block) × Contains bs block × (block.code ≡ code) × (block.people ≡ p) × (is_some (place_of drawn (county_of_block code)) ≡ true)

  listed_placed : (b : Block) (bs : List Block) (o : Option ℕ) (p : ℕ) (placed : Bool) → is_some (place_of drawn (county_of_block b.code)) ≡ placed → b.code ≡ code
      → option_or (if placed then Some b.people else None) o ≡ Some p → (o ≡ Some p) ⊎ ListedBy (b ∷ bs) p
  listed_placed b bs o p true is same there =
      let people : b.people ≡ p = cc in
      inr (b, contains_head b bs, same, people, subst (λ (k : ℕ). is_some (place_of drawn (county_of_block k)) ≡ true) same is)
  listed_placed b bs o p false is same there = inl there

  listed_first : (b : Block) (bs : List Block) (o : Option ℕ) (p : ℕ) (own : Bool) → (b.code == code) ≡ own
      → (if own then option_or (people_in_set drawn b) o else o) ≡ Some p → (o ≡ Some p) ⊎ ListedBy (b ∷ bs) p
  listed_first b bs o p true is there = listed_placed b bs o p (is_some (place_of drawn (county_of_block b.code))) refl (same_number b.code code is) there
  listed_first b bs o p false is there = inl there

  listed_by : (bs : List Block) (o : Option ℕ) (p : ℕ) → after_blocks drawn code o bs ≡ Some p → (o ≡ Some p) ⊎ ListedBy bs p
  listed_by [] o p there = inl there
  listed_by (b ∷ bs) o p there = elim (listed_by bs (after_block drawn code o b) p there) as (λ _. (o ≡ Some p) ⊎ ListedBy (b ∷ bs) p) [
    | inl now ↦ listed_first b bs o p (b.code == code) refl now
    | inr later ↦ inr (later.0, contains_tail b bs later.0 later.1, later.2, later.3, later.4)
  ]

  -- blocks above the code change nothing
  not_same : (k : ℕ) → nat_cmp code k ≡ Less → (k == code) ≡ false
  not_same k below = let lt : code < k = ranked code k Less (sym below) in grind (arith, nat_tests, lt)

  stays : (bs : List Block) (o : Option ℕ) → AllByRecursion (λ k. nat_cmp code k ≡ Less) (map (λ b. b.code) bs) → after_blocks drawn code o bs ≡ o
  stays [] o above = refl
  stays (b ∷ bs) o above =
      ap (λ (own : Bool). after_blocks drawn code (if own then option_or (people_in_set drawn b) o else o) bs) (not_same b.code above.0) ∙ stays bs o above.1

-- the listed block of a code
pub listed_from : (drawn : List DrawnSet) (blocks : List Block) (code p : ℕ) → listing drawn blocks code ≡ Some p → ListedBy drawn code blocks p
listed_from drawn blocks code p there = elim (listed_by drawn code blocks None p there) as (λ _. ListedBy drawn code blocks p) [
  | inl none ↦ absurd cc
  | inr l ↦ l
]

listed_now : (drawn : List DrawnSet) (b : Block) (bs : List Block) (o : Option ℕ) → is_some (place_of drawn (county_of_block b.code)) ≡ true
    → AllByRecursion (λ k. nat_cmp b.code k ≡ Less) (map (λ c. c.code) bs) → after_blocks drawn b.code o (b ∷ bs) ≡ Some b.people
listed_now drawn b bs o placed above =
    let own : (b.code == b.code) ≡ true = number_same b.code b.code refl in
    ap (λ (t : Bool). after_blocks drawn b.code (if t then option_or (people_in_set drawn b) o else o) bs) own
    ∙ ap (λ (t : Bool). after_blocks drawn b.code (option_or (if t then Some b.people else None) o) bs) placed
    ∙ stays drawn b.code bs (Some b.people) above

listed_after : (drawn : List DrawnSet) (blocks : List Block) (o : Option ℕ) (block : Block) → IsStrictlySortedBy nat_cmp (map (λ b. b.code) blocks) → Contains blocks block
    → is_some (place_of drawn (county_of_block block.code)) ≡ true → after_blocks drawn block.code o blocks ≡ Some block.people
unfolding IsStrictlySortedBy
listed_after drawn [] o block sorted h placed = absurd (contains_nil block h)
listed_after drawn (b ∷ bs) o block sorted h placed = elim (contains_cases b bs block h) as (λ _. after_blocks drawn block.code o (b ∷ bs) ≡ Some block.people) [
  | inl same ↦ subst (λ (d : Block). after_blocks drawn d.code o (b ∷ bs) ≡ Some d.people) same
      (listed_now drawn b bs o (subst (λ (d : Block). is_some (place_of drawn (county_of_block d.code)) ≡ true) (sym same) placed) sorted.0)
  | inr later ↦ listed_after drawn bs (after_block drawn block.code o b) block sorted.1 later placed
]

pub listed_to : (drawn : List DrawnSet) (blocks : List Block) (block : Block) → IsStrictlySortedBy nat_cmp (map (λ b. b.code) blocks) → Contains blocks block
    → is_some (place_of drawn (county_of_block block.code)) ≡ true → listing drawn blocks block.code ≡ Some block.people
listed_to drawn blocks block sorted h placed = listed_after drawn blocks None block sorted h placed

-- ---- listed blocks by the plan
module _ (plan : Plan) (blocks_sorted : IsStrictlySortedBy nat_cmp (map (λ b. b.code) plan.blocks)) where
  -- a block that is listed is found, and what is found is a listed block
  pub listed_found : (block : Block) → IsListedBlock plan block → listing plan.drawn plan.blocks block.code ≡ Some block.people
  listed_found block is = listed_to plan.drawn plan.blocks block blocks_sorted is.1.0 (place_at (λ set. contains set.codes (county_of_block block.code)) plan.drawn 0 is.0 is.1.1)

  abbrev pub FoundListed : ℕ → ℕ → Type 0
  FoundListed code p = (block : Block) × IsListedBlock plan block × (block.code ≡ code) × (block.people ≡ p)

  pub found_listed : (code p : ℕ) → listing plan.drawn plan.blocks code ≡ Some p → FoundListed code p
  found_listed code p there =
      let l = listed_from plan.drawn plan.blocks code p there in
      let placed : is_some (place_of plan.drawn (county_of_block l.0.code)) ≡ true = subst (λ (k : ℕ). is_some (place_of plan.drawn (county_of_block k)) ≡ true) (sym l.2) l.4 in
      let set = set_at (λ set. contains set.codes (county_of_block l.0.code)) plan.drawn 0 placed in
      (l.0, (set.0, (l.1, set.1)), l.2, l.3)

-- ---- the kinds
module _ (plan : Plan) (named : List (ℕ × Named)) (listed : List (ℕ × ℕ))
    (blocks_sorted : IsStrictlySortedBy nat_cmp (map (λ b. b.code) plan.blocks))
    (named_sorted : IsStrictlySortedBy nat_cmp (map (λ e. e.0) named))
    (listed_sorted : IsStrictlySortedBy nat_cmp (map (λ e. e.0) listed))
    (naming_is : (code : ℕ) → lookup (is_at (nat_cmp code)) named ≡ naming plan.lines code)
    (listing_is : (code : ℕ) → lookup (is_at (nat_cmp code)) listed ≡ listing plan.drawn plan.blocks code) where
  -- what is said of a code, where it is named
  said : (code : ℕ) → 1 ≤ times_named plan.lines code → Contains named (code, record { twice = nat_le 2 (times_named plan.lines code); assigned = is_assigned plan.lines code })
  said code some = found_from named code _ (naming_is code ∙ named_there (times_named plan.lines code) (is_assigned plan.lines code) some)

  known : (code : ℕ) (n : Named) → Contains named (code, n) → (1 ≤ times_named plan.lines code) × (n.twice ≡ nat_le 2 (times_named plan.lines code)) × (n.assigned ≡ is_assigned plan.lines code)
  known code n h = named_known (times_named plan.lines code) (is_assigned plan.lines code) n (sym (naming_is code) ∙ found_to named named_sorted code n h)

  -- two or more lines name it
  pub are_twice : AreCodesWith (IsTwice plan) (picked (λ (e : ℕ × Named). e.1.twice) named)
  are_twice = record {
    ascending = picked_sorted (λ (e : ℕ × Named). e.1.twice) named named_sorted;
    are = λ code. (
      λ h. (let e = picked_from (λ (e : ℕ × Named). e.1.twice) named code h in
          let two : nat_le 2 (times_named plan.lines code) ≡ true = sym (known code e.0 e.1).1 ∙ e.2 in
          grind (arith, nat_tests, two)),
      λ two. (let some : 1 ≤ times_named plan.lines code = omega (arith, two) in
          picked_to (λ (e : ℕ × Named). e.1.twice) named code _ (said code some) (let t : nat_le 2 (times_named plan.lines code) ≡ true = grind (arith, nat_tests, two) in t)),
    );
  }

  -- a line names it, and it isn't listed
  unlisted_by : (code : ℕ) (o : Option ℕ) → listing plan.drawn plan.blocks code ≡ o → IsUnknown plan code → is_none o ≡ true
  unlisted_by code None is u = refl
  unlisted_by code (Some p) is u = let f = found_listed plan blocks_sorted code p is in absurd (u.unlisted f.0 f.1 f.2)

  pub are_unknown : AreCodesWith (IsUnknown plan) (picked (λ (e : ℕ × Named). is_none (lookup (is_at (nat_cmp e.0)) listed)) named)
  are_unknown = record {
    ascending = picked_sorted (λ (e : ℕ × Named). is_none (lookup (is_at (nat_cmp e.0)) listed)) named named_sorted;
    are = λ code. (
      λ h. (let e = picked_from (λ (e : ℕ × Named). is_none (lookup (is_at (nat_cmp e.0)) listed)) named code h in
          let line = named_by code plan.lines (known code e.0 e.1).0 in
          record {
            line = line.0;
            stands = line.1;
            names = line.2;
            unlisted = λ (block : Block) (is : IsListedBlock plan block) (same : block.code ≡ code).
                (let there : lookup (is_at (nat_cmp code)) listed ≡ Some block.people = listing_is code ∙ ap (λ (k : ℕ). listing plan.drawn plan.blocks k) (sym same) ∙ listed_found plan blocks_sorted block is in
                let none : is_none (lookup (is_at (nat_cmp code)) listed) ≡ true = e.2 in
                let some : is_none (lookup (is_at (nat_cmp code)) listed) ≡ false = ap (λ (o : Option ℕ). is_none o) there in
                cc);
          }),
      λ u. picked_to (λ (e : ℕ × Named). is_none (lookup (is_at (nat_cmp e.0)) listed)) named code _ (said code (times_some code plan.lines u.line u.stands u.names))
          (ap (λ (o : Option ℕ). is_none o) (listing_is code) ∙ unlisted_by code (listing plan.drawn plan.blocks code) refl u),
    );
  }

  -- listed, with people, and given to no district
  abbrev test_unassigned : ℕ × ℕ → Bool
  test_unassigned e = nat_lt 0 e.1 && not (has_district (lookup (is_at (nat_cmp e.0)) named))

  district_of : (code : ℕ) (o : Option Named) → naming plan.lines code ≡ o → has_district o ≡ is_assigned plan.lines code
  district_of code None is = none (is_assigned plan.lines code) refl
    where
      none : (b : Bool) → is_assigned plan.lines code ≡ b → false ≡ is_assigned plan.lines code
      none true t =
          let line = assigned_by code plan.lines t in
          let there = named_there (times_named plan.lines code) (is_assigned plan.lines code) (times_some code plan.lines line.0 line.1 line.2) in
          absurd cc
      none false t = sym t
  district_of code (Some n) is = (named_known (times_named plan.lines code) (is_assigned plan.lines code) n is).2

  test_is : (code p : ℕ) → test_unassigned (code, p) ≡ (nat_lt 0 p && not (is_assigned plan.lines code))
  test_is code p = ap (λ (o : Option Named). nat_lt 0 p && not (has_district o)) (naming_is code) ∙ ap (λ (b : Bool). nat_lt 0 p && not b) (district_of code (naming plan.lines code) refl)

  given_assigned : (code : ℕ) (label : List ℕ) → IsGivenTo plan code label → is_assigned plan.lines code ≡ true
  given_assigned code label g = line_assigned code plan.lines g.line g.stands g.names (ap assigns g.labelled ∙ g.assigned)

  none_given : (code : ℕ) (b : Bool) → is_assigned plan.lines code ≡ b → ((label : List ℕ) → IsGivenTo plan code label → ⊥) → not b ≡ true
  none_given code true is none =
      let line = assigned_by code plan.lines is in
      absurd (none line.0.label (record { line = line.0; stands = line.1; names = line.2; labelled = refl; assigned = line.3 }))
  none_given code false is none = refl

  people_some : (p : ℕ) → 1 ≤ p → nat_lt 0 p ≡ true
  people_some p some = grind (arith, nat_tests, some)

  some_people : (p : ℕ) → nat_lt 0 p ≡ true → 1 ≤ p
  some_people p is = grind (arith, nat_tests, is)

  both_true : (s t : Bool) → s ≡ true → t ≡ true → (s && t) ≡ true
  both_true true t f g = g
  both_true false t f g = cc

  pub are_unassigned : AreCodesWith (IsUnassigned plan) (picked test_unassigned listed)
  are_unassigned = record {
    ascending = picked_sorted test_unassigned listed listed_sorted;
    are = λ code. (
      λ h. (let e = picked_from test_unassigned listed code h in
          let found = found_listed plan blocks_sorted code e.0 (sym (listing_is code) ∙ found_to listed listed_sorted code e.0 e.1) in
          let parts = both (nat_lt 0 e.0) (not (is_assigned plan.lines code)) (sym (test_is code e.0) ∙ e.2) in
          record {
            block = found.0;
            listed = found.1;
            code_is = found.2;
            some_people = subst (λ (p : ℕ). 1 ≤ p) (sym found.3) (some_people e.0 parts.0);
            none = λ (label : List ℕ) (g : IsGivenTo plan code label). (let yes : is_assigned plan.lines code ≡ true = given_assigned code label g in let denied : not (is_assigned plan.lines code) ≡ true = parts.1 in cc);
          }),
      λ u. (let there : lookup (is_at (nat_cmp code)) listed ≡ Some u.block.people = listing_is code ∙ ap (λ (k : ℕ). listing plan.drawn plan.blocks k) (sym u.code_is) ∙ listed_found plan blocks_sorted u.block u.listed in
          picked_to test_unassigned listed code u.block.people (found_from listed code u.block.people there)
          (test_is code u.block.people ∙ both_true (nat_lt 0 u.block.people) (not (is_assigned plan.lines code)) (people_some u.block.people u.some_people) (none_given code (is_assigned plan.lines code) refl u.none))),
    );
  }
