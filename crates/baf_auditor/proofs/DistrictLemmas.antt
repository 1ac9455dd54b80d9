-- What the listed blocks of districts say of districts and sets.
use Rattle.std.proofs.Common.{◌≡◌, ℕ, zero, suc, ◌+◌, ◌==◌, ◌<◌, ◌&&◌, ◌⊎◌, inl, inr, cond, Bool, true, false, List, [], ◌∷◌, length, map, Contains, find, Option, Some, None, refl, sym, ap, ◌∙◌, subst, arith, if◌then◌else◌}
use Rattle.std.specs.List.{filter_map, position_from, list_any}
use Rattle.std.specs.List.Sorted.{IsStrictlySortedBy}
use Rattle.std.specs.Map.{lookup}
use Rattle.std.specs.Ordering.{nat_cmp, is_eq, eq_by_cmp}
use Rattle.std.specs.Cmp.{IsTotalOrder, nat_cmp_total, then_total, on_total, tied_itself, eq_by_cmp_equiv}
use Rattle.std.specs.Cmp.Lexicographic.{slice_cmp, nat_list_cmp_total, texts_ties, same_text}
use Rattle.std.specs.BTreeMap.{is_at}
use Rattle.std.specs.Str.{bytes_eq}
use Rattle.std.proofs.lemmas.Map.Views.{Contains-from_lookup, lookup-from_Contains}
use Rattle.std.proofs.lemmas.Map.Keys.{IsDistinct-from_sorted}
use Rattle.grouping_laws.specs.Sets.{indicator, sum_by, contains}
use Rattle.place_sets.proofs.Sums.{total_ones, total_same}
use Rattle.pl94_counties.specs.declared.blocks.Block.{Block}
use Rattle.pl94_counties.proofs.TraceLemmas.{contains_head, contains_tail, contains_nil, contains_cases}
use Rattle.baf_auditor.specs.Labels.{assigns}
use Rattle.baf_auditor.specs.Findings.{DrawnSet, Plan, county_of_block, set_of_county, IsListedBlock, IsGivenTo, HasBlockIn, IsDistrict, EachOnce, HasDistricts, HasPeople}
use Rattle.baf_auditor.specs.Listing.{place_of, listing}
use Rattle.baf_auditor.specs.Giving.{by_label, gives, AreGiven}
use Rattle.baf_auditor.specs.Districts.{GivenBlock, people_after, district_people, is_place, shows, after_shown, stands_after, standing, districts_at}
use Rattle.baf_auditor.proofs.KindLemmas.{FoundListed, found_listed, listed_found, both, same_number, number_same}
use Rattle.baf_auditor.proofs.GivingLemmas.{tied_key}
use Rattle.baf_auditor.proofs.ListLemmas.{Apart, pairs_from_apart, apart_from_pairs, once_total, chosen_from, chosen_to, chosen_apart, weight, total_chosen, sorted_apart, any_from, any_to, mapped_from, mapped_to, apart_from_map}

-- ---- labels and keys
pub label_same : (a b : List ℕ) → bytes_eq a b ≡ true → a ≡ b
label_same a b is = same_text a b (sym is)

pub same_label : (a b : List ℕ) → a ≡ b → bytes_eq a b ≡ true
same_label a b same = texts_ties a b ∙ ap (λ l. is_eq (slice_cmp nat_cmp a l)) (sym same) ∙ ap is_eq (tied_itself nat_list_cmp_total a)

pub both_true : (s t : Bool) → s ≡ true → t ≡ true → (s && t) ≡ true
both_true true t f g = g
both_true false t f g = cc

pub by_label_total : IsTotalOrder by_label
by_label_total = then_total (on_total (λ (k : List ℕ × ℕ). k.0) nat_list_cmp_total) (on_total (λ (k : List ℕ × ℕ). k.1) nat_cmp_total)

pub key_same : (x y : List ℕ × ℕ) → eq_by_cmp by_label x y ≡ true → x ≡ y
key_same x y tied =
    let parts = both (bytes_eq x.0 y.0) (x.1 == y.1) (sym (tied_key x y) ∙ tied) in
    let label : x.0 ≡ y.0 = label_same x.0 y.0 parts.0 in
    let number : x.1 ≡ y.1 = same_number x.1 y.1 parts.1 in
    ap (λ l. (l, x.1)) label ∙ ap (λ n. (y.0, n)) number

module _ {V : Type 0} (es : List ((List ℕ × ℕ) × V)) (sorted : IsStrictlySortedBy by_label (map (λ e. e.0) es)) where
  pub entry_from : (k : List ℕ × ℕ) (v : V) → lookup (is_at (by_label k)) es ≡ Some v → Contains es (k, v)
  entry_from k v is = Contains-from_lookup {eq = eq_by_cmp by_label} key_same k v es is

  pub entry_to : (k : List ℕ × ℕ) (v : V) → Contains es (k, v) → lookup (is_at (by_label k)) es ≡ Some v
  entry_to k v h = lookup-from_Contains (eq_by_cmp_equiv by_label_total) k v es (IsDistinct-from_sorted by_label (map (λ e. e.0) es) sorted) h

  pub keys_apart : Apart (map (λ e. e.0) es)
  keys_apart = sorted_apart by_label (λ k. tied_itself by_label_total k) (map (λ e. e.0) es) sorted

-- ---- the set that has a county, and its place
abbrev pub item_at : {X : Type 0} → List X → ℕ → Option X
item_at [] i = None
item_at (x ∷ xs) zero = Some x
item_at (x ∷ xs) (suc i) = item_at xs i

module _ {X : Type 0} (test : X → Bool) where
  pub item_found : (xs : List X) (n k : ℕ) → position_from test n xs ≡ Some k → (i : ℕ) × (k ≡ n + i) × (find test xs ≡ item_at xs i) × (i < length xs)
  item_found [] n k is = cc
  item_found (x ∷ xs) n k is = by (test x) is (item_found xs (n + 1) k)
    where
      by : (b : Bool) → cond b (Some n) (position_from test (n + 1) xs) ≡ Some k
          → (position_from test (n + 1) xs ≡ Some k → (i : ℕ) × (k ≡ n + 1 + i) × (find test xs ≡ item_at xs i) × (i < length xs))
          → (i : ℕ) × (k ≡ n + i) × (cond b (Some x) (find test xs) ≡ item_at (x ∷ xs) i) × (i < length (x ∷ xs))
      by true e later = let same : n ≡ k = cc in let at : k ≡ n + zero = omega (arith, same) in let in' : zero < suc (length xs) = omega arith in (zero, at, refl, in')
      by false e later = let l = later e in let at : k ≡ n + suc l.0 = omega (arith, l.1) in let in' : suc l.0 < suc (length xs) = omega (arith, l.3) in (suc l.0, at, l.2, in')

  pub place_found : (xs : List X) (n : ℕ) (x : X) → find test xs ≡ Some x → (i : ℕ) × (position_from test n xs ≡ Some (n + i)) × (item_at xs i ≡ Some x)
  place_found [] n x is = cc
  place_found (y ∷ ys) n x is = by (test y) is (place_found ys (n + 1) x)
    where
      by : (b : Bool) → cond b (Some y) (find test ys) ≡ Some x
          → (find test ys ≡ Some x → (i : ℕ) × (position_from test (n + 1) ys ≡ Some (n + 1 + i)) × (item_at ys i ≡ Some x))
          → (i : ℕ) × (cond b (Some n) (position_from test (n + 1) ys) ≡ Some (n + i)) × (item_at (y ∷ ys) i ≡ Some x)
      by true e later = let at : n ≡ n + zero = omega arith in (zero, ap (λ m. Some m) at, e)
      by false e later = let l = later e in let at : n + 1 + l.0 ≡ n + suc l.0 = omega arith in (suc l.0, l.1 ∙ ap (λ m. Some m) at, l.2)

-- ---- the sets in which districts have blocks
module _ (drawn : List DrawnSet) where
  pub place_is : (o : Option ℕ) (i : ℕ) → is_place o i ≡ true → o ≡ Some i
  place_is None i is = cc
  place_is (Some j) i is = ap (λ m. Some m) (same_number j i is)

  abbrev pub Shown : List (List ℕ × ℕ) → List ℕ × ℕ → Type 0
  Shown ks key = (k : List ℕ × ℕ) × Contains ks k × (shows drawn key k ≡ true)

  pub shown_from : (key : List ℕ × ℕ) (ks : List (List ℕ × ℕ)) (o : Option (Unit {0})) → stands_after drawn key o ks ≡ Some tt → (o ≡ Some tt) ⊎ Shown ks key
  shown_from key [] o is = inl is
  shown_from key (k ∷ ks) o is = by (shows drawn key k) refl (shown_from key ks (after_shown drawn key o k) is)
    where
      by : (b : Bool) → shows drawn key k ≡ b → ((if b then Some tt else o) ≡ Some tt) ⊎ Shown ks key → (o ≡ Some tt) ⊎ Shown (k ∷ ks) key
      by true t h = inr (k, contains_head k ks, t)
      by false t (inl h) = inl h
      by false t (inr l) = inr (l.0, contains_tail k ks l.0 l.1, l.2)

  stays_shown : (key : List ℕ × ℕ) (ks : List (List ℕ × ℕ)) → stands_after drawn key (Some tt) ks ≡ Some tt
  stays_shown key [] = refl
  stays_shown key (k ∷ ks) = by (stays_shown key ks) (shows drawn key k)
    where
      by : stands_after drawn key (Some tt) ks ≡ Some tt → (b : Bool) → stands_after drawn key (if b then Some tt else Some tt) ks ≡ Some tt
      by later true = later
      by later false = later

  pub shown_to : (key : List ℕ × ℕ) (ks : List (List ℕ × ℕ)) (o : Option (Unit {0})) (k : List ℕ × ℕ) → Contains ks k → shows drawn key k ≡ true → stands_after drawn key o ks ≡ Some tt
  shown_to key [] o k h is = absurd (contains_nil k h)
  shown_to key (l ∷ ks) o k h is = elim (contains_cases l ks k h) as (λ _. stands_after drawn key o (l ∷ ks) ≡ Some tt) [
    | inl same ↦ (let here : shows drawn key l ≡ true = ap (λ (m : List ℕ × ℕ). shows drawn key m) same ∙ is in
        ap (λ (b : Bool). stands_after drawn key (if b then Some tt else o) ks) here ∙ stays_shown key ks)
    | inr later ↦ shown_to key ks (after_shown drawn key o l) k later is
  ]

-- ---- the districts of a plan, by the listed blocks that lines give to them
module _ (plan : Plan) (blocks_sorted : IsStrictlySortedBy nat_cmp (map (λ b. b.code) plan.blocks)) (listed : ℕ → Option ℕ)
    (listing_is : (code : ℕ) → listed code ≡ listing plan.drawn plan.blocks code)
    (given : List GivenBlock) (given_are : AreGiven listed plan.lines given) where
  line_gives : (code : ℕ) (label : List ℕ) → IsGivenTo plan code label → list_any (gives (label, code)) plan.lines ≡ true
  line_gives code label g = any_to (gives (label, code)) plan.lines g.line g.stands
      (both_true (assigns g.line.label) (bytes_eq g.line.label label && g.line.block == code) (ap assigns g.labelled ∙ g.assigned)
      (both_true (bytes_eq g.line.label label) (g.line.block == code) (same_label g.line.label label g.labelled) (number_same g.line.block code g.names)))

  given_line : (code : ℕ) (label : List ℕ) → list_any (gives (label, code)) plan.lines ≡ true → IsGivenTo plan code label
  given_line code label is =
      let l = any_from (gives (label, code)) plan.lines is in
      let one = both (assigns l.0.label) (bytes_eq l.0.label label && l.0.block == code) l.2 in
      let two = both (bytes_eq l.0.label label) (l.0.block == code) one.1 in
      let same : l.0.label ≡ label = label_same l.0.label label two.0 in
      record { line = l.0; stands = l.1; names = same_number l.0.block code two.1; labelled = same; assigned = sym (ap assigns same) ∙ one.0 }

  abbrev pub FoundGiven : List ℕ → ℕ → ℕ → Type 0
  FoundGiven label code people = IsGivenTo plan code label × (listing plan.drawn plan.blocks code ≡ Some people)

  pub given_from : (label : List ℕ) (code people : ℕ) → Contains given ((label, code), people) → FoundGiven label code people
  given_from label code people h = by (list_any (gives (label, code)) plan.lines) refl ((given_are.are (label, code) people).0 h)
    where
      by : (b : Bool) → list_any (gives (label, code)) plan.lines ≡ b → (if b then listed code else None) ≡ Some people → FoundGiven label code people
      by true is there = (given_line code label is, sym (listing_is code) ∙ there)
      by false is there = cc

  pub given_to : (block : Block) (label : List ℕ) → IsListedBlock plan block → IsGivenTo plan block.code label → Contains given ((label, block.code), block.people)
  given_to block label is g = (given_are.are (label, block.code) block.people).1
      (ap (λ (b : Bool). if b then listed block.code else None) (line_gives block.code label g) ∙ listing_is block.code ∙ listed_found plan blocks_sorted block is)

  -- each of them is a listed block
  pub is_listed : (e : GivenBlock) → Contains given e → FoundListed plan blocks_sorted e.0.1 e.1
  is_listed e h = found_listed plan blocks_sorted e.0.1 e.1 (given_from e.0.0 e.0.1 e.1 h).1

  -- ---- the people of a district
  abbrev block_of_label : List ℕ → GivenBlock → Option Block
  block_of_label label e = if bytes_eq e.0.0 label then Some (record { code = e.0.1; people = e.1 }) else None

  abbrev share : List ℕ → GivenBlock → ℕ
  share label e = weight (λ (b : Block). b.people) (block_of_label label e)

  abbrev pub people_sum : List ℕ → ℕ
  people_sum label = sum_by (share label) given

  labelled : (label : List ℕ) (e : GivenBlock) (block : Block) → block_of_label label e ≡ Some block → (e.0.0 ≡ label) × (e.0.1 ≡ block.code) × (e.1 ≡ block.people)
  labelled label e block is = by (bytes_eq e.0.0 label) refl is
    where
      by : (b : Bool) → bytes_eq e.0.0 label ≡ b → (if b then Some (record { code = e.0.1; people = e.1 }) else None) ≡ Some block → (e.0.0 ≡ label) × (e.0.1 ≡ block.code) × (e.1 ≡ block.people)
      by true t there = let same : ◌≡◌ {A = Block} (record { code = e.0.1; people = e.1 }) block = cc in (label_same e.0.0 label t, ap (λ (b : Block). b.code) same, ap (λ (b : Block). b.people) same)
      by false t there = cc

  label_of_block : (label : List ℕ) (code people : ℕ) → block_of_label label ((label, code), people) ≡ Some (record { code = code; people = people })
  label_of_block label code people = ap (λ (b : Bool). if b then Some (record { code = code; people = people }) else None) (same_label label label refl)

  block_same : (a b : Block) → a.code ≡ b.code → a.people ≡ b.people → a ≡ b
  block_same a b code people = ap (λ (c : ℕ). block_with c a.people) code ∙ ap (λ (p : ℕ). block_with b.code p) people
    where
      block_with : ℕ → ℕ → Block
      block_with c p = record { code = c; people = p }

  given_same : (e f : GivenBlock) → e.0.0 ≡ f.0.0 → e.0.1 ≡ f.0.1 → e.1 ≡ f.1 → e ≡ f
  given_same e f label code people = ap (λ l. ((l, e.0.1), e.1)) label ∙ ap (λ c. ((f.0.0, c), e.1)) code ∙ ap (λ p. (f.0, p)) people

  abbrev IsBlockOf : List ℕ → Block → Type 0
  IsBlockOf label block = IsListedBlock plan block × IsGivenTo plan block.code label

  blocks_of_label : (label : List ℕ) → EachOnce (IsBlockOf label) (filter_map (block_of_label label) given)
  blocks_of_label label = record {
    once = pairs_from_apart (filter_map (block_of_label label) given) (chosen_apart (block_of_label label) alone given (apart_from_map (λ (e : GivenBlock). e.0) given (apart_from_pairs (map (λ (e : GivenBlock). e.0) given) given_are.once)));
    are = λ block. (from block, to block);
  }
    where
      alone : (e f : GivenBlock) (block : Block) → block_of_label label e ≡ Some block → block_of_label label f ≡ Some block → e ≡ f
      alone e f block one other =
          let a = labelled label e block one in
          let b = labelled label f block other in
          given_same e f (a.0 ∙ sym b.0) (a.1 ∙ sym b.1) (a.2 ∙ sym b.2)

      from : (block : Block) → Contains (filter_map (block_of_label label) given) block → IsBlockOf label block
      from block h =
          let l = chosen_from (block_of_label label) given block h in
          let a = labelled label l.0 block l.2 in
          let found = is_listed l.0 l.1 in
          let same : found.0 ≡ block = block_same found.0 block (found.2 ∙ a.1) (found.3 ∙ a.2) in
          let line : IsGivenTo plan l.0.0.1 l.0.0.0 = (given_from l.0.0.0 l.0.0.1 l.0.1 l.1).0 in (
            subst (λ (b : Block). IsListedBlock plan b) same found.1,
            subst (λ (c : ℕ). IsGivenTo plan c label) a.1 (subst (λ (t : List ℕ). IsGivenTo plan l.0.0.1 t) a.0 line),
          )

      to : (block : Block) → IsBlockOf label block → Contains (filter_map (block_of_label label) given) block
      to block is = chosen_to (block_of_label label) given ((label, block.code), block.people) block (given_to block label is.0 is.1) (label_of_block label block.code block.people)

  pub has_people : (label : List ℕ) → HasPeople plan label (people_sum label)
  has_people label = (filter_map (block_of_label label) given, blocks_of_label label, total_chosen (block_of_label label) (λ (b : Block). b.people) given)

  -- and no other number
  pub people_are : (label : List ℕ) (people : ℕ) → HasPeople plan label people → people ≡ people_sum label
  people_are label people h =
      sym h.2 ∙ once_total (IsBlockOf label) h.0 (filter_map (block_of_label label) given) h.1 (blocks_of_label label) (λ (b : Block). b.people)
      ∙ total_chosen (block_of_label label) (λ (b : Block). b.people) given

  -- ---- the sum of a label, block after block
  abbrev HasLabel : List GivenBlock → List ℕ → Type 0
  HasLabel es label = (e : GivenBlock) × Contains es e × (e.0.0 ≡ label)

  sum_more : (label : List ℕ) (es : List GivenBlock) (n : ℕ) → people_after label (Some n) es ≡ Some (n + sum_by (share label) es)
  sum_more label [] n = let e : n ≡ n + 0 = omega arith in ap (λ m. Some m) e
  sum_more label (e ∷ es) n = by (λ m. sum_more label es m) (bytes_eq e.0.0 label)
    where
      by : ((m : ℕ) → people_after label (Some m) es ≡ Some (m + sum_by (share label) es)) → (b : Bool) → people_after label (if b then Some (n + e.1) else Some n) es ≡ Some (n + (weight (λ (b : Block). b.people) (if b then Some (record { code = e.0.1; people = e.1 }) else None) + sum_by (share label) es))
      by later true = later (n + e.1) ∙ (let f : n + e.1 + sum_by (share label) es ≡ n + (e.1 + sum_by (share label) es) = omega arith in ap (λ m. Some m) f)
      by later false = later n ∙ (let f : n + sum_by (share label) es ≡ n + (0 + sum_by (share label) es) = omega arith in ap (λ m. Some m) f)

  abbrev Summed : List GivenBlock → List ℕ → Option ℕ → Type 0
  Summed es label None = HasLabel es label → ⊥
  Summed es label (Some n) = HasLabel es label × (n ≡ sum_by (share label) es)

  summed : (label : List ℕ) (es : List GivenBlock) → Summed es label (people_after label None es)
  summed label [] = λ h. contains_nil h.0 h.1
  summed label (e ∷ es) = by (summed label es) (bytes_eq e.0.0 label) refl
    where
      none : (o : Option ℕ) → (e.0.0 ≡ label → ⊥) → share label e ≡ 0 → Summed es label o → Summed (e ∷ es) label o
      none None other nothing later = λ h. elim (contains_cases e es h.0 h.1) as (λ _. ⊥) [
        | inl same ↦ other (ap (λ (f : GivenBlock). f.0.0) same ∙ h.2)
        | inr k ↦ later (h.0, k, h.2)
      ]
      none (Some n) other nothing later = let l = later.0 in let sum = later.1 in ((l.0, contains_tail e es l.0 l.1, l.2), omega (arith, sum, nothing))

      by : Summed es label (people_after label None es) → (b : Bool) → bytes_eq e.0.0 label ≡ b → Summed (e ∷ es) label (people_after label (if b then Some (0 + e.1) else None) es)
      by later true is =
          let own : share label e ≡ e.1 = ap (λ (t : Bool). weight (λ (b : Block). b.people) (if t then Some (record { code = e.0.1; people = e.1 }) else None)) is in
          let sum : people_after label (Some (0 + e.1)) es ≡ Some (0 + e.1 + sum_by (share label) es) = sum_more label es (0 + e.1) in
          let more : 0 + e.1 + sum_by (share label) es ≡ share label e + sum_by (share label) es = omega (arith, own) in
          subst (λ (o : Option ℕ). Summed (e ∷ es) label o) (sym sum) ((e, contains_head e es, label_same e.0.0 label is), more)
      by later false is =
          let nothing : share label e ≡ 0 = ap (λ (t : Bool). weight (λ (b : Block). b.people) (if t then Some (record { code = e.0.1; people = e.1 }) else None)) is in
          none (people_after label None es) (λ same. let t : bytes_eq e.0.0 label ≡ true = same_label e.0.0 label same in cc) nothing later

  -- a district has a label with a block
  district_from : (e : GivenBlock) → Contains given e → IsDistrict plan e.0.0
  district_from e h =
      let found = is_listed e h in
      let line : IsGivenTo plan e.0.1 e.0.0 = (given_from e.0.0 e.0.1 e.1 h).0 in
      (found.1.0, record { block = found.0; stands = found.1.1; given = subst (λ (c : ℕ). IsGivenTo plan c e.0.0) (sym found.2) line })

  pub district_of_sum : (label : List ℕ) (people : ℕ) → district_people given label ≡ Some people → IsDistrict plan label × (people ≡ people_sum label)
  district_of_sum label people is =
      let s = subst (λ (o : Option ℕ). Summed given label o) is (summed label given) in
      (subst (λ (l : List ℕ). IsDistrict plan l) s.0.2 (district_from s.0.0 s.0.1), s.1)

  pub sum_of_district : (label : List ℕ) → IsDistrict plan label → district_people given label ≡ Some (people_sum label)
  sum_of_district label d = by (district_people given label) refl (summed label given)
    where
      there : HasLabel given label
      there = (((label, d.1.block.code), d.1.block.people), given_to d.1.block label (d.0, d.1.stands) d.1.given, refl)

      by : (o : Option ℕ) → district_people given label ≡ o → Summed given label o → o ≡ Some (people_sum label)
      by None is none = absurd (none there)
      by (Some n) is s = ap (λ m. Some m) s.1

  -- ---- the sets in which a district has blocks
  module _ (found : List ((List ℕ × ℕ) × Unit {0})) (found_sorted : IsStrictlySortedBy by_label (map (λ e. e.0) found))
      (standing_is : (key : List ℕ × ℕ) → lookup (is_at (by_label key)) found ≡ standing plan.drawn (map (λ e. e.0) given) key) where
    abbrev pub places : List (List ℕ × ℕ)
    places = map (λ (e : (List ℕ × ℕ) × Unit {0}). e.0) found

    abbrev StandsAt : List ℕ → ℕ → Type 0
    StandsAt label place = (set : DrawnSet) × (item_at plan.drawn place ≡ Some set) × (place < length plan.drawn) × HasBlockIn plan label set

    pub stands_from : (label : List ℕ) (place : ℕ) → Contains places (label, place) → StandsAt label place
    stands_from label place h =
        let m = mapped_from (λ (e : (List ℕ × ℕ) × Unit {0}). e.0) found (label, place) h in
        let there = entry_to found found_sorted m.0.0 m.0.1 m.1 in
        let is : standing plan.drawn (map (λ e. e.0) given) (label, place) ≡ Some tt =
        subst (λ (k : List ℕ × ℕ). standing plan.drawn (map (λ e. e.0) given) k ≡ Some tt) m.2 (sym (standing_is m.0.0) ∙ there) in
        by (shown_from plan.drawn (label, place) (map (λ e. e.0) given) None is)
      where
        by : (◌≡◌ {A = Option (Unit {0})} None (Some tt)) ⊎ Shown plan.drawn (map (λ e. e.0) given) (label, place) → StandsAt label place
        by (inl e) = absurd cc
        by (inr s) =
            let parts = both (is_place (place_of plan.drawn (county_of_block s.0.1)) place) (bytes_eq s.0.0 label) s.2 in
            let at : place_of plan.drawn (county_of_block s.0.1) ≡ Some place = place_is plan.drawn (place_of plan.drawn (county_of_block s.0.1)) place parts.0 in
            let same : s.0.0 ≡ label = label_same s.0.0 label parts.1 in
            let g = mapped_from (λ (e : GivenBlock). e.0) given s.0 s.1 in
            let item = item_found (λ (set : DrawnSet). contains set.codes (county_of_block s.0.1)) plan.drawn 0 place at in
            let where_is : item.0 ≡ place = omega (arith, item.1) in
            let block = is_listed g.0 g.1 in
            let line : IsGivenTo plan g.0.0.1 g.0.0.0 = (given_from g.0.0.0 g.0.0.1 g.0.1 g.1).0 in
            let code : block.0.code ≡ s.0.1 = block.2 ∙ ap (λ (k : List ℕ × ℕ). k.1) g.2 in
            let set = block.1.0 in
            let there : set_of_county plan.drawn (county_of_block s.0.1) ≡ Some set = ap (λ (c : ℕ). set_of_county plan.drawn (county_of_block c)) (sym code) ∙ block.1.1.1 in (
              set,
              ap (λ (i : ℕ). item_at plan.drawn i) (sym where_is) ∙ sym item.2 ∙ there,
              subst (λ (i : ℕ). i < length plan.drawn) where_is item.3,
              record {
                block = block.0;
                stands = block.1.1;
                given = subst (λ (c : ℕ). IsGivenTo plan c label) (sym block.2) (subst (λ (l : List ℕ). IsGivenTo plan g.0.0.1 l) (ap (λ (k : List ℕ × ℕ). k.0) g.2 ∙ same) line);
              },
            )

    abbrev PlaceOf : List ℕ → DrawnSet → Type 0
    PlaceOf label set = (place : ℕ) × (item_at plan.drawn place ≡ Some set) × Contains places (label, place)

    pub stands_to : (label : List ℕ) (set : DrawnSet) → HasBlockIn plan label set → PlaceOf label set
    stands_to label set h =
        let code = h.block.code in
        let p = place_found (λ (s : DrawnSet). contains s.codes (county_of_block code)) plan.drawn 0 set h.stands.1 in
        let at : place_of plan.drawn (county_of_block code) ≡ Some p.0 = p.1 ∙ (let e : 0 + p.0 ≡ p.0 = omega arith in ap (λ m. Some m) e) in
        let entry = given_to h.block label (set, h.stands) h.given in
        let shown : shows plan.drawn (label, p.0) (label, code) ≡ true =
        both_true (is_place (place_of plan.drawn (county_of_block code)) p.0) (bytes_eq label label) (ap (λ (o : Option ℕ). is_place o p.0) at ∙ number_same p.0 p.0 refl) (same_label label label refl) in
        let there = standing_is (label, p.0) ∙ shown_to plan.drawn (label, p.0) (map (λ e. e.0) given) None (label, code) (mapped_to (λ (e : GivenBlock). e.0) given ((label, code), h.block.people) entry) shown in
        (p.0, p.2, mapped_to (λ (e : (List ℕ × ℕ) × Unit {0}). e.0) found ((label, p.0), tt) (entry_from found found_sorted (label, p.0) tt there))

    -- ---- how many districts stand in a set
    abbrev label_at : ℕ → List ℕ × ℕ → Option (List ℕ)
    label_at place k = if k.1 == place then Some k.0 else None

    labels_at : (place : ℕ) (k : List ℕ × ℕ) (label : List ℕ) → label_at place k ≡ Some label → k ≡ (label, place)
    labels_at place k label is = by (k.1 == place) refl is
      where
        by : (b : Bool) → (k.1 == place) ≡ b → (if b then Some k.0 else None) ≡ Some label → k ≡ (label, place)
        by true t there = let same : k.0 ≡ label = cc in ap (λ l. (l, k.1)) same ∙ ap (λ n. (label, n)) (same_number k.1 place t)
        by false t there = cc

    at_label : (place : ℕ) (label : List ℕ) → label_at place (label, place) ≡ Some label
    at_label place label = ap (λ (b : Bool). if b then Some label else None) (number_same place place refl)

    labels_once : (set : DrawnSet) (place : ℕ) → item_at plan.drawn place ≡ Some set → ((i j : ℕ) (d : DrawnSet) → item_at plan.drawn i ≡ Some d → item_at plan.drawn j ≡ Some d → i ≡ j)
        → EachOnce (λ (label : List ℕ). HasBlockIn plan label set) (filter_map (label_at place) places)
    labels_once set place there alone = record {
      once = pairs_from_apart (filter_map (label_at place) places) (chosen_apart (label_at place) (λ x y label e f. labels_at place x label e ∙ sym (labels_at place y label f)) places (keys_apart found found_sorted));
      are = λ label. (from label, to label);
    }
      where
        from : (label : List ℕ) → Contains (filter_map (label_at place) places) label → HasBlockIn plan label set
        from label h =
            let l = chosen_from (label_at place) places label h in
            let k : Contains places (label, place) = subst (λ (k : List ℕ × ℕ). Contains places k) (labels_at place l.0 label l.2) l.1 in
            let s = stands_from label place k in
            let same : s.0 ≡ set = (let e : Some s.0 ≡ Some set = sym s.1 ∙ there in cc) in
            subst (λ (d : DrawnSet). HasBlockIn plan label d) same s.3

        to : (label : List ℕ) → HasBlockIn plan label set → Contains (filter_map (label_at place) places) label
        to label h =
            let p = stands_to label set h in
            let same : p.0 ≡ place = alone p.0 place set p.1 there in
            chosen_to (label_at place) places (label, place) label (subst (λ (i : ℕ). Contains places (label, i)) same p.2) (at_label place label)

    weights_at : (place : ℕ) (k : List ℕ × ℕ) → weight (λ (l : List ℕ). 1) (label_at place k) ≡ indicator (k.1 == place)
    weights_at place k = by (k.1 == place)
      where
        by : (b : Bool) → weight (λ (l : List ℕ). 1) (if b then Some k.0 else None) ≡ indicator b
        by true = refl
        by false = refl

    labels_length : (place : ℕ) → length (filter_map (label_at place) places) ≡ districts_at place places
    labels_length place =
        sym (total_ones (filter_map (label_at place) places)) ∙ total_chosen (label_at place) (λ (l : List ℕ). 1) places
        ∙ total_same (λ (k : List ℕ × ℕ). weight (λ (l : List ℕ). 1) (label_at place k)) (λ (k : List ℕ × ℕ). indicator (k.1 == place)) places (weights_at place)

    module _ (alone : (i j : ℕ) (d : DrawnSet) → item_at plan.drawn i ≡ Some d → item_at plan.drawn j ≡ Some d → i ≡ j) where
      pub has_districts : (set : DrawnSet) (place : ℕ) → item_at plan.drawn place ≡ Some set → HasDistricts plan set (districts_at place places)
      has_districts set place there = (filter_map (label_at place) places, labels_once set place there alone, labels_length place)

      pub districts_are : (set : DrawnSet) (place count : ℕ) → item_at plan.drawn place ≡ Some set → HasDistricts plan set count → count ≡ districts_at place places
      districts_are set place count there h =
          sym h.2 ∙ sym (total_ones h.0)
          ∙ once_total (λ (label : List ℕ). HasBlockIn plan label set) h.0 (filter_map (label_at place) places) h.1 (labels_once set place there alone) (λ (l : List ℕ). 1)
          ∙ total_ones (filter_map (label_at place) places) ∙ labels_length place
