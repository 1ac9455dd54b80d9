-- The listed blocks that lines in the order of their blocks give to districts.
use Rattle.std.proofs.Common.{◌≡◌, ℕ, suc, ◌==◌, ◌≤◌, ◌&&◌, Bool, true, false, List, [], ◌∷◌, length, map, Contains, Option, Some, None, refl, sym, ap, ◌∙◌, subst, arith, if◌then◌else◌}
use Rattle.std.specs.List.{filter_map, cons_option, list_any, dedup}
use Rattle.std.specs.List.Sorted.{IsSorted, IsPermutation}
use Rattle.std.specs.Option.{option_map}
use Rattle.std.specs.Ordering.{eq_by_cmp, nat_cmp, is_eq}
use Rattle.std.specs.Cmp.Lexicographic.{slice_cmp, texts_ties}
use Rattle.pl94_counties.proofs.CollectLemmas.{tied_same}
use Rattle.std.specs.Str.{bytes_eq}
use Rattle.std.specs.Cmp.{eq_by_cmp_equiv, tied_itself}
use Rattle.std.proofs.lemmas.List.Kept.{Contains-dedup, Contains-from_dedup, IsStrictlySortedBy-dedup}
use Rattle.std.proofs.lemmas.List.Sorted.{list_any-IsPermutation}
use Rattle.baf_auditor.specs.Labels.{assigns}
use Rattle.baf_auditor.specs.Order.{by_block, by_block_total}
use Rattle.baf_auditor.specs.Giving.{gives, giving, given_entry, AreGiven}
use Rattle.baf_auditor.specs.Districts.{GivenBlock}
use Rattle.baf_auditor.specs.declared.assignments.Assignment.{Assignment}
use Rattle.baf_auditor.proofs.ListLemmas.{Apart, pairs_from_apart, chosen_from, chosen_to, chosen_apart, sorted_apart, any_from, any_to}
use Rattle.baf_auditor.proofs.KindLemmas.{both, same_number, number_same}
use Rattle.baf_auditor.proofs.DistrictLemmas.{label_same, same_label, both_true}
use Rattle.baf_auditor.proofs.GivingLemmas.{tied_then}

-- ---- lines with the same block and label
abbrev line_with : ℕ → List ℕ → Assignment
line_with block label = record { block = block; label = label }

line_same : (x y : Assignment) → x.block ≡ y.block → x.label ≡ y.label → x ≡ y
line_same x y block label = ap (λ (b : ℕ). line_with b x.label) block ∙ ap (λ (l : List ℕ). line_with y.block l) label

tied_line : (x y : Assignment) → eq_by_cmp by_block x y ≡ true → x ≡ y
tied_line x y tied =
    let parts = both (is_eq (nat_cmp x.block y.block)) (is_eq (slice_cmp nat_cmp x.label y.label)) (sym (tied_then (nat_cmp x.block y.block) (slice_cmp nat_cmp x.label y.label)) ∙ tied) in
    line_same x y (tied_same x.block y.block parts.0) (label_same x.label y.label (texts_ties x.label y.label ∙ parts.1))

-- ---- the keys of what is chosen
map_chosen : {X Y Z : Type 0} (f : Y → Z) (h : X → Option Y) (xs : List X) → map f (filter_map h xs) ≡ filter_map (λ x. option_map f (h x)) xs
map_chosen f h [] = refl
map_chosen {X = X} {Y = Y} f h (x ∷ xs) = by (h x) (map_chosen f h xs)
  where
    by : (o : Option Y) → map f (filter_map h xs) ≡ filter_map (λ x. option_map f (h x)) xs → map f (cons_option o (filter_map h xs)) ≡ cons_option (option_map f o) (filter_map (λ x. option_map f (h x)) xs)
    by None later = later
    by (Some y) later = ap (λ l. f y ∷ l) later

pub fewer_chosen : {X Y : Type 0} (h : X → Option Y) (xs : List X) → length (filter_map h xs) ≤ length xs
fewer_chosen h [] = omega arith
fewer_chosen {Y = Y} h (x ∷ xs) = by (h x) (fewer_chosen h xs)
  where
    by : (o : Option Y) → length (filter_map h xs) ≤ length xs → length (cons_option o (filter_map h xs)) ≤ suc (length xs)
    by None later = omega (arith, later)
    by (Some y) later = omega (arith, later)

module _ (listed : ℕ → Option ℕ) where
  abbrev IsEntryOf : Assignment → GivenBlock → Type 0
  IsEntryOf line e = (assigns line.label ≡ true) × (listed line.block ≡ Some e.1) × (((line.label, line.block)) ≡ e.0)

  entry_of : (line : Assignment) (e : GivenBlock) → given_entry listed line ≡ Some e → IsEntryOf line e
  entry_of line e is = by (assigns line.label) refl (listed line.block) refl is
    where
      by : (a : Bool) → assigns line.label ≡ a → (o : Option ℕ) → listed line.block ≡ o
          → (if a then option_map (λ (people : ℕ). ((line.label, line.block), people)) o else None) ≡ Some e → IsEntryOf line e
      by true assigned (Some people) there same =
          let own : ◌≡◌ {A = GivenBlock} ((line.label, line.block), people) e = cc in
          (assigned, there ∙ ap (λ (x : GivenBlock). Some x.1) own, ap (λ (x : GivenBlock). x.0) own)
      by true assigned None there same = cc
      by false assigned o there same = cc

  of_entry : (line : Assignment) (people : ℕ) → assigns line.label ≡ true → listed line.block ≡ Some people → given_entry listed line ≡ Some ((line.label, line.block), people)
  of_entry line people assigned there =
      ap (λ (b : Bool). if b then option_map (λ (p : ℕ). ((line.label, line.block), p)) (listed line.block) else None) assigned
      ∙ ap (λ (o : Option ℕ). option_map (λ (p : ℕ). ((line.label, line.block), p)) o) there

  key_of_line : Assignment → Option (List ℕ × ℕ)
  key_of_line line = option_map (λ (e : GivenBlock). e.0) (given_entry listed line)

  key_own : (line : Assignment) (key : List ℕ × ℕ) → option_map (λ (e : GivenBlock). e.0) (given_entry listed line) ≡ Some key → (line.label, line.block) ≡ key
  key_own line key is = by (given_entry listed line) refl is
    where
      by : (o : Option GivenBlock) → given_entry listed line ≡ o → option_map (λ (e : GivenBlock). e.0) o ≡ Some key → (line.label, line.block) ≡ key
      by None there same = cc
      by (Some e) there same = (entry_of line e there).2 ∙ (let own : e.0 ≡ key = cc in own)

  module _ (lines : List Assignment) (sorted : IsSorted by_block lines) where
    abbrev distinct : List Assignment
    distinct = dedup (eq_by_cmp by_block) lines

    keys_once : Apart (map (λ (e : GivenBlock). e.0) (filter_map (given_entry listed) distinct))
    keys_once = subst Apart (sym (map_chosen (λ (e : GivenBlock). e.0) (given_entry listed) distinct))
        (chosen_apart (λ (line : Assignment). option_map (λ (e : GivenBlock). e.0) (given_entry listed line))
        (λ x z key one other. (let same = key_own x key one ∙ sym (key_own z key other) in line_same x z (ap (λ (k : List ℕ × ℕ). k.1) same) (ap (λ (k : List ℕ × ℕ). k.0) same)))
        distinct (sorted_apart by_block (tied_itself by_block_total) distinct (IsStrictlySortedBy-dedup by_block_total (λ x y. refl) lines sorted)))

    from : (key : List ℕ × ℕ) (people : ℕ) → Contains (filter_map (given_entry listed) distinct) (key, people) → giving listed lines key ≡ Some people
    from key people h =
        let l = chosen_from (given_entry listed) distinct (key, people) h in
        let line = l.0 in
        let e = entry_of line (key, people) l.2 in
        let label : line.label ≡ key.0 = ap (λ (k : List ℕ × ℕ). k.0) e.2 in
        let block : line.block ≡ key.1 = ap (λ (k : List ℕ × ℕ). k.1) e.2 in
        let test : gives key line ≡ true = both_true (assigns line.label) (bytes_eq line.label key.0 && line.block == key.1) e.0
        (both_true (bytes_eq line.label key.0) (line.block == key.1) (same_label line.label key.0 label) (number_same line.block key.1 block)) in
        let any = any_to (gives key) lines line (Contains-from_dedup (eq_by_cmp by_block) lines line l.1) test in
        ap (λ (b : Bool). if b then listed key.1 else None) any ∙ ap listed (sym block) ∙ e.1

    to : (key : List ℕ × ℕ) (people : ℕ) → giving listed lines key ≡ Some people → Contains (filter_map (given_entry listed) distinct) (key, people)
    to key people is = by (list_any (gives key) lines) refl is
      where
        by : (b : Bool) → list_any (gives key) lines ≡ b → (if b then listed key.1 else None) ≡ Some people → Contains (filter_map (given_entry listed) distinct) (key, people)
        by false any there = cc
        by true any there =
            let l = any_from (gives key) lines any in
            let line = l.0 in
            let one = both (assigns line.label) (bytes_eq line.label key.0 && line.block == key.1) l.2 in
            let two = both (bytes_eq line.label key.0) (line.block == key.1) one.1 in
            let label : line.label ≡ key.0 = label_same line.label key.0 two.0 in
            let block : line.block ≡ key.1 = same_number line.block key.1 two.1 in
            let key_is : (line.label, line.block) ≡ key = ap (λ (m : List ℕ). (m, line.block)) label ∙ ap (λ (n : ℕ). (key.0, n)) block in
            let entry : given_entry listed line ≡ Some (key, people) = of_entry line people one.0 (ap listed block ∙ there) ∙ ap (λ (k : List ℕ × ℕ). Some (k, people)) key_is in
            chosen_to (given_entry listed) distinct line (key, people) (Contains-dedup (eq_by_cmp_equiv by_block_total) tied_line lines line l.1) entry

    pub are_given : AreGiven listed lines (filter_map (given_entry listed) distinct)
    are_given = record {
      once = pairs_from_apart (map (λ (e : GivenBlock). e.0) (filter_map (given_entry listed) distinct)) keys_once;
      are = λ key people. (from key people, to key people);
    }

-- what is given depends on no order
pub given_same : (listed : ℕ → Option ℕ) (xs ys : List Assignment) (given : List GivenBlock) → IsPermutation xs ys → AreGiven listed ys given → AreGiven listed xs given
given_same listed xs ys given moved are =
    let same : (key : List ℕ × ℕ) → giving listed ys key ≡ giving listed xs key = λ key. ap (λ (b : Bool). if b then listed key.1 else None) (sym (list_any-IsPermutation (gives key) xs ys moved)) in
    record {
      once = are.once;
      are = λ key people. ((λ h. sym (same key) ∙ (are.are key people).0 h), λ is. (are.are key people).1 (same key ∙ is));
    }

pub given_for : (listed : ℕ → Option ℕ) (xs ys : List Assignment) (given own : List GivenBlock) → IsPermutation xs ys → own ≡ given → AreGiven listed ys given → AreGiven listed xs own
given_for listed xs ys given own moved same are = subst (λ (l : List GivenBlock). AreGiven listed xs l) (sym same) (given_same listed xs ys given moved are)
