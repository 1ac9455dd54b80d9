-- The groups of parts, found part by part and sorted, are those of the state.
use Rattle.std.proofs.Common.{◌≡◌, ℕ, ◌+◌, ◌*◌, ◌≤◌, ◌<◌, Bool, true, List, [], ◌∷◌, ◌++◌, map, take, drop, filter, length, get_or, refl, sym, ap, ◌∙◌, subst, arith, ◌⊎◌, inl, inr, ⊎_elim, All, AllPairs, Contains, None}
use mathlib.Core.Path.{fun_ext}
use Rattle.std.specs.Cmp.Lexicographic.{slice_cmp}
use Rattle.std.specs.Ordering.{nat_cmp, is_lt}
use Rattle.std.specs.List.Sorted.{IsSortedBy, IsPermutation}
use Rattle.std.proofs.lemmas.List.{map-append, take_more, take_all, take-append-drop}
use Rattle.std.proofs.lemmas.List.Sorted.{Contains-permutation, IsPermutation-map, IsPermutation-sym}
use Rattle.place_sets.specs.PlaceSets.{places_of}
use Rattle.place_sets.proofs.Sums.{sum_by-append, often_some}
use Rattle.grouping_laws.specs.Sets.{count, count_in, contains}
use Rattle.grouping_laws.specs.Problem.{Problem, IsProblem}
use Rattle.grouping_laws.specs.Parts.{AreParts}
use Rattle.grouping_laws.specs.GroupsFrom.{IsLesser, IsBefore, place}
use Rattle.grouping_laws.specs.Places.{places_below}
use Rattle.grouping_laws.proofs.Elements.{Has, has_all, has_get, has_append, has_left, has_right, has_from_contains, contains_from_has}
use Rattle.grouping_laws.proofs.Seated.{first_code}
use Rattle.connected_laws.specs.Growing.{sort_key}
use Rattle.connected_laws.specs.Listing.{AreBelow, lists_of}
use Rattle.connected_laws.proofs.Distinct.{distinct_append, distinct_pairs, distinct_from_pairs}
use Rattle.certificate_data.specs.declared.format.Format.TheVariants.{Wide}
use Rattle.certificate_data.specs.Round.{Round}
use Rattle.certificate_laws.specs.State.{State}
use Rattle.certificate_laws.specs.Fitting.{Fits}
use Rattle.certificate_laws.specs.Groups.{IsGroupOf, AreGroupsOf}
use Rattle.certificate_laws.proofs.Completion.{open_rest}
use Rattle.certificate_laws.proofs.SortedKeys.{keys_before}
use Rattle.certificate_laws.proofs.StateLemmas.{own_places}
use Rattle.search_groups.specs.PartGroups.{alone, IsSizeToList}
use Rattle.search_groups.specs.PartLists.{IsPartGroup, ArePartGroups, ArePut}
use Rattle.search_groups.proofs.PartFits.{parts_serve}

-- no list stands before itself
not_lesser : (xs : List ℕ) → IsLesser xs xs → ⊥
not_lesser [] h = h
not_lesser (x ∷ xs) (inl l) = omega arith
not_lesser (x ∷ xs) (inr r) = not_lesser xs r.1

not_before : (order g : List ℕ) → IsBefore order g g → ⊥
not_before order g (inl l) = omega arith
not_before order g (inr r) = not_lesser (map (place order) g) r.1

sorted_once : (order : List ℕ) (groups : List (List ℕ)) → AllPairs (IsBefore order) groups → AllPairs (λ g h. g ≡ h → ⊥) groups
sorted_once order groups sorted = λ i j d l m e. not_before order (get_or groups j d) (subst (λ z. IsBefore order z (get_or groups j d)) e (sorted i j d l m))

-- a code of one of the sets stands in them
stands_some : (c : ℕ) (sets : List (List ℕ)) (g : List ℕ) → Has sets g → contains g c ≡ true → 1 ≤ count_in c sets
stands_some c [] g h e = absurd h
stands_some c (x ∷ xs) g (inl k) e = omega (arith, often_some c x (subst (λ z. contains z c ≡ true) (sym k) e))
stands_some c (x ∷ xs) g (inr h) e = omega (arith, stands_some c xs g h e)

-- a round by places in the wide format
abbrev wide_round : ℕ → Round
wide_round n = record { order = places_below n; limit = 0; target = None; format = Wide; tolerance = None }

pub none_found : (C : Type 0) (test : C → ℕ → Bool) (p : Problem) (n size : ℕ) → ArePartGroups test p n size [] []
none_found C test p n size = record {
  each = λ g. (λ h. absurd (has_from_contains [] g h), λ f. absurd (has_from_contains [] f.fits.part f.fits.there));
  once = λ i j d l m. absurd (omega (arith, m));
  below = λ k d l. absurd (omega (arith, l));
}

module _ (C : Type 0) (test : C → ℕ → Bool) (p : Problem) (n size : ℕ) (parts : List C) (low : AreBelow n test parts) (i : ℕ) (part : C) (there : i < length parts) (at : part ≡ get_or parts i part) where
  abbrev before : List (List ℕ)
  before = lists_of n test (take i parts)

  abbrev own : List ℕ
  own = places_of n (test part)

  abbrev HasRoom : List ℕ → Type 0
  HasRoom xs = (length xs ≡ size) ⊎ (2 * size ≤ length xs)

  onward : before ++ own ∷ [] ≡ lists_of n test (take (i + 1) parts)
  onward = sym (ap (lists_of n test) (take_more parts i part there ∙ ap (λ z. take i parts ++ z ∷ []) (sym at)) ∙ map-append (λ s. places_of n (test s)) (take i parts) (part ∷ []))

  pub part_low : (x : ℕ) → test part x ≡ true → x < n
  part_low = subst (λ z. (x : ℕ) → test z x ≡ true → x < n) (sym at) (has_all (λ z. (x : ℕ) → test z x ≡ true → x < n) parts low (get_or parts i part) (has_get parts i part there))

  own_test : contains own ≡ test part
  own_test = fun_ext (own_places n (test part) part_low)

  -- what was found at the parts before is found at one part more
  still : (g : List ℕ) → IsPartGroup p n size before g → IsPartGroup p n size (before ++ own ∷ []) g
  still g f = record {
    fits = record { part = f.fits.part; there = contains_from_has (before ++ own ∷ []) f.fits.part (has_left before (own ∷ []) f.fits.part (has_from_contains before f.fits.part f.fits.there)); fits = f.fits.fits; room = f.fits.room };
    in_order = f.in_order;
    size_is = f.size_is;
  }

  -- a group of one part more is one of the parts before or of that part
  either : (g : List ℕ) → IsPartGroup p n size (before ++ own ∷ []) g → IsPartGroup p n size before g ⊎ (Fits Wide p (alone (test part) size) g × HasRoom own)
  either g f = go (has_append before (own ∷ []) f.fits.part (has_from_contains (before ++ own ∷ []) f.fits.part f.fits.there))
    where
      go : Has before f.fits.part ⊎ Has (own ∷ []) f.fits.part → IsPartGroup p n size before g ⊎ (Fits Wide p (alone (test part) size) g × HasRoom own)
      go (inl h) = inl (record { fits = record { part = f.fits.part; there = contains_from_has before f.fits.part h; fits = f.fits.fits; room = f.fits.room }; in_order = f.in_order; size_is = f.size_is })
      go (inr (inl e)) = inr (
        subst (λ z. Fits Wide p (alone z size) g) own_test (subst (λ z. Fits Wide p (alone (contains z) size) g) (sym e) f.fits.fits),
        subst HasRoom (sym e) f.fits.room,
      )
      go (inr (inr h)) = absurd h

  pub found_out : (old : List C) → (HasRoom own → ⊥) → ArePartGroups test p n size (take i parts) old → ArePartGroups test p n size (take (i + 1) parts) old
  found_out old none are = record {
    each = λ g. subst (λ z. (Contains (lists_of n test old) g → IsPartGroup p n size z g) × (IsPartGroup p n size z g → Contains (lists_of n test old) g)) onward (
      λ h. still g ((are.each g).0 h),
      λ f. ⊎_elim (λ k. (are.each g).1 k) (λ r. absurd (none r.1)) (either g f),
    );
    once = are.once;
    below = are.below;
  }

  module _ (apart : (c : ℕ) → count_in c (lists_of n test parts) ≤ 1) (room : HasRoom own) (old new : List C) (put : ArePut test p n part size old new) (are : ArePartGroups test p n size (take i parts) old) where
    own_apart : (c : ℕ) → count_in c before + count c own ≤ 1
    own_apart c =
        let whole = ap (λ z. count_in c (lists_of n test z)) (take-append-drop (i + 1) parts) in
        let split = ap (count_in c) (map-append (λ s. places_of n (test s)) (take (i + 1) parts) (drop (i + 1) parts)) in
        omega (arith, apart c, whole, split, sum_by-append (count c) (lists_of n test (take (i + 1) parts)) (lists_of n test (drop (i + 1) parts)), ap (count_in c) onward, sum_by-append (count c) before (own ∷ []))

    of_part : AreGroupsOf p (wide_round n) (alone (test part) size) size put.found
    of_part = put.groups (wide_round n) refl refl

    new_found : (g : List ℕ) → Has put.found g → IsPartGroup p n size (before ++ own ∷ []) g
    new_found g h =
        let r = (of_part.each g).0 (contains_from_has put.found g h) in
        record {
          fits = record {
            part = own;
            there = contains_from_has (before ++ own ∷ []) own (has_right before (own ∷ []) own (inl refl));
            fits = subst (λ z. Fits Wide p (alone z size) g) (sym own_test) r.fits;
            room = room;
          };
          in_order = r.in_order;
          size_is = r.size;
        }

    into : (g : List ℕ) → Contains (lists_of n test new) g → IsPartGroup p n size (before ++ own ∷ []) g
    into g h = ⊎_elim
        (λ k. still g ((are.each g).0 (contains_from_has (lists_of n test old) g k)))
        (new_found g)
        (has_append (lists_of n test old) put.found g (subst (λ z. Has z g) put.more (has_from_contains (lists_of n test new) g h)))

    back : (g : List ℕ) → IsPartGroup p n size (before ++ own ∷ []) g → Contains (lists_of n test new) g
    back g f = contains_from_has (lists_of n test new) g (subst (λ z. Has z g) (sym put.more) (at_one (either g f)))
      where
        at_one : IsPartGroup p n size before g ⊎ (Fits Wide p (alone (test part) size) g × HasRoom own) → Has (lists_of n test old ++ put.found) g
        at_one (inl k) = has_left (lists_of n test old) put.found g (has_from_contains (lists_of n test old) g ((are.each g).1 k))
        at_one (inr r) =
            let is : IsGroupOf p (wide_round n) (alone (test part) size) size g = record {
              fits = r.0;
              in_order = f.in_order;
              size = f.size_is;
            } in
            has_right (lists_of n test old) put.found g (has_from_contains put.found g ((of_part.each g).1 is))

    -- a group isn't found at two parts
    one_part : (g : List ℕ) → Has (lists_of n test old) g → Has put.found g → ⊥
    one_part g h k =
        let f = (are.each g).0 (contains_from_has (lists_of n test old) g h) in
        let r = (of_part.each g).0 (contains_from_has put.found g k) in
        let c = first_code g r.fits.lawful.connected.some_county in
        let one = open_rest (alone (contains f.fits.part) size) (length g) c.0 (f.fits.fits.inside c.0 c.1) in
        let two = open_rest (alone (test part) size) (length g) c.0 (r.fits.inside c.0 c.1) in
        absurd (omega (arith, own_apart c.0, stands_some c.0 before f.fits.part (has_from_contains before f.fits.part f.fits.there) one, often_some c.0 own (ap (λ z. z c.0) own_test ∙ two)))

    pub found_in : ArePartGroups test p n size (take (i + 1) parts) new
    found_in = record {
      each = λ g. subst (λ z. (Contains (lists_of n test new) g → IsPartGroup p n size z g) × (IsPartGroup p n size z g → Contains (lists_of n test new) g)) onward (into g, back g);
      once = subst (AllPairs (λ g h. g ≡ h → ⊥)) (sym put.more) (distinct_pairs (lists_of n test old ++ put.found) (distinct_append (lists_of n test old) put.found (distinct_from_pairs (lists_of n test old) are.once) (distinct_from_pairs put.found (sorted_once (places_below n) put.found of_part.sorted)) one_part));
      below = put.below are.below;
    }

pub all_found : (C : Type 0) (test : C → ℕ → Bool) (p : Problem) (n size : ℕ) (parts groups : List C) (i : ℕ) → length parts ≤ i → ArePartGroups test p n size (take i parts) groups → ArePartGroups test p n size parts groups
all_found C test p n size parts groups i over are = subst (λ z. ArePartGroups test p n size z groups) (take_all i parts over) are

-- the groups of all parts, sorted, are those that fit a state of which the size is next
pub found_groups : (C : Type 0) (test : C → ℕ → Bool) (p : Problem) (n size : ℕ) (s : State) (parts found groups : List C) → IsProblem p → IsSizeToList p s size → AreParts p s.rest (lists_of n test parts) → ArePartGroups test p n size parts found
    → IsPermutation found groups → IsSortedBy (λ g h. is_lt (slice_cmp nat_cmp (sort_key g) (sort_key h))) (lists_of n test groups) → (round : Round) → round.order ≡ places_below n → round.format ≡ Wide
    → AreGroupsOf p round s size (lists_of n test groups)
found_groups C test p n size s parts found groups is next are_parts are moved sorted round order format = record {
  each = λ g. (there g, again g);
  sorted = subst (λ z. AllPairs (IsBefore z) (lists_of n test groups)) (sym order) (keys_before n (lists_of n test found) (lists_of n test groups) are.once permuted sorted (λ g h. (among g h).in_order));
}
  where
    permuted : IsPermutation (lists_of n test found) (lists_of n test groups)
    permuted = IsPermutation-map (λ c. places_of n (test c)) found groups moved

    among : (g : List ℕ) → Contains (lists_of n test groups) g → IsPartGroup p n size (lists_of n test parts) g
    among g h = (are.each g).0 (Contains-permutation (lists_of n test groups) (lists_of n test found) g (IsPermutation-sym (lists_of n test found) (lists_of n test groups) permuted) h)

    there : (g : List ℕ) → Contains (lists_of n test groups) g → IsGroupOf p round s size g
    there g h =
        let f = among g h in
        record {
          fits = subst (λ l. Fits l p s g) (sym format) ((parts_serve p s size (lists_of n test parts) is next are_parts g f.size_is).1 f.fits);
          in_order = subst (λ z. filter (contains g) z ≡ g) (sym order) f.in_order;
          size = f.size_is;
        }

    again : (g : List ℕ) → IsGroupOf p round s size g → Contains (lists_of n test groups) g
    again g f = Contains-permutation (lists_of n test found) (lists_of n test groups) g permuted ((are.each g).1 (record {
      fits = (parts_serve p s size (lists_of n test parts) is next are_parts g f.size).0 (subst (λ l. Fits l p s g) format f.fits);
      in_order = subst (λ z. filter (contains g) z ≡ g) order f.in_order;
      size_is = f.size;
    }))

-- parts inside a region have only places that the region has
pub parts_below : (C : Type 0) (test : C → ℕ → Bool) (n : ℕ) (region : ℕ → Bool) (parts : List C) → ((x : ℕ) → region x ≡ true → x < n) → All (λ s. (x : ℕ) → test s x ≡ true → region x ≡ true) parts → AreBelow n test parts
parts_below C test n region parts below inside = λ k d l x e. below x (inside k d l x e)
