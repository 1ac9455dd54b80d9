-- Lists of groups compared group by group.
use Rattle.std.proofs.Common.{◌≡◌, ℕ, ◌+◌, ◌≤◌, ◌<◌, List, [], ◌∷◌, drop, length, get_or, sym, ap, ◌∙◌, arith, Less, Equal, Greater}
use Rattle.std.specs.Cmp.Lexicographic.{slice_cmp}
use Rattle.std.specs.Ordering.{nat_cmp, ordering_then}
use Rattle.std.proofs.lemmas.Bool.Decides.{nat_tests}
use Rattle.std.proofs.lemmas.List.{drop_more, drop_all, length-drop}
use Rattle.county_codes.specs.declared.group.Group.{Group}
use Rattle.grouping_laws.specs.Grouping.{Grouping, sets_of}
use Rattle.list_groupings.specs.Keys.{set_order}

by_length : (m n : ℕ) → nat_cmp m m ≡ Equal
by_length m n = grind (arith, nat_tests)

longer : (m n : ℕ) → m < n → nat_cmp m n ≡ Less
longer m n l = grind (arith, nat_tests)

behind_all : (zs : Grouping) (m n : ℕ) → n ≡ m + length zs → nat_cmp m n ≡ slice_cmp set_order [] (sets_of zs)
behind_all [] m n e = let same : n ≡ m = omega arith in ap (nat_cmp m) same ∙ by_length m n
behind_all (z ∷ zs) m n e = longer m n (omega (arith, e))

length_left : {X : Type 0} (xs : List X) (i : ℕ) → i ≤ length xs → i + length (drop i xs) ≡ length xs
length_left xs i l = omega (arith, length-drop i xs)

-- all groups of the first list were met
pub all_met : (xs ys : Grouping) (i : ℕ) → i ≤ length xs → length xs ≤ i → i ≤ length ys → nat_cmp (length xs) (length ys) ≡ slice_cmp set_order (sets_of (drop i xs)) (sets_of (drop i ys))
all_met xs ys i a b l =
    let size : i ≡ length xs = omega arith in
    behind_all (drop i ys) (length xs) (length ys) (omega (arith, length_left ys i l, size)) ∙ ap (λ (z : Grouping). slice_cmp set_order (sets_of z) (sets_of (drop i ys))) (sym (drop_all i xs b))

first : (xs : Grouping) (i : ℕ) → i < length xs → (x : Group) × (rest : Grouping) × (drop i xs ≡ x ∷ rest)
first [] i l = absurd (omega arith)
first (x ∷ xs) i l = (get_or (x ∷ xs) i x, drop (i + 1) (x ∷ xs), drop_more (x ∷ xs) i x l)

-- the second list ends first
pub ends_first : (xs ys : Grouping) (i : ℕ) → i < length xs → length ys ≤ i → Greater ≡ slice_cmp set_order (sets_of (drop i xs)) (sets_of (drop i ys))
ends_first xs ys i l m =
    sym (ap (λ (z : Grouping). slice_cmp set_order (sets_of z) (sets_of (drop i ys))) (first xs i l).2 ∙ ap (λ (z : Grouping). slice_cmp set_order (sets_of ((first xs i l).0 ∷ (first xs i l).1)) (sets_of z)) (drop_all i ys m))

-- the next groups
pub next_groups : (xs ys : Grouping) (i : ℕ) (x y : Group) → i < length xs → i < length ys → x ≡ get_or xs i x → y ≡ get_or ys i y
    → slice_cmp set_order (sets_of (drop i xs)) (sets_of (drop i ys)) ≡ ordering_then (set_order x.codes y.codes) (slice_cmp set_order (sets_of (drop (i + 1) xs)) (sets_of (drop (i + 1) ys)))
next_groups xs ys i x y l m a b =
    let one : drop i xs ≡ x ∷ drop (i + 1) xs = drop_more xs i x l ∙ ap (λ z. z ∷ drop (i + 1) xs) (sym a) in
    let two : drop i ys ≡ y ∷ drop (i + 1) ys = drop_more ys i y m ∙ ap (λ z. z ∷ drop (i + 1) ys) (sym b) in
    ap (λ (z : Grouping). slice_cmp set_order (sets_of z) (sets_of (drop i ys))) one ∙ ap (λ (z : Grouping). slice_cmp set_order (sets_of (x ∷ drop (i + 1) xs)) (sets_of z)) two
