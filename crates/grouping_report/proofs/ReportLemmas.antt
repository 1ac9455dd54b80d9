-- The lines of a report.
use Rattle.std.proofs.Common.{◌≡◌, ℕ, suc, ◌+◌, ◌<◌, ◌==◌, Bool, true, false, cond, ◌∷◌, ◌++◌, length, drop, drop-cons, get_or, refl, sym, ap, ◌∙◌, subst, arith}
use Rattle.std.specs.List.{count_by}
use Rattle.std.proofs.lemmas.List.Recursion.{is_count_by}
use Rattle.county_codes.specs.declared.group.Group.{Group}
use Rattle.grouping_laws.specs.Sets.{indicator, count, count_in}
use Rattle.grouping_laws.specs.Problem.{Problem, people_of}
use Rattle.grouping_laws.specs.Grouping.{Grouping, sets_of, counts}
use Rattle.grouping_report.specs.Report.{group_line, group_lines}

-- the rest of groups begins with the one at its place
rest_at : (g : Grouping) (i : ℕ) (s : Group) → i < length g → s ≡ get_or g i s → drop i g ≡ s ∷ drop (i + 1) g
rest_at g i s inside is =
    let next : suc i ≡ i + 1 = omega arith in
    subst (λ k. drop i g ≡ s ∷ drop k g) next (drop-cons g i s inside ∙ ap (λ z. z ∷ drop (suc i) g) (sym is))

-- the lines from a group on begin with its line
pub lines_at : (p : Problem) (g : Grouping) (i n : ℕ) (s : Group) → i < length g → s ≡ get_or g i s
    → group_lines p n (drop i g) ≡ group_line n s.seats (people_of p s.codes) s.codes ++ group_lines p (n + 1) (drop (i + 1) g)
lines_at p g i n s inside is = ap (group_lines p n) (rest_at g i s inside is)

-- and how often a code stands from there on
pub stands_at : (g : Grouping) (i : ℕ) (s : Group) (c : ℕ) → i < length g → s ≡ get_or g i s
    → count_in c (sets_of (drop i g)) ≡ count c s.codes + count_in c (sets_of (drop (i + 1) g))
stands_at g i s c inside is = ap (λ z. count_in c (sets_of z)) (rest_at g i s inside is)

digit_more : (b : Bool) (n : ℕ) → indicator b + n ≡ cond b (1 + n) n
digit_more true n = refl
digit_more false n = omega arith

-- how many groups have `size` codes, counted one by one
pub count_of_size : (g : Grouping) (size : ℕ) → count_by (λ s. length s.codes == size) g ≡ counts (sets_of g) size
count_of_size g size =
    sym (is_count_by (λ h. counts (sets_of h) size) (λ s. length s.codes == size) refl (λ s ss. digit_more (length s.codes == size) (counts (sets_of ss) size)) g)
