-- Partial trees that fit, part by part.
use Rattle.std.proofs.Common.{◌≡◌, ◌↔◌, ℕ, zero, suc, ◌-◌, Bool, true, false, List, [], ◌∷◌, ◌++◌, length, map, Option, refl, sym, subst, append_assoc, arith}
use Rattle.certificate_data.specs.declared.format.Format.{Format}
use Rattle.certificate_data.specs.Tree.{Allowance, Tree, leaf, stuck, seats, bound, branch, Takes, no_take, take}
use Rattle.certificate_data.specs.TreeValue.{declared_allowance}
use Rattle.certificate_laws.specs.Depth.{after_raise}
use Rattle.certificate_lines.specs.Items.{allowances_wanted}
use Rattle.certificate_lines.specs.Fitting.{IsWanted, IsSet, AllFit}
use Rattle.certificate_lines.specs.Writing.{DontFit}
use Rattle.certificate_lines.specs.declared.item.Opening.TheVariants as opening
use Rattle.certificate_lines.specs.declared.item.Item.{Item}
use Rattle.certificate_lines.specs.declared.item.Item.TheVariants as item
use Rattle.certificate_lines.specs.declared.item.Wanted.{Wanted}
use Rattle.certificate_lines.specs.declared.item.Wanted.TheVariants as want
use Rattle.certificate_lines.proofs.ReadLaws.{allowances_more}
use Rattle.certificate_text.specs.Trees.{items_of_tree, items_of_takes}
use Rattle.certificate_text.specs.Tests.{Fitting, Tests}
use Rattle.certificate_text.proofs.FitLaws.{fitting_then, fitting_with, refused_with, refused_after, fitting_line, line_refused}

-- the same fits where items are put together in another way
regrouped : (old new : List Wanted) (xs ys : List Item) → xs ≡ ys → (AllFit old ys ↔ AllFit new ys) → AllFit old xs ↔ AllFit new xs
regrouped old new xs ys e k = (λ h. subst (AllFit new) (sym e) (k.0 (subst (AllFit old) e h)), λ h. subst (AllFit old) (sym e) (k.1 (subst (AllFit new) e h)))

-- lines of a bound leaf fit before what fits elsewhere
line_as : (n : ℕ) (line : Allowance) (old new : List Wanted) (later : List Item) → (AllFit (allowances_wanted n ++ old) later → AllFit (allowances_wanted n ++ new) later)
    → AllFit (allowances_wanted (suc n) ++ old) (item.Allows (declared_allowance line) ∷ later) → AllFit (allowances_wanted (suc n) ++ new) (item.Allows (declared_allowance line) ∷ later)
line_as n line old new later k h =
    let left : suc n - 1 ≡ n = omega arith in
    let first = subst (λ (l : List Wanted). AllFit (l ++ old) (item.Allows (declared_allowance line) ∷ later)) (allowances_more (suc n) (omega arith)) h in
    let rest = k (subst (λ (j : ℕ). AllFit (allowances_wanted j ++ old) later) left first.1) in
    let both : AllFit (want.Allowances (suc n) ∷ new) (item.Allows (declared_allowance line) ∷ later) = (first.0, subst (λ (j : ℕ). AllFit (allowances_wanted j ++ new) later) (sym left) rest) in
    subst (λ (l : List Wanted). AllFit (l ++ new) (item.Allows (declared_allowance line) ∷ later)) (sym (allowances_more (suc n) (omega arith))) both

lines_as : (n : ℕ) (lines : List Allowance) (old new : List Wanted) (later : List Item) → length lines ≡ n → (AllFit old later ↔ AllFit new later)
    → AllFit (allowances_wanted n ++ old) (map (λ a. item.Allows (declared_allowance a)) lines ++ later) ↔ AllFit (allowances_wanted n ++ new) (map (λ a. item.Allows (declared_allowance a)) lines ++ later)
lines_as zero [] old new later many k = k
lines_as zero (line ∷ lines) old new later many k = absurd (omega (arith, many))
lines_as (suc n) [] old new later many k = absurd (omega (arith, many))
lines_as (suc n) (line ∷ lines) old new later many k =
    let items = map (λ a. item.Allows (declared_allowance a)) lines ++ later in
    let rest = lines_as n lines old new later (omega (arith, many)) k in
    (line_as n line old new items rest.0, line_as n line new old items rest.1)

-- the items of a tree fit as those of a partial tree just where they fit as its own
mutual
  pub as_part : (format : Format) (levels : ℕ) (t : Tree) (old new : List Wanted) (later : List Item) → (AllFit old later ↔ AllFit new later)
      → AllFit (want.Tree format levels ∷ old) (items_of_tree t ++ later) ↔ AllFit (want.Part format levels ∷ new) (items_of_tree t ++ later)
  as_part format levels (leaf (stuck c)) old new later k = (λ h. (h.0, k.0 h.1), λ h. (h.0, k.1 h.1))
  as_part format levels (leaf seats) old new later k = (λ h. (h.0, k.0 h.1), λ h. (h.0, k.1 h.1))
  as_part format levels (leaf (bound lines)) old new later k =
      let rest = lines_as (length lines) lines old new later refl k in
      (λ h. (h.0, rest.0 h.1), λ h. (h.0, rest.1 h.1))
  as_part format levels (branch c j ts t) old new later k =
      let rest = regrouped (want.Takes format levels ∷ old) (want.PartTakes format levels ∷ new) ((items_of_takes ts ++ item.Mark ∷ items_of_tree t) ++ later) (items_of_takes ts ++ item.Mark ∷ (items_of_tree t ++ later)) (append_assoc (items_of_takes ts) (item.Mark ∷ items_of_tree t) later)
      (as_part_takes format levels ts old new (items_of_tree t ++ later) (as_part format (after_raise format levels) t old new later k)) in
      (λ h. (h.0, rest.0 h.1), λ h. (h.0, rest.1 h.1))

  as_part_takes : (format : Format) (levels : ℕ) (ts : Takes) (old new : List Wanted) (later : List Item)
      → (AllFit (want.Tree format (after_raise format levels) ∷ old) later ↔ AllFit (want.Part format (after_raise format levels) ∷ new) later)
      → AllFit (want.Takes format levels ∷ old) (items_of_takes ts ++ item.Mark ∷ later) ↔ AllFit (want.PartTakes format levels ∷ new) (items_of_takes ts ++ item.Mark ∷ later)
  as_part_takes format levels no_take old new later k = (λ h. (h.0, k.0 h.1), λ h. (h.0, k.1 h.1))
  as_part_takes format levels (take cs t ts) old new later k =
      let behind = items_of_takes ts ++ item.Mark ∷ later in
      let rest = regrouped (want.Tree format (levels - 1) ∷ want.Takes format levels ∷ old) (want.Part format (levels - 1) ∷ want.PartTakes format levels ∷ new) ((items_of_tree t ++ items_of_takes ts) ++ item.Mark ∷ later) (items_of_tree t ++ behind) (append_assoc (items_of_tree t) (items_of_takes ts) (item.Mark ∷ later))
      (as_part format (levels - 1) t (want.Takes format levels ∷ old) (want.PartTakes format levels ∷ new) behind (as_part_takes format levels ts old new later k)) in
      (λ h. (h.0, rest.0 h.1), λ h. (h.0, rest.1 h.1))

-- a whole tree fits where a partial tree is wanted just where it fits as a tree
pub whole_tested : (format : Format) (levels : ℕ) (t : Tree) (r : Bool) → Tests (want.Tree format levels ∷ []) (items_of_tree t) [] r → Tests (want.Part format levels ∷ []) (items_of_tree t) [] r
whole_tested format levels t true h = record {
  fits = λ more later f. (as_part format levels t more more later (λ x. x, λ x. x)).0 (h.fits more later f);
  rest = λ more later f. h.rest more later ((as_part format levels t more more later (λ x. x, λ x. x)).1 f);
}
whole_tested format levels t false h = λ more later f. h more later ((as_part format levels t more more later (λ x. x, λ x. x)).1 f)

pub open_fitting : (format : Format) (levels : ℕ) → Fitting (want.Part format levels ∷ []) (item.Open ∷ []) []
open_fitting format levels = fitting_line (want.Part format levels) item.Open tt

-- a take and its partial tree
module _ (format : Format) (k : ℕ) (cs : List ℕ) (inside : List Item) where
  take_first : IsSet cs → Fitting (want.PartTakes format k ∷ []) (item.Takes cs ∷ []) (want.Part format (k - 1) ∷ want.PartTakes format k ∷ [])
  take_first is = fitting_line (want.PartTakes format k) (item.Takes cs) is

  pub take_fitting : IsSet cs → Fitting (want.Part format (k - 1) ∷ []) inside [] → Fitting (want.PartTakes format k ∷ []) (item.Takes cs ∷ inside) (want.PartTakes format k ∷ [])
  take_fitting is h =
      fitting_then (want.PartTakes format k ∷ []) (want.Part format (k - 1) ∷ want.PartTakes format k ∷ []) (want.PartTakes format k ∷ []) (item.Takes cs ∷ []) inside (take_first is)
      (fitting_with (want.Part format (k - 1) ∷ []) [] (want.PartTakes format k ∷ []) inside h)

  pub take_unfit : (IsSet cs → ⊥) → DontFit (want.PartTakes format k ∷ []) (item.Takes cs ∷ inside)
  take_unfit unfit = line_refused (want.PartTakes format k) [] (item.Takes cs) inside unfit

  pub take_refused : IsSet cs → DontFit (want.Part format (k - 1) ∷ []) inside → DontFit (want.PartTakes format k ∷ []) (item.Takes cs ∷ inside)
  take_refused is unfit =
      refused_after (want.PartTakes format k ∷ []) (want.Part format (k - 1) ∷ want.PartTakes format k ∷ []) (item.Takes cs ∷ []) inside (take_first is)
      (refused_with (want.Part format (k - 1) ∷ []) (want.PartTakes format k ∷ []) inside unfit)

-- a branch and its takes
module _ (format : Format) (k county : ℕ) (limit : Option ℕ) (inside : List Item) where
  pub branch_fitting : IsWanted (want.Part format k) (item.Opens (opening.Branch county limit)) → Fitting (want.PartTakes format k ∷ []) inside (want.Part format (after_raise format k) ∷ [])
      → Fitting (want.Part format k ∷ []) (item.Opens (opening.Branch county limit) ∷ inside) (want.Part format (after_raise format k) ∷ [])
  branch_fitting fit h =
      fitting_then (want.Part format k ∷ []) (want.PartTakes format k ∷ []) (want.Part format (after_raise format k) ∷ []) (item.Opens (opening.Branch county limit) ∷ []) inside
      (fitting_line (want.Part format k) (item.Opens (opening.Branch county limit)) fit) h

  pub branch_unfit : (IsWanted (want.Part format k) (item.Opens (opening.Branch county limit)) → ⊥) → DontFit (want.Part format k ∷ []) (item.Opens (opening.Branch county limit) ∷ inside)
  branch_unfit unfit = line_refused (want.Part format k) [] (item.Opens (opening.Branch county limit)) inside unfit

  pub branch_refused : IsWanted (want.Part format k) (item.Opens (opening.Branch county limit)) → DontFit (want.PartTakes format k ∷ []) inside → DontFit (want.Part format k ∷ []) (item.Opens (opening.Branch county limit) ∷ inside)
  branch_refused fit unfit =
      refused_after (want.Part format k ∷ []) (want.PartTakes format k ∷ []) (item.Opens (opening.Branch county limit) ∷ []) inside
      (fitting_line (want.Part format k) (item.Opens (opening.Branch county limit)) fit) unfit
