-- Groups that are read fit on their lines, and groups that fit are read.
use Rattle.std.proofs.Common.{◌≡◌, ℕ, zero, suc, ◌+◌, ◌-◌, ◌≤◌, true, List, [], ◌∷◌, ◌++◌, length, map, Result, Ok, Err, refl, sym, ap, subst, ◌∙◌, arith, append_assoc, append-nil}
use Rattle.std.specs.List.{join_with_byte}
use Rattle.field_lines.specs.RawPieces.{RawLine, raw_lines_from}
use Rattle.county_codes.specs.declared.group.Group.{Group}
use Rattle.grouping_laws.specs.Grouping.{Grouping}
use Rattle.certificate_lines.specs.Fitting.{IsSet, AllFit}
use Rattle.certificate_lines.specs.Items.{by_words, seen, groups_wanted}
use Rattle.certificate_lines.specs.Lines.{group_on}
use Rattle.certificate_lines.specs.Spelling.{item_words, item_line, text_of_items}
use Rattle.certificate_lines.specs.declared.fault.TextFault.{TextFault}
use Rattle.certificate_lines.specs.declared.fault.TextKind.{TextKind}
use Rattle.certificate_lines.specs.declared.item.Item.{Item}
use Rattle.certificate_lines.specs.declared.item.Item.TheVariants.{Grouped}
use Rattle.certificate_lines.specs.declared.item.Wanted.{Wanted}
use Rattle.certificate_lines.specs.declared.item.Wanted.TheVariants as want
use Rattle.certificate_lines.proofs.FitsLaws.{item_fits}
use Rattle.certificate_lines.proofs.TextLaws.{seen_ok}
use Rattle.certificate_text.proofs.LoopLaws.{runs_more}
use Rattle.certificate_text.proofs.TextBack.{fits_line, line_cut}
use Rattle.worker_texts.specs.RoundReading.{groups_before, groups_from}
use Rattle.worker_texts.proofs.GroupLines.{groups_by_line}

-- the group's numbers are in the ranges of its line
abbrev pub FitsGroup : Group → Type 0
FitsGroup group = (group.seats ≤ 65535) × IsSet group.codes

wanted_first : (left : ℕ) → groups_wanted (suc left) ≡ want.Groups (suc left) ∷ []
wanted_first left = runs_more want.Groups (suc left) (omega arith)

wanted_behind : (left : ℕ) → groups_wanted (suc left - 1) ++ [] ≡ groups_wanted left
wanted_behind left =
    let same : suc left - 1 ≡ left = omega arith in
    append-nil (groups_wanted (suc left - 1)) ∙ ap groups_wanted same

module _ (left : ℕ) (group : Group) (groups : Grouping) where
  fit_more : FitsGroup group → AllFit (groups_wanted left) (map Grouped groups) → AllFit (groups_wanted (suc left)) (map Grouped (group ∷ groups))
  fit_more first later =
      subst (λ (w : List Wanted). AllFit w (map Grouped (group ∷ groups))) (sym (wanted_first left))
      (first, subst (λ (w : List Wanted). AllFit w (map Grouped groups)) (sym (wanted_behind left)) later)

  fit_less : AllFit (groups_wanted (suc left)) (map Grouped (group ∷ groups)) → FitsGroup group × AllFit (groups_wanted left) (map Grouped groups)
  fit_less all =
      let parts = subst (λ (w : List Wanted). AllFit w (map Grouped (group ∷ groups))) (wanted_first left) all in
      (parts.0, subst (λ (w : List Wanted). AllFit w (map Grouped groups)) (wanted_behind left) parts.1)

-- groups that fit, with their number
pub record AreGroups (left : ℕ) (groups : Grouping) : Type 0 where
  pub number : length groups ≡ left
  pub each : AllFit (groups_wanted left) (map Grouped groups)

record Behind (groups : Grouping) (r : Result Grouping TextFault) (all : Grouping) : Type 0 where
  later : Grouping
  is : r ≡ Ok later
  all_is : groups ++ later ≡ all

behind_ok : (groups : Grouping) (r : Result Grouping TextFault) (all : Grouping) → groups_before groups r ≡ Ok all → Behind groups r all
behind_ok groups (Ok later) all h = record { later = later; is = refl; all_is = cc }
behind_ok groups (Err fault) all h = cc

pub groups_fit : (left n : ℕ) (pieces : List RawLine) (groups : Grouping) → groups_from left n pieces ≡ Ok groups → AreGroups left groups
groups_fit zero n pieces groups h =
    let none : [] ≡ groups = cc in
    subst (AreGroups 0) none (record { number = refl; each = tt })
groups_fit (suc left) n [] groups h = cc
groups_fit (suc left) n (piece ∷ pieces) groups h = go (λ gs e. groups_fit left (n + 1) pieces gs e) (by_words group_on piece) refl h
  where
    go : ((gs : Grouping) → groups_from left (n + 1) pieces ≡ Ok gs → AreGroups left gs) → (r : Result Group TextKind) → by_words group_on piece ≡ r
        → groups_by_line left n pieces r ≡ Ok groups → AreGroups (suc left) groups
    go later (Ok group) e k =
        let b = behind_ok (group ∷ []) (groups_from left (n + 1) pieces) groups k in
        let rest = later b.later b.is in
        let fits : FitsGroup group = item_fits (want.Groups 0) piece (Grouped group) (ap (seen Grouped) e) in
        subst (AreGroups (suc left)) b.all_is (record { number = omega (arith, rest.number); each = fit_more left group b.later fits rest.each })
    go later (Err kind) e k = cc

-- a line of a group that fits is read as that group
group_back : (n : ℕ) (group : Group) → FitsGroup group → by_words group_on (record { number = n; bytes = join_with_byte 32 (item_words (Grouped group)); ended = true }) ≡ Ok group
group_back n group fits =
    let line : RawLine = record { number = n; bytes = join_with_byte 32 (item_words (Grouped group)); ended = true } in
    let s = seen_ok Grouped (by_words group_on line) (Grouped group) (fits_line n (want.Groups 0) (Grouped group) fits).read in
    let same : s.value ≡ group = told s.value group s.view_is in
    s.first ∙ ap (λ (g : Group). Ok g) same
  where
    told : (a b : Group) → ◌≡◌ {A = Item} (Grouped a) (Grouped b) → a ≡ b
    told a b h = cc

pub groups_back : (left n : ℕ) (groups : Grouping) (rest : List ℕ) → length groups ≡ left → AllFit (groups_wanted left) (map Grouped groups)
    → groups_from left n (raw_lines_from n (text_of_items (map Grouped groups) ++ rest)) ≡ Ok groups
groups_back zero n [] rest many fit = refl
groups_back zero n (group ∷ groups) rest many fit = absurd (omega (arith, many))
groups_back (suc left) n [] rest many fit = absurd (omega (arith, many))
groups_back (suc left) n (group ∷ groups) rest many fit =
    let parts = fit_less left group groups fit in
    let bytes = join_with_byte 32 (item_words (Grouped group)) in
    let behind = text_of_items (map Grouped groups) ++ rest in
    let printed = (fits_line n (want.Groups 0) (Grouped group) parts.0).printed in
    ap (λ (t : List ℕ). groups_from (suc left) n (raw_lines_from n t)) (append_assoc (item_line (Grouped group)) (text_of_items (map Grouped groups)) rest ∙ append_assoc bytes (10 ∷ []) behind)
    ∙ (ap (groups_from (suc left) n) (line_cut n bytes behind printed)
    ∙ (ap (groups_by_line left n (raw_lines_from (n + 1) behind)) (group_back n group parts.0)
    ∙ ap (groups_before (group ∷ [])) (groups_back left (n + 1) groups rest (omega (arith, many)) parts.1)))
