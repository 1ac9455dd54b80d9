-- What lines in the order of their blocks say of each block.
use Rattle.std.proofs.Common.{◌≡◌, ◌≢◌, ℕ, ◌+◌, ◌==◌, ◌<◌, ◌≤◌, ◌&&◌, Bool, true, false, List, [], ◌∷◌, ◌++◌, length, get_or, Option, Some, None, refl, sym, ap, ◌∙◌, subst, arith, if◌then◌else◌}
use Rattle.std.specs.Prelude.{IfSome, IfNone}
use Rattle.std.specs.List.{All, sum_by as list_sum}
use Rattle.std.specs.List.Sorted.{IsSorted, IsPermutation}
use Rattle.std.specs.Map.{lookup}
use Rattle.std.specs.BTreeMap.{is_at}
use Rattle.std.specs.Ordering.{nat_cmp, is_lt, ordering_then, MatchOrdering}
use Rattle.std.specs.Cmp.{ranked}
use Rattle.std.specs.Cmp.Lexicographic.{slice_cmp}
use Rattle.std.specs.declared.cmp.Ordering.{Ordering}
use Rattle.std.specs.declared.cmp.Ordering.TheVariants.{Less, Equal, Greater}
use Rattle.std.proofs.lemmas.Bool.Decides.{nat_tests}
use Rattle.std.proofs.lemmas.List.{get_or_default}
use Rattle.std.proofs.lemmas.List.Elements.{All-nil, All-from_recursion, recursion_from_All, All-push, All-weaker}
use Rattle.std.proofs.lemmas.List.Sums.{sum_by-cons}
use Rattle.std.proofs.lemmas.List.Sorted.{sorted_far, ranks_by, sum_by-IsPermutation, list_any-IsPermutation}
use Rattle.grouping_laws.specs.Sets.{indicator, sum_by}
use Rattle.baf_auditor.specs.Labels.{assigns}
use Rattle.baf_auditor.specs.Findings.{times_named}
use Rattle.baf_auditor.specs.Order.{by_block, by_block_total}
use Rattle.baf_auditor.specs.Naming.{is_assigned, named_times, naming, named_again, after_line}
use Rattle.baf_auditor.specs.declared.assignments.Assignment.{Assignment}
use Rattle.baf_auditor.specs.declared.line_counts.Named.{Named}
use Rattle.baf_auditor.proofs.EntryLemmas.{InOrder, Before, lookup_last, lookup_before, in_order_last, before_last, before_other}

-- ---- a line is added
abbrev pub Upto : ℕ → List (ℕ × Named) → Type 0
Upto code es = All (λ e. e.0 ≤ code) es

pub record IsAdded (old new : List (ℕ × Named)) (line : Assignment) : Type 0 where
  pub entries : (code : ℕ) → lookup (is_at (nat_cmp code)) new ≡ after_line code (lookup (is_at (nat_cmp code)) old) line
  pub sorted : InOrder new
  pub upto : Upto line.block new

is_added : (old mid : List (ℕ × Named)) (before : Option Named) (line : Assignment) → InOrder mid → Before line.block mid
    → ((c : ℕ) → lookup (is_at (nat_cmp c)) old ≡ (if line.block == c then before else lookup (is_at (nat_cmp c)) mid))
    → IsAdded old (mid ++ (line.block, named_again before line.label) ∷ []) line
is_added old mid before line sorted below was = record {
  entries = λ code. lookup_last mid line.block code (named_again before line.label) below ∙ by code (line.block == code) refl;
  sorted = in_order_last mid line.block (named_again before line.label) sorted below;
  upto = All-push (λ (e : ℕ × Named). e.0 ≤ line.block) mid (line.block, named_again before line.label)
      (All-weaker (λ (e : ℕ × Named). e.0 < line.block) (λ (e : ℕ × Named). e.0 ≤ line.block) (λ e lt. omega (arith, lt)) mid (All-from_recursion (λ (e : ℕ × Named). e.0 < line.block) mid below)) (omega arith);
}
  where
    by : (code : ℕ) (b : Bool) → (line.block == code) ≡ b
        → (if b then Some (named_again before line.label) else lookup (is_at (nat_cmp code)) mid) ≡ (if b then Some (named_again (lookup (is_at (nat_cmp code)) old) line.label) else lookup (is_at (nat_cmp code)) old)
    by code true is = ap (λ (o : Option Named). Some (named_again o line.label)) (sym (was code ∙ ap (λ (b : Bool). if b then before else lookup (is_at (nat_cmp code)) mid) is))
    by code false is = sym (was code ∙ ap (λ (b : Bool). if b then before else lookup (is_at (nat_cmp code)) mid) is)

pub added : (old mid : List (ℕ × Named)) (before : Option Named) (line : Assignment) → InOrder old → Upto line.block old
    → IfSome before (λ n. old ≡ mid ++ (line.block, n) ∷ []) → IfNone before (mid ≡ old)
    → IfNone before ((e : ℕ × Named) (rest : List (ℕ × Named)) → old ≡ rest ++ e ∷ [] → e.0 ≢ line.block)
    → IsAdded old (mid ++ (line.block, named_again before line.label) ∷ []) line
added old mid (Some n) line sorted upto some none other =
    let parts = before_last mid line.block n (subst InOrder some sorted) in
    is_added old mid (Some n) line parts.0 parts.1 (λ c. ap (λ (l : List (ℕ × Named)). lookup (is_at (nat_cmp c)) l) some ∙ lookup_last mid line.block c n parts.1)
added old mid None line sorted upto some none other =
    let before = before_other old line.block sorted (recursion_from_All (λ (e : ℕ × Named). e.0 ≤ line.block) old upto) other in
    let ordered : InOrder mid = subst InOrder (sym none) sorted in
    let below : Before line.block mid = subst (Before line.block) (sym none) before in
    is_added old mid None line ordered below (λ c. ap (λ (l : List (ℕ × Named)). lookup (is_at (nat_cmp c)) l) (sym none) ∙ absent mid below c (line.block == c) refl)
  where
    absent : (es : List (ℕ × Named)) → Before line.block es → (c : ℕ) (b : Bool) → (line.block == c) ≡ b → lookup (is_at (nat_cmp c)) es ≡ (if b then None else lookup (is_at (nat_cmp c)) es)
    absent es below c true is =
        let same : line.block ≡ c = grind (arith, nat_tests, is) in
        subst (λ (n : ℕ). lookup (is_at (nat_cmp n)) es ≡ None) same (lookup_before es line.block below)
    absent es below c false is = refl

-- ---- lines in the order of their blocks
pub ascending : (lines : List Assignment) (i j : ℕ) (d : Assignment) → IsSorted by_block lines → i ≤ j → j < length lines → (get_or lines i d).block ≤ (get_or lines j d).block
ascending lines i j d sorted le in' =
    let far = sorted_far (λ x y. is_lt (by_block x y)) (ranks_by by_block_total (λ (line : Assignment). line)) lines sorted i j d le in' in
    not_after (get_or lines i d) (get_or lines j d) far
  where
    not_after : (x y : Assignment) → is_lt (by_block y x) ≡ false → x.block ≤ y.block
    not_after x y later = by (nat_cmp y.block x.block) (ranked y.block x.block (nat_cmp y.block x.block) refl) later
      where
        by : (r : Ordering) → MatchOrdering r (y.block < x.block) (y.block ≡ x.block) (x.block < y.block) → is_lt (ordering_then r (slice_cmp nat_cmp y.label x.label)) ≡ false → x.block ≤ y.block
        by Less h is = cc
        by Equal h is = omega (arith, h)
        by Greater h is = omega (arith, h)

same_sum : (f : Assignment → ℕ) (xs : List Assignment) → sum_by f xs ≡ list_sum f xs
same_sum f [] = refl
same_sum f (x ∷ xs) = ap (λ (n : ℕ). f x + n) (same_sum f xs) ∙ sym (sum_by-cons f x xs)

-- what is said of a block depends on no order
pub naming_same : (xs ys : List Assignment) (code : ℕ) → IsPermutation xs ys → naming ys code ≡ naming xs code
naming_same xs ys code moved =
    ap (λ (n : ℕ). named_times n (is_assigned ys code))
    (same_sum (λ (line : Assignment). indicator (line.block == code)) ys ∙ sum_by-IsPermutation (λ (line : Assignment). indicator (line.block == code)) xs ys moved ∙ sym (same_sum (λ (line : Assignment). indicator (line.block == code)) xs))
    ∙ ap (λ (b : Bool). named_times (times_named xs code) b) (sym (list_any-IsPermutation (λ (line : Assignment). line.block == code && assigns line.label) xs ys moved))

-- a line is at none of the blocks behind those of a later line
pub upto_later : (lines : List Assignment) (i j : ℕ) (line own d : Assignment) (es : List (ℕ × Named)) → IsSorted by_block lines → i ≤ j → j < length lines
    → line ≡ get_or lines i line → own ≡ line → Upto own.block es → Upto (get_or lines j d).block es
upto_later lines i j line own d es sorted le in' is same upto =
    let rise = ascending lines i j line sorted le in' in
    let here : line.block ≡ (get_or lines i line).block = ap (λ (l : Assignment). l.block) is in
    let there : (get_or lines j line).block ≡ (get_or lines j d).block = ap (λ (l : Assignment). l.block) (get_or_default lines j line d in') in
    let eq : own.block ≡ line.block = ap (λ (l : Assignment). l.block) same in
    All-weaker (λ (e : ℕ × Named). e.0 ≤ own.block) (λ (e : ℕ × Named). e.0 ≤ (get_or lines j d).block) (λ e low. omega (arith, low, rise, here, there, eq)) es upto

pub upto_here : (lines : List Assignment) (i : ℕ) (line own : Assignment) (es : List (ℕ × Named)) → i < length lines → line ≡ get_or lines i line → own ≡ line
    → ((j : ℕ) (d : Assignment) → i ≤ j → j < length lines → Upto (get_or lines j d).block es) → Upto own.block es
upto_here lines i line own es in' is same upto = subst (λ (l : Assignment). Upto l.block es) (sym is ∙ sym same) (upto i line (omega arith) in')

pub none_upto : (es : List (ℕ × Named)) (code : ℕ) → es ≡ [] → Upto code es
none_upto es code is = subst (λ (l : List (ℕ × Named)). Upto code l) (sym is) (All-nil (λ (e : ℕ × Named). e.0 ≤ code))
