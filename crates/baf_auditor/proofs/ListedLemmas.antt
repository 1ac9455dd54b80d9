-- The listed blocks and their people, in the order of their codes.
use Rattle.std.proofs.Common.{◌≡◌, ℕ, ◌==◌, cond, Bool, true, false, List, [], ◌∷◌, map, Option, Some, None, is_some, refl, sym, ap, ◌∙◌, subst, arith, if◌then◌else◌}
use Rattle.std.specs.List.{filter_map, cons_option, AllByRecursion}
use Rattle.std.specs.List.Sorted.{IsStrictlySortedBy}
use Rattle.std.specs.Map.{lookup}
use Rattle.std.specs.BTreeMap.{is_at}
use Rattle.std.specs.Option.{option_or}
use Rattle.std.specs.Ordering.{nat_cmp, is_eq}
use Rattle.std.specs.declared.cmp.Ordering.TheVariants.{Less}
use Rattle.std.proofs.lemmas.Bool.Decides.{nat_tests}
use Rattle.pl94_counties.specs.declared.blocks.Block.{Block}
use Rattle.baf_auditor.specs.Findings.{DrawnSet, county_of_block}
use Rattle.baf_auditor.specs.Listing.{place_of, entry_in, after_block, after_blocks, listing}
use Rattle.baf_auditor.proofs.EntryLemmas.{InOrder, same_code}

module _ (drawn : List DrawnSet) where
  abbrev pub entries_in : List Block → List (ℕ × ℕ)
  entries_in blocks = filter_map (entry_in drawn) blocks

  -- ---- codes in order
  all_later : (code : ℕ) (blocks : List Block) → AllByRecursion (λ k. nat_cmp code k ≡ Less) (map (λ b. b.code) blocks) → AllByRecursion (λ k. nat_cmp code k ≡ Less) (map (λ e. e.0) (entries_in blocks))
  all_later code [] all = tt
  all_later code (b ∷ bs) all = by (is_some (place_of drawn (county_of_block b.code))) (all_later code bs all.1)
    where
      by : (placed : Bool) → AllByRecursion (λ k. nat_cmp code k ≡ Less) (map (λ e. e.0) (entries_in bs))
          → AllByRecursion (λ k. nat_cmp code k ≡ Less) (map (λ e. e.0) (cons_option (if placed then Some (b.code, b.people) else None) (entries_in bs)))
      by true later = (all.0, later)
      by false later = later

  pub entries_in_order : (blocks : List Block) → IsStrictlySortedBy nat_cmp (map (λ b. b.code) blocks) → InOrder (entries_in blocks)
  unfolding IsStrictlySortedBy
  entries_in_order [] sorted = tt
  entries_in_order (b ∷ bs) sorted = by (is_some (place_of drawn (county_of_block b.code))) (entries_in_order bs sorted.1)
    where
      by : (placed : Bool) → InOrder (entries_in bs) → InOrder (cons_option (if placed then Some (b.code, b.people) else None) (entries_in bs))
      by true later = (all_later b.code bs sorted.0, later)
      by false later = later

  -- ---- what is found
  none_later : (code : ℕ) (es : List (ℕ × ℕ)) → AllByRecursion (λ k. nat_cmp code k ≡ Less) (map (λ e. e.0) es) → lookup (is_at (nat_cmp code)) es ≡ None
  none_later code [] all = refl
  none_later code (e ∷ es) all = ap (λ (b : Bool). cond b (Some e.1) (lookup (is_at (nat_cmp code)) es)) (ap is_eq all.0) ∙ none_later code es all.1

  abbrev Found : ℕ → List Block → Type 0
  Found code blocks = (o : Option ℕ) → after_blocks drawn code o blocks ≡ option_or (lookup (is_at (nat_cmp code)) (entries_in blocks)) o

  found : (code : ℕ) (blocks : List Block) → IsStrictlySortedBy nat_cmp (map (λ b. b.code) blocks) → Found code blocks
  unfolding IsStrictlySortedBy
  found code [] sorted o = refl
  found code (b ∷ bs) sorted o =
      found code bs sorted.1 (after_block drawn code o b) ∙ by (b.code == code) refl (is_some (place_of drawn (county_of_block b.code)))
    where
      none : b.code ≡ code → lookup (is_at (nat_cmp code)) (entries_in bs) ≡ None
      none same = none_later code (entries_in bs) (all_later code bs (subst (λ (n : ℕ). AllByRecursion (λ k. nat_cmp n k ≡ Less) (map (λ c. c.code) bs)) same sorted.0))

      tested : (t : Bool) → (b.code == code) ≡ t → is_eq (nat_cmp code b.code) ≡ t
      tested t is = sym (same_code b.code code) ∙ is

      by : (own : Bool) → (b.code == code) ≡ own → (placed : Bool)
          → option_or (lookup (is_at (nat_cmp code)) (entries_in bs)) (if own then option_or (if placed then Some b.people else None) o else o)
          ≡ option_or (lookup (is_at (nat_cmp code)) (cons_option (if placed then Some (b.code, b.people) else None) (entries_in bs))) o
      by true is true =
          let same : b.code ≡ code = grind (arith, nat_tests, is) in
          ap (λ (r : Option ℕ). option_or r (Some b.people)) (none same)
          ∙ ap (λ (t : Bool). option_or (cond t (Some b.people) (lookup (is_at (nat_cmp code)) (entries_in bs))) o) (sym (tested true is))
      by true is false = refl
      by false is true = ap (λ (t : Bool). option_or (cond t (Some b.people) (lookup (is_at (nat_cmp code)) (entries_in bs))) o) (sym (tested false is))
      by false is false = refl

  pub entries_found : (blocks : List Block) → IsStrictlySortedBy nat_cmp (map (λ b. b.code) blocks) → (code : ℕ) → lookup (is_at (nat_cmp code)) (entries_in blocks) ≡ listing drawn blocks code
  entries_found blocks sorted code = sym (found code blocks sorted None ∙ or_none (lookup (is_at (nat_cmp code)) (entries_in blocks)))
    where
      or_none : (l : Option ℕ) → option_or l None ≡ l
      or_none None = refl
      or_none (Some p) = refl
