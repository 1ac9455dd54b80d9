use Rattle.std.proofs.Common.{◌≡◌, ◌≢◌, ◌<◌, ◌≤◌, ◌-◌, ℕ, zero, suc, List, length, map, get_or, rules, Option, Some, None, refl, sym, ap, ◌∙◌, arith}
use Rattle.std.specs.Prelude.{MatchOption, option_map, slice_get}
use Rattle.std.specs.Borrow.{Bor}
use Rattle.std.proofs.lemmas.Option.{slice_get-get_or, slice_get-map, slice_get_past}
use Rattle.county_codes.specs.declared.group.Grouping.{Grouping as GroupingHeld}
use Rattle.list_groupings.specs.Walking.{sets_held}
use Rattle.run_laws.specs.ListSteps.{grouping_numbered}
use Rattle.cli_reports.proofs.listing_report.numbered.Goals as goal

-- what `get` gives
got_at : (xs : List GroupingHeld) (i : ℕ) (r : Option (Bor GroupingHeld)) → MatchOption r (length xs ≤ i) (λ x. (i < length xs) × ((d : GroupingHeld) → x.now ≡ get_or xs i d))
    → option_map (λ x. x.now) r ≡ slice_get xs i
got_at xs i None past = sym (slice_get_past xs i past)
got_at xs i (Some x) at = ap Some (at.1 x.now) ∙ sym (slice_get-get_or xs i x.now at.0)

-- the item of a number above 0 stands one place lower
at_number : (xs : List GroupingHeld) (n : ℕ) → n ≢ 0 → option_map sets_held (slice_get xs (n - 1)) ≡ grouping_numbered (map sets_held xs) n
at_number xs zero not = absurd (not refl)
at_number xs (suc n) not =
    let same : suc n - 1 ≡ n = omega arith in
    ap (λ (k : ℕ). option_map sets_held (slice_get xs k)) same ∙ sym (slice_get-map sets_held xs n)

seen : (r : Option (Bor GroupingHeld)) → option_map (λ g. sets_held g.now) r ≡ option_map sets_held (option_map (λ x. x.now) r)
seen None = refl
seen (Some x) = refl

pub returns : goal.returns
returns c =
    let xs = c.args.groupings.now in
    seen c.get.result ∙ ap (option_map sets_held) (got_at xs (c.args.number - 1) c.get.result c.get.ensures.lookup.3)
    ∙ at_number xs c.args.number (search rules)
