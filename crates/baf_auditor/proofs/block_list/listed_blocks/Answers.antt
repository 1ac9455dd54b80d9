use Rattle.std.proofs.Common.{◌≡◌, ℕ, List, ap, map, sym, subst, ◌∙◌}
use Rattle.std.specs.List.{filter_map}
use Rattle.std.specs.Map.{lookup}
use Rattle.std.specs.BTreeMap.{is_at}
use Rattle.std.specs.Ordering.{nat_cmp}
use Rattle.std.proofs.lemmas.List.{at_drop_all}
use Rattle.std.proofs.lemmas.Map.Keys.{sorted_from_strictly_increasing}
use Rattle.pl94_counties.specs.declared.blocks.Block.{Block}
use Rattle.baf_auditor.specs.Findings.{drawn_sets}
use Rattle.baf_auditor.specs.Listing.{entry_in}
use Rattle.baf_auditor.proofs.EntryLemmas.{InOrder}
use Rattle.baf_auditor.proofs.LoopLemmas.{step_done}
use Rattle.baf_auditor.proofs.ListedLemmas.{entries_in_order, entries_found}
use Rattle.baf_auditor.proofs.block_list.listed_blocks.Goals as goal

pub returns-clause-entries : goal.returns-clause-entries
returns-clause-entries c =
    let blocks = c.args.blocks.now in
    let drawn = drawn_sets c.args.problem.now c.args.grouping.now.groups.items in
    let is : c.loop-block.listed.items ≡ filter_map (entry_in drawn) blocks =
    step_done c.loop-block.listed.items (at_drop_all (λ (l : List Block). filter_map (entry_in drawn) l) blocks c.loop-block.block-index c.loop-block-test.false) c.loop-block.invariant.listed in
    λ code. ap (λ (es : List (ℕ × ℕ)). lookup (is_at (nat_cmp code)) es) is ∙ entries_found drawn blocks (sorted_from_strictly_increasing (map (λ b. b.code) blocks) c.requires.ascending) code

pub returns-clause-sorted : goal.returns-clause-sorted
returns-clause-sorted c =
    let blocks = c.args.blocks.now in
    let drawn = drawn_sets c.args.problem.now c.args.grouping.now.groups.items in
    let is : c.loop-block.listed.items ≡ filter_map (entry_in drawn) blocks =
    step_done c.loop-block.listed.items (at_drop_all (λ (l : List Block). filter_map (entry_in drawn) l) blocks c.loop-block.block-index c.loop-block-test.false) c.loop-block.invariant.listed in
    subst (λ (es : List (ℕ × ℕ)). InOrder es) (sym is) (entries_in_order drawn blocks (sorted_from_strictly_increasing (map (λ b. b.code) blocks) c.requires.ascending))
