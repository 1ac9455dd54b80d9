use Rattle.std.proofs.Common.{◌≡◌, ◌≤◌, ℕ, List, length, arith, rules, subst, sym, ◌∙◌, ap}
use Rattle.std.specs.List.{filter_map, dedup}
use Rattle.std.specs.Map.{lookup}
use Rattle.std.specs.BTreeMap.{is_at}
use Rattle.std.specs.Ordering.{nat_cmp, eq_by_cmp}
use Rattle.std.proofs.lemmas.List.Filters.{dedup_is}
use Rattle.std.proofs.lemmas.Result.{IfOk-weaker}
use Rattle.baf_auditor.specs.Order.{by_block}
use Rattle.baf_auditor.specs.Giving.{given_entry, AreGiven}
use Rattle.baf_auditor.specs.Districts.{GivenBlock}
use Rattle.baf_auditor.specs.declared.assignments.Assignment.{Assignment}
use Rattle.baf_auditor.proofs.GivenLemmas.{fewer_chosen, are_given}
use Rattle.baf_auditor.proofs.district_blocks.given_blocks.Goals as goal

pub returns-clause-given : goal.returns-clause-given
returns-clause-given c =
    let listed = λ (code : ℕ). lookup (is_at (nat_cmp code)) c.args.listed.items in
    let lines = c.args.lines.items in
    let own : c.deref.result.now ≡ c.args.listed.items = search rules in
    let kept : c.deref-2.result.now ≡ dedup (eq_by_cmp by_block) lines = c.deref-2.ensures.value ∙ dedup_is (eq_by_cmp by_block) lines c.dedup.new.self.items c.dedup.ensures.filtered in
    IfOk-weaker c.given_entries.result _ _
    (λ v is. subst (λ (l : List GivenBlock). AreGiven listed lines l) (sym (is
    ∙ ap (λ (es : List (ℕ × ℕ)). filter_map (given_entry (λ (code : ℕ). lookup (is_at (nat_cmp code)) es)) c.deref-2.result.now) own
    ∙ ap (λ (l : List Assignment). filter_map (given_entry listed) l) kept)) (are_given listed lines c.requires.ordered))
    c.given_entries.ensures

pub returns-clause-few : goal.returns-clause-few
returns-clause-few c =
    let listed = λ (code : ℕ). lookup (is_at (nat_cmp code)) c.deref.result.now in
    let bound : length c.deref-2.result.now ≤ length c.args.lines.items = search rules in
    IfOk-weaker c.given_entries.result _ _
    (λ v is. (let few = fewer_chosen (given_entry listed) c.deref-2.result.now in let same = ap (λ (l : List GivenBlock). length l) is in omega (arith, few, same, bound)))
    c.given_entries.ensures
