use Rattle.std.proofs.Common.{◌+◌, ◌∙◌, ℕ, List, Option, ap, arith, drop, sym}
use Rattle.std.specs.Map.{lookup}
use Rattle.std.specs.BTreeMap.{is_at}
use Rattle.std.specs.Ordering.{nat_cmp}
use Rattle.baf_auditor.specs.Naming.{after_line}
use Rattle.baf_auditor.specs.declared.assignments.Assignment.{Assignment}
use Rattle.baf_auditor.specs.declared.line_counts.Named.{Named}
use Rattle.baf_auditor.proofs.EntryLemmas.{none_in_order}
use Rattle.baf_auditor.proofs.LineLemmas.{upto_later, upto_here, none_upto}
use Rattle.baf_auditor.proofs.LoopLemmas.{from_read}
use Rattle.baf_auditor.proofs.NamingLemmas.{after_lines, said_of}
use Rattle.baf_auditor.proofs.line_counts.named_blocks.Goals as goal

pub loop-line-init : goal.loop-line-init
loop-line-init c = record {
  said = λ code. ap (λ (es : List (ℕ × Named)). after_lines code (lookup (is_at (nat_cmp code)) es) c.args.lines.now) c.new-named.ensures.items ∙ said_of code c.args.lines.now;
  sorted = none_in_order _ c.new-named.ensures.items;
  before = λ i d le in'. none_upto _ _ c.new-named.ensures.items;
}

pub loop-line-preserved : goal.loop-line-preserved
loop-line-preserved c =
    let lines = c.args.lines.now in
    let i = c.loop-line.line-index in
    let old = c.loop-line.named.items in
    record {
      said = λ code.
          ap (λ (o : Option Named). after_lines code o (drop (i + 1) lines))
          (c.in_ok-add_line.ensures.entries code ∙ ap (λ (l : Assignment). after_line code (lookup (is_at (nat_cmp code)) old) l) c.line.view_is)
          ∙ sym (from_read (after_lines code (lookup (is_at (nat_cmp code)) old)) lines i c.line-item.result c.loop-line-test.true c.line-item.is)
          ∙ c.loop-line.invariant.said code;
      sorted = c.in_ok-add_line.ensures.sorted;
      before = λ j d le in'. upto_later lines i j c.line-item.result c.line.inside.assignment.now d _ c.requires (omega (arith, le)) in' c.line-item.is c.line.view_is c.in_ok-add_line.ensures.before;
    }

pub add_line-requires-clause-before : goal.add_line-requires-clause-before
add_line-requires-clause-before c =
    upto_here c.args.lines.now c.loop-line.line-index c.line-item.result c.line.inside.assignment.now _ c.loop-line-test.true c.line-item.is c.line.view_is c.loop-line.invariant.before
