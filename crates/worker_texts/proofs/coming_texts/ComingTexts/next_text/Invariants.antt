use Rattle.std.proofs.Common.{◌-◌, ◌≡◌, ◌≤◌, ◌⊎◌, false, length, if◌then◌else◌}
use Rattle.worker_texts.specs.TextForms.{PullsOnto, BeginsWithText}
use Rattle.worker_texts.proofs.coming_texts.ComingTexts.next_text.Given as goal

-- what was pulled stands behind what was held, and nothing was read
abbrev pub invariant-loop-text : goal.invariant-loop-text
invariant-loop-text g l = record {
  pulls : PullsOnto (g.S.Source.given l.fn.source) (g.S.Source.given l.source) l.fn.self.bytes l.self.bytes;
  lines : l.self.lines ≡ l.fn.self.lines;
  prompt : (has : BeginsWithText (g.F.TextForm.form l.form) l.self.bytes) → (g.S.Source.given l.source ≡ g.S.Source.given l.fn.source) ⊎ (length has.rest ≤ l.pull);
  sound : g.S.Source.is_failed l.fn.source ≡ false → g.S.Source.is_failed l.source ≡ false;
}

abbrev pub decreases-loop-text : goal.decreases-loop-text
decreases-loop-text g l = if (g.S.Source.given l.source).ended then 0 else 1073741825 - length l.self.bytes
