use Rattle.std.proofs.Common.{◌≡◌, ◌≤◌, ◌<◌, ℕ, length, get_or}
use Rattle.worker_texts.proofs.coming_texts.whole_lines.Given as goal

-- no LF stands from here on
abbrev pub invariant-loop-end : goal.invariant-loop-end
invariant-loop-end l = record {
  place : l.end ≤ length l.text;
  last : (k : ℕ) → l.end ≤ k → k < length l.text → get_or l.text k 0 ≡ 10 → ⊥;
}

abbrev pub decreases-loop-end : goal.decreases-loop-end
decreases-loop-end l = l.end
