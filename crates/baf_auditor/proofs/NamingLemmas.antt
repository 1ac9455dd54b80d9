-- What lines say of a block, line by line.
use Rattle.std.proofs.Common.{◌≡◌, ℕ, zero, suc, ◌+◌, ◌==◌, nat_le, ◌&&◌, ◌||◌, Bool, true, false, List, [], ◌∷◌, Option, Some, None, refl, sym, ap, ◌∙◌, arith, if◌then◌else◌}
use Rattle.std.proofs.Math.Bool.{or-false}
use Rattle.std.proofs.lemmas.Bool.Decides.{nat_tests}
use Rattle.grouping_laws.specs.Sets.{indicator}
use Rattle.baf_auditor.specs.Labels.{assigns}
use Rattle.baf_auditor.specs.Findings.{times_named}
use Rattle.baf_auditor.specs.Naming.{is_assigned, named_times, naming, named_again, after_line}
use Rattle.baf_auditor.specs.declared.assignments.Assignment.{Assignment}
use Rattle.baf_auditor.specs.declared.line_counts.Named.{Named}

-- what is said of a block after further lines
abbrev pub after_lines : ℕ → Option Named → List Assignment → Option Named
after_lines code before [] = before
after_lines code before (line ∷ lines) = after_lines code (after_line code before line) lines

-- ---- what is said, by how often the block was named
or_twice : (a b c : Bool) → (a || (b || c)) ≡ ((a || b) || c)
or_twice true b c = refl
or_twice false b c = refl

-- one more time
once_more : (times : ℕ) (assigned : Bool) (label : List ℕ) → (times ≡ 0 → assigned ≡ false)
    → Some (named_again (named_times times assigned) label) ≡ named_times (times + 1) (assigned || assigns label)
once_more zero assigned label fresh = rw (fresh refl) refl
once_more (suc times) assigned label fresh =
    let known : (suc times == 0) ≡ false = grind (arith, nat_tests) in
    let more : (suc times + 1 == 0) ≡ false = grind (arith, nat_tests) in
    let two : nat_le 2 (suc times + 1) ≡ true = grind (arith, nat_tests) in
    rw (known, more, two) refl

module _ (code : ℕ) where
  abbrev Said : List Assignment → Type 0
  Said lines = (times : ℕ) (assigned : Bool) → (times ≡ 0 → assigned ≡ false)
      → after_lines code (named_times times assigned) lines ≡ named_times (times + times_named lines code) (assigned || is_assigned lines code)

  said_by : (line : Assignment) (lines : List Assignment) → Said lines → (times : ℕ) (assigned : Bool) → (times ≡ 0 → assigned ≡ false) → (b : Bool)
      → after_lines code (if b then Some (named_again (named_times times assigned) line.label) else named_times times assigned) lines
      ≡ named_times (times + (indicator b + times_named lines code)) (assigned || ((b && assigns line.label) || is_assigned lines code))
  said_by line lines later times assigned fresh true =
      let e : times + 1 + times_named lines code ≡ times + (1 + times_named lines code) = omega arith in
      ap (λ (o : Option Named). after_lines code o lines) (once_more times assigned line.label fresh)
      ∙ later (times + 1) (assigned || assigns line.label) (λ (z : times + 1 ≡ 0). absurd (omega (arith, z)))
      ∙ ap (λ (n : ℕ). named_times n ((assigned || assigns line.label) || is_assigned lines code)) e
      ∙ ap (λ (b : Bool). named_times (times + (1 + times_named lines code)) b) (sym (or_twice assigned (assigns line.label) (is_assigned lines code)))
  said_by line lines later times assigned fresh false =
      let e : times + times_named lines code ≡ times + (0 + times_named lines code) = omega arith in
      later times assigned fresh ∙ ap (λ (n : ℕ). named_times n (assigned || is_assigned lines code)) e

  said : (lines : List Assignment) → Said lines
  said [] times assigned fresh =
      let same : times ≡ times + 0 = omega arith in
      ap (λ (n : ℕ). named_times n assigned) same ∙ ap (λ (b : Bool). named_times (times + 0) b) (sym (or-false assigned))
  said (line ∷ lines) times assigned fresh = said_by line lines (said lines) times assigned fresh (line.block == code)

pub said_of : (code : ℕ) (lines : List Assignment) → after_lines code None lines ≡ naming lines code
said_of code lines =
    let e : 0 + times_named lines code ≡ times_named lines code = omega arith in
    said code lines 0 false (λ _. refl) ∙ ap (λ (n : ℕ). named_times n (is_assigned lines code)) e
