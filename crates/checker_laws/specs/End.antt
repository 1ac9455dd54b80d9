-- How the judging of lines ends: without a fault, in front of the line that comes next, or with a fault at a line.
use Rattle.std.specs.Prelude.{ℕ, ◌+◌, ◌≡◌, ◌⊎◌}
use Rattle.checker_laws.specs.Fault.{Fault}

pub data End : Type 0 where
  fine : (next : ℕ) → End
  faulty : Fault → (line : ℕ) → End

-- From `line` on there are `lines` lines, of which all that is asked holds, or a fault stands at the first.
abbrev pub LinesEnd : ℕ → Type 0 → (Fault → Type 0) → ℕ → End → Type 0
LinesEnd lines Holds Fails line (fine next) = Holds × (next ≡ line + lines)
LinesEnd lines Holds Fails line (faulty fault at) = Fails fault × (at ≡ line)

-- one line
abbrev pub LineEnds : Type 0 → (Fault → Type 0) → ℕ → End → Type 0
LineEnds Holds Fails line end = LinesEnd 1 Holds Fails line end

-- One thing is judged and, where it is fine, a second one from the next line on; the first fault counts.
abbrev pub Then : (End → Type 0) → (ℕ → End → Type 0) → End → Type 0
Then First Second (fine next) = (between : ℕ) × First (fine between) × Second between (fine next)
Then First Second (faulty fault line) =
    First (faulty fault line) ⊎ ((between : ℕ) × First (fine between) × Second between (faulty fault line))
