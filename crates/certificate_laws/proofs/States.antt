-- When two states are one.
use Rattle.std.proofs.Common.{◌≡◌, ℕ}
use mathlib.Core.Path.{fun_ext}
use Rattle.certificate_laws.specs.State.{State}

-- states with the same groups, the same rest and the same sizes are one
pub same_state : (s t : State) → s.closed ≡ t.closed → ((c : ℕ) → s.rest c ≡ t.rest c) → ((c : ℕ) → s.least c ≡ t.least c) → s ≡ t
same_state s t closed rest least = λ i. record { closed = closed i; rest = fun_ext rest i; least = fun_ext least i }
