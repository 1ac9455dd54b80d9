-- The statuses of answers, and what is told by each.
use Rattle.std.proofs.Common.{◌≡◌, ◌≤◌, ◌⊎◌, ℕ, inl, inr, refl, arith}
use Rattle.std.proofs.lemmas.Bool.Decides.{Decides-eqb, Decides-or}
use Rattle.std.specs.Prelude.{◌==◌, ◌||◌, true}
use Rattle.county_problem.specs.declared.grouping_fault.GroupingFault.{GroupingFault}
use Rattle.county_problem.specs.declared.grouping_fault.GroupingFault.TheVariants as fault
use Rattle.cli_answers.specs.Refusals.{verdict_answer}
use Rattle.run_laws.specs.Recording.{is_recorded}

-- 0, 1 and 3
abbrev pub IsAnswerStatus : ℕ → Type 0
IsAnswerStatus n = (n ≡ 0) ⊎ ((n ≡ 1) ⊎ (n ≡ 3))

pub answer_status : (n : ℕ) → is_recorded n ≡ true → IsAnswerStatus n
answer_status n is =
    (Decides-or (n == 0) ((n == 1) || (n == 3)) (Decides-eqb n 0) (Decides-or (n == 1) (n == 3) (Decides-eqb n 1) (Decides-eqb n 3))).0 is

pub at_most_three : (n : ℕ) → IsAnswerStatus n → n ≤ 3
at_most_three n (inl e) = omega (arith, e)
at_most_three n (inr (inl e)) = omega (arith, e)
at_most_three n (inr (inr e)) = omega (arith, e)

-- no fault of a grouping is answered with another status
pub verdict_status : (f : GroupingFault) → ((verdict_answer f).status ≡ 1) ⊎ ((verdict_answer f).status ≡ 5)
verdict_status (fault.EmptyGroup n) = inl refl
verdict_status (fault.UnknownCounty n code) = inl refl
verdict_status (fault.Twice code) = inl refl
verdict_status (fault.Missing code) = inl refl
verdict_status (fault.NotConnected n) = inl refl
verdict_status (fault.OutOfWindow n) = inl refl
verdict_status (fault.SeatsTotal seats left) = inl refl
verdict_status fault.Memory = inr refl
