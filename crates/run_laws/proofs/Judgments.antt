-- What `judge` says of a lawful grouping beside a verdict.
use Rattle.std.proofs.Common.{◌≡◌, ◌≢◌, ◌↔◌, Ordering, Less, Equal, Greater, ℕ, List, inl, inr, refl, sym, ◌∙◌}
use Rattle.county_problem.specs.ProblemValue.{problem_of}
use Rattle.grouping_laws.specs.Problem.{Problem}
use Rattle.grouping_laws.specs.Grouping.{Grouping, Lawful, IsBest, IsGreater, counts, sets_of}
use Rattle.county_codes.specs.declared.group.Grouping.{Grouping as GroupingHeld}
use Rattle.county_problem.specs.CountList.{count_at}
use Rattle.certificate_checker.specs.declared.verdict.Verdict.TheVariants.{Best}
use Rattle.share_board.proofs.Renewing.{greater_same}
use Rattle.cli_answers.specs.Answer.{Answered}
use Rattle.run_laws.specs.TableSteps.{Tabled}
use Rattle.run_laws.specs.JudgeWithCertificate.{HasSameCounts, best_answer, greater_answer, SaysBeside}
use Rattle.cli_words.specs.declared.words.Form.{Form}

-- a lawful grouping with the counts of a best one is best
pub best_of_same : (p : Problem) (g target : Grouping) → Lawful p g → IsBest p target → HasSameCounts g target → IsBest p g
best_of_same p g target lawful best same = record {
  lawful = lawful;
  none_greater = λ h other greater.
      best.none_greater h other (greater_same (counts (sets_of h)) (counts (sets_of target)) (counts (sets_of h)) (counts (sets_of g)) (λ i. refl) same greater);
}

-- what is said beside a best grouping, where the counts of both were compared
module _ (form : Form) (t : Tabled) (g : Grouping) (target : GroupingHeld) (own best : List ℕ) (order : Ordering) (a : Answered)
    (mine : (size : ℕ) → count_at own size ≡ counts (sets_of g) size) (theirs : (size : ℕ) → count_at best size ≡ counts (sets_of target.groups.items) size)
    (equal : (order ≡ Equal) ↔ ((size : ℕ) → count_at own size ≡ count_at best size)) where
  pub says_best : order ≡ Equal → a ≡ best_answer form t.problem t.named g → SaysBeside form t g (Best target) a
  says_best is said = inl (λ size. sym (mine size) ∙ equal.0 is size ∙ theirs size, said)

  pub says_greater : (order ≡ Greater) ↔ IsGreater (count_at own) (count_at best) → (order ≡ Less) ↔ IsGreater (count_at best) (count_at own)
      → Lawful (problem_of t.problem) g → IsBest (problem_of t.problem) target.groups.items → order ≢ Equal
      → a ≡ greater_answer form t.problem t.named g target.groups.items → SaysBeside form t g (Best target) a
  says_greater greater less lawful target_best other said = go order refl
    where
      go : (o : Ordering) → order ≡ o → SaysBeside form t g (Best target) a
      go Less is = inr (greater_same (counts (sets_of target.groups.items)) (counts (sets_of g)) (count_at best) (count_at own) theirs mine (less.0 is), said)
      go Equal is = absurd (other is)
      go Greater is = absurd (target_best.none_greater g lawful
          (greater_same (counts (sets_of g)) (counts (sets_of target.groups.items)) (count_at own) (count_at best) mine theirs (greater.0 is)))
