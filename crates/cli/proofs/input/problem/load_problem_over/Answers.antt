use Rattle.std.proofs.Common.{ℕ, List, Option, subst₂}
use Rattle.county_codes.specs.declared.county.County.{County}
use Rattle.county_codes.specs.declared.withdrawn.Withdrawn.{Withdrawn}
use Rattle.county_problem.specs.ProblemValue.{ProblemValue, codes_of}
use Rattle.cli_words.specs.declared.words.ProblemWords.{ProblemWords}
use Rattle.cli_file_stores.specs.Files.{Files}
use Rattle.cli_answers.specs.Answers.{Comes}
use Rattle.run_laws.specs.Steps.{Steps, ◌>>=◌}
use Rattle.run_laws.specs.ProblemSteps.{adjacency_of, withdrawn_of, build_step}
use Rattle.cli.proofs.StepLemmas.{stepped, stopped}
use Rattle.cli.proofs.input.problem.load_problem_over.Goals as goal

-- the problem of pairs and withdrawn sets
abbrev built : ProblemWords → List County → List (ℕ × ℕ) → List Withdrawn → Steps ProblemValue
built words = build_step words.common.chamber words.common.tolerance

-- the problem, where the pairs are known
abbrev with_pairs : ProblemWords → List County → Option Files → List (ℕ × ℕ) → Steps ProblemValue
with_pairs words counties files pairs = withdrawn_of files words.withdrawn >>= built words counties pairs

pub returns-in_err-withdrawn-clause-steps : goal.returns-in_err-withdrawn-clause-steps
returns-in_err-withdrawn-clause-steps g c =
    stepped g.H.FileStore.contents g.H.FileStore.history (λ p. p) _ (λ f. adjacency_of f (codes_of c.args.counties.now) c.args.words) (with_pairs c.args.words c.args.counties.now) _ _ _ _ c.in_ok-pairs.ensures.steps c.load_adjacency.ensures.same
    (stopped g.H.FileStore.contents g.H.FileStore.history (λ p. p) _ (λ f. withdrawn_of f c.args.words.withdrawn) (λ _. built c.args.words c.args.counties.now c.in_ok-pairs.pairs.items) _ _ _ c.from_residual-in_err-withdrawn.ensures.1 c.in_err-withdrawn.ensures.steps)

pub returns-clause-steps : goal.returns-clause-steps
returns-clause-steps g c =
    let counties = c.args.counties.now in
    let after = g.H.FileStore.history c.load_withdrawn.new.file_store in
    let given = subst₂ (λ (joining : List (ℕ × ℕ)) (taken : List Withdrawn). Comes (λ p. p) c.build.result (built c.args.words counties joining taken after after)) c.deref-3.ensures.value c.deref-4.ensures.value (c.build.ensures after) in
    stepped g.H.FileStore.contents g.H.FileStore.history (λ p. p) _ (λ f. adjacency_of f (codes_of counties) c.args.words) (with_pairs c.args.words counties) _ _ _ _ c.in_ok-pairs.ensures.steps c.load_adjacency.ensures.same
    (stepped g.H.FileStore.contents g.H.FileStore.history (λ p. p) _ (λ f. withdrawn_of f c.args.words.withdrawn) (λ _. built c.args.words counties c.in_ok-pairs.pairs.items) _ _ _ _ c.in_ok-withdrawn.ensures.steps c.load_withdrawn.ensures.same given)
