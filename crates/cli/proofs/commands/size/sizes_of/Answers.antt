use Rattle.std.proofs.Common.{◌≡◌, List, [], Option, refl, ap}
use Rattle.std.specs.Prelude.{Ok, map, option_map}
use Rattle.county_codes.specs.declared.county.County.{County}
use Rattle.county_problem.specs.ProblemValue.{ProblemValue}
use Rattle.pl94_counties.specs.CountyNames.{CountyName, county_name}
use Rattle.cli_words.specs.declared.words.CommonWords.{CommonWords}
use Rattle.cli_answers.specs.Answer.{Answered, success}
use Rattle.cli_answers.specs.Answers.{answer_of}
use Rattle.run_laws.specs.Forms.{size_in}
use Rattle.run_laws.specs.Steps.{Steps, value_step}
use Rattle.run_laws.specs.ProblemSteps.{build_step}
use Rattle.run_laws.proofs.RunLemmas.{handed_on, came}
use Rattle.cli.proofs.commands.size.sizes_of.Goals as goal

-- the problem of counties alone
abbrev alone : CommonWords → List County → Steps ProblemValue
alone words counties = build_step words.chamber words.tolerance counties [] []

-- its size table
abbrev sized : CommonWords → Option (List CountyName) → ProblemValue → Steps Answered
sized words named v = value_step (λ a. a ≡ success (size_in words.form v named))

pub returns-in_err-problem : goal.returns-in_err-problem
returns-in_err-problem c = λ history.
    let named = option_map (λ v. map county_name v.items) c.args.named.now in
    handed_on answer_of c.in_err-problem.field-0.0 c.from_residual.result (alone c.args.words c.args.counties.now) (sized c.args.words named) history history
    c.from_residual.ensures.1 (c.in_err-problem.ensures history)

pub returns : goal.returns
returns c = λ history.
    let named = option_map (λ v. map county_name v.items) c.args.named.now in
    let said = Ok (success c.in_ok-text.text.items) in
    came (alone c.args.words c.args.counties.now) (sized c.args.words named) c.in_ok-problem.problem history history history said
    (c.in_ok-problem.ensures history) (refl, ap success c.in_ok-text.ensures)
