use Rattle.std.proofs.Common.{subst, sym}
use Rattle.cli_words.specs.declared.words.CountyWords.{CountyWords}
use Rattle.cli_answers.specs.Answers.{Comes}
use Rattle.run_laws.specs.ProblemSteps.{counties_by}
use Rattle.cli.proofs.input.counties.load_counties.Goals as goal

pub returns-in-Census-clause-steps : goal.returns-in-Census-clause-steps
returns-in-Census-clause-steps g c =
    let files = g.H.FileStore.contents c.args.file_store.now in
    let before = g.H.FileStore.history c.args.file_store.now in
    let after = g.H.FileStore.history c.load_census_counties.new.file_store in
    subst (λ (counties : CountyWords). Comes (λ v. v.items) c.load_census_counties.result (counties_by files c.args.words.state counties before after)) (sym c.in-Census.is) c.load_census_counties.ensures.steps

pub returns-in-People-clause-steps : goal.returns-in-People-clause-steps
returns-in-People-clause-steps g c =
    let files = g.H.FileStore.contents c.args.file_store.now in
    let before = g.H.FileStore.history c.args.file_store.now in
    let after = g.H.FileStore.history c.load_people.new.file_store in
    subst (λ (counties : CountyWords). Comes (λ v. v.items) c.load_people.result (counties_by files c.args.words.state counties before after)) (sym c.in-People.is) c.load_people.ensures.steps
