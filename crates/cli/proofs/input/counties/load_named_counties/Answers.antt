use Rattle.std.proofs.Common.{subst, sym, map}
use Rattle.cli_words.specs.declared.words.CountyWords.{CountyWords}
use Rattle.pl94_counties.specs.CountyNames.{county_name}
use Rattle.cli_answers.specs.Answers.{Comes}
use Rattle.run_laws.specs.TableSteps.{named_counties_by}
use Rattle.cli.proofs.input.counties.load_named_counties.Goals as goal

pub returns-in-Census-clause-steps : goal.returns-in-Census-clause-steps
returns-in-Census-clause-steps g c =
    let files = g.H.FileStore.contents c.args.file_store.now in
    let before = g.H.FileStore.history c.args.file_store.now in
    let after = g.H.FileStore.history c.load_named_census.new.file_store in
    subst (λ (counties : CountyWords). Comes (λ v. map county_name v.items) c.load_named_census.result (named_counties_by files c.args.words.state counties before after)) (sym c.in-Census.is) c.load_named_census.ensures.steps

pub returns-in-People-clause-steps : goal.returns-in-People-clause-steps
returns-in-People-clause-steps g c =
    let files = g.H.FileStore.contents c.args.file_store.now in
    let before = g.H.FileStore.history c.args.file_store.now in
    let after = g.H.FileStore.history c.load_named_people.new.file_store in
    subst (λ (counties : CountyWords). Comes (λ v. map county_name v.items) c.load_named_people.result (named_counties_by files c.args.words.state counties before after)) (sym c.in-People.is) c.load_named_people.ensures.steps
