use Rattle.std.proofs.Common.{refl}
use Rattle.run_laws.specs.ProblemSteps.{people_in}
use Rattle.run_laws.proofs.RunLemmas.{read_file}
use Rattle.cli.proofs.input.counties.load_people.Goals as goal

pub returns-clause-steps : goal.returns-clause-steps
returns-clause-steps g c =
    let files = g.H.FileStore.contents c.args.file_store.now in
    let before = g.H.FileStore.history c.args.file_store.now in
    let after = g.H.FileStore.history c.load.new.file_store in
    read_file (λ v. v.items) c.people_from.result files c.args.name.now c.in_ok-text.text.items c.in_ok-text.text.items (people_in c.args.state) before after c.in_ok-text.ensures.steps refl (c.people_from.ensures after)
