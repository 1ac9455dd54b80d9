use Rattle.std.proofs.Common.{[]}
use Rattle.run_laws.specs.Steps.{◌>>=◌, load_step}
use Rattle.run_laws.specs.ProblemSteps.{withdrawn_in}
use Rattle.cli.proofs.StepLemmas.{stepped, when_named}
use Rattle.cli.proofs.input.files.load_withdrawn.Goals as goal

pub returns-in_ok-text-in-Some-clause-steps : goal.returns-in_ok-text-in-Some-clause-steps
returns-in_ok-text-in-Some-clause-steps g c =
    when_named g.H.FileStore.contents g.H.FileStore.history (λ v. v.items) c.withdrawn_from.result [] (λ n. load_step (g.H.FileStore.contents c.args.file_store.now) n >>= withdrawn_in) _ _ c.args.file_store.now c.load.new.file_store c.in-Some.is
    (stepped g.H.FileStore.contents g.H.FileStore.history (λ v. v.items) _ (λ f. load_step f c.in-Some.name.now) (λ _. withdrawn_in) c.in_ok-text-in-Some.text.items _ _ _ c.in_ok-text-in-Some.ensures.steps c.load.ensures.same (c.withdrawn_from.ensures _))
