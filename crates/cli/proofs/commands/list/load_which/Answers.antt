use Rattle.std.proofs.Common.{◌≡◌, Some, None, refl}
use Rattle.std.specs.Prelude.{Ok, Option, option_map}
use Rattle.grouping_laws.specs.Grouping.{Grouping}
use Rattle.run_laws.specs.Steps.{Steps, ◌>>=◌, value_step}
use Rattle.run_laws.specs.ProblemSteps.{grouping_of}
use Rattle.cli.proofs.StepLemmas.{gave, when_named}
use Rattle.cli.proofs.commands.list.load_which.Goals as goal

-- the grouping is held
abbrev held : Grouping → Steps (Option Grouping)
held groups = value_step (λ x. x ≡ Some groups)

pub returns-in_ok-grouping-in-Some-clause-steps : goal.returns-in_ok-grouping-in-Some-clause-steps
returns-in_ok-grouping-in-Some-clause-steps g c =
    when_named g.H.FileStore.contents g.H.FileStore.history (option_map (λ g. g.groups.items)) (Ok (Some c.in_ok-grouping-in-Some.grouping)) None (λ n. grouping_of (g.H.FileStore.contents c.args.file_store.now) n >>= held) _ _ c.args.file_store.now c.load_grouping.new.file_store c.in-Some.is
    (gave g.H.FileStore.contents g.H.FileStore.history (Ok (Some c.in_ok-grouping-in-Some.grouping.groups.items)) (λ f. grouping_of f c.in-Some.name.now) (λ _. held) _ _ _ _ c.in_ok-grouping-in-Some.ensures.steps c.load_grouping.ensures.same (refl, refl))
