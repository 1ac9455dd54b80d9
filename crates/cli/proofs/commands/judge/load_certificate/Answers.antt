use Rattle.std.proofs.Common.{◌≡◌, ℕ, List, Option, Some, None, refl}
use Rattle.std.specs.Prelude.{Ok, option_map}
use Rattle.run_laws.specs.Steps.{Steps, ◌>>=◌, load_step, value_step}
use Rattle.cli.proofs.StepLemmas.{gave, when_named}
use Rattle.cli.proofs.commands.judge.load_certificate.Goals as goal

-- the text is held
abbrev held : List ℕ → Steps (Option (List ℕ))
held text = value_step (λ x. x ≡ Some text)

pub returns-in_ok-text-in-Some-clause-steps : goal.returns-in_ok-text-in-Some-clause-steps
returns-in_ok-text-in-Some-clause-steps g c =
    let text = c.in_ok-text-in-Some.text in
    when_named g.H.FileStore.contents g.H.FileStore.history (option_map (λ t. t.items)) (Ok (Some text)) None (λ n. load_step (g.H.FileStore.contents c.args.file_store.now) n >>= held) _ _ c.args.file_store.now c.load.new.file_store c.in-Some.is
    (gave g.H.FileStore.contents g.H.FileStore.history (Ok (Some text.items)) (λ f. load_step f c.in-Some.name.now) (λ _. held) text.items _ _ _ c.in_ok-text-in-Some.ensures.steps c.load.ensures.same (refl, refl))
