use Rattle.std.proofs.Common.{◌≡◌, ◌∙◌, List, Option, Some, None, option_map, ap, sym, subst}
use Rattle.std.specs.Option.{IsSomeAnd}
use Rattle.std.specs.Box.{box_value}
use Rattle.clap.specs.Words.{Row, Text, found_of, rows_of}
use Rattle.clap.specs.declared.parser.matches.ArgMatches.TheViews.{out-ArgMatches, out-SubCommand}
use Rattle.cli_words.specs.Options.{HasCommand}
use Rattle.cli_words.proofs.words.command_in.Goals as goal

-- what was found, by its parts
module _ {X : Type 0} (f : X → Text) (g : X → List Row) where
  abbrev parts : Option X → Option (Text × List Row)
  parts o = option_map {U = Text × List Row} (λ b. (f b, g b)) o

  found_parts : (o : Option X) (name : Text) (rows : List Row) → Some name ≡ option_map f o → Some rows ≡ option_map (λ (p : Text × List Row). p.1) (parts o) → parts o ≡ Some (name, rows)
  found_parts None name rows e h = cc
  found_parts (Some b) name rows e h =
      let n : name ≡ f b = cc in
      let r : rows ≡ g b = cc in
      ap (λ (t : Text). Some (t, g b)) (sym n) ∙ ap (λ (t : List Row). Some (name, t)) (sym r)

pub command_words-requires : goal.command_words-requires
command_words-requires c =
    subst (λ (o : Option (Text × List Row)). IsSomeAnd o HasCommand)
    (found_parts (λ b. (out-SubCommand (box_value b)).name.now) (λ b. rows_of (found_of (out-SubCommand (box_value b)).matches)) (out-ArgMatches c.args.matches.now).subcommand _ _ c.in-Some.ensures.name c.in-Some.ensures.rows) c.requires
