use Rattle.std.proofs.Common.{◌∙◌, ap, rules}
use Rattle.clap.specs.Simple.{app_of_fields}
use Rattle.cli_words.proofs.command.bare_command.Goals as goal

pub returns : goal.returns
returns c = record {
  app = ap app_of_fields c.after_long_help.ensures ∙ (ap app_of_fields c.override_usage.ensures ∙ (ap app_of_fields c.about.ensures ∙ c.new.ensures.app));
  local = search rules;
}
