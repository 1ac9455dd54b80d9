use Rattle.std.proofs.Common.{◌≡◌, ◌∙◌, ap, codes, true}
use Rattle.std.proofs.lemmas.Result.{IfOk-weaker}
use Rattle.clap.specs.Words.{app_of, new_app}
use Rattle.clap.specs.Simple.{app_of_fields, on_top}
use Rattle.cli_words.proofs.command.program_alone.Goals as goal

pub returns : goal.returns
returns c =
    let named : app_of c.long_about.result ≡ new_app (codes "countygroups") = ap app_of_fields c.long_about.ensures ∙ (ap app_of_fields c.about.ensures ∙ c.new.ensures.app) in
    let versioned : app_of c.version.result ≡ on_top (λ s. record s { has_version = true }) (app_of c.long_about.result) = ap app_of_fields c.version.ensures in
    let closed : app_of c.after_long_help.result ≡ app_of c.version.result = ap app_of_fields c.after_long_help.ensures in
    let bare : app_of c.no_binary_name.result ≡ on_top (λ s. record s { no_binary_name = true }) (app_of c.after_long_help.result) = ap app_of_fields c.no_binary_name.ensures in
    let quiet : app_of c.disable_help_subcommand.result ≡ on_top (λ s. record s { disable_help_subcommand = true }) (app_of c.no_binary_name.result) =
    ap app_of_fields c.disable_help_subcommand.ensures in
    let needs : app_of c.subcommand_required.result ≡ on_top (λ s. record s { subcommand_required = true }) (app_of c.disable_help_subcommand.result) =
    ap app_of_fields c.subcommand_required.ensures in
    let top = needs ∙ ap (on_top (λ s. record s { subcommand_required = true })) (quiet ∙ ap (on_top (λ s. record s { disable_help_subcommand = true }))
    (bare ∙ ap (on_top (λ s. record s { no_binary_name = true })) (closed ∙ (versioned ∙ ap (on_top (λ s. record s { has_version = true })) named)))) in
    IfOk-weaker c.bin_name.result _ _ (λ new is. ap app_of_fields is.0 ∙ top) c.bin_name.ensures
