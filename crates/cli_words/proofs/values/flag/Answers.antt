use Rattle.std.proofs.Common.{◌≡◌, option_map, sym, ap, ◌∙◌}
use Rattle.std.specs.Borrow.{Bor}
use Rattle.clap.specs.Words.{found_of}
use Rattle.clap.proofs.WalkLemmas.{first_value-rows}
use Rattle.cli_words.specs.Words.{is_set}
use Rattle.cli_words.proofs.values.flag.Goals as goal

pub returns-in-Some : goal.returns-in-Some
returns-in-Some c =
    let held = first_value-rows (found_of c.args.found.now) c.args.name.now in
    c.eq.ensures ∙ ap is_set (sym (ap (option_map (λ s. s.now)) c.in-Some.is) ∙ (c.get_str.ensures ∙ held))

pub returns-in-None : goal.returns-in-None
returns-in-None c =
    let held = first_value-rows (found_of c.args.found.now) c.args.name.now in
    ap is_set (sym (ap (option_map (λ s. s.now)) c.in-None.is) ∙ (c.get_str.ensures ∙ held))
