use Rattle.std.proofs.Common.{Option, subst, ◌∙◌}
use Rattle.std.specs.Prelude.{Ok}
use Rattle.cli_file_stores.specs.Files.{Files}
use Rattle.cli_reports.specs.Texts.{tabled_of}
use Rattle.cli.specs.Streams.{given_back}
use Rattle.cli.proofs.ReaderLemmas.{said_checked, file_checked}
use Rattle.cli.proofs.commands.check.check_file.Goals as goal

pub returns-clause-steps : goal.returns-clause-steps
returns-clause-steps g c =
    let files = g.H.FileStore.contents c.args.file_store.now in
    let words = c.args.words in
    let t = tabled_of c.args.tabled in
    let before = g.H.FileStore.history c.args.file_store.now in
    let between = g.H.FileStore.history c.open.new.file_store in
    let after = g.H.FileStore.history c.give_one_back.new.file_store in
    let given = g.H.Reader.Source.given c.into_parts-reader.result.0 in
    let back = subst (λ (known : Option Files). given_back known words.certificate.now between after (Ok given)) c.open.ensures.same c.in_ok-give_one_back.ensures.back in
    file_checked files words t before between after given c.said.result c.in_ok-reader.ensures.steps back
    (said_checked words.problem.common.form t words.budget _ _ given c.check_from_and_report-checked.result c.said.result (c.new-source.ensures.given ∙ c.in_ok-reader.ensures.given) c.into_parts-reader.ensures.given c.check_from_and_report-checked.ensures.checked c.said.ensures)
