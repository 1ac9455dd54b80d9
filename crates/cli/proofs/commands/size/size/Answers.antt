use Rattle.std.proofs.Common.{◌∙◌, Bool, List, Some, None, map, sym, subst}
use Rattle.county_codes.specs.declared.county.County.{County}
use Rattle.pl94_counties.specs.CountyNames.{county_name}
use Rattle.grouping_table.specs.Table.{unnamed_counties as without_names}
use Rattle.cli_answers.specs.Answers.{answer_of, Comes}
use Rattle.run_laws.specs.ProblemSteps.{counties_steps}
use Rattle.run_laws.specs.TableSteps.{named_counties_of}
use Rattle.run_laws.specs.JudgeSteps.{sizes_by, sizes_of}
use Rattle.cli.proofs.StepLemmas.{stepped}
use Rattle.cli.proofs.TableLemmas.{bare_listed}
use Rattle.cli.proofs.commands.size.size.Goals as goal

pub returns-then-has_names-clause-steps : goal.returns-then-has_names-clause-steps
returns-then-has_names-clause-steps g c =
    let files = g.H.FileStore.contents c.args.file_store.now in
    let words = c.args.words in
    let before = g.H.FileStore.history c.args.file_store.now in
    let after = g.H.FileStore.history c.load_named_counties.new.file_store in
    let held = c.in_ok-named.named.items in
    let bare = bare_listed held _ _ _ c.deref-then-has_names-2.ensures.value c.in_ok-counties.ensures c.deref.ensures.value in
    let sized = subst (λ (counties : List County). Comes answer_of c.sizes_of.result (sizes_of words (Some (map county_name held)) counties after after)) bare (c.sizes_of.ensures after) in
    subst (λ (reads : Bool). Comes answer_of c.sizes_of.result (sizes_by reads files words before after)) (sym c.if-has_names.true ∙ c.has_names.ensures)
    (stepped g.H.FileStore.contents g.H.FileStore.history answer_of _ (λ f. named_counties_of f words) (λ _ named. sizes_of words (Some named) (without_names named)) _ _ _ _ c.in_ok-named.ensures.steps c.load_named_counties.ensures.same sized)

pub returns-clause-steps : goal.returns-clause-steps
returns-clause-steps g c =
    let files = g.H.FileStore.contents c.args.file_store.now in
    let words = c.args.words in
    let before = g.H.FileStore.history c.args.file_store.now in
    let after = g.H.FileStore.history c.load_counties.new.file_store in
    let sized = subst (λ (counties : List County). Comes answer_of c.sizes_of-2.result (sizes_of words None counties after after)) c.deref-2.ensures.value (c.sizes_of-2.ensures after) in
    subst (λ (reads : Bool). Comes answer_of c.sizes_of-2.result (sizes_by reads files words before after)) (sym c.if-has_names.false ∙ c.has_names.ensures)
    (stepped g.H.FileStore.contents g.H.FileStore.history answer_of _ (λ f. counties_steps f words) (λ _ counties. sizes_of words None counties) _ _ _ _ c.in_ok-counties-2.ensures.steps c.load_counties.ensures.same sized)
