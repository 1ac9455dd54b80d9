use Rattle.std.proofs.Common.{◌≡◌, ◌∙◌, Some, sym}
use Rattle.clap.specs.Words.{found_of}
use Rattle.clap.specs.declared.parser.matches.ValueSource.TheVariants.{CommandLine, DefaultValue}
use Rattle.cli_words.proofs.ReadLemmas.{entry_given, source_given}
use Rattle.cli_words.proofs.values.is_given.Goals as goal

pub returns-in-Some-CommandLine : goal.returns-in-Some-CommandLine
returns-in-Some-CommandLine c =
    let is = c.in-Some-CommandLine.is in
    let own = c.in-Some-CommandLine.field-0-is in
    let source : c.value_source.result ≡ Some CommandLine = cc in
    sym (source_given (found_of c.args.found.now) c.args.name.now CommandLine (sym c.value_source.ensures ∙ source))

pub returns-in-Some-DefaultValue : goal.returns-in-Some-DefaultValue
returns-in-Some-DefaultValue c =
    let is = c.in-Some-DefaultValue.is in
    let own = c.in-Some-DefaultValue.field-0-is in
    let source : c.value_source.result ≡ Some DefaultValue = cc in
    sym (source_given (found_of c.args.found.now) c.args.name.now DefaultValue (sym c.value_source.ensures ∙ source))

pub returns-in-None : goal.returns-in-None
returns-in-None c = c.contains_id.ensures ∙ sym (entry_given (found_of c.args.found.now) c.args.name.now (sym c.value_source.ensures ∙ c.in-None.is))
