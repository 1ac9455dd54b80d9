use Rattle.std.proofs.Common.{refl}
use Rattle.clap.specs.Words.{found_of}
use Rattle.cli_words.proofs.ReadLemmas.{text_given}
use Rattle.cli_words.proofs.values.path_or_none.Goals as goal

pub returns : goal.returns
returns c = text_given (found_of c.args.found.now) _ refl c.requires c.get_str.result c.get_str.ensures
