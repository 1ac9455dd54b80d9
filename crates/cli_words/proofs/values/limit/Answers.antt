use Rattle.std.proofs.Common.{refl, lit<}
use Rattle.clap.specs.Words.{found_of}
use Rattle.cli_words.proofs.ReadLemmas.{its_number_given}
use Rattle.cli_words.proofs.values.limit.Goals as goal

pub returns : goal.returns
returns c = its_number_given (found_of c.args.found.now) _ refl 16 0 65535 c.get_one.result c.get_one.ensures.none c.get_one.ensures.value (lit< tt) refl c.requires
