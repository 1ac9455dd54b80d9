use Rattle.clap.specs.Words.{found_of}
use Rattle.cli_words.proofs.ReadLemmas.{text_is, text_read}
use Rattle.cli_words.proofs.values.path.Goals as goal

pub unwrap-requires : goal.unwrap-requires
unwrap-requires c = text_read (found_of c.args.found.now) _ c.requires c.get_str.result c.get_str.ensures

pub returns : goal.returns
returns c = text_is (found_of c.args.found.now) _ c.requires c.get_str.result c.unwrap.result c.get_str.ensures c.unwrap.ensures
