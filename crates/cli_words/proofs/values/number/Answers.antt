use Rattle.std.proofs.Common.{refl, lit<}
use Rattle.clap.specs.Words.{found_of}
use Rattle.cli_words.proofs.ReadLemmas.{signed_read, signed_said}
use Rattle.cli_words.proofs.values.number.Goals as goal

pub unwrap-requires : goal.unwrap-requires
unwrap-requires c = rw (signed_read (found_of c.args.found.now) _ c.requires 32 0 4294967295 c.get_one.result c.get_one.ensures.value (lit< tt) refl).1 refl

pub returns : goal.returns
returns c = (signed_said (found_of c.args.found.now) _ c.requires 32 0 4294967295 c.get_one.result c.get_one.ensures.value (lit< tt) refl c.unwrap.result c.unwrap.ensures).given
