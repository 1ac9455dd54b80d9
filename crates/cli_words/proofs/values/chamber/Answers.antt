use Rattle.std.proofs.Common.{refl, lit<}
use Rattle.clap.specs.Words.{found_of}
use Rattle.cli_words.proofs.ReadLemmas.{signed_read, signed_said}
use Rattle.cli_words.proofs.values.chamber.Goals as goal

pub unwrap-requires : goal.unwrap-requires
unwrap-requires c = rw (signed_read (found_of c.args.found.now) _ c.requires 16 1 1000 c.get_one.result c.get_one.ensures.value (lit< tt) refl).1 refl

pub returns : goal.returns
returns c =
    let seats = signed_said (found_of c.args.found.now) _ c.requires 16 1 1000 c.get_one.result c.get_one.ensures.value (lit< tt) refl c.unwrap.result c.unwrap.ensures in
    record { number = seats.given; range = seats.range }
