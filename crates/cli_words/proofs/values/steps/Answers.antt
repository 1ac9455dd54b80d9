use Rattle.std.proofs.Common.{refl, codes, lit<}
use Rattle.clap.specs.Words.{found_of}
use Rattle.cli_words.proofs.ReadLemmas.{unsigned_read, unsigned_said}
use Rattle.cli_words.proofs.values.steps.Goals as goal

pub unwrap-requires : goal.unwrap-requires
unwrap-requires c = rw (unsigned_read (found_of c.args.found.now) _ c.requires 64 0 18446744073709551615 c.get_one.result c.get_one.ensures.value (lit< tt) refl).1 refl

pub returns : goal.returns
returns c =
    let most = unsigned_said (found_of c.args.found.now) _ c.requires 64 0 18446744073709551615 c.get_one.result c.get_one.ensures.value (lit< tt) refl c.unwrap.result c.unwrap.ensures in
    record { number = most.given; default = most.default (codes "10000000") 10000000 refl refl }
