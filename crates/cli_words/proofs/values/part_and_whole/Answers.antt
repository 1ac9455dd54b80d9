use Rattle.std.proofs.Common.{refl, codes, lit<}
use Rattle.clap.specs.Words.{found_of}
use Rattle.cli_words.proofs.ReadLemmas.{signed_read, signed_said}
use Rattle.cli_words.proofs.values.part_and_whole.Goals as goal

pub unwrap-requires : goal.unwrap-requires
unwrap-requires c = rw (signed_read (found_of c.args.found.now) _ c.requires.part 16 0 500 c.get_one.result c.get_one.ensures.value (lit< tt) refl).1 refl

pub unwrap-requires-2 : goal.unwrap-requires-2
unwrap-requires-2 c = rw (signed_read (found_of c.args.found.now) _ c.requires.whole 16 1 1000 c.get_one-2.result c.get_one-2.ensures.value (lit< tt) refl).1 refl

pub returns : goal.returns
returns c =
    let part = signed_said (found_of c.args.found.now) _ c.requires.part 16 0 500 c.get_one.result c.get_one.ensures.value (lit< tt) refl c.unwrap.result c.unwrap.ensures in
    let whole = signed_said (found_of c.args.found.now) _ c.requires.whole 16 1 1000 c.get_one-2.result c.get_one-2.ensures.value (lit< tt) refl c.unwrap-2.result c.unwrap-2.ensures in
    record {
      part = part.given;
      most = part.range.1;
      default_part = part.default (codes "1") 1 refl refl;
      whole = whole.given;
      range = whole.range;
      default_whole = whole.default (codes "20") 20 refl refl;
    }
