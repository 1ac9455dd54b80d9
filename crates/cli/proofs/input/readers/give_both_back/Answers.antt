use Rattle.std.proofs.Common.{Option, subst}
use Rattle.cli_file_stores.specs.Files.{Files}
use Rattle.cli_file_stores.specs.FileStore.{IsRead}
use Rattle.cli.proofs.ReaderLemmas.{both_back}
use Rattle.cli.proofs.input.readers.give_both_back.Goals as goal

pub returns-clause-back : goal.returns-clause-back
returns-clause-back g c =
    let files = g.H.FileStore.contents c.args.file_store.now in
    let before = g.H.FileStore.history c.args.file_store.now in
    let between = g.H.FileStore.history c.give_back-segment_end.new.self in
    let after = g.H.FileStore.history c.give_back-geo_end.new.self in
    let geo = g.H.Reader.Source.given c.args.readers.0 in
    let segment = g.H.Reader.Source.given c.args.readers.1 in
    let read = subst (λ (known : Option Files). IsRead known c.args.words.geo.now geo.bytes c.give_back-geo_end.result) c.give_back-segment_end.ensures.same c.give_back-geo_end.ensures.read in
    both_back files c.args.words.geo.now c.args.words.segment.now geo segment before between after c.give_back-geo_end.result c.give_back-segment_end.result c.if_sound.result
    c.give_back-segment_end.ensures.read c.give_back-segment_end.ensures.logged read c.give_back-geo_end.ensures.logged c.if_sound.ensures c.give_back-geo_end.ensures.end c.give_back-segment_end.ensures.end
