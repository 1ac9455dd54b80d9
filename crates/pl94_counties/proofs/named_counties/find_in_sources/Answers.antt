use Rattle.std.proofs.Common.{inl}
use Rattle.field_lines.specs.Values.{GivesUnless}
use Rattle.pl94_counties.specs.NamedReaders.{entries_shown, named_entries, IsNamedRefused}
use Rattle.pl94_counties.proofs.OrderLemmas.{fresh_in_order}
use Rattle.pl94_counties.proofs.NamedReadersLemmas.{texts_as, texts_unread, fresh_named}
use Rattle.pl94_counties.proofs.named_counties.find_in_sources.Goals as goal

pub returns-in-Err-clause-reads : goal.returns-in-Err-clause-reads
returns-in-Err-clause-reads g c = texts_unread _ _ _ (λ x y kept. absurd (kept (inl c.no_memory.ensures)))

pub returns-in-Err-new-clause-reads : goal.returns-in-Err-new-clause-reads
returns-in-Err-new-clause-reads g c = texts_unread _ _ _ (λ x y kept. absurd (kept (inl c.no_memory-in-Err-new.ensures)))

pub find_counties-requires-clause-geo_ordered : goal.find_counties-requires-clause-geo_ordered
find_counties-requires-clause-geo_ordered g c = fresh_in_order c.in-Ok.lines c.in-Ok.ensures.made

pub returns-clause-reads : goal.returns-clause-reads
returns-clause-reads g c =
    let answer = c.find_counties.result in
    texts_as _ _ _ _ _ (λ x y. GivesUnless IsNamedRefused entries_shown answer (named_entries x y c.args.state))
    (fresh_named entries_shown answer c.args.state c.in-Ok.lines c.in-Ok-new.lines c.in-Ok.ensures.made c.in-Ok-new.ensures.made) c.find_counties.ensures.reads
