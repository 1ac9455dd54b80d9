use Rattle.std.proofs.Common.{[], inl, sym}
use Rattle.std.proofs.lemmas.List.{append-nil}
use Rattle.pl94_counties.specs.Areas.{area_list}
use Rattle.pl94_counties.proofs.ReadersLemmas.{reads_as, fresh_lines}
use Rattle.pl94_counties.proofs.area_list.read_areas_from.Goals as goal

pub returns-in-Err-clause-reads : goal.returns-in-Err-clause-reads
returns-in-Err-clause-reads g c = record { geo = []; segment1 = []; geo_given = sym (append-nil _); segment1_given = sym (append-nil _); value = λ geo_later segment1_later geo_may segment1_may kept. absurd (kept (inl c.no_memory.ensures)) }

pub returns-in-Err-new-clause-reads : goal.returns-in-Err-new-clause-reads
returns-in-Err-new-clause-reads g c = record { geo = []; segment1 = []; geo_given = sym (append-nil _); segment1_given = sym (append-nil _); value = λ geo_later segment1_later geo_may segment1_may kept. absurd (kept (inl c.no_memory-in-Err-new.ensures)) }

pub returns-clause-reads : goal.returns-clause-reads
returns-clause-reads g c =
    reads_as (λ m. m.entries) _ _ _ _ c.read_lines.result _ (λ geo segment1. area_list c.args.area geo segment1 c.args.state)
    (fresh_lines c.args.area c.args.state c.in-Ok.lines c.in-Ok-new.lines c.in-Ok.ensures.made c.in-Ok-new.ensures.made) c.read_lines.ensures.reads
