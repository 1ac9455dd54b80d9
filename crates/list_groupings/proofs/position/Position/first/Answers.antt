use Rattle.std.proofs.Common.{List, ℕ, map, sym, ap, ◌∙◌}
use Rattle.county_codes.specs.declared.county.County.{County}
use Rattle.county_codes.specs.Counties.{codes_of}
use Rattle.list_groupings.specs.Positions.{waiting}
use Rattle.list_groupings.proofs.PositionLemmas.{kept_own, mapped_codes}
use Rattle.list_groupings.proofs.position.Position.first.Goals as goal

pub returns : goal.returns
returns c =
    let cs = c.args.problem.now.counties in
    record {
      closed = c.new.ensures.items;
      rest = c.in_ok-all_waiting.ensures
          ∙ (ap (λ (l : List County). map (λ x. waiting (λ y. 0) x.code) l) c.counties.ensures.value
          ∙ (mapped_codes (λ (x : County). x.code) (λ y. 0) cs ∙ ap (λ (l : List ℕ). map (waiting (λ y. 0)) l) (sym (kept_own (codes_of cs)))));
    }
