use Rattle.std.proofs.Common.{◌≡◌, ℕ, ◌≤◌, rules, map, All, List, Result, Ok, refl, sym, ap, ◌∙◌, subst}
use Rattle.std.specs.List.{filter_map}
use Rattle.std.specs.Result.{result_map_both}
use Rattle.std.specs.List.Sorted.{IsStrictlyIncreasing}
use Rattle.std.proofs.lemmas.List.Elements.{All-map}
use Rattle.field_lines.specs.Cut.{cut}
use Rattle.county_codes.specs.declared.county.County.{County}
use Rattle.pl94_counties.specs.declared.geo.Area.TheVariants as areas
use Rattle.pl94_counties.specs.Counties.{county_of, county_in}
use Rattle.pl94_counties.specs.Areas.{area_list}
use Rattle.pl94_counties.specs.declared.fault.Pl94Fault.{Pl94Fault}
use Rattle.pl94_counties.specs.JoinedLines.{IsJoined, IsListedArea}
use Rattle.pl94_counties.proofs.ListLemmas.{codes_made, listed_made, counties_kept, codes_small}
use Rattle.pl94_counties.proofs.counties.read_counties.Goals as goal

-- what is listed is made of the entries, since their codes are those of counties
listed : (geo segment1 : List ℕ) (state : ℕ) (entries : List (ℕ × ℕ)) (items : List County) → state ≤ 99
    → All (λ e. IsJoined areas.County (cut geo).lines (cut segment1).lines state e.0 e.1) entries
    → items ≡ filter_map (λ (e : ℕ × ℕ). county_in e.0 e.1) entries → items ≡ map (λ (e : ℕ × ℕ). county_of e.0 e.1) entries
listed geo segment1 state entries items le joined is = is ∙ counties_kept entries (codes_small (cut geo).lines (cut segment1).lines state entries le joined)

pub returns-clause-value : goal.returns-clause-value
returns-clause-value c =
    let entries = c.in_ok-found.found.entries in
    let items : c.in_ok-counties.counties.items ≡ map (λ e. county_of e.0 e.1) entries = listed c.args.geo.now c.args.segment1.now c.args.state entries c.in_ok-counties.counties.items c.requires c.in_ok-found.ensures.from_lines (search rules) in
    let found : area_list areas.County c.args.geo.now c.args.segment1.now c.args.state ≡ Ok entries = c.in_ok-found.ensures.value in
    ap (λ (r : Result (List (ℕ × ℕ)) Pl94Fault). result_map_both (λ es. map (λ e. county_of e.0 e.1) es) (λ fault. fault) r) found ∙ ap (λ (cs : List County). Ok cs) (sym items)

pub returns-clause-ascending : goal.returns-clause-ascending
returns-clause-ascending c =
    let entries = c.in_ok-found.found.entries in
    let items : c.in_ok-counties.counties.items ≡ map (λ e. county_of e.0 e.1) entries = listed c.args.geo.now c.args.segment1.now c.args.state entries c.in_ok-counties.counties.items c.requires c.in_ok-found.ensures.from_lines (search rules) in
    subst (λ (xs : List County). IsStrictlyIncreasing (map (λ x. x.code) xs)) (sym items)
    (subst (λ (ns : List ℕ). IsStrictlyIncreasing ns) (sym (codes_made county_of (λ x. x.code) (λ n p. refl) entries)) c.in_ok-found.ensures.ascending)

pub returns-clause-from_lines : goal.returns-clause-from_lines
returns-clause-from_lines c =
    let entries = c.in_ok-found.found.entries in
    let items : c.in_ok-counties.counties.items ≡ map (λ e. county_of e.0 e.1) entries = listed c.args.geo.now c.args.segment1.now c.args.state entries c.in_ok-counties.counties.items c.requires c.in_ok-found.ensures.from_lines (search rules) in
    subst (λ (xs : List County). All (λ x. IsJoined areas.County (cut c.args.geo.now).lines (cut c.args.segment1.now).lines c.args.state x.code x.people) xs) (sym items)
    (All-map (λ (x : County). IsJoined areas.County (cut c.args.geo.now).lines (cut c.args.segment1.now).lines c.args.state x.code x.people) (λ (e : ℕ × ℕ). county_of e.0 e.1) entries c.in_ok-found.ensures.from_lines)

pub returns-clause-each_line : goal.returns-clause-each_line
returns-clause-each_line c =
    let entries = c.in_ok-found.found.entries in
    let items : c.in_ok-counties.counties.items ≡ map (λ e. county_of e.0 e.1) entries = listed c.args.geo.now c.args.segment1.now c.args.state entries c.in_ok-counties.counties.items c.requires c.in_ok-found.ensures.from_lines (search rules) in
    subst (λ (xs : List County). All (IsListedArea county_of areas.County (cut c.args.segment1.now).lines c.args.state xs) (cut c.args.geo.now).lines) (sym items)
    (listed_made county_of areas.County (cut c.args.segment1.now).lines c.args.state entries (cut c.args.geo.now).lines c.in_ok-found.ensures.each_line)
