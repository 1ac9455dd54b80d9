use Rattle.std.proofs.Common.{◌<◌, ◌≡◌, ℕ, rules, map, All, List, refl, sym, subst}
use Rattle.std.specs.List.Sorted.{IsStrictlyIncreasing}
use Rattle.std.proofs.lemmas.List.Elements.{All-map}
use Rattle.field_lines.specs.Cut.{cut}
use Rattle.pl94_counties.specs.declared.blocks.Block.{Block}
use Rattle.pl94_counties.specs.declared.geo.Area.TheVariants as areas
use Rattle.pl94_counties.specs.Counties.{block_of}
use Rattle.pl94_counties.specs.JoinedLines.{IsJoined, IsListedArea}
use Rattle.pl94_counties.proofs.ListLemmas.{codes_made, listed_made, blocks_small}
use Rattle.pl94_counties.proofs.blocks.read_blocks.Goals as goal

pub returns-clause-ascending : goal.returns-clause-ascending
returns-clause-ascending c =
    let entries = c.in_ok-found.found.entries in
    let items : c.in_ok-blocks.blocks.items ≡ map (λ e. block_of e.0 e.1) entries = search rules in
    subst (λ (xs : List Block). IsStrictlyIncreasing (map (λ x. x.code) xs)) (sym items)
    (subst (λ (ns : List ℕ). IsStrictlyIncreasing ns) (sym (codes_made block_of (λ x. x.code) (λ n p. refl) entries)) c.in_ok-found.ensures.ascending)

pub returns-clause-from_lines : goal.returns-clause-from_lines
returns-clause-from_lines c =
    let entries = c.in_ok-found.found.entries in
    let items : c.in_ok-blocks.blocks.items ≡ map (λ e. block_of e.0 e.1) entries = search rules in
    subst (λ (xs : List Block). All (λ x. IsJoined areas.Block (cut c.args.geo.now).lines (cut c.args.segment1.now).lines c.args.state x.code x.people) xs) (sym items)
    (All-map (λ (x : Block). IsJoined areas.Block (cut c.args.geo.now).lines (cut c.args.segment1.now).lines c.args.state x.code x.people) (λ (e : ℕ × ℕ). block_of e.0 e.1) entries c.in_ok-found.ensures.from_lines)

pub returns-clause-each_line : goal.returns-clause-each_line
returns-clause-each_line c =
    let entries = c.in_ok-found.found.entries in
    let items : c.in_ok-blocks.blocks.items ≡ map (λ e. block_of e.0 e.1) entries = search rules in
    subst (λ (xs : List Block). All (IsListedArea block_of areas.Block (cut c.args.segment1.now).lines c.args.state xs) (cut c.args.geo.now).lines) (sym items)
    (listed_made block_of areas.Block (cut c.args.segment1.now).lines c.args.state entries (cut c.args.geo.now).lines c.in_ok-found.ensures.each_line)

pub returns-clause-small : goal.returns-clause-small
returns-clause-small c =
    let entries = c.in_ok-found.found.entries in
    let items : c.in_ok-blocks.blocks.items ≡ map (λ e. block_of e.0 e.1) entries = search rules in
    subst (λ (xs : List Block). All (λ x. x.code < 1000000000000000) xs) (sym items)
    (All-map (λ (x : Block). x.code < 1000000000000000) (λ (e : ℕ × ℕ). block_of e.0 e.1) entries
    (blocks_small (cut c.args.geo.now).lines (cut c.args.segment1.now).lines c.args.state entries c.in_ok-found.ensures.from_lines))
