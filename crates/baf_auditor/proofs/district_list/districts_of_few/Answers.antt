use Rattle.std.proofs.Common.{◌≡◌, ℕ, List, length, rules, subst, arith}
use Rattle.std.specs.Ordering.{nat_cmp}
use Rattle.std.specs.Map.{lookup}
use Rattle.std.specs.BTreeMap.{is_at, keys}
use Rattle.std.proofs.lemmas.Result.{IfOk-weaker}
use Rattle.baf_auditor.specs.Districts.{AreListedBy}
use Rattle.baf_auditor.proofs.GivenLemmas.{given_for}
use Rattle.baf_auditor.proofs.AuditLemmas.{places_below, given_by, given_fit}
use Rattle.baf_auditor.proofs.DistrictListLemmas.{are_districts}
use Rattle.baf_auditor.proofs.district_list.districts_of_few.Goals as goal

pub standing_places-requires : goal.standing_places-requires
standing_places-requires c =
    let listed = λ (code : ℕ). lookup (is_at (nat_cmp code)) c.in_ok-listed.listed.items in
    let are = given_for listed c.args.lines.now c.in_ok-ordered.ordered.items c.in_ok-found.found.items c.as_slice-given.result.now c.in_ok-ordered.ensures.same (search rules) c.in_ok-found.ensures.given in
    given_fit _ _ _ _ _ _ (given_by c.args.problem.now c.args.grouping.now.groups.items c.args.blocks.now c.args.lines.now listed c.as_slice-given.result.now c.requires.ascending c.in_ok-listed.ensures.entries are) c.requires.fits

pub given_counties-requires : goal.given_counties-requires
given_counties-requires c =
    let listed = λ (code : ℕ). lookup (is_at (nat_cmp code)) c.in_ok-listed.listed.items in
    let are = given_for listed c.args.lines.now c.in_ok-ordered.ordered.items c.in_ok-found.found.items c.as_slice-given.result.now c.in_ok-ordered.ensures.same (search rules) c.in_ok-found.ensures.given in
    given_fit _ _ _ _ _ _ (given_by c.args.problem.now c.args.grouping.now.groups.items c.args.blocks.now c.args.lines.now listed c.as_slice-given.result.now c.requires.ascending c.in_ok-listed.ensures.entries are) c.requires.fits

pub list_districts-requires : goal.list_districts-requires
list_districts-requires c =
    places_below (length c.args.grouping.now.groups.items) 4294967295 (keys c.in_ok-places.places) c.deref.result.now (search rules) (omega (arith, c.requires.few_groups)) c.in_ok-places.ensures.within

pub returns : goal.returns
returns c =
    let listed = λ (code : ℕ). lookup (is_at (nat_cmp code)) c.in_ok-listed.listed.items in
    let are = given_for listed c.args.lines.now c.in_ok-ordered.ordered.items c.in_ok-found.found.items c.as_slice-given.result.now c.in_ok-ordered.ensures.same (search rules) c.in_ok-found.ensures.given in
    let found = c.in_ok-places.places in
    let gs = c.args.grouping.now.groups.items in
    let pairs = c.in_ok-pairs.pairs in
    let sums = c.in_ok-sums.sums in
    let places : c.deref.result.now ≡ keys found = search rules in
    let counties : c.deref-2.result.now ≡ pairs.keys = search rules in
    let groups : c.len.result ≡ length gs = search rules in
    IfOk-weaker c.list_districts.result _ _
    (λ v is. are_districts _ _ _ _ _ _ (given_by c.args.problem.now c.args.grouping.now.groups.items c.args.blocks.now c.args.lines.now listed c.as_slice-given.result.now c.requires.ascending c.in_ok-listed.ensures.entries are)
    found.entries c.listed_places.ensures.ordered c.in_ok-places.ensures.entries
    pairs c.listed_counties.ensures.ordered c.in_ok-pairs.ensures
    sums.entries c.list_districts.ensures.ordered c.in_ok-sums.ensures
    v.items (subst (λ (n : ℕ). AreListedBy n (keys found) pairs.keys sums.entries v.items) groups
    (subst (λ (l : List (List ℕ × ℕ)). AreListedBy c.len.result l pairs.keys sums.entries v.items) places
    (subst (λ (l : List (List ℕ × ℕ)). AreListedBy c.len.result c.deref.result.now l sums.entries v.items) counties is))))
    c.list_districts.ensures.districts
