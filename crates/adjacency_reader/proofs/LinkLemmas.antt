-- Links over pairs: what one link changes, and what all of them make of adjacency.
use Rattle.std.proofs.Common.{◌≡◌, ℕ, ◌<◌, ◌==◌, ◌&&◌, ◌⊎◌, inl, inr, ⊎_elim, nat_lt, Bool, true, false, List, [], ◌∷◌, Contains, Option, Some, None, filter, if◌then◌else◌, refl, sym, ap, ◌∙◌, arith, subst}
use Rattle.std.specs.List.Sorted.{IsStrictlySortedBy}
use Rattle.std.specs.Option.{option_or}
use Rattle.std.specs.BTreeSet.{BTreeSet, contains as set_contains}
use Rattle.std.proofs.lemmas.Bool.{and_parts, and_from, or_left}
use Rattle.std.proofs.lemmas.Bool.Decides.{Decides-eqb}
use Rattle.grouping_laws.specs.Sets.{contains}
use Rattle.county_problem.specs.ProblemValue.{names_both}
use Rattle.adjacency_reader.specs.declared.links.Sign.{Sign}
use Rattle.adjacency_reader.specs.declared.links.Sign.TheVariants.{Add, Cut}
use Rattle.adjacency_reader.specs.declared.links.Link.{Link}
use Rattle.adjacency_reader.specs.Pairs.{by_codes, names, ArePairs}
use Rattle.adjacency_reader.specs.Links.{is_on, last_sign}
use Rattle.adjacency_reader.specs.Adjacency.{joined_by, Adjacent, AreLinked, IsStrangeLink, AreAdjacent}
use Rattle.adjacency_reader.proofs.SetLemmas.{listed_where, pair_from_named, any_from_contained, named_among}

-- ---- one link
link_first : (lt on old : Bool) (later : Option Sign) (sign : Sign)
    → (lt && joined_by later (joined_by (if lt && on then Some sign else None) old)) ≡ (lt && joined_by (option_or later (if on then Some sign else None)) old)
link_first false on old later sign = refl
link_first true on old (Some Add) sign = refl
link_first true on old (Some Cut) sign = refl
link_first true on old None sign = refl

not_ordered : (lt on old : Bool) (sign : Sign) → lt ≡ false → old ≡ false → joined_by (if lt && on then Some sign else None) old ≡ false
not_ordered false on old sign is none = none
not_ordered true on old sign is none = cc

first_pairs : (lt named : Bool) (sign : Option Sign) → (lt && joined_by sign (lt && named)) ≡ (lt && joined_by sign named)
first_pairs true named sign = refl
first_pairs false named sign = refl

no_pair : (lt named : Bool) → lt ≡ false → (lt && named) ≡ false
no_pair false named is = refl
no_pair true named is = cc

abbrev Pairs : Type 0
Pairs = BTreeSet (ℕ × ℕ)

-- what the links that are left make of a pair, as all of them make of it
abbrev pub Joined : List Link → List Link → List (ℕ × ℕ) → Pairs → Type 0
Joined left links pairs linked =
    (x y : ℕ) → (nat_lt x y && joined_by (last_sign left x y) (set_contains by_codes linked (x, y))) ≡ (nat_lt x y && joined_by (last_sign links x y) (names_both pairs x y))

-- no pair has its greater code first
abbrev pub Ordered : Pairs → Type 0
Ordered linked = (x y : ℕ) → nat_lt x y ≡ false → set_contains by_codes linked (x, y) ≡ false

module _ (pairs : List (ℕ × ℕ)) (links : List Link) (linked : Pairs) where
  -- before any link
  pub joined_at_first : ((x y : ℕ) → set_contains by_codes linked (x, y) ≡ (nat_lt x y && names_both pairs x y)) → Joined links links pairs linked
  joined_at_first is x y = ap (λ (t : Bool). nat_lt x y && joined_by (last_sign links x y) t) (is x y) ∙ first_pairs (nat_lt x y) (names_both pairs x y) (last_sign links x y)

  pub ordered_at_first : ((x y : ℕ) → set_contains by_codes linked (x, y) ≡ (nat_lt x y && names_both pairs x y)) → Ordered linked
  ordered_at_first is x y more = is x y ∙ no_pair (nat_lt x y) (names_both pairs x y) more

  -- after all of them
  pub at_last : (left : List Link) → left ≡ [] → Joined left links pairs linked → Ordered linked
      → (x y : ℕ) → set_contains by_codes linked (x, y) ≡ (nat_lt x y && joined_by (last_sign links x y) (names_both pairs x y))
  at_last left none joined ordered x y =
      only (nat_lt x y) (set_contains by_codes linked (x, y)) (ordered x y) ∙ subst (λ (l : List Link). (nat_lt x y && joined_by (last_sign l x y) (set_contains by_codes linked (x, y))) ≡ (nat_lt x y && joined_by (last_sign links x y) (names_both pairs x y))) none (joined x y)
    where
      only : (lt there : Bool) → (lt ≡ false → there ≡ false) → there ≡ (lt && there)
      only true there none = refl
      only false there none = none refl

module _ (pairs : List (ℕ × ℕ)) (links left : List Link) (link : Link) (old new : Pairs)
    (after : (x y : ℕ) → set_contains by_codes new (x, y) ≡ joined_by (if nat_lt x y && is_on x y link then Some link.sign else None) (set_contains by_codes old (x, y))) where
  pub joined_after : Joined (link ∷ left) links pairs old → Joined left links pairs new
  joined_after before x y =
      ap (λ (t : Bool). nat_lt x y && joined_by (last_sign left x y) t) (after x y)
      ∙ link_first (nat_lt x y) (is_on x y link) (set_contains by_codes old (x, y)) (last_sign left x y) link.sign
      ∙ before x y

  pub ordered_after : Ordered old → Ordered new
  ordered_after before x y more = after x y ∙ not_ordered (nat_lt x y) (is_on x y link) (set_contains by_codes old (x, y)) link.sign more (before x y more)

-- ---- all links
pub linked_from : (pairs : List (ℕ × ℕ)) (links : List Link) (linked : Pairs) → IsStrictlySortedBy by_codes linked.keys
    → ((x y : ℕ) → set_contains by_codes linked (x, y) ≡ (nat_lt x y && joined_by (last_sign links x y) (names_both pairs x y))) → AreLinked pairs links linked.keys
linked_from pairs links linked ascending is = record {
  ascending = ascending;
  each = λ (a b : ℕ). listed_where linked.keys a b (joined_by (last_sign links a b) (names_both pairs a b)) (is a b);
}

-- the pairs of listed counties that rows name, from a set of the rows of two listed counties
pub pairs_from : (listed : List ℕ) (rows kept : List (ℕ × ℕ)) (test : ℕ → Bool) (pairs : Pairs) → ((c : ℕ) → test c ≡ contains listed c) → kept ≡ filter (λ q. test q.0 && test q.1) rows
    → IsStrictlySortedBy by_codes pairs.keys → ((x y : ℕ) → set_contains by_codes pairs (x, y) ≡ (nat_lt x y && names_both kept x y)) → ArePairs listed rows pairs.keys
pairs_from listed rows kept test pairs same kept_is ascending is = record {
  ascending = ascending;
  each = λ (a b : ℕ).
      let whole = listed_where pairs.keys a b (names_both kept a b) (is a b) in
      let both = contains listed a && contains listed b in
      let among : names_both kept a b ≡ (both && names_both rows a b) =
      ap (λ (k : List (ℕ × ℕ)). names_both k a b) kept_is ∙ named_among test rows a b
      ∙ ap (λ (t : Bool). (t && test b) && names_both rows a b) (same a) ∙ ap (λ (t : Bool). (contains listed a && t) && names_both rows a b) (same b) in (
        λ (there : Contains pairs.keys (a, b)).
            let found = whole.0 there in
            let parts = and_parts both (names_both rows a b) (sym among ∙ found.1) in
            let members = and_parts (contains listed a) (contains listed b) parts.0 in
            (found.0, members.0, members.1, parts.1),
        λ (q : (a < b) × (contains listed a ≡ true) × (contains listed b ≡ true) × (names_both rows a b ≡ true)).
            whole.1 (q.0, among ∙ and_from both (names_both rows a b) (and_from (contains listed a) (contains listed b) q.1 q.2) q.3),
      );
}

-- ---- adjacency
same_tests : (s t : Bool) → (s ≡ true → t ≡ true) → (t ≡ true → s ≡ true) → s ≡ t
same_tests true t to from = sym (to refl)
same_tests false true to from = from refl
same_tests false false to from = refl

names_own : (a b : ℕ) → names a b (a, b) ≡ true
names_own a b = or_left (a == a && b == b) (a == b && b == a) (and_from (a == a) (b == b) ((Decides-eqb a a).1 refl) ((Decides-eqb b b).1 refl))

abbrev Added : Option Sign → Bool → Bool → Type 0
Added sign both named = ((both ≡ true) × (joined_by sign named ≡ true)) ⊎ ((both ≡ false) × (sign ≡ Some Add))

split : (sign : Option Sign) (both named : Bool) → joined_by sign (both && named) ≡ true → Added sign both named
split (Some Add) true named is = inl (refl, refl)
split (Some Add) false named is = inr (refl, refl)
split (Some Cut) both named is = absurd cc
split None true named is = inl (refl, is)
split None false named is = absurd cc

join : (sign : Option Sign) (both named : Bool) → Added sign both named → joined_by sign (both && named) ≡ true
join sign both named (inl e) = ap (λ (t : Bool). joined_by sign (t && named)) e.0 ∙ e.1
join sign both named (inr e) = ap (λ (s : Option Sign). joined_by s (both && named)) e.1

module _ (listed : List ℕ) (rows pairs : List (ℕ × ℕ)) (are : ArePairs listed rows pairs) (a b : ℕ) (less : a < b) where
  -- a pair of listed counties is among the pairs where a row names it
  named_pairs : names_both pairs a b ≡ ((contains listed a && contains listed b) && names_both rows a b)
  named_pairs = same_tests _ _
      (λ (named : names_both pairs a b ≡ true). ⊎_elim
      (λ (there : Contains pairs (a, b)). let of = (are.each a b).0 there in and_from (contains listed a && contains listed b) (names_both rows a b) (and_from (contains listed a) (contains listed b) of.1 of.2) of.3)
      (λ (there : Contains pairs (b, a)). let of = (are.each b a).0 there in let more : b < a = of.0 in absurd (omega arith))
      (pair_from_named pairs a b named))
      (λ (holds : ((contains listed a && contains listed b) && names_both rows a b) ≡ true).
      let parts = and_parts (contains listed a && contains listed b) (names_both rows a b) holds in
      let members = and_parts (contains listed a) (contains listed b) parts.0 in
      any_from_contained (names a b) pairs (a, b) ((are.each a b).1 (less, members.0, members.1, parts.1)) (names_own a b))

module _ (listed : List ℕ) (rows : List (ℕ × ℕ)) (links : List Link) (a b : ℕ) (less : a < b) where
  abbrev both_listed : Bool
  both_listed = contains listed a && contains listed b

  adjacent_where : Added (last_sign links a b) both_listed (names_both rows a b) → Adjacent listed rows links a b ⊎ IsStrangeLink listed links a b
  adjacent_where (inl e) = let members = and_parts (contains listed a) (contains listed b) e.0 in inl (record {
    apart = λ (same : a ≡ b). omega arith;
    first_listed = members.0;
    second_listed = members.1;
    joined = e.1;
  })
  adjacent_where (inr e) = inr e

  added_where : Adjacent listed rows links a b ⊎ IsStrangeLink listed links a b → Added (last_sign links a b) both_listed (names_both rows a b)
  added_where (inl e) = inl (and_from (contains listed a) (contains listed b) e.first_listed e.second_listed, e.joined)
  added_where (inr e) = inr e

-- the pairs of a file's rows after links are exactly those that are adjacent, and beside them those of links to a
-- county outside the list
pub adjacent_from : (listed : List ℕ) (rows pairs : List (ℕ × ℕ)) (links : List Link) (linked : List (ℕ × ℕ)) → ArePairs listed rows pairs → AreLinked pairs links linked → AreAdjacent listed rows links linked
adjacent_from listed rows pairs links linked are after a b less =
    let sign = last_sign links a b in
    let both = contains listed a && contains listed b in
    let named = named_pairs listed rows pairs are a b less in (
      λ (there : Contains linked (a, b)).
          adjacent_where listed rows links a b less (split sign both (names_both rows a b) (ap (λ (t : Bool). joined_by sign t) (sym named) ∙ ((after.each a b).0 there).1)),
      λ (is : Adjacent listed rows links a b ⊎ IsStrangeLink listed links a b).
          (after.each a b).1 (less, ap (λ (t : Bool). joined_by sign t) named ∙ join sign both (names_both rows a b) (added_where listed rows links a b less is)),
    )
