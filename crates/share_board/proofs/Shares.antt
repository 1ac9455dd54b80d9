-- What the branches of an opening cost: each has its share, and its sets are among the connected ones within the limit.
use Rattle.std.proofs.Common.{◌≡◌, ℕ, ◌+◌, ◌*◌, ◌≤◌, ◌<◌, Bool, true, false, ◌&&◌, List, [], ◌∷◌, length, filter, refl, sym, ap, ◌∙◌, arith, inl, inr, Contains}
use Rattle.std.proofs.lemmas.Bool.{and_parts}
use Rattle.std.proofs.lemmas.List.Filters.{length-filter_both}
use mathlib.Core.Bool.{not}
use Rattle.grouping_laws.specs.Sets.{contains}
use Rattle.grouping_laws.specs.Problem.{Problem}
use Rattle.grouping_laws.specs.GroupsFrom.{IsBefore}
use Rattle.grouping_laws.proofs.Elements.{Has, has_from_contains, contains_from_has}
use Rattle.grouping_laws.proofs.Parts.{has-filter}
use Rattle.grouping_laws.proofs.Places.{has_member}
use Rattle.grouping_laws.proofs.PlaceCodes.{member_has}
use Rattle.certificate_laws.proofs.Kept.{filter_pairs, filter_has}
use Rattle.certificate_data.specs.Round.{Round}
use Rattle.certificate_laws.specs.State.{State, open_to}
use Rattle.certificate_laws.specs.Groups.{IsSetAt}
use Rattle.checker_laws.specs.Cost.{IsSetCount}
use Rattle.share_board.specs.Replies.{IsSmallSet}

-- all counties of a set pass a test
abbrev all_pass : (ℕ → Bool) → List ℕ → Bool
all_pass f [] = true
all_pass f (c ∷ codes) = f c && all_pass f codes

passes : (f : ℕ → Bool) (codes : List ℕ) (c : ℕ) → all_pass f codes ≡ true → Has codes c → f c ≡ true
passes f [] c e h = absurd h
passes f (d ∷ codes) c e (inl i) = sym (ap f i) ∙ (and_parts (f d) (all_pass f codes) e).0
passes f (d ∷ codes) c e (inr h) = passes f codes c (and_parts (f d) (all_pass f codes) e).1 h

and_true : (a b : Bool) → a ≡ true → b ≡ true → (a && b) ≡ true
and_true true true e k = refl
and_true true false e k = k
and_true false b e k = e

all_pass_so : (f : ℕ → Bool) (codes : List ℕ) → ((c : ℕ) → Has codes c → f c ≡ true) → all_pass f codes ≡ true
all_pass_so f [] h = refl
all_pass_so f (d ∷ codes) h = and_true (f d) (all_pass f codes) (h d (inl refl)) (all_pass_so f codes (λ c i. h c (inr i)))

filtered_few : (q : List ℕ → Bool) (xs : List (List ℕ)) → length (filter q xs) ≤ length xs
filtered_few q xs = omega (arith, length-filter_both q (λ x. not (q x)) (λ x. refl) xs)

-- the sets of a branch, by a test
abbrev of_branch : State → ℕ → ℕ → List ℕ → Bool
of_branch s limit county g = contains g county && all_pass (open_to s limit) g

-- there are no more sets for a branch than connected ones within the limit
pub sets_of_branch : (p : Problem) (round : Round) (s : State) (county m : ℕ) → IsSetCount round.order (IsSmallSet p round) m → (k : ℕ) × IsSetCount round.order (IsSetAt p round.order s county round.limit) k × (k ≤ m)
sets_of_branch p round s county m many =
    let q = of_branch s round.limit county in
    let kept = filter q many.sets in
    (length kept, record { sets = kept; each = λ g. (there g, back g); sorted = filter_pairs (IsBefore round.order) q many.sets many.sorted; number = refl }, omega (arith, filtered_few q many.sets, many.number))
  where
    there : (g : List ℕ) → Contains (filter (of_branch s round.limit county) many.sets) g → IsSetAt p round.order s county round.limit g
    there g h =
        let r = has-filter (of_branch s round.limit county) many.sets g (has_from_contains (filter (of_branch s round.limit county) many.sets) g h) in
        let small = (many.each g).0 (contains_from_has many.sets g r.0) in
        let both = and_parts (contains g county) (all_pass (open_to s round.limit) g) r.1 in
        record { connected = small.connected; in_order = small.in_order; has = both.0; small = small.small; inside = λ c i. passes (open_to s round.limit) g c both.1 (member_has g c i) }

    back : (g : List ℕ) → IsSetAt p round.order s county round.limit g → Contains (filter (of_branch s round.limit county) many.sets) g
    back g i =
        let among = has_from_contains many.sets g ((many.each g).1 (record { connected = i.connected; in_order = i.in_order; small = i.small })) in
        let pass = all_pass_so (open_to s round.limit) g (λ c h. i.inside c (has_member g c h)) in
        contains_from_has (filter (of_branch s round.limit county) many.sets) g (filter_has (of_branch s round.limit county) many.sets g among (and_true (contains g county) (all_pass (open_to s round.limit) g) i.has pass))

-- a share that the branch would go above is below the cost of a line
pub share_below : (p : Problem) (round : Round) (s : State) (county share : ℕ) → ((m : ℕ) → IsSetCount round.order (IsSetAt p round.order s county round.limit) m → share ≤ 2 * m)
    → (m : ℕ) → IsSetCount round.order (IsSmallSet p round) m → share < 3 * (m + 1)
share_below p round s county share above m many = let r = sets_of_branch p round s county m many in omega (arith, above r.0 r.1, r.2)
