-- Where no grouping is lawful, one leaf at the empty state says so.
use Rattle.std.proofs.Common.{ℕ, List, [], ◌∷◌, ◌⊎◌, inl, inr, ⊎_elim}
use Rattle.std.specs.List.{AllZip}
use Rattle.std.proofs.lemmas.Bool.{cases_lt}
use Rattle.grouping_laws.specs.Sets.{sum_by, contains}
use Rattle.grouping_laws.specs.Problem.{Problem, Suits, people_of, IsProblem}
use Rattle.grouping_laws.specs.Grouping.{IsImpossible}
use Rattle.grouping_laws.specs.Parts.{IsPart, AreParts}
use Rattle.grouping_laws.specs.Ranges.{IsLeast, IsMost, SuitAll, seated}
use Rattle.grouping_laws.proofs.Elements.{has_all}
use Rattle.grouping_laws.proofs.Ranges.{people_have_ranges, seats_to}
use Rattle.grouping_laws.proofs.Seated.{first_code, seated_lawful}
use Rattle.certificate_laws.specs.State.{empty_state}
use Rattle.certificate_data.specs.Tree.{stuck, seats}
use Rattle.certificate_laws.specs.Leaves.{IsStuck, IsOffSeats}
use Rattle.certificate_laws.specs.Search.{ImpossibleIsLeaf}
use Rattle.certificate_laws.proofs.Regions.{parts_exist}
use Rattle.certificate_laws.proofs.Narrowing.{all_suit}

-- sets that suit some seats have a least and a greatest number each
run_of : (p : Problem) → IsProblem p → (sets : List (List ℕ)) (ks : List ℕ) → SuitAll p sets ks → (lows : List ℕ) × (highs : List ℕ) × AllZip (IsLeast p) sets lows × AllZip (IsMost p) sets highs
run_of p is [] ks h = ([], [], tt, tt)
run_of p is (xs ∷ sets) [] h = absurd h
run_of p is (xs ∷ sets) (k ∷ ks) h =
    let next = run_of p is sets ks h.1 in
    ⊎_elim
    (λ none. absurd (none k h.0))
    (λ r. (r.0 ∷ next.0, r.1 ∷ next.1, (record { suits = r.2; least = λ j t. (r.4 j t).0 }, next.2), (record { suits = r.3; most = λ j t. (r.4 j t).1 }, next.3)))
    (people_have_ranges p is.some_people is.tolerated (people_of p xs))

module _ (p : Problem) (is : IsProblem p) (impossible : IsImpossible p) (parts : List (List ℕ)) (are : AreParts p (contains p.counties) parts) where
  abbrev Found : Type 0
  Found = ((c : ℕ) × IsStuck p (empty_state p) c) ⊎ IsOffSeats p (empty_state p)

  one_stuck : (xs : List ℕ) → IsPart p (contains p.counties) xs → ((k : ℕ) → Suits p (people_of p xs) k → ⊥) → Found
  one_stuck xs part none = let c = first_code xs part.connected.some_county in inl (c.0, record { part = xs; is_part = part; around = c.1; cannot_fill = inl none })

  all_seated : (ks : List ℕ) → SuitAll p parts ks → Found
  all_seated ks suit =
      let r = run_of p is parts ks suit in
      ⊎_elim
      (λ above. inr (record { parts = parts; are_parts = are; ranges = r.0; off = inl (r.2, above) }))
      (λ low. ⊎_elim
      (λ below. inr (record { parts = parts; are_parts = are; ranges = r.1; off = inr (r.3, below) }))
      (λ high.
      let some = seats_to p parts r.0 r.1 p.seats_left r.2 r.3 low high in
      absurd (impossible (seated parts some.0) (seated_lawful p parts some.0 are.once (λ xs h. (has_all (IsPart p (contains p.counties)) parts are.each xs h).connected) some.1 some.2)))
      (cases_lt (sum_by (λ k. k) r.1) p.seats_left))
      (cases_lt p.seats_left (sum_by (λ k. k) r.0))

  found : Found
  found = ⊎_elim (λ r. all_seated r.0 r.1) (λ r. one_stuck r.0 (has_all (IsPart p (contains p.counties)) parts are.each r.0 r.1) r.2) (all_suit p is parts)

pub impossible_is_leaf : ImpossibleIsLeaf
impossible_is_leaf p is impossible =
    let parts = parts_exist p is (contains p.counties) (λ c e. e) in
    ⊎_elim (λ r. (stuck r.0, λ round. r.1)) (λ v. (seats, λ round. v)) (found p is impossible parts.0 parts.1)
