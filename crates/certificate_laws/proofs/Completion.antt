-- Groups that complete a state to a lawful grouping.
use Rattle.std.proofs.Common.{◌≡◌, ℕ, ◌+◌, ◌≤◌, true, nat_le, List, length, subst, arith}
use Rattle.std.specs.List.{AllZip}
use Rattle.std.proofs.lemmas.Bool.{and_from, and_parts, leb-true, le-leb}
use Rattle.county_codes.specs.declared.group.Group.{Group}
use Rattle.grouping_laws.specs.Sets.{indicator, sum_by, count_in, contains, Inside}
use Rattle.grouping_laws.specs.Problem.{Problem, Suits, people_of, Connected, LawfulGroup}
use Rattle.grouping_laws.specs.Grouping.{Grouping, sets_of, seats_of}
use Rattle.place_sets.proofs.Sums.{digit_one}
use Rattle.grouping_laws.proofs.Elements.{Has, has-map, has_set}
use Rattle.grouping_laws.proofs.Digits.{digit_true, true_digit}
use Rattle.grouping_laws.proofs.Sizes.{stands_some, count-le-count_in}
use Rattle.certificate_laws.specs.State.{State, open_to}

-- each county of the problem is in one closed group or in the rest
abbrev pub IsWhole : Problem → State → Type 0
IsWhole p s = (c : ℕ) → count_in c s.closed + indicator (s.rest c) ≡ indicator (contains p.counties c)

-- groups that, with the closed ones, make a lawful grouping that agrees with the state
pub record Completes (p : Problem) (s : State) (opens : Grouping) : Type 0 where
  pub once : (c : ℕ) → count_in c (sets_of opens) ≡ indicator (s.rest c)
  pub connected : (m : Group) → Has opens m → Connected p m.codes
  pub suits : (m : Group) → Has opens m → Suits p (people_of p m.codes) m.seats
  pub large : (m : Group) → Has opens m → (c : ℕ) → contains m.codes c ≡ true → s.least c ≤ length m.codes
  pub seats : List ℕ
  pub closed_suits : AllZip (λ k n. Suits p (people_of p k) n) s.closed seats
  pub all_seats : sum_by (λ k. k) seats + seats_of opens ≡ p.seats_left

-- a county that may lie in a group of i counties is in the rest
pub open_rest : (s : State) (i x : ℕ) → open_to s i x ≡ true → s.rest x ≡ true
open_rest s i x e = (and_parts (s.rest x) (nat_le (s.least x) i) e).0

pub open_least : (s : State) (i x : ℕ) → open_to s i x ≡ true → s.least x ≤ i
open_least s i x e = leb-true (s.least x) i (and_parts (s.rest x) (nat_le (s.least x) i) e).1

pub is_open : (s : State) (i x : ℕ) → s.rest x ≡ true → s.least x ≤ i → open_to s i x ≡ true
is_open s i x e l = and_from (s.rest x) (nat_le (s.least x) i) e (le-leb (s.least x) i l)

-- a county of the rest is one of the problem
pub rest_listed : (p : Problem) (s : State) → IsWhole p s → (x : ℕ) → s.rest x ≡ true → contains p.counties x ≡ true
rest_listed p s whole x e = digit_true (contains p.counties x) (omega (arith, whole x, true_digit (s.rest x) e))

module _ (p : Problem) (s : State) (whole : IsWhole p s) (opens : Grouping) (c : Completes p s opens) where
  pub once_le : (x : ℕ) → count_in x (sets_of opens) ≤ 1
  once_le x = omega (arith, whole x, c.once x, digit_one (contains p.counties x))

  -- a county of a completing group is in the rest
  pub group_rest : (m : Group) → Has opens m → Inside s.rest m.codes
  group_rest m h x e = digit_true (s.rest x) (omega (arith, c.once x, stands_some x (sets_of opens) m.codes (has_set opens m h) e))

  -- a group of at most i counties has only counties that may lie in such a group
  pub group_open : (m : Group) (i : ℕ) → Has opens m → length m.codes ≤ i → Inside (open_to s i) m.codes
  group_open m i h l x e = is_open s i x (group_rest m h x e) (omega (arith, c.large m h x e))

  pub group_lawful : (m : Group) → Has opens m → LawfulGroup p m.codes
  group_lawful m h = record {
    once = λ x. omega (arith, count-le-count_in x (sets_of opens) m.codes (has_set opens m h), once_le x);
    listed = λ x e. rest_listed p s whole x (group_rest m h x e);
    connected = c.connected m h;
    seats = m.seats;
    suits = c.suits m h;
  }

  pub set_open : (g : List ℕ) (i : ℕ) → Has (sets_of opens) g → length g ≤ i → Inside (open_to s i) g
  set_open g i h l = let r = has-map opens g h in subst (Inside (open_to s i)) r.2 (group_open r.0 i r.1 (rw r.2 l))
