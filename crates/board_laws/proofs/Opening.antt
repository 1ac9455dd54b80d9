-- How a round begins.
use Rattle.std.proofs.Common.{◌≡◌, ℕ, ◌+◌, ◌-◌, nat_le, nat_lt, ◌&&◌, List, ◌++◌, ◌==◌, refl, ap, arith, Option, Some, None}
use Rattle.std.proofs.lemmas.Bool.Decides.{nat_tests}
use Rattle.grouping_laws.specs.Sets.{indicator, count}
use Rattle.grouping_laws.specs.Problem.{Problem}
use Rattle.certificate_data.specs.Round.{Round}
use Rattle.certificate_laws.specs.State.{State, empty_state, close, raise}
use Rattle.certificate_laws.specs.Proving.{limit_of}
use Rattle.board_laws.specs.Skeleton.{Skeleton, waits, proved, split, Parts, no_part, part, onto, pieces, pieces_in, IsSkeleton, EachIsSkeleton}
use Rattle.board_laws.specs.Standing.{AreNumbered}
use Rattle.board_laws.specs.Content.{Content, Opens, EachOpens, Begins}
use Rattle.board_laws.proofs.Numbers.{often_append}

mutual
  pub opens_is : (depth : ℕ) (skeleton : Skeleton) (p : Problem) (round : Round) (s : State) (first next : ℕ) → Opens depth skeleton p round s first next → IsSkeleton skeleton p round s
  opens_is depth (waits piece) p round s first next o = tt
  opens_is depth (proved piece tree) p round s first next o = absurd o
  opens_is depth (split piece county limit parts raised) p round s first next o =
      (o.2, o.3, o.4, opens_in (depth - 1) parts p round s first o.5.0 o.5.1, opens_is (depth - 1) raised p round (raise county (limit_of round limit) s) o.5.0 next o.5.2)

  opens_in : (depth : ℕ) (parts : Parts) (p : Problem) (round : Round) (s : State) (first next : ℕ) → EachOpens depth parts p round s first next → EachIsSkeleton parts p round s
  opens_in depth no_part p round s first next o = tt
  opens_in depth (part codes skeleton others) p round s first next o = (opens_is depth skeleton p round (close codes s) first o.0 o.1, opens_in depth others p round s o.0 next o.2)

one_more : (x first : ℕ) → indicator (nat_lt x first) + indicator (first == x) ≡ indicator (nat_lt x (first + 1))
one_more x first = grind (arith, nat_tests)

numbered : (x last : ℕ) → indicator (nat_lt x (last + 1)) ≡ indicator (nat_lt x 1) + indicator (nat_le 1 x && nat_le x last)
numbered x last = grind (arith, nat_tests)

onto_none : (piece : Option ℕ) (xs : List ℕ) → piece ≡ None → onto piece xs ≡ xs
onto_none None xs e = refl
onto_none (Some piece) xs e = absurd (cc)

-- the numbers go on from one to the next
mutual
  pub opens_count : (x depth : ℕ) (skeleton : Skeleton) (p : Problem) (round : Round) (s : State) (first next : ℕ) → Opens depth skeleton p round s first next
      → indicator (nat_lt x first) + count x (pieces skeleton) ≡ indicator (nat_lt x next)
  opens_count x depth (waits piece) p round s first next o = omega (arith, one_more x first, ap (λ z. indicator (z == x)) o.0, ap (λ z. indicator (nat_lt x z)) o.1)
  opens_count x depth (proved piece tree) p round s first next o = absurd o
  opens_count x depth (split piece county limit parts raised) p round s first next o =
      omega (arith, ap (count x) (onto_none piece (pieces_in parts ++ pieces raised) o.0), often_append x (pieces_in parts) (pieces raised), opens_count_in x (depth - 1) parts p round s first o.5.0 o.5.1, opens_count x (depth - 1) raised p round (raise county (limit_of round limit) s) o.5.0 next o.5.2)

  opens_count_in : (x depth : ℕ) (parts : Parts) (p : Problem) (round : Round) (s : State) (first next : ℕ) → EachOpens depth parts p round s first next
      → indicator (nat_lt x first) + count x (pieces_in parts) ≡ indicator (nat_lt x next)
  opens_count_in x depth no_part p round s first next o = omega (arith, ap (λ z. indicator (nat_lt x z)) o)
  opens_count_in x depth (part codes skeleton others) p round s first next o =
      omega (arith, often_append x (pieces skeleton) (pieces_in others), opens_count x depth skeleton p round (close codes s) first o.0 o.1, opens_count_in x depth others p round s o.0 next o.2)

pub begins_numbered : (p : Problem) (depth : ℕ) (b : Content) → Begins p depth b → AreNumbered b.skeleton b.last
begins_numbered p depth b begins x = omega (arith, opens_count x depth b.skeleton p b.round (empty_state p) 1 (b.last + 1) begins.skeleton, numbered x b.last)
