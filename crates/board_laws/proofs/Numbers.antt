-- How often a number stands among the pieces.
use Rattle.std.proofs.Common.{◌≡◌, ℕ, ◌+◌, ◌≤◌, ◌<◌, Bool, true, false, cond, List, [], ◌∷◌, ◌++◌, ◌==◌, refl, ap, ◌∙◌, arith, ◌⊎◌, inl, inr, Contains, Option, Some, None}
use Rattle.std.proofs.lemmas.Bool.{eq-eqb, eqb-true, cases_lt}
use Rattle.grouping_laws.specs.Sets.{indicator, count}
use Rattle.place_sets.proofs.Sums.{sum_by-append}
use Rattle.grouping_laws.proofs.Digits.{true_digit}
use Rattle.grouping_laws.proofs.Elements.{Has, has_from_contains}
use Rattle.board_laws.specs.Skeleton.{Skeleton, waits, proved, split, Parts, no_part, part, onto, pieces, pieces_in, waiting, waiting_in, put, put_in}

pub often_append : (n : ℕ) (xs ys : List ℕ) → count n (xs ++ ys) ≡ count n xs + count n ys
often_append n xs ys = sum_by-append (λ y. indicator (y == n)) xs ys

pub often_has : (n : ℕ) (xs : List ℕ) → Has xs n → 1 ≤ count n xs
often_has n [] h = absurd h
often_has n (x ∷ xs) (inl e) = omega (arith, true_digit (x == n) (eq-eqb x n e))
often_has n (x ∷ xs) (inr h) = omega (arith, often_has n xs h)

pub often_contains : (n : ℕ) (xs : List ℕ) → Contains xs n → 1 ≤ count n xs
often_contains n xs h = often_has n xs (has_from_contains xs n h)

pub often_onto : (n : ℕ) (piece : Option ℕ) (xs : List ℕ) → count n xs ≤ count n (onto piece xs)
often_onto n None xs = omega arith
often_onto n (Some piece) xs = omega arith

pub onto_some : (n : ℕ) (piece : Option ℕ) (xs : List ℕ) → piece ≡ Some n → count n (onto piece xs) ≡ 1 + count n xs
onto_some n None xs e = absurd (cc)
onto_some n (Some piece) xs e = omega (arith, true_digit (piece == n) (eq-eqb piece n cc))

-- what waits is a piece
mutual
  pub few_wait : (n : ℕ) (skeleton : Skeleton) → count n (waiting skeleton) ≤ count n (pieces skeleton)
  few_wait n (waits piece) = omega arith
  few_wait n (proved piece tree) = often_onto n piece []
  few_wait n (split piece county limit parts raised) =
      omega (arith, few_wait_in n parts, few_wait n raised, often_append n (waiting_in parts) (waiting raised), often_append n (pieces_in parts) (pieces raised), often_onto n piece (pieces_in parts ++ pieces raised))

  pub few_wait_in : (n : ℕ) (parts : Parts) → count n (waiting_in parts) ≤ count n (pieces_in parts)
  few_wait_in n no_part = omega arith
  few_wait_in n (part codes skeleton others) = omega (arith, few_wait n skeleton, few_wait_in n others, often_append n (waiting skeleton) (waiting_in others), often_append n (pieces skeleton) (pieces_in others))

-- where the number doesn't wait nothing is put
mutual
  pub put_none : (n : ℕ) (new skeleton : Skeleton) → count n (waiting skeleton) ≡ 0 → put n new skeleton ≡ skeleton
  put_none n new (waits piece) e = go (piece == n) e
    where
      go : (b : Bool) → indicator b + 0 ≡ 0 → cond b new (waits piece) ≡ waits piece
      go true k = absurd (omega (arith, k))
      go false k = refl
  put_none n new (proved piece tree) e = refl
  put_none n new (split piece county limit parts raised) e =
      let sum = often_append n (waiting_in parts) (waiting raised) in
      ap (λ z. split piece county limit z (put n new raised)) (put_in_none n new parts (omega (arith, e, sum)))
      ∙ ap (split piece county limit parts) (put_none n new raised (omega (arith, e, sum)))

  pub put_in_none : (n : ℕ) (new : Skeleton) (parts : Parts) → count n (waiting_in parts) ≡ 0 → put_in n new parts ≡ parts
  put_in_none n new no_part e = refl
  put_in_none n new (part codes skeleton others) e =
      let sum = often_append n (waiting skeleton) (waiting_in others) in
      ap (λ z. part codes z (put_in n new others)) (put_none n new skeleton (omega (arith, e, sum)))
      ∙ ap (part codes skeleton) (put_in_none n new others (omega (arith, e, sum)))

-- one number more or less in front
onto_more : (x : ℕ) (piece : Option ℕ) (xs ys : List ℕ) (a b : ℕ) → count x xs + a ≡ count x ys + b → count x (onto piece xs) + a ≡ count x (onto piece ys) + b
onto_more x None xs ys a b e = e
onto_more x (Some piece) xs ys a b e = omega (arith, e)

-- where the number waits once, what is put stands in its place
mutual
  pub put_count : (x n : ℕ) (new skeleton : Skeleton) → count n (waiting skeleton) ≡ 1 → count x (pieces (put n new skeleton)) + indicator (n == x) ≡ count x (pieces skeleton) + count x (pieces new)
  put_count x n new (waits piece) e = go (piece == n) refl e
    where
      go : (b : Bool) → (piece == n) ≡ b → indicator b + 0 ≡ 1 → count x (pieces (cond b new (waits piece))) + indicator (n == x) ≡ (indicator (piece == x) + 0) + count x (pieces new)
      go true k d = omega (arith, ap (λ z. indicator (z == x)) (eqb-true piece n k))
      go false k d = absurd (omega (arith, d))
  put_count x n new (proved piece tree) e = absurd (omega (arith, e))
  put_count x n new (split piece county limit parts raised) e =
      onto_more x piece (pieces_in (put_in n new parts) ++ pieces (put n new raised)) (pieces_in parts ++ pieces raised) (indicator (n == x)) (count x (pieces new))
      (go (λ k. put_in_count x n new parts k) (λ k. put_count x n new raised k) (cases_lt 0 (count n (waiting_in parts))))
    where
      sum : count n (waiting_in parts ++ waiting raised) ≡ count n (waiting_in parts) + count n (waiting raised)
      sum = often_append n (waiting_in parts) (waiting raised)

      here : count x (pieces_in parts ++ pieces raised) ≡ count x (pieces_in parts) + count x (pieces raised)
      here = often_append x (pieces_in parts) (pieces raised)

      there : count x (pieces_in (put_in n new parts) ++ pieces (put n new raised)) ≡ count x (pieces_in (put_in n new parts)) + count x (pieces (put n new raised))
      there = often_append x (pieces_in (put_in n new parts)) (pieces (put n new raised))

      go : (count n (waiting_in parts) ≡ 1 → count x (pieces_in (put_in n new parts)) + indicator (n == x) ≡ count x (pieces_in parts) + count x (pieces new))
          → (count n (waiting raised) ≡ 1 → count x (pieces (put n new raised)) + indicator (n == x) ≡ count x (pieces raised) + count x (pieces new))
          → (0 < count n (waiting_in parts)) ⊎ (count n (waiting_in parts) ≤ 0)
          → count x (pieces_in (put_in n new parts) ++ pieces (put n new raised)) + indicator (n == x) ≡ count x (pieces_in parts ++ pieces raised) + count x (pieces new)
      go f g (inl some) = omega (arith, here, there, f (omega (arith, some, e, sum)), ap (λ z. count x (pieces z)) (put_none n new raised (omega (arith, some, e, sum))))
      go f g (inr none) = omega (arith, here, there, g (omega (arith, none, e, sum)), ap (λ z. count x (pieces_in z)) (put_in_none n new parts (omega (arith, none))))

  pub put_in_count : (x n : ℕ) (new : Skeleton) (parts : Parts) → count n (waiting_in parts) ≡ 1 → count x (pieces_in (put_in n new parts)) + indicator (n == x) ≡ count x (pieces_in parts) + count x (pieces new)
  put_in_count x n new no_part e = absurd (omega (arith, e))
  put_in_count x n new (part codes skeleton others) e = go (λ k. put_count x n new skeleton k) (λ k. put_in_count x n new others k) (cases_lt 0 (count n (waiting skeleton)))
    where
      sum : count n (waiting skeleton ++ waiting_in others) ≡ count n (waiting skeleton) + count n (waiting_in others)
      sum = often_append n (waiting skeleton) (waiting_in others)

      here : count x (pieces skeleton ++ pieces_in others) ≡ count x (pieces skeleton) + count x (pieces_in others)
      here = often_append x (pieces skeleton) (pieces_in others)

      there : count x (pieces (put n new skeleton) ++ pieces_in (put_in n new others)) ≡ count x (pieces (put n new skeleton)) + count x (pieces_in (put_in n new others))
      there = often_append x (pieces (put n new skeleton)) (pieces_in (put_in n new others))

      go : (count n (waiting skeleton) ≡ 1 → count x (pieces (put n new skeleton)) + indicator (n == x) ≡ count x (pieces skeleton) + count x (pieces new))
          → (count n (waiting_in others) ≡ 1 → count x (pieces_in (put_in n new others)) + indicator (n == x) ≡ count x (pieces_in others) + count x (pieces new))
          → (0 < count n (waiting skeleton)) ⊎ (count n (waiting skeleton) ≤ 0)
          → count x (pieces (put n new skeleton) ++ pieces_in (put_in n new others)) + indicator (n == x) ≡ count x (pieces skeleton ++ pieces_in others) + count x (pieces new)
      go f g (inl some) = omega (arith, here, there, f (omega (arith, some, e, sum)), ap (λ z. count x (pieces_in z)) (put_in_none n new others (omega (arith, some, e, sum))))
      go f g (inr none) = omega (arith, here, there, g (omega (arith, none, e, sum)), ap (λ z. count x (pieces z)) (put_none n new skeleton (omega (arith, none))))

pub has_often : (n : ℕ) (xs : List ℕ) → 1 ≤ count n xs → Has xs n
has_often n [] h = absurd (omega (arith, h))
has_often n (x ∷ xs) h = go (x == n) refl h (λ k. has_often n xs k)
  where
    go : (b : Bool) → (x == n) ≡ b → 1 ≤ indicator b + count n xs → (1 ≤ count n xs → Has xs n) → (x ≡ n) ⊎ Has xs n
    go true e h f = inl (eqb-true x n e)
    go false e h f = inr (f (omega (arith, h)))
