-- Sums and products of lists.
use Rattle.std.proofs.Common.{◌≡◌, ◌+◌, ◌≤◌, Bool, true, false, cond, List, [], ◌∷◌, filter, ap, arith}
use Rattle.county_codes.specs.declared.county.County.{County}
use Rattle.county_codes.specs.Counties.{people_in}

-- some of the counties have no more people than all
pub people_kept : (q : County → Bool) (ks : List County) → people_in (filter q ks) ≤ people_in ks
people_kept q [] = omega arith
people_kept q (k ∷ ks) = go (q k) (people_kept q ks)
  where
    go : (b : Bool) → people_in (filter q ks) ≤ people_in ks → people_in (cond b (k ∷ filter q ks) (filter q ks)) ≤ people_in (k ∷ ks)
    go true h = omega (arith, h)
    go false h = omega (arith, h)

-- and so have those of the rest and the one that is read
pub people_read : (q : County → Bool) (k : County) (ks : List County) → q k ≡ true → people_in (filter q (k ∷ ks)) ≡ k.people + people_in (filter q ks)
people_read q k ks h = ap (λ (b : Bool). people_in (cond b (k ∷ filter q ks) (filter q ks))) h
