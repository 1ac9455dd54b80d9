-- Lists of the same sets.
use Rattle.std.proofs.Common.{ℕ, List, refl, ◌∙◌}
use Rattle.grouping_laws.proofs.Elements.{Has, has_from_contains, contains_from_has, has_all, all_from_has}
use Rattle.list_laws.specs.AllBest.{HasSet, SameSets}

-- a set of one list is a set of the other
pub find_there : (xs ys : List (List ℕ)) → SameSets xs ys → (x : List ℕ) → HasSet xs x → HasSet ys x
find_there xs ys same x h =
    let r = has_all (HasSet ys) xs same.there h.0 (has_from_contains xs h.0 h.1) in
    (r.0, r.1, λ c. r.2 c ∙ h.2 c)

pub find_back : (xs ys : List (List ℕ)) → SameSets xs ys → (x : List ℕ) → HasSet ys x → HasSet xs x
find_back xs ys same x h =
    let r = has_all (HasSet xs) ys same.back h.0 (has_from_contains ys h.0 h.1) in
    (r.0, r.1, λ c. r.2 c ∙ h.2 c)

pub own_set : (xs : List (List ℕ)) (x : List ℕ) → Has xs x → HasSet xs x
own_set xs x h = (x, contains_from_has xs x h, λ c. refl)

pub same_self : (xs : List (List ℕ)) → SameSets xs xs
same_self xs = record { there = all_from_has (HasSet xs) xs (own_set xs); back = all_from_has (HasSet xs) xs (own_set xs) }

pub same_turned : (xs ys : List (List ℕ)) → SameSets xs ys → SameSets ys xs
same_turned xs ys same = record { there = same.back; back = same.there }

pub same_through : (xs ys zs : List (List ℕ)) → SameSets xs ys → SameSets ys zs → SameSets xs zs
same_through xs ys zs a b = record {
  there = all_from_has (HasSet zs) xs (λ x h. find_there ys zs b x (has_all (HasSet ys) xs a.there x h));
  back = all_from_has (HasSet xs) zs (λ z h. find_back xs ys a z (has_all (HasSet ys) zs b.back z h));
}
