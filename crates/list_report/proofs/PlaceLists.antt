-- The counties with the first counties of their regions, as a list and as a function.
use Rattle.std.proofs.Common.{◌≡◌, ℕ, ◌==◌, Bool, true, false, cond, List, [], ◌∷◌, map, filter, refl, ap, ◌∙◌}
use Rattle.grouping_laws.specs.Sets.{contains}
use Rattle.list_report.specs.declared.regions.Place.{Place}
use Rattle.list_report.specs.Places.{places_at, places_met, moved}
use Rattle.list_report.specs.Regions.{met, join}

-- a filter of places is one of counties
places_kept : {Y : Type 0} (f : ℕ → ℕ) (q : Place → Bool) (F : Place → Y) (unshared : List ℕ)
    → map F (filter q (places_at f unshared)) ≡ map (λ c. F (record { county = c; first = f c })) (filter (λ c. q (record { county = c; first = f c })) unshared)
places_kept f q F [] = refl
places_kept {Y} f q F (x ∷ xs) = go (q (record { county = x; first = f x })) (places_kept f q F xs)
  where
    P : ℕ → Place
    P c = record { county = c; first = f c }

    go : (b : Bool) → map F (filter q (places_at f xs)) ≡ map (λ c. F (record { county = c; first = f c })) (filter (λ c. q (record { county = c; first = f c })) xs)
        → map F (cond b (record { county = x; first = f x } ∷ filter q (places_at f xs)) (filter q (places_at f xs)))
        ≡ map (λ c. F (record { county = c; first = f c })) (cond b (x ∷ filter (λ c. q (record { county = c; first = f c })) xs) (filter (λ c. q (record { county = c; first = f c })) xs))
    go true e = ap (λ (l : List Y). F (record { county = x; first = f x }) ∷ l) e
    go false e = e

same_list : (xs : List ℕ) → map (λ c. c) xs ≡ xs
same_list [] = refl
same_list (x ∷ xs) = ap (λ (l : List ℕ). x ∷ l) (same_list xs)

each_moved : (f : ℕ → ℕ) (ms unshared : List ℕ) → map (λ p. record { county = p.county; first = moved ms p.first }) (places_at f unshared) ≡ places_at (λ c. moved ms (f c)) unshared
each_moved f ms [] = refl
each_moved f ms (x ∷ xs) = ap (λ (l : List Place). record { county = x; first = moved ms (f x) } ∷ l) (each_moved f ms xs)

-- the places after a join
pub places_join : (f : ℕ → ℕ) (unshared s : List ℕ) → map (λ p. record { county = p.county; first = moved (places_met (places_at f unshared) s) p.first }) (places_at f unshared) ≡ places_at (join unshared f s) unshared
places_join f unshared s =
    let same : places_met (places_at f unshared) s ≡ met unshared f s = places_kept f (λ p. contains s p.county) (λ p. p.first) unshared in
    each_moved f (places_met (places_at f unshared) s) unshared ∙ ap (λ (ms : List ℕ). places_at (λ c. moved ms (f c)) unshared) same

one_place_region : (f : ℕ → ℕ) (unshared : List ℕ) (r : ℕ) → map (λ p. p.county) (filter (λ p. p.first == r) (places_at f unshared)) ≡ filter (λ c. f c == r) unshared
one_place_region f unshared r = places_kept f (λ p. p.first == r) (λ p. p.county) unshared ∙ same_list (filter (λ c. f c == r) unshared)

each_same : {Y : Type 0} (F G : ℕ → Y) (xs : List ℕ) → ((x : ℕ) → F x ≡ G x) → map F xs ≡ map G xs
each_same F G [] e = refl
each_same {Y} F G (x ∷ xs) e = ap (λ (y : Y). y ∷ map F xs) (e x) ∙ ap (λ (l : List Y). G x ∷ l) (each_same F G xs e)

-- the regions of places
pub places_regions : (f : ℕ → ℕ) (unshared : List ℕ)
    → map (λ q. map (λ p. p.county) (filter (λ p. p.first == q.county) (places_at f unshared))) (filter (λ q. q.first == q.county) (places_at f unshared))
    ≡ map (λ r. filter (λ c. f c == r) unshared) (filter (λ c. f c == c) unshared)
places_regions f unshared =
    places_kept f (λ q. q.first == q.county) (λ q. map (λ p. p.county) (filter (λ p. p.first == q.county) (places_at f unshared))) unshared
    ∙ each_same (λ r. map (λ p. p.county) (filter (λ p. p.first == r) (places_at f unshared))) (λ r. filter (λ c. f c == r) unshared) (filter (λ c. f c == c) unshared) (one_place_region f unshared)
