-- What the regions are.
use Rattle.std.proofs.Common.{◌≡◌, ℕ, ◌≤◌, ◌==◌, Bool, true, false, cond, ◌||◌, min, List, [], ◌∷◌, map, filter, fold, Contains, ◌↔◌, refl, sym, ap, subst, ◌∙◌, ◌⊎◌, inl, inr, arith}
use Rattle.std.proofs.lemmas.Bool.{eqb-true, eq-eqb, false≢true}
use Rattle.std.proofs.Math.Nat.{min-le_left, min-le_right}
use Rattle.grouping_laws.specs.Sets.{contains}
use Rattle.grouping_laws.proofs.Elements.{Has, has_from_contains, contains_from_has}
use Rattle.grouping_laws.proofs.Fill.{member_cases}
use Rattle.grouping_laws.proofs.Parts.{member_tail}
use Rattle.list_report.specs.Regions.{met, join, first_county, regions}
use Rattle.list_report.specs.Places.{moved}
use Rattle.list_report.specs.Chains.{Joined, InOneRegion, FirstIsLeast}
use Rattle.list_report.specs.Chains.Joined.{here, along}
use Rattle.list_report.proofs.Members.{filter_in, filter_out, map_in, map_out}

-- ---- the least of codes

fold_start : (a : ℕ) (xs : List ℕ) → fold min a xs ≤ a
fold_start a [] = omega arith
fold_start a (x ∷ xs) = omega (arith, fold_start (min a x) xs, min-le_left a x)

fold_member : (a : ℕ) (xs : List ℕ) (c : ℕ) → contains xs c ≡ true → fold min a xs ≤ c
fold_member a [] c m = absurd (false≢true m)
fold_member a (x ∷ xs) c m = go (fold_member (min a x) xs c) (member_cases x xs c m)
  where
    go : (contains xs c ≡ true → fold min (min a x) xs ≤ c) → (x ≡ c) ⊎ (contains xs c ≡ true) → fold min (min a x) xs ≤ c
    go later (inl e) = omega (arith, fold_start (min a x) xs, min-le_right a x, e)
    go later (inr k) = later k

fold_reached : (a : ℕ) (xs : List ℕ) → (fold min a xs ≡ a) ⊎ (contains xs (fold min a xs) ≡ true)
fold_reached a [] = inl refl
fold_reached a (x ∷ xs) = go (fold_reached (min a x) xs) (either a x)
  where
    either : (a x : ℕ) → (min a x ≡ a) ⊎ (min a x ≡ x)
    either a x = grind arith

    go : (fold min (min a x) xs ≡ min a x) ⊎ (contains xs (fold min (min a x) xs) ≡ true) → (min a x ≡ a) ⊎ (min a x ≡ x)
        → (fold min (min a x) xs ≡ a) ⊎ (contains (x ∷ xs) (fold min (min a x) xs) ≡ true)
    go (inl e) (inl k) = inl (e ∙ k)
    go (inl e) (inr k) = inr (ap (λ z. z || contains xs (fold min (min a x) xs)) (eq-eqb x (fold min (min a x) xs) (sym (e ∙ k))))
    go (inr m) k = inr (member_tail x xs (fold min (min a x) xs) m)

least_member : (ms : List ℕ) (m : ℕ) → contains ms m ≡ true → contains ms (fold min m ms) ≡ true
least_member ms m h = go (fold_reached m ms)
  where
    go : (fold min m ms ≡ m) ⊎ (contains ms (fold min m ms) ≡ true) → contains ms (fold min m ms) ≡ true
    go (inl e) = ap (contains ms) e ∙ h
    go (inr k) = k

least_same : (ms : List ℕ) (m n : ℕ) → contains ms m ≡ true → contains ms n ≡ true → fold min m ms ≡ fold min n ms
least_same ms m n h k = omega (arith, fold_member m ms (fold min n ms) (least_member ms n k), fold_member n ms (fold min m ms) (least_member ms m h))

-- ---- one join

moved_in : (ms : List ℕ) (m : ℕ) → contains ms m ≡ true → moved ms m ≡ fold min m ms
moved_in ms m h = ap (λ (b : Bool). cond b (fold min m ms) m) h

moved_out : (ms : List ℕ) (m : ℕ) → contains ms m ≡ false → moved ms m ≡ m
moved_out ms m h = ap (λ (b : Bool). cond b (fold min m ms) m) h

moved_less : (ms : List ℕ) (m : ℕ) → moved ms m ≤ m
moved_less ms m = go (contains ms m) refl
  where
    go : (b : Bool) → contains ms m ≡ b → moved ms m ≤ m
    go true h = omega (arith, moved_in ms m h, fold_start m ms)
    go false h = omega (arith, moved_out ms m h)

-- ---- chains

chains_meet : (sets : List (List ℕ)) (x y z : ℕ) → Joined sets x y → Joined sets y z → Joined sets x z
chains_meet sets x y z (here a) later = later
chains_meet sets x y z (along a b c s h m n rest) later = along a b z s h m n (chains_meet sets b y z rest later)

turned : (sets : List (List ℕ)) (x y : ℕ) → Joined sets x y → Joined sets y x
turned sets x y (here a) = here a
turned sets x y (along a b c s h m n rest) = chains_meet sets c b a (turned sets b c rest) (along b a a s h n m (here a))

-- ---- the first counties of regions

module _ (unshared : List ℕ) where
  met_in : (f : ℕ → ℕ) (s : List ℕ) (c : ℕ) → contains unshared c ≡ true → contains s c ≡ true → contains (met unshared f s) (f c) ≡ true
  met_in f s c h m = map_in f (filter (contains s) unshared) c (filter_in (contains s) unshared c h m)

  met_out : (f : ℕ → ℕ) (s : List ℕ) (m : ℕ) → contains (met unshared f s) m ≡ true → (a : ℕ) × (contains unshared a ≡ true) × (contains s a ≡ true) × (f a ≡ m)
  met_out f s m h =
      let r = map_out f (filter (contains s) unshared) m h in
      let k = filter_out (contains s) unshared r.0 r.1 in
      (r.0, k.0, k.1, r.2)

  -- counties of one region stay so
  stay : (f : ℕ → ℕ) (sets : List (List ℕ)) (x y : ℕ) → f x ≡ f y → fold (join unshared) f sets x ≡ fold (join unshared) f sets y
  stay f [] x y e = e
  stay f (s ∷ ss) x y e = stay (join unshared f s) ss x y (ap (moved (met unshared f s)) e)

  -- those of a set become so
  become : (f : ℕ → ℕ) (sets : List (List ℕ)) (s : List ℕ) (x y : ℕ) → Has sets s → contains unshared x ≡ true → contains unshared y ≡ true → contains s x ≡ true → contains s y ≡ true
      → fold (join unshared) f sets x ≡ fold (join unshared) f sets y
  become f [] s x y h fx fy mx my = absurd h
  become f (t ∷ ts) s x y (inl e) fx fy mx my =
      let tx = ap (λ (l : List ℕ). contains l x) e ∙ mx in
      let ty = ap (λ (l : List ℕ). contains l y) e ∙ my in
      let ms = met unshared f t in
      let kx = met_in f t x fx tx in
      let ky = met_in f t y fy ty in
      stay (join unshared f t) ts x y (moved_in ms (f x) kx ∙ (least_same ms (f x) (f y) kx ky ∙ sym (moved_in ms (f y) ky)))
  become f (t ∷ ts) s x y (inr h) fx fy mx my = become (join unshared f t) ts s x y h fx fy mx my

  -- each first county is a county, and its own first
  record IsFirst (f : ℕ → ℕ) : Type 0 where
    county : (c : ℕ) → contains unshared c ≡ true → contains unshared (f c) ≡ true
    again : (c : ℕ) → contains unshared c ≡ true → f (f c) ≡ f c

  first_join : (f : ℕ → ℕ) (s : List ℕ) → IsFirst f → IsFirst (join unshared f s)
  first_join f s is = record { county = λ c h. (go c h (contains ms (f c)) refl).0; again = λ c h. (go c h (contains ms (f c)) refl).1 }
    where
      ms : List ℕ
      ms = met unshared f s

      go : (c : ℕ) → contains unshared c ≡ true → (b : Bool) → contains ms (f c) ≡ b → (contains unshared (join unshared f s c) ≡ true) × (join unshared f s (join unshared f s c) ≡ join unshared f s c)
      go c h false k =
          let same : join unshared f s c ≡ f c = moved_out ms (f c) k in
          (ap (contains unshared) same ∙ is.county c h, ap (join unshared f s) same ∙ ap (moved ms) (is.again c h))
      go c h true k =
          let m = fold min (f c) ms in
          let same : join unshared f s c ≡ m = moved_in ms (f c) k in
          let in_met : contains ms m ≡ true = least_member ms (f c) k in
          let r = met_out f s m in_met in
          let own : f m ≡ m = ap f (sym r.3) ∙ (is.again r.0 r.1 ∙ r.3) in (
            ap (contains unshared) (same ∙ sym r.3) ∙ is.county r.0 r.1,
            ap (join unshared f s) same ∙ (ap (moved ms) own ∙ (moved_in ms m in_met ∙ (least_same ms m (f c) in_met k ∙ sym same))),
          )

  first_all : (f : ℕ → ℕ) (sets : List (List ℕ)) → IsFirst f → IsFirst (fold (join unshared) f sets)
  first_all f [] is = is
  first_all f (s ∷ ss) is = first_all (join unshared f s) ss (first_join f s is)

  -- counties of one region are joined by a chain
  module _ (all : List (List ℕ)) where
    abbrev IsChained : (ℕ → ℕ) → Type 0
    IsChained f = (x y : ℕ) → contains unshared x ≡ true → contains unshared y ≡ true → f x ≡ f y → Joined all x y

    chained_join : (f : ℕ → ℕ) (s : List ℕ) → Has all s → IsChained f → IsChained (join unshared f s)
    chained_join f s has is x y hx hy e = go (contains ms (f x)) refl (contains ms (f y)) refl
      where
        ms : List ℕ
        ms = met unshared f s

        clash : (u v : ℕ) → moved ms u ≡ moved ms v → contains ms u ≡ true → contains ms v ≡ false → ⊥
        clash u v e k l = false≢true (sym l ∙ (ap (contains ms) (sym (moved_out ms v l) ∙ (sym e ∙ moved_in ms u k)) ∙ least_member ms u k))

        go : (b : Bool) → contains ms (f x) ≡ b → (d : Bool) → contains ms (f y) ≡ d → Joined all x y
        go false k false l = is x y hx hy (sym (moved_out ms (f x) k) ∙ (e ∙ moved_out ms (f y) l))
        go true k false l = absurd (clash (f x) (f y) e k l)
        go false k true l = absurd (clash (f y) (f x) (sym e) l k)
        go true k true l =
            let a = met_out f s (f x) k in
            let b = met_out f s (f y) l in
            chains_meet all x a.0 y (is x a.0 hx a.1 (sym a.3))
            (along a.0 b.0 y s (contains_from_has all s has) a.2 b.2 (is b.0 y b.1 hy b.3))

    chained_all : (f : ℕ → ℕ) (sets : List (List ℕ)) → ((s : List ℕ) → Has sets s → Has all s) → IsChained f → IsChained (fold (join unshared) f sets)
    chained_all f [] within is = is
    chained_all f (s ∷ ss) within is = chained_all (join unshared f s) ss (λ t h. within t (inr h)) (chained_join f s (within s (inl refl)) is)

  -- a chain within the counties joins counties of one region
  along_chain : (sets : List (List ℕ)) → ((s : List ℕ) (c : ℕ) → Contains sets s → contains s c ≡ true → contains unshared c ≡ true) → (x y : ℕ) → contains unshared x ≡ true → Joined sets x y
      → first_county unshared sets x ≡ first_county unshared sets y
  along_chain sets inside x y h (here a) = refl
  along_chain sets inside x y h (along a b c s has m n rest) =
      become (λ c. c) sets s a b (has_from_contains sets s has) h (inside s b has n) m n ∙ along_chain sets inside b c (inside s b has n) rest

  less : (f : ℕ → ℕ) (sets : List (List ℕ)) (c : ℕ) → f c ≤ c → fold (join unshared) f sets c ≤ c
  less f [] c h = h
  less f (s ∷ ss) c h = less (join unshared f s) ss c (omega (arith, moved_less (met unshared f s) (f c), h))

-- ---- the regions

map_has : {X : Type 0} (F : ℕ → X) (xs : List ℕ) (y : X) → Has (map F xs) y → (r : ℕ) × (F r ≡ y)
map_has F [] y h = absurd h
map_has F (x ∷ xs) y (inl e) = (x, e)
map_has F (x ∷ xs) y (inr h) = map_has F xs y h

has_map : {X : Type 0} (F : ℕ → X) (xs : List ℕ) (r : ℕ) → contains xs r ≡ true → Has (map F xs) (F r)
has_map F [] r m = absurd (false≢true m)
has_map F (x ∷ xs) r m = go (has_map F xs r) (member_cases x xs r m)
  where
    go : (contains xs r ≡ true → Has (map F xs) (F r)) → (x ≡ r) ⊎ (contains xs r ≡ true) → Has (map F (x ∷ xs)) (F r)
    go later (inl e) = inl (ap F e)
    go later (inr k) = inr (later k)

module _ (unshared : List ℕ) (sets : List (List ℕ)) where
  abbrev first : ℕ → ℕ
  first = first_county unshared sets

  abbrev region : ℕ → List ℕ
  region r = filter (λ c. first c == r) unshared

  abbrev heads : List ℕ
  heads = filter (λ c. first c == c) unshared

  -- counties of one region have one first county
  same_first : (x y : ℕ) → InOneRegion unshared sets x y → first x ≡ first y
  same_first x y in_one =
      let r = map_has region heads in_one.0 (has_from_contains (regions unshared sets) in_one.0 in_one.1) in
      let at : (c : ℕ) → contains in_one.0 c ≡ true → first c ≡ r.0 = λ c m.
      eqb-true (first c) r.0 (filter_out (λ c. first c == r.0) unshared c (ap (λ (l : List ℕ). contains l c) r.1 ∙ m)).1 in
      at x in_one.2 ∙ sym (at y in_one.3)

  -- and where they have, they lie in the region of that county
  one_region : (x y : ℕ) → contains unshared x ≡ true → contains unshared y ≡ true → first x ≡ first y → InOneRegion unshared sets x y
  one_region x y hx hy e =
      let is : IsFirst unshared first = first_all unshared (λ c. c) sets (record { county = λ c h. h; again = λ c h. refl }) in
      let r = first x in
      let head : contains heads r ≡ true = filter_in (λ c. first c == c) unshared r (is.county x hx) (eq-eqb (first r) r (is.again x hx)) in (
        region r,
        contains_from_has (regions unshared sets) (region r) (has_map region heads r head),
        filter_in (λ c. first c == r) unshared x hx (eq-eqb (first x) r refl),
        filter_in (λ c. first c == r) unshared y hy (eq-eqb (first y) r (sym e)),
      )

-- where the sets have such counties alone, two of them lie in one region exactly where a chain joins them
pub regions_joined : (unshared : List ℕ) (sets : List (List ℕ)) → ((s : List ℕ) (c : ℕ) → Contains sets s → contains s c ≡ true → contains unshared c ≡ true)
    → (x y : ℕ) → contains unshared x ≡ true → contains unshared y ≡ true → InOneRegion unshared sets x y ↔ Joined sets x y
regions_joined unshared sets inside x y hx hy = (
  λ in_one. chained_all unshared sets (λ c. c) sets (λ s h. h) (λ a b ha hb e. subst (Joined sets a) e (here a)) x y hx hy (same_first unshared sets x y in_one),
  λ chain. one_region unshared sets x y hx hy (along_chain unshared sets inside x y hx chain),
)

pub first_is_least : FirstIsLeast
first_is_least unshared sets c = less unshared (λ c. c) sets c (omega arith)
