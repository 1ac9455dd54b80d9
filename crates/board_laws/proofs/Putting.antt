-- What is put in the place of a piece keeps what the others have.
use Rattle.std.proofs.Common.{◌≡◌, ℕ, Bool, true, false, cond, ◌∷◌, ◌==◌, refl, sym, ap, ◌∙◌, subst, ◌⊎◌, inl, inr, ⊎_elim, Option}
use Rattle.std.proofs.lemmas.Bool.{eqb-true}
use Rattle.grouping_laws.specs.Problem.{Problem}
use Rattle.certificate_data.specs.Round.{Round}
use Rattle.certificate_laws.specs.State.{State, close, raise}
use Rattle.certificate_laws.specs.Groups.{AreGroupsAt}
use Rattle.certificate_data.specs.Tree.{Tree}
use Rattle.certificate_laws.specs.Proving.{limit_of}
use Rattle.board_laws.specs.Skeleton.{Skeleton, waits, proved, split, Parts, no_part, part, groups_in, HasTree, EachHasTree, WasSplit, EachWasSplit, IsSkeleton, EachIsSkeleton, put, put_in}
use Rattle.board_laws.specs.Standing.{StandsAt, StandsIn}

put_groups : (n : ℕ) (new : Skeleton) (parts : Parts) → groups_in (put_in n new parts) ≡ groups_in parts
put_groups n new no_part = refl
put_groups n new (part codes skeleton others) = ap (λ z. codes ∷ z) (put_groups n new others)

-- a skeleton in which whatever is put is one where the piece stands is a skeleton
mutual
  pub put_is : (n : ℕ) (new skeleton : Skeleton) (p : Problem) (round : Round) (s : State) → IsSkeleton skeleton p round s → ((t : State) → StandsAt skeleton round s n t → IsSkeleton new p round t) → IsSkeleton (put n new skeleton) p round s
  put_is n new (waits piece) p round s is f = go (piece == n) refl
    where
      go : (b : Bool) → (piece == n) ≡ b → IsSkeleton (cond b new (waits piece)) p round s
      go true e = f s (eqb-true piece n e, refl)
      go false e = tt
  put_is n new (proved piece tree) p round s is f = is
  put_is n new (split piece county limit parts raised) p round s is f = (
    is.0,
    is.1,
    subst (AreGroupsAt p round s county (limit_of round limit)) (sym (put_groups n new parts)) is.2,
    put_in_is n new parts p round s is.3 (λ t h. f t (inr (inl h))),
    put_is n new raised p round (raise county (limit_of round limit) s) is.4 (λ t h. f t (inr (inr h))),
  )

  pub put_in_is : (n : ℕ) (new : Skeleton) (parts : Parts) (p : Problem) (round : Round) (s : State) → EachIsSkeleton parts p round s → ((t : State) → StandsIn parts round s n t → IsSkeleton new p round t) → EachIsSkeleton (put_in n new parts) p round s
  put_in_is n new no_part p round s is f = tt
  put_in_is n new (part codes skeleton others) p round s is f = (put_is n new skeleton p round (close codes s) is.0 (λ t h. f t (inl h)), put_in_is n new others p round s is.1 (λ t h. f t (inr h)))

-- a piece has the tree that it had
mutual
  pub put_trees : (n : ℕ) (new skeleton : Skeleton) (m : ℕ) (tree : Tree) → HasTree skeleton m tree → HasTree (put n new skeleton) m tree
  put_trees n new (waits piece) m tree h = absurd h
  put_trees n new (proved piece held) m tree h = h
  put_trees n new (split piece county limit parts raised) m tree (inl h) = inl (put_in_trees n new parts m tree h)
  put_trees n new (split piece county limit parts raised) m tree (inr h) = inr (put_trees n new raised m tree h)

  put_in_trees : (n : ℕ) (new : Skeleton) (parts : Parts) (m : ℕ) (tree : Tree) → EachHasTree parts m tree → EachHasTree (put_in n new parts) m tree
  put_in_trees n new no_part m tree h = absurd h
  put_in_trees n new (part codes skeleton others) m tree (inl h) = inl (put_trees n new skeleton m tree h)
  put_in_trees n new (part codes skeleton others) m tree (inr h) = inr (put_in_trees n new others m tree h)

-- a piece that was split was split so
mutual
  pub put_splits : (n : ℕ) (new skeleton : Skeleton) (m at : ℕ) (most : Option ℕ) → WasSplit skeleton m at most → WasSplit (put n new skeleton) m at most
  put_splits n new (waits piece) m at most h = absurd h
  put_splits n new (proved piece held) m at most h = absurd h
  put_splits n new (split piece county limit parts raised) m at most (inl h) = inl h
  put_splits n new (split piece county limit parts raised) m at most (inr (inl h)) = inr (inl (put_in_splits n new parts m at most h))
  put_splits n new (split piece county limit parts raised) m at most (inr (inr h)) = inr (inr (put_splits n new raised m at most h))

  put_in_splits : (n : ℕ) (new : Skeleton) (parts : Parts) (m at : ℕ) (most : Option ℕ) → EachWasSplit parts m at most → EachWasSplit (put_in n new parts) m at most
  put_in_splits n new no_part m at most h = absurd h
  put_in_splits n new (part codes skeleton others) m at most (inl h) = inl (put_splits n new skeleton m at most h)
  put_in_splits n new (part codes skeleton others) m at most (inr h) = inr (put_in_splits n new others m at most h)

-- each piece stands where it stood, if what is put stands where its piece did
mutual
  pub put_stands : (n : ℕ) (new skeleton : Skeleton) (round : Round) (s : State) (m : ℕ) (t : State) → ((u : State) → StandsAt new round u n u) → StandsAt skeleton round s m t → StandsAt (put n new skeleton) round s m t
  put_stands n new (waits piece) round s m t f h = go (piece == n) refl
    where
      moved : piece ≡ n → StandsAt new round s m t
      moved e = subst (λ z. StandsAt new round s m z) (sym h.1) (subst (λ z. StandsAt new round s z s) (sym e ∙ h.0) (f s))

      go : (b : Bool) → (piece == n) ≡ b → StandsAt (cond b new (waits piece)) round s m t
      go true e = moved (eqb-true piece n e)
      go false e = h
  put_stands n new (proved piece held) round s m t f h = h
  put_stands n new (split piece county limit parts raised) round s m t f (inl h) = inl h
  put_stands n new (split piece county limit parts raised) round s m t f (inr (inl h)) = inr (inl (put_in_stands n new parts round s m t f h))
  put_stands n new (split piece county limit parts raised) round s m t f (inr (inr h)) = inr (inr (put_stands n new raised round (raise county (limit_of round limit) s) m t f h))

  put_in_stands : (n : ℕ) (new : Skeleton) (parts : Parts) (round : Round) (s : State) (m : ℕ) (t : State) → ((u : State) → StandsAt new round u n u) → StandsIn parts round s m t → StandsIn (put_in n new parts) round s m t
  put_in_stands n new no_part round s m t f h = absurd h
  put_in_stands n new (part codes skeleton others) round s m t f (inl h) = inl (put_stands n new skeleton round (close codes s) m t f h)
  put_in_stands n new (part codes skeleton others) round s m t f (inr h) = inr (put_in_stands n new others round s m t f h)

-- what stands afterwards stood before, or stands in what was put
mutual
  pub put_from : (n : ℕ) (new skeleton : Skeleton) (round : Round) (s : State) (m : ℕ) (t : State) → StandsAt (put n new skeleton) round s m t → StandsAt skeleton round s m t ⊎ ((u : State) × StandsAt skeleton round s n u × StandsAt new round u m t)
  put_from n new (waits piece) round s m t h = go (piece == n) refl h
    where
      go : (b : Bool) → (piece == n) ≡ b → StandsAt (cond b new (waits piece)) round s m t → StandsAt (waits piece) round s m t ⊎ ((u : State) × StandsAt (waits piece) round s n u × StandsAt new round u m t)
      go true e k = inr (s, (eqb-true piece n e, refl), k)
      go false e k = inl k
  put_from n new (proved piece held) round s m t h = inl h
  put_from n new (split piece county limit parts raised) round s m t (inl h) = inl (inl h)
  put_from n new (split piece county limit parts raised) round s m t (inr (inl h)) =
      ⊎_elim (λ k. inl (inr (inl k))) (λ k. inr (k.0, inr (inl k.1), k.2)) (put_in_from n new parts round s m t h)
  put_from n new (split piece county limit parts raised) round s m t (inr (inr h)) =
      ⊎_elim (λ k. inl (inr (inr k))) (λ k. inr (k.0, inr (inr k.1), k.2)) (put_from n new raised round (raise county (limit_of round limit) s) m t h)

  put_in_from : (n : ℕ) (new : Skeleton) (parts : Parts) (round : Round) (s : State) (m : ℕ) (t : State) → StandsIn (put_in n new parts) round s m t → StandsIn parts round s m t ⊎ ((u : State) × StandsIn parts round s n u × StandsAt new round u m t)
  put_in_from n new no_part round s m t h = absurd h
  put_in_from n new (part codes skeleton others) round s m t (inl h) = ⊎_elim (λ k. inl (inl k)) (λ k. inr (k.0, inl k.1, k.2)) (put_from n new skeleton round (close codes s) m t h)
  put_in_from n new (part codes skeleton others) round s m t (inr h) = ⊎_elim (λ k. inl (inr k)) (λ k. inr (k.0, inr k.1, k.2)) (put_in_from n new others round s m t h)
