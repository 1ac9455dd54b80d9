-- A target that is not lawful is not without a fault.
use Rattle.std.proofs.Common.{◌≡◌, ◌≢◌, ℕ, zero, suc, ◌+◌, ◌≤◌, ◌<◌, Bool, true, false, [], ◌∷◌, length, Option, Some, None, refl, ap, subst, arith, ◌⊎◌, inl, inr, ⊎_elim, All, Contains}
use Rattle.std.proofs.lemmas.Bool.{cases_order}
use Rattle.county_codes.specs.declared.group.Group.{Group}
use Rattle.county_problem.specs.declared.grouping_fault.GroupingFault.{GroupingFault}
use Rattle.county_problem.specs.declared.grouping_fault.GroupingFault.TheVariants.{EmptyGroup, UnknownCounty, Twice, Missing, NotConnected, OutOfWindow, SeatsTotal, Memory}
use Rattle.grouping_laws.specs.Sets.{contains}
use Rattle.grouping_laws.specs.Problem.{Problem, Suits, people_of, Connected}
use Rattle.grouping_laws.specs.Grouping.{Grouping, seats_of, Lawful}
use Rattle.county_problem.specs.Building.{first_repeated}
use Rattle.county_problem.specs.Judging.{first_empty_group, first_unknown, codes_read, IsFirstNot, NoneEmpty, AllKnown, NoneTwice, NoneMissing, AllConnected, AllSuit, IsFault}
use Rattle.county_problem.proofs.JudgeLemmas.{lawful_from}
use Rattle.grouping_laws.proofs.Elements.{has_all, all_from_has, contains_from_has}
use Rattle.checker_laws.proofs.Listings.{NotNone, here, then_some, either_way}

pub at_most : (a b : ℕ) → (b < a → ⊥) → a ≤ b
at_most a b h = ⊎_elim (λ e. omega (arith, e)) (λ o. ⊎_elim (λ l. omega (arith, l)) (λ l. absurd (h l)) o) (cases_order a b)

-- some group is above a limit that not all keep to
pub above_limit : (limit : ℕ) (target : Grouping) → (All (λ g. length g.codes ≤ limit) target → ⊥) → NotNone ((g : Group) × Contains target g × (limit < length g.codes))
above_limit limit target never none = never (all_from_has (λ g. length g.codes ≤ limit) target (λ g h. at_most (length g.codes) limit (λ l. none (g, contains_from_has target g h, l))))

-- all groups keep to it, or there is a first that doesn't
first_fails : (P : Group → Type 0) (g : Grouping) → NotNone (All P g ⊎ ((n : ℕ) × IsFirstNot P g n))
first_fails P [] = here (inl (all_from_has P [] (λ x h. absurd h)))
first_fails P (x ∷ g) = then_some (first_fails P g) (λ o. then_some (either_way (P x)) (λ q. here (⊎_elim (λ h. ⊎_elim (λ a. inl (all_there h a)) (λ f. inr (later h f)) o) (λ h. inr (now h)) q)))
  where
    all_there : P x → All P g → All P (x ∷ g)
    all_there h a = all_from_has P (x ∷ g) (λ y i. ⊎_elim (λ e. subst P e h) (has_all P g a y) i)

    now : (P x → ⊥) → (n : ℕ) × IsFirstNot P (x ∷ g) n
    now h = (1, record { before = []; group = x; after = g; split = refl; number = omega arith; holds_before = all_from_has P [] (λ y i. absurd i); fails = h })

    later : P x → (n : ℕ) × IsFirstNot P g n → (n : ℕ) × IsFirstNot P (x ∷ g) n
    later h f = (
      f.0 + 1,
      record {
        before = x ∷ f.1.before;
        group = f.1.group;
        after = f.1.after;
        split = ap (λ (l : Grouping). x ∷ l) f.1.split;
        number = omega (arith, f.1.number);
        holds_before = all_from_has P (x ∷ f.1.before) (λ y i. ⊎_elim (λ e. subst P e h) (has_all P f.1.before f.1.holds_before y) i);
        fails = f.1.fails;
      },
    )

module _ (P : ℕ → Type 0) where
  none_below : ((n : ℕ) × P n × ((c : ℕ) → P c → n ≤ c) → ⊥) → (n c : ℕ) → c < n → P c → ⊥
  none_below none zero c l h = absurd (omega arith)
  none_below none (suc n) c l h = none (c, h, λ d k. at_most c d (λ less. none_below none n d (omega arith) k))

  -- some number is not without a least one
  least_there : (n : ℕ) → P n → NotNone ((n : ℕ) × P n × ((c : ℕ) → P c → n ≤ c))
  least_there n h none = none_below none (suc n) n (omega arith) h

abbrev pub SomeFault : Problem → Grouping → Type 0
SomeFault p g = (kind : GroupingFault) × IsFault p g kind × (kind ≢ Memory)

module _ (p : Problem) (g : Grouping) where
  empty_or : (o : Option ℕ) → first_empty_group g ≡ o → NoneEmpty g ⊎ SomeFault p g
  empty_or None e = inl e
  empty_or (Some n) e = inr (EmptyGroup n, e, λ k. cc)

  unknown_or : NoneEmpty g → (o : Option (ℕ × ℕ)) → first_unknown p.counties 1 g ≡ o → AllKnown p g ⊎ SomeFault p g
  unknown_or h None e = inl (h, e)
  unknown_or h (Some r) e = inr (UnknownCounty r.0 r.1, (h, e), λ k. cc)

  twice_or : AllKnown p g → (o : Option ℕ) → first_repeated (codes_read g) ≡ o → NoneTwice p g ⊎ SomeFault p g
  twice_or h None e = inl (h, e)
  twice_or h (Some c) e = inr (Twice c, (h, e), λ k. cc)

  abbrev Unread : ℕ → Type 0
  Unread c = (contains p.counties c ≡ true) × (contains (codes_read g) c ≡ false)

  read_there : ((c : ℕ) × Unread c → ⊥) → (c : ℕ) → contains p.counties c ≡ true → contains (codes_read g) c ≡ true
  read_there never c m = go (contains (codes_read g) c) refl
    where
      go : (b : Bool) → contains (codes_read g) c ≡ b → contains (codes_read g) c ≡ true
      go true e = e
      go false e = absurd (never (c, (m, e)))

  missing_or : NoneTwice p g → NotNone (NoneMissing p g ⊎ SomeFault p g)
  missing_or h =
      then_some (either_way ((c : ℕ) × Unread c))
      (λ o. ⊎_elim
      (λ u. then_some (least_there Unread u.0 u.1) (λ l. here (inr (Missing l.0, (h, record { listed = l.1.0; missing = l.1.1; least = λ c m k. l.2 c (m, k) }), λ k. cc))))
      (λ never. here (inl (h, read_there never)))
      o)

  connected_or : NoneMissing p g → NotNone (AllConnected p g ⊎ SomeFault p g)
  connected_or h = then_some (first_fails (λ s. Connected p s.codes) g) (λ o. here (⊎_elim (λ a. inl (h, a)) (λ f. inr (NotConnected f.0, (h, f.1), λ k. cc)) o))

  suits_or : AllConnected p g → NotNone (AllSuit p g ⊎ SomeFault p g)
  suits_or h = then_some (first_fails (λ s. Suits p (people_of p s.codes) s.seats) g) (λ o. here (⊎_elim (λ a. inl (h, a)) (λ f. inr (OutOfWindow f.0, (h, f.1), λ k. cc)) o))

  seats_or : AllSuit p g → NotNone (Lawful p g ⊎ SomeFault p g)
  seats_or h = then_some (either_way (seats_of g ≡ p.seats_left)) (λ o. here (⊎_elim (λ e. inl (lawful_from p g h e)) (λ never. inr (SeatsTotal (seats_of g) p.seats_left, (h, refl, refl, never), λ k. cc)) o))

  on : {X Y : Type 0} → NotNone (X ⊎ SomeFault p g) → (X → NotNone (Y ⊎ SomeFault p g)) → NotNone (Y ⊎ SomeFault p g)
  on h f = then_some h (λ o. ⊎_elim f (λ k. here (inr k)) o)

  -- it is lawful or has a fault
  pub lawful_or : NotNone (Lawful p g ⊎ SomeFault p g)
  lawful_or =
      on (here (empty_or (first_empty_group g) refl))
      (λ a. on (here (unknown_or a (first_unknown p.counties 1 g) refl))
      (λ b. on (here (twice_or b (first_repeated (codes_read g)) refl))
      (λ c. on (missing_or c)
      (λ d. on (connected_or d)
      (λ e. on (suits_or e) seats_or)))))
