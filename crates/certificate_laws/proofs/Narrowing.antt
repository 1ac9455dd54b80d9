-- A group that doesn't fit a state fits none after it.
use Rattle.std.proofs.Common.{◌≡◌, ℕ, ◌+◌, ◌≤◌, ◌<◌, Bool, true, false, cond, not, ◌&&◌, List, [], ◌∷◌, length, ◌==◌, refl, sym, ap, ◌∙◌, subst, arith, ◌⊎◌, inl, inr, ⊎_elim}
use Rattle.std.proofs.lemmas.Bool.{and_from, false≢true, eqb-true}
use Rattle.county_codes.specs.declared.group.Group.{Group}
use Rattle.grouping_laws.specs.Sets.{count_in, contains, Inside}
use Rattle.grouping_laws.specs.Problem.{Problem, Suits, people_of, Connected, LawfulGroup, IsProblem}
use Rattle.grouping_laws.specs.Grouping.{Grouping, sets_of, seats_of}
use Rattle.grouping_laws.specs.Parts.{IsPart, AreParts}
use Rattle.grouping_laws.specs.Ranges.{SuitAll, seated}
use Rattle.grouping_laws.proofs.Elements.{Has, has_all}
use Rattle.grouping_laws.proofs.Digits.{true_digit}
use Rattle.grouping_laws.proofs.Parts.{FillRegion, hits, has_hit, within_part, inner, part_suits}
use Rattle.grouping_laws.proofs.Ranges.{people_have_ranges}
use Rattle.grouping_laws.proofs.Seated.{seated_sets, seated_has}
use Rattle.certificate_data.specs.declared.format.Format.{Format}
use Rattle.certificate_data.specs.declared.format.Format.TheVariants.{Plain, Wide}
use Rattle.certificate_laws.specs.Regions.{without}
use Rattle.certificate_laws.specs.State.{State, open_to, close, raise}
use Rattle.certificate_laws.specs.StuckParts.{CannotFill}
use Rattle.certificate_laws.specs.Fitting.{IsDead, IsKept, Fits}
use Rattle.certificate_laws.specs.Branching.{Narrows}
use Rattle.certificate_laws.proofs.Completion.{open_rest, open_least, is_open}
use Rattle.certificate_laws.proofs.Counting.{not_longer}
use Rattle.certificate_laws.proofs.WithoutGroup.{split_one, without_not, without_in}
use Rattle.certificate_laws.proofs.Living.{cannot_once_closed}
use Rattle.certificate_laws.proofs.Regions.{part_around, parts_exist}

-- each set suits some number of seats, or one suits none
pub all_suit : (p : Problem) → IsProblem p → (sets : List (List ℕ)) → ((ks : List ℕ) × SuitAll p sets ks) ⊎ ((xs : List ℕ) × Has sets xs × ((k : ℕ) → Suits p (people_of p xs) k → ⊥))
all_suit p is [] = inl ([], tt)
all_suit p is (xs ∷ sets) =
    ⊎_elim
    (λ none. inr (xs, inl refl, none))
    (λ r. ⊎_elim (λ next. inl (r.0 ∷ next.0, (r.2, next.1))) (λ h. inr (h.0, inr h.1, h.2)) (all_suit p is sets))
    (people_have_ranges p is.some_people is.tolerated (people_of p xs))

module _ (p : Problem) (is : IsProblem p) (s : State) (h g : List ℕ) (lawful : LawfulGroup p h) (h_open : Inside (open_to s (length h)) h)
    (g_off : (x : ℕ) → contains h x ≡ true → contains g x ≡ false) (listed : (x : ℕ) → s.rest x ≡ true → contains p.counties x ≡ true) (d : IsDead p s g) where
  -- what is left when both are closed
  abbrev after : ℕ → Bool
  after = without g (close h s).rest

  both_from : (x : ℕ) → without g s.rest x ≡ true → contains h x ≡ false → after x ≡ true
  both_from x e o = and_from (s.rest x && not (contains h x)) (not (contains g x)) (and_from (s.rest x) (not (contains h x)) (without_in g s.rest x e) (ap not o)) (ap not (without_not g s.rest x e))

  both_in : (x : ℕ) → after x ≡ true → without g s.rest x ≡ true
  both_in x e = and_from (s.rest x) (not (contains g x)) (without_in h s.rest x (without_in g (close h s).rest x e)) (ap not (without_not g (close h s).rest x e))

  both_off : (x : ℕ) → after x ≡ true → contains h x ≡ false
  both_off x e = without_not h s.rest x (without_in g (close h s).rest x e)

  -- the stuck part is apart from the closed group
  dead_apart : ((x : ℕ) → contains d.part x ≡ true → contains h x ≡ false) → IsDead p (close h s) g
  dead_apart off = record {
    part = d.part;
    is_part = record {
      once = d.is_part.once;
      connected = d.is_part.connected;
      inside = λ x e. both_from x (d.is_part.inside x e) (off x e);
      whole = λ x y m r t. d.is_part.whole x y m (both_in y r) t;
    };
    stuck = cannot_once_closed p s h d.part off d.stuck;
  }

  h_left : Inside (without g s.rest) h
  h_left x e = and_from (s.rest x) (not (contains g x)) (open_rest s (length h) x (h_open x e)) (ap not (g_off x e))

  module _ (within : (x : ℕ) → contains h x ≡ true → contains d.part x ≡ true) where
    -- what the closed group leaves of the stuck part
    abbrev left : ℕ → Bool
    left = without h (contains d.part)

    part_after : (ys : List ℕ) → IsPart p left ys → IsPart p after ys
    part_after ys a = record {
      once = a.once;
      connected = a.connected;
      inside = λ x e. both_from x (d.is_part.inside x (without_in h (contains d.part) x (a.inside x e))) (without_not h (contains d.part) x (a.inside x e));
      whole = λ x y m r t. a.whole x y m (and_from (contains d.part y) (not (contains h y)) (d.is_part.whole x y (without_in h (contains d.part) x (a.inside x m)) (both_in y r) t) (ap not (both_off y r))) t;
    }

    left_listed : (x : ℕ) → left x ≡ true → contains p.counties x ≡ true
    left_listed x e = listed x (without_in g s.rest x (d.is_part.inside x (without_in h (contains d.part) x e)))

    asks_still : (n c : ℕ) → n < s.least c → contains h c ≡ false → n < cond (contains h c) 0 (s.least c)
    asks_still n c l e = rw e l

    -- the stuck part is too small for a county
    dead_small : (c : ℕ) → contains d.part c ≡ true → length d.part < s.least c → (b : Bool) → contains h c ≡ b → IsDead p (close h s) g
    dead_small c m small true e = absurd (omega (arith, open_least s (length h) c (h_open c e), not_longer h d.part lawful.once within, small))
    dead_small c m small false e =
        let r = part_around p is left left_listed c (and_from (contains d.part c) (not (contains h c)) m (ap not e)) in
        record {
          part = r.0;
          is_part = part_after r.0 r.1;
          stuck = inr (c, r.2, asks_still (length r.0) c (omega (arith, small, not_longer r.0 d.part (r.1).once (λ x k. without_in h (contains d.part) x ((r.1).inside x k)))) e);
        }

    module _ (parts : List (List ℕ)) (are : AreParts p left parts) (ks : List ℕ) (suit : SuitAll p parts ks) where
      -- the closed group and the parts it leaves, with seats
      abbrev opens : Grouping
      opens = record { seats = lawful.seats; codes = h } ∷ seated parts ks

      at : (m : Group) → Has (seated parts ks) m → IsPart p left m.codes
      at m i = has_all (IsPart p left) parts are.each m.codes (seated_has p parts ks suit m i).0

      fill : FillRegion p (without g s.rest) opens
      fill = record {
        inside = λ m. elim [ inl e ↦ subst (λ (z : Group). Inside (without g s.rest) z.codes) e h_left | inr i ↦ λ x k. d.is_part.inside x (without_in h (contains d.part) x ((at m i).inside x k)) ];
        connected = λ m. elim [ inl e ↦ subst (λ (z : Group). Connected p z.codes) e lawful.connected | inr i ↦ (at m i).connected ];
        suits = λ m. elim [ inl e ↦ subst (λ (z : Group). Suits p (people_of p z.codes) z.seats) e lawful.suits | inr i ↦ (seated_has p parts ks suit m i).1 ];
      }

      covered : (c : ℕ) → contains d.part c ≡ true → count_in c (sets_of opens) ≡ 1
      covered c m = omega (arith, split_one (contains d.part) h lawful.once within c, are.once c, ap (count_in c) (seated_sets p parts ks suit), true_digit (contains d.part c) m)

      suits_some : Suits p (people_of p d.part) (seats_of (inner p (without g s.rest) d.part d.is_part opens fill))
      suits_some = part_suits p (without g s.rest) d.part d.is_part opens fill covered

    -- the stuck part suits no seats, so some part of what is left of it doesn't
    dead_people : ((k : ℕ) → Suits p (people_of p d.part) k → ⊥) → IsDead p (close h s) g
    dead_people none =
        let parts = parts_exist p is left left_listed in
        ⊎_elim
        (λ r. absurd (none (seats_of (inner p (without g s.rest) d.part d.is_part (opens parts.0 parts.1 r.0 r.1) (fill parts.0 parts.1 r.0 r.1))) (suits_some parts.0 parts.1 r.0 r.1)))
        (λ r. record { part = r.0; is_part = part_after r.0 (has_all (IsPart p left) parts.0 parts.1.each r.0 r.1); stuck = inl r.2 })
        (all_suit p is parts.0)

    dead_around : CannotFill p s d.part → IsDead p (close h s) g
    dead_around (inl none) = dead_people none
    dead_around (inr few) = dead_small few.0 few.1 few.2 (contains h few.0) refl

  pub still_dead : IsDead p (close h s) g
  still_dead = go (hits d.part h) refl
    where
      apart : hits d.part h ≡ false → (x : ℕ) → contains d.part x ≡ true → (b : Bool) → contains h x ≡ b → b ≡ false
      apart e x m true k = absurd (false≢true (sym e ∙ has_hit d.part h x k m))
      apart e x m false k = refl

      go : (b : Bool) → hits d.part h ≡ b → IsDead p (close h s) g
      go true e = dead_around (within_part p (without g s.rest) d.part h d.is_part h_left lawful.connected e) d.stuck
      go false e = dead_apart (λ x m. apart e x m (contains h x) refl)

-- a group that fits once another is closed fitted before
pub closing_narrows : (format : Format) (p : Problem) (s : State) (h : List ℕ) → IsProblem p → ((x : ℕ) → s.rest x ≡ true → contains p.counties x ≡ true) → Fits format p s h → Narrows format p s (close h s)
closing_narrows format p s h is listed fits g f = record {
  lawful = f.lawful;
  inside = λ x e. is_open s (length g) x (without_in h s.rest x (in_rest x e)) (before x (off x e) (open_least (close h s) (length g) x (f.inside x e)));
  kept = left format fits f;
}
  where
    in_rest : (x : ℕ) → contains g x ≡ true → (close h s).rest x ≡ true
    in_rest x e = open_rest (close h s) (length g) x (f.inside x e)

    off : (x : ℕ) → contains g x ≡ true → contains h x ≡ false
    off x e = without_not h s.rest x (in_rest x e)

    before : (x : ℕ) → contains h x ≡ false → cond (contains h x) 0 (s.least x) ≤ length g → s.least x ≤ length g
    before x e l = omega (arith, l, ap (λ b. cond b 0 (s.least x)) e)

    g_off : (x : ℕ) → contains h x ≡ true → (b : Bool) → contains g x ≡ b → b ≡ false
    g_off x e true k = absurd (false≢true (sym (off x k) ∙ e))
    g_off x e false k = refl

    left : (format : Format) → Fits format p s h → Fits format p (close h s) g → IsKept format p s g
    left Plain a b = tt
    left Wide a b = λ d. b.kept (still_dead p is s h g a.lawful a.inside (λ x e. g_off x e (contains g x) refl) listed d)

-- a group that fits once a county is raised fitted before
pub raising_narrows : (format : Format) (p : Problem) (s : State) (c j : ℕ) → s.least c ≤ j + 1 → Narrows format p s (raise c j s)
raising_narrows format p s c j under g f = record {
  lawful = f.lawful;
  inside = λ x e. is_open s (length g) x (open_rest (raise c j s) (length g) x (f.inside x e)) (omega (arith, more x (x == c) refl, open_least (raise c j s) (length g) x (f.inside x e)));
  kept = left format f;
}
  where
    more : (x : ℕ) → (b : Bool) → (x == c) ≡ b → s.least x ≤ cond b (j + 1) (s.least x)
    more x true e = omega (arith, under, ap s.least (eqb-true x c e))
    more x false e = omega arith

    cannot : (xs : List ℕ) → CannotFill p s xs → CannotFill p (raise c j s) xs
    cannot xs (inl none) = inl none
    cannot xs (inr few) = inr (few.0, few.1, omega (arith, few.2, more few.0 (few.0 == c) refl))

    left : (format : Format) → Fits format p (raise c j s) g → IsKept format p s g
    left Plain b = tt
    left Wide b = λ d. b.kept (record { part = d.part; is_part = d.is_part; stuck = cannot d.part d.stuck })
