-- Where no smaller group fits, a group of a size leaves only parts of at least that size.
use Rattle.std.proofs.Common.{◌≡◌, ℕ, ◌+◌, ◌*◌, ◌≤◌, ◌<◌, Bool, true, false, cond, not, List, [], ◌∷◌, ◌++◌, length, ◌==◌, refl, sym, ap, ◌∙◌, subst, arith, ◌⊎◌, inl, inr, ⊎_elim}
use Rattle.std.proofs.lemmas.Bool.{and_from, false≢true, cases_lt}
use Rattle.std.proofs.lemmas.List.{length-append}
use Rattle.county_codes.specs.declared.group.Group.{Group}
use Rattle.place_sets.proofs.Sums.{sum_by-append, total_within, total_ones, often_none}
use Rattle.grouping_laws.specs.Sets.{indicator, count, count_in, contains, Inside}
use Rattle.grouping_laws.specs.Problem.{Problem, Suits, people_of, Connected, IsProblem}
use Rattle.grouping_laws.specs.Grouping.{Grouping, sets_of, seats_of}
use Rattle.grouping_laws.specs.Parts.{IsPart, AreParts}
use Rattle.grouping_laws.specs.Ranges.{SuitAll, seated}
use Rattle.grouping_laws.proofs.Elements.{Has, has_all, has_from_contains, contains_from_has}
use Rattle.grouping_laws.proofs.Digits.{true_digit}
use Rattle.grouping_laws.proofs.Parts.{FillRegion, hits, has_hit, within_part, inner, part_suits}
use Rattle.grouping_laws.proofs.Ranges.{people_have_ranges}
use Rattle.grouping_laws.proofs.Seated.{seated_sets, seated_has, first_code, set_from_stands}
use Rattle.certificate_data.specs.declared.format.Format.TheVariants.{Wide}
use Rattle.certificate_laws.specs.Regions.{without}
use Rattle.certificate_laws.specs.State.{State}
use Rattle.certificate_laws.specs.StuckParts.{CannotFill}
use Rattle.certificate_laws.specs.Fitting.{Fits}
use Rattle.certificate_laws.specs.Leaves.{IsStuck}
use Rattle.certificate_laws.proofs.Completion.{open_rest, is_open}
use Rattle.certificate_laws.proofs.Counting.{not_longer, no_more_often}
use Rattle.certificate_laws.proofs.WithoutGroup.{split_one, without_not, without_in}
use Rattle.certificate_laws.proofs.Narrowing.{all_suit}
use Rattle.certificate_laws.proofs.Regions.{parts_exist}
use Rattle.search_groups.specs.PartGroups.{alone, IsSizeToList, FitsPart, PartsServe}

-- a set that can be filled suits some seats
suits_some : (p : Problem) → IsProblem p → (s : State) (xs : List ℕ) → (CannotFill p s xs → ⊥) → (k : ℕ) × Suits p (people_of p xs) k
suits_some p is s xs h = ⊎_elim (λ none. absurd (h (inl none))) (λ r. (r.0, r.2)) (people_have_ranges p is.some_people is.tolerated (people_of p xs))

-- and has as many counties as each of its counties asks for
asks_no_more : (p : Problem) (s : State) (xs : List ℕ) → (CannotFill p s xs → ⊥) → (c : ℕ) → contains xs c ≡ true → s.least c ≤ length xs
asks_no_more p s xs h c m = ⊎_elim (λ l. absurd (h (inr (c, m, l)))) (λ l. l) (cases_lt (length xs) (s.least c))

module _ (p : Problem) (is : IsProblem p) (s : State) (known : (x : ℕ) → s.rest x ≡ true → contains p.counties x ≡ true) (free : (c : ℕ) → IsStuck p s c → ⊥) (size : ℕ)
    (low : (c : ℕ) → s.rest c ≡ true → s.least c ≤ size) where
  -- a part of the rest can be filled
  pub part_free : (xs : List ℕ) → IsPart p s.rest xs → CannotFill p s xs → ⊥
  part_free xs part cannot = let c = first_code xs part.connected.some_county in free c.0 (record { part = xs; is_part = part; around = c.1; cannot_fill = cannot })

  module _ (none : (g : List ℕ) → Fits Wide p s g → length g < size → ⊥) (g : List ℕ) (fits : Fits Wide p s g) (long : length g ≡ size) where
    in_rest : Inside s.rest g
    in_rest x e = open_rest s (length g) x (fits.inside x e)

    -- a part of what the group leaves
    module _ (ys : List ℕ) (part : IsPart p (without g s.rest) ys) where
      pub left_can : CannotFill p s ys → ⊥
      left_can cannot = fits.kept (record { part = ys; is_part = part; stuck = cannot })

      off : (x : ℕ) → contains ys x ≡ true → contains g x ≡ false
      off x e = without_not g s.rest x (part.inside x e)

      -- the group is outside of it
      outside : Inside (without ys s.rest) g
      outside x e = and_from (s.rest x) (not (contains ys x)) (in_rest x e) (ap not (go (contains ys x) refl))
        where
          go : (b : Bool) → contains ys x ≡ b → contains ys x ≡ false
          go false k = k
          go true k = absurd (false≢true (sym (off x k) ∙ e))

      -- a part of what that part leaves
      module _ (zs : List ℕ) (other : IsPart p (without ys s.rest) zs) where
        other_rest : (x : ℕ) → contains zs x ≡ true → s.rest x ≡ true
        other_rest x m = without_in ys s.rest x (other.inside x m)

        -- only the group of it is adjacent to the first part
        not_beside : (x y : ℕ) → contains zs x ≡ true → contains g x ≡ false → contains ys y ≡ true → p.adjacent x y ≡ true → ⊥
        not_beside x y m o n t = false≢true (sym (without_not ys s.rest x (other.inside x m)) ∙ part.whole y x n (and_from (s.rest x) (not (contains g x)) (other_rest x m) (ap not o)) (is.symmetric x y t))

        -- apart from the group it is a part of the rest
        apart_part : ((x : ℕ) → contains zs x ≡ true → contains g x ≡ false) → IsPart p s.rest zs
        apart_part o = record { once = other.once; connected = other.connected; inside = other_rest; whole = λ x y m r t. go x y m r t (contains ys y) refl }
          where
            go : (x y : ℕ) → contains zs x ≡ true → s.rest y ≡ true → p.adjacent x y ≡ true → (b : Bool) → contains ys y ≡ b → contains zs y ≡ true
            go x y m r t true e = absurd (not_beside x y m (o x m) e t)
            go x y m r t false e = other.whole x y m (and_from (s.rest y) (not (contains ys y)) r (ap not e)) t

        -- else it has the group
        module _ (within : (x : ℕ) → contains g x ≡ true → contains zs x ≡ true) where
          abbrev left : ℕ → Bool
          left = without g (contains zs)

          left_in : (x : ℕ) → left x ≡ true → contains zs x ≡ true
          left_in x e = without_in g (contains zs) x e

          left_off : (x : ℕ) → left x ≡ true → contains g x ≡ false
          left_off x e = without_not g (contains zs) x e

          -- a part of what the group leaves of it is one of what the group leaves of the rest
          left_part : (ws : List ℕ) → IsPart p left ws → IsPart p (without g s.rest) ws
          left_part ws a = record {
            once = a.once;
            connected = a.connected;
            inside = λ x e. and_from (s.rest x) (not (contains g x)) (other_rest x (left_in x (a.inside x e))) (ap not (left_off x (a.inside x e)));
            whole = λ x y m r t. go x y m r t (contains ys y) refl;
          }
            where
              go : (x y : ℕ) → contains ws x ≡ true → without g s.rest y ≡ true → p.adjacent x y ≡ true → (b : Bool) → contains ys y ≡ b → contains ws y ≡ true
              go x y m r t true e = absurd (not_beside x y (left_in x (a.inside x m)) (left_off x (a.inside x m)) e t)
              go x y m r t false e =
                  a.whole x y m (and_from (contains zs y) (not (contains g y)) (other.whole x y (left_in x (a.inside x m)) (and_from (s.rest y) (not (contains ys y)) (without_in g s.rest y r) (ap not e)) t) (ap not (without_not g s.rest y r))) t

          module _ (parts : List (List ℕ)) (are : AreParts p left parts) (ks : List ℕ) (suit : SuitAll p parts ks) where
            -- the group and the parts that it leaves, with seats
            abbrev opens : Grouping
            opens = record { seats = fits.lawful.seats; codes = g } ∷ seated parts ks

            at : (m : Group) → Has (seated parts ks) m → IsPart p left m.codes
            at m i = has_all (IsPart p left) parts are.each m.codes (seated_has p parts ks suit m i).0

            fill : FillRegion p (without ys s.rest) opens
            fill = record {
              inside = λ m. elim [ inl e ↦ subst (λ (z : Group). Inside (without ys s.rest) z.codes) e outside | inr i ↦ λ x k. other.inside x (left_in x ((at m i).inside x k)) ];
              connected = λ m. elim [ inl e ↦ subst (λ (z : Group). Connected p z.codes) e fits.lawful.connected | inr i ↦ (at m i).connected ];
              suits = λ m. elim [ inl e ↦ subst (λ (z : Group). Suits p (people_of p z.codes) z.seats) e fits.lawful.suits | inr i ↦ (seated_has p parts ks suit m i).1 ];
            }

            covered : (c : ℕ) → contains zs c ≡ true → count_in c (sets_of opens) ≡ 1
            covered c m = omega (arith, split_one (contains zs) g fits.lawful.once within c, are.once c, ap (count_in c) (seated_sets p parts ks suit), true_digit (contains zs c) m)

            other_suits : Suits p (people_of p zs) (seats_of (inner p (without ys s.rest) zs other opens fill))
            other_suits = part_suits p (without ys s.rest) zs other opens fill covered

          around_can : CannotFill p s zs → ⊥
          around_can (inl never) =
              let parts = parts_exist p is left (λ x e. known x (other_rest x (left_in x e))) in
              ⊎_elim
              (λ r. never (seats_of (inner p (without ys s.rest) zs other (opens parts.0 parts.1 r.0 r.1) (fill parts.0 parts.1 r.0 r.1))) (other_suits parts.0 parts.1 r.0 r.1))
              (λ r. fits.kept (record { part = r.0; is_part = left_part r.0 (has_all (IsPart p left) parts.0 parts.1.each r.0 r.1); stuck = inl r.2 }))
              (all_suit p is parts.0)
          around_can (inr few) = absurd (omega (arith, few.2, low few.0 (other_rest few.0 few.1), not_longer g zs fits.lawful.once within, long))

        other_can : CannotFill p s zs → ⊥
        other_can = go (hits zs g) refl
          where
            apart : hits zs g ≡ false → (x : ℕ) → contains zs x ≡ true → (b : Bool) → contains g x ≡ b → b ≡ false
            apart e x m true k = absurd (false≢true (sym e ∙ has_hit zs g x k m))
            apart e x m false k = refl

            go : (b : Bool) → hits zs g ≡ b → CannotFill p s zs → ⊥
            go true e = around_can (within_part p (without ys s.rest) zs g other outside fits.lawful.connected e)
            go false e = part_free zs (apart_part (λ x m. apart e x m (contains g x) refl))

      -- it would fit as a group, if it weren't of the size
      left_fits : Fits Wide p s ys
      left_fits =
          let some = suits_some p is s ys left_can in
          record {
            lawful = record { once = part.once; listed = λ x e. known x (without_in g s.rest x (part.inside x e)); connected = part.connected; seats = some.0; suits = some.1 };
            inside = λ x e. is_open s (length ys) x (without_in g s.rest x (part.inside x e)) (asks_no_more p s ys left_can x e);
            kept = λ d. other_can d.part d.is_part d.stuck;
          }

      pub left_large : size ≤ length ys
      left_large = ⊎_elim (λ l. absurd (none ys left_fits l)) (λ l. l) (cases_lt (length ys) size)

-- where the region has no county but the group's, or a part is left
module _ (p : Problem) (is : IsProblem p) (region : ℕ → Bool) (known : (x : ℕ) → region x ≡ true → contains p.counties x ≡ true) where
  some_part : ((x : ℕ) → region x ≡ false) ⊎ ((ys : List ℕ) × IsPart p region ys)
  some_part = let parts = parts_exist p is region known in go parts.0 parts.1
    where
      go : (parts : List (List ℕ)) → AreParts p region parts → ((x : ℕ) → region x ≡ false) ⊎ ((ys : List ℕ) × IsPart p region ys)
      go [] are = inl (λ x. none x (region x) refl)
        where
          none : (x : ℕ) → (b : Bool) → region x ≡ b → region x ≡ false
          none x true e = absurd (omega (arith, are.once x, true_digit (region x) e))
          none x false e = e
      go (ys ∷ others) are = inr (ys, has_all (IsPart p region) (ys ∷ others) are.each ys (inl refl))

at_most : (b : Bool) (size : ℕ) → cond b size 0 ≤ size
at_most true size = omega arith
at_most false size = omega arith

-- two sets apart from each other within a third
both_fit : (xs ys zs : List ℕ) → ((c : ℕ) → count c xs ≤ 1) → ((c : ℕ) → count c ys ≤ 1) → ((c : ℕ) → contains ys c ≡ true → contains xs c ≡ false)
    → ((c : ℕ) → contains xs c ≡ true → contains zs c ≡ true) → ((c : ℕ) → contains ys c ≡ true → contains zs c ≡ true) → length xs + length ys ≤ length zs
both_fit xs ys zs one two apart first second =
    omega (arith, total_within (λ x. 1) (xs ++ ys) zs within, total_ones (xs ++ ys), total_ones zs, length-append xs ys)
  where
    within : (c : ℕ) → count c (xs ++ ys) ≤ count c zs
    within c = go (contains ys c) refl
      where
        go : (b : Bool) → contains ys c ≡ b → count c (xs ++ ys) ≤ count c zs
        go true e = omega (arith, sum_by-append (λ x. indicator (x == c)) xs ys, often_none c xs (apart c e), no_more_often ys zs two second c)
        go false e = omega (arith, sum_by-append (λ x. indicator (x == c)) xs ys, often_none c ys e, no_more_often xs zs one first c)

module _ (p : Problem) (is : IsProblem p) (s : State) (size : ℕ) (at : IsSizeToList p s size) (g : List ℕ) (long : length g ≡ size) (zs : List ℕ) (part : IsPart p s.rest zs) where
  -- a part of what the group leaves of the part is one of what it leaves of the rest
  in_part : (ys : List ℕ) → IsPart p (without g (contains zs)) ys → IsPart p (without g s.rest) ys
  in_part ys a = record {
    once = a.once;
    connected = a.connected;
    inside = λ x e. and_from (s.rest x) (not (contains g x)) (part.inside x (without_in g (contains zs) x (a.inside x e))) (ap not (without_not g (contains zs) x (a.inside x e)));
    whole = λ x y m r t. a.whole x y m (and_from (contains zs y) (not (contains g y)) (part.whole x y (without_in g (contains zs) x (a.inside x m)) (without_in g s.rest y r) t) (ap not (without_not g s.rest y r))) t;
  }

  module _ (fits : Fits Wide p s g) (within : (x : ℕ) → contains g x ≡ true → contains zs x ≡ true) where
    alone_fits : Fits Wide p (alone (contains zs) size) g
    alone_fits = record {
      lawful = fits.lawful;
      inside = λ x e. is_open (alone (contains zs) size) (length g) x (within x e) (omega (arith, at_most (contains zs x) size, long));
      kept = λ d. go d.part (in_part d.part d.is_part) d.stuck;
    }
      where
        go : (ys : List ℕ) → IsPart p (without g s.rest) ys → CannotFill p (alone (contains zs) size) ys → ⊥
        go ys a (inl never) = left_can p is s at.listed at.no_stuck size at.low at.none g fits long ys a (inl never)
        go ys a (inr few) = absurd (omega (arith, few.2, at_most (contains zs few.0) size, left_large p is s at.listed at.no_stuck size at.low at.none g fits long ys a))

    has_room : (length zs ≡ size) ⊎ (2 * size ≤ length zs)
    has_room = ⊎_elim
        (λ none. inl (omega (arith, long, not_longer g zs fits.lawful.once within, not_longer zs g part.once (λ x e. all none x e (contains g x) refl))))
        (λ r. let ys = r.0 in
        let large = left_large p is s at.listed at.no_stuck size at.low at.none g fits long ys (in_part ys r.1) in
        let both = both_fit g ys zs fits.lawful.once (r.1).once (λ c e. without_not g (contains zs) c ((r.1).inside c e)) within (λ c e. without_in g (contains zs) c ((r.1).inside c e)) in
        inr (omega (arith, large, both, long)))
        (some_part p is (without g (contains zs)) (λ x e. at.listed x (part.inside x (without_in g (contains zs) x e))))
      where
        all : ((x : ℕ) → without g (contains zs) x ≡ false) → (x : ℕ) → contains zs x ≡ true → (b : Bool) → contains g x ≡ b → contains g x ≡ true
        all none x e true k = k
        all none x e false k = absurd (false≢true (sym (none x) ∙ and_from (contains zs x) (not (contains g x)) e (ap not k)))

  module _ (fits : Fits Wide p (alone (contains zs) size) g) where
    in_zs : (x : ℕ) → contains g x ≡ true → contains zs x ≡ true
    in_zs x e = open_rest (alone (contains zs) size) (length g) x (fits.inside x e)

    -- a part of what the group leaves of the rest lies in the part, or is one of the rest
    module _ (ys : List ℕ) (a : IsPart p (without g s.rest) ys) where
      meets_can : ((x : ℕ) → contains ys x ≡ true → contains zs x ≡ true) → CannotFill p s ys → ⊥
      meets_can within = go
        where
          own : IsPart p (without g (contains zs)) ys
          own = record {
            once = a.once;
            connected = a.connected;
            inside = λ x e. and_from (contains zs x) (not (contains g x)) (within x e) (ap not (without_not g s.rest x (a.inside x e)));
            whole = λ x y m r t. a.whole x y m (and_from (s.rest y) (not (contains g y)) (part.inside y (without_in g (contains zs) y r)) (ap not (without_not g (contains zs) y r))) t;
          }

          own_can : CannotFill p (alone (contains zs) size) ys → ⊥
          own_can cannot = fits.kept (record { part = ys; is_part = own; stuck = cannot })

          go : CannotFill p s ys → ⊥
          go (inl never) = own_can (inl never)
          go (inr few) =
              let asks = asks_no_more p (alone (contains zs) size) ys own_can few.0 few.1 in
              absurd (omega (arith, few.2, at.low few.0 (part.inside few.0 (within few.0 few.1)), asks, ap (λ b. cond b size 0) (within few.0 few.1)))

      apart_can : ((x : ℕ) → contains ys x ≡ true → contains zs x ≡ false) → CannotFill p s ys → ⊥
      apart_can apart = part_free p is s at.listed at.no_stuck size at.low ys (record { once = a.once; connected = a.connected; inside = λ x e. without_in g s.rest x (a.inside x e); whole = λ x y m r t. go x y m r t (contains g y) refl })
        where
          go : (x y : ℕ) → contains ys x ≡ true → s.rest y ≡ true → p.adjacent x y ≡ true → (b : Bool) → contains g y ≡ b → contains ys y ≡ true
          go x y m r t true e = absurd (false≢true (sym (apart x m) ∙ part.whole y x (in_zs y e) (without_in g s.rest x (a.inside x m)) (is.symmetric x y t)))
          go x y m r t false e = a.whole x y m (and_from (s.rest y) (not (contains g y)) r (ap not e)) t

      each_can : CannotFill p s ys → ⊥
      each_can = go (hits zs ys) refl
        where
          off : hits zs ys ≡ false → (x : ℕ) → contains ys x ≡ true → (b : Bool) → contains zs x ≡ b → b ≡ false
          off e x m true k = absurd (false≢true (sym e ∙ has_hit zs ys x m k))
          off e x m false k = refl

          go : (b : Bool) → hits zs ys ≡ b → CannotFill p s ys → ⊥
          go true e = meets_can (within_part p s.rest zs ys part (λ x m. without_in g s.rest x (a.inside x m)) a.connected e)
          go false e = apart_can (λ x m. off e x m (contains zs x) refl)

    state_fits : Fits Wide p s g
    state_fits = record {
      lawful = fits.lawful;
      inside = λ x e. is_open s (length g) x (part.inside x (in_zs x e)) (omega (arith, long, at.low x (part.inside x (in_zs x e))));
      kept = λ d. each_can d.part d.is_part d.stuck;
    }

pub parts_serve : PartsServe
parts_serve p s size parts is at are g long = (there, λ f. state_fits p is s size at g long f.part (has_all (IsPart p s.rest) parts are.each f.part (has_from_contains parts f.part f.there)) f.fits)
  where
    there : Fits Wide p s g → FitsPart p parts size g
    there fits =
        let c = first_code g fits.lawful.connected.some_county in
        let inside : Inside s.rest g = λ x e. open_rest s (length g) x (fits.inside x e) in
        let r = set_from_stands c.0 parts (omega (arith, are.once c.0, true_digit (s.rest c.0) (inside c.0 c.1))) in
        let part = has_all (IsPart p s.rest) parts are.each r.0 r.1 in
        let within = within_part p s.rest r.0 g part inside fits.lawful.connected (has_hit r.0 g c.0 c.1 r.2) in
        record {
          part = r.0;
          there = contains_from_has parts r.0 r.1;
          fits = alone_fits p is s size at g long r.0 part fits within;
          room = has_room p is s size at g long r.0 part fits within;
        }
