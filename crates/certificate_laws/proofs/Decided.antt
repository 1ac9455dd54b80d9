-- What one list of groups and one list of connected parts decide.
use Rattle.std.proofs.Common.{◌≡◌, ◌≤◌, length, ℕ, ◌<◌, Bool, true, List, [], ◌∷◌, ◌++◌, map, refl, sym, ap, ◌∙◌, subst, arith, ◌⊎◌, inl, inr, ⊎_elim, AllPairs, All, Contains, filter}
use Rattle.std.specs.List.{AllZip}
use Rattle.std.proofs.lemmas.List.Elements.{filter_agree}
use Rattle.grouping_laws.specs.Sets.{sum_by, count_in, contains, SameSet}
use Rattle.grouping_laws.specs.Problem.{Problem, Suits, people_of}
use Rattle.grouping_laws.specs.Parts.{IsPart, AreParts}
use Rattle.grouping_laws.specs.Ranges.{IsLeast, IsMost, SuitAll, seated}
use Rattle.grouping_laws.specs.GroupsFrom.{IsLesser, IsBefore, place, IsOrder}
use Rattle.place_sets.proofs.Sums.{sum_by-append, total_alike, digit_one}
use Rattle.grouping_laws.proofs.Elements.{Has, has_all, has_from_contains, contains_from_has}
use Rattle.grouping_laws.proofs.Digits.{true_digit}
use Rattle.grouping_laws.proofs.Alike.{Alike, length_alike, alike_from_same, in_order_alike, member_same, member_alike, lawful_alike}
use Rattle.grouping_laws.proofs.Parts.{FillRegion, within_part, has_hit}
use Rattle.grouping_laws.proofs.Fill.{same_from}
use Rattle.grouping_laws.proofs.Seated.{parts_seated, least_sum, most_sum, AllZip-append, seated_sets, seated_seats, seated_has, first_code, set_from_stands}
use Rattle.certificate_data.specs.declared.format.Format.{Format}
use Rattle.certificate_data.specs.declared.format.Format.TheVariants.{Plain, Wide}
use Rattle.certificate_data.specs.Round.{Round}
use Rattle.certificate_laws.specs.Regions.{without}
use Rattle.certificate_laws.specs.State.{State, open_to, close}
use Rattle.certificate_laws.specs.StuckParts.{CannotFill}
use Rattle.certificate_laws.specs.Fitting.{IsDead, IsKept, Fits}
use Rattle.certificate_laws.specs.Leaves.{IsStuck, IsOffSeats}
use Rattle.certificate_laws.specs.Groups.{AreGroupsAt, AreGroupsOf}
use Rattle.certificate_laws.specs.Decisions.{LeavesAreDecided}
use Rattle.certificate_laws.proofs.Living.{cannot_once_closed, cannot_before}
use Rattle.certificate_laws.proofs.WithoutGroup.{without_not, without_same}
use Rattle.certificate_laws.proofs.Regions.{parts_exist}
use Rattle.certificate_laws.proofs.Kept.{head_before, tail_pairs}

-- two sorted lists with the same elements are one
lesser_irreflexive : (xs : List ℕ) → IsLesser xs xs → ⊥
lesser_irreflexive [] h = h
lesser_irreflexive (x ∷ xs) (inl l) = omega arith
lesser_irreflexive (x ∷ xs) (inr r) = lesser_irreflexive xs r.1

lesser_asymmetric : (xs ys : List ℕ) → IsLesser xs ys → IsLesser ys xs → ⊥
lesser_asymmetric [] ys h k = absurd h
lesser_asymmetric (x ∷ xs) [] h k = absurd h
lesser_asymmetric (x ∷ xs) (y ∷ ys) (inl h) (inl k) = omega arith
lesser_asymmetric (x ∷ xs) (y ∷ ys) (inl h) (inr k) = omega (arith, k.0)
lesser_asymmetric (x ∷ xs) (y ∷ ys) (inr h) (inl k) = omega (arith, h.0)
lesser_asymmetric (x ∷ xs) (y ∷ ys) (inr h) (inr k) = lesser_asymmetric xs ys h.1 k.1

before_irreflexive : (order g : List ℕ) → IsBefore order g g → ⊥
before_irreflexive order g (inl l) = omega arith
before_irreflexive order g (inr r) = lesser_irreflexive (map (place order) g) r.1

before_asymmetric : (order g h : List ℕ) → IsBefore order g h → IsBefore order h g → ⊥
before_asymmetric order g h (inl l) (inl m) = omega arith
before_asymmetric order g h (inl l) (inr m) = omega (arith, m.0)
before_asymmetric order g h (inr l) (inl m) = omega (arith, l.0)
before_asymmetric order g h (inr l) (inr m) = lesser_asymmetric (map (place order) g) (map (place order) h) l.1 m.1

sorted_same : {X : Type 0} (R : X → X → Type 0) (irreflexive : (x : X) → R x x → ⊥) (asymmetric : (x y : X) → R x y → R y x → ⊥) (xs ys : List X) → AllPairs R xs → AllPairs R ys
    → ((x : X) → Has xs x → Has ys x) → ((x : X) → Has ys x → Has xs x) → xs ≡ ys
sorted_same R irreflexive asymmetric [] [] a b f g = refl
sorted_same R irreflexive asymmetric [] (y ∷ ys) a b f g = absurd (g y (inl refl))
sorted_same R irreflexive asymmetric (x ∷ xs) [] a b f g = absurd (f x (inl refl))
sorted_same {X = X} R irreflexive asymmetric (x ∷ xs) (y ∷ ys) a b f g = joined first (sorted_same R irreflexive asymmetric xs ys (tail_pairs R x xs a) (tail_pairs R y ys b) forth back)
  where
    first : x ≡ y
    first = go (f x (inl refl)) (g y (inl refl))
      where
        go : Has (y ∷ ys) x → Has (x ∷ xs) y → x ≡ y
        go (inl e) k = sym e
        go (inr h) (inl e) = e
        go (inr h) (inr k) = absurd (asymmetric x y (head_before R x xs a y k) (head_before R y ys b x h))

    forth : (z : X) → Has xs z → Has ys z
    forth z h = go (f z (inr h))
      where
        go : Has (y ∷ ys) z → Has ys z
        go (inl e) = absurd (irreflexive z (subst (λ w. R w z) (first ∙ e) (head_before R x xs a z h)))
        go (inr k) = k

    back : (z : X) → Has ys z → Has xs z
    back z h = go (g z (inr h))
      where
        go : Has (x ∷ xs) z → Has xs z
        go (inl e) = absurd (irreflexive z (subst (λ w. R w z) (sym first ∙ e) (head_before R y ys b z h)))
        go (inr k) = k

    joined : x ≡ y → xs ≡ ys → x ∷ xs ≡ y ∷ ys
    joined e k = cc

groups_same : (p : Problem) (round : Round) (s : State) (c j : ℕ) (xs ys : List (List ℕ)) → AreGroupsAt p round s c j xs → AreGroupsAt p round s c j ys → xs ≡ ys
groups_same p round s c j xs ys a b =
    sorted_same (IsBefore round.order) (before_irreflexive round.order) (before_asymmetric round.order) xs ys a.sorted b.sorted
    (λ g h. has_from_contains ys g ((b.each g).1 ((a.each g).0 (contains_from_has xs g h))))
    (λ g h. has_from_contains xs g ((a.each g).1 ((b.each g).0 (contains_from_has ys g h))))

sizes_same : (p : Problem) (round : Round) (s : State) (i : ℕ) (xs ys : List (List ℕ)) → AreGroupsOf p round s i xs → AreGroupsOf p round s i ys → xs ≡ ys
sizes_same p round s i xs ys a b =
    sorted_same (IsBefore round.order) (before_irreflexive round.order) (before_asymmetric round.order) xs ys a.sorted b.sorted
    (λ g h. has_from_contains ys g ((b.each g).1 ((a.each g).0 (contains_from_has xs g h))))
    (λ g h. has_from_contains xs g ((a.each g).1 ((b.each g).0 (contains_from_has ys g h))))

part_within : (p : Problem) (region : ℕ → Bool) (xs ys : List ℕ) (c : ℕ) → IsPart p region xs → IsPart p region ys → contains xs c ≡ true → contains ys c ≡ true → (y : ℕ) → contains ys y ≡ true → contains xs y ≡ true
part_within p region xs ys c a b m n = within_part p region xs ys a b.inside b.connected (has_hit xs ys c n m)

pub part_same : (p : Problem) (region : ℕ → Bool) (xs ys : List ℕ) (c : ℕ) → IsPart p region xs → IsPart p region ys → contains xs c ≡ true → contains ys c ≡ true → SameSet xs ys
part_same p region xs ys c a b m n = same_from xs ys (part_within p region xs ys c a b m n) (part_within p region ys xs c b a n m)

-- what a set of counties can't be filled for is no matter of their order
cannot_same : (p : Problem) (s : State) (xs ys : List ℕ) → Alike ys xs → SameSet ys xs → CannotFill p s xs → CannotFill p s ys
cannot_same p s xs ys same sets (inl none) = inl (λ k t. none k (subst (λ z. Suits p z k) (total_alike p.people ys xs same) t))
cannot_same p s xs ys same sets (inr few) = inr (few.0, sets few.0 ∙ few.1, omega (arith, few.2, length_alike ys xs same))

-- two parts of a region that have a county in common
pub cannot_either : (p : Problem) (s : State) (region : ℕ → Bool) (xs ys : List ℕ) (c : ℕ) → IsPart p region xs → IsPart p region ys → contains xs c ≡ true → contains ys c ≡ true → CannotFill p s ys → CannotFill p s xs
cannot_either p s region xs ys c a b m n cannot =
    let sets = part_same p region xs ys c a b m n in
    cannot_same p s ys xs (alike_from_same xs ys a.once b.once sets) sets cannot

stuck_by_part : (p : Problem) (s : State) (xs : List ℕ) (c : ℕ) → IsPart p s.rest xs → contains xs c ≡ true → IsStuck p s c → CannotFill p s xs
stuck_by_part p s xs c part m v = cannot_either p s s.rest xs v.part c part v.is_part m v.around v.cannot_fill

dead_by_parts : (p : Problem) (s : State) (g : List ℕ) (parts : List (List ℕ)) → AreParts p (without g s.rest) parts → IsDead p s g → (part : List ℕ) × Contains parts part × CannotFill p s part
dead_by_parts p s g parts are d =
    let c = first_code d.part d.is_part.connected.some_county in
    let r = set_from_stands c.0 parts (omega (arith, are.once c.0, true_digit (without g s.rest c.0) (d.is_part.inside c.0 c.1))) in
    (r.0, contains_from_has parts r.0 r.1, cannot_either p s (without g s.rest) r.0 d.part c.0 (has_all (IsPart p (without g s.rest)) parts are.each r.0 r.1) d.is_part r.2 c.1 d.stuck)

part_is_dead : (p : Problem) (s : State) (g : List ℕ) (parts : List (List ℕ)) → AreParts p (without g s.rest) parts → (part : List ℕ) × Contains parts part × CannotFill p s part → IsDead p s g
part_is_dead p s g parts are r = record { part = r.0; is_part = has_all (IsPart p (without g s.rest)) parts are.each r.0 (has_from_contains parts r.0 r.1); stuck = r.2 }

dead_closed : (p : Problem) (s : State) (g : List ℕ) → IsDead p s g → (c : ℕ) × IsStuck p (close g s) c
dead_closed p s g d =
    let c = first_code d.part d.is_part.connected.some_county in
    (c.0, record { part = d.part; is_part = d.is_part; around = c.1; cannot_fill = cannot_once_closed p s g d.part (λ x e. without_not g s.rest x (d.is_part.inside x e)) d.stuck })

closed_dead : (p : Problem) (s : State) (g : List ℕ) → (c : ℕ) × IsStuck p (close g s) c → IsDead p s g
closed_dead p s g r = record { part = r.1.part; is_part = r.1.is_part; stuck = cannot_before p s g r.1.part r.1.cannot_fill }

-- one list of the parts, seated, fills the region, so another list can be seated with the same sum
moved_seats : (p : Problem) (region : ℕ → Bool) (parts others : List (List ℕ)) (ks : List ℕ) → AreParts p region parts → AreParts p region others → SuitAll p parts ks → (js : List ℕ) × SuitAll p others js × (sum_by (λ k. k) js ≡ sum_by (λ k. k) ks)
moved_seats p region parts others ks a b suit =
    let fill : FillRegion p region (seated parts ks) = record {
      inside = λ m h. (has_all (IsPart p region) parts a.each m.codes (seated_has p parts ks suit m h).0).inside;
      connected = λ m h. (has_all (IsPart p region) parts a.each m.codes (seated_has p parts ks suit m h).0).connected;
      suits = λ m h. (seated_has p parts ks suit m h).1;
    } in
    let r = parts_seated p region others (seated parts ks) fill (has_all (IsPart p region) others b.each) (λ c. ap (count_in c) (seated_sets p parts ks suit) ∙ (a.once c ∙ sym (b.once c))) (λ c. omega (arith, b.once c, digit_one (region c))) in
    (r.0, r.1, r.2 ∙ seated_seats p parts ks suit)

zip_split : {A B : Type 0} (R : A → B → Type 0) (xs us : List A) (zs : List B) → AllZip R (xs ++ us) zs → (ys : List B) × (vs : List B) × (zs ≡ ys ++ vs) × AllZip R xs ys × AllZip R us vs
zip_split R [] us zs h = ([], zs, refl, tt, h)
zip_split R (x ∷ xs) us [] h = absurd h
zip_split R (x ∷ xs) us (z ∷ zs) h = let r = zip_split R xs us zs h.1 in (z ∷ r.0, r.1, ap (λ w. z ∷ w) r.2, (h.0, r.3), r.4)

least_suits : (p : Problem) (sets : List (List ℕ)) (lows : List ℕ) → AllZip (IsLeast p) sets lows → SuitAll p sets lows
least_suits p [] [] h = tt
least_suits p [] (y ∷ lows) h = absurd h
least_suits p (x ∷ sets) [] h = absurd h
least_suits p (x ∷ sets) (y ∷ lows) h = (h.0.suits, least_suits p sets lows h.1)

most_suits : (p : Problem) (sets : List (List ℕ)) (highs : List ℕ) → AllZip (IsMost p) sets highs → SuitAll p sets highs
most_suits p [] [] h = tt
most_suits p [] (y ∷ highs) h = absurd h
most_suits p (x ∷ sets) [] h = absurd h
most_suits p (x ∷ sets) (y ∷ highs) h = (h.0.suits, most_suits p sets highs h.1)

-- seats for the settled groups and one list of the parts give seats with the same sum for another list of the parts
moved_all : (p : Problem) (s : State) (parts others : List (List ℕ)) (ks : List ℕ) → AreParts p s.rest parts → AreParts p s.rest others → SuitAll p (s.closed ++ parts) ks
    → (js : List ℕ) × SuitAll p (s.closed ++ others) js × (sum_by (λ k. k) js ≡ sum_by (λ k. k) ks)
moved_all p s parts others ks a b suit =
    let r = zip_split (λ codes k. Suits p (people_of p codes) k) s.closed parts ks suit in
    let moved = moved_seats p s.rest parts others r.1 a b r.4 in (
      r.0 ++ moved.0,
      AllZip-append (λ codes k. Suits p (people_of p codes) k) s.closed r.0 others moved.0 r.3 moved.1,
      omega (arith, sum_by-append (λ k. k) r.0 moved.0, moved.2, sum_by-append (λ k. k) r.0 r.1, ap (sum_by (λ k. k)) r.2),
    )

seats_by_parts : (p : Problem) (s : State) (parts : List (List ℕ)) → AreParts p s.rest parts → IsOffSeats p s
    → ((ks : List ℕ) × SuitAll p parts ks)
    × ((lows highs : List ℕ) → AllZip (IsLeast p) (s.closed ++ parts) lows → AllZip (IsMost p) (s.closed ++ parts) highs → (p.seats_left < sum_by (λ k. k) lows) ⊎ (sum_by (λ k. k) highs < p.seats_left))
seats_by_parts p s parts are v = (own, λ lows highs l h. ⊎_elim (λ o. inl (above lows l o)) (λ o. inr (below highs h o)) v.off)
  where
    theirs : AreParts p s.rest v.parts
    theirs = v.are_parts

    suit : SuitAll p (s.closed ++ v.parts) v.ranges
    suit = ⊎_elim (λ o. least_suits p (s.closed ++ v.parts) v.ranges o.0) (λ o. most_suits p (s.closed ++ v.parts) v.ranges o.0) v.off

    own : (ks : List ℕ) × SuitAll p parts ks
    own =
        let r = zip_split (λ codes k. Suits p (people_of p codes) k) s.closed v.parts v.ranges suit in
        let moved = moved_seats p s.rest v.parts parts r.1 theirs are r.4 in
        (moved.0, moved.1)

    above : (lows : List ℕ) → AllZip (IsLeast p) (s.closed ++ parts) lows → AllZip (IsLeast p) (s.closed ++ v.parts) v.ranges × (p.seats_left < sum_by (λ k. k) v.ranges) → p.seats_left < sum_by (λ k. k) lows
    above lows l o =
        let moved = moved_all p s parts v.parts lows are theirs (least_suits p (s.closed ++ parts) lows l) in
        omega (arith, o.1, least_sum p (s.closed ++ v.parts) v.ranges moved.0 o.0 moved.1, moved.2)

    below : (highs : List ℕ) → AllZip (IsMost p) (s.closed ++ parts) highs → AllZip (IsMost p) (s.closed ++ v.parts) v.ranges × (sum_by (λ k. k) v.ranges < p.seats_left) → sum_by (λ k. k) highs < p.seats_left
    below highs h o =
        let moved = moved_all p s parts v.parts highs are theirs (most_suits p (s.closed ++ parts) highs h) in
        omega (arith, o.1, most_sum p (s.closed ++ v.parts) v.ranges moved.0 o.0 moved.1, moved.2)

-- a group that fits, in the order of places
pub fits_alike : (format : Format) (p : Problem) (s : State) (g k : List ℕ) → Alike g k → Fits format p s g → Fits format p s k
fits_alike format p s g k same f = record {
  lawful = lawful_alike p g k same f.lawful;
  inside = λ x e. subst (λ n. open_to s n x ≡ true) (length_alike g k same) (f.inside x (member_alike k g (λ y. sym (same y)) x e));
  kept = left format f.kept;
}
  where
    dead_too : IsDead p s k → IsDead p s g
    dead_too d = record { part = d.part; is_part = without_same p s.rest g k d.part (λ x. member_same g k same x) d.is_part; stuck = d.stuck }

    left : (format : Format) → IsKept format p s g → IsKept format p s k
    left Plain h = tt
    left Wide h = λ d. h (dead_too d)

-- so it is one of the list of its size
pub listed_alike : (p : Problem) (round : Round) (s : State) (i : ℕ) (groups : List (List ℕ)) → IsOrder p round.order → AreGroupsOf p round s i groups → (g : List ℕ) → Fits round.format p s g → length g ≡ i
    → Alike g (filter (contains g) round.order) × Has groups (filter (contains g) round.order)
listed_alike p round s i groups order are g fits e =
    let k = filter (contains g) round.order in
    let same : Alike g k = in_order_alike round.order p.counties g order fits.lawful.once fits.lawful.listed in (
      same,
      has_from_contains groups k ((are.each k).1 (record {
        fits = fits_alike round.format p s g k same fits;
        in_order = filter_agree (contains k) (contains g) (λ x. sym (member_same g k same x)) round.order;
        size = omega (arith, e, length_alike g k same);
      })),
    )

fair_by_list : (p : Problem) (round : Round) (s : State) (i quota : ℕ) (w : ℕ → ℕ) (groups : List (List ℕ)) → IsOrder p round.order → AreGroupsOf p round s i groups → All (λ g. quota ≤ sum_by w g) groups
    → (g : List ℕ) → Fits round.format p s g → length g ≡ i → quota ≤ sum_by w g
fair_by_list p round s i quota w groups order are heavy g fits e =
    let r = listed_alike p round s i groups order are g fits e in
    omega (arith, has_all (λ g. quota ≤ sum_by w g) groups heavy (filter (contains g) round.order) r.1, total_alike w g (filter (contains g) round.order) r.0)

pub leaves_are_decided : LeavesAreDecided
leaves_are_decided = record {
  groups_at = groups_same;
  groups_of_size = sizes_same;
  part = part_same;
  stuck = stuck_by_part;
  dead = λ p s g parts are. (dead_by_parts p s g parts are, part_is_dead p s g parts are);
  dead_closed = λ p s g. (dead_closed p s g, closed_dead p s g);
  fair = fair_by_list;
  seats = seats_by_parts;
  parts = parts_exist;
}
