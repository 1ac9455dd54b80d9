-- The certificates of three counties whose middle one strands its neighbours.
use Rattle.std.proofs.Common.{◌≡◌, ℕ, ◌+◌, ◌*◌, ◌≤◌, Bool, true, false, cond, ◌||◌, ◌&&◌, List, [], ◌∷◌, filter, length, ◌==◌, refl, sym, ap, ◌∙◌, subst, arith, ◌⊎◌, inl, inr, ⊎_elim, lit≤}
use Rattle.std.proofs.lemmas.Bool.{eqb-true, false≢true, and_from}
use Rattle.std.proofs.lemmas.Bool.Decides.{nat_tests}
use Rattle.grouping_laws.specs.Sets.{indicator, sum_by, count, contains}
use Rattle.grouping_laws.specs.Problem.{Connected, HasBorder, LawfulGroup, Suits, people_of, IsProblem}
use Rattle.grouping_laws.specs.Grouping.{Lawful}
use Rattle.grouping_laws.specs.Parts.{IsPart}
use Rattle.grouping_laws.proofs.Elements.{has_from_contains, all_from_has, contains_from_has}
use Rattle.grouping_laws.proofs.Digits.{often_member}
use Rattle.grouping_laws.proofs.Alike.{Alike, in_order_alike, lawful_alike, length_alike, member_same}
use Rattle.grouping_laws.proofs.Fill.{one, grown, member_cases}
use Rattle.certificate_data.specs.declared.format.Format.TheVariants.{Plain, Wide}
use Rattle.certificate_laws.specs.Regions.{without}
use Rattle.certificate_laws.specs.State.{State, open_to, empty_state, raise}
use Rattle.certificate_laws.specs.Fitting.{Fits, IsDead}
use Rattle.certificate_laws.specs.BoundLines.{weight_of}
use Rattle.certificate_laws.specs.Groups.{IsGroupAt, AreGroupsAt}
use Rattle.certificate_laws.specs.Certificate.{IsCertificate, TargetFits}
use Rattle.certificate_laws.specs.Examples.{path, linked, stranding, together, plain_round, plain_tree, wide_round, wide_tree, lone_leaf}
use Rattle.certificate_laws.proofs.WithoutGroup.{without_same}

path_once : (c : ℕ) → count c path ≤ 1
path_once c = grind (arith, nat_tests)

swapped : (a b : Bool) → (a || b) ≡ true → (b || a) ≡ true
swapped true true e = refl
swapped true false e = refl
swapped false true e = refl
swapped false false e = e

is_problem : IsProblem stranding
is_problem = record { once = path_once; symmetric = λ x y e. swapped (linked x y) (linked y x) e; some_people = omega arith; some_seats = omega arith; tolerated = omega arith }

connected : Connected stranding path
connected = grown stranding is_problem.symmetric (37003 ∷ 37005 ∷ []) 37003 37001 (grown stranding is_problem.symmetric (37005 ∷ []) 37005 37003 (one stranding 37005) refl refl) refl refl

suits : Suits stranding (people_of stranding path) 2
suits = record { some_seat = omega arith; enough = lit≤ tt; not_more = lit≤ tt }

lawful_group : LawfulGroup stranding path
lawful_group = record { once = path_once; listed = λ c e. e; connected = connected; seats = 2; suits = suits }

lawful : Lawful stranding together
lawful = record {
  once = λ c. omega (arith, often_member path c (path_once c));
  connected = all_from_has (λ s. Connected stranding s.codes) together (λ x. elim [ inl e ↦ subst (λ y. Connected stranding y.codes) e connected | inr h ↦ absurd h ]);
  suits = all_from_has (λ s. Suits stranding (people_of stranding s.codes) s.seats) together (λ x. elim [ inl e ↦ subst (λ y. Suits stranding (people_of stranding y.codes) y.seats) e suits | inr h ↦ absurd h ]);
  seats = refl;
}

order : (c : ℕ) → count c path ≡ indicator (contains path c)
order c = often_member path c (path_once c)

target : TargetFits stranding 3 plain_round.target
target = (lawful, all_from_has (λ s. length s.codes ≤ 3) together (λ x. elim [ inl e ↦ subst (λ y. length y.codes ≤ 3) e (lit≤ tt) | inr h ↦ absurd h ]))

-- the pair of the ends is not connected
ends_apart : Connected stranding (37001 ∷ 37005 ∷ []) → ⊥
ends_apart c =
    let r : HasBorder stranding (37001 ∷ 37005 ∷ []) (λ x. x == 37001) = c.joined (λ x. x == 37001) (37001, 37005, refl, refl, refl, refl) in
    ⊎_elim (λ e. false≢true (sym r.5 ∙ ap (λ x. x == 37001) (sym e))) (λ h. ⊎_elim (λ e. false≢true (from_a r.0 r.1 (eqb-true r.0 37001 r.4) e r.6)) (λ k. false≢true k) (member_cases 37005 [] r.1 h)) (member_cases 37001 (37005 ∷ []) r.1 r.3)
  where
    from_a : (x y : ℕ) → x ≡ 37001 → 37005 ≡ y → stranding.adjacent x y ≡ true → false ≡ true
    from_a x y e f t = ap (λ z. stranding.adjacent z 37005) (sym e) ∙ (ap (stranding.adjacent x) f ∙ t)

-- what n people ask of seats
seat_window : (k n m : ℕ) → Suits stranding m k → m ≡ n → (1 ≤ k) × (19 * k * 200 ≤ 20 * 2 * n) × (20 * 2 * n ≤ 21 * k * 200)
seat_window k n m s e = (s.some_seat, omega (arith, s.enough, e), omega (arith, s.not_more, e))

-- the counties of the path that three tests keep
abbrev chosen : Bool → Bool → Bool → List ℕ
chosen a b c = cond a (37001 ∷ cond b (37003 ∷ cond c (37005 ∷ []) []) (cond c (37005 ∷ []) [])) (cond b (37003 ∷ cond c (37005 ∷ []) []) (cond c (37005 ∷ []) []))

-- the lawful groups, in order: all three counties, or the middle one
lawful_ones : (g : List ℕ) → LawfulGroup stranding g → (filter (contains g) path ≡ path) ⊎ (filter (contains g) path ≡ 37003 ∷ [])
lawful_ones g l = go (contains g 37001) (contains g 37003) (contains g 37005) kept
  where
    kept : LawfulGroup stranding (filter (contains g) path)
    kept = lawful_alike stranding g (filter (contains g) path) (in_order_alike path path g order l.once l.listed) l

    go : (a b c : Bool) → LawfulGroup stranding (chosen a b c) → (chosen a b c ≡ path) ⊎ (chosen a b c ≡ 37003 ∷ [])
    go true true true k = inl refl
    go true true false k = let r = seat_window k.seats 150 (people_of stranding (37001 ∷ 37003 ∷ [])) k.suits refl in absurd (omega arith)
    go true false true k = absurd (ends_apart k.connected)
    go true false false k = let r = seat_window k.seats 50 (people_of stranding (37001 ∷ [])) k.suits refl in absurd (omega arith)
    go false true true k = let r = seat_window k.seats 150 (people_of stranding (37003 ∷ 37005 ∷ [])) k.suits refl in absurd (omega arith)
    go false true false k = inr refl
    go false false true k = let r = seat_window k.seats 50 (people_of stranding (37005 ∷ [])) k.suits refl in absurd (omega arith)
    go false false false k = absurd (omega (arith, k.connected.some_county))

-- the plain certificate
all_fit : Fits Plain stranding (empty_state stranding) path
all_fit = record { lawful = lawful_group; inside = λ c e. and_from (contains path c) true e refl; kept = tt }

at_first : IsGroupAt stranding plain_round (empty_state stranding) 37001 3 path
at_first = record { fits = all_fit; in_order = refl; has = refl; small = lit≤ tt }

only_first : (g : List ℕ) → IsGroupAt stranding plain_round (empty_state stranding) 37001 3 g → path ≡ g
only_first g f =
    ⊎_elim
    (λ e. sym e ∙ f.in_order)
    (λ e. absurd (false≢true (ap (λ z. contains z 37001) (sym e ∙ f.in_order) ∙ f.has)))
    (lawful_ones g f.fits.lawful)

firsts : AreGroupsAt stranding plain_round (empty_state stranding) 37001 3 (path ∷ [])
firsts = record {
  each = λ g. (λ h. ⊎_elim (λ e. subst (IsGroupAt stranding plain_round (empty_state stranding) 37001 3) e at_first) (λ k. absurd k) (has_from_contains (path ∷ []) g h), λ f. contains_from_has (path ∷ []) g (inl (only_first g f)));
  sorted = λ i j d a b. absurd (omega arith);
}

whole_part : IsPart stranding (contains path) path
whole_part = record { once = path_once; connected = connected; inside = λ c e. e; whole = λ x y m r t. r }

pub plain_certificate : IsCertificate stranding plain_round plain_tree
plain_certificate = record {
  tolerance = refl;
  order = order;
  target = target;
  proof = (
    tt,
    record { small = lit≤ tt; is_open = refl; in_turn = (refl, (37003 ∷ 37005 ∷ [], refl)) },
    firsts,
    ((together, refl, (tt, inl (refl, (tt, inl (refl, (tt, inl (refl, refl))))))), tt),
    record { part = path; is_part = whole_part; around = refl; cannot_fill = inr (37001, refl, lit≤ tt) },
  );
}

-- the wide certificate: the middle county alone is dead
end_once : (c : ℕ) → count c (37001 ∷ []) ≤ 1
end_once c = grind (arith, nat_tests)

end_part : IsPart stranding (without (37003 ∷ []) (contains path)) (37001 ∷ [])
end_part = record {
  once = end_once;
  connected = one stranding 37001;
  inside = λ c e. ⊎_elim (λ k. ap (λ z. without (37003 ∷ []) (contains path) z) (sym k)) (λ k. absurd (false≢true k)) (member_cases 37001 [] c e);
  whole = λ x y m r t. ⊎_elim (λ k. absurd (alone y (y == 37003) refl (y == 37001) (y == 37005) r (ap (λ z. stranding.adjacent z y) k ∙ t))) (λ k. absurd (false≢true k)) (member_cases 37001 [] x m);
}
  where
    gone : (y : ℕ) → y ≡ 37003 → without (37003 ∷ []) (contains path) y ≡ true → ⊥
    gone y e r = false≢true (ap (without (37003 ∷ []) (contains path)) (sym e) ∙ r)

    alone : (y : ℕ) → (b : Bool) → (y == 37003) ≡ b → (a c : Bool) → without (37003 ∷ []) (contains path) y ≡ true → ((b || false) || ((a && false) || (b && false))) ≡ true → ⊥
    alone y true e a c r t = gone y (eqb-true y 37003 e) r
    alone y false e true c r t = false≢true t
    alone y false e false c r t = false≢true t

middle_dead : IsDead stranding (empty_state stranding) (37003 ∷ [])
middle_dead = record { part = 37001 ∷ []; is_part = end_part; stuck = inl (λ k s. let r = seat_window k 50 (people_of stranding (37001 ∷ [])) s refl in omega arith) }

none_alone : (g : List ℕ) → IsGroupAt stranding wide_round (empty_state stranding) 37003 1 g → ⊥
none_alone g f =
    ⊎_elim
    (λ e. omega (arith, f.small, ap length (sym e ∙ f.in_order)))
    (λ e. let dead : IsDead stranding (empty_state stranding) g = subst (IsDead stranding (empty_state stranding)) (sym e ∙ f.in_order) middle_dead in f.fits.kept dead)
    (lawful_ones g f.fits.lawful)

nones : AreGroupsAt stranding wide_round (empty_state stranding) 37003 1 []
nones = record { each = λ g. (λ h. absurd (omega (arith, h.1)), λ f. absurd (none_alone g f)); sorted = λ i j d a b. absurd (omega arith) }

-- where the middle county is raised, no group of one or two fits
abbrev raised : State
raised = raise 37003 1 (empty_state stranding)

none_fit : (g : List ℕ) (i : ℕ) → Fits Wide stranding raised g → length g ≡ i → i ≤ 2 → ⊥
none_fit g i f e small =
    let same : Alike g (filter (contains g) path) = in_order_alike path path g order f.lawful.once f.lawful.listed in
    let long = length_alike g (filter (contains g) path) same in
    ⊎_elim
    (λ k. omega (arith, e, small, long, ap length k))
    (λ k. let m : contains g 37003 ≡ true = member_same g (filter (contains g) path) same 37003 ∙ ap (λ z. contains z 37003) k in
    too_small (length g) (omega (arith, long, ap length k)) (f.inside 37003 m))
    (lawful_ones g f.lawful)
  where
    too_small : (n : ℕ) → n ≡ 1 → open_to raised n 37003 ≡ true → ⊥
    too_small n e h = false≢true (ap (λ z. open_to raised z 37003) (sym e) ∙ h)

fair : (i : ℕ) → i ≤ 2 → (g : List ℕ) → Fits Wide stranding raised g → length g ≡ i → 1 ≤ sum_by (weight_of []) g
fair i small g f e = absurd (none_fit g i f e small)

pub wide_certificate : IsCertificate stranding wide_round wide_tree
wide_certificate = record {
  tolerance = refl;
  order = order;
  target = target;
  proof = (
    tt,
    record { small = lit≤ tt; is_open = refl; in_turn = tt },
    nones,
    tt,
    (together, refl, ((lit≤ tt, λ k d h. absurd (omega arith), fair 1 (lit≤ tt)), inl (refl, ((lit≤ tt, λ k d h. absurd (omega arith), fair 2 (lit≤ tt)), inl (refl, (tt, inl (refl, refl))))))),
  );
}

-- a leaf alone, in the wide format
none_at_first : (g : List ℕ) (i : ℕ) → Fits Wide stranding (empty_state stranding) g → length g ≡ i → i ≤ 2 → ⊥
none_at_first g i f e small =
    let same : Alike g (filter (contains g) path) = in_order_alike path path g order f.lawful.once f.lawful.listed in
    let long = length_alike g (filter (contains g) path) same in
    ⊎_elim
    (λ k. omega (arith, e, small, long, ap length k))
    (λ k.
    let dead : IsDead stranding (empty_state stranding) (filter (contains g) path) = subst (IsDead stranding (empty_state stranding)) (sym k) middle_dead in
    f.kept (record { part = dead.part; is_part = without_same stranding (contains path) g (filter (contains g) path) dead.part (λ x. member_same g (filter (contains g) path) same x) dead.is_part; stuck = dead.stuck }))
    (lawful_ones g f.lawful)

fair_at_first : (i : ℕ) → i ≤ 2 → (g : List ℕ) → Fits Wide stranding (empty_state stranding) g → length g ≡ i → 1 ≤ sum_by (weight_of []) g
fair_at_first i small g f e = absurd (none_at_first g i f e small)

pub lone_certificate : IsCertificate stranding wide_round lone_leaf
lone_certificate = record {
  tolerance = refl;
  order = order;
  target = target;
  proof = (together, refl, ((lit≤ tt, λ k d h. absurd (omega arith), fair_at_first 1 (lit≤ tt)), inl (refl, ((lit≤ tt, λ k d h. absurd (omega arith), fair_at_first 2 (lit≤ tt)), inl (refl, (tt, inl (refl, refl)))))));
}

-- in the plain format the middle county alone fits, and weighs nothing
middle_fits : Fits Plain stranding (empty_state stranding) (37003 ∷ [])
middle_fits = record {
  lawful = record {
    once = λ c. at_most c (37003 == c);
    listed = λ c e. ⊎_elim (λ k. ap (contains path) (sym k)) (λ k. absurd (false≢true k)) (member_cases 37003 [] c e);
    connected = one stranding 37003;
    seats = 1;
    suits = record { some_seat = omega arith; enough = lit≤ tt; not_more = lit≤ tt };
  };
  inside = λ c e. ⊎_elim (λ k. ap (λ z. open_to (empty_state stranding) 1 z) (sym k)) (λ k. absurd (false≢true k)) (member_cases 37003 [] c e);
  kept = tt;
}
  where
    at_most : (c : ℕ) → (b : Bool) → indicator b + 0 ≤ 1
    at_most c true = omega arith
    at_most c false = omega arith

pub lone_not_plain : IsCertificate stranding plain_round lone_leaf → ⊥
lone_not_plain c = omega (arith, c.proof.2.0.2 (37003 ∷ []) middle_fits refl)
