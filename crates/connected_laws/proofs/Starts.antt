-- Where the sets from a place begin, and what the extensions of that beginning are.
use Rattle.std.proofs.Common.{◌≡◌, ℕ, zero, suc, ◌≤◌, ◌<◌, Bool, true, false, cond, nat_lt, List, [], ◌∷◌, map, filter, length, refl, sym, ap, ◌∙◌, subst, arith, ◌||◌, ◌==◌}
use Rattle.std.proofs.lemmas.Bool.{eqb-true, eq-eqb, false≢true, ltb-true, ltb-false}
use Rattle.grouping_laws.specs.Sets.{indicator, count, contains}
use Rattle.grouping_laws.specs.Problem.{Problem, Suits, people_of}
use Rattle.grouping_laws.specs.Places.{places_below}
use Rattle.place_sets.specs.PlaceSets.{places_of}
use Rattle.grouping_laws.specs.GroupsFrom.{BeginsWith, IsGroupFrom, IsSetFrom}
use Rattle.grouping_laws.proofs.Fill.{one}
use Rattle.grouping_laws.proofs.Alike.{connected_alike, length_alike}
use Rattle.grouping_laws.proofs.Places.{filter_map_suc}
use Rattle.place_sets.proofs.PlaceSets.{often_in, often_out}
use Rattle.connected_laws.specs.Growing.{IsExtension, IsGrowth, IsStart}
use Rattle.connected_laws.proofs.PlaceLists.{often_placed, placed_below}

-- a list of places begins with the least of them
pub begins_least : (n at : ℕ) (t : ℕ → Bool) → at < n → t at ≡ true → ((x : ℕ) → x < at → t x ≡ false) → BeginsWith at (places_of n t)
begins_least zero at t l e none = absurd (omega arith)
begins_least (suc n) zero t l e none = (filter t (map suc (places_below n)), ap (λ b. cond b (zero ∷ filter t (map suc (places_below n))) (filter t (map suc (places_below n)))) e)
begins_least (suc n) (suc at) t l e none =
    let r : BeginsWith at (places_of n (λ i. t (suc i))) = begins_least n at (λ i. t (suc i)) (omega arith) e (λ x k. none (suc x) (omega arith)) in
    (map suc r.0, ap (λ b. cond b (zero ∷ filter t (map suc (places_below n))) (filter t (map suc (places_below n)))) (none zero (omega arith)) ∙ (filter_map_suc t (places_below n) ∙ ap (map suc) r.1))

-- and what it begins with is the least of them
pub least_begins : (n at : ℕ) (t : ℕ → Bool) → BeginsWith at (places_of n t) → (x : ℕ) → x < n → t x ≡ true → at ≤ x
least_begins zero at t b x l e = absurd (omega arith)
least_begins (suc n) at t b x l e = go (λ z r. least_begins n z (λ i. t (suc i)) r) (t zero) refl (subst (λ z. cond (t zero) (zero ∷ z) z ≡ at ∷ b.0) (filter_map_suc t (places_below n)) b.1) x l e
  where
    head : (u v : ℕ) (us vs : List ℕ) → u ∷ us ≡ v ∷ vs → u ≡ v
    head u v us vs h = cc

    later : ((z : ℕ) → BeginsWith z (places_of n (λ i. t (suc i))) → (y : ℕ) → y < n → t (suc y) ≡ true → z ≤ y) → (ys : List ℕ) → filter (λ i. t (suc i)) (places_below n) ≡ ys → map suc ys ≡ at ∷ b.0 → (y : ℕ) → y < n → t (suc y) ≡ true → at ≤ suc y
    later hyp [] i h y k f = absurd (omega (arith, ap length h))
    later hyp (z ∷ ys) i h y k f =
        let less : z ≤ y = hyp z (ys, i) y k f in
        omega (arith, less, head (suc z) at (map suc ys) b.0 h)

    go : ((z : ℕ) → BeginsWith z (places_of n (λ i. t (suc i))) → (y : ℕ) → y < n → t (suc y) ≡ true → z ≤ y) → (d : Bool) → t zero ≡ d → cond d (zero ∷ map suc (filter (λ i. t (suc i)) (places_below n))) (map suc (filter (λ i. t (suc i)) (places_below n))) ≡ at ∷ b.0 → (x : ℕ) → x < suc n → t x ≡ true → at ≤ x
    go hyp true d h x k f = omega (arith, head zero at (map suc (filter (λ i. t (suc i)) (places_below n))) b.0 h)
    go hyp false d h zero k f = absurd (false≢true (sym d ∙ f))
    go hyp false d h (suc y) k f = later hyp (filter (λ i. t (suc i)) (places_below n)) refl h y (omega arith) f

pub start_alike : (n at : ℕ) (set free : ℕ → Bool) → IsStart n at set free → (x : ℕ) → count x (at ∷ []) ≡ count x (places_of n set)
start_alike n at set free h x = go (at == x) refl
  where
    go : (b : Bool) → (at == x) ≡ b → count x (at ∷ []) ≡ count x (places_of n set)
    go true e =
        let same : at ≡ x = eqb-true at x e in
        omega (arith, ap indicator e, often_in n x set (subst (λ z. z < n) same h.there) (ap set (sym same) ∙ h.set_has))
    go false e = omega (arith, ap indicator e, often_out n x set (not_here (set x) refl))
      where
        not_here : (d : Bool) → set x ≡ d → d ≡ false
        not_here false k = refl
        not_here true k = absurd (false≢true (sym e ∙ eq-eqb at x (sym (h.set_is x k))))

pub start_growth : (p : Problem) (n limit at : ℕ) (set free : ℕ → Bool) → 1 ≤ limit → IsStart n at set free → IsGrowth p n limit set free
start_growth p n limit at set free some h = record {
  connected = connected_alike p (at ∷ []) (places_of n set) (start_alike n at set free h) (one p at);
  small = omega (arith, some, length_alike (at ∷ []) (places_of n set) (start_alike n at set free h));
  below = λ x e. subst (λ z. z < n) (sym (h.set_is x e)) h.there;
  free_below = λ x e. (h.free_later x e).1;
  apart = λ x e. not_free x (h.set_is x e) (free x) refl;
}
  where
    not_free : (x : ℕ) → x ≡ at → (b : Bool) → free x ≡ b → b ≡ false
    not_free x e false k = refl
    not_free x e true k = absurd (omega (arith, e, (h.free_later x k).0))

-- an extension of the start is a connected set from the place
pub set_from : (p : Problem) (n limit at : ℕ) (set free : ℕ → Bool) → IsStart n at set free → (g : List ℕ) → IsExtension p n limit set free g → IsSetFrom p (places_below n) limit at g
set_from p n limit at set free h g x = record {
  connected = x.connected;
  in_order = x.in_order;
  first = subst (λ z. BeginsWith at z) x.in_order (begins_least n at (contains g) h.there (x.has at h.set_has) (λ c l. before c l (contains g c) refl));
  small = x.small;
}
  where
    before : (c : ℕ) → c < at → (b : Bool) → contains g c ≡ b → b ≡ false
    before c l false e = refl
    before c l true e = absurd (cases (set c) refl (free c) refl (x.within c e))
      where
        cases : (a : Bool) → set c ≡ a → (d : Bool) → free c ≡ d → (a || d) ≡ true → ⊥
        cases true i d j o = omega (arith, h.set_is c i, l)
        cases false i true j o = omega (arith, (h.free_later c j).0, l)
        cases false i false j o = false≢true o

-- and a group from it where it suits some number of seats
pub group_from : (p : Problem) (n limit at : ℕ) (set free : ℕ → Bool) → ((x : ℕ) → x < n → contains p.counties x ≡ true) → IsStart n at set free → (g : List ℕ) → IsExtension p n limit set free g → (k : ℕ) → Suits p (people_of p g) k
    → IsGroupFrom p (places_below n) limit at (λ x. true) g
group_from p n limit at set free known h g x k s = record {
  lawful = record { once = λ c. subst (λ z. count c z ≤ 1) x.in_order (often_placed n c (contains g)); listed = λ c e. known c (here c e); connected = x.connected; seats = k; suits = s };
  in_order = x.in_order;
  first = (set_from p n limit at set free h g x).first;
  small = x.small;
  inside = λ c e. refl;
}
  where
    here : (c : ℕ) → contains g c ≡ true → c < n
    here c e = placed_below n c (contains g) (subst (λ z. contains z c ≡ true) (sym x.in_order) e)

-- and each group from the place is one
pub from_group : (p : Problem) (n limit at : ℕ) (set free : ℕ → Bool) → IsStart n at set free → (g : List ℕ) → IsGroupFrom p (places_below n) limit at (λ x. true) g → IsExtension p n limit set free g
from_group p n limit at set free h g x = record {
  in_order = x.in_order;
  connected = x.lawful.connected;
  small = x.small;
  has = λ c e. subst (λ z. contains g z ≡ true) (sym (h.set_is c e)) (head_member g at x.first);
  within = λ c e. cases c e (at == c) refl;
}
  where
    head_member : (g : List ℕ) (c : ℕ) → BeginsWith c g → contains g c ≡ true
    head_member g c b = subst (λ z. contains z c ≡ true) (sym b.1) (ap (λ d. d || contains b.0 c) (eq-eqb c c refl))

    here : (c : ℕ) → contains g c ≡ true → c < n
    here c e = placed_below n c (contains g) (subst (λ z. contains z c ≡ true) (sym x.in_order) e)

    from : (c : ℕ) → contains g c ≡ true → at ≤ c
    from c e = least_begins n at (contains g) (subst (λ z. BeginsWith at z) (sym x.in_order) x.first) c (here c e) e

    or_right : (a b : Bool) → b ≡ true → (a || b) ≡ true
    or_right true b e = refl
    or_right false b e = e

    cases : (c : ℕ) → contains g c ≡ true → (b : Bool) → (at == c) ≡ b → (set c || free c) ≡ true
    cases c e true k = ap (λ z. z || free c) (ap set (sym (eqb-true at c k)) ∙ h.set_has)
    cases c e false k = or_right (set c) (free c) (h.later_free c (after (nat_lt at c) refl) (here c e))
      where
        after : (b : Bool) → nat_lt at c ≡ b → at < c
        after true l = ltb-true at c l
        after false l = absurd (differ k (omega (arith, from c e, ltb-false at c l)))
          where
            differ : (at == c) ≡ false → at ≡ c → ⊥
            differ k i = false≢true (sym k ∙ eq-eqb at c i)
