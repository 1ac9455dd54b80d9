-- A set's codes against a list, one place after another.
use Rattle.std.proofs.Common.{◌≡◌, ℕ, zero, suc, ◌+◌, ◌-◌, ◌≤◌, ◌<◌, Bool, true, false, cond, Option, Some, None, is_none, IsTrue, Contains, List, [], ◌∷◌, ◌++◌, drop, get_or, length, refl, sym, ap, ◌∙◌, subst, arith, map, ◌↔◌}
use Rattle.std.specs.List.{slice_get}
use Rattle.std.proofs.lemmas.Bool.{false≢true}
use Rattle.std.proofs.lemmas.List.{append_assoc, append-nil, append_cancel_left, map-append, length-append, drop_more, drop_all, length-map, get_or-map}
use Rattle.grouping_laws.specs.Places.{codes_at}
use Rattle.place_sets.specs.PlaceSets.{places_of, IsNext}
use Rattle.place_sets.proofs.PlaceSums.{places_step}
use Rattle.county_problem.specs.OrderedValue.{code_at}
use Rattle.checker_laws.specs.Branches as branches

-- no place from one to another
gap : (t : ℕ → Bool) (from k : ℕ) → ((x : ℕ) → from ≤ x → x < from + k → t x ≡ false) → places_of (from + k) t ≡ places_of from t
gap t from zero none = ap (λ z. places_of z t) (omega arith)
gap t from (suc k) none =
    let e : from + suc k ≡ (from + k) + 1 = omega arith in
    ap (λ z. places_of z t) e
    ∙ (places_step t (from + k)
    ∙ (ap (λ b. places_of (from + k) t ++ cond b ((from + k) ∷ []) []) (none (from + k) (omega arith) (omega arith))
    ∙ (append-nil (places_of (from + k) t) ∙ gap t from k (λ x l m. none x l (omega (arith, m))))))

upto : (t : ℕ → Bool) (from n : ℕ) → from ≤ n → ((x : ℕ) → from ≤ x → x < n → t x ≡ false) → places_of n t ≡ places_of from t
upto t from n l none =
    let e : from + (n - from) ≡ n = omega (arith, l) in
    subst (λ z. places_of z t ≡ places_of from t) e (gap t from (n - from) (λ x a b. none x a (omega (arith, b, l))))

-- the places before one stand first
split : (t : ℕ → Bool) (from k : ℕ) → (rest : List ℕ) × (places_of (from + k) t ≡ places_of from t ++ rest)
split t from zero = ([], ap (λ z. places_of z t) (omega arith) ∙ sym (append-nil (places_of from t)))
split t from (suc k) =
    let r = split t from k in
    let e : from + suc k ≡ (from + k) + 1 = omega arith in
    let last = cond (t (from + k)) ((from + k) ∷ []) [] in
    (r.0 ++ last, ap (λ z. places_of z t) e ∙ (places_step t (from + k) ∙ (ap (λ z. z ++ last) r.1 ∙ append_assoc (places_of from t) r.0 last)))

module _ (order : List ℕ) (t : ℕ → Bool) (n from : ℕ) (within : from ≤ n) where
  -- where no place is left, the codes are whole
  codes_whole : ((x : ℕ) → from ≤ x → t x ≡ false) → codes_at order (places_of n t) ≡ codes_at order (places_of from t)
  codes_whole none = ap (codes_at order) (upto t from n within (λ x a b. none x a))

  up_to_next : (c : ℕ) → from ≤ c → t c ≡ true → ((x : ℕ) → from ≤ x → x < c → t x ≡ false) → places_of (c + 1) t ≡ places_of from t ++ c ∷ []
  up_to_next c l e none = places_step t c ∙ (ap (λ b. places_of c t ++ cond b (c ∷ []) []) e ∙ ap (λ z. z ++ c ∷ []) (upto t from c l none))

  -- the next place's code stands behind those before
  codes_next : (c : ℕ) → from ≤ c → t c ≡ true → ((x : ℕ) → from ≤ x → x < c → t x ≡ false) → c < n → (rest : List ℕ) × (codes_at order (places_of n t) ≡ codes_at order (places_of from t) ++ code_at order c ∷ rest)
  codes_next c l e none below =
      let r = split t (c + 1) (n - (c + 1)) in
      let whole : (c + 1) + (n - (c + 1)) ≡ n = omega (arith, below) in (
        codes_at order r.0,
        sym (ap (λ z. codes_at order (places_of z t)) whole)
            ∙ (ap (codes_at order) r.1
            ∙ (map-append (code_at order) (places_of (c + 1) t) r.0
            ∙ (ap (λ z. codes_at order z ++ codes_at order r.0) (up_to_next c l e none)
            ∙ (ap (λ z. z ++ codes_at order r.0) (map-append (code_at order) (places_of from t) (c ∷ []))
            ∙ append_assoc (codes_at order (places_of from t)) (code_at order c ∷ []) (codes_at order r.0))))),
      )

  -- no place is left for a code
  pub too_few : (codes : List ℕ) (i code : ℕ) → codes_at order (places_of from t) ++ drop i codes ≡ codes → i < length codes → ((x : ℕ) → from ≤ x → t x ≡ false) → codes_at order (places_of n t) ≡ codes → ⊥
  too_few codes i code same l none e =
      let first = codes_at order (places_of from t) in
      let more : drop i codes ≡ _ = drop_more codes i code l in
      absurd (omega (arith, ap length same, length-append first (drop i codes), ap length more, ap length (sym (codes_whole none) ∙ e)))

  -- the next place has another code
  pub other_code : (codes : List ℕ) (i code c : ℕ) → codes_at order (places_of from t) ++ drop i codes ≡ codes → i < length codes → code ≡ get_or codes i code
      → from ≤ c → t c ≡ true → ((x : ℕ) → from ≤ x → x < c → t x ≡ false) → c < n → codes_at order (places_of n t) ≡ codes → code_at order c ≡ code
  other_code codes i code c same l at a b none below e =
      let first = codes_at order (places_of from t) in
      let r = codes_next c a b none below in
      head (append_cancel_left first (code_at order c ∷ r.0) (code ∷ drop (i + 1) codes)
      (sym r.1 ∙ (e ∙ (sym same ∙ ap (λ z. first ++ z) (drop_more codes i code l ∙ ap (λ z. z ∷ drop (i + 1) codes) (sym at))))))
    where
      head : {xs ys : List ℕ} {x y : ℕ} → x ∷ xs ≡ y ∷ ys → x ≡ y
      head k = cc

  -- no code is left
  pub none_more : (codes : List ℕ) (i : ℕ) (next : Option ℕ) → codes_at order (places_of from t) ++ drop i codes ≡ codes → length codes ≤ i → IsNext t from next → ((c : ℕ) → t c ≡ true → c < n)
      → IsTrue (is_none next) ↔ (codes_at order (places_of n t) ≡ codes)
  none_more codes i next same l is below = go next is
    where
      first : codes_at order (places_of from t) ≡ codes
      first = sym (append-nil (codes_at order (places_of from t))) ∙ (ap (λ z. codes_at order (places_of from t) ++ z) (sym (drop_all i codes l)) ∙ same)

      go : (next : Option ℕ) → IsNext t from next → IsTrue (is_none next) ↔ (codes_at order (places_of n t) ≡ codes)
      go None is = (λ k. codes_whole is ∙ first, λ k. refl)
      go (Some c) is =
          let r = codes_next c is.0 is.1 is.2 (below c is.1) in
          (λ k. absurd (false≢true k), λ k. absurd (omega (arith, ap length (sym r.1 ∙ (k ∙ sym first)), length-append (codes_at order (places_of from t)) (code_at order c ∷ r.0))))

-- one more code is the next place's
pub compared : (order : List ℕ) (t : ℕ → Bool) (from i code c next : ℕ) (codes : List ℕ) → codes_at order (places_of from t) ++ drop i codes ≡ codes → i < length codes → code ≡ get_or codes i code
    → from ≤ c → t c ≡ true → ((x : ℕ) → from ≤ x → x < c → t x ≡ false) → code_at order c ≡ code → next ≡ c + 1 → codes_at order (places_of next t) ++ drop (i + 1) codes ≡ codes
compared order t from i code c next codes same l at a b none is e =
    let first = codes_at order (places_of from t) in
    ap (λ z. codes_at order (places_of z t) ++ drop (i + 1) codes) e
    ∙ (ap (λ z. codes_at order z ++ drop (i + 1) codes) (places_step t c ∙ (ap (λ z. places_of c t ++ cond z (c ∷ []) []) b ∙ ap (λ z. z ++ c ∷ []) (upto t from c a none)))
    ∙ (ap (λ z. z ++ drop (i + 1) codes) (map-append (code_at order) (places_of from t) (c ∷ []))
    ∙ (append_assoc first (code_at order c ∷ []) (drop (i + 1) codes)
    ∙ (ap (λ z. first ++ z ∷ drop (i + 1) codes) (is ∙ at)
    ∙ (ap (λ z. first ++ z) (sym (drop_more codes i code l)) ∙ same)))))

-- all sets have other codes
pub none_listed : {X : Type 0} (f : X → List ℕ) (xs : List X) (codes : List ℕ) → ((k : ℕ) (d : X) → k < length xs → f (get_or xs k d) ≡ codes → ⊥) → Contains (map f xs) codes → ⊥
none_listed f [] codes none h = absurd (omega (arith, h.1))
none_listed f (x ∷ xs) codes none h =
    let l : h.0 < length (x ∷ xs) = omega (arith, h.1, length-map (x ∷ xs) f) in
    none h.0 x l (sym (get_or-map f (x ∷ xs) h.0 x codes l) ∙ h.2)

-- the first set has other codes, or there is none
pub none_next : {X : Type 0} (f : X → List ℕ) (xs : List X) (codes : List ℕ) → ((x : X) → slice_get xs 0 ≡ Some x → f x ≡ codes → ⊥) → branches.IsNextTake (map f xs) codes → ⊥
none_next f [] codes other h = h
none_next f (x ∷ xs) codes other h = other x refl h
