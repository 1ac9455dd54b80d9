-- What a set of pairs, listed in its order, has.
use Rattle.std.proofs.Common.{◌≡◌, ℕ, ◌<◌, ◌↔◌, ◌==◌, ◌&&◌, ◌⊎◌, inl, inr, ⊎_elim, nat_lt, Bool, true, List, Contains, filter, refl, sym, ap, ◌∙◌, subst}
use Rattle.std.proofs.Math.Bool.{and_comm}
use Rattle.std.specs.List.{list_any}
use Rattle.std.specs.Ordering.{is_eq}
use Rattle.std.proofs.lemmas.Bool.{and_parts, and_from, or_cases}
use Rattle.std.proofs.lemmas.Bool.Decides.{Decides-eqb, Decides-ltb}
use Rattle.std.proofs.lemmas.List.Folds.{list_any_at, Any-from_list_any}
use Rattle.std.proofs.lemmas.Map.Views.{Contains-from_any, any-filter_same}
use Rattle.county_problem.specs.ProblemValue.{names_both}
use Rattle.adjacency_reader.specs.Pairs.{by_codes, names}
use Rattle.adjacency_reader.proofs.PairLemmas.{tied}

-- an item that is contained settles a test that it passes
pub any_from_contained : {X : Type 0} (test : X → Bool) (xs : List X) (x : X) → Contains xs x → test x ≡ true → list_any test xs ≡ true
any_from_contained test xs x there passes = list_any_at test xs there.0 x there.1 (ap test there.2 ∙ passes)

-- a pair of the same two numbers is the same pair
same_pair : (p q : ℕ × ℕ) → p.0 ≡ q.0 → p.1 ≡ q.1 → p ≡ q
same_pair p q first second = ap (λ (x : ℕ). (x, p.1)) first ∙ ap (λ (y : ℕ). (q.0, y)) second

same_codes : (p q : ℕ × ℕ) → is_eq (by_codes p q) ≡ true → p ≡ q
same_codes p q test =
    let parts = and_parts (p.0 == q.0) (p.1 == q.1) (sym (tied p q) ∙ test) in
    same_pair p q ((Decides-eqb p.0 q.0).0 parts.0) ((Decides-eqb p.1 q.1).0 parts.1)

itself : (p : ℕ × ℕ) → is_eq (by_codes p p) ≡ true
itself p = tied p p ∙ and_from (p.0 == p.0) (p.1 == p.1) ((Decides-eqb p.0 p.0).1 refl) ((Decides-eqb p.1 p.1).1 refl)

-- a pair is in a list where a comparison with it finds one
pub listed_from_found : (keys : List (ℕ × ℕ)) (p : ℕ × ℕ) → list_any (λ k. is_eq (by_codes p k)) keys ≡ true → Contains keys p
listed_from_found keys p found = Contains-from_any {eq = λ (q k : ℕ × ℕ). is_eq (by_codes q k)} same_codes p keys found

pub found_from_listed : (keys : List (ℕ × ℕ)) (p : ℕ × ℕ) → Contains keys p → list_any (λ k. is_eq (by_codes p k)) keys ≡ true
found_from_listed keys p there = any_from_contained (λ (k : ℕ × ℕ). is_eq (by_codes p k)) keys p there (itself p)

-- a pair is in a list where it is in order and a test holds of it, if that is what finding it says
pub listed_where : (keys : List (ℕ × ℕ)) (a b : ℕ) (holds : Bool) → list_any (λ k. is_eq (by_codes (a, b) k)) keys ≡ (nat_lt a b && holds)
    → Contains keys (a, b) ↔ ((a < b) × (holds ≡ true))
listed_where keys a b holds is = (
  λ (there : Contains keys (a, b)). let parts = and_parts (nat_lt a b) holds (sym is ∙ found_from_listed keys (a, b) there) in ((Decides-ltb a b).0 parts.0, parts.1),
  λ (both : (a < b) × (holds ≡ true)). listed_from_found keys (a, b) (is ∙ and_from (nat_lt a b) holds ((Decides-ltb a b).1 both.0) both.1),
)

-- a row names both codes where it is the one pair of them or the other
named_rows : (a b : ℕ) (q : ℕ × ℕ) → names a b q ≡ true → (q ≡ (a, b)) ⊎ (q ≡ (b, a))
named_rows a b q test = ⊎_elim
    (λ (s : (q.0 == a && q.1 == b) ≡ true). inl (let parts = and_parts (q.0 == a) (q.1 == b) s in same_pair q (a, b) ((Decides-eqb q.0 a).0 parts.0) ((Decides-eqb q.1 b).0 parts.1)))
    (λ (t : (q.0 == b && q.1 == a) ≡ true). inr (let parts = and_parts (q.0 == b) (q.1 == a) t in same_pair q (b, a) ((Decides-eqb q.0 b).0 parts.0) ((Decides-eqb q.1 a).0 parts.1)))
    (or_cases (q.0 == a && q.1 == b) (q.0 == b && q.1 == a) test)

pub pair_from_named : (rows : List (ℕ × ℕ)) (a b : ℕ) → names_both rows a b ≡ true → Contains rows (a, b) ⊎ Contains rows (b, a)
pair_from_named rows a b named =
    let some = Any-from_list_any (names a b) rows named in
    let there : Contains rows some.1 = (some.0, some.2, some.3) in
    ⊎_elim
    (λ (s : some.1 ≡ (a, b)). inl (subst (λ (q : ℕ × ℕ). Contains rows q) s there))
    (λ (t : some.1 ≡ (b, a)). inr (subst (λ (q : ℕ × ℕ). Contains rows q) t there))
    (named_rows a b some.1 some.4)

-- of rows of two codes that pass a test, some names two codes where both pass and some row names them
pub named_among : (test : ℕ → Bool) (rows : List (ℕ × ℕ)) (a b : ℕ) → names_both (filter (λ q. test q.0 && test q.1) rows) a b ≡ ((test a && test b) && names_both rows a b)
named_among test rows a b = any-filter_same (names a b) (λ (q : ℕ × ℕ). test q.0 && test q.1) (test a && test b) same rows
  where
    same : (q : ℕ × ℕ) → names a b q ≡ true → (test q.0 && test q.1) ≡ (test a && test b)
    same q named = ⊎_elim
        (λ (s : q ≡ (a, b)). ap (λ (p : ℕ × ℕ). test p.0 && test p.1) s)
        (λ (t : q ≡ (b, a)). ap (λ (p : ℕ × ℕ). test p.0 && test p.1) t ∙ and_comm (test b) (test a))
        (named_rows a b q named)
