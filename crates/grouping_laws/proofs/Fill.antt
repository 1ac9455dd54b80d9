-- How connected sets are grown and compared.
use Rattle.std.proofs.Common.{◌≡◌, ℕ, Bool, true, false, ◌||◌, ◌==◌, List, [], ◌∷◌, refl, sym, ap, ◌∙◌, arith, ◌⊎◌, inl, inr, ⊎_elim}
use Rattle.std.proofs.lemmas.Bool.{eqb-true, false≢true}
use Rattle.grouping_laws.specs.Sets.{contains, SameSet}
use Rattle.grouping_laws.specs.Problem.{Problem, Connected, HasBorder}
use Rattle.grouping_laws.specs.Parts.{IsPart}
use Rattle.grouping_laws.specs.Fill.{SetsGrow}
use Rattle.grouping_laws.proofs.Alike.{lawful_alike, alike_from_same}
use Rattle.grouping_laws.proofs.Parts.{member_head, member_tail, within_part, has_hit}

-- two lists with each other's codes
pub same_from : (xs ys : List ℕ) → ((y : ℕ) → contains ys y ≡ true → contains xs y ≡ true) → ((y : ℕ) → contains xs y ≡ true → contains ys y ≡ true) → SameSet xs ys
same_from xs ys f g c = go (contains xs c) refl (contains ys c) refl
  where
    go : (a : Bool) → contains xs c ≡ a → (b : Bool) → contains ys c ≡ b → a ≡ b
    go true e true k = refl
    go true e false k = absurd (false≢true (sym k ∙ g c e))
    go false e true k = absurd (false≢true (sym e ∙ f c k))
    go false e false k = refl

member_one : (c x : ℕ) → contains (c ∷ []) x ≡ true → c ≡ x
member_one c x e = go (c == x) refl e
  where
    go : (b : Bool) → (c == x) ≡ b → (b || false) ≡ true → c ≡ x
    go true k o = eqb-true c x k
    go false k o = absurd (false≢true o)

pub one : (p : Problem) (c : ℕ) → Connected p (c ∷ [])
one p c = record {
  some_county = omega arith;
  joined = λ part q. absurd (false≢true (sym q.5 ∙ (ap part (sym (member_one c q.1 q.3) ∙ member_one c q.0 q.2) ∙ q.4)));
}

pub member_cases : (c : ℕ) (codes : List ℕ) (x : ℕ) → contains (c ∷ codes) x ≡ true → (c ≡ x) ⊎ (contains codes x ≡ true)
member_cases c codes x e = go (c == x) refl e
  where
    go : (b : Bool) → (c == x) ≡ b → (b || contains codes x) ≡ true → (c ≡ x) ⊎ (contains codes x ≡ true)
    go true k o = inl (eqb-true c x k)
    go false k o = inr o

wider : (p : Problem) (c : ℕ) (codes : List ℕ) (part : ℕ → Bool) → HasBorder p codes part → HasBorder p (c ∷ codes) part
wider p c codes part r = (r.0, r.1, member_tail c codes r.0 r.2, member_tail c codes r.1 r.3, r.4, r.5, r.6)

pub grown : (p : Problem) → ((x y : ℕ) → p.adjacent x y ≡ true → p.adjacent y x ≡ true) → (codes : List ℕ) (x c : ℕ) → Connected p codes → contains codes x ≡ true → p.adjacent x c ≡ true → Connected p (c ∷ codes)
grown p symmetric codes x c connected m touch = record { some_county = omega arith; joined = λ part q. go part q.0 q.1 q.2 q.4 q.3 q.5 (part x) refl (part c) refl }
  where
    go : (part : ℕ → Bool) (a b : ℕ) → contains (c ∷ codes) a ≡ true → part a ≡ true → contains (c ∷ codes) b ≡ true → part b ≡ false → (d : Bool) → part x ≡ d → (e : Bool) → part c ≡ e → HasBorder p (c ∷ codes) part
    go part a b ma pa mb pb true px false pc = (x, c, member_tail c codes x m, member_head c codes, px, pc, touch)
    go part a b ma pa mb pb false px true pc = (c, x, member_head c codes, member_tail c codes x m, pc, px, symmetric x c touch)
    go part a b ma pa mb pb true px true pc =
        ⊎_elim (λ e. absurd (false≢true (sym pb ∙ (ap part (sym e) ∙ pc)))) (λ h. wider p c codes part (connected.joined part (x, b, m, h, px, pb))) (member_cases c codes b mb)
    go part a b ma pa mb pb false px false pc =
        ⊎_elim (λ e. absurd (false≢true (sym pc ∙ (ap part e ∙ pa)))) (λ h. wider p c codes part (connected.joined part (a, x, h, m, pa, px))) (member_cases c codes a ma)

pub whole : (p : Problem) (part codes : List ℕ) (x : ℕ) → Connected p codes → IsPart p (contains codes) part → contains part x ≡ true → SameSet part codes
whole p part codes x connected is m =
    same_from part codes (within_part p (contains codes) part codes is (λ c e. e) connected (has_hit part codes x (is.inside x m) m)) is.inside

pub sets_grow : SetsGrow
sets_grow = record {
  one = one;
  grown = grown;
  whole = whole;
  same_set = λ p xs ys l o s. lawful_alike p xs ys (alike_from_same xs ys l.once o s) l;
}
