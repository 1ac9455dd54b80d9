-- A grouping has one first fault.
use Rattle.std.proofs.Common.{◌≡◌, ◌≢◌, ℕ, suc, List, [], ◌∷◌, ◌++◌, length, Option, Some, None, refl, sym, ap, ◌∙◌, subst, arith, inl, inr, All}
use Rattle.std.specs.Prelude.{⊤}
use Rattle.std.proofs.lemmas.Bool.{false≢true}
use Rattle.county_codes.specs.declared.group.Group.{Group}
use Rattle.county_problem.specs.declared.grouping_fault.GroupingFault.{GroupingFault}
use Rattle.county_problem.specs.declared.grouping_fault.GroupingFault.TheVariants.{EmptyGroup, UnknownCounty, Twice, Missing, NotConnected, OutOfWindow, SeatsTotal, Memory}
use Rattle.grouping_laws.specs.Problem.{Problem, Suits, people_of, Connected}
use Rattle.grouping_laws.specs.Grouping.{Grouping}
use Rattle.county_problem.specs.Building.{first_repeated}
use Rattle.county_problem.specs.Judging.{first_empty_group, first_unknown, codes_read, IsLeastMissing, IsFirstNot, NoneEmpty, AllKnown, NoneTwice, NoneMissing, IsFault}
use Rattle.grouping_laws.proofs.Elements.{Has, has_all, all_from_has, has_right}

abbrev IsSomething : {X : Type 0} → Option X → Type 0
IsSomething None = ⊥
IsSomething (Some x) = ⊤

abbrev or_else : {X : Type 0} → X → Option X → X
or_else x None = x
or_else x (Some y) = y

pub some_same : {X : Type 0} (x y : X) → Some x ≡ Some y → x ≡ y
some_same x y e = ap (or_else x) e

pub some_not_none : {X : Type 0} (x : X) → Some x ≡ None → ⊥
some_not_none x e = subst IsSomething e tt

abbrev first_or : Group → List Group → Group
first_or x [] = x
first_or x (y ∷ ys) = y

abbrev others_of : List Group → List Group
others_of [] = []
others_of (y ∷ ys) = ys

all_others : (P : Group → Type 0) (x : Group) (xs : List Group) → All P (x ∷ xs) → All P xs
all_others P x xs all = all_from_has P xs (λ y h. has_all P (x ∷ xs) all y (inr h))

firsts_one : (P : Group → Type 0) (b d : Grouping) (x y : Group) (a c : Grouping) → b ++ x ∷ a ≡ d ++ y ∷ c → All P b → ¬ P x → All P d → ¬ P y → length b ≡ length d
firsts_one P [] [] x y a c e ab nx ad ny = refl
firsts_one P [] (z ∷ d) x y a c e ab nx ad ny = absurd (nx (subst P (sym (ap (first_or x) e)) (has_all P (z ∷ d) ad z (inl refl))))
firsts_one P (z ∷ b) [] x y a c e ab nx ad ny = absurd (ny (subst P (ap (first_or y) e) (has_all P (z ∷ b) ab z (inl refl))))
firsts_one P (z ∷ b) (w ∷ d) x y a c e ab nx ad ny = ap suc (firsts_one P b d x y a c (ap others_of e) (all_others P z b ab) nx (all_others P w d ad) ny)

first_one : (P : Group → Type 0) (g : Grouping) (m n : ℕ) → IsFirstNot P g m → IsFirstNot P g n → m ≡ n
first_one P g m n h k =
    omega (arith, h.number, k.number, firsts_one P h.before k.before h.group k.group h.after k.after (sym h.split ∙ k.split) h.holds_before h.fails k.holds_before k.fails)

first_fails : (P : Group → Type 0) (g : Grouping) (n : ℕ) → IsFirstNot P g n → All P g → ⊥
first_fails P g n f all = f.fails (has_all P g all f.group (subst (λ z. Has z f.group) (sym f.split) (has_right f.before (f.group ∷ f.after) f.group (inl refl))))

seats_fault_same : (a b c d : ℕ) → a ≡ b → c ≡ d → SeatsTotal a c ≡ SeatsTotal b d
seats_fault_same a b c d e f = cc

empty_fails : (g : Grouping) (n : ℕ) → first_empty_group g ≡ Some n → NoneEmpty g → ⊥
empty_fails g n h k = some_not_none n (sym h ∙ k)

unknown_fails : (p : Problem) (g : Grouping) (n c : ℕ) → first_unknown p.counties 1 g ≡ Some (n, c) → AllKnown p g → ⊥
unknown_fails p g n c h k = some_not_none (n, c) (sym h ∙ k.1)

twice_fails : (p : Problem) (g : Grouping) (c : ℕ) → first_repeated (codes_read g) ≡ Some c → NoneTwice p g → ⊥
twice_fails p g c h k = some_not_none c (sym h ∙ k.1)

missing_fails : (p : Problem) (g : Grouping) (c : ℕ) → IsLeastMissing p g c → NoneMissing p g → ⊥
missing_fails p g c h k = false≢true (sym h.missing ∙ k.1 c h.listed)

pub fault_one : (p : Problem) (g : Grouping) (x y : GroupingFault) → IsFault p g x → IsFault p g y → x ≢ Memory → y ≢ Memory → x ≡ y
fault_one p g (EmptyGroup a0) (EmptyGroup b0) h k m n = ap EmptyGroup (some_same a0 b0 (sym h ∙ k))
fault_one p g (EmptyGroup a0) (UnknownCounty b0 b1) h k m n = absurd (empty_fails g a0 h (k.0))
fault_one p g (EmptyGroup a0) (Twice b0) h k m n = absurd (empty_fails g a0 h (k.0.0))
fault_one p g (EmptyGroup a0) (Missing b0) h k m n = absurd (empty_fails g a0 h (k.0.0.0))
fault_one p g (EmptyGroup a0) (NotConnected b0) h k m n = absurd (empty_fails g a0 h (k.0.0.0.0))
fault_one p g (EmptyGroup a0) (OutOfWindow b0) h k m n = absurd (empty_fails g a0 h (k.0.0.0.0.0))
fault_one p g (EmptyGroup a0) (SeatsTotal b0 b1) h k m n = absurd (empty_fails g a0 h (k.0.0.0.0.0.0))
fault_one p g (EmptyGroup a0) Memory h k m n = absurd (n refl)
fault_one p g (UnknownCounty a0 a1) (EmptyGroup b0) h k m n = absurd (empty_fails g b0 k (h.0))
fault_one p g (UnknownCounty a0 a1) (UnknownCounty b0 b1) h k m n = let e : (a0, a1) ≡ (b0, b1) = some_same (a0, a1) (b0, b1) (sym h.1 ∙ k.1) in ap (λ (z : ℕ × ℕ). UnknownCounty z.0 z.1) e
fault_one p g (UnknownCounty a0 a1) (Twice b0) h k m n = absurd (unknown_fails p g a0 a1 h.1 (k.0))
fault_one p g (UnknownCounty a0 a1) (Missing b0) h k m n = absurd (unknown_fails p g a0 a1 h.1 (k.0.0))
fault_one p g (UnknownCounty a0 a1) (NotConnected b0) h k m n = absurd (unknown_fails p g a0 a1 h.1 (k.0.0.0))
fault_one p g (UnknownCounty a0 a1) (OutOfWindow b0) h k m n = absurd (unknown_fails p g a0 a1 h.1 (k.0.0.0.0))
fault_one p g (UnknownCounty a0 a1) (SeatsTotal b0 b1) h k m n = absurd (unknown_fails p g a0 a1 h.1 (k.0.0.0.0.0))
fault_one p g (UnknownCounty a0 a1) Memory h k m n = absurd (n refl)
fault_one p g (Twice a0) (EmptyGroup b0) h k m n = absurd (empty_fails g b0 k (h.0.0))
fault_one p g (Twice a0) (UnknownCounty b0 b1) h k m n = absurd (unknown_fails p g b0 b1 k.1 (h.0))
fault_one p g (Twice a0) (Twice b0) h k m n = ap Twice (some_same a0 b0 (sym h.1 ∙ k.1))
fault_one p g (Twice a0) (Missing b0) h k m n = absurd (twice_fails p g a0 h.1 (k.0))
fault_one p g (Twice a0) (NotConnected b0) h k m n = absurd (twice_fails p g a0 h.1 (k.0.0))
fault_one p g (Twice a0) (OutOfWindow b0) h k m n = absurd (twice_fails p g a0 h.1 (k.0.0.0))
fault_one p g (Twice a0) (SeatsTotal b0 b1) h k m n = absurd (twice_fails p g a0 h.1 (k.0.0.0.0))
fault_one p g (Twice a0) Memory h k m n = absurd (n refl)
fault_one p g (Missing a0) (EmptyGroup b0) h k m n = absurd (empty_fails g b0 k (h.0.0.0))
fault_one p g (Missing a0) (UnknownCounty b0 b1) h k m n = absurd (unknown_fails p g b0 b1 k.1 (h.0.0))
fault_one p g (Missing a0) (Twice b0) h k m n = absurd (twice_fails p g b0 k.1 (h.0))
fault_one p g (Missing a0) (Missing b0) h k m n = ap Missing (omega (arith, h.1.least b0 k.1.listed k.1.missing, k.1.least a0 h.1.listed h.1.missing))
fault_one p g (Missing a0) (NotConnected b0) h k m n = absurd (missing_fails p g a0 h.1 (k.0))
fault_one p g (Missing a0) (OutOfWindow b0) h k m n = absurd (missing_fails p g a0 h.1 (k.0.0))
fault_one p g (Missing a0) (SeatsTotal b0 b1) h k m n = absurd (missing_fails p g a0 h.1 (k.0.0.0))
fault_one p g (Missing a0) Memory h k m n = absurd (n refl)
fault_one p g (NotConnected a0) (EmptyGroup b0) h k m n = absurd (empty_fails g b0 k (h.0.0.0.0))
fault_one p g (NotConnected a0) (UnknownCounty b0 b1) h k m n = absurd (unknown_fails p g b0 b1 k.1 (h.0.0.0))
fault_one p g (NotConnected a0) (Twice b0) h k m n = absurd (twice_fails p g b0 k.1 (h.0.0))
fault_one p g (NotConnected a0) (Missing b0) h k m n = absurd (missing_fails p g b0 k.1 (h.0))
fault_one p g (NotConnected a0) (NotConnected b0) h k m n = ap NotConnected (first_one (λ s. Connected p s.codes) g a0 b0 h.1 k.1)
fault_one p g (NotConnected a0) (OutOfWindow b0) h k m n = absurd (first_fails (λ s. Connected p s.codes) g a0 h.1 (k.0).1)
fault_one p g (NotConnected a0) (SeatsTotal b0 b1) h k m n = absurd (first_fails (λ s. Connected p s.codes) g a0 h.1 (k.0.0).1)
fault_one p g (NotConnected a0) Memory h k m n = absurd (n refl)
fault_one p g (OutOfWindow a0) (EmptyGroup b0) h k m n = absurd (empty_fails g b0 k (h.0.0.0.0.0))
fault_one p g (OutOfWindow a0) (UnknownCounty b0 b1) h k m n = absurd (unknown_fails p g b0 b1 k.1 (h.0.0.0.0))
fault_one p g (OutOfWindow a0) (Twice b0) h k m n = absurd (twice_fails p g b0 k.1 (h.0.0.0))
fault_one p g (OutOfWindow a0) (Missing b0) h k m n = absurd (missing_fails p g b0 k.1 (h.0.0))
fault_one p g (OutOfWindow a0) (NotConnected b0) h k m n = absurd (first_fails (λ s. Connected p s.codes) g b0 k.1 (h.0).1)
fault_one p g (OutOfWindow a0) (OutOfWindow b0) h k m n = ap OutOfWindow (first_one (λ s. Suits p (people_of p s.codes) s.seats) g a0 b0 h.1 k.1)
fault_one p g (OutOfWindow a0) (SeatsTotal b0 b1) h k m n = absurd (first_fails (λ s. Suits p (people_of p s.codes) s.seats) g a0 h.1 (k.0).1)
fault_one p g (OutOfWindow a0) Memory h k m n = absurd (n refl)
fault_one p g (SeatsTotal a0 a1) (EmptyGroup b0) h k m n = absurd (empty_fails g b0 k (h.0.0.0.0.0.0))
fault_one p g (SeatsTotal a0 a1) (UnknownCounty b0 b1) h k m n = absurd (unknown_fails p g b0 b1 k.1 (h.0.0.0.0.0))
fault_one p g (SeatsTotal a0 a1) (Twice b0) h k m n = absurd (twice_fails p g b0 k.1 (h.0.0.0.0))
fault_one p g (SeatsTotal a0 a1) (Missing b0) h k m n = absurd (missing_fails p g b0 k.1 (h.0.0.0))
fault_one p g (SeatsTotal a0 a1) (NotConnected b0) h k m n = absurd (first_fails (λ s. Connected p s.codes) g b0 k.1 (h.0.0).1)
fault_one p g (SeatsTotal a0 a1) (OutOfWindow b0) h k m n = absurd (first_fails (λ s. Suits p (people_of p s.codes) s.seats) g b0 k.1 (h.0).1)
fault_one p g (SeatsTotal a0 a1) (SeatsTotal b0 b1) h k m n = seats_fault_same a0 b0 a1 b1 (h.1 ∙ sym k.1) (h.2 ∙ sym k.2)
fault_one p g (SeatsTotal a0 a1) Memory h k m n = absurd (n refl)
fault_one p g Memory y h k m n = absurd (m refl)
