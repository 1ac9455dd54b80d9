-- One end.
use Rattle.std.proofs.Common.{◌≡◌, ℕ, sym, ap, ◌∙◌, subst, inl, inr}
use Rattle.std.specs.Prelude.{⊤}
use Rattle.checker_laws.specs.Fault.{Fault}
use Rattle.checker_laws.specs.End.{End, fine, faulty, LinesEnd, Then}

abbrev pub OneEnd : (End → Type 0) → Type 0
OneEnd Ends = (x y : End) → Ends x → Ends y → x ≡ y

abbrev next_of : End → ℕ
next_of (fine next) = next
next_of (faulty fault line) = line

abbrev IsFine : End → Type 0
IsFine (fine next) = ⊤
IsFine (faulty fault line) = ⊥

pub fine_same : (a b : ℕ) → fine a ≡ fine b → a ≡ b
fine_same a b e = ap next_of e

pub fine_not : (a : ℕ) (fault : Fault) (line : ℕ) → fine a ≡ faulty fault line → ⊥
fine_not a fault line e = subst IsFine e tt

pub faulty_same : (f g : Fault) (l m : ℕ) → f ≡ g → l ≡ m → faulty f l ≡ faulty g m
faulty_same f g l m e d = cc

pub lines_one : (n : ℕ) (Holds : Type 0) (Fails : Fault → Type 0) (line : ℕ) → ((f : Fault) → Holds → Fails f → ⊥) → ((f g : Fault) → Fails f → Fails g → f ≡ g) → OneEnd (LinesEnd n Holds Fails line)
lines_one n Holds Fails line apart same (fine x) (fine y) h k = ap fine (h.1 ∙ sym k.1)
lines_one n Holds Fails line apart same (fine x) (faulty f l) h k = absurd (apart f h.0 k.0)
lines_one n Holds Fails line apart same (faulty f l) (fine x) h k = absurd (apart f k.0 h.0)
lines_one n Holds Fails line apart same (faulty f l) (faulty g m) h k = faulty_same f g l m (same f g h.0 k.0) (h.1 ∙ sym k.1)

pub then_one : (First : End → Type 0) (Second : ℕ → End → Type 0) → OneEnd First → ((n : ℕ) → First (fine n) → OneEnd (Second n)) → OneEnd (Then First Second)
then_one First Second a b (fine x) (fine y) h k = b h.0 h.1 (fine x) (fine y) h.2 (subst (λ z. Second z (fine y)) (fine_same k.0 h.0 (a (fine k.0) (fine h.0) k.1 h.1)) k.2)
then_one First Second a b (fine x) (faulty f l) h (inl k) = absurd (fine_not h.0 f l (a (fine h.0) (faulty f l) h.1 k))
then_one First Second a b (fine x) (faulty f l) h (inr k) = b h.0 h.1 (fine x) (faulty f l) h.2 (subst (λ z. Second z (faulty f l)) (fine_same k.0 h.0 (a (fine k.0) (fine h.0) k.1 h.1)) k.2)
then_one First Second a b (faulty f l) (fine y) (inl h) k = absurd (fine_not k.0 f l (a (fine k.0) (faulty f l) k.1 h))
then_one First Second a b (faulty f l) (fine y) (inr h) k = b h.0 h.1 (faulty f l) (fine y) h.2 (subst (λ z. Second z (fine y)) (fine_same k.0 h.0 (a (fine k.0) (fine h.0) k.1 h.1)) k.2)
then_one First Second a b (faulty f l) (faulty g m) (inl h) (inl k) = a (faulty f l) (faulty g m) h k
then_one First Second a b (faulty f l) (faulty g m) (inl h) (inr k) = absurd (fine_not k.0 f l (a (fine k.0) (faulty f l) k.1 h))
then_one First Second a b (faulty f l) (faulty g m) (inr h) (inl k) = absurd (fine_not h.0 g m (a (fine h.0) (faulty g m) h.1 k))
then_one First Second a b (faulty f l) (faulty g m) (inr h) (inr k) = b h.0 h.1 (faulty f l) (faulty g m) h.2 (subst (λ z. Second z (faulty g m)) (fine_same k.0 h.0 (a (fine k.0) (fine h.0) k.1 h.1)) k.2)

abbrev line_of : End → ℕ
line_of (fine next) = next
line_of (faulty fault line) = line

pub line_same : (f g : Fault) (l m : ℕ) → faulty f l ≡ faulty g m → l ≡ m
line_same f g l m e = ap line_of e
