-- Lists of groups, one for each size from a first one on, and one list more.
use Rattle.std.proofs.Common.{◌≡◌, ℕ, ◌+◌, Bool, List, [], ◌∷◌, ◌++◌, map, length, subst, sym, arith}
use Rattle.grouping_laws.specs.Problem.{Problem}
use Rattle.certificate_data.specs.Round.{Round}
use Rattle.certificate_laws.specs.State.{State}
use Rattle.bound_proofs.specs.CountLeaves.{IsListOf, AreListsFrom}

-- the lists with that of the next size behind them
pub lists_more : {C V : Type 0} (f : V → List C) (test : C → ℕ → Bool) (order : List ℕ) (p : Problem) (round : Round) (s : State) (i : ℕ) (lists : List V) (more : V) → AreListsFrom test order p round s i (map f lists)
    → IsListOf test order p round s (i + length lists) (f more) → AreListsFrom test order p round s i (map f (lists ++ more ∷ []))
lists_more f test order p round s i [] more are is = (subst (λ n. IsListOf test order p round s n (f more)) (omega arith) is, tt)
lists_more f test order p round s i (x ∷ lists) more are is =
    (are.0, lists_more f test order p round s (i + 1) lists more are.1 (subst (λ n. IsListOf test order p round s n (f more)) (omega arith) is))

-- the same where the lists were pushed
pub pushed_list : {C V : Type 0} (f : V → List C) (test : C → ℕ → Bool) (order : List ℕ) (p : Problem) (round : Round) (s : State) (k : ℕ) (lists pushed : List V) (more : V) → pushed ≡ lists ++ more ∷ [] → length lists ≡ k
    → AreListsFrom test order p round s 1 (map f lists) → IsListOf test order p round s (k + 1) (f more) → AreListsFrom test order p round s 1 (map f pushed)
pushed_list f test order p round s k lists pushed more e same are is =
    subst (λ z. AreListsFrom test order p round s 1 (map f z)) (sym e) (lists_more f test order p round s 1 lists more are (subst (λ n. IsListOf test order p round s n (f more)) (omega (arith, same)) is))
