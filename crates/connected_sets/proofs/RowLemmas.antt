-- Rows of neighbours that are looked up.
use Rattle.std.proofs.Common.{◌≡◌, ℕ, ◌<◌, Bool, List, get_or, ap, ◌∙◌}
use Rattle.grouping_laws.specs.Problem.{Problem}
use Rattle.connected_sets.specs.Graphs.{AreRows}

-- a row that was looked up is the row of its place
pub row_named : (C : Type 0) (test : C → ℕ → Bool) (p : Problem) (n : ℕ) (near : List C) → AreRows C test p n near → (x i : ℕ) (r : C) → i ≡ x → r ≡ get_or near i r → x < n → (y : ℕ) → y < n → test r y ≡ p.adjacent x y
row_named C test p n near h x i r e at l y m = ap (λ z. test z y) (at ∙ ap (λ k. get_or near k r) e) ∙ h.row x y r l m
