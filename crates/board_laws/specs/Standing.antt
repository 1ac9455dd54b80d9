-- Which state a piece stands for.
use Rattle.std.specs.Prelude.{ℕ, ◌≡◌, Bool, nat_le, ◌&&◌, Option, Some, ◌⊎◌}
use Rattle.grouping_laws.specs.Sets.{indicator, count}
use Rattle.certificate_data.specs.Round.{Round}
use Rattle.certificate_laws.specs.State.{State, close, raise}
use Rattle.certificate_data.specs.Tree.{Tree}
use Rattle.certificate_laws.specs.Proving.{limit_of}
use Rattle.board_laws.specs.Skeleton.{Skeleton, waits, proved, split, Parts, no_part, part, pieces}

-- in a skeleton that begins at a state the piece stands at this one: where the groups on its way are closed and the
-- counties raised
abbrev mutual
  pub StandsAt : Skeleton → Round → State → ℕ → State → Type 0
  StandsAt (waits piece) round s n t = (piece ≡ n) × (t ≡ s)
  StandsAt (proved piece tree) round s n t = (piece ≡ Some n) × (t ≡ s)
  StandsAt (split piece county limit parts raised) round s n t =
      ((piece ≡ Some n) × (t ≡ s))
      ⊎ (StandsIn parts round s n t
      ⊎ StandsAt raised round (raise county (limit_of round limit) s) n t)

  pub StandsIn : Parts → Round → State → ℕ → State → Type 0
  StandsIn no_part round s n t = ⊥
  StandsIn (part codes skeleton others) round s n t =
      StandsAt skeleton round (close codes s) n t ⊎ StandsIn others round s n t

-- a number from 1 through the last
abbrev pub is_numbered : ℕ → ℕ → Bool
is_numbered last n = nat_le 1 n && nat_le n last

-- the pieces have the numbers from 1 through the last, each number once
abbrev pub AreNumbered : Skeleton → ℕ → Type 0
AreNumbered skeleton last = (n : ℕ) → count n (pieces skeleton) ≡ indicator (is_numbered last n)

-- what a piece, or a branch, may have
pub data Held : Type 0 where
  a_tree : Tree → Held
  a_split : (county : ℕ) → (limit : Option ℕ) → Held

-- in a skeleton that begins at a state this is held at the state t: by a piece that has the tree, or was split so
abbrev mutual
  pub Holds : Skeleton → Round → State → State → Held → Type 0
  Holds (waits piece) round s t held = ⊥
  Holds (proved piece tree) round s t held = (t ≡ s) × (held ≡ a_tree tree)
  Holds (split piece county limit parts raised) round s t held =
      ((t ≡ s) × (held ≡ a_split county limit))
      ⊎ (EachHolds parts round s t held
      ⊎ Holds raised round (raise county (limit_of round limit) s) t held)

  pub EachHolds : Parts → Round → State → State → Held → Type 0
  EachHolds no_part round s t held = ⊥
  EachHolds (part codes skeleton others) round s t held =
      Holds skeleton round (close codes s) t held ⊎ EachHolds others round s t held
