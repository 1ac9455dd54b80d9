-- Laws of the end of a tree, and of the verdict and the cost of a certificate.
use Rattle.std.specs.Prelude.{ℕ, ◌+◌, ◌≡◌, ◌≤◌, ◌<◌, Some, None}
use Rattle.grouping_laws.specs.Problem.{Problem}
use Rattle.grouping_laws.specs.Grouping.{Grouping, IsBest, IsImpossible}
use Rattle.certificate_data.specs.Round.{Round}
use Rattle.certificate_laws.specs.State.{State}
use Rattle.certificate_data.specs.Tree.{Tree}
use Rattle.certificate_laws.specs.Proving.{Proves}
use Rattle.certificate_laws.specs.Certificate.{IsCertificate}
use Rattle.checker_laws.specs.Fault.{Fault}
use Rattle.checker_laws.specs.End.{End, fine, faulty}
use Rattle.checker_laws.specs.Lines.{tree_lines}
use Rattle.checker_laws.specs.Trees.{TreeEnds}
use Rattle.checker_laws.specs.Verdict.{CertificateVerdict, Best, Impossible, No, shown, IsVerdict}
use Rattle.checker_laws.specs.Cost.{TreeCosts, CertificateCosts}

-- How a tree ends.
pub record TreesEnd : Type 0 where
  -- a tree without a fault is a proof, and the lines behind it begin where its lines end
  pub proves : (tree : Tree) (p : Problem) (round : Round) (s : State) (line next : ℕ)
      → TreeEnds tree p round s line (fine next) → Proves tree p round s × (next ≡ line + tree_lines tree)
  -- a proof has no fault
  pub ends : (tree : Tree) (p : Problem) (round : Round) (s : State) (line : ℕ) → Proves tree p round s
      → TreeEnds tree p round s line (fine (line + tree_lines tree))
  -- a tree has one end
  pub one : (tree : Tree) (p : Problem) (round : Round) (s : State) (line : ℕ) (x y : End)
      → TreeEnds tree p round s line x → TreeEnds tree p round s line y → x ≡ y
  -- a tree with a fault is no proof
  pub refuses : (tree : Tree) (p : Problem) (round : Round) (s : State) (line at : ℕ) (fault : Fault)
      → TreeEnds tree p round s line (faulty fault at) → ¬ Proves tree p round s
  -- the line of a fault is one of the tree's
  pub inside : (tree : Tree) (p : Problem) (round : Round) (s : State) (line at : ℕ) (fault : Fault)
      → TreeEnds tree p round s line (faulty fault at) → (line ≤ at) × (at < line + tree_lines tree)

-- What a verdict shows.
pub record VerdictsShow : Type 0 where
  pub best : (p : Problem) (round : Round) (tree : Tree) (target : Grouping) → IsVerdict p round tree (Best target)
      → IsCertificate p round tree × (round.target ≡ Some target) × IsBest p target
  pub impossible : (p : Problem) (round : Round) (tree : Tree) → IsVerdict p round tree Impossible
      → IsCertificate p round tree × (round.target ≡ None) × IsImpossible p
  pub no : (p : Problem) (round : Round) (tree : Tree) (fault : Fault) (line : ℕ)
      → IsVerdict p round tree (No fault line) → ¬ IsCertificate p round tree
  -- a certificate has the verdict of its target
  pub yes : (p : Problem) (round : Round) (tree : Tree) → IsCertificate p round tree
      → IsVerdict p round tree (shown round.target)
  -- two verdicts of a certificate are the same
  pub one : (p : Problem) (round : Round) (tree : Tree) (x y : CertificateVerdict) → IsVerdict p round tree x
      → IsVerdict p round tree y → x ≡ y

-- There is one cost.
pub record CostsAreOne : Type 0 where
  pub tree : (tree : Tree) (p : Problem) (round : Round) (s : State) (m n : ℕ) → TreeCosts tree p round s m
      → TreeCosts tree p round s n → m ≡ n
  pub certificate : (p : Problem) (round : Round) (tree : Tree) (m n : ℕ) → CertificateCosts p round tree m
      → CertificateCosts p round tree n → m ≡ n
