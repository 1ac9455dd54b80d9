-- Writing an answer.
use Rattle.std.specs.Prelude.{◌≡◌, ℕ, Bool, true, false, List, Option, map}
use Rattle.std.specs.Borrow.{Bor}
use Rattle.std.specs.Io.KnownBytes.{Appends}
use Rattle.cli_answers.specs.Answer.{Answered}

-- where the writing failed the status is 5; else the answer's text was written, and its status is the status
abbrev pub Delivers : Bool → Option (List ℕ) → Option (List ℕ) → Answered → ℕ → Type 0
Delivers true old new a status = status ≡ 5
Delivers false old new a status = Appends old new a.text × (status ≡ a.status)

-- the words behind references
abbrev pub texts : List (Bor (List ℕ)) → List (List ℕ)
texts words = map (λ w. w.now) words
