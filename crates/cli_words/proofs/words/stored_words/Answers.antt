use Rattle.std.proofs.Common.{◌≡◌, ◌∙◌, ℕ, List, Option, true≢false, refl, sym, subst, codes}
use Rattle.std.specs.Borrow.{Bor}
use Rattle.clap.specs.Words.{Row, Text, found_of, rows_of}
use Rattle.cli_words.specs.Words.{GivesItsNumber, GivesText}
use Rattle.cli_words.proofs.words.stored_words.Goals as goal

-- what the words give of both, where they are known
given : (rows : List Row) (r x : Option ℕ) (s y : Option (Bor Text)) → r ≡ x → s ≡ y → GivesItsNumber (codes "number") rows r → GivesText (codes "out") rows s
    → GivesItsNumber (codes "number") rows x × GivesText (codes "out") rows y
given rows r x s y number out n o = (subst (GivesItsNumber (codes "number") rows) number n, subst (GivesText (codes "out") rows) out o)

pub returns-in-Some-out : goal.returns-in-Some-out
returns-in-Some-out c =
    let g = given (rows_of (found_of c.args.found.now)) _ _ _ _ c.in-Some.is c.in-Some-out.is c.number_or_none-number.ensures c.path_or_none-out.ensures in
    (g.0.0, g.0.1, g.1.0, g.1.1)

pub returns-in-None-out : goal.returns-in-None-out
returns-in-None-out c =
    let g = given (rows_of (found_of c.args.found.now)) _ _ _ _ c.in-Some.is c.in-None-out.is c.number_or_none-number.ensures c.path_or_none-out.ensures in
    (refl, λ same. true≢false (sym g.0.0 ∙ same ∙ g.1))

pub returns-in-Some-out-2 : goal.returns-in-Some-out-2
returns-in-Some-out-2 c =
    let g = given (rows_of (found_of c.args.found.now)) _ _ _ _ c.in-None.is c.in-Some-out-2.is c.number_or_none-number.ensures c.path_or_none-out.ensures in
    (refl, λ same. true≢false (sym g.1.0 ∙ sym same ∙ g.0))

pub returns-in-None-out-2 : goal.returns-in-None-out-2
returns-in-None-out-2 c =
    given (rows_of (found_of c.args.found.now)) _ _ _ _ c.in-None.is c.in-None-out-2.is c.number_or_none-number.ensures c.path_or_none-out.ensures
