use Rattle.std.proofs.Common.{refl, subst, codes}
use Rattle.clap.specs.Words.{found_of, rows_of}
use Rattle.cli_words.specs.Words.{GivesStored, GivesText}
use Rattle.cli_words.proofs.words.list_words.Goals as goal

pub list_words_with-requires-in-None-which-clause-which : goal.list_words_with-requires-in-None-which-clause-which
list_words_with-requires-in-None-which-clause-which c =
    subst (GivesText (codes "which") (rows_of (found_of c.args.found.now))) c.in-None-which.is c.path_or_none-which.ensures

pub returns-in-Some-which : goal.returns-in-Some-which
returns-in-Some-which c =
    let rows = rows_of (found_of c.args.found.now) in
    let asked = subst (GivesText (codes "which") rows) c.in-Some-which.is c.path_or_none-which.ensures in
    let stored = subst (GivesStored rows) c.in-Some.is c.in_ok-stored.ensures in
    (refl, (asked.0, stored.0, stored.2))
