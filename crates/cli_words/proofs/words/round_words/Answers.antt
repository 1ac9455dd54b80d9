use Rattle.std.proofs.Common.{◌≡◌, ℕ, List, Option, refl, subst, codes}
use Rattle.clap.specs.Words.{Row, found_of, rows_of}
use Rattle.cli_words.specs.Words.{GivesItsNumber}
use Rattle.cli_words.proofs.words.round_words.Goals as goal

-- what the words give of both, where they are known
given : (rows : List Row) (l x d y : Option ℕ) → l ≡ x → d ≡ y → GivesItsNumber (codes "limit") rows l → GivesItsNumber (codes "depth") rows d
    → GivesItsNumber (codes "limit") rows x × GivesItsNumber (codes "depth") rows y
given rows l x d y limit depth of_limit of_depth =
    (subst (GivesItsNumber (codes "limit") rows) limit of_limit, subst (GivesItsNumber (codes "depth") rows) depth of_depth)

pub returns-in-Some-limit : goal.returns-in-Some-limit
returns-in-Some-limit c =
    let g = given (rows_of (found_of c.args.found.now)) _ _ _ _ c.in-Some-limit.is c.in-Some.is c.limit-limit.ensures c.depth-depth.ensures in
    (g.0.0, g.0.1, g.1.0, g.1.1)

pub returns-in-None-limit : goal.returns-in-None-limit
returns-in-None-limit c =
    let g = given (rows_of (found_of c.args.found.now)) _ _ _ _ c.in-None-limit.is c.in-Some.is c.limit-limit.ensures c.depth-depth.ensures in
    (refl, (g.1.0, g.0))

pub returns-in-None : goal.returns-in-None
returns-in-None c = given (rows_of (found_of c.args.found.now)) _ _ _ _ refl c.in-None.is c.limit-limit.ensures c.depth-depth.ensures
