use Rattle.clap.specs.Walk.{texts}
use Rattle.cli_words.proofs.CountygroupsLemmas.{faults_in, found_in, taken_in}
use Rattle.cli_words.proofs.words.matches_in.Goals as goal

pub returns-clause-found : goal.returns-clause-found
returns-clause-found c = found_in c.in_ok-program.program c.in_ok-program.ensures (texts c.args.words.now) (texts c.words_read.result.now) c.words_read.ensures c.try_get_matches_from.result c.try_get_matches_from.ensures.matches

pub returns-clause-taken : goal.returns-clause-taken
returns-clause-taken c = taken_in c.in_ok-program.program c.in_ok-program.ensures (texts c.args.words.now) (texts c.words_read.result.now) c.words_read.ensures c.try_get_matches_from.result c.try_get_matches_from.ensures.passes

pub returns-clause-faults : goal.returns-clause-faults
returns-clause-faults c = faults_in c.in_ok-program.program c.in_ok-program.ensures (texts c.args.words.now) (texts c.words_read.result.now) c.words_read.ensures c.try_get_matches_from.result c.try_get_matches_from.ensures.kinds
