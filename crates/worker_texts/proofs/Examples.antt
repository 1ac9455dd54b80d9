-- The text of the first round for three counties.
use Rattle.std.proofs.Common.{◌≡◌, refl}
use Rattle.std.specs.Fmt.{digits}
use Rattle.worker_texts.specs.RoundText.{text_of_round}
use Rattle.worker_texts.specs.Examples.{first_round, round_text}

pub round_is : text_of_round first_round ≡ round_text
unfolding digits
round_is = refl
