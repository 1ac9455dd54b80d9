use Rattle.list_groupings.proofs.Gapped.{tree_none, tree_one, tree_some}
use Rattle.list_groupings.proofs.laws.gaps_tell.Goals as goal

pub returns : goal.returns
returns c = record {
  none = λ tree p round s line gap at h g. tree_none p round tree s line gap at h g;
  one = λ tree p round s line gap other at there f g. tree_one p round tree s line gap other at there f g;
  some = λ tree p round s line none refuse. tree_some p round tree s line none refuse;
}
