-- What is known of lists of sets, however they are moved about.
use Rattle.std.proofs.Common.{List, All}
use Rattle.std.specs.List.Sorted.{IsPermutation}
use Rattle.std.proofs.lemmas.List.Sorted.{All-permutation}
pub use Rattle.place_sets.proofs.SetLists.{map_twice}

-- what holds of each element holds of each when they are moved about
pub all_moved : {X : Type 0} (P : X → Type 0) (xs ys : List X) → IsPermutation xs ys → All P xs → All P ys
all_moved = All-permutation
