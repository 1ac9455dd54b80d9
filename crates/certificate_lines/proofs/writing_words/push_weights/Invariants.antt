use Rattle.std.proofs.Common.{◌≡◌, ◌≤◌, ◌∷◌, ◌++◌, All, take, drop}
use Rattle.std.specs.List.{flat_map}
use Rattle.certificate_lines.specs.Spelling.{weight_word}
use Rattle.certificate_lines.proofs.writing_words.push_weights.Given as goal

abbrev pub invariant-loop-weight : goal.invariant-loop-weight
invariant-loop-weight l = record {
  text : l.out.items ++ flat_map (λ w. 32 ∷ weight_word w) (drop l.weight-index l.weights) ≡ l.fn.out.items ++ flat_map (λ w. 32 ∷ weight_word w) l.weights;
  small : All (λ w. w.county ≤ 99999) (take l.weight-index l.weights);
  numbers : All (λ w. w.weight ≤ 4294967295) (take l.weight-index l.weights);
}
