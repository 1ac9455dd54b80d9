-- Two lists of all best groupings are as long.
use Rattle.std.proofs.Common.{◌≡◌, ◌+◌, ◌≤◌, List, [], ◌∷◌, length, refl, sym, subst, arith, inl, inr, AllPairs, Contains}
use Rattle.grouping_laws.specs.Problem.{Problem}
use Rattle.grouping_laws.specs.Grouping.{Grouping, sets_of, IsBest}
use Rattle.grouping_laws.proofs.Elements.{Has, has_all, all_from_has, has_from_contains}
use Rattle.certificate_laws.proofs.Steps.{others_of}
use Rattle.certificate_laws.proofs.Agreement.{others_keep}
use Rattle.certificate_laws.proofs.Kept.{head_before, tail_pairs}
use Rattle.list_laws.specs.AllBest.{SameSets, AreAllBest, ListsAreOne}
use Rattle.list_laws.proofs.Same.{same_turned, same_through}

one_less : {X : Type 0} (xs : List X) (y : X) (h : Has xs y) → length xs ≡ length (others_of xs y h) + 1
one_less [] y h = absurd h
one_less (x ∷ xs) y (inl e) = omega arith
one_less (x ∷ xs) y (inr h) = omega (arith, one_less xs y h)

abbrev Same : Grouping → Grouping → Type 0
Same g h = SameSets (sets_of g) (sets_of h)

-- groupings of which no two are the same, each the same as one of a list
no_more : (xs ys : List Grouping) → AllPairs (λ g h. ¬ Same g h) xs → ((g : Grouping) → Has xs g → (h : Grouping) × Has ys h × Same g h) → length xs ≤ length ys
no_more [] ys apart found = omega arith
no_more (x ∷ xs) ys apart found =
    let r = found x (inl refl) in
    omega (
      arith,
      one_less ys r.0 r.1,
      no_more xs (others_of ys r.0 r.1) (tail_pairs (λ g h. ¬ Same g h) x xs apart) (λ g h.
          let q = found g (inr h) in
          (q.0, others_keep ys r.0 r.1 q.0 q.1 (λ e. head_before (λ g h. ¬ Same g h) x xs apart g h (same_through (sets_of x) (sets_of r.0) (sets_of g) r.2 (same_turned (sets_of g) (sets_of r.0) (subst (Same g) (sym e) q.2)))), q.2)),
    )

each_there : (p : Problem) (xs ys : List Grouping) → AreAllBest p xs → AreAllBest p ys → (g : Grouping) → Has xs g → (h : Grouping) × Has ys h × Same g h
each_there p xs ys a b g h = let r = b.complete g (has_all (IsBest p) xs a.best g h) in (r.0, has_from_contains ys r.0 r.1, r.2)

pub lists_one : ListsAreOne
lists_one = record {
  number = λ p xs ys a b. omega (arith, no_more xs ys a.apart (each_there p xs ys a b), no_more ys xs b.apart (each_there p ys xs b a));
  same = λ p xs ys a b. all_from_has (λ g. (h : Grouping) × Contains ys h × Same g h) xs (λ g h. b.complete g (has_all (IsBest p) xs a.best g h));
}
