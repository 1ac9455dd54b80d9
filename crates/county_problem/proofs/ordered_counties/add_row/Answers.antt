use Rattle.std.proofs.Common.{◌≡◌, ℕ, ◌+◌, ◌<◌, Bool, List, [], ◌∷◌, ◌++◌, add-one, append_assoc, map, drop, get_or, length, sym, ap, ◌∙◌}
use Rattle.std.proofs.Math.Seq.{drop-cons}
use Rattle.grouping_laws.specs.Sets.{contains}
use Rattle.county_problem.specs.ProblemValue.{ProblemValue, names_both}
use Rattle.county_problem.proofs.ordered_counties.add_row.Goals as goal

-- one more entry of a row
one_more : (f : ℕ → Bool) (old new whole : List Bool) (xs : List ℕ) (i item : ℕ) (here : Bool) → i < length xs → item ≡ get_or xs i item → here ≡ f item → new ≡ old ++ here ∷ []
    → old ++ map f (drop i xs) ≡ whole → new ++ map f (drop (i + 1) xs) ≡ whole
one_more f old new whole xs i item here below at same is so_far =
    let rest = map f (drop (i + 1) xs) in
    let next : drop i xs ≡ get_or xs i item ∷ drop (i + 1) xs = drop-cons xs i item below ∙ ap (λ z. get_or xs i item ∷ drop z xs) (sym (add-one i)) in
    let step : here ∷ rest ≡ map f (drop i xs) = ap (λ z. z ∷ rest) (same ∙ ap f at) ∙ ap (map f) (sym next) in
    ap (λ z. z ++ rest) is ∙ (append_assoc old (here ∷ []) rest ∙ (ap (λ z. old ++ z) step ∙ so_far))

pub loop-code-preserved : goal.loop-code-preserved
loop-code-preserved c =
    let f = names_both c.args.problem.now.pairs c.args.from in
    let code = c.code-item.result in
    let pairs = c.deref.ensures.value ∙ ap (λ (v : ProblemValue). v.pairs) c.problem.view_is in
    let same : c.is_one_of.result ≡ f code =
    c.is_one_of.ensures ∙ (ap (λ (l : List ℕ). contains l code) c.deref-in-loop-code.ensures.value ∙ (c.in_ok-beside.ensures code ∙ ap (λ (l : List (ℕ × ℕ)). names_both l c.args.from code) pairs)) in
    one_more f c.loop-code.rows.items c.push.new.self.items _ c.args.order.now c.loop-code.code-index code c.is_one_of.result c.loop-code-test.true c.code-item.is same c.in_ok-push.ensures.items c.loop-code.invariant
