-- The lines of a bound leaf, one after the other.
use Rattle.std.proofs.Common.{◌≡◌, ◌≢◌, ℕ, suc, ◌+◌, ◌*◌, ◌≤◌, ◌<◌, List, [], ◌∷◌, ◌++◌, Bool, true, false, length, Option, None, Some, Result, Ok, Err, refl, sym, ◌∙◌, ap, subst, arith, inl}
use Rattle.std.proofs.lemmas.List.{length-append}
use Rattle.std.specs.Borrow.{Bor}
use Rattle.county_problem.specs.CountList.{count_at}
use Rattle.grouping_laws.specs.Problem.{Problem}
use Rattle.grouping_laws.specs.Grouping.{Grouping, counts, sets_of}
use Rattle.certificate_data.specs.Round.{Round}
use Rattle.certificate_laws.specs.State.{State}
use Rattle.certificate_data.specs.Tree.{Allowance, bound}
use Rattle.certificate_laws.specs.BoundLines.{allowance}
use Rattle.certificate_lines.specs.declared.item.Item.{Item}
use Rattle.checker_laws.specs.End.{End, fine, faulty}
use Rattle.checker_laws.specs.Leaves.{BoundedEnds, BoundEnds, LeafEnds}
use Rattle.checker_laws.specs.Cost.{AllowancesLook, LeafLooks}
use Rattle.checker_laws.proofs.BoundWork.{bound_lines_carry, bound_lines_cost}
use Rattle.certificate_checker.specs.ReadableTrees.{AllowancesAreSpelled}
use Rattle.state_judge.specs.declared.bound.Allowed.{Allowed}
use Rattle.state_judge.specs.declared.bound.Allowed.TheVariants.{Loss, Even}
use Rattle.certificate_checker.specs.Feeding.{FeedValue, Fed}
use Rattle.certificate_checker.specs.Judging.{AreWanted, line_items, IsLineJudged, IsLeafJudged, IsEndOf}
use Rattle.state_judge.specs.declared.fault.CheckFault.TheVariants.{BoundLength}
use Rattle.certificate_checker.specs.declared.feed.Halt.{Halt}
use Rattle.certificate_checker.specs.declared.feed.Halt.TheVariants as stop
use Rattle.checker_laws.specs.Fault as fault

-- what is left of the lines of a bound leaf, after `judged` of them, where `used` counties are used up
pub record LinesLeft (p : Problem) (round : Round) (s : State) (target : Grouping) (old now : FeedValue) (lines : List Allowance) (rest : List Item) (judged used : ℕ) : Type 0 where
  pub left : List Allowance
  pub spelled : AllowancesAreSpelled left
  pub count : judged + length left ≡ length lines
  pub items : now.reading.items ≡ line_items left ++ rest
  pub ends : (end : End) → BoundedEnds left p round s (counts (sets_of target)) (judged + 1) used old.line (now.line + 1) end → LeafEnds (bound lines) p round s old.line end
  pub looks : (n : ℕ) → LeafLooks (bound lines) p round s n → (m : ℕ) × AllowancesLook left p round s (counts (sets_of target)) (judged + 1) used m × (now.used + old.line + 2 * m ≤ old.used + now.line + 2 * n)

-- before the first line is judged
pub no_line_judged : (p : Problem) (round : Round) (s : State) (target : Grouping) (old : FeedValue) (lines : List Allowance) (rest : List Item) → round.target ≡ Some target → length lines ≤ round.limit
    → AllowancesAreSpelled lines → old.reading.items ≡ line_items lines ++ rest → LinesLeft p round s target old old lines rest 0 0
no_line_judged p round s target old lines rest is few spelled items = record {
  left = lines;
  spelled = spelled;
  count = omega arith;
  items = items;
  ends = λ end e. bound_lines_carry.opened lines p round s target old.line end is few e;
  looks = λ n l. (n, bound_lines_cost.opened lines p round s target n is few l, omega arith);
}

abbrev wanted_of : Grouping → ℕ → ℕ
wanted_of target = counts (sets_of target)

-- a line that allows as many groups as the target has
even_from : (p : Problem) (round : Round) (s : State) (target : Grouping) (old now new : FeedValue) (lines : List Allowance) (rest : List Item) (judged used more : ℕ) (left : List Allowance)
    → judged < length lines → AllowancesAreSpelled left → judged + length left ≡ length lines
    → ((end : End) → BoundedEnds left p round s (wanted_of target) (judged + 1) used old.line (now.line + 1) end → LeafEnds (bound lines) p round s old.line end)
    → ((n : ℕ) → LeafLooks (bound lines) p round s n → (m : ℕ) × AllowancesLook left p round s (wanted_of target) (judged + 1) used m × (now.used + old.line + 2 * m ≤ old.used + now.line + 2 * n))
    → IsLineJudged p round s (wanted_of target) (judged + 1) used left rest now (Ok (Even more)) new → LinesLeft p round s target old new lines rest (judged + 1) more
even_from p round s target old now new lines rest judged used more [] few spelled count ends looks k = absurd (omega (arith, few, count))
even_from p round s target old now new lines rest judged used more (a ∷ others) few spelled count ends looks k =
    let w = wanted_of target in
    let i = judged + 1 in
    let fair = k.2.0 in
    let even = k.2.1 in
    let is = k.2.2 in
    let up = used + i * allowance p s i used a in
    record {
      left = others;
      spelled = spelled.1;
      count = omega (arith, count);
      items = k.0;
      ends = λ end e. ends end (bound_lines_carry.even a others p round s w i used old.line (now.line + 1) end fair even
          (subst (λ u. BoundedEnds others p round s w (i + 1) u old.line (now.line + 1 + 1) end) is (subst (λ n. BoundedEnds others p round s w (i + 1) more old.line (n + 1) end) k.1 e)));
      looks = λ n l.
          let x = looks n l in
          let y = bound_lines_cost.even a others p round s w i used x.0 fair even x.1 in
          (y.1, subst (λ u. AllowancesLook others p round s w (i + 1) u y.1) (sym is) y.3, omega (arith, x.2, y.4, k.3 y.0 y.2, k.1));
    }

pub even_judged : (p : Problem) (round : Round) (s : State) (target : Grouping) (old now new : FeedValue) (lines : List Allowance) (rest : List Item) (judged used more : ℕ) (h : LinesLeft p round s target old now lines rest judged used)
    (allowed : Allowed) → allowed ≡ Even more → judged < length lines → IsLineJudged p round s (wanted_of target) (judged + 1) used h.left rest now (Ok allowed) new → LinesLeft p round s target old new lines rest (judged + 1) more
even_judged p round s target old now new lines rest judged used more h allowed is few k =
    even_from p round s target old now new lines rest judged used more h.left few h.spelled h.count h.ends h.looks (subst (λ a. IsLineJudged p round s (wanted_of target) (judged + 1) used h.left rest now (Ok a) new) is k)

-- a line that allows fewer
loss_from : (p : Problem) (round : Round) (s : State) (target : Grouping) (old now new : FeedValue) (lines : List Allowance) (rest : List Item) (judged used : ℕ) (last : Bool) (r : Result (Unit {0}) Halt) (left : List Allowance)
    → length lines ≤ round.limit → judged < length lines → (last ≡ true → judged + 1 ≡ length lines) → (last ≡ false → judged + 1 ≢ length lines) → judged + length left ≡ length lines
    → ((end : End) → BoundedEnds left p round s (wanted_of target) (judged + 1) used old.line (now.line + 1) end → LeafEnds (bound lines) p round s old.line end)
    → ((n : ℕ) → LeafLooks (bound lines) p round s n → (m : ℕ) × AllowancesLook left p round s (wanted_of target) (judged + 1) used m × (now.used + old.line + 2 * m ≤ old.used + now.line + 2 * n))
    → IsLineJudged p round s (wanted_of target) (judged + 1) used left rest now (Ok Loss) new → IsEndOf last old.line r → IsLeafJudged p round s (bound lines) rest old r new
loss_from p round s target old now new lines rest judged used last r [] small few is isnt count ends looks k e = absurd (omega (arith, few, count))
loss_from p round s target old now new lines rest judged used true (Ok done) (a ∷ []) small few is isnt count ends looks k e =
    let w = wanted_of target in
    let i = judged + 1 in (
      sym k.0,
      ends (fine (new.line + 1)) (subst (λ n. BoundedEnds (a ∷ []) p round s w i used old.line (now.line + 1) (fine (n + 1))) (sym k.1) (bound_lines_carry.loss a p round s w i used old.line (now.line + 1) (omega (arith, small, few)) k.2.0 k.2.1)),
      λ n l.
          let x = looks n l in
          let y = bound_lines_cost.last a [] p round s w i used x.0 x.1 in
          omega (arith, x.2, y.2, k.3 y.0 y.1, k.1),
    )
loss_from p round s target old now new lines rest judged used true (Ok done) (a ∷ b ∷ others) small few is isnt count ends looks k e = absurd (omega (arith, is refl, count))
loss_from p round s target old now new lines rest judged used true (Err r) (a ∷ others) small few is isnt count ends looks k e = absurd e
loss_from p round s target old now new lines rest judged used false (Ok done) (a ∷ others) small few is isnt count ends looks k e = absurd e
loss_from p round s target old now new lines rest judged used false (Err (stop.Fault BoundLength found)) (a ∷ []) small few is isnt count ends looks k e = absurd (isnt refl (omega (arith, count)))
loss_from p round s target old now new lines rest judged used false (Err (stop.Fault BoundLength found)) (a ∷ b ∷ others) small few is isnt count ends looks k e =
    let w = wanted_of target in
    let i = judged + 1 in (
      fault.BoundLength,
      refl,
      subst (λ n. LeafEnds (bound lines) p round s old.line (faulty fault.BoundLength n)) (sym e)
          (ends (faulty fault.BoundLength old.line) (bound_lines_carry.behind_loss a (b ∷ others) p round s w i used old.line (now.line + 1) k.2.0 k.2.1 (λ none. cc))),
    )
loss_from p round s target old now new lines rest judged used false (Err (stop.Fault _ found)) (a ∷ others) small few is isnt count ends looks k e = absurd e
loss_from p round s target old now new lines rest judged used false (Err (stop.Text f)) (a ∷ others) small few is isnt count ends looks k e = absurd e
loss_from p round s target old now new lines rest judged used false (Err stop.Unspelled) (a ∷ others) small few is isnt count ends looks k e = absurd e
loss_from p round s target old now new lines rest judged used false (Err stop.Budget) (a ∷ others) small few is isnt count ends looks k e = absurd e
loss_from p round s target old now new lines rest judged used false (Err stop.Refused) (a ∷ others) small few is isnt count ends looks k e = absurd e

pub loss_judged : (p : Problem) (round : Round) (s : State) (target : Grouping) (old now new : FeedValue) (lines : List Allowance) (rest : List Item) (judged used : ℕ) (h : LinesLeft p round s target old now lines rest judged used) (last : Bool) (r : Result (Unit {0}) Halt)
    (allowed : Allowed) → allowed ≡ Loss → length lines ≤ round.limit → judged < length lines → (last ≡ true → judged + 1 ≡ length lines) → (last ≡ false → judged + 1 ≢ length lines)
    → IsLineJudged p round s (wanted_of target) (judged + 1) used h.left rest now (Ok allowed) new → IsEndOf last old.line r → IsLeafJudged p round s (bound lines) rest old r new
loss_judged p round s target old now new lines rest judged used h last r allowed loss small few is isnt k e =
    loss_from p round s target old now new lines rest judged used last r h.left small few is isnt h.count h.ends h.looks (subst (λ a. IsLineJudged p round s (wanted_of target) (judged + 1) used h.left rest now (Ok a) new) loss k) e

-- a stop at a line
stop_from : (p : Problem) (round : Round) (s : State) (target : Grouping) (old now new : FeedValue) (lines : List Allowance) (rest : List Item) (judged used : ℕ) (found : Halt) (left : List Allowance)
    → Fed old now → judged < length lines → judged + length left ≡ length lines → now.reading.items ≡ line_items left ++ rest
    → ((end : End) → BoundedEnds left p round s (wanted_of target) (judged + 1) used old.line (now.line + 1) end → LeafEnds (bound lines) p round s old.line end)
    → ((n : ℕ) → LeafLooks (bound lines) p round s n → (m : ℕ) × AllowancesLook left p round s (wanted_of target) (judged + 1) used m × (now.used + old.line + 2 * m ≤ old.used + now.line + 2 * n))
    → IsLineJudged p round s (wanted_of target) (judged + 1) used left rest now (Err found) new → IsLeafJudged {X = Unit {0}} p round s (bound lines) rest old (Err found) new
stop_from p round s target old now new lines rest judged used found [] fed few count items ends looks k = absurd (omega (arith, few, count))
stop_from p round s target old now new lines rest judged used (stop.Fault f at) (a ∷ others) fed few count items ends looks k =
    (k.0, k.1, ends (faulty k.0 at) (subst (λ n. BoundedEnds (a ∷ others) p round s (wanted_of target) (judged + 1) used old.line (now.line + 1) (faulty k.0 n)) (sym k.3) (bound_lines_carry.fault a others p round s (wanted_of target) (judged + 1) used old.line (now.line + 1) k.0 k.2)))
stop_from p round s target old now new lines rest judged used (stop.Text f) (a ∷ others) fed few count items ends looks k = k
stop_from p round s target old now new lines rest judged used stop.Unspelled (a ∷ others) fed few count items ends looks k = k
stop_from p round s target old now new lines rest judged used stop.Budget (a ∷ others) fed few count items ends looks k = λ n l.
    let x = looks n l in
    let y = bound_lines_cost.last a others p round s (wanted_of target) (judged + 1) used x.0 x.1 in
    let size : length now.reading.items ≡ suc (length (line_items others) + length rest) = ap length items ∙ ap suc (length-append (line_items others) rest) in
    omega (arith, x.2, y.2, k y.0 y.1, fed.limit, fed.lines, size)
stop_from p round s target old now new lines rest judged used stop.Refused (a ∷ others) fed few count items ends looks k = tt

pub stop_judged : (p : Problem) (round : Round) (s : State) (target : Grouping) (old now new : FeedValue) (lines : List Allowance) (rest : List Item) (judged used : ℕ) (h : LinesLeft p round s target old now lines rest judged used) (found : Halt)
    → Fed old now → judged < length lines → IsLineJudged p round s (wanted_of target) (judged + 1) used h.left rest now (Err found) new → IsLeafJudged {X = Unit {0}} p round s (bound lines) rest old (Err found) new
stop_judged p round s target old now new lines rest judged used h found fed few k = stop_from p round s target old now new lines rest judged used found h.left fed few h.count h.items h.ends h.looks k

below : (judged n limit : ℕ) → n ≤ limit → judged ≡ n → n ≢ limit → judged + 1 ≤ limit
below judged n limit small all apart = omega (arith, small, all, apart)

-- no line is left
all_from : (p : Problem) (round : Round) (s : State) (target : Grouping) (old now : FeedValue) (lines : List Allowance) (rest : List Item) (judged used : ℕ) (full : Bool) (r : Result (Unit {0}) Halt) (left : List Allowance)
    → length lines ≤ round.limit → judged ≡ length lines → (full ≡ true → length lines ≡ round.limit) → (full ≡ false → length lines ≢ round.limit) → judged + length left ≡ length lines → now.reading.items ≡ line_items left ++ rest
    → ((end : End) → BoundedEnds left p round s (wanted_of target) (judged + 1) used old.line (now.line + 1) end → LeafEnds (bound lines) p round s old.line end)
    → ((n : ℕ) → LeafLooks (bound lines) p round s n → (m : ℕ) × AllowancesLook left p round s (wanted_of target) (judged + 1) used m × (now.used + old.line + 2 * m ≤ old.used + now.line + 2 * n))
    → IsEndOf full old.line r → IsLeafJudged p round s (bound lines) rest old r now
all_from p round s target old now lines rest judged used full r (a ∷ others) small all is isnt count items ends looks e = absurd (omega (arith, all, count))
all_from p round s target old now lines rest judged used true (Ok done) [] small all is isnt count items ends looks e = (
  sym items,
  ends (fine (now.line + 1)) (bound_lines_carry.at_limit p round s (wanted_of target) (judged + 1) used old.line (now.line + 1) (omega (arith, all, is refl))),
  λ n l. let x = looks n l in omega (arith, x.2),
)
all_from p round s target old now lines rest judged used false (Err (stop.Fault BoundLength at)) [] small all is isnt count items ends looks e = (
  fault.BoundLength,
  refl,
  subst (λ n. LeafEnds (bound lines) p round s old.line (faulty fault.BoundLength n)) (sym e)
      (ends (faulty fault.BoundLength old.line) (bound_lines_carry.too_few p round s (wanted_of target) (judged + 1) used old.line (now.line + 1) (below judged (length lines) round.limit small all (isnt refl)))),
)
all_from p round s target old now lines rest judged used true (Err x) [] small all is isnt count items ends looks e = absurd e
all_from p round s target old now lines rest judged used false (Ok done) [] small all is isnt count items ends looks e = absurd e
all_from p round s target old now lines rest judged used false (Err (stop.Fault _ at)) [] small all is isnt count items ends looks e = absurd e
all_from p round s target old now lines rest judged used false (Err (stop.Text f)) [] small all is isnt count items ends looks e = absurd e
all_from p round s target old now lines rest judged used false (Err stop.Unspelled) [] small all is isnt count items ends looks e = absurd e
all_from p round s target old now lines rest judged used false (Err stop.Budget) [] small all is isnt count items ends looks e = absurd e
all_from p round s target old now lines rest judged used false (Err stop.Refused) [] small all is isnt count items ends looks e = absurd e

pub all_judged : (p : Problem) (round : Round) (s : State) (target : Grouping) (old now : FeedValue) (lines : List Allowance) (rest : List Item) (judged used : ℕ) (h : LinesLeft p round s target old now lines rest judged used) (full : Bool) (r : Result (Unit {0}) Halt)
    → length lines ≤ round.limit → judged ≡ length lines → (full ≡ true → length lines ≡ round.limit) → (full ≡ false → length lines ≢ round.limit) → IsEndOf full old.line r → IsLeafJudged p round s (bound lines) rest old r now
all_judged p round s target old now lines rest judged used h full r small all is isnt e = all_from p round s target old now lines rest judged used full r h.left small all is isnt h.count h.items h.ends h.looks e

-- where there is no target
pub no_target : (t : Option Grouping) (w : Option (Bor (List ℕ))) (lines : List Allowance) (p : Problem) (round : Round) (s : State) (opened : ℕ) → AreWanted t w → w ≡ None → BoundEnds lines p round s t opened (faulty fault.BoundWithoutTarget opened)
no_target None w lines p round s opened h e = refl
no_target (Some target) (Some list) lines p round s opened h e = cc
no_target (Some target) None lines p round s opened h e = absurd h

-- where there is one
pub with_target : (P : Type 0) (t : Option Grouping) (w : Option (Bor (List ℕ))) (list : Bor (List ℕ)) → AreWanted t w → w ≡ Some list → ((target : Grouping) → t ≡ Some target → ((i : ℕ) → count_at list.now i ≡ counts (sets_of target) i) → P) → P
with_target P (Some target) (Some other) list h e k = k target refl (λ i. ap (λ (o : Option (Bor (List ℕ))). counted o i) (sym e) ∙ h i)
  where
    counted : Option (Bor (List ℕ)) → ℕ → ℕ
    counted None i = 0
    counted (Some l) i = count_at l.now i
with_target P (Some target) None list h e k = absurd h
with_target P None (Some other) list h e k = absurd h
with_target P None None list h e k = cc

pub too_many : (t : Option Grouping) (target : Grouping) (lines : List Allowance) (p : Problem) (round : Round) (s : State) (opened : ℕ) → t ≡ Some target → round.limit < length lines → BoundEnds lines p round s t opened (faulty fault.BoundLength opened)
too_many t target lines p round s opened e few = subst (λ x. BoundEnds lines p round s x opened (faulty fault.BoundLength opened)) (sym e) (inl (few, refl))

pub wanted_same : (t : Option Grouping) (w : Option (Bor (List ℕ))) (list : Bor (List ℕ)) (target : Grouping) → AreWanted t w → w ≡ Some list → t ≡ Some target → (i : ℕ) → count_at list.now i ≡ counts (sets_of target) i
wanted_same t w list target h e is i = with_target (count_at list.now i ≡ counts (sets_of target) i) t w list h e (λ other are same. same i ∙ ap (λ (g : Grouping). counts (sets_of g) i) (some_same other target (sym are ∙ is)))
  where
    some_same : (a b : Grouping) → Some a ≡ Some b → a ≡ b
    some_same a b k = cc
