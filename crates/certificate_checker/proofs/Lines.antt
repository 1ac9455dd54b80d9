-- One line of a bound leaf, read and judged.
use Rattle.std.proofs.Common.{◌≡◌, ℕ, ◌+◌, ◌*◌, ◌≤◌, List, [], ◌∷◌, ◌++◌, Result, Ok, Err, MatchResult, IfOk, IsErrOf, refl, sym, ◌∙◌, ap, subst, arith}
use Rattle.grouping_laws.specs.Problem.{Problem}
use Rattle.certificate_data.specs.declared.format.Format.{Format}
use Rattle.certificate_data.specs.Round.{Round}
use Rattle.certificate_laws.specs.State.{State}
use Rattle.certificate_data.specs.Tree.{Allowance}
use Rattle.certificate_data.specs.TreeValue.{allowance_of, declared_allowance}
use Rattle.certificate_lines.specs.ItemReadings.{first}
use Rattle.certificate_data.specs.declared.allowance.Allowance.{Allowance as DeclaredAllowance}
use Rattle.certificate_lines.specs.declared.item.Item.{Item}
use Rattle.certificate_lines.specs.declared.item.Item.TheVariants.{Allows}
use Rattle.checker_laws.specs.Leaves.{IsAllowanceFault}
use Rattle.checker_laws.specs.Cost.{LineLooks}
use Rattle.state_judge.specs.LineStops.{StopsAt}
use Rattle.state_judge.specs.declared.fault.LineStop.{LineStop}
use Rattle.state_judge.specs.declared.fault.LineStop.TheVariants as line_stop
use Rattle.state_judge.specs.AllowanceVerdicts.{AllowanceIsSpelled, IsAllowed}
use Rattle.state_judge.specs.declared.bound.Allowed.{Allowed}
use Rattle.state_judge.specs.declared.bound.Allowed.TheVariants.{Loss, Even}
use Rattle.certificate_checker.specs.ReadableTrees.{AllowancesAreSpelled}
use Rattle.certificate_checker.specs.Feeding.{FeedValue, Fed, IsFed, TookLine}
use Rattle.certificate_checker.specs.Judging.{line_items, IsLineJudged, IsSmall, IsStopAt, IsJudgedAt}
use Rattle.certificate_checker.specs.declared.feed.Halt.{Halt}
use Rattle.certificate_checker.proofs.Views.{allowance_same}

pub allowed_small : (format : Format) (p : Problem) (s : State) (wanted : ℕ → ℕ) (i used : ℕ) (line : Allowance) (allowed : Allowed) → IsAllowed format p s wanted i used line allowed → IsSmall allowed
allowed_small format p s wanted i used line Loss h = tt
allowed_small format p s wanted i used line (Even now) h = h.3

-- the line that was read is the first of those left
same_line : (b : Allowance) (a : DeclaredAllowance) (xs ys : List Item) → Allows a ∷ xs ≡ Allows (declared_allowance b) ∷ ys → (allowance_of a ≡ b) × (declared_allowance b ≡ a) × (xs ≡ ys)
same_line b a xs ys e =
    let same : declared_allowance b ≡ a = cc in
    (sym (ap allowance_of same) ∙ allowance_same b, same, cc)

pub line_ok : (p : Problem) (round : Round) (s : State) (wanted : ℕ → ℕ) (i used : ℕ) (lines : List Allowance) (rest : List Item) (old mid new : FeedValue) (a : DeclaredAllowance) (allowed : Allowed)
    → old.reading ≡ first (Allows a) mid.reading → old.reading.items ≡ line_items lines ++ rest → new.reading ≡ mid.reading → new.line ≡ old.line + 1 → IsAllowed round.format p s wanted i used (allowance_of a) allowed
    → ((m : ℕ) → LineLooks (allowance_of a) p round s i m → new.used ≤ old.used + 1 + 2 * m) → IsLineJudged p round s wanted i used lines rest old (Ok allowed) new
line_ok p round s wanted i used [] rest old mid new a allowed took items same line is looks = tt
line_ok p round s wanted i used (b ∷ others) rest old mid new a allowed took items same line is looks =
    let e : Allows a ∷ mid.reading.items ≡ Allows (declared_allowance b) ∷ (line_items others ++ rest) = sym (ap (λ c. c.items) took) ∙ items in
    let v = same_line b a mid.reading.items (line_items others ++ rest) e in
    (ap (λ c. c.items) same ∙ v.2, line, subst (λ x. IsAllowed round.format p s wanted i used x allowed) v.0 is, λ m l. looks m (subst (λ x. LineLooks x p round s i m) (sym v.0) l))

pub line_stop_at : (p : Problem) (round : Round) (s : State) (wanted : ℕ → ℕ) (i used : ℕ) (lines : List Allowance) (rest : List Item) (old mid new : FeedValue) (a : DeclaredAllowance) (st : LineStop) (found : Halt)
    → old.reading ≡ first (Allows a) mid.reading → old.reading.items ≡ line_items lines ++ rest → AllowancesAreSpelled lines → IsStopAt (old.line + 1) st found → StopsAt st (IsAllowanceFault round.format p s wanted i used (allowance_of a)) (AllowanceIsSpelled a → ⊥)
    → (st ≡ line_stop.StepLimit → (m : ℕ) → LineLooks (allowance_of a) p round s i m → old.limit ≤ old.used + 1 + 2 * m) → IsLineJudged p round s wanted i used lines rest old (Err found) new
line_stop_at p round s wanted i used [] rest old mid new a st found took items spelled at stops looks = tt
line_stop_at p round s wanted i used (b ∷ others) rest old mid new a st found took items spelled at stops looks =
    let e : Allows a ∷ mid.reading.items ≡ Allows (declared_allowance b) ∷ (line_items others ++ rest) = sym (ap (λ c. c.items) took) ∙ items in
    let v = same_line b a mid.reading.items (line_items others ++ rest) e in
    by_stop st found at stops looks v.0 (subst AllowanceIsSpelled v.1 spelled.0)
  where
    by_stop : (st : LineStop) (found : Halt) → IsStopAt (old.line + 1) st found → StopsAt st (IsAllowanceFault round.format p s wanted i used (allowance_of a)) (AllowanceIsSpelled a → ⊥)
        → (st ≡ line_stop.StepLimit → (m : ℕ) → LineLooks (allowance_of a) p round s i m → old.limit ≤ old.used + 1 + 2 * m) → allowance_of a ≡ b → AllowanceIsSpelled a → IsLineJudged p round s wanted i used (b ∷ others) rest old (Err found) new
    by_stop (line_stop.Fault f) found at stops looks same is = subst (λ x. IsLineJudged p round s wanted i used (b ∷ others) rest old (Err x) new) (sym at) (stops.0, stops.1, subst (λ x. IsAllowanceFault round.format p s wanted i used x stops.0) same stops.2, refl)
    by_stop line_stop.Unspelled found at stops looks same is = absurd (stops is)
    by_stop line_stop.StepLimit found at stops looks same is = subst (λ x. IsLineJudged p round s wanted i used (b ∷ others) rest old (Err x) new) (sym at) (λ m l. looks refl m (subst (λ x. LineLooks x p round s i m) (sym same) l))
    by_stop line_stop.Memory found at stops looks same is = subst (λ x. IsLineJudged p round s wanted i used (b ∷ others) rest old (Err x) new) (sym at) tt

pub line_judged : (p : Problem) (round : Round) (s : State) (wanted : ℕ → ℕ) (i used : ℕ) (lines : List Allowance) (rest : List Item) (old mid new : FeedValue) (a : DeclaredAllowance) (judged : Result Allowed LineStop) (r : Result Allowed Halt)
    → TookLine old (Ok (Allows a)) mid → mid.limit ≡ old.limit → old.reading.items ≡ line_items lines ++ rest → new.reading ≡ mid.reading → new.line ≡ mid.line → AllowancesAreSpelled lines
    → MatchResult judged (IsAllowed round.format p s wanted i used (allowance_of a)) (λ st. StopsAt st (IsAllowanceFault round.format p s wanted i used (allowance_of a)) (AllowanceIsSpelled a → ⊥))
    → IfOk judged (λ _. (m : ℕ) → LineLooks (allowance_of a) p round s i m → new.used ≤ mid.used + 2 * m)
    → (IsErrOf judged line_stop.StepLimit → (m : ℕ) → LineLooks (allowance_of a) p round s i m → mid.limit ≤ mid.used + 2 * m)
    → IsJudgedAt mid.line judged r → IsLineJudged p round s wanted i used lines rest old r new
line_judged p round s wanted i used lines rest old mid new a (Ok x) (Ok y) took limit items same line spelled is looks stops at =
    subst (λ z. IsLineJudged p round s wanted i used lines rest old (Ok z) new) (sym at)
    (line_ok p round s wanted i used lines rest old mid new a x took.0 items same (line ∙ took.1) is (λ m l. omega (arith, looks m l, took.2)))
line_judged p round s wanted i used lines rest old mid new a (Err st) (Err found) took limit items same line spelled is looks stops at =
    line_stop_at p round s wanted i used lines rest old mid new a st found took.0 items spelled (subst (λ n. IsStopAt n st found) took.1 at) is (λ e m l. omega (arith, stops (ap Err e) m l, took.2, limit))
line_judged p round s wanted i used lines rest old mid new a (Ok x) (Err found) took limit items same line spelled is looks stops at = absurd at
line_judged p round s wanted i used lines rest old mid new a (Err st) (Ok y) took limit items same line spelled is looks stops at = absurd at

pub judged_small : (format : Format) (p : Problem) (s : State) (wanted : ℕ → ℕ) (i used line : ℕ) (a : Allowance) (judged : Result Allowed LineStop) (r : Result Allowed Halt) (Other : LineStop → Type 0)
    → MatchResult judged (IsAllowed format p s wanted i used a) Other → IsJudgedAt line judged r → IfOk r IsSmall
judged_small format p s wanted i used line a (Ok x) (Ok y) Other is at = subst IsSmall (sym at) (allowed_small format p s wanted i used a x is)
judged_small format p s wanted i used line a (Ok x) (Err found) Other is at = tt
judged_small format p s wanted i used line a (Err st) (Ok y) Other is at = absurd at
judged_small format p s wanted i used line a (Err st) (Err found) Other is at = tt

-- a call that only judges keeps what was read
pub kept_fed : {X : Type 0} (old new : FeedValue) (line : ℕ) (judged : Result X LineStop) (r : Result X Halt) → Fed old new → IsJudgedAt line judged r → IsFed old r new
kept_fed old new line (Ok x) (Ok y) f at = f
kept_fed {X = X} old new line (Err (line_stop.Fault k)) (Err found) f at = subst (λ z. IsFed {X = X} old (Err z) new) (sym at) f
kept_fed {X = X} old new line (Err line_stop.Unspelled) (Err found) f at = subst (λ z. IsFed {X = X} old (Err z) new) (sym at) f
kept_fed {X = X} old new line (Err line_stop.StepLimit) (Err found) f at = subst (λ z. IsFed {X = X} old (Err z) new) (sym at) f
kept_fed {X = X} old new line (Err line_stop.Memory) (Err found) f at = subst (λ z. IsFed {X = X} old (Err z) new) (sym at) tt
kept_fed old new line (Ok x) (Err found) f at = absurd at
kept_fed {X = X} old new line (Err st) (Ok y) f at = absurd at
