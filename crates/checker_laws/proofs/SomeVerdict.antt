-- No text that spells a certificate is without a verdict.
use Rattle.std.proofs.Common.{◌≡◌, ℕ, ◌+◌, ◌*◌, ◌≤◌, ◌<◌, Bool, true, false, List, [], ◌∷◌, length, Option, Some, None, refl, arith, ◌⊎◌, inl, inr, ⊎_elim, Contains}
use Rattle.std.proofs.lemmas.Bool.{cases_order}
use Rattle.grouping_laws.specs.Sets.{sum_by, contains}
use Rattle.grouping_laws.specs.Problem.{Problem}
use Rattle.grouping_laws.specs.Grouping.{Grouping, counts, sets_of}
use Rattle.grouping_laws.specs.GroupsFrom.{IsOrder}
use Rattle.grouping_laws.specs.Tolerance.{HasTolerance}
use Rattle.grouping_laws.proofs.Elements.{all_from_has, contains_from_has}
use Rattle.certificate_data.specs.declared.format.Format.{Format}
use Rattle.certificate_data.specs.Round.{Round}
use Rattle.certificate_laws.specs.State.{State, open_to, close, raise, empty_state}
use Rattle.certificate_laws.specs.Groups.{AreGroupsAt}
use Rattle.certificate_data.specs.Tree.{Weight, Allowance, room, weigh, Leaf, bound, Tree, leaf, branch, Takes, no_take, take, stuck, seats}
use Rattle.certificate_laws.specs.BoundLines.{weight_of, allowance, IsFair, Bounds}
use Rattle.certificate_laws.specs.Leaves.{IsStuck, IsOffSeats}
use Rattle.certificate_laws.specs.Proving.{limit_of, CanBranch, NamesLimit}
use Rattle.certificate_data.specs.TreeValue.{Certificate}
use Rattle.certificate_text.specs.Spelling.{IsSpelling}
use Rattle.checker_laws.specs.Fault.{Fault, WrongWindow, WrongOrder, LimitTooSmall, TargetFault, WrongCounty, MissingGroup, StrayGroup, LightGroup, BoundOver, BoundLength, NotStuck, SeatsOpen, BoundWithoutTarget, NoLeaf}
use Rattle.checker_laws.specs.End.{End, fine, faulty, LinesEnd, LineEnds, Then}
use Rattle.checker_laws.specs.Leaves.{IsStuckFault, IsSeatsFault, NamesForeign, HasLightGroup, allowed, IsWithinTarget, IsLoss, IsEven, IsAllowanceFault, AllowancesEnd, BoundedEnds, BoundEnds, LeafEnds}
use Rattle.checker_laws.specs.Branches.{IsBranchFault, BranchEnds, IsNextTake, behind, IsTakeFault, TakeEnds, IsMarkFault}
use Rattle.checker_laws.specs.Lines.{tolerance_line, target_lines}
use Rattle.checker_laws.specs.Trees.{TreeEnds, TakesEnd}
use Rattle.checker_laws.specs.Verdict.{IsToleranceFault, IsOrderFault, IsLargeEnough, IsLimitFault, IsLawfulTarget, IsTargetFault, RestEnds, CertificateEnds, CertificateVerdict, verdict_of}
use Rattle.checker_laws.specs.TextVerdict.{IsTextVerdict}
use Rattle.checker_laws.proofs.Listings.{NotNone, here, then_some, either_way}
use Rattle.checker_laws.proofs.SomeCost.{groups_there}
use Rattle.checker_laws.proofs.TargetFaults.{at_most, above_limit, lawful_or}
use Rattle.checker_laws.proofs.Readable.{IsFormedLine, AreFormedLines, IsFormedLeaf, IsFormed, AreFormed, formed_of_fits}

-- some end
abbrev Ends : (End → Type 0) → Type 0
Ends Kind = (end : End) × Kind end

-- it holds, or there is a fault
abbrev HoldsOr : Type 0 → (Fault → Type 0) → Type 0
HoldsOr Holds Fails = Holds ⊎ ((fault : Fault) × Fails fault)

decided : (Holds : Type 0) (Fails : Fault → Type 0) → ((Holds → ⊥) → NotNone ((fault : Fault) × Fails fault)) → NotNone (HoldsOr Holds Fails)
decided Holds Fails h = then_some (either_way Holds) (λ o. ⊎_elim (λ x. here (inl x)) (λ never. then_some (h never) (λ f. here (inr f))) o)

lines_end : (n : ℕ) (Holds : Type 0) (Fails : Fault → Type 0) (line : ℕ) → NotNone (HoldsOr Holds Fails) → NotNone (Ends (LinesEnd n Holds Fails line))
lines_end n Holds Fails line h = then_some h (λ o. ⊎_elim (λ x. here (fine (line + n), (x, refl))) (λ f. here (faulty f.0 line, (f.1, refl))) o)

module _ (First : End → Type 0) (Second : ℕ → End → Type 0) where
  ends_behind : (n : ℕ) → First (fine n) → (end : End) → Second n end → Ends (Then First Second)
  ends_behind n f (fine m) s = (fine m, (n, f, s))
  ends_behind n f (faulty kind line) s = (faulty kind line, inr (n, f, s))

  ends_after : ((n : ℕ) → First (fine n) → NotNone (Ends (Second n))) → (end : End) → First end → NotNone (Ends (Then First Second))
  ends_after h (fine n) f = then_some (h n f) (λ e. here (ends_behind n f e.0 e.1))
  ends_after h (faulty kind line) f = here (faulty kind line, inl f)

  then_ends : NotNone (Ends First) → ((n : ℕ) → First (fine n) → NotNone (Ends (Second n))) → NotNone (Ends (Then First Second))
  then_ends a h = then_some a (λ e. ends_after h e.0 e.1)

-- a line of a bound leaf
module _ (format : Format) (p : Problem) (s : State) (wanted : ℕ → ℕ) (i used : ℕ) where
  known : (weights : List Weight) → ((w : Weight) × Contains weights w × (contains p.counties w.county ≡ false) → ⊥) → (w : Weight) → Contains weights w → contains p.counties w.county ≡ true
  known weights never w h = go (contains p.counties w.county) refl
    where
      go : (b : Bool) → contains p.counties w.county ≡ b → contains p.counties w.county ≡ true
      go true e = e
      go false e = absurd (never (w, h, e))

  unfair : (line : Allowance) → IsFormedLine line → (IsFair format p s i line → ⊥) → NotNone ((fault : Fault) × IsAllowanceFault format p s wanted i used line fault)
  unfair room quota never = absurd (never tt)
  unfair (weigh quota weights) formed never =
      then_some (either_way (NamesForeign p (weigh quota weights)))
      (λ o. ⊎_elim (λ f. here (WrongCounty, inl (refl, f)))
      (λ none. then_some (either_way (HasLightGroup format p s i (weigh quota weights)))
      (λ q. ⊎_elim (λ l. here (LightGroup, inr (inl (refl, l))))
      (λ heavy. absurd (never (
        formed.0,
        all_from_has (λ w. contains p.counties w.county ≡ true) weights (λ w h. known weights none w (contains_from_has weights w h)),
        λ g f e. at_most quota (sum_by (weight_of weights) g) (λ less. heavy (known weights none, (g, f, e, less))),
      )))
      q))
      o)

  fair_or_over : (line : Allowance) → IsFair format p s i line → HoldsOr (IsWithinTarget format p s wanted i used line) (IsAllowanceFault format p s wanted i used line)
  fair_or_over line fair =
      ⊎_elim (λ e. inl (fair, omega (arith, e))) (λ o. ⊎_elim (λ l. inl (fair, omega (arith, l))) (λ l. inr (BoundOver, inr (inr (refl, fair, l)))) o) (cases_order (allowed p s i used line) (wanted i))

  line_or : (line : Allowance) → IsFormedLine line → NotNone (HoldsOr (IsWithinTarget format p s wanted i used line) (IsAllowanceFault format p s wanted i used line))
  line_or line quota = then_some (either_way (IsFair format p s i line)) (λ o. ⊎_elim (λ f. here (fair_or_over line f)) (λ never. then_some (unfair line quota never) (λ f. here (inr f))) o)

  loss_or_even : (line : Allowance) → allowed p s i used line ≤ wanted i → IsLoss p s wanted i used line ⊎ IsEven p s wanted i used line
  loss_or_even line h = ⊎_elim inr (λ o. ⊎_elim inl (λ l. absurd (omega (arith, l, h))) o) (cases_order (allowed p s i used line) (wanted i))

lines_judged : (lines : List Allowance) (format : Format) (p : Problem) (s : State) (wanted : ℕ → ℕ) (i used n : ℕ) → AreFormedLines lines → NotNone (Ends (AllowancesEnd lines format p s wanted i used n))
lines_judged [] format p s wanted i used n quotas = lines_end 0 (Unit {0}) (λ fault. ⊥) n (here (inl tt))
lines_judged (line ∷ lines) format p s wanted i used n quotas =
    let now = used + i * allowance p s i used line in
    let second : ℕ → End → Type 0 = λ next later. (IsLoss p s wanted i used line × (later ≡ fine next)) ⊎ (IsEven p s wanted i used line × AllowancesEnd lines format p s wanted (i + 1) now next later) in
    then_ends (LineEnds (IsWithinTarget format p s wanted i used line) (IsAllowanceFault format p s wanted i used line) n) second
    (lines_end 1 (IsWithinTarget format p s wanted i used line) (IsAllowanceFault format p s wanted i used line) n (line_or format p s wanted i used line quotas.0))
    (λ m f. ⊎_elim (λ loss. here (fine m, inl (loss, refl))) (λ even. then_some (lines_judged lines format p s wanted (i + 1) now m quotas.1) (λ e. here (e.0, inr (even, e.1)))) (loss_or_even format p s wanted i used line f.0.1))

module _ (lines : List Allowance) (p : Problem) (round : Round) (s : State) (wanted : ℕ → ℕ) (i used opened n : ℕ) where
  bounded_by : (end : End) → AllowancesEnd lines round.format p s wanted i used n end → NotNone (Ends (BoundedEnds lines p round s wanted i used opened n))
  bounded_by (fine next) a =
      then_some (either_way (Bounds round.format p round.limit s wanted i used lines))
      (λ o. here (⊎_elim (λ b. (fine (n + length lines), (b, refl))) (λ never. (faulty BoundLength opened, inr (refl, refl, (next, a), never))) o))
  bounded_by (faulty kind line) a = here (faulty kind line, inl a)

bound_ends : (lines : List Allowance) (p : Problem) (round : Round) (s : State) (target : Option Grouping) (opened : ℕ) → AreFormedLines lines → NotNone (Ends (BoundEnds lines p round s target opened))
bound_ends lines p round s None opened quotas = here (faulty BoundWithoutTarget opened, refl)
bound_ends lines p round s (Some target) opened quotas =
    then_some (either_way (round.limit < length lines))
    (λ o. ⊎_elim (λ l. here (faulty BoundLength opened, inl (l, refl)))
    (λ never. then_some (lines_judged lines round.format p s (counts (sets_of target)) 1 0 (opened + 1) quotas)
    (λ a. then_some (bounded_by lines p round s (counts (sets_of target)) 1 0 opened (opened + 1) a.0 a.1) (λ e. here (e.0, inr (at_most (length lines) round.limit never, e.1)))))
    o)

stuck_fault : (p : Problem) (s : State) (county : ℕ) → (IsStuck p s county → ⊥) → (b : Bool) → s.rest county ≡ b → (fault : Fault) × IsStuckFault p s county fault
stuck_fault p s county never true e = (NotStuck, inr (refl, e, never))
stuck_fault p s county never false e = (WrongCounty, inl (refl, e))

leaf_ends : (l : Leaf) (p : Problem) (round : Round) (s : State) (line : ℕ) → IsFormedLeaf l → NotNone (Ends (LeafEnds l p round s line))
leaf_ends (stuck county) p round s line formed = lines_end 1 (IsStuck p s county) (IsStuckFault p s county) line (decided (IsStuck p s county) (IsStuckFault p s county) (λ never. here (stuck_fault p s county never (s.rest county) refl)))
leaf_ends seats p round s line formed = lines_end 1 (IsOffSeats p s) (IsSeatsFault p s) line (decided (IsOffSeats p s) (IsSeatsFault p s) (λ never. here (SeatsOpen, (refl, never))))
leaf_ends (bound lines) p round s line formed = bound_ends lines p round s round.target line formed

closed_off : (s : State) (limit c : ℕ) → ((c : ℕ) × (open_to s limit c ≡ true) → ⊥) → open_to s limit c ≡ false
closed_off s limit c never = go (open_to s limit c) refl
  where
    go : (b : Bool) → open_to s limit c ≡ b → open_to s limit c ≡ false
    go true e = absurd (never (c, e))
    go false e = e

branch_fault : (round : Round) (s : State) (county limit : ℕ) → (CanBranch round s county limit → ⊥) → NotNone ((fault : Fault) × IsBranchFault round s county limit fault)
branch_fault round s county limit never =
    then_some (either_way ((c : ℕ) × (open_to s limit c ≡ true))) (λ o. here (⊎_elim (λ c. (WrongCounty, inr (refl, c, never))) (λ none. (NoLeaf, inl (refl, λ c. closed_off s limit c none))) o))

take_fault : (groups : List (List ℕ)) (codes : List ℕ) → (IsNextTake groups codes → ⊥) → NotNone ((fault : Fault) × IsTakeFault groups codes fault)
take_fault groups codes never = then_some (either_way (Contains groups codes)) (λ o. here (⊎_elim (λ c. (MissingGroup, inl (refl, c, never))) (λ none. (StrayGroup, inr (refl, none))) o))

branch_ends : (round : Round) (s : State) (county : ℕ) (limit : Option ℕ) (line : ℕ) → NamesLimit round.format limit → NotNone (Ends (BranchEnds round s county limit line))
branch_ends round s county limit line names =
    let j = limit_of round limit in
    lines_end 1 (NamesLimit round.format limit × CanBranch round s county j) (IsBranchFault round s county j) line
    (decided (NamesLimit round.format limit × CanBranch round s county j) (IsBranchFault round s county j) (λ never. branch_fault round s county j (λ can. never (names, can))))

mutual
  tree_ends : (tree : Tree) (p : Problem) (round : Round) (s : State) (line : ℕ) → IsFormed round.format tree → NotNone (Ends (TreeEnds tree p round s line))
  tree_ends (leaf l) p round s line formed = leaf_ends l p round s line formed
  tree_ends (branch c limit takes raised) p round s line formed =
      let j = limit_of round limit in
      let second : ℕ → End → Type 0 = λ next later. (groups : List (List ℕ)) × AreGroupsAt p round s c j groups × Then (TakesEnd takes p round s groups next) (TreeEnds raised p round (raise c j s)) later in
      then_ends (BranchEnds round s c limit line) second (branch_ends round s c limit line formed.0)
      (λ m f. then_some (groups_there p round s c j)
      (λ gs. then_some (then_ends (TakesEnd takes p round s gs.0 m) (TreeEnds raised p round (raise c j s)) (takes_end takes p round s gs.0 m formed.1) (λ k h. tree_ends raised p round (raise c j s) k formed.2))
      (λ e. here (e.0, (gs.0, gs.1, e.1)))))

  takes_end : (takes : Takes) (p : Problem) (round : Round) (s : State) (groups : List (List ℕ)) (line : ℕ) → AreFormed round.format takes → NotNone (Ends (TakesEnd takes p round s groups line))
  takes_end no_take p round s groups line formed = lines_end 1 (groups ≡ []) (IsMarkFault groups) line (decided (groups ≡ []) (IsMarkFault groups) (λ never. here (MissingGroup, (refl, never))))
  takes_end (take codes tree others) p round s groups line formed =
      then_ends (TakeEnds groups codes line) (λ next later. Then (TreeEnds tree p round (close codes s) next) (TakesEnd others p round s (behind groups)) later)
      (lines_end 1 (IsNextTake groups codes) (IsTakeFault groups codes) line (decided (IsNextTake groups codes) (IsTakeFault groups codes) (take_fault groups codes)))
      (λ m f. then_ends (TreeEnds tree p round (close codes s) m) (TakesEnd others p round s (behind groups)) (tree_ends tree p round (close codes s) m formed.0) (λ k h. takes_end others p round s (behind groups) k formed.1))

limit_or : (limit : ℕ) (target : Option Grouping) → NotNone (HoldsOr (IsLargeEnough limit target) (IsLimitFault limit target))
limit_or limit None = here (inl tt)
limit_or limit (Some target) = decided (IsLargeEnough limit (Some target)) (IsLimitFault limit (Some target)) (λ never. then_some (above_limit limit target never) (λ g. here (LimitTooSmall, (refl, g))))

target_or : (p : Problem) (target : Option Grouping) → NotNone (HoldsOr (IsLawfulTarget p target) (IsTargetFault p target))
target_or p None = here (inl tt)
target_or p (Some target) = then_some (lawful_or p target) (λ o. here (⊎_elim inl (λ f. inr (TargetFault f.0, (f.0, refl, f.1, f.2))) o))

rest_ends : (p : Problem) (round : Round) (tree : Tree) (second : ℕ) → IsFormed round.format tree → NotNone (Ends (RestEnds p round tree second))
rest_ends p round tree second formed =
    let fourth : ℕ → End → Type 0 = λ line. Then (LinesEnd (1 + target_lines round.target) (IsLawfulTarget p round.target) (IsTargetFault p round.target) line) (TreeEnds tree p round (empty_state p)) in
    let third : ℕ → End → Type 0 = λ line. Then (LineEnds (IsLargeEnough round.limit round.target) (IsLimitFault round.limit round.target) line) fourth in
    then_ends (LineEnds (IsOrder p round.order) (IsOrderFault p round) second) third
    (lines_end 1 (IsOrder p round.order) (IsOrderFault p round) second (decided (IsOrder p round.order) (IsOrderFault p round) (λ never. here (WrongOrder, (refl, never)))))
    (λ l f. then_ends (LineEnds (IsLargeEnough round.limit round.target) (IsLimitFault round.limit round.target) l) fourth
    (lines_end 1 (IsLargeEnough round.limit round.target) (IsLimitFault round.limit round.target) l (limit_or round.limit round.target))
    (λ m g. then_ends (LinesEnd (1 + target_lines round.target) (IsLawfulTarget p round.target) (IsTargetFault p round.target) m) (TreeEnds tree p round (empty_state p))
    (lines_end (1 + target_lines round.target) (IsLawfulTarget p round.target) (IsTargetFault p round.target) m (target_or p round.target))
    (λ n h. tree_ends tree p round (empty_state p) n formed)))

certificate_ends : (p : Problem) (round : Round) (tree : Tree) → IsFormed round.format tree → NotNone (Ends (CertificateEnds p round tree))
certificate_ends p round tree formed =
    then_ends (LineEnds (HasTolerance p round.tolerance) (IsToleranceFault p round) (tolerance_line round.tolerance)) (RestEnds p round tree)
    (lines_end 1 (HasTolerance p round.tolerance) (IsToleranceFault p round) (tolerance_line round.tolerance) (decided (HasTolerance p round.tolerance) (IsToleranceFault p round) (λ never. here (WrongWindow, (refl, never)))))
    (λ second h. rest_ends p round tree second formed)

pub some_verdict : (p : Problem) (text : List ℕ) (c : Certificate) → IsSpelling text c → NotNone ((x : CertificateVerdict) × IsTextVerdict p text x)
some_verdict p text c is = then_some (certificate_ends p c.round c.tree (formed_of_fits c is.fits)) (λ e. here (verdict_of c.round.target e.0, (c, is, (e.0, e.1, refl))))
