-- What is left of a tree, and what each line does to it.
use Rattle.std.proofs.Common.{◌≡◌, ℕ, ◌+◌, ◌*◌, ◌≤◌, List, ◌∷◌, ◌++◌, length, Option, Result, Ok, Err, IfOk, IsErrOf, MatchResult, refl, sym, ◌∙◌, ap, subst, arith}
use Rattle.grouping_laws.specs.Problem.{Problem}
use Rattle.certificate_data.specs.declared.format.Format.{Format}
use Rattle.certificate_data.specs.Round.{Round}
use Rattle.certificate_laws.specs.State.{State, raise}
use Rattle.certificate_laws.specs.Groups.{AreGroupsAt, IsSetAt}
use Rattle.certificate_data.specs.Tree.{Leaf, Tree, leaf, stuck, seats, bound, branch, Takes}
use Rattle.certificate_laws.specs.Proving.{limit_of, NamesLimit, CanBranch}
use Rattle.certificate_text.specs.Trees.{items_of_tree}
use Rattle.certificate_lines.specs.declared.item.Item.{Item}
use Rattle.certificate_lines.specs.declared.item.Item.TheVariants as item
use Rattle.certificate_lines.specs.declared.item.Opening.{Opening}
use Rattle.certificate_lines.specs.declared.item.Opening.TheVariants as opening
use Rattle.certificate_data.specs.Tree.{Allowance}
use Rattle.checker_laws.specs.Branches.{IsBranchFault}
use Rattle.checker_laws.specs.Cost.{IsSetCount}
use Rattle.checker_laws.specs.Work.{Open, a_tree, some_takes}
use Rattle.state_judge.specs.LineStops.{StopsAt}
use Rattle.state_judge.specs.declared.fault.LineStop.{LineStop}
use Rattle.state_judge.specs.declared.fault.LineStop.TheVariants as line_stop
use Rattle.certificate_checker.specs.ReadableTrees.{IsReadable, AreReadable, AllowancesAreSpelled}
use Rattle.certificate_checker.specs.Feeding.{FeedValue, Fed, IsFed, TookLine, Reaches, Halts, items_to_mark}
use Rattle.certificate_checker.specs.Judging.{IsJudged, IsLeafJudged, IsJudgedAt, AreTakesListed, IsBranchRefused, IsBranchJudged, TookForm, line_items}
use Rattle.certificate_checker.specs.declared.feed.Halt.{Halt}
use Rattle.certificate_checker.specs.declared.feed.Halt.TheVariants as stop
use Rattle.certificate_checker.proofs.Views.{view_branch, view_stuck, view_seats, view_bound, tree_opens}
use Rattle.certificate_checker.proofs.Reaching.{reaches_twice, halts_back}
use Rattle.certificate_checker.proofs.Branching.{leaf_reaches, branch_reaches, branch_halts}
use Rattle.certificate_checker.proofs.Takes.{form_halts, rest_few}

-- this tree is left, where all was reached from before
abbrev pub TreeLeft : Format → Problem → Round → State → List Item → List Open → FeedValue → FeedValue → List Open → Type 0
TreeLeft format p round s rest more old cur before =
    (raised : Tree)
    × IsReadable format raised
    × (cur.reading.items ≡ items_of_tree raised ++ rest)
    × Reaches p round old cur before (a_tree raised s ∷ more)

-- the takes that are next are judged against these groups
abbrev pub TakesJudged : {X : Type 0} → Format → Problem → Round → State → List (List ℕ) → FeedValue → Result X Halt → FeedValue → Type 0
TakesJudged format p round s groups old r new =
    (takes : Takes) (rest : List Item) (more : List Open)
    → AreReadable format takes
    → old.reading.items ≡ items_to_mark takes ++ rest
    → IsJudged p round (some_takes takes s groups ∷ more) more rest old r new

-- what was judged further on was judged from the start
pub judged_back : {X : Type 0} (p : Problem) (round : Round) (old cur new : FeedValue) (before mid after : List Open) (rest : List Item) (r : Result X Halt)
    → Reaches p round old cur before mid → Fed old cur → IsJudged p round mid after rest cur r new → IsJudged p round before after rest old r new
judged_back p round old cur new before mid after rest (Ok done) reaches fed h = (h.0, reaches_twice p round old cur new before mid after reaches h.1)
judged_back p round old cur new before mid after rest (Err st) reaches fed h = halts_back p round old cur before mid rest rest st reaches fed (omega (arith)) h

-- no line that opens a tree was read
pub tree_unread : (format : Format) (p : Problem) (round : Round) (s : State) (rest : List Item) (more : List Open) (old cur mid : FeedValue) (before : List Open) (st : Halt)
    → TreeLeft format p round s rest more old cur before → Fed old cur → TookForm {Y = Opening} item.Opens (λ o. o) cur (Err st) mid → Halts p round old before rest st
tree_unread format p round s rest more old cur mid before st h fed took =
    halts_back p round old cur before (a_tree h.0 s ∷ more) rest rest st h.3 fed (omega (arith))
    (form_halts Opening Opening item.Opens (λ o. o) p round (a_tree h.0 s ∷ more) rest cur mid st (λ P k. tree_opens P h.0 rest (λ o xs e. k o xs (h.2 ∙ e))) (rest_few (items_of_tree h.0) rest cur.reading.items h.2) took)

-- a leaf is left
pub leaf_left : (format : Format) (p : Problem) (round : Round) (s : State) (last : Leaf) (rest : List Item) (more : List Open) (old cur mid new : FeedValue) (before : List Open) (x : Item) (r : Result (Unit {0}) Halt)
    → (h : TreeLeft format p round s rest more old cur before) → h.0 ≡ leaf last → Fed old cur → TookLine cur (Ok x) mid → mid.limit ≡ cur.limit
    → IsLeafJudged p round s last rest mid r new → IsJudged p round before more rest old r new
leaf_left format p round s last rest more old cur mid new before x r h same fed took limit judged =
    judged_back p round old cur new before (a_tree (leaf last) s ∷ more) more rest r (subst (λ t. Reaches p round old cur before (a_tree t s ∷ more)) same h.3) fed
    (leaf_reaches p round s last cur mid new rest more x r took limit judged)

pub stuck_left : (format : Format) (p : Problem) (round : Round) (s : State) (county : ℕ) (rest : List Item) (more : List Open) (old cur mid : FeedValue) (before : List Open) (r : Result (Unit {0}) Halt)
    → TreeLeft format p round s rest more old cur before → Fed old cur → TookLine cur (Ok (item.Opens (opening.Stuck county))) mid → mid.limit ≡ cur.limit
    → IsLeafJudged p round s (stuck county) mid.reading.items mid r mid → IsJudged p round before more rest old r mid
stuck_left format p round s county rest more old cur mid before r h fed took limit judged =
    let v = view_stuck h.0 county rest mid.reading.items (sym (ap (λ c. c.items) took.0) ∙ h.2) in
    leaf_left format p round s (stuck county) rest more old cur mid mid before (item.Opens (opening.Stuck county)) r h v.0 fed took limit
    (subst (λ z. IsLeafJudged p round s (stuck county) z mid r mid) v.1 judged)

pub seats_left : (format : Format) (p : Problem) (round : Round) (s : State) (rest : List Item) (more : List Open) (old cur mid : FeedValue) (before : List Open) (r : Result (Unit {0}) Halt)
    → TreeLeft format p round s rest more old cur before → Fed old cur → TookLine cur (Ok (item.Opens opening.Seats)) mid → mid.limit ≡ cur.limit
    → IsLeafJudged p round s seats mid.reading.items mid r mid → IsJudged p round before more rest old r mid
seats_left format p round s rest more old cur mid before r h fed took limit judged =
    let v = view_seats h.0 rest mid.reading.items (sym (ap (λ c. c.items) took.0) ∙ h.2) in
    leaf_left format p round s seats rest more old cur mid mid before (item.Opens opening.Seats) r h v.0 fed took limit
    (subst (λ z. IsLeafJudged p round s seats z mid r mid) v.1 judged)

pub bound_left : (format : Format) (p : Problem) (round : Round) (s : State) (count : ℕ) (rest : List Item) (more : List Open) (old cur mid new : FeedValue) (before : List Open) (r : Result (Unit {0}) Halt)
    → TreeLeft format p round s rest more old cur before → Fed old cur → TookLine cur (Ok (item.Opens (opening.Bound count))) mid → mid.limit ≡ cur.limit
    → ((lines : List Allowance) (rest : List Item) → AllowancesAreSpelled lines → length lines ≡ count → mid.reading.items ≡ line_items lines ++ rest → IsLeafJudged p round s (bound lines) rest mid r new)
    → IsJudged p round before more rest old r new
bound_left format p round s count rest more old cur mid new before r h fed took limit judged =
    let v = view_bound h.0 count rest mid.reading.items (sym (ap (λ c. c.items) took.0) ∙ h.2) in
    leaf_left format p round s (bound v.0) rest more old cur mid new before (item.Opens (opening.Bound count)) r h v.1 fed took limit
    (judged v.0 rest (subst (IsReadable format) v.1 h.1) v.2 v.3)

-- the branch's line is the first of those left
branch_first : (format : Format) (p : Problem) (round : Round) (s : State) (county : ℕ) (limit : Option ℕ) (rest : List Item) (more : List Open) (old cur mid : FeedValue) (before : List Open)
    → TreeLeft format p round s rest more old cur before → TookLine cur (Ok (item.Opens (opening.Branch county limit))) mid
    → (takes : Takes) × (raised : Tree) × IsReadable format (branch county limit takes raised) × (mid.reading.items ≡ items_to_mark takes ++ (items_of_tree raised ++ rest))
    × (cur.reading.items ≡ items_of_tree (branch county limit takes raised) ++ rest) × Reaches p round old cur before (a_tree (branch county limit takes raised) s ∷ more)
branch_first format p round s county limit rest more old cur mid before h took =
    let v = view_branch h.0 county limit rest mid.reading.items (sym (ap (λ c. c.items) took.0) ∙ h.2) in
    (v.0, v.1, subst (IsReadable format) v.2 h.1, v.3, subst (λ t. cur.reading.items ≡ items_of_tree t ++ rest) v.2 h.2, subst (λ t. Reaches p round old cur before (a_tree t s ∷ more)) v.2 h.3)

-- the judging of the branch stopped
pub branch_stops : (p : Problem) (round : Round) (s : State) (county : ℕ) (limit : Option ℕ) (rest : List Item) (more : List Open) (old cur mid : FeedValue) (before : List Open) (st : Halt)
    → TreeLeft round.format p round s rest more old cur before → Fed old cur → TookLine cur (Ok (item.Opens (opening.Branch county limit))) mid → mid.limit ≡ cur.limit
    → IsBranchRefused p round s county limit mid st → Halts p round old before rest st
branch_stops p round s county limit rest more old cur mid before st h fed took same refused =
    let v = branch_first round.format p round s county limit rest more old cur mid before h took in
    halts_back p round old cur before (a_tree (branch county limit v.0 v.1) s ∷ more) rest rest st v.5 fed (omega (arith))
    (refused cur (item.Opens (opening.Branch county limit)) v.0 v.1 rest more took same v.2.0 v.4)

-- the takes of the branch were judged, and its county was raised
pub branch_on : {X : Type 0} (p : Problem) (round : Round) (s next : State) (county : ℕ) (limit : Option ℕ) (groups : List (List ℕ)) (rest : List Item) (more : List Open) (old cur mid listed new : FeedValue) (before : List Open) (done : X)
    → TreeLeft round.format p round s rest more old cur before → TookLine cur (Ok (item.Opens (opening.Branch county limit))) mid
    → AreTakesListed p round s county limit groups mid listed → listed.reading ≡ mid.reading → next ≡ raise county (limit_of round limit) s
    → TakesJudged round.format p round s groups listed (Ok done) new → TreeLeft round.format p round next rest more old new before
branch_on p round s next county limit groups rest more old cur mid listed new before done h took is same value judged =
    let v = branch_first round.format p round s county limit rest more old cur mid before h took in
    let work : List Open = a_tree v.1 (raise county (limit_of round limit) s) ∷ more in
    let whole : List Open = a_tree (branch county limit v.0 v.1) s ∷ more in
    let j = judged v.0 (items_of_tree v.1 ++ rest) work v.2.1 (ap (λ c. c.items) same ∙ v.3) in
    let step = is cur (item.Opens (opening.Branch county limit)) v.0 v.1 more took v.2.0 in
    let far = reaches_twice p round old cur new before whole work v.5 (reaches_twice p round cur listed new whole (some_takes v.0 s groups ∷ work) work step j.1) in
    (v.1, v.2.2, sym j.0, subst (λ z. Reaches p round old new before (a_tree v.1 z ∷ more)) (sym value) far)

-- the judging of the takes of the branch stopped
pub branch_off : (p : Problem) (round : Round) (s : State) (county : ℕ) (limit : Option ℕ) (groups : List (List ℕ)) (rest : List Item) (more : List Open) (old cur mid listed new : FeedValue) (before : List Open) (st : Halt)
    → TreeLeft round.format p round s rest more old cur before → Fed old listed → TookLine cur (Ok (item.Opens (opening.Branch county limit))) mid
    → AreTakesListed p round s county limit groups mid listed → listed.reading ≡ mid.reading
    → TakesJudged {X = Unit {0}} round.format p round s groups listed (Err st) new → Halts p round old before rest st
branch_off p round s county limit groups rest more old cur mid listed new before st h fed took is same judged =
    let v = branch_first round.format p round s county limit rest more old cur mid before h took in
    let work : List Open = a_tree v.1 (raise county (limit_of round limit) s) ∷ more in
    let whole : List Open = a_tree (branch county limit v.0 v.1) s ∷ more in
    let j = judged v.0 (items_of_tree v.1 ++ rest) work v.2.1 (ap (λ c. c.items) same ∙ v.3) in
    let step = is cur (item.Opens (opening.Branch county limit)) v.0 v.1 more took v.2.0 in
    halts_back p round old listed before (some_takes v.0 s groups ∷ work) rest (items_of_tree v.1 ++ rest) st
    (reaches_twice p round old cur listed before whole (some_takes v.0 s groups ∷ work) v.5 step) fed (rest_few (items_of_tree v.1) rest (items_of_tree v.1 ++ rest) refl) j

-- what judging the branch's line gave
pub branch_judged : (X : Type 0) (sets : X → List (List ℕ)) (p : Problem) (round : Round) (s : State) (county : ℕ) (limit : Option ℕ) (order : List ℕ) (mid : FeedValue) (most used : ℕ) (judged : Result X LineStop) (r : Result X Halt)
    → order ≡ round.order
    → MatchResult judged (λ b. NamesLimit round.format limit × CanBranch round s county (limit_of round limit) × AreGroupsAt p round s county (limit_of round limit) (sets b)) (λ st. StopsAt st (IsBranchFault round s county (limit_of round limit)) (NamesLimit round.format limit → ⊥))
    → IfOk judged (λ b. (m : ℕ) → IsSetCount order (IsSetAt p order s county (limit_of round limit)) m → used ≤ mid.used + 2 * m)
    → (IsErrOf judged line_stop.StepLimit → NamesLimit round.format limit × CanBranch round s county (limit_of round limit) × ((m : ℕ) → IsSetCount order (IsSetAt p order s county (limit_of round limit)) m → mid.limit ≤ mid.used + 2 * m))
    → IsJudgedAt mid.line judged r
    → IsBranchJudged sets p round s county limit mid r (record mid { limit = most; used = used })
branch_judged X sets p round s county limit order mid most used (Ok b) (Ok c) same is looks stops at =
    subst (λ z. AreTakesListed p round s county limit (sets z) mid (record mid { limit = most; used = used })) (sym at)
    (λ old x takes raised more took names.
    let r = branch_reaches p round s county limit takes raised (sets b) more old mid used x took names is.1 is.2 (subst (λ o. (m : ℕ) → IsSetCount o (IsSetAt p o s county (limit_of round limit)) m → used ≤ mid.used + 2 * m) same looks) in
    record { ends = r.ends; looks = r.looks })
branch_judged X sets p round s county limit order mid most used (Err st) (Err found) same is looks stops at = λ old x takes raised rest more took limits names items.
    branch_halts p round s county limit takes raised more old mid rest x st found took limits names items is
    (λ e. let k = stops (ap Err e) in (k.1, subst (λ o. (m : ℕ) → IsSetCount o (IsSetAt p o s county (limit_of round limit)) m → mid.limit ≤ mid.used + 2 * m) same k.2)) at
branch_judged X sets p round s county limit order mid most used (Ok b) (Err found) same is looks stops at = absurd at
branch_judged X sets p round s county limit order mid most used (Err st) (Ok c) same is looks stops at = absurd at

-- what the judging of a line gave, the reading gives
pub kept_ok : (X : Type 0) (P : X → Type 0) (line : ℕ) (judged : Result X LineStop) (r : Result X Halt) → IfOk judged P → IsJudgedAt line judged r → IfOk r P
kept_ok X P line (Ok x) (Ok y) is at = subst P (sym at) is
kept_ok X P line (Err st) (Err found) is at = tt
kept_ok X P line (Ok x) (Err found) is at = tt
kept_ok X P line (Err st) (Ok y) is at = absurd at

-- a leaf of one line keeps what was read
pub leaf_fed : (p : Problem) (round : Round) (s : State) (last : Leaf) (old mid : FeedValue) (r : Result (Unit {0}) Halt) → Fed old mid → IsLeafJudged p round s last mid.reading.items mid r mid → IsFed old r mid
leaf_fed p round s last old mid (Ok done) fed h = fed
leaf_fed p round s last old mid (Err (stop.Fault f l)) fed h = fed
leaf_fed p round s last old mid (Err (stop.Text f)) fed h = absurd h
leaf_fed p round s last old mid (Err stop.Unspelled) fed h = fed
leaf_fed p round s last old mid (Err stop.Budget) fed h = fed
leaf_fed p round s last old mid (Err stop.Refused) fed h = tt
