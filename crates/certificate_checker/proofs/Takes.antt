-- What is left of the takes of a branch, and what each line does to it.
use Rattle.std.proofs.Common.{◌≡◌, ◌≢◌, ℕ, suc, Bool, All, ◌+◌, ◌≤◌, List, [], ◌∷◌, ◌++◌, length, Option, Result, Ok, Err, refl, sym, ◌∙◌, ap, subst, arith}
use Rattle.std.proofs.lemmas.List.{length-append}
use Rattle.grouping_laws.specs.Problem.{Problem}
use Rattle.certificate_data.specs.declared.format.Format.{Format}
use Rattle.certificate_data.specs.Round.{Round}
use Rattle.certificate_laws.specs.State.{State, close}
use Rattle.certificate_data.specs.Tree.{Tree, Takes, no_take, take}
use Rattle.certificate_text.specs.Trees.{items_of_tree}
use Rattle.certificate_lines.specs.Items.{taken}
use Rattle.certificate_lines.specs.declared.item.Item.{Item}
use Rattle.certificate_lines.specs.declared.item.Item.TheVariants as item
use Rattle.checker_laws.specs.End.{faulty}
use Rattle.checker_laws.specs.Fault as fault
use Rattle.checker_laws.specs.Branches.{IsNextTake, behind}
use Rattle.checker_laws.specs.Work.{Open, a_tree, some_takes, WorkEnds}
use Rattle.checker_laws.proofs.Work.{lines_carry}
use Rattle.state_groups.specs.PlacedValues.{codes_of_sets}
use Rattle.certificate_checker.specs.ReadableTrees.{IsReadable, AreReadable}
use Rattle.certificate_checker.specs.Feeding.{FeedValue, Fed, IsFed, TookLine, Reaches, Halts, items_to_mark}
use Rattle.certificate_checker.specs.Judging.{IsJudged, TookForm, IsTakeStop}
use Rattle.state_judge.specs.declared.fault.CheckFault.TheVariants.{MissingGroup}
use Rattle.certificate_checker.specs.declared.feed.Halt.{Halt}
use Rattle.certificate_checker.specs.declared.feed.Halt.TheVariants as stop
use Rattle.certificate_checker.proofs.Views.{view_take, view_mark, takes_begin}
use Rattle.certificate_checker.proofs.Reaching.{reaches_twice, halts_back}
use Rattle.certificate_checker.proofs.Branching.{take_reaches, mark_reaches}

-- no line of the form was read, where the next one is of it
pub form_halts : (X Y : Type 0) (wrap : X → Item) (view : Y → X) (p : Problem) (round : Round) (work : List Open) (rest : List Item) (cur mid : FeedValue) (st : Halt)
    → ((P : Type 0) → ((x : X) (xs : List Item) → cur.reading.items ≡ wrap x ∷ xs → P) → P)
    → length rest ≤ length cur.reading.items
    → TookForm wrap view cur (Err st) mid → Halts p round cur work rest st
form_halts X Y wrap view p round work rest cur mid (stop.Fault f l) begins few h = absurd h
form_halts X Y wrap view p round work rest cur mid (stop.Text f) begins few h = begins ⊥ (λ x xs e.
    let none : cur.reading.items ≡ [] = ap (λ c. c.items) h in
    let both : [] ≡ wrap x ∷ xs = sym none ∙ e in
    cc)
form_halts X Y wrap view p round work rest cur mid stop.Unspelled begins few h = begins ⊥ (λ x xs e. h x xs e)
form_halts X Y wrap view p round work rest cur mid stop.Budget begins few h = λ n l. omega (arith, h, few)
form_halts X Y wrap view p round work rest cur mid stop.Refused begins few h = tt

-- the rest is no more than all
pub rest_few : (xs rest all : List Item) → all ≡ xs ++ rest → length rest ≤ length all
rest_few xs rest all e =
    let size : length all ≡ length xs + length rest = ap length e ∙ length-append xs rest in
    omega (arith, size)

-- these takes are left, where all was reached from before
abbrev pub TakesLeft : Format → Problem → Round → State → List (List ℕ) → List Item → List Open → FeedValue → FeedValue → List Open → Type 0
TakesLeft format p round s groups rest more old cur before =
    (others : Takes)
    × AreReadable format others
    × (cur.reading.items ≡ items_to_mark others ++ rest)
    × Reaches p round old cur before (some_takes others s groups ∷ more)

-- the tree that is next is judged at this state
abbrev pub TreeJudged : {X : Type 0} → Format → Problem → Round → State → FeedValue → Result X Halt → FeedValue → Type 0
TreeJudged format p round s old r new =
    (tree : Tree) (rest : List Item) (more : List Open)
    → IsReadable format tree
    → old.reading.items ≡ items_of_tree tree ++ rest
    → IsJudged p round (a_tree tree s ∷ more) more rest old r new

-- no line of takes was read
pub takes_unread : (format : Format) (p : Problem) (round : Round) (s : State) (groups : List (List ℕ)) (rest : List Item) (more : List Open) (old cur mid : FeedValue) (before : List Open) (st : Halt)
    → TakesLeft format p round s groups rest more old cur before → Fed old cur → TookForm {Y = Option (List ℕ)} taken (λ o. o) cur (Err st) mid → Halts p round old before rest st
takes_unread format p round s groups rest more old cur mid before st h fed took =
    let few = rest_few (items_to_mark h.0) rest cur.reading.items h.2 in
    halts_back p round old cur before (some_takes h.0 s groups ∷ more) rest rest st h.3 fed (omega (arith))
    (form_halts (Option (List ℕ)) (Option (List ℕ)) taken (λ o. o) p round (some_takes h.0 s groups ∷ more) rest cur mid st (λ P k. takes_begin P h.0 rest (λ o xs e. k o xs (h.2 ∙ e))) few took)

-- the take's line is the first of those left
pub take_first : (format : Format) (p : Problem) (round : Round) (s : State) (codes : List ℕ) (groups : List (List ℕ)) (rest : List Item) (more : List Open) (old cur mid : FeedValue) (before : List Open)
    → TakesLeft format p round s groups rest more old cur before → TookLine cur (Ok (item.Takes codes)) mid
    → (tree : Tree) × (others : Takes) × AreReadable format (take codes tree others) × (mid.reading.items ≡ items_of_tree tree ++ (items_to_mark others ++ rest))
    × Reaches p round old cur before (some_takes (take codes tree others) s groups ∷ more)
take_first format p round s codes groups rest more old cur mid before h took =
    let e : item.Takes codes ∷ mid.reading.items ≡ items_to_mark h.0 ++ rest = sym (ap (λ c. c.items) took.0) ∙ h.2 in
    let v = view_take h.0 codes rest mid.reading.items e in
    (v.0, v.1, subst (AreReadable format) v.2 h.1, v.3, subst (λ t. Reaches p round old cur before (some_takes t s groups ∷ more)) v.2 h.3)

-- the judging of the take stopped
pub take_stops : (format : Format) (p : Problem) (round : Round) (s : State) (codes : List ℕ) (groups : List (List ℕ)) (rest : List Item) (more : List Open) (old cur mid : FeedValue) (before : List Open) (st : Halt)
    → TakesLeft format p round s groups rest more old cur before → TookLine cur (Ok (item.Takes codes)) mid → IsTakeStop groups codes mid.line st → Halts p round old before rest st
take_stops format p round s codes groups rest more old cur mid before (stop.Fault f l) h took is =
    let v = take_first format p round s codes groups rest more old cur mid before h took in
    (is.0, is.1, v.4.ends (faulty is.0 l) (subst (λ n. WorkEnds (some_takes (take codes v.0 v.1) s groups ∷ more) p round (cur.line + 1) (faulty is.0 n)) (sym (is.3 ∙ took.1)) (lines_carry.take_fault codes v.0 v.1 p round s groups more (cur.line + 1) is.0 is.2)))
take_stops format p round s codes groups rest more old cur mid before (stop.Text f) h took is = is
take_stops format p round s codes groups rest more old cur mid before stop.Unspelled h took is = is
take_stops format p round s codes groups rest more old cur mid before stop.Budget h took is = absurd is
take_stops format p round s codes groups rest more old cur mid before stop.Refused h took is = tt

-- the judging of a take stops where its line was read
pub take_stop_fed : (X : Type 0) (groups : List (List ℕ)) (codes : List ℕ) (line : ℕ) (old mid : FeedValue) (st : Halt) → Fed old mid → IsTakeStop groups codes line st → IsFed {X = X} old (Err st) mid
take_stop_fed X groups codes line old mid (stop.Fault f l) fed is = fed
take_stop_fed X groups codes line old mid (stop.Text f) fed is = absurd is
take_stop_fed X groups codes line old mid stop.Unspelled fed is = fed
take_stop_fed X groups codes line old mid stop.Budget fed is = fed
take_stop_fed X groups codes line old mid stop.Refused fed is = tt

-- the tree of the take was judged
pub take_on : {X : Type 0} (format : Format) (p : Problem) (round : Round) (s closed : State) (codes : List ℕ) (groups : List (List ℕ)) (rest : List Item) (more : List Open) (old cur mid new : FeedValue) (before : List Open) (done : X)
    → TakesLeft format p round s groups rest more old cur before → TookLine cur (Ok (item.Takes codes)) mid → IsNextTake groups codes → closed ≡ close codes s
    → TreeJudged format p round closed mid (Ok done) new → TakesLeft format p round s (behind groups) rest more old new before
take_on format p round s closed codes groups rest more old cur mid new before done h took next same judged =
    let v = take_first format p round s codes groups rest more old cur mid before h took in
    let work : List Open = some_takes v.1 s (behind groups) ∷ more in
    let j = judged v.0 (items_to_mark v.1 ++ rest) work v.2.0 v.3 in
    let step = take_reaches p round s codes v.0 v.1 groups more cur mid (item.Takes codes) took next in
    let deep = subst (λ z. Reaches p round mid new (a_tree v.0 z ∷ work) work) same j.1 in (
      v.1,
      v.2.1,
      sym j.0,
      reaches_twice p round old cur new before (some_takes (take codes v.0 v.1) s groups ∷ more) work v.4
          (reaches_twice p round cur mid new (some_takes (take codes v.0 v.1) s groups ∷ more) (a_tree v.0 (close codes s) ∷ work) work step deep),
    )

-- the judging of the tree of the take stopped
pub take_off : (format : Format) (p : Problem) (round : Round) (s closed : State) (codes : List ℕ) (groups : List (List ℕ)) (rest : List Item) (more : List Open) (old cur mid new : FeedValue) (before : List Open) (st : Halt)
    → TakesLeft format p round s groups rest more old cur before → Fed old mid → TookLine cur (Ok (item.Takes codes)) mid → IsNextTake groups codes → closed ≡ close codes s
    → TreeJudged {X = Unit {0}} format p round closed mid (Err st) new → Halts p round old before rest st
take_off format p round s closed codes groups rest more old cur mid new before st h fed took next same judged =
    let v = take_first format p round s codes groups rest more old cur mid before h took in
    let work : List Open = some_takes v.1 s (behind groups) ∷ more in
    let j = judged v.0 (items_to_mark v.1 ++ rest) work v.2.0 v.3 in
    let step = take_reaches p round s codes v.0 v.1 groups more cur mid (item.Takes codes) took next in
    halts_back p round old mid before (a_tree v.0 (close codes s) ∷ work) rest (items_to_mark v.1 ++ rest) st
    (reaches_twice p round old cur mid before (some_takes (take codes v.0 v.1) s groups ∷ more) (a_tree v.0 (close codes s) ∷ work) v.4 step)
    fed (rest_few (items_to_mark v.1) rest (items_to_mark v.1 ++ rest) refl)
    (subst (λ z. Halts p round mid (a_tree v.0 z ∷ work) (items_to_mark v.1 ++ rest) st) same j)

-- the mark, where no group is left
pub mark_on : (format : Format) (p : Problem) (round : Round) (s : State) (groups : List (List ℕ)) (rest : List Item) (more : List Open) (old cur mid : FeedValue) (before : List Open)
    → TakesLeft format p round s groups rest more old cur before → TookLine cur (Ok item.Mark) mid → groups ≡ [] → IsJudged {X = Unit {0}} p round before more rest old (Ok tt) mid
mark_on format p round s groups rest more old cur mid before h took none =
    let e : item.Mark ∷ mid.reading.items ≡ items_to_mark h.0 ++ rest = sym (ap (λ c. c.items) took.0) ∙ h.2 in
    let v = view_mark h.0 rest mid.reading.items e in
    let r = subst (λ g. Reaches p round old cur before (some_takes no_take s g ∷ more)) none (subst (λ t. Reaches p round old cur before (some_takes t s groups ∷ more)) v.0 h.3) in
    (sym v.1, reaches_twice p round old cur mid before (some_takes no_take s [] ∷ more) more r (mark_reaches p round s more cur mid item.Mark took))

-- the mark, where a group is left
pub mark_stops : (format : Format) (p : Problem) (round : Round) (s : State) (groups : List (List ℕ)) (rest : List Item) (more : List Open) (old cur mid : FeedValue) (before : List Open)
    → TakesLeft format p round s groups rest more old cur before → TookLine cur (Ok item.Mark) mid → groups ≢ [] → Halts p round old before rest (stop.Fault MissingGroup mid.line)
mark_stops format p round s groups rest more old cur mid before h took some =
    let e : item.Mark ∷ mid.reading.items ≡ items_to_mark h.0 ++ rest = sym (ap (λ c. c.items) took.0) ∙ h.2 in
    let v = view_mark h.0 rest mid.reading.items e in
    let r = subst (λ t. Reaches p round old cur before (some_takes t s groups ∷ more)) v.0 h.3 in
    (fault.MissingGroup, refl, r.ends (faulty fault.MissingGroup mid.line) (subst (λ n. WorkEnds (some_takes no_take s groups ∷ more) p round (cur.line + 1) (faulty fault.MissingGroup n)) (sym took.1) (lines_carry.mark_fault p round s groups more (cur.line + 1) fault.MissingGroup (refl, some))))

-- the sets behind the first one, which is there
pub sets_behind : (C : Type 0) (order : List ℕ) (test : C → ℕ → Bool) (left others : List C) (codes : List ℕ) → IsNextTake (codes_of_sets order test left) codes → ((set : C) (sets : List C) → left ≡ set ∷ sets → others ≡ sets)
    → (P : C → Type 0) → All P left → All P others × (behind (codes_of_sets order test left) ≡ codes_of_sets order test others)
sets_behind C order test [] others codes next is P all = absurd next
sets_behind C order test (set ∷ sets) others codes next is P all =
    let e = is set sets refl in
    (subst (All P) (sym e) (λ k d h. all (suc k) d (omega (arith, h))), ap (codes_of_sets order test) (sym e))

pub first_set : (C : Type 0) (P : C → Type 0) (xs : List C) (x : C) (rest : List C) → (xs ≡ x ∷ rest) × (length rest + 1 ≡ length xs) → All P xs → P x
first_set C P xs x rest e all = (subst (All P) e.0 all) 0 x (omega (arith))

pub none_left : (C : Type 0) (order : List ℕ) (test : C → ℕ → Bool) (left : List C) → length left ≡ 0 → codes_of_sets order test left ≡ []
none_left C order test [] e = refl
none_left C order test (set ∷ sets) e = absurd (omega (arith, e))

pub some_left : (C : Type 0) (order : List ℕ) (test : C → ℕ → Bool) (left : List C) → (length left ≡ 0 → ⊥) → codes_of_sets order test left ≢ []
some_left C order test [] e = absurd (e refl)
some_left C order test (set ∷ sets) e = λ same. cc
