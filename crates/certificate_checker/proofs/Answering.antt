-- What was judged of the lines of a text is its verdict.
use Rattle.std.proofs.Common.{◌≡◌, ℕ, ◌+◌, ◌≤◌, ◌<◌, List, [], ◌∷◌, ◌++◌, length, drop, Option, Some, None, Result, Ok, Err, IfOk, inl, inr, refl, sym, ap, subst, ◌∙◌, append_assoc, append-nil, arith, ⊎_elim}
use Rattle.std.proofs.Math.Seq.{drop-append_seam}
use Rattle.county_codes.specs.declared.group.Grouping.{Grouping as GroupingHeld}
use Rattle.grouping_laws.specs.Problem.{Problem}
use Rattle.field_lines.specs.Source.{Given, nothing_comes}
use Rattle.field_lines.specs.HeldBytes.{MayCome}
use Rattle.certificate_lines.specs.ItemReadings.{Unread, certificate_reading}
use Rattle.certificate_lines.specs.ItemsLeft.{ItemsHeld, ItemsLeft, Foresees, in_memory, left_of_reader, nothing_taken}
use Rattle.certificate_lines.specs.Fitting.{AllFit}
use Rattle.certificate_lines.specs.declared.fault.TextFault.{TextFault}
use Rattle.certificate_lines.specs.declared.item.Wanted.TheVariants as want
use Rattle.certificate_data.specs.TreeValue.{Certificate}
use Rattle.certificate_text.specs.Trees.{items_of_certificate}
use Rattle.checker_laws.specs.End.{fine, faulty}
use Rattle.checker_laws.specs.Verdict as said
use Rattle.checker_laws.specs.TextVerdict.{HasTextFault}
use Rattle.checker_laws.proofs.Spelling.{spelled, spelling}
use Rattle.checker_laws.proofs.Lengths.{certificate_length}
use Rattle.checker_laws.proofs.LineFeeds.{lines}
use Rattle.checker_laws.proofs.TextVerdicts.{best, impossible}
use Rattle.certificate_checker.specs.Feeding.{FeedValue, Stream, Fed, IsFed, FeedsThrough, ForEach, fed_by, MetFault}
use Rattle.certificate_checker.specs.Certificates.{IsCertificateJudged}
use Rattle.certificate_checker.specs.Answers.{IsCheckAnswer, CheckIsRight, ShowsImpossible, lines_in_front, IsWithinBudget, IsBudgetedAnswer, ChecksItems, ChecksBytes}
use Rattle.state_judge.specs.declared.fault.CheckFault.{CheckFault}
use Rattle.state_judge.specs.declared.fault.CheckFault.TheVariants.{Text}
use Rattle.std.specs.declared.alloc.AllocError.{AllocError}
use Rattle.certificate_checker.specs.declared.feed.Halt.{Halt}
use Rattle.certificate_checker.specs.declared.feed.Halt.TheVariants as stop
use Rattle.certificate_checker.specs.declared.verdict.Verdict.{Verdict}
use Rattle.certificate_checker.specs.declared.verdict.Verdict.TheVariants.{Best, Impossible, No, Budget}

-- every certificate that the lines to come spell was judged so
abbrev pub AreJudged : Problem → List ℕ → ℕ → Result (Option GroupingHeld) Halt → Type 0
AreJudged p text limit r = (c : Certificate) → AllFit (want.Head ∷ []) (items_of_certificate c) → (certificate_reading text).items ≡ items_of_certificate c → IsCertificateJudged p c limit r

module _ (p : Problem) (text : List ℕ) (limit : ℕ) where
  pub best_found : (target : GroupingHeld) → AreJudged p text limit (Ok (Some target)) → (certificate_reading text).fault ≡ None → IsCheckAnswer p text limit (Best target)
  best_found target h none =
      let c = spelled text none in
      let j = h c.0 c.1.fits c.2 in
      (c.0, c.1, (fine j.1.0, j.1.1, ap said.shown j.0))

  pub impossible_found : AreJudged p text limit (Ok None) → (certificate_reading text).fault ≡ None → IsCheckAnswer p text limit Impossible
  impossible_found h none =
      let c = spelled text none in
      let j = h c.0 c.1.fits c.2 in
      (c.0, c.1, (fine j.1.0, j.1.1, ap said.shown j.0))

  pub fault_found : (fault : CheckFault) (line : ℕ) → AreJudged p text limit (Err (stop.Fault fault line)) → (certificate_reading text).fault ≡ None → IsCheckAnswer p text limit (No fault line)
  fault_found fault line h none =
      let c = spelled text none in
      let j = h c.0 c.1.fits c.2 in
      inr (j.0, j.1, (c.0, c.1, (faulty j.0 line, j.2, refl)))

  pub budget_found : AreJudged p text limit (Err stop.Budget) → (certificate_reading text).fault ≡ None → IsCheckAnswer p text limit Budget
  budget_found h none cost costs = ⊎_elim (λ s. h s.0 s.1.fits (spelling text s.0 s.1).0 cost s.2) (λ f. cc (f.1, none)) costs

  pub unspelled_found : AreJudged p text limit (Err stop.Unspelled) → (certificate_reading text).fault ≡ None → IsCheckAnswer p text limit Budget
  unspelled_found h none = let c = spelled text none in absurd (h c.0 c.1.fits c.2)

  pub text_found : (fault : TextFault) → HasTextFault text fault → IsCheckAnswer p text limit (No (Text fault) fault.line)
  text_found fault has = inl (fault, refl, has, refl)

  -- as many lines as steps are less than the text costs
  pub lines_found : (start now : FeedValue) → start.reading ≡ certificate_reading text → start.line ≡ 0 → Fed start now → now.limit ≤ now.line + length now.reading.items → start.limit ≡ limit → IsCheckAnswer p text limit Budget
  lines_found start now reading line fed many same cost costs =
      let few : limit ≤ length (certificate_reading text).items = omega (arith, fed.lines, fed.limit, many, same, line, ap (λ c. length c.items) reading) in
      ⊎_elim
      (λ s. omega (arith, few, ap length (spelling text s.0 s.1).0, certificate_length s.0, s.2.2))
      (λ f. omega (arith, few, lines text, f.2))
      costs

  -- the lines that were read are within the limit
  within : (v : Verdict) → lines_in_front text + 1 ≤ limit → IsWithinBudget (lines_in_front text) limit v
  within (Best target) h = h
  within Impossible h = h
  within (No fault line) h = h
  within Budget h = tt

  -- a step was left when all lines were read
  pub rest_within : (start now : FeedValue) → start.reading ≡ certificate_reading text → start.line ≡ 0 → Fed start now → now.line + length now.reading.items < now.limit → start.limit ≡ limit → (v : Verdict) → IsWithinBudget (lines_in_front text) limit v
  rest_within start now reading line fed few same v = within v (omega (arith, fed.lines, fed.limit, few, same, line, ap (λ c. length c.items) reading))

  -- a step was left when the fault was met
  pub fault_within : (start : FeedValue) (fault : TextFault) → start.reading ≡ certificate_reading text → start.used ≡ 0 → MetFault start fault → start.limit ≡ limit → (v : Verdict) → IsWithinBudget (lines_in_front text) limit v
  fault_within start fault reading used met same v = within v (omega (arith, met.1, same, used, ap (λ c. length c.items) reading))

-- a reading that begins, with a limit of steps and those that were taken
abbrev pub begun : ItemsLeft → Given → ℕ → ℕ → Stream
begun left given limit used = record { left = left; given = given; line = 0; limit = limit; used = used }

-- what the judging of the lines found is answered, unless a fault of the text stands behind them
pub found_answer : (p : Problem) (old mid : Stream) (after : Given) (budget : ℕ) (held judged : Result (Option GroupingHeld) Halt) (found : Verdict) (answer : Result Verdict AllocError)
    → old.line ≡ 0 → old.limit ≡ budget → held ≡ judged
    → ((a b : FeedValue) → IsFed a judged b → Fed a b)
    → ((text : List ℕ) (limit : ℕ) → AreJudged p text limit judged → (certificate_reading text).fault ≡ None → IsCheckAnswer p text limit found)
    → FeedsThrough old mid (λ a b. IsFed a held b)
    → ForEach old mid (λ a b. (c : Certificate) → AllFit (want.Head ∷ []) (items_of_certificate c) → a.reading.items ≡ items_of_certificate c → IsCertificateJudged p c old.limit held)
    → ((all : List ℕ) → Foresees after all → Foresees mid.given all
    × ((q : Problem) (text : List ℕ) (start : FeedValue) → start.reading ≡ certificate_reading text → start.line ≡ 0 → Fed start (fed_by mid all)
    → ((certificate_reading text).fault ≡ None → IsCheckAnswer q text start.limit found) → IfOk answer (IsBudgetedAnswer q text start.limit)))
    → ChecksItems p old.left old.given budget answer after
found_answer p old mid after budget held judged found answer line limit same feeds finds fed is behind all sees =
    let v = behind all sees in
    let j = fed all v.0 in (
      j.0,
      λ text reading.
          subst (λ n. IfOk answer (IsBudgetedAnswer p text n)) limit
          (v.1 p text (fed_by old all) reading line
          (feeds (fed_by old all) (fed_by mid all) (subst (λ r. IsFed (fed_by old all) r (fed_by mid all)) same j.1))
          (finds text old.limit
          (subst (λ r. AreJudged p text old.limit r) same (λ cert fits items. is all v.0 cert fits (ap (λ z. z.items) reading ∙ items))))),
    )

-- the two parts of an answer
module _ {E : Type 0} (p : Problem) (text : List ℕ) (budget : ℕ) where
  pub answered : (r : Result Verdict E) → IfOk r (IsBudgetedAnswer p text budget) → IfOk r (IsCheckAnswer p text budget)
  answered (Ok v) h = h.0
  answered (Err e) h = tt

  pub answered_within : (r : Result Verdict E) → IfOk r (IsBudgetedAnswer p text budget) → IfOk r (IsWithinBudget (lines_in_front text) budget)
  answered_within (Ok v) h = h.1
  answered_within (Err e) h = tt

-- what an answer shows
pub names_best : {E : Type 0} (p : Problem) (text : List ℕ) (budget : ℕ) (r : Result Verdict E) → IfOk r (IsCheckAnswer p text budget) → IfOk r (CheckIsRight p)
names_best p text budget (Ok (Best target)) h = (best p text target.groups.items h).0
names_best p text budget (Ok Impossible) h = tt
names_best p text budget (Ok (No fault line)) h = tt
names_best p text budget (Ok Budget) h = tt
names_best p text budget (Err e) h = tt

pub shows_impossible : {E : Type 0} (p : Problem) (text : List ℕ) (budget : ℕ) (r : Result Verdict E) → IfOk r (IsCheckAnswer p text budget) → IfOk r (ShowsImpossible p)
shows_impossible p text budget (Ok (Best target)) h = tt
shows_impossible p text budget (Ok Impossible) h = (impossible p text h).0
shows_impossible p text budget (Ok (No fault line)) h = tt
shows_impossible p text budget (Ok Budget) h = tt
shows_impossible p text budget (Err e) h = tt

-- of a text in memory
pub checked_text : (p : Problem) (reading : Unread) (text : List ℕ) (budget : ℕ) (r : Result Verdict AllocError) → ChecksItems p (in_memory reading) nothing_comes budget r nothing_comes → reading ≡ certificate_reading text → IfOk r (IsBudgetedAnswer p text budget)
checked_text p reading text budget r h is = (h [] (record { later = []; text = refl; may = λ ended. refl })).1 text is

-- of bytes that were pulled
module _ (p : Problem) (before after : Given) (budget : ℕ) where
  -- the bytes that were pulled, with whatever may come later
  checked_with : (v : Verdict) → ChecksItems p (left_of_reader nothing_taken) before budget (Ok v) after → (sees : Foresees before after.bytes)
      → (later : List ℕ) → MayCome after.ended later → IsBudgetedAnswer p (sees.later ++ later) budget v
  checked_with v h sees later may =
      let split : drop (length before.bytes) (after.bytes ++ later) ≡ sees.later ++ later =
      ap (λ (t : List ℕ). drop (length before.bytes) (t ++ later)) sees.text ∙ ap (drop (length before.bytes)) (append_assoc before.bytes sees.later later) ∙ drop-append_seam before.bytes (sees.later ++ later) in
      (h (after.bytes ++ later) (record { later = later; text = refl; may = may })).1 (sees.later ++ later) (ap certificate_reading split)

  pub checked_bytes : (items : ItemsHeld) → items ≡ nothing_taken → (v : Verdict) → ChecksItems p (left_of_reader items) before budget (Ok v) after → ChecksBytes p before after budget v
  checked_bytes items is v checked =
      let h = subst (λ (i : ItemsHeld). ChecksItems p (left_of_reader i) before budget (Ok v) after) is checked in
      let sees = (h after.bytes (record { later = []; text = sym (append-nil after.bytes); may = λ ended. refl })).0 in
      record {
        pulled = sees.later;
        given = sees.text;
        answer = λ later may. (checked_with v h sees later may).0;
        within = λ later may. (checked_with v h sees later may).1;
      }

  pub bytes_best : {E : Type 0} (r : Result Verdict E) → IfOk r (ChecksBytes p before after budget) → IfOk r (CheckIsRight p)
  bytes_best {E = E} (Ok v) h = names_best {E = E} p (h.pulled ++ []) budget (Ok v) (h.answer [] (λ ended. refl))
  bytes_best (Err e) h = tt

  pub bytes_impossible : {E : Type 0} (r : Result Verdict E) → IfOk r (ChecksBytes p before after budget) → IfOk r (ShowsImpossible p)
  bytes_impossible {E = E} (Ok v) h = shows_impossible {E = E} p (h.pulled ++ []) budget (Ok v) (h.answer [] (λ ended. refl))
  bytes_impossible (Err e) h = tt
