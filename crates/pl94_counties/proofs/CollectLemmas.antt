-- Entries collected line by line.
use Rattle.std.proofs.Common.{◌≡◌, ℕ, ◌++◌, ◌==◌, ◌<◌, ◌||◌, Bool, true, false, cond, List, [], ◌∷◌, Option, Some, None, Result, Ok, Err, is_some, fold, if◌then◌else◌, refl, sym, ap, ◌∙◌, subst, append_assoc, arith}
use Rattle.std.proofs.Math.Bool.{or-false}
use Rattle.std.specs.declared.cmp.Ordering.{Ordering}
use Rattle.std.specs.declared.cmp.Ordering.TheVariants.{Less, Equal, Greater}
use Rattle.std.specs.Ordering.{nat_cmp, is_eq, match_ordering}
use Rattle.std.specs.Cmp.{ranked, unsigned_tied}
use Rattle.std.specs.List.{cons_option}
use Rattle.std.specs.BTreeMap.{insert_entry}
use Rattle.field_lines.specs.Cut.{Cut, Line, cut}
use Rattle.field_lines.specs.Values.{fault_or_later}
use Rattle.field_lines.specs.declared.fault.LineFault.{LineFault}
use Rattle.pl94_counties.specs.declared.fault.Pl94Kind.{Pl94Kind}
use Rattle.pl94_counties.specs.declared.fault.Pl94Kind.TheVariants.{TooMany}
use Rattle.pl94_counties.specs.declared.fault.File.{File}
use Rattle.pl94_counties.specs.declared.fault.Pl94Fault.{Pl94Fault}
use Rattle.pl94_counties.specs.PeopleByCode.{people_at_number, LineEntry, Rule, people_of_numbers, people_by_number, has_number, by_number, entries_on, entry_of, pl94_line_fault, first_entry_fault, unless_entry_fault, with_given, pl94_cut_fault}
use Rattle.std.proofs.lemmas.List.{append-nil}
use Rattle.std.proofs.lemmas.List.Elements.{filter_map-append}
use Rattle.std.proofs.lemmas.List.Sums.{fold-append}

-- ---- what is found after an entry is put in its place
pub tied_same : (x y : ℕ) → is_eq (nat_cmp x y) ≡ true → x ≡ y
tied_same x y tied = by (nat_cmp x y) refl tied
  where
    by : (r : Ordering) → r ≡ nat_cmp x y → is_eq r ≡ true → x ≡ y
    by Less is t = cc
    by Equal is t = ranked x y Equal is
    by Greater is t = cc

same_test : {X : Type 0} (b : Bool) (x y z : X) → cond b x z ≡ cond b x (cond b y z)
same_test true x y z = refl
same_test false x y z = refl

apart_tests : {X : Type 0} (b d : Bool) (x y z : X) → (b ≡ true → d ≡ true → ⊥) → cond b y (cond d x z) ≡ cond d x (cond b y z)
apart_tests true true x y z apart = absurd (apart refl refl)
apart_tests true false x y z apart = refl
apart_tests false true x y z apart = refl
apart_tests false false x y z apart = refl

pub people_of-insert_entry : (n k v : ℕ) (es : List (ℕ × ℕ)) → people_at_number n (insert_entry nat_cmp es k v) ≡ cond (is_eq (nat_cmp n k)) (Some v) (people_at_number n es)
people_of-insert_entry n k v [] = refl
people_of-insert_entry n k v (e ∷ es) = by (people_of-insert_entry n k v es) (nat_cmp k e.0) refl
  where
    by : people_at_number n (insert_entry nat_cmp es k v) ≡ cond (is_eq (nat_cmp n k)) (Some v) (people_at_number n es) → (r : Ordering) → r ≡ nat_cmp k e.0
        → people_at_number n (match_ordering r ((k, v) ∷ e ∷ es) ((e.0, v) ∷ es) (e ∷ insert_entry nat_cmp es k v)) ≡ cond (is_eq (nat_cmp n k)) (Some v) (people_at_number n (e ∷ es))
    by ih Less is = refl
    by ih Equal is =
        let same : k ≡ e.0 = ranked k e.0 Equal is in
        subst (λ (q : ℕ). cond (is_eq (nat_cmp n e.0)) (Some v) (people_at_number n es) ≡ cond (is_eq (nat_cmp n q)) (Some v) (people_at_number n (e ∷ es))) (sym same) (same_test (is_eq (nat_cmp n e.0)) (Some v) (Some e.1) (people_at_number n es))
    by ih Greater is =
        let above : e.0 < k = ranked k e.0 Greater is in
        let apart : is_eq (nat_cmp n e.0) ≡ true → is_eq (nat_cmp n k) ≡ true → ⊥ = λ (f : is_eq (nat_cmp n e.0) ≡ true) (g : is_eq (nat_cmp n k) ≡ true). let a : n ≡ e.0 = tied_same n e.0 f in let b : n ≡ k = tied_same n k g in omega arith in
        ap (λ p. cond (is_eq (nat_cmp n e.0)) (Some e.1) p) ih ∙ apart_tests (is_eq (nat_cmp n e.0)) (is_eq (nat_cmp n k)) (Some v) (Some e.1) (people_at_number n es) apart

-- ---- the entries by number have the numbers of all entries
some_test : (b : Bool) (v : ℕ) (p : Option ℕ) (h : Bool) → (is_some (cond b (Some v) p) || h) ≡ (is_some p || (b || h))
some_test true v None h = refl
some_test true v (Some q) h = refl
some_test false v None h = refl
some_test false v (Some q) h = refl

pub tied_is : (x y : ℕ) → is_eq (nat_cmp x y) ≡ (x == y)
tied_is x y = unsigned_tied x y

placed_after : (n : ℕ) (placed es : List (ℕ × ℕ)) → is_some (people_at_number n (fold (λ p e. insert_entry nat_cmp p e.0 e.1) placed es)) ≡ (is_some (people_at_number n placed) || has_number n es)
placed_after n placed [] = sym (or-false (is_some (people_at_number n placed)))
placed_after n placed (e ∷ es) =
    placed_after n (insert_entry nat_cmp placed e.0 e.1) es
    ∙ ap (λ p. is_some p || has_number n es) (people_of-insert_entry n e.0 e.1 placed)
    ∙ some_test (is_eq (nat_cmp n e.0)) e.1 (people_at_number n placed) (has_number n es)
    ∙ ap (λ b. is_some (people_at_number n placed) || (b || has_number n es)) (tied_is n e.0)

pub is_placed : (n : ℕ) (es : List (ℕ × ℕ)) → is_some (people_at_number n (by_number es)) ≡ has_number n es
is_placed n es = placed_after n [] es

-- ---- line by line

-- the entries after further lines, each in turn, or the first fault
abbrev pub collect_from : (List ℕ → LineEntry) → Rule → File → List (ℕ × ℕ) → List Line → Option LineFault → Result (List (ℕ × ℕ)) Pl94Fault
collect_from read rule file placed [] None = Ok placed
collect_from read rule file placed [] (Some fault) = Err (pl94_cut_fault file fault)
collect_from read rule file placed (l ∷ ls) fault = elim (with_given rule placed (read l.bytes)) as (λ _. Result (List (ℕ × ℕ)) Pl94Fault) [
  | Ok more ↦ collect_from read rule file more ls fault
  | Err kind ↦ Err (record { kind = kind; file = file; line = l.number })
]

module _ (read : List ℕ → LineEntry) (rule : Rule) (file : File) (fault : Option LineFault) where
  -- what is answered after the lines before, over the others
  abbrev After : List Line → List Line → Type 0
  After before ls = collect_from read rule file (by_number (entries_on read before)) ls fault ≡ unless_entry_fault file (first_entry_fault read rule before ls) fault (by_number (entries_on read (before ++ ls)))

  entries_push : (before : List Line) (l : Line) → entries_on read (before ++ l ∷ []) ≡ entries_on read before ++ entries_on read (l ∷ [])
  entries_push before l = filter_map-append (λ (m : Line). entry_of (read m.bytes)) before (l ∷ [])

  after_nil : (f : Option LineFault) (before : List Line) → collect_from read rule file (by_number (entries_on read before)) [] f ≡ unless_entry_fault file None f (by_number (entries_on read (before ++ [])))
  after_nil None before = ap (λ (b : List Line). Ok (by_number (entries_on read b))) (sym (append-nil before))
  after_nil (Some f) before = refl

  choose : (number : ℕ) (more entries : List (ℕ × ℕ)) (ls : List Line) (later : Option (Pl94Kind × ℕ)) (b d full : Bool) → b ≡ d
      → collect_from read rule file more ls fault ≡ unless_entry_fault file later fault entries
      → (elim (if b then Err rule.double else if full then Err TooMany else Ok more) as (λ _. Result (List (ℕ × ℕ)) Pl94Fault) [
        | Ok more ↦ collect_from read rule file more ls fault
        | Err kind ↦ Err (record { kind = kind; file = file; line = number })
      ]) ≡ unless_entry_fault file (fault_or_later number (if d then Some rule.double else if full then Some TooMany else None) later) fault entries
  choose number more entries ls later true true full same rest = refl
  choose number more entries ls later true false full same rest = cc
  choose number more entries ls later false true full same rest = cc
  choose number more entries ls later false false true same rest = refl
  choose number more entries ls later false false false same rest = rest

  after_line : (before : List Line) (l : Line) (ls : List Line) → After (before ++ l ∷ []) ls → (g : LineEntry) → read l.bytes ≡ g
      → (elim (with_given rule (by_number (entries_on read before)) g) as (λ _. Result (List (ℕ × ℕ)) Pl94Fault) [
        | Ok more ↦ collect_from read rule file more ls fault
        | Err kind ↦ Err (record { kind = kind; file = file; line = l.number })
      ]) ≡ unless_entry_fault file (fault_or_later l.number (pl94_line_fault rule (entries_on read before) g) (first_entry_fault read rule (before ++ l ∷ []) ls)) fault (by_number (entries_on read (before ++ l ∷ ls)))
  after_line before l ls ih (Err kind) is = refl
  after_line before l ls ih (Ok None) is =
      let same : entries_on read (before ++ l ∷ []) ≡ entries_on read before =
      entries_push before l ∙ ap (λ (g : LineEntry). entries_on read before ++ cons_option (entry_of g) []) is ∙ append-nil (entries_on read before) in
      ap (λ (es : List (ℕ × ℕ)). collect_from read rule file (by_number es) ls fault) (sym same)
      ∙ ih
      ∙ ap (λ (b : List Line). unless_entry_fault file (first_entry_fault read rule (before ++ l ∷ []) ls) fault (by_number (entries_on read b))) (append_assoc before (l ∷ []) ls)
  after_line before l ls ih (Ok (Some e)) is =
      let pushed : entries_on read (before ++ l ∷ []) ≡ entries_on read before ++ e ∷ [] =
      entries_push before l ∙ ap (λ (g : LineEntry). entries_on read before ++ cons_option (entry_of g) []) is in
      let placed : by_number (entries_on read (before ++ l ∷ [])) ≡ insert_entry nat_cmp (by_number (entries_on read before)) e.0 e.1 =
      ap by_number pushed ∙ fold-append (λ (p : List (ℕ × ℕ)) (f : ℕ × ℕ). insert_entry nat_cmp p f.0 f.1) [] (entries_on read before) (e ∷ []) in
      choose l.number _ _ ls _ _ _ _ (is_placed e.0 (entries_on read before)) (
      ap (λ (es : List (ℕ × ℕ)). collect_from read rule file es ls fault) (sym placed)
      ∙ ih
      ∙ ap (λ (b : List Line). unless_entry_fault file (first_entry_fault read rule (before ++ l ∷ []) ls) fault (by_number (entries_on read b))) (append_assoc before (l ∷ []) ls))

  pub collected_after : (before ls : List Line) → After before ls
  collected_after before [] = after_nil fault before
  collected_after before (l ∷ ls) = after_line before l ls (collected_after (before ++ l ∷ []) ls) (read l.bytes) refl

-- a loop that has found nothing yet answers what the cut gives
pub collected_in : (read : List ℕ → LineEntry) (rule : Rule) (file : File) (c : Cut) → collect_from read rule file [] c.lines c.fault ≡ people_of_numbers read rule file c
collected_in read rule file c = collected_after read rule file c.fault [] c.lines

pub collected : (read : List ℕ → LineEntry) (rule : Rule) (file : File) (text : List ℕ) → collect_from read rule file [] (cut text).lines (cut text).fault ≡ people_by_number read rule file text
collected read rule file text = collected_after read rule file (cut text).fault [] (cut text).lines
