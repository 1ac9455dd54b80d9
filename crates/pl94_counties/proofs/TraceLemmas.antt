-- Entries that were collected, traced back to their lines.
use Rattle.std.proofs.Common.{◌≡◌, ℕ, zero, suc, ◌==◌, ◌<◌, ◌⊎◌, inl, inr, Bool, true, false, cond, List, [], ◌∷◌, length, Option, Some, None, Result, Ok, Err, is_some, Contains, filter, get_or, if◌then◌else◌, refl, sym, ap, ◌∙◌, subst, eq-eqb, arith}
use Rattle.std.specs.Ordering.{nat_cmp, is_eq}
use Rattle.std.specs.BTreeMap.{insert_entry}
use Rattle.field_lines.specs.Cut.{Line}
use Rattle.field_lines.specs.declared.fault.LineFault.{LineFault}
use Rattle.pl94_counties.specs.declared.fault.Pl94Kind.TheVariants.{TooMany}
use Rattle.pl94_counties.specs.declared.fault.File.{File}
use Rattle.pl94_counties.specs.declared.fault.Pl94Fault.{Pl94Fault}
use Rattle.pl94_counties.specs.PeopleByCode.{people_at_number, LineEntry, Rule, is_full, with_given}
use Rattle.pl94_counties.proofs.CollectLemmas.{collect_from, people_of-insert_entry, tied_same, tied_is}

-- ---- members of a list
pub contains_head : {X : Type 0} (x : X) (xs : List X) → Contains (x ∷ xs) x
contains_head x xs = let lt : 0 < suc (length xs) = omega arith in (zero, lt, refl)

pub contains_tail : {X : Type 0} (y : X) (xs : List X) (x : X) → Contains xs x → Contains (y ∷ xs) x
contains_tail y xs x c = let within : c.0 < length xs = c.1 in let lt : suc c.0 < suc (length xs) = omega arith in (suc c.0, lt, c.2)

pub contains_nil : {X : Type 0} (x : X) → Contains {X = X} [] x → ⊥
contains_nil x c = let lt : c.0 < 0 = c.1 in omega arith

pub contains_cases : {X : Type 0} (y : X) (xs : List X) (x : X) → Contains (y ∷ xs) x → (y ≡ x) ⊎ Contains xs x
contains_cases {X} y xs x c = by c.0 c.1 c.2
  where
    by : (k : ℕ) → k < length (y ∷ xs) → get_or (y ∷ xs) k x ≡ x → (y ≡ x) ⊎ Contains xs x
    by zero lt is = inl is
    by (suc k) lt is = let below : suc k < suc (length xs) = lt in let within : k < length xs = omega arith in inr (k, within, is)

module _ (read : List ℕ → LineEntry) (rule : Rule) (file : File) (fault : Option LineFault) (all : List (ℕ × ℕ)) where
  -- the entries before, and what is left of the lines, give all the entries
  abbrev pub Collects : List (ℕ × ℕ) → List Line → Type 0
  Collects placed ls = collect_from read rule file placed ls fault ≡ Ok all

  -- a line gave nothing, or an entry whose number is new
  abbrev Steps : List (ℕ × ℕ) → Line → List Line → Type 0
  Steps placed l ls = ((read l.bytes ≡ Ok None) × Collects placed ls)
      ⊎ ((e : ℕ × ℕ) × (read l.bytes ≡ Ok (Some e)) × (people_at_number e.0 placed ≡ None) × Collects (insert_entry nat_cmp placed e.0 e.1) ls)

  new_entry : (placed : List (ℕ × ℕ)) (l : Line) (ls : List Line) (e : ℕ × ℕ) (o : Option ℕ) (full : Bool) → read l.bytes ≡ Ok (Some e) → people_at_number e.0 placed ≡ o
      → (elim (if is_some o then Err rule.double else if full then Err TooMany else Ok (insert_entry nat_cmp placed e.0 e.1)) as (λ _. Result (List (ℕ × ℕ)) Pl94Fault) [
        | Ok more ↦ collect_from read rule file more ls fault
        | Err kind ↦ Err (record { kind = kind; file = file; line = l.number })
      ]) ≡ Ok all → Steps placed l ls
  new_entry placed l ls e None false is absent rest = inr (e, is, absent, rest)
  new_entry placed l ls e None true is absent rest = cc
  new_entry placed l ls e (Some p) full is there rest = cc

  stepped_by : (placed : List (ℕ × ℕ)) (l : Line) (ls : List Line) (g : LineEntry) → read l.bytes ≡ g
      → (elim (with_given rule placed g) as (λ _. Result (List (ℕ × ℕ)) Pl94Fault) [
        | Ok more ↦ collect_from read rule file more ls fault
        | Err kind ↦ Err (record { kind = kind; file = file; line = l.number })
      ]) ≡ Ok all → Steps placed l ls
  stepped_by placed l ls (Err kind) is rest = cc
  stepped_by placed l ls (Ok None) is rest = inl (is, rest)
  stepped_by placed l ls (Ok (Some e)) is rest = new_entry placed l ls e (people_at_number e.0 placed) (is_full rule.most (length placed)) is refl rest

  stepped : (placed : List (ℕ × ℕ)) (l : Line) (ls : List Line) → Collects placed (l ∷ ls) → Steps placed l ls
  stepped placed l ls rest = stepped_by placed l ls (read l.bytes) refl rest

  ended : (placed : List (ℕ × ℕ)) (f : Option LineFault) → collect_from read rule file placed [] f ≡ Ok all → placed ≡ all
  ended placed None is = cc
  ended placed (Some f) is = cc

  -- another number keeps its people
  other_number : (placed : List (ℕ × ℕ)) (n m v q : ℕ) (b : Bool) → is_eq (nat_cmp n m) ≡ b → people_at_number n placed ≡ Some q → people_at_number m placed ≡ None → cond b (Some v) (people_at_number n placed) ≡ Some q
  other_number placed n m v q true tied there absent = let same : n ≡ m = tied_same n m tied in let both : people_at_number n placed ≡ None = ap (λ k. people_at_number k placed) same ∙ absent in cc
  other_number placed n m v q false apart there absent = there

  -- what is collected stays
  pub kept : (ls : List Line) (placed : List (ℕ × ℕ)) (n q : ℕ) → Collects placed ls → people_at_number n placed ≡ Some q → people_at_number n all ≡ Some q
  kept [] placed n q is there = ap (λ es. people_at_number n es) (sym (ended placed fault is)) ∙ there
  kept (l ∷ ls) placed n q is there = elim (stepped placed l ls is) as (λ _. people_at_number n all ≡ Some q) [
    | inl s ↦ kept ls placed n q s.1 there
    | inr s ↦ kept ls (insert_entry nat_cmp placed s.0.0 s.0.1) n q s.3 (people_of-insert_entry n s.0.0 s.0.1 placed ∙ other_number placed n s.0.0 s.0.1 q (is_eq (nat_cmp n s.0.0)) refl there s.2)
  ]

  found_new : (placed : List (ℕ × ℕ)) (n p : ℕ) → people_at_number n (insert_entry nat_cmp placed n p) ≡ Some p
  found_new placed n p =
      let tied : is_eq (nat_cmp n n) ≡ true = tied_is n n ∙ eq-eqb n n refl in
      people_of-insert_entry n n p placed ∙ ap (λ b. cond b (Some p) (people_at_number n placed)) tied

  -- a line is sound, and what it gives is collected
  abbrev pub IsGiven : Line → Type 0
  IsGiven line = (entry : Option (ℕ × ℕ)) × (read line.bytes ≡ Ok entry) × ((e : ℕ × ℕ) → entry ≡ Some e → people_at_number e.0 all ≡ Some e.1)

  given_first : (placed : List (ℕ × ℕ)) (l : Line) (ls : List Line) → Steps placed l ls → IsGiven l
  given_first placed l ls (inl s) = (None, s.0, λ (e : ℕ × ℕ) (is : None ≡ Some e). cc)
  given_first placed l ls (inr s) =
      let found : people_at_number s.0.0 all ≡ Some s.0.1 = kept ls (insert_entry nat_cmp placed s.0.0 s.0.1) s.0.0 s.0.1 s.3 (found_new placed s.0.0 s.0.1) in
      (Some s.0, s.1, λ (e : ℕ × ℕ) (is : Some s.0 ≡ Some e). let same : s.0 ≡ e = cc in subst (λ (d : ℕ × ℕ). people_at_number d.0 all ≡ Some d.1) same found)

  pub given_by_line : (ls : List Line) (placed : List (ℕ × ℕ)) (line : Line) → Collects placed ls → Contains ls line → IsGiven line
  given_by_line [] placed line is stands = absurd (contains_nil line stands)
  given_by_line (l ∷ ls) placed line is stands = elim (contains_cases l ls line stands) as (λ _. IsGiven line) [
    | inl same ↦ subst IsGiven same (given_first placed l ls (stepped placed l ls is))
    | inr later ↦ elim (stepped placed l ls is) as (λ _. IsGiven line) [
      | inl s ↦ given_by_line ls placed line s.1 later
      | inr s ↦ given_by_line ls (insert_entry nat_cmp placed s.0.0 s.0.1) line s.3 later
    ]
  ]

  -- a number among the entries is not that of one that is absent
  apart : (placed : List (ℕ × ℕ)) (n m q : ℕ) (b : Bool) → (n == m) ≡ b → people_at_number n placed ≡ Some q → people_at_number m placed ≡ None → b ≡ false
  apart placed n m q true tied there absent = let same : n ≡ m = tied_same n m (tied_is n m ∙ tied) in let both : people_at_number n placed ≡ None = ap (λ k. people_at_number k placed) same ∙ absent in cc
  apart placed n m q false tied there absent = refl

  module _ (test : Line → Bool) (n : ℕ)
      (none : (l : Line) → read l.bytes ≡ Ok None → test l ≡ false)
      (some : (l : Line) (e : ℕ × ℕ) → read l.bytes ≡ Ok (Some e) → test l ≡ (n == e.0)) where
    passed_over : (l : Line) (ls : List Line) → test l ≡ false → filter test (l ∷ ls) ≡ filter test ls
    passed_over l ls is = ap (λ b. cond b (l ∷ filter test ls) (filter test ls)) is

    no_line : (ls : List Line) (placed : List (ℕ × ℕ)) (q : ℕ) → Collects placed ls → people_at_number n placed ≡ Some q → filter test ls ≡ []
    no_line [] placed q is there = refl
    no_line (l ∷ ls) placed q is there = elim (stepped placed l ls is) as (λ _. filter test (l ∷ ls) ≡ []) [
      | inl s ↦ passed_over l ls (none l s.0) ∙ no_line ls placed q s.1 there
      | inr s ↦ passed_over l ls (some l s.0 s.1 ∙ apart placed n s.0.0 q (n == s.0.0) refl there s.2)
          ∙ no_line ls (insert_entry nat_cmp placed s.0.0 s.0.1) q s.3 (people_of-insert_entry n s.0.0 s.0.1 placed ∙ other_number placed n s.0.0 s.0.1 q (is_eq (nat_cmp n s.0.0)) refl there s.2)
    ]

    -- the entry of a number is that of one line, and no other line has the number
    abbrev pub HasOneLine : ℕ → List Line → Type 0
    HasOneLine p ls = (line : Line) × (filter test ls ≡ line ∷ []) × (read line.bytes ≡ Ok (Some (n, p)))

    first_line : (p : ℕ) (l : Line) (ls : List Line) (placed : List (ℕ × ℕ)) (e : ℕ × ℕ) → read l.bytes ≡ Ok (Some e) → Collects (insert_entry nat_cmp placed e.0 e.1) ls
        → people_at_number n all ≡ Some p → n ≡ e.0 → HasOneLine p (l ∷ ls)
    first_line p l ls placed e is rest there same =
        let placed_now : people_at_number n (insert_entry nat_cmp placed e.0 e.1) ≡ Some e.1 = ap (λ k. people_at_number k (insert_entry nat_cmp placed e.0 e.1)) same ∙ found_new placed e.0 e.1 in
        let found : people_at_number n all ≡ Some e.1 = kept ls (insert_entry nat_cmp placed e.0 e.1) n e.1 rest placed_now in
        let people : p ≡ e.1 = cc in
        let passes : test l ≡ true = some l e is ∙ eq-eqb n e.0 same in
        (l, ap (λ b. cond b (l ∷ filter test ls) (filter test ls)) passes ∙ ap (λ ms. l ∷ ms) (no_line ls (insert_entry nat_cmp placed e.0 e.1) e.1 rest placed_now), rw (same, people) is)

    one_line_by : (p : ℕ) (l : Line) (ls : List Line) (placed : List (ℕ × ℕ)) (e : ℕ × ℕ) → read l.bytes ≡ Ok (Some e) → Collects (insert_entry nat_cmp placed e.0 e.1) ls
        → people_at_number n all ≡ Some p → people_at_number n placed ≡ None → (b : Bool) → (n == e.0) ≡ b
        → (people_at_number n (insert_entry nat_cmp placed e.0 e.1) ≡ None → HasOneLine p ls) → HasOneLine p (l ∷ ls)
    one_line_by p l ls placed e is rest there absent true tied later = first_line p l ls placed e is rest there (tied_same n e.0 (tied_is n e.0 ∙ tied))
    one_line_by p l ls placed e is rest there absent false tied later =
        let still : HasOneLine p ls = later (people_of-insert_entry n e.0 e.1 placed ∙ ap (λ b. cond b (Some e.1) (people_at_number n placed)) (tied_is n e.0 ∙ tied) ∙ absent) in
        (still.0, passed_over l ls (some l e is ∙ tied) ∙ still.1, still.2)

    pub one_line : (p : ℕ) (ls : List Line) (placed : List (ℕ × ℕ)) → Collects placed ls → people_at_number n all ≡ Some p → people_at_number n placed ≡ None → HasOneLine p ls
    one_line p [] placed is there absent = let none_there : people_at_number n all ≡ None = ap (λ es. people_at_number n es) (sym (ended placed fault is)) ∙ absent in cc
    one_line p (l ∷ ls) placed is there absent = elim (stepped placed l ls is) as (λ _. HasOneLine p (l ∷ ls)) [
      | inl s ↦ (let later : HasOneLine p ls = one_line p ls placed s.1 there absent in (later.0, passed_over l ls (none l s.0) ∙ later.1, later.2))
      | inr s ↦ one_line_by p l ls placed s.0 s.1 s.3 there absent (n == s.0.0) refl (one_line p ls (insert_entry nat_cmp placed s.0.0 s.0.1) s.3 there)
    ]
