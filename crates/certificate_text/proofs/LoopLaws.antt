-- Readings in loops and recursions, step by step.
use Rattle.std.proofs.Common.{◌≡◌, ℕ, ◌+◌, ◌-◌, ◌<◌, ◌≤◌, cond, List, [], ◌∷◌, ◌++◌, map, Option, Some, None, Result, refl, ap, sym, subst, ◌∙◌, append_assoc, arith}
use Rattle.std.specs.Prelude.{nat_lt}
use Rattle.std.proofs.lemmas.Bool.Decides.{nat_tests}
use Rattle.field_lines.specs.RawPieces.{RawLine}
use Rattle.certificate_lines.specs.Lines as line
use Rattle.certificate_lines.specs.Rest.{Rest, lines_of, IsTextMemory, TakesTextLine, FaultOf}
use Rattle.certificate_lines.specs.Items.{by_words, seen, taken, item_on, wanted_after}
use Rattle.certificate_laws.specs.Depth.{after_raise}
use Rattle.certificate_lines.specs.Reading.{ReadsItems, Refuses}
use Rattle.certificate_lines.proofs.ReadLaws.{reads_none, reads_then, reads_with, reads_refuse, reads_line, refuses_line}
use Rattle.certificate_lines.specs.declared.fault.TextKind.{TextKind}
use Rattle.certificate_lines.specs.declared.fault.TextFault.{TextFault}
use Rattle.certificate_data.specs.declared.format.Format.{Format}
use Rattle.certificate_data.specs.declared.format.Format.TheVariants.{Plain, Wide}
use Rattle.certificate_lines.specs.declared.item.Opening.{Opening}
use Rattle.certificate_lines.specs.declared.item.Opening.TheVariants as opening
use Rattle.certificate_lines.specs.declared.item.Item.{Item}
use Rattle.certificate_lines.specs.declared.item.Item.TheVariants as item
use Rattle.certificate_lines.specs.declared.item.Wanted.{Wanted}
use Rattle.certificate_lines.specs.declared.item.Wanted.TheVariants as want
use Rattle.certificate_data.specs.declared.tree.Branch.{Branch}
use Rattle.certificate_data.specs.declared.tree.Take.{Take}
use Rattle.certificate_data.specs.TreeValue.{list_of_takes}
use Rattle.certificate_text.specs.Trees.{items_of_takes}
use Rattle.certificate_text.proofs.TreeViews.{items_of_branch, items_of_branches, branches_more, items_of_take, takes_more}

map_more : {X Y : Type 0} (f : X → Y) (xs : List X) (x : X) → map f (xs ++ x ∷ []) ≡ map f xs ++ f x ∷ []
map_more f [] x = refl
map_more f (y ∷ xs) x = ap (λ (l : List _). f y ∷ l) (map_more f xs x)

-- what was read has another form
pub reads_as : (a b : List Wanted) (x y : Rest) (is js : List Item) → is ≡ js → ReadsItems a x is b y → ReadsItems a x js b y
reads_as a b x y is js same h = subst (λ (l : List Item). ReadsItems a x l b y) same h

pub reads_to : (a b c : List Wanted) (x y : Rest) (is : List Item) → b ≡ c → ReadsItems a x is b y → ReadsItems a x is c y
reads_to a b c x y is same h = subst (λ (w : List Wanted). ReadsItems a x is w y) same h

-- `n` lines of one form
abbrev pub runs : (ℕ → Wanted) → ℕ → List Wanted
runs wants n = cond (nat_lt 0 n) (wants n ∷ []) []

pub runs_more : (wants : ℕ → Wanted) (n : ℕ) → 0 < n → runs wants n ≡ wants n ∷ []
runs_more wants n some = grind (arith, nat_tests)

module _ {X : Type 0} (wants : ℕ → Wanted) where
  module _ (read : RawLine → Result X TextKind) (view : X → Item) (same : (n : ℕ) (piece : RawLine) → item_on (wants n) piece ≡ seen view (read piece)) (after : (n : ℕ) (x : X) → wanted_after (wants n) (view x) ≡ runs wants (n - 1)) where
    pub run_step : (count done : ℕ) (start old new : Rest) (xs : List X) (x : X) → done < count → ReadsItems (runs wants count) start (map view xs) (runs wants (count - done)) old → TakesTextLine read x old new
        → ReadsItems (runs wants count) start (map view (xs ++ x ∷ [])) (runs wants (count - (done + 1))) new
    run_step count done start old new xs x lt before takes =
        let now : runs wants (count - done) ≡ wants (count - done) ∷ [] = runs_more wants (count - done) (omega arith) in
        let first = reads_to (runs wants count) (runs wants (count - done)) (wants (count - done) ∷ []) start old (map view xs) now before in
        let one = reads_line (wants (count - done)) read view (same (count - done)) x old new takes in
        let less : count - done - 1 ≡ count - (done + 1) = omega arith in
        let then = reads_to (wants (count - done) ∷ []) (wanted_after (wants (count - done)) (view x)) (runs wants (count - (done + 1))) old new (view x ∷ []) (after (count - done) x ∙ ap (runs wants) less) one in
        reads_as (runs wants count) (runs wants (count - (done + 1))) start new (map view xs ++ view x ∷ []) (map view (xs ++ x ∷ [])) (sym (map_more view xs x))
        (reads_then (runs wants count) (wants (count - done) ∷ []) (runs wants (count - (done + 1))) start old new (map view xs) (view x ∷ []) first then)

    pub run_fault : (count done : ℕ) (start old : Rest) (xs : List X) (fault : TextFault) → done < count → ReadsItems (runs wants count) start (map view xs) (runs wants (count - done)) old
        → ((IsTextMemory fault → ⊥) → FaultOf read old.number (lines_of old) fault) → Refuses (runs wants count) start fault
    run_fault count done start old xs fault lt before h =
        let now : runs wants (count - done) ≡ wants (count - done) ∷ [] = runs_more wants (count - done) (omega arith) in
        let first = reads_to (runs wants count) (runs wants (count - done)) (wants (count - done) ∷ []) start old (map view xs) now before in
        reads_refuse (runs wants count) (wants (count - done) ∷ []) start old (map view xs) fault first (refuses_line (wants (count - done)) read view (same (count - done)) old fault h)

pub run_start : (wants : ℕ → Wanted) (count : ℕ) (start : Rest) → ReadsItems (runs wants count) start [] (runs wants (count - 0)) start
run_start wants count start =
    let same : count ≡ count - 0 = omega arith in
    reads_to (runs wants count) (runs wants count) (runs wants (count - 0)) start start [] (ap (runs wants) same) (reads_none (runs wants count) start)

-- a tree, branch by branch
module _ (format : Format) (levels : ℕ) (start : Rest) where
  opened : (k : ℕ) (o : Opening) (old new : Rest) (bs : List Branch) → ReadsItems (want.Tree format levels ∷ []) start (items_of_branches bs) (want.Tree format k ∷ []) old
      → TakesTextLine (by_words (line.opening_on format k)) o old new → ReadsItems (want.Tree format levels ∷ []) start (items_of_branches bs ++ item.Opens o ∷ []) (wanted_after (want.Tree format k) (item.Opens o)) new
  opened k o old new bs before takes =
      reads_then (want.Tree format levels ∷ []) (want.Tree format k ∷ []) (wanted_after (want.Tree format k) (item.Opens o)) start old new (items_of_branches bs) (item.Opens o ∷ []) before
      (reads_line (want.Tree format k) (by_words (line.opening_on format k)) item.Opens (λ piece. refl) o old new takes)

  pub tree_fault : (k : ℕ) (old : Rest) (bs : List Branch) (fault : TextFault) → ReadsItems (want.Tree format levels ∷ []) start (items_of_branches bs) (want.Tree format k ∷ []) old
      → ((IsTextMemory fault → ⊥) → FaultOf (by_words (line.opening_on format k)) old.number (lines_of old) fault) → Refuses (want.Tree format levels ∷ []) start fault
  tree_fault k old bs fault before h =
      reads_refuse (want.Tree format levels ∷ []) (want.Tree format k ∷ []) start old (items_of_branches bs) fault before
      (refuses_line (want.Tree format k) (by_words (line.opening_on format k)) item.Opens (λ piece. refl) old fault h)

  -- a fault inside a branch
  pub branch_fault : (k county : ℕ) (limit : Option ℕ) (old new : Rest) (bs : List Branch) (fault : TextFault) → ReadsItems (want.Tree format levels ∷ []) start (items_of_branches bs) (want.Tree format k ∷ []) old
      → TakesTextLine (by_words (line.opening_on format k)) (opening.Branch county limit) old new → Refuses (want.Takes format k ∷ []) new fault → Refuses (want.Tree format levels ∷ []) start fault
  branch_fault k county limit old new bs fault before takes h =
      reads_refuse (want.Tree format levels ∷ []) (want.Takes format k ∷ []) start new (items_of_branches bs ++ item.Opens (opening.Branch county limit) ∷ []) fault (opened k (opening.Branch county limit) old new bs before takes) h

  -- one more branch
  pub branch_step : (k county : ℕ) (limit : Option ℕ) (old mid new : Rest) (bs : List Branch) (b : Branch) (taken_items : List Item) → ReadsItems (want.Tree format levels ∷ []) start (items_of_branches bs) (want.Tree format k ∷ []) old
      → TakesTextLine (by_words (line.opening_on format k)) (opening.Branch county limit) old mid
      → ReadsItems (want.Takes format k ∷ []) mid (taken_items ++ item.Mark ∷ []) (want.Tree format (after_raise format k) ∷ []) new
      → items_of_branch b ≡ item.Opens (opening.Branch county limit) ∷ (taken_items ++ item.Mark ∷ [])
      → ReadsItems (want.Tree format levels ∷ []) start (items_of_branches (bs ++ b ∷ [])) (want.Tree format (after_raise format k) ∷ []) new
  branch_step k county limit old mid new bs b taken_items before takes inside is =
      let all = reads_then (want.Tree format levels ∷ []) (want.Takes format k ∷ []) (want.Tree format (after_raise format k) ∷ []) start mid new (items_of_branches bs ++ item.Opens (opening.Branch county limit) ∷ []) (taken_items ++ item.Mark ∷ []) (opened k (opening.Branch county limit) old mid bs before takes) inside in
      reads_as (want.Tree format levels ∷ []) (want.Tree format (after_raise format k) ∷ []) start new _ (items_of_branches (bs ++ b ∷ []))
      (append_assoc (items_of_branches bs) (item.Opens (opening.Branch county limit) ∷ []) (taken_items ++ item.Mark ∷ []) ∙ ap (λ (l : List Item). items_of_branches bs ++ l) (sym is) ∙ sym (branches_more bs b)) all

  -- a leaf of one line
  pub leaf_end : (k : ℕ) (o : Opening) (old new : Rest) (bs : List Branch) (items : List Item) → ReadsItems (want.Tree format levels ∷ []) start (items_of_branches bs) (want.Tree format k ∷ []) old
      → TakesTextLine (by_words (line.opening_on format k)) o old new → wanted_after (want.Tree format k) (item.Opens o) ≡ [] → items ≡ items_of_branches bs ++ item.Opens o ∷ [] → ReadsItems (want.Tree format levels ∷ []) start items [] new
  leaf_end k o old new bs items before takes none is =
      reads_as (want.Tree format levels ∷ []) [] start new (items_of_branches bs ++ item.Opens o ∷ []) items (sym is)
      (reads_to (want.Tree format levels ∷ []) (wanted_after (want.Tree format k) (item.Opens o)) [] start new (items_of_branches bs ++ item.Opens o ∷ []) none (opened k o old new bs before takes))

  -- a leaf and its lines
  pub bound_end : (k count : ℕ) (old mid new : Rest) (bs : List Branch) (lines items : List Item) → ReadsItems (want.Tree format levels ∷ []) start (items_of_branches bs) (want.Tree format k ∷ []) old
      → TakesTextLine (by_words (line.opening_on format k)) (opening.Bound count) old mid → ReadsItems (wanted_after (want.Tree format k) (item.Opens (opening.Bound count))) mid lines [] new
      → items ≡ items_of_branches bs ++ item.Opens (opening.Bound count) ∷ lines → ReadsItems (want.Tree format levels ∷ []) start items [] new
  bound_end k count old mid new bs lines items before takes inside is =
      reads_as (want.Tree format levels ∷ []) [] start new ((items_of_branches bs ++ item.Opens (opening.Bound count) ∷ []) ++ lines) items (append_assoc (items_of_branches bs) (item.Opens (opening.Bound count) ∷ []) lines ∙ sym is)
      (reads_then (want.Tree format levels ∷ []) (wanted_after (want.Tree format k) (item.Opens (opening.Bound count))) [] start mid new (items_of_branches bs ++ item.Opens (opening.Bound count) ∷ []) lines (opened k (opening.Bound count) old mid bs before takes) inside)

  pub bound_fault : (k count : ℕ) (old mid : Rest) (bs : List Branch) (fault : TextFault) → ReadsItems (want.Tree format levels ∷ []) start (items_of_branches bs) (want.Tree format k ∷ []) old
      → TakesTextLine (by_words (line.opening_on format k)) (opening.Bound count) old mid → Refuses (wanted_after (want.Tree format k) (item.Opens (opening.Bound count))) mid fault → Refuses (want.Tree format levels ∷ []) start fault
  bound_fault k count old mid bs fault before takes h =
      reads_refuse (want.Tree format levels ∷ []) (wanted_after (want.Tree format k) (item.Opens (opening.Bound count))) start mid (items_of_branches bs ++ item.Opens (opening.Bound count) ∷ []) fault (opened k (opening.Bound count) old mid bs before takes) h

-- the takes of a branch, one after the other
module _ (format : Format) (k : ℕ) (start : Rest) where
  one_take : (r : Option (List ℕ)) (old new : Rest) (ts : List Take) → ReadsItems (want.Takes format k ∷ []) start (items_of_takes (list_of_takes ts)) (want.Takes format k ∷ []) old
      → TakesTextLine (by_words line.take_on) r old new → ReadsItems (want.Takes format k ∷ []) start (items_of_takes (list_of_takes ts) ++ taken r ∷ []) (wanted_after (want.Takes format k) (taken r)) new
  one_take r old new ts before takes =
      reads_then (want.Takes format k ∷ []) (want.Takes format k ∷ []) (wanted_after (want.Takes format k) (taken r)) start old new (items_of_takes (list_of_takes ts)) (taken r ∷ []) before
      (reads_line (want.Takes format k) (by_words line.take_on) taken (λ piece. refl) r old new takes)

  pub takes_fault : (old : Rest) (ts : List Take) (fault : TextFault) → ReadsItems (want.Takes format k ∷ []) start (items_of_takes (list_of_takes ts)) (want.Takes format k ∷ []) old
      → ((IsTextMemory fault → ⊥) → FaultOf (by_words line.take_on) old.number (lines_of old) fault) → Refuses (want.Takes format k ∷ []) start fault
  takes_fault old ts fault before h =
      reads_refuse (want.Takes format k ∷ []) (want.Takes format k ∷ []) start old (items_of_takes (list_of_takes ts)) fault before
      (refuses_line (want.Takes format k) (by_words line.take_on) taken (λ piece. refl) old fault h)

  pub takes_end : (old new : Rest) (ts : List Take) → ReadsItems (want.Takes format k ∷ []) start (items_of_takes (list_of_takes ts)) (want.Takes format k ∷ []) old
      → TakesTextLine (by_words line.take_on) None old new → ReadsItems (want.Takes format k ∷ []) start (items_of_takes (list_of_takes ts) ++ item.Mark ∷ []) (want.Tree format (after_raise format k) ∷ []) new
  takes_end old new ts before takes = one_take None old new ts before takes

  -- a fault inside a take's tree
  pub take_fault : (cs : List ℕ) (old mid : Rest) (ts : List Take) (fault : TextFault) → ReadsItems (want.Takes format k ∷ []) start (items_of_takes (list_of_takes ts)) (want.Takes format k ∷ []) old
      → TakesTextLine (by_words line.take_on) (Some cs) old mid → Refuses (want.Tree format (k - 1) ∷ []) mid fault → Refuses (want.Takes format k ∷ []) start fault
  take_fault cs old mid ts fault before takes h =
      reads_refuse (want.Takes format k ∷ []) (want.Tree format (k - 1) ∷ want.Takes format k ∷ []) start mid (items_of_takes (list_of_takes ts) ++ item.Takes cs ∷ []) fault (one_take (Some cs) old mid ts before takes)
      (λ mem more. h mem (want.Takes format k ∷ more))

  pub take_step : (cs : List ℕ) (tree_items : List Item) (old mid new : Rest) (ts : List Take) (t : Take) → ReadsItems (want.Takes format k ∷ []) start (items_of_takes (list_of_takes ts)) (want.Takes format k ∷ []) old
      → TakesTextLine (by_words line.take_on) (Some cs) old mid → ReadsItems (want.Tree format (k - 1) ∷ []) mid tree_items [] new → items_of_take t ≡ item.Takes cs ∷ tree_items
      → ReadsItems (want.Takes format k ∷ []) start (items_of_takes (list_of_takes (ts ++ t ∷ []))) (want.Takes format k ∷ []) new
  take_step cs tree_items old mid new ts t before takes inside is =
      let all = reads_then (want.Takes format k ∷ []) (want.Tree format (k - 1) ∷ want.Takes format k ∷ []) (want.Takes format k ∷ []) start mid new (items_of_takes (list_of_takes ts) ++ item.Takes cs ∷ []) tree_items (one_take (Some cs) old mid ts before takes) (reads_with (want.Tree format (k - 1) ∷ []) [] (want.Takes format k ∷ []) mid new tree_items inside) in
      reads_as (want.Takes format k ∷ []) (want.Takes format k ∷ []) start new _ (items_of_takes (list_of_takes (ts ++ t ∷ [])))
      (append_assoc (items_of_takes (list_of_takes ts)) (item.Takes cs ∷ []) tree_items ∙ ap (λ (l : List Item). items_of_takes (list_of_takes ts) ++ l) (sym is) ∙ sym (takes_more ts t)) all

pub after_raise-le : (format : Format) (k : ℕ) → after_raise format k ≤ k
after_raise-le Plain k = omega arith
after_raise-le Wide k = omega arith
