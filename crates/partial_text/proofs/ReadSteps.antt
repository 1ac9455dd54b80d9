-- Readings of a partial tree, step by step.
use Rattle.std.proofs.Common.{◌≡◌, ℕ, ◌-◌, List, [], ◌∷◌, ◌++◌, Vec, Global, Option, Some, None, Result, Ok, Err, IfOk, IfErr, refl, ap, sym, subst, ◌∙◌, append_assoc, append-nil}
use Rattle.std.specs.List.{flat_map}
use Rattle.std.proofs.lemmas.Grind.{flat_map-append}
use Rattle.certificate_laws.specs.Depth.{after_raise}
use Rattle.certificate_lines.specs.Lines as line
use Rattle.certificate_lines.specs.Rest.{Rest, lines_of, IsTextMemory, TakesTextLine, FaultOf}
use Rattle.certificate_lines.specs.Items.{by_words, taken, parted, wanted_after}
use Rattle.certificate_lines.specs.Reading.{ReadsItems, ReadsAll, Refuses}
use Rattle.certificate_lines.proofs.ReadLaws.{reads_then, reads_with, reads_refuse, reads_line, refuses_line}
use Rattle.certificate_lines.specs.declared.fault.TextFault.{TextFault}
use Rattle.certificate_data.specs.declared.format.Format.{Format}
use Rattle.certificate_lines.specs.declared.item.Opening.{Opening}
use Rattle.certificate_lines.specs.declared.item.Opening.TheVariants as opening
use Rattle.certificate_lines.specs.declared.item.Item.{Item}
use Rattle.certificate_lines.specs.declared.item.Item.TheVariants as item
use Rattle.certificate_lines.specs.declared.item.Wanted.{Wanted}
use Rattle.certificate_lines.specs.declared.item.Wanted.TheVariants as want
use Rattle.certificate_text.proofs.LoopLaws.{reads_as}
use Rattle.partial_trees.specs.declared.tree.PartialTree.{PartialTree as Declared}
use Rattle.partial_trees.specs.declared.tree.PartialBranch.{PartialBranch, roll-PartialBranch, out-roll-PartialBranch}
use Rattle.partial_trees.specs.declared.tree.PartialTake.{PartialTake, roll-PartialTake, out-roll-PartialTake}
use Rattle.partial_trees.specs.PartialValue.{partial_of, list_of_begun}
use Rattle.partial_text.specs.PartItems.{items_of_part, items_of_begun}
use Rattle.partial_text.specs.Reading.{part_branch_items, part_take_items}
use Rattle.partial_text.proofs.PartLists.{takes_items}

-- the items of a branch and of a take that are made of their fields
pub made_branch_items : (county : ℕ) (limit : Option ℕ) (takes : Vec PartialTake Global)
    → part_branch_items (roll-PartialBranch (record { county = county; limit = limit; takes = takes })) ≡ item.Opens (opening.Branch county limit) ∷ (items_of_begun (list_of_begun takes.items) ++ item.Mark ∷ [])
made_branch_items county limit takes =
    ap (λ b. item.Opens (opening.Branch b.county b.limit) ∷ (items_of_begun (list_of_begun b.takes.items) ++ item.Mark ∷ [])) (out-roll-PartialBranch (record { county = county; limit = limit; takes = takes }))

pub made_take_items : (codes : List ℕ) (tree : Declared) → part_take_items (roll-PartialTake (record { codes = codes; tree = tree })) ≡ item.Takes codes ∷ items_of_part (partial_of tree)
made_take_items codes tree = ap (λ t. item.Takes t.codes ∷ items_of_part (partial_of t.tree)) (out-roll-PartialTake (record { codes = codes; tree = tree }))

branches_more : (bs : List PartialBranch) (b : PartialBranch) → flat_map part_branch_items (bs ++ b ∷ []) ≡ flat_map part_branch_items bs ++ part_branch_items b
branches_more bs b = flat_map-append part_branch_items bs (b ∷ []) ∙ ap (λ (l : List Item). flat_map part_branch_items bs ++ l) (append-nil (part_branch_items b))

takes_more : (ts : List PartialTake) (t : PartialTake) → items_of_begun (list_of_begun (ts ++ t ∷ [])) ≡ items_of_begun (list_of_begun ts) ++ part_take_items t
takes_more ts t =
    takes_items (ts ++ t ∷ []) ∙ flat_map-append part_take_items ts (t ∷ []) ∙ ap (λ (l : List Item). flat_map part_take_items ts ++ l) (append-nil (part_take_items t))
    ∙ ap (λ (l : List Item). l ++ part_take_items t) (sym (takes_items ts))

-- a line of a branch or of a leaf
module _ (format : Format) (a : List Wanted) (start : Rest) (k : ℕ) (xs : List Item) where
  one_opening : (r : Option Opening) (old new : Rest) → ReadsItems a start xs (want.Part format k ∷ []) old → TakesTextLine (by_words (line.part_on format k)) r old new
      → ReadsItems a start (xs ++ parted r ∷ []) (wanted_after (want.Part format k) (parted r)) new
  one_opening r old new before takes =
      reads_then a (want.Part format k ∷ []) (wanted_after (want.Part format k) (parted r)) start old new xs (parted r ∷ []) before
      (reads_line (want.Part format k) (by_words (line.part_on format k)) parted (λ piece. refl) r old new takes)

  pub opening_fault : (old : Rest) (fault : TextFault) → ReadsItems a start xs (want.Part format k ∷ []) old
      → ((IsTextMemory fault → ⊥) → FaultOf (by_words (line.part_on format k)) old.number (lines_of old) fault) → Refuses a start fault
  opening_fault old fault before h =
      reads_refuse a (want.Part format k ∷ []) start old xs fault before (refuses_line (want.Part format k) (by_words (line.part_on format k)) parted (λ piece. refl) old fault h)

  -- a fault behind the first line
  pub behind_fault : (r : Option Opening) (old mid : Rest) (fault : TextFault) → ReadsItems a start xs (want.Part format k ∷ []) old → TakesTextLine (by_words (line.part_on format k)) r old mid
      → Refuses (wanted_after (want.Part format k) (parted r)) mid fault → Refuses a start fault
  behind_fault r old mid fault before takes h = reads_refuse a (wanted_after (want.Part format k) (parted r)) start mid (xs ++ parted r ∷ []) fault (one_opening r old mid before takes) h

  -- a leaf that is one line
  pub leaf_end : (r : Option Opening) (old new : Rest) (items : List Item) → ReadsItems a start xs (want.Part format k ∷ []) old → TakesTextLine (by_words (line.part_on format k)) r old new
      → wanted_after (want.Part format k) (parted r) ≡ [] → items ≡ xs ++ parted r ∷ [] → ReadsItems a start items [] new
  leaf_end r old new items before takes none is =
      reads_as a [] start new (xs ++ parted r ∷ []) items (sym is) (subst (λ (w : List Wanted). ReadsItems a start (xs ++ parted r ∷ []) w new) none (one_opening r old new before takes))

  -- a leaf of several lines, or a branch
  pub more_end : (r : Option Opening) (old mid new : Rest) (inside items : List Item) (left : List Wanted) → ReadsItems a start xs (want.Part format k ∷ []) old → TakesTextLine (by_words (line.part_on format k)) r old mid
      → ReadsItems (wanted_after (want.Part format k) (parted r)) mid inside left new → items ≡ xs ++ parted r ∷ inside → ReadsItems a start items left new
  more_end r old mid new inside items left before takes h is =
      reads_as a left start new ((xs ++ parted r ∷ []) ++ inside) items (append_assoc xs (parted r ∷ []) inside ∙ sym is)
      (reads_then a (wanted_after (want.Part format k) (parted r)) left start mid new (xs ++ parted r ∷ []) inside (one_opening r old mid before takes) h)

-- a branch behind others
pub branch_step : (format : Format) (a : List Wanted) (start : Rest) (k county : ℕ) (limit : Option ℕ) (old mid new : Rest) (bs cs : List PartialBranch) (takes : Vec PartialTake Global)
    → ReadsItems a start (flat_map part_branch_items bs) (want.Part format k ∷ []) old → TakesTextLine (by_words (line.part_on format k)) (Some (opening.Branch county limit)) old mid
    → ReadsItems (want.PartTakes format k ∷ []) mid (items_of_begun (list_of_begun takes.items) ++ item.Mark ∷ []) (want.Part format (after_raise format k) ∷ []) new
    → cs ≡ bs ++ roll-PartialBranch (record { county = county; limit = limit; takes = takes }) ∷ []
    → ReadsItems a start (flat_map part_branch_items cs) (want.Part format (after_raise format k) ∷ []) new
branch_step format a start k county limit old mid new bs cs takes before line_taken inside is =
    let b = roll-PartialBranch (record { county = county; limit = limit; takes = takes }) in
    more_end format a start k (flat_map part_branch_items bs) (Some (opening.Branch county limit)) old mid new (items_of_begun (list_of_begun takes.items) ++ item.Mark ∷ []) (flat_map part_branch_items cs) (want.Part format (after_raise format k) ∷ []) before line_taken inside
    (ap (flat_map part_branch_items) is ∙ branches_more bs b ∙ ap (λ (l : List Item). flat_map part_branch_items bs ++ l) (made_branch_items county limit takes))

-- the takes of a branch, one after the other
module _ (format : Format) (k : ℕ) (start : Rest) where
  one_take : (r : Option (List ℕ)) (old new : Rest) (xs : List Item) → ReadsItems (want.PartTakes format k ∷ []) start xs (want.PartTakes format k ∷ []) old
      → TakesTextLine (by_words line.take_on) r old new → ReadsItems (want.PartTakes format k ∷ []) start (xs ++ taken r ∷ []) (wanted_after (want.PartTakes format k) (taken r)) new
  one_take r old new xs before takes =
      reads_then (want.PartTakes format k ∷ []) (want.PartTakes format k ∷ []) (wanted_after (want.PartTakes format k) (taken r)) start old new xs (taken r ∷ []) before
      (reads_line (want.PartTakes format k) (by_words line.take_on) taken (λ piece. refl) r old new takes)

  pub takes_fault : (old : Rest) (xs : List Item) (fault : TextFault) → ReadsItems (want.PartTakes format k ∷ []) start xs (want.PartTakes format k ∷ []) old
      → ((IsTextMemory fault → ⊥) → FaultOf (by_words line.take_on) old.number (lines_of old) fault) → Refuses (want.PartTakes format k ∷ []) start fault
  takes_fault old xs fault before h =
      reads_refuse (want.PartTakes format k ∷ []) (want.PartTakes format k ∷ []) start old xs fault before
      (refuses_line (want.PartTakes format k) (by_words line.take_on) taken (λ piece. refl) old fault h)

  pub takes_end : (old new : Rest) (xs : List Item) → ReadsItems (want.PartTakes format k ∷ []) start xs (want.PartTakes format k ∷ []) old
      → TakesTextLine (by_words line.take_on) None old new → ReadsItems (want.PartTakes format k ∷ []) start (xs ++ item.Mark ∷ []) (want.Part format (after_raise format k) ∷ []) new
  takes_end old new xs before takes = one_take None old new xs before takes

  -- a fault inside a take's tree
  pub take_fault : (cs : List ℕ) (old mid : Rest) (xs : List Item) (fault : TextFault) → ReadsItems (want.PartTakes format k ∷ []) start xs (want.PartTakes format k ∷ []) old
      → TakesTextLine (by_words line.take_on) (Some cs) old mid → Refuses (want.Part format (k - 1) ∷ []) mid fault → Refuses (want.PartTakes format k ∷ []) start fault
  take_fault cs old mid xs fault before takes h =
      reads_refuse (want.PartTakes format k ∷ []) (want.Part format (k - 1) ∷ want.PartTakes format k ∷ []) start mid (xs ++ item.Takes cs ∷ []) fault (one_take (Some cs) old mid xs before takes)
      (λ mem more. h mem (want.PartTakes format k ∷ more))

  pub take_step : (cs : List ℕ) (tree : Declared) (old mid new : Rest) (ts us : List PartialTake) → ReadsItems (want.PartTakes format k ∷ []) start (items_of_begun (list_of_begun ts)) (want.PartTakes format k ∷ []) old
      → TakesTextLine (by_words line.take_on) (Some cs) old mid → ReadsItems (want.Part format (k - 1) ∷ []) mid (items_of_part (partial_of tree)) [] new
      → us ≡ ts ++ roll-PartialTake (record { codes = cs; tree = tree }) ∷ []
      → ReadsItems (want.PartTakes format k ∷ []) start (items_of_begun (list_of_begun us)) (want.PartTakes format k ∷ []) new
  take_step cs tree old mid new ts us before takes inside is =
      let xs = items_of_begun (list_of_begun ts) in
      let inner = items_of_part (partial_of tree) in
      let all = reads_then (want.PartTakes format k ∷ []) (want.Part format (k - 1) ∷ want.PartTakes format k ∷ []) (want.PartTakes format k ∷ []) start mid new (xs ++ item.Takes cs ∷ []) inner (one_take (Some cs) old mid xs before takes) (reads_with (want.Part format (k - 1) ∷ []) [] (want.PartTakes format k ∷ []) mid new inner inside) in
      reads_as (want.PartTakes format k ∷ []) (want.PartTakes format k ∷ []) start new _ (items_of_begun (list_of_begun us))
      (append_assoc xs (item.Takes cs ∷ []) inner ∙ ap (λ (l : List Item). xs ++ l) (sym (made_take_items cs tree)) ∙ sym (takes_more ts (roll-PartialTake (record { codes = cs; tree = tree }))) ∙ ap (λ (l : List PartialTake). items_of_begun (list_of_begun l)) (sym is)) all

-- an answer that gives what was read, unless memory was refused
pub ended : {X : Type 0} (a : List Wanted) (view : X → List Item) (items : List Item) (left : List Wanted) (old new : Rest) (r : Result X TextFault)
    → IfOk r (λ x. view x ≡ items) → IfErr r (λ f. IsTextMemory f) → ReadsItems a old items left new → ReadsAll a view left old r new
ended a view items left old new (Ok x) same refused h = reads_as a left old new items (view x) (sym same) h
ended a view items left old new (Err fault) same refused h = λ mem more. absurd (mem refused)

-- the answer at a leaf that is one line
pub leaf_ended : (format : Format) (a : List Wanted) (start : Rest) (k : ℕ) (xs : List Item) (r : Option Opening) (old new : Rest) (answer : Result Declared TextFault) → ReadsItems a start xs (want.Part format k ∷ []) old
    → TakesTextLine (by_words (line.part_on format k)) r old new → wanted_after (want.Part format k) (parted r) ≡ []
    → IfOk answer (λ t. items_of_part (partial_of t) ≡ xs ++ parted r ∷ []) → IfErr answer (λ f. IsTextMemory f) → ReadsAll a (λ t. items_of_part (partial_of t)) [] start answer new
leaf_ended format a start k xs r old new answer before takes none same refused =
    ended a (λ t. items_of_part (partial_of t)) (xs ++ parted r ∷ []) [] start new answer same refused (leaf_end format a start k xs r old new (xs ++ parted r ∷ []) before takes none refl)
