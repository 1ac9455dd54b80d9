-- What is read fits.
use Rattle.std.proofs.Common.{◌≡◌, ℕ, ◌+◌, ◌<◌, ◌≤◌, cond, not, Bool, true, false, List, [], ◌∷◌, ◌++◌, length, drop, codes, Option, Some, None, Result, Ok, Err, refl, ap, sym, subst, ◌∙◌, arith, lit<}
use Rattle.std.specs.Prelude.{nat_lt}
use Rattle.std.specs.List.{join_with_byte}
use Rattle.std.proofs.lemmas.Bool.{ltb-true, ltb-false}
use Rattle.field_lines.specs.Chain.{◌>>=◌}
use Rattle.field_lines.specs.Fault.{most_bytes}
use Rattle.field_lines.specs.RawPieces.{RawLine}
use Rattle.certificate_lines.specs.Words.{line_bytes, line_words, code, pair}
use Rattle.certificate_lines.specs.Lines as line
use Rattle.certificate_lines.specs.Lines.{most, named, counted, number_at, code_word_at, each, ascend, order_on, limit_on, target_on, group_on, branch_on, stuck_on, bound_on, opening_on, part_on, take_on, weigh_on, allowance_on}
use Rattle.certificate_lines.specs.Items.{by_words, head_in, headed, seen, taken, parted, item_on, wanted_after, items_in_front, items_from}
use Rattle.certificate_lines.specs.Rest.{text_fault_at}
use Rattle.county_codes.specs.Digits.{five_digits}
use Rattle.certificate_lines.specs.Spelling.{item_words}
use Rattle.certificate_lines.specs.Fitting.{AreCodes, IsSet, IsWanted, AllFit}
use Rattle.certificate_lines.proofs.WordLaws.{bind_ok}
use Rattle.certificate_lines.proofs.FormLaws.{counted_ok, number_at_ok, code_at_ok, codes_ok, weights_ok, order_few, tolerance_fits, length_map}
use Rattle.certificate_lines.proofs.TextLaws.{item_ok, seen_ok, in_front_ok}
use Rattle.certificate_lines.specs.declared.fault.TextKind.{TextKind}
use Rattle.certificate_lines.specs.declared.fault.TextKind.TheVariants.{BadWord, NotCanonical, CutShort, TooDeep}
use Rattle.certificate_lines.specs.declared.fault.TextFault.{TextFault}
use Rattle.certificate_data.specs.declared.format.Format.{Format}
use Rattle.certificate_data.specs.declared.format.Format.TheVariants.{Plain, Wide}
use Rattle.certificate_data.specs.declared.weights.Weight.{Weight}
use Rattle.county_codes.specs.declared.group.Group.{Group}
use Rattle.certificate_data.specs.declared.allowance.Allowance.{Allowance}
use Rattle.certificate_data.specs.declared.allowance.Allowance.TheVariants.{Room, Weigh}
use Rattle.certificate_lines.specs.declared.item.Opening.{Opening}
use Rattle.certificate_lines.specs.declared.item.Opening.TheVariants.{Branch, Stuck, Seats, Bound}
use Rattle.certificate_lines.specs.declared.item.Item.{Item}
use Rattle.certificate_lines.specs.declared.item.Item.TheVariants.{Within, Order, Limit, Target, Grouped, Opens, Allows, End}
use Rattle.certificate_lines.specs.declared.item.Wanted.{Wanted}
use Rattle.certificate_lines.specs.declared.item.Wanted.TheVariants as want

order_codes : (line : List (List ℕ)) (cs : List ℕ) → order_on line ≡ Ok cs → AreCodes cs
unfolding order_on
order_codes line cs h =
    let a = bind_ok (named (codes "order") line) _ cs h in
    let b = bind_ok (counted 0 most a.value) _ cs a.then in
    (codes_ok b.value cs b.then).1

limit_fits : (line : List (List ℕ)) (limit : ℕ) → limit_on line ≡ Ok limit → limit ≤ most
unfolding limit_on
limit_fits line limit h =
    let a = bind_ok (named (codes "limit") line) _ limit h in
    let b = bind_ok (counted 1 1 a.value) _ limit a.then in
    let c = bind_ok (number_at 0 most b.value) _ limit b.then in
    let same : c.value.0 ≡ limit = cc (c.then) in
    subst (λ (n : ℕ). n ≤ most) same (number_at_ok 0 most (lit< tt) b.value c.value c.first).to

target_go : (words : List (List ℕ)) (target : Option ℕ) (t : Bool) → cond t (Ok None) (number_at 0 most words >>= λ groups. Ok (Some groups.0)) ≡ Ok target → IsWanted want.Target (Target target)
target_go words target true h =
    let same : None ≡ target = cc in
    subst (λ (t : Option ℕ). IsWanted want.Target (Target t)) same tt
target_go words target false h =
    let c = bind_ok (number_at 0 most words) _ target h in
    let same : Some c.value.0 ≡ target = cc (c.then) in
    subst (λ (t : Option ℕ). IsWanted want.Target (Target t)) same (number_at_ok 0 most (lit< tt) words c.value c.first).to

target_fits : (line : List (List ℕ)) (target : Option ℕ) → target_on line ≡ Ok target → IsWanted want.Target (Target target)
unfolding target_on
target_fits line target h =
    let a = bind_ok (named (codes "target") line) _ target h in
    let b = bind_ok (counted 1 1 a.value) _ target a.then in
    target_go b.value target _ b.then

set_fits : (words : List (List ℕ)) (cs : List ℕ) → each code words ≡ Ok cs → 1 ≤ length words → length words ≤ most → IsSet cs
set_fits words cs h low high =
    let is = codes_ok words cs h in
    let long : length words ≡ length cs = ap length is.0 ∙ length_map five_digits cs in
    record { some = omega (arith, low, long); few = omega (arith, high, long); small = is.1 }

group_fits : (line : List (List ℕ)) (g : Group) → group_on line ≡ Ok g → (g.seats ≤ 65535) × IsSet g.codes
unfolding group_on
group_fits line g h =
    let a = bind_ok (named (codes "group") line) _ g h in
    let b = bind_ok (counted 2 (1 + most) a.value) _ g a.then in
    let s = bind_ok (number_at 0 65535 b.value) _ g b.then in
    let d = bind_ok (each code s.value.1) _ g s.then in
    let n = number_at_ok 0 65535 (lit< tt) b.value s.value s.first in
    let few = counted_ok 2 (1 + most) a.value b.value b.first in
    let long : length b.value ≡ length s.value.1 + 1 = omega (arith, ap length n.words_are) in
    let same : record { seats = s.value.0; codes = d.value } ≡ g = cc (d.then) in
    subst (λ (q : Group). (q.seats ≤ 65535) × IsSet q.codes) same (n.to, set_fits s.value.1 d.value d.first (omega (arith, few.from, long)) (omega (arith, few.to, long)))

deep_go : (levels : ℕ) (x y : Opening) (t : Bool) → nat_lt 0 levels ≡ t → cond t (Ok x) (Err TooDeep) ≡ Ok y → (x ≡ y) × (0 < levels)
deep_go levels x y true e h = (cc, ltb-true 0 levels e)
deep_go levels x y false e h = cc

branch_fits : (format : Format) (levels : ℕ) (words : List (List ℕ)) (o : Opening) → branch_on format levels words ≡ Ok o → IsWanted (want.Tree format levels) (Opens o)
unfolding branch_on
branch_fits Plain levels words o h =
    let a = bind_ok (counted 1 1 words) _ o h in
    let b = bind_ok (code_word_at a.value) _ o a.then in
    let d = deep_go levels (Branch b.value.0 None) o _ refl b.then in
    subst (λ (q : Opening). IsWanted (want.Tree Plain levels) (Opens q)) d.0 ((code_at_ok a.value b.value b.first).to, d.1)
branch_fits Wide levels words o h =
    let a = bind_ok (counted 2 2 words) _ o h in
    let b = bind_ok (code_word_at a.value) _ o a.then in
    let l = bind_ok (number_at 1 most b.value.1) _ o b.then in
    let n = number_at_ok 1 most (lit< tt) b.value.1 l.value l.first in
    let d = deep_go levels (Branch b.value.0 (Some l.value.0)) o _ refl l.then in
    subst (λ (q : Opening). IsWanted (want.Tree Wide levels) (Opens q)) d.0 ((code_at_ok a.value b.value b.first).to, n.from, n.to, d.1)

-- a leaf fits in both formats
leaf_both : (P : Format → Type 0) → P Plain → P Wide → (format : Format) → P format
leaf_both P p w Plain = p
leaf_both P p w Wide = w

stuck_fits : (format : Format) (levels : ℕ) (words : List (List ℕ)) (o : Opening) → stuck_on words ≡ Ok o → IsWanted (want.Tree format levels) (Opens o)
unfolding stuck_on
stuck_fits format levels words o h =
    let a = bind_ok (counted 1 1 words) _ o h in
    let b = bind_ok (code_word_at a.value) _ o a.then in
    let same : Stuck b.value.0 ≡ o = cc (b.then) in
    let small = (code_at_ok a.value b.value b.first).to in
    subst (λ (q : Opening). IsWanted (want.Tree format levels) (Opens q)) same (leaf_both (λ (l : Format). IsWanted (want.Tree l levels) (Opens (Stuck b.value.0))) small small format)

bound_fits : (format : Format) (levels : ℕ) (words : List (List ℕ)) (o : Opening) → bound_on words ≡ Ok o → IsWanted (want.Tree format levels) (Opens o)
unfolding bound_on
bound_fits format levels words o h =
    let a = bind_ok (counted 1 1 words) _ o h in
    let b = bind_ok (number_at 0 most a.value) _ o a.then in
    let same : Bound b.value.0 ≡ o = cc (b.then) in
    let few = (number_at_ok 0 most (lit< tt) a.value b.value b.first).to in
    subst (λ (q : Opening). IsWanted (want.Tree format levels) (Opens q)) same (leaf_both (λ (l : Format). IsWanted (want.Tree l levels) (Opens (Bound b.value.0))) few few format)

module _ (format : Format) (levels : ℕ) (line : List (List ℕ)) (o : Opening) where
  bound_go : (t : Bool) → cond t (bound_on (drop 1 line)) (Err BadWord) ≡ Ok o → IsWanted (want.Tree format levels) (Opens o)
  bound_go false h = cc
  bound_go true h = bound_fits format levels (drop 1 line) o h

  seats_go : (t u : Bool) → cond t (counted 0 0 (drop 1 line) >>= λ _. Ok Seats) (cond u (bound_on (drop 1 line)) (Err BadWord)) ≡ Ok o → IsWanted (want.Tree format levels) (Opens o)
  seats_go false u h = bound_go u h
  seats_go true u h =
      let a = bind_ok (counted 0 0 (drop 1 line)) _ o h in
      let same : Seats ≡ o = cc (a.then) in
      subst (λ (q : Opening). IsWanted (want.Tree format levels) (Opens q)) same (leaf_both (λ (l : Format). IsWanted (want.Tree l levels) (Opens Seats)) tt tt format)

  stuck_go : (s t u : Bool) → cond s (stuck_on (drop 1 line)) (cond t (counted 0 0 (drop 1 line) >>= λ _. Ok Seats) (cond u (bound_on (drop 1 line)) (Err BadWord))) ≡ Ok o → IsWanted (want.Tree format levels) (Opens o)
  stuck_go false t u h = seats_go t u h
  stuck_go true t u h = stuck_fits format levels (drop 1 line) o h

  branch_go : (r s t u : Bool) → cond r (branch_on format levels (drop 1 line)) (cond s (stuck_on (drop 1 line)) (cond t (counted 0 0 (drop 1 line) >>= λ _. Ok Seats) (cond u (bound_on (drop 1 line)) (Err BadWord)))) ≡ Ok o → IsWanted (want.Tree format levels) (Opens o)
  branch_go false s t u h = stuck_go s t u h
  branch_go true s t u h = branch_fits format levels (drop 1 line) o h

  opening_fits : opening_on format levels line ≡ Ok o → IsWanted (want.Tree format levels) (Opens o)
  unfolding opening_on
  opening_fits h = branch_go _ _ _ _ h

module _ (format : Format) (levels : ℕ) (line : List (List ℕ)) (r : Option Opening) where
  open_go : (t : Bool) → cond t (counted 0 0 (drop 1 line) >>= λ _. Ok None) (opening_on format levels line >>= λ o. Ok (Some o)) ≡ Ok r → IsWanted (want.Part format levels) (parted r)
  open_go false h =
      let a = bind_ok (opening_on format levels line) _ r h in
      let same : Some a.value ≡ r = cc (a.then) in
      subst (λ (q : Option Opening). IsWanted (want.Part format levels) (parted q)) same (opening_fits format levels line a.value a.first)
  open_go true h =
      let a = bind_ok (counted 0 0 (drop 1 line)) _ r h in
      let same : None ≡ r = cc (a.then) in
      subst (λ (q : Option Opening). IsWanted (want.Part format levels) (parted q)) same tt

  part_fits : part_on format levels line ≡ Ok r → IsWanted (want.Part format levels) (parted r)
  unfolding part_on
  part_fits h = open_go _ h

module _ (format : Format) (levels : ℕ) (line : List (List ℕ)) (r : Option (List ℕ)) where
  mark_go : (t : Bool) → cond t (counted 0 0 (drop 1 line) >>= λ _. Ok None) (Err BadWord) ≡ Ok r → IsWanted (want.Takes format levels) (taken r)
  mark_go false h = cc
  mark_go true h =
      let a = bind_ok (counted 0 0 (drop 1 line)) _ r h in
      let same : None ≡ r = cc (a.then) in
      subst (λ (q : Option (List ℕ)). IsWanted (want.Takes format levels) (taken q)) same tt

  take_go : (s t : Bool) → cond s (counted 1 most (drop 1 line) >>= λ words. (each code words >>= λ cs. Ok (Some cs))) (cond t (counted 0 0 (drop 1 line) >>= λ _. Ok None) (Err BadWord)) ≡ Ok r → IsWanted (want.Takes format levels) (taken r)
  take_go false t h = mark_go t h
  take_go true t h =
      let a = bind_ok (counted 1 most (drop 1 line)) _ r h in
      let b = bind_ok (each code a.value) _ r a.then in
      let few = counted_ok 1 most (drop 1 line) a.value a.first in
      let same : Some b.value ≡ r = cc (b.then) in
      subst (λ (q : Option (List ℕ)). IsWanted (want.Takes format levels) (taken q)) same (set_fits a.value b.value b.first few.from few.to)

  take_fits : take_on line ≡ Ok r → IsWanted (want.Takes format levels) (taken r)
  unfolding take_on
  take_fits h = take_go _ _ h

-- a take, or the mark, fits in a branch of a partial tree where it does in a branch of a tree
taken_fits : (format : Format) (levels : ℕ) (r : Option (List ℕ)) → IsWanted (want.Takes format levels) (taken r) → IsWanted (want.PartTakes format levels) (taken r)
taken_fits format levels None h = h
taken_fits format levels (Some county_codes) h = h

ascend_go : (quota : ℕ) (ws : List Weight) (a : Allowance) (t : Bool) → ascend ws ≡ t → cond t (Ok (Weigh quota ws)) (Err NotCanonical) ≡ Ok a → (Weigh quota ws ≡ a) × (ascend ws ≡ true)
ascend_go quota ws a true e h = (cc, e)
ascend_go quota ws a false e h = cc

IsShortLine : Allowance → Type 0
IsShortLine a = length (join_with_byte 32 (item_words (Allows a))) ≤ most_bytes

weigh_fits : (left : ℕ) (words : List (List ℕ)) (a : Allowance) → weigh_on words ≡ Ok a → IsShortLine a → IsWanted (want.Allowances left) (Allows a)
unfolding weigh_on IsShortLine
weigh_fits left words a h short =
    let q = bind_ok (number_at 1 256000000 words) _ a h in
    let w = bind_ok (each pair q.value.1) _ a q.then in
    let n = number_at_ok 1 256000000 (lit< tt) words q.value q.first in
    let d = ascend_go q.value.0 w.value a _ refl w.then in
    let quick : length (join_with_byte 32 (item_words (Allows (Weigh q.value.0 w.value)))) ≤ most_bytes = subst (λ (b : Allowance). length (join_with_byte 32 (item_words (Allows b))) ≤ most_bytes) (sym d.0) short in
    subst (λ (b : Allowance). IsWanted (want.Allowances left) (Allows b)) d.0 (record { from = n.from; to = n.to; each = (weights_ok q.value.1 w.value w.first).1; ascending = d.1; short = quick })

module _ (left : ℕ) (line : List (List ℕ)) (a : Allowance) (short : IsShortLine a) where
  weigh_go : (t : Bool) → cond t (weigh_on (drop 1 line)) (Err BadWord) ≡ Ok a → IsWanted (want.Allowances left) (Allows a)
  weigh_go false h = cc
  weigh_go true h = weigh_fits left (drop 1 line) a h short

  room_go : (s t : Bool) → cond s (counted 0 0 (drop 1 line) >>= λ _. Ok Room) (cond t (weigh_on (drop 1 line)) (Err BadWord)) ≡ Ok a → IsWanted (want.Allowances left) (Allows a)
  room_go false t h = weigh_go t h
  room_go true t h =
      let w = bind_ok (counted 0 0 (drop 1 line)) _ a h in
      let same : Room ≡ a = cc (w.then) in
      subst (λ (b : Allowance). IsWanted (want.Allowances left) (Allows b)) same tt

  allowance_fits : allowance_on line ≡ Ok a → IsWanted (want.Allowances left) (Allows a)
  unfolding allowance_on
  allowance_fits h = room_go _ _ h

short_go : (line bytes : List ℕ) (ended p : Bool) → nat_lt most_bytes (length line) ≡ p → cond p (Err BadWord) (cond (not ended) (Err CutShort) (Ok line)) ≡ Ok bytes → length line ≤ most_bytes
short_go line bytes ended true e h = cc
short_go line bytes ended false e h = ltb-false most_bytes (length line) e

line_short : (line bytes : List ℕ) (ended : Bool) → line_bytes line ended ≡ Ok bytes → length line ≤ most_bytes
unfolding line_bytes
line_short line bytes ended h = short_go line bytes ended _ refl h

words_short : (line : List ℕ) (ended : Bool) (words : List (List ℕ)) → line_words line ended ≡ Ok words → length line ≤ most_bytes
unfolding line_words
words_short line ended words h =
    let a = bind_ok (line_bytes line ended) _ words h in
    line_short line a.value ended a.first

said_fits : {X : Type 0} (wanted : Wanted) (read : List (List ℕ) → Result X TextKind) (view : X → Item) (piece : RawLine) (item : Item)
    → ((words : List (List ℕ)) (x : X) → read words ≡ Ok x → IsWanted wanted (view x)) → seen view (by_words read piece) ≡ Ok item → IsWanted wanted item
said_fits wanted read view piece item law h =
    let s = seen_ok view (by_words read piece) item h in
    let w = bind_ok (line_words piece.bytes piece.ended) read s.value s.first in
    subst (λ (i : Item). IsWanted wanted i) s.view_is (law w.value s.value w.then)

allows_fits : (left : ℕ) (piece : RawLine) (item : Item) → seen Allows (by_words line.allowance_on piece) ≡ Ok item → IsWanted (want.Allowances left) item
unfolding IsShortLine
allows_fits left piece item h =
    let s = seen_ok Allows (by_words line.allowance_on piece) item h in
    let w = bind_ok (line_words piece.bytes piece.ended) line.allowance_on s.value s.first in
    let is = item_ok (want.Allowances left) piece item h in
    let short : length (join_with_byte 32 (item_words item)) ≤ most_bytes = subst (λ (l : List ℕ). length l ≤ most_bytes) (sym is.bytes) (words_short piece.bytes piece.ended w.value w.first) in
    let same = subst (λ (i : Item). length (join_with_byte 32 (item_words i)) ≤ most_bytes) (sym s.view_is) short in
    subst (λ (i : Item). IsWanted (want.Allowances left) i) s.view_is (allowance_fits left w.value s.value same w.then)

-- an item that is read fits
pub item_fits : (wanted : Wanted) (piece : RawLine) (item : Item) → item_on wanted piece ≡ Ok item → IsWanted wanted item
item_fits want.Head piece item h =
    let s = seen_ok headed (head_in piece.bytes piece.ended) item h in
    subst (λ (i : Item). IsWanted want.Head i) s.view_is tt
item_fits (want.Tolerance format) piece item h = said_fits (want.Tolerance format) line.tolerance_on Within piece item tolerance_fits h
item_fits (want.Order format) piece item h = said_fits (want.Order format) line.order_on Order piece item (λ words cs e. (order_few words cs e, order_codes words cs e)) h
item_fits want.Limit piece item h = said_fits want.Limit line.limit_on Limit piece item limit_fits h
item_fits want.Target piece item h = said_fits want.Target line.target_on Target piece item target_fits h
item_fits (want.Groups left) piece item h = said_fits (want.Groups left) line.group_on Grouped piece item group_fits h
item_fits (want.Tree format levels) piece item h = said_fits (want.Tree format levels) (line.opening_on format levels) Opens piece item (λ words o e. opening_fits format levels words o e) h
item_fits (want.Takes format levels) piece item h = said_fits (want.Takes format levels) line.take_on taken piece item (λ words r e. take_fits format levels words r e) h
item_fits (want.Part format levels) piece item h = said_fits (want.Part format levels) (line.part_on format levels) parted piece item (λ words r e. part_fits format levels words r e) h
item_fits (want.PartTakes format levels) piece item h = said_fits (want.PartTakes format levels) line.take_on taken piece item (λ words r e. taken_fits format levels r (take_fits format levels words r e)) h
item_fits (want.Allowances left) piece item h = allows_fits left piece item h
item_fits want.End piece item h = said_fits want.End line.end_on (λ _. End) piece item (λ words x e. tt) h

-- items that are read fit
pub items_fit : (wanted : List Wanted) (n : ℕ) (pieces : List RawLine) (items : List Item) → items_from wanted n pieces ≡ Ok items → AllFit wanted items
items_fit [] n [] items h =
    let none : [] ≡ items = cc in
    subst (λ (l : List Item). AllFit [] l) none tt
items_fit [] n (piece ∷ pieces) items h = cc
items_fit (wanted ∷ more) n [] items h = cc
items_fit (wanted ∷ more) n (piece ∷ pieces) items h = go (λ ws later e. items_fit ws (n + 1) pieces later e) (item_on wanted piece) refl h
  where
    go : ((ws : List Wanted) (later : List Item) → items_from ws (n + 1) pieces ≡ Ok later → AllFit ws later) → (r : Result Item TextKind) → item_on wanted piece ≡ r
        → (elim r as (λ _. Result (List Item) TextFault) [
          | Ok item ↦ items_in_front (item ∷ []) (items_from (wanted_after wanted item ++ more) (n + 1) pieces)
          | Err kind ↦ Err (text_fault_at kind n)
        ]) ≡ Ok items → AllFit (wanted ∷ more) items
    go later_fits (Ok item) e h =
        let f = in_front_ok item (items_from (wanted_after wanted item ++ more) (n + 1) pieces) items h in
        subst (λ (l : List Item). AllFit (wanted ∷ more) l) f.all (item_fits wanted piece item e, later_fits (wanted_after wanted item ++ more) f.others f.is)
    go later_fits (Err kind) e h = cc
