-- The fault of a tree or of groups is one of the text of events.
use Rattle.std.proofs.Common.{◌≡◌, ℕ, ◌+◌, ◌≤◌, cond, not, Bool, true, false, List, [], ◌∷◌, ◌++◌, codes, length, Some, Result, Ok, Err, refl, ap, sym, ◌∙◌, arith, append_assoc}
use Rattle.std.specs.Prelude.{nat_lt, nat_eq}
use Rattle.std.specs.Cmp.Lexicographic.{pointwise}
use Rattle.field_lines.specs.RawPieces.{RawLine}
use Rattle.field_lines.specs.Fault.{most_bytes}
use Rattle.certificate_data.specs.declared.format.Format.{Format}
use Rattle.certificate_data.specs.declared.format.Format.TheVariants.{Plain, Wide}
use Rattle.field_lines.specs.Chain.{◌>>=◌}
use Rattle.certificate_lines.specs.Items.{item_on, headed, wanted_after, items_in_front, items_from, seen}
use Rattle.certificate_lines.specs.Words.{line_bytes}
use Rattle.certificate_lines.specs.Lines.{head_on}
use Rattle.certificate_lines.specs.Rest.{text_fault_at}
use Rattle.certificate_lines.specs.declared.fault.TextFault.{TextFault}
use Rattle.certificate_lines.specs.declared.fault.TextKind.{TextKind}
use Rattle.certificate_lines.specs.declared.fault.TextKind.TheVariants.{AfterEnd, CutShort, BadWord}
use Rattle.certificate_lines.specs.declared.item.Item.{Item}
use Rattle.certificate_lines.specs.declared.item.Version.{Version}
use Rattle.certificate_lines.specs.declared.item.Version.TheVariants.{One, Two}
use Rattle.certificate_lines.specs.declared.item.Wanted.{Wanted}
use Rattle.certificate_lines.specs.declared.item.Wanted.TheVariants as want
use Rattle.certificate_text.proofs.TextBack.{line_by}
use Rattle.board_report.specs.EventFaults.{fault_from}
use Rattle.board_report.proofs.FaultLaws.{by_item}

err_line : (a b : TextFault) → ◌≡◌ {A = Result (List Item) TextFault} (Err a) (Err b) → a ≡ b
err_line a b h = cc

behind_first : (item : Item) (r : Result (List Item) TextFault) (fault : TextFault) → items_in_front (item ∷ []) r ≡ Err fault → r ≡ Err fault
behind_first item (Ok later) fault h = cc
behind_first item (Err other) fault h = h

-- a fault stands on the first line or further on
from_first : (wanted : List Wanted) (n : ℕ) (pieces : List RawLine) (fault : TextFault) → items_from wanted n pieces ≡ Err fault → n ≤ fault.line
from_first [] n [] fault h = cc
from_first [] n (piece ∷ pieces) fault h = omega (arith, ap (λ (f : TextFault). f.line) (err_line (text_fault_at AfterEnd n) fault h))
from_first (w ∷ more) n [] fault h = omega (arith, ap (λ (f : TextFault). f.line) (err_line (text_fault_at CutShort n) fault h))
from_first (w ∷ more) n (piece ∷ pieces) fault h = go (λ ws e. from_first ws (n + 1) pieces fault e) (item_on w piece) h
  where
    go : ((ws : List Wanted) → items_from ws (n + 1) pieces ≡ Err fault → n + 1 ≤ fault.line) → (r : Result Item TextKind) → line_by w n pieces more r ≡ Err fault → n ≤ fault.line
    go step (Ok item) e =
        let later : n + 1 ≤ fault.line = step (wanted_after w item ++ more) (behind_first item (items_from (wanted_after w item ++ more) (n + 1) pieces) fault e) in
        omega (arith, later)
    go step (Err kind) e = omega (arith, ap (λ (f : TextFault). f.line) (err_line (text_fault_at kind n) fault e))

-- any answer but that bytes stand after the end
abbrev Other : {X : Type 0} → Result X TextKind → Type 0
Other {X} r = ◌≡◌ {A = Result X TextKind} r (Err AfterEnd) → ⊥

ok_other : {X : Type 0} (x : X) → Other (Ok x)
ok_other x e = cc

cond_other : {X : Type 0} (t : Bool) (r s : Result X TextKind) → Other r → Other s → Other (cond t r s)
cond_other true r s a b = a
cond_other false r s a b = b

bytes_other : (bytes : List ℕ) (ended : Bool) → Other (line_bytes bytes ended)
unfolding line_bytes
bytes_other bytes ended = cond_other (nat_lt most_bytes (length bytes)) (Err BadWord) (cond (not ended) (Err CutShort) (Ok bytes)) (λ e. cc) (cond_other (not ended) (Err CutShort) (Ok bytes) (λ e. cc) (ok_other bytes))

head_on_other : (bytes : List ℕ) → Other (head_on bytes)
unfolding head_on
head_on_other bytes =
    cond_other (pointwise nat_eq bytes (codes "county-groups certificate 1")) _ _ (ok_other (Plain, One))
    (cond_other (pointwise nat_eq bytes (codes "county-groups wide certificate 1")) _ _ (ok_other (Wide, One))
    (cond_other (pointwise nat_eq bytes (codes "county-groups certificate 2")) _ _ (ok_other (Plain, Two))
    (cond_other (pointwise nat_eq bytes (codes "county-groups wide certificate 2")) _ _ (ok_other (Wide, Two)) (λ e. cc))))

-- a first line that is no head has another fault
head_other : (piece : RawLine) → Other (item_on want.Head piece)
head_other piece = go (line_bytes piece.bytes piece.ended) (bytes_other piece.bytes piece.ended)
  where
    seen_other : (r : Result (Format × Version) TextKind) → Other r → Other (seen headed r)
    seen_other (Ok head) a = ok_other (headed head)
    seen_other (Err kind) a = λ e. a (cc (e))

    go : (r : Result (List ℕ) TextKind) → Other r → Other (seen headed (r >>= head_on))
    go (Ok bytes) a = seen_other (head_on bytes) (head_on_other bytes)
    go (Err kind) a = λ e. a (cc (e))

-- no fault is met both where nothing is wanted and where a head is
not_both : (n : ℕ) (pieces : List RawLine) (fault : TextFault) → items_from [] n pieces ≡ Err fault → items_from (want.Head ∷ []) n pieces ≡ Err fault → ⊥
not_both n [] fault none head = cc
not_both n (piece ∷ pieces) fault none head = go (item_on want.Head piece) refl head
  where
    first : text_fault_at AfterEnd n ≡ fault
    first = err_line (text_fault_at AfterEnd n) fault none

    go : (r : Result Item TextKind) → item_on want.Head piece ≡ r → line_by want.Head n pieces [] r ≡ Err fault → ⊥
    go (Ok item) e h =
        let later : n + 1 ≤ fault.line = from_first (wanted_after want.Head item ++ []) (n + 1) pieces fault (behind_first item (items_from (wanted_after want.Head item ++ []) (n + 1) pieces) fault h) in
        omega (arith, later, ap (λ (f : TextFault). f.line) first)
    go (Err kind) e h =
        let second : text_fault_at kind n ≡ fault = err_line (text_fault_at kind n) fault h in
        let same : kind ≡ AfterEnd = ap (λ (f : TextFault). f.kind) (second ∙ sym first) in
        head_other piece (e ∙ ap (λ (k : TextKind). Err k) same)

module _ (format : Format) (counties : ℕ) where
  -- a fault that is met whatever is wanted behind these things is one where events are wanted there
  pub fault_told : (wanted more : List Wanted) (n : ℕ) (pieces : List RawLine) (fault : TextFault) → ((ws : List Wanted) → items_from (wanted ++ ws) n pieces ≡ Err fault)
      → fault_from format counties (wanted ++ more) n pieces ≡ Some fault
  fault_told [] more n pieces fault h = absurd (not_both n pieces fault (h []) (h (want.Head ∷ [])))
  fault_told (w ∷ others) more n [] fault h = ap (λ (f : TextFault). Some f) (err_line (text_fault_at CutShort n) fault (h []))
  fault_told (w ∷ others) more n (piece ∷ pieces) fault h = go (λ ws e. fault_told ws more (n + 1) pieces fault e) (item_on w piece) h
    where
      go : ((ws : List Wanted) → ((others : List Wanted) → items_from (ws ++ others) (n + 1) pieces ≡ Err fault) → fault_from format counties (ws ++ more) (n + 1) pieces ≡ Some fault)
          → (r : Result Item TextKind) → ((ws : List Wanted) → line_by w n pieces (others ++ ws) r ≡ Err fault) → by_item format counties w (others ++ more) n pieces r ≡ Some fault
      go step (Ok item) e =
          ap (λ (l : List Wanted). fault_from format counties l (n + 1) pieces) (sym (append_assoc (wanted_after w item) others more))
          ∙ step (wanted_after w item ++ others)
          (λ ws. ap (λ (l : List Wanted). items_from l (n + 1) pieces) (append_assoc (wanted_after w item) others ws) ∙ behind_first item (items_from (wanted_after w item ++ (others ++ ws)) (n + 1) pieces) fault (e ws))
      go step (Err kind) e = ap (λ (f : TextFault). Some f) (err_line (text_fault_at kind n) fault (e []))
