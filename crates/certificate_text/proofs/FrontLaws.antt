-- Where a text begins with items that fit, no fault is met whatever is wanted behind them.
use Rattle.std.proofs.Common.{◌≡◌, ℕ, ◌+◌, cond, ◌&&◌, not, Bool, true, false, List, [], ◌∷◌, ◌++◌, codes, length, Result, Ok, Err, refl, ap, sym, ◌∙◌, arith}
use Rattle.std.specs.Prelude.{nat_lt, nat_le, drop}
use Rattle.field_lines.specs.Chain.{◌>>=◌}
use Rattle.field_lines.specs.Fault.{most_bytes}
use Rattle.field_lines.specs.RawPieces.{RawLine, raw_lines_from}
use Rattle.certificate_lines.specs.Words.{words_of, is_canonical, line_bytes, line_words}
use Rattle.certificate_lines.specs.Lines as line
use Rattle.certificate_lines.specs.Lines.{begins, named, counted}
use Rattle.certificate_lines.specs.Rest.{text_fault_at, IsTextMemory}
use Rattle.certificate_lines.specs.Items.{by_words, seen, item_on, items_in_front, items_from}
use Rattle.certificate_lines.specs.Reading.{Refuses}
use Rattle.certificate_lines.specs.Spelling.{text_of_items}
use Rattle.certificate_lines.specs.Fitting.{AllFit}
use Rattle.certificate_text.proofs.PrefixLaws.{items_then}
use Rattle.certificate_text.proofs.GiveLaws.{memory_only}
use Rattle.certificate_text.proofs.TextBack.{line_by}
use Rattle.certificate_lines.specs.declared.fault.TextFault.{TextFault}
use Rattle.certificate_lines.specs.declared.fault.TextKind.{TextKind}
use Rattle.certificate_lines.specs.declared.fault.TextKind.TheVariants.{BadWord, NotCanonical, CutShort, AfterEnd}
use Rattle.certificate_lines.specs.declared.item.Item.{Item}
use Rattle.certificate_lines.specs.declared.item.Item.TheVariants.{End}
use Rattle.certificate_lines.specs.declared.item.Wanted.{Wanted}
use Rattle.certificate_lines.specs.declared.item.Wanted.TheVariants as want

-- any answer but that bytes stand after the end
abbrev Other : {X : Type 0} → Result X TextKind → Type 0
Other {X} r = ◌≡◌ {A = Result X TextKind} r (Err AfterEnd) → ⊥

read_other : {X : Type 0} (x : X) → Other (Ok x)
read_other x e = cc

word_other : {X : Type 0} → Other {X = X} (Err BadWord)
word_other e = cc

cut_other : {X : Type 0} → Other {X = X} (Err CutShort)
cut_other e = cc

spelling_other : {X : Type 0} → Other {X = X} (Err NotCanonical)
spelling_other e = cc

cond_other : {X : Type 0} (t : Bool) (r s : Result X TextKind) → Other r → Other s → Other (cond t r s)
cond_other true r s a b = a
cond_other false r s a b = b

bind_other : {X Y : Type 0} (r : Result X TextKind) (f : X → Result Y TextKind) → Other r → ((x : X) → Other (f x)) → Other (r >>= f)
bind_other (Ok x) f a b = b x
bind_other (Err kind) f a b = λ e. a (cc (e))

seen_other : {X Y : Type 0} (view : X → Y) (r : Result X TextKind) → Other r → Other (seen view r)
seen_other view (Ok x) a = read_other (view x)
seen_other view (Err kind) a = λ e. a (cc (e))

bytes_other : (bytes : List ℕ) (ended : Bool) → Other (line_bytes bytes ended)
unfolding line_bytes
bytes_other bytes ended = cond_other (nat_lt most_bytes (length bytes)) (Err BadWord) (cond (not ended) (Err CutShort) (Ok bytes)) word_other (cond_other (not ended) (Err CutShort) (Ok bytes) cut_other (read_other bytes))

words_other : (bytes : List ℕ) (ended : Bool) → Other (line_words bytes ended)
unfolding line_words
words_other bytes ended =
    bind_other (line_bytes bytes ended) (λ l. cond (is_canonical l) (Ok (words_of l)) (Err NotCanonical)) (bytes_other bytes ended)
    (λ l. cond_other (is_canonical l) (Ok (words_of l)) (Err NotCanonical) (read_other (words_of l)) spelling_other)

counted_other : (least greatest : ℕ) (words : List (List ℕ)) → Other (counted least greatest words)
counted_other least greatest words = cond_other (nat_le least (length words) && nat_le (length words) greatest) (Ok words) (Err BadWord) (read_other words) word_other

named_other : (name : List ℕ) (words : List (List ℕ)) → Other (named name words)
named_other name words = cond_other (begins name words) (Ok (drop 1 words)) (Err BadWord) (read_other (drop 1 words)) word_other

end_other : (words : List (List ℕ)) → Other (line.end_on words)
unfolding line.end_on
end_other words =
    bind_other (named (codes "end") words) (λ others. counted 0 0 others >>= λ none. Ok tt) (named_other (codes "end") words)
    (λ others. bind_other (counted 0 0 others) (λ none. Ok tt) (counted_other 0 0 others) (λ none. read_other tt))

-- the line of an end has no such fault
end_item_other : (piece : RawLine) → Other (item_on want.End piece)
end_item_other piece = seen_other (λ _. End) (by_words line.end_on piece) (bind_other (line_words piece.bytes piece.ended) line.end_on (words_other piece.bytes piece.ended) end_other)

fault_behind : (items : List Item) (r : Result (List Item) TextFault) (fault : TextFault) → items_in_front items r ≡ Err fault → r ≡ Err fault
fault_behind items (Ok later) fault h = cc
fault_behind items (Err other) fault h = h

same_fault : (r : Result (List Item) TextFault) (a b : TextFault) → r ≡ Err a → Err b ≡ r → b ≡ a
same_fault r a b h e = told a b (e ∙ h)
  where
    told : (a b : TextFault) → ◌≡◌ {A = Result (List Item) TextFault} (Err b) (Err a) → b ≡ a
    told a b h = cc

-- no fault is met both where nothing is wanted and where the end is
not_both : (n : ℕ) (pieces : List RawLine) (fault : TextFault) → items_from [] n pieces ≡ Err fault → items_from (want.End ∷ []) n pieces ≡ Err fault → ⊥
not_both n [] fault none end = cc
not_both n (piece ∷ pieces) fault none end = go (item_on want.End piece) refl pieces end
  where
    first : text_fault_at AfterEnd n ≡ fault
    first = same_fault (items_from [] n (piece ∷ pieces)) fault (text_fault_at AfterEnd n) none refl

    go : (r : Result Item TextKind) → item_on want.End piece ≡ r → (later : List RawLine) → line_by want.End n later [] r ≡ Err fault → ⊥
    go (Ok item) e [] h = cc (h)
    go (Ok item) e (next ∷ later) h =
        let second : text_fault_at AfterEnd (n + 1) ≡ fault = same_fault (Err (text_fault_at AfterEnd (n + 1))) fault (text_fault_at AfterEnd (n + 1)) h refl in
        omega (arith, ap (λ (f : TextFault). f.line) first, ap (λ (f : TextFault). f.line) second)
    go (Err kind) e later h =
        let second : text_fault_at kind n ≡ fault = same_fault (Err (text_fault_at kind n)) fault (text_fault_at kind n) h refl in
        let same : kind ≡ AfterEnd = ap (λ (f : TextFault). f.kind) (second ∙ sym first) in
        end_item_other piece (e ∙ ap (λ (k : TextKind). Err k) same)

-- no fault is met whatever is wanted behind items that fit
pub no_fault_behind : (wanted : List Wanted) (n : ℕ) (items : List Item) (rest : List ℕ) (fault : TextFault) → AllFit wanted items
    → ((more : List Wanted) → items_from (wanted ++ more) n (raw_lines_from n (text_of_items items ++ rest)) ≡ Err fault) → ⊥
no_fault_behind wanted n items rest fault fit h =
    let behind : (more : List Wanted) → items_from more (n + length items) (raw_lines_from (n + length items) rest) ≡ Err fault =
    λ more. fault_behind items (items_from more (n + length items) (raw_lines_from (n + length items) rest)) fault (sym (items_then wanted more n items rest fit) ∙ h more) in
    not_both (n + length items) (raw_lines_from (n + length items) rest) fault (behind []) (behind (want.End ∷ []))

-- where a front is spelled so, memory alone can be refused
pub memory_refused : (wanted : List Wanted) (text front rest : List ℕ) (items : List Item) (fault : TextFault) → AllFit wanted items → front ≡ text_of_items items → text ≡ front ++ rest
    → Refuses wanted (record { number = 1; text = text }) fault → IsTextMemory fault
memory_refused wanted text front rest items fault fit spelled whole refused =
    let same : text_of_items items ++ rest ≡ text = sym (whole ∙ ap (λ (t : List ℕ). t ++ rest) spelled) in
    memory_only fault.kind (λ other. no_fault_behind wanted 1 items rest fault fit
    (λ more. ap (λ (t : List ℕ). items_from (wanted ++ more) 1 (raw_lines_from 1 t)) same ∙ refused other more))
