-- The kinds of faults that one line of a certificate may have.
use Rattle.std.proofs.Common.{◌*◌, ℕ, ◌+◌, ◌-◌, cond, ◌&&◌, not, Bool, true, false, List, [], ◌∷◌, ◌++◌, codes, length, drop, Option, Some, None, Result, Ok, Err}
use Rattle.std.specs.Prelude.{nat_lt, nat_le}
use Rattle.std.specs.Option.{ok_or}
use Rattle.field_lines.specs.Chain.{◌>>=◌}
use Rattle.field_lines.specs.Fault.{most_bytes}
use Rattle.field_lines.specs.Fields.{fields_of}
use Rattle.field_lines.specs.Number.{number_in, digits_of}
use Rattle.field_lines.specs.RawPieces.{RawLine}
use Rattle.certificate_data.specs.declared.format.Format.{Format}
use Rattle.certificate_data.specs.declared.format.Format.TheVariants.{Plain, Wide}
use Rattle.certificate_lines.specs.Words.{is_numeral, has_leading_zero, is_canonical, words_of, line_bytes, line_words, number, code, halves, pair}
use Rattle.certificate_lines.specs.Lines as line
use Rattle.certificate_lines.specs.Lines.{most, begins, named, counted, number_at, code_word_at, each}
use Rattle.certificate_lines.specs.Items.{by_words, seen, taken, parted, item_on, groups_wanted, allowances_wanted, wanted_after}
use Rattle.certificate_lines.specs.declared.fault.TextKind.{TextKind}
use Rattle.certificate_lines.specs.declared.fault.TextKind.TheVariants.{BadHead, BadWord, BadNumber, NotCanonical, AfterEnd, ReadFault, Memory}
use Rattle.certificate_lines.specs.declared.item.Item.{Item}
use Rattle.certificate_lines.specs.declared.item.Item.TheVariants as item
use Rattle.certificate_lines.specs.declared.item.Opening.TheVariants as opening
use Rattle.certificate_lines.specs.declared.item.Wanted.{Wanted}
use Rattle.certificate_lines.specs.declared.item.Wanted.TheVariants as want

-- a kind that a line behind the head may have
abbrev pub OfLine : TextKind → Type 0
OfLine BadHead = ⊥
OfLine AfterEnd = ⊥
OfLine ReadFault = ⊥
OfLine Memory = ⊥
OfLine kind = Unit {0}

abbrev pub Said : {X : Type 0} → Result X TextKind → Type 0
Said (Ok x) = Unit {0}
Said (Err kind) = OfLine kind

pub cond_said : {X : Type 0} (t : Bool) (r s : Result X TextKind) → Said r → Said s → Said (cond t r s)
cond_said true r s a b = a
cond_said false r s a b = b

pub bind_said : {X Y : Type 0} (r : Result X TextKind) (f : X → Result Y TextKind) → Said r → ((x : X) → Said (f x)) → Said (r >>= f)
bind_said (Ok x) f a b = b x
bind_said (Err kind) f a b = a

pub seen_said : {X Y : Type 0} (view : X → Y) (r : Result X TextKind) → Said r → Said (seen view r)
seen_said view (Ok x) a = tt
seen_said view (Err kind) a = a

pub number_or : {X : Type 0} (o : Option X) → Said (ok_or o BadNumber)
number_or None = tt
number_or (Some x) = tt

pub number_said : (low high : ℕ) (word : List ℕ) → Said (number low high word)
unfolding number
number_said low high word = cond_said (not (is_numeral word)) _ _ tt (cond_said (has_leading_zero word) _ _ tt (number_or (number_in low high word)))

pub code_said : (word : List ℕ) → Said (code word)
unfolding code
code_said word = number_or (digits_of 5 word)

pub halves_said : (words : List (List ℕ)) → Said (halves words)
halves_said [] = tt
halves_said (first ∷ []) = tt
halves_said (first ∷ second ∷ []) = bind_said (code first) _ (code_said first)
    (λ c. bind_said (number 1 1000000 second) _ (number_said 1 1000000 second) (λ w. tt))
halves_said (first ∷ second ∷ third ∷ more) = tt

pub pair_said : (word : List ℕ) → Said (pair word)
unfolding pair
pair_said word = halves_said (fields_of 58 word)

pub named_said : (name : List ℕ) (words : List (List ℕ)) → Said (named name words)
named_said name words = cond_said (begins name words) (Ok (drop 1 words)) (Err BadWord) tt tt

pub counted_said : (low high : ℕ) (words : List (List ℕ)) → Said (counted low high words)
counted_said low high words = cond_said (nat_le low (length words) && nat_le (length words) high) (Ok words) (Err BadWord) tt tt

pub number_at_said : (low high : ℕ) (words : List (List ℕ)) → Said (number_at low high words)
number_at_said low high [] = tt
number_at_said low high (word ∷ words) = bind_said (number low high word) _ (number_said low high word) (λ n. tt)

pub code_at_said : (words : List (List ℕ)) → Said (code_word_at words)
code_at_said [] = tt
code_at_said (word ∷ words) = bind_said (code word) _ (code_said word) (λ c. tt)

pub each_said : {X : Type 0} (read : List ℕ → Result X TextKind) → ((word : List ℕ) → Said (read word)) → (words : List (List ℕ)) → Said (each read words)
each_said read h [] = tt
each_said read h (word ∷ words) = bind_said (read word) _ (h word) (λ x. bind_said (each read words) _ (each_said read h words) (λ xs. tt))

pub tolerance_said : (words : List (List ℕ)) → Said (line.tolerance_on words)
unfolding line.tolerance_on
tolerance_said words =
    bind_said (named (codes "window") words) _ (named_said (codes "window") words)
    (λ ws. bind_said (counted 2 2 ws) _ (counted_said 2 2 ws)
    (λ vs. bind_said (number_at 0 500 vs) _ (number_at_said 0 500 vs) (λ p. bind_said (number_at 1 1000 p.1) _ (number_at_said 1 1000 p.1) (λ q. cond_said (nat_le (2 * p.0) q.0) _ _ tt tt))))

pub order_said : (words : List (List ℕ)) → Said (line.order_on words)
unfolding line.order_on
order_said words = bind_said (named (codes "order") words) _ (named_said (codes "order") words) (λ ws. bind_said (counted 0 most ws) _ (counted_said 0 most ws) (λ vs. each_said code code_said vs))

pub limit_said : (words : List (List ℕ)) → Said (line.limit_on words)
unfolding line.limit_on
limit_said words =
    bind_said (named (codes "limit") words) _ (named_said (codes "limit") words)
    (λ ws. bind_said (counted 1 1 ws) _ (counted_said 1 1 ws) (λ vs. bind_said (number_at 0 most vs) _ (number_at_said 0 most vs) (λ n. tt)))

pub target_said : (words : List (List ℕ)) → Said (line.target_on words)
unfolding line.target_on
target_said words =
    bind_said (named (codes "target") words) _ (named_said (codes "target") words)
    (λ ws. bind_said (counted 1 1 ws) _ (counted_said 1 1 ws) (λ vs. cond_said (begins (codes "none") vs) _ _ tt (bind_said (number_at 0 most vs) _ (number_at_said 0 most vs) (λ n. tt))))

pub group_said : (words : List (List ℕ)) → Said (line.group_on words)
unfolding line.group_on
group_said words =
    bind_said (named (codes "group") words) _ (named_said (codes "group") words)
    (λ ws. bind_said (counted 2 (1 + most) ws) _ (counted_said 2 (1 + most) ws)
    (λ vs. bind_said (number_at 0 65535 vs) _ (number_at_said 0 65535 vs)
    (λ n. bind_said (each code n.1) _ (each_said code code_said n.1) (λ cs. tt))))

pub branch_said : (format : Format) (levels : ℕ) (words : List (List ℕ)) → Said (line.branch_on format levels words)
unfolding line.branch_on
branch_said Plain levels words = bind_said (counted 1 1 words) _ (counted_said 1 1 words)
    (λ ws. bind_said (code_word_at ws) _ (code_at_said ws) (λ c. cond_said (nat_lt 0 levels) _ _ tt tt))
branch_said Wide levels words =
    bind_said (counted 2 2 words) _ (counted_said 2 2 words)
    (λ ws. bind_said (code_word_at ws) _ (code_at_said ws) (λ c. bind_said (number_at 1 most c.1) _ (number_at_said 1 most c.1)
    (λ n. cond_said (nat_lt 0 levels) _ _ tt tt)))

pub stuck_said : (words : List (List ℕ)) → Said (line.stuck_on words)
unfolding line.stuck_on
stuck_said words = bind_said (counted 1 1 words) _ (counted_said 1 1 words) (λ ws. bind_said (code_word_at ws) _ (code_at_said ws) (λ c. tt))

pub bound_said : (words : List (List ℕ)) → Said (line.bound_on words)
unfolding line.bound_on
bound_said words = bind_said (counted 1 1 words) _ (counted_said 1 1 words)
    (λ ws. bind_said (number_at 0 most ws) _ (number_at_said 0 most ws) (λ n. tt))

pub opening_said : (format : Format) (levels : ℕ) (words : List (List ℕ)) → Said (line.opening_on format levels words)
unfolding line.opening_on
opening_said format levels words =
    cond_said (begins (codes "branch") words) _ _ (branch_said format levels (drop 1 words))
    (cond_said (begins (codes "stuck") words) _ _ (stuck_said (drop 1 words))
    (cond_said (begins (codes "seats") words) _ _ (bind_said (counted 0 0 (drop 1 words)) _ (counted_said 0 0 (drop 1 words)) (λ ws. tt))
    (cond_said (begins (codes "bound") words) _ _ (bound_said (drop 1 words)) tt)))

pub part_said : (format : Format) (levels : ℕ) (words : List (List ℕ)) → Said (line.part_on format levels words)
unfolding line.part_on
part_said format levels words =
    cond_said (begins (codes "open") words) _ _ (bind_said (counted 0 0 (drop 1 words)) _ (counted_said 0 0 (drop 1 words)) (λ ws. tt))
    (bind_said (line.opening_on format levels words) _ (opening_said format levels words) (λ o. tt))

pub take_said : (words : List (List ℕ)) → Said (line.take_on words)
unfolding line.take_on
take_said words =
    cond_said (begins (codes "take") words) _ _ (bind_said (counted 1 most (drop 1 words)) _ (counted_said 1 most (drop 1 words))
    (λ ws. bind_said (each code ws) _ (each_said code code_said ws) (λ cs. tt)))
    (cond_said (begins (codes "mark") words) _ _ (bind_said (counted 0 0 (drop 1 words)) _ (counted_said 0 0 (drop 1 words)) (λ ws. tt)) tt)

pub weigh_said : (words : List (List ℕ)) → Said (line.weigh_on words)
unfolding line.weigh_on
weigh_said words =
    bind_said (number_at 1 256000000 words) _ (number_at_said 1 256000000 words)
    (λ n. bind_said (each pair n.1) _ (each_said pair pair_said n.1) (λ ws. cond_said (line.ascend ws) _ _ tt tt))

pub allowance_said : (words : List (List ℕ)) → Said (line.allowance_on words)
unfolding line.allowance_on
allowance_said words =
    cond_said (begins (codes "room") words) _ _ (bind_said (counted 0 0 (drop 1 words)) _ (counted_said 0 0 (drop 1 words)) (λ ws. tt))
    (cond_said (begins (codes "weigh") words) _ _ (weigh_said (drop 1 words)) tt)

pub end_said : (words : List (List ℕ)) → Said (line.end_on words)
unfolding line.end_on
end_said words = bind_said (named (codes "end") words) _ (named_said (codes "end") words) (λ ws. bind_said (counted 0 0 ws) _ (counted_said 0 0 ws) (λ vs. tt))

pub bytes_said : (bytes : List ℕ) (ended : Bool) → Said (line_bytes bytes ended)
unfolding line_bytes
bytes_said bytes ended = cond_said (nat_lt most_bytes (length bytes)) _ _ tt (cond_said (not ended) _ _ tt tt)

pub words_said : (bytes : List ℕ) (ended : Bool) → Said (line_words bytes ended)
unfolding line_words
words_said bytes ended = bind_said (line_bytes bytes ended) _ (bytes_said bytes ended)
    (λ l. cond_said (is_canonical l) (Ok (words_of l)) (Err NotCanonical) tt tt)

pub words_then_said : {X : Type 0} (read : List (List ℕ) → Result X TextKind) (piece : RawLine) → ((words : List (List ℕ)) → Said (read words))
    → Said (by_words read piece)
words_then_said read piece h = bind_said (line_words piece.bytes piece.ended) read (words_said piece.bytes piece.ended) h

-- what may be wanted of a tree or of groups
abbrev pub IsBehind : Wanted → Type 0
IsBehind (want.Groups left) = Unit {0}
IsBehind (want.Tree format levels) = Unit {0}
IsBehind (want.Takes format levels) = Unit {0}
IsBehind (want.Part format levels) = Unit {0}
IsBehind (want.PartTakes format levels) = Unit {0}
IsBehind (want.Allowances left) = Unit {0}
IsBehind wanted = ⊥

abbrev pub AreBehind : List Wanted → Type 0
AreBehind [] = Unit {0}
AreBehind (w ∷ more) = IsBehind w × AreBehind more

pub both_behind : (xs ys : List Wanted) → AreBehind xs → AreBehind ys → AreBehind (xs ++ ys)
both_behind [] ys a b = b
both_behind (x ∷ xs) ys a b = (a.0, both_behind xs ys a.1 b)

pub cond_behind : (t : Bool) (w : Wanted) → IsBehind w → AreBehind (cond t (w ∷ []) [])
cond_behind true w b = (b, tt)
cond_behind false w b = tt

pub groups_behind : (n : ℕ) → AreBehind (groups_wanted n)
groups_behind n = cond_behind (nat_lt 0 n) (want.Groups n) tt

pub allowances_behind : (n : ℕ) → AreBehind (allowances_wanted n)
allowances_behind n = cond_behind (nat_lt 0 n) (want.Allowances n) tt

pub after_behind : (w : Wanted) (i : Item) → IsBehind w → AreBehind (wanted_after w i)
after_behind (want.Groups left) i b = groups_behind (left - 1)
after_behind (want.Allowances left) i b = allowances_behind (left - 1)
after_behind (want.Tree format levels) (item.Opens (opening.Branch county limit)) b = (tt, tt)
after_behind (want.Tree format levels) (item.Opens (opening.Bound lines)) b = allowances_behind lines
after_behind (want.Tree format levels) _ b = tt
after_behind (want.Takes format levels) (item.Takes county_codes) b = (tt, (tt, tt))
after_behind (want.Takes format levels) item.Mark b = (tt, tt)
after_behind (want.Takes format levels) _ b = tt
after_behind (want.Part format levels) (item.Opens (opening.Branch county limit)) b = (tt, tt)
after_behind (want.Part format levels) (item.Opens (opening.Bound lines)) b = allowances_behind lines
after_behind (want.Part format levels) _ b = tt
after_behind (want.PartTakes format levels) (item.Takes county_codes) b = (tt, (tt, tt))
after_behind (want.PartTakes format levels) item.Mark b = (tt, tt)
after_behind (want.PartTakes format levels) _ b = tt
after_behind _ i b = absurd b

pub item_said : (wanted : Wanted) (piece : RawLine) → IsBehind wanted → Said (item_on wanted piece)
item_said (want.Groups left) piece b = seen_said item.Grouped (by_words line.group_on piece) (words_then_said line.group_on piece group_said)
item_said (want.Tree format levels) piece b = seen_said item.Opens (by_words (line.opening_on format levels) piece)
    (words_then_said (line.opening_on format levels) piece (opening_said format levels))
item_said (want.Takes format levels) piece b = seen_said taken (by_words line.take_on piece) (words_then_said line.take_on piece take_said)
item_said (want.Part format levels) piece b = seen_said parted (by_words (line.part_on format levels) piece)
    (words_then_said (line.part_on format levels) piece (part_said format levels))
item_said (want.PartTakes format levels) piece b = seen_said taken (by_words line.take_on piece) (words_then_said line.take_on piece take_said)
item_said (want.Allowances left) piece b = seen_said item.Allows (by_words line.allowance_on piece)
    (words_then_said line.allowance_on piece allowance_said)
item_said _ piece b = absurd b
