-- Items that fit are read from their text.
use Rattle.std.proofs.Common.{◌≡◌, ℕ, ◌+◌, ◌*◌, ◌<◌, ◌≤◌, ◌^◌, ◌&&◌, Bool, true, false, List, [], ◌∷◌, ◌++◌, length, map, codes, Some, None, Result, Ok, Err, refl, ap, ◌∙◌, arith, length-append, append_assoc}
use Rattle.std.specs.Prelude.{nat_le}
use Rattle.std.specs.Fmt.{decimal}
use Rattle.std.specs.List.{AllByRecursion, list_all, join_with_byte}
use Rattle.std.proofs.lemmas.Bool.{and_parts, ne_eqb, leb-true}
use Rattle.std.proofs.lemmas.Fmt.{decimal_nonempty, length-decimal-le}
use Rattle.std.proofs.lemmas.List.Elements.{All-from_recursion}
use Rattle.std.proofs.lemmas.List.Splits.{slice_split_at}
use Rattle.field_lines.specs.Fault.{most_bytes}
use Rattle.field_lines.specs.RawPieces.{RawLine, raw_lines_from, numbered, is_lf}
use Rattle.field_lines.proofs.SplitLemmas.{numbered-ended}
use Rattle.certificate_lines.specs.Words.{line_bytes, line_words}
use Rattle.certificate_lines.specs.Lines as line
use Rattle.certificate_lines.specs.Lines.{most, begins}
use Rattle.certificate_lines.specs.Items.{by_words, seen, taken, parted, item_on, wanted_after, items_in_front, items_from}
use Rattle.county_codes.specs.Digits.{five_digits}
use Rattle.certificate_lines.specs.Spelling.{weight_word, item_words, text_of_items}
use Rattle.certificate_lines.specs.Fitting.{AreCodes, IsSet, FitsWeight, AreWeights, IsOpening, IsWanted, AllFit}
use Rattle.certificate_lines.specs.Rest.{text_fault_at}
use Rattle.field_lines.proofs.NumbersBack.{Digit, decimal_digits}
use Rattle.county_codes.proofs.DigitsBack.{code_digits}
use Rattle.certificate_lines.proofs.WordLaws.{bind_ok}
use Rattle.certificate_lines.proofs.FormLaws.{opening_ok}
use Rattle.certificate_lines.proofs.TextLaws.{seen_ok}
use Rattle.certificate_text.proofs.SpellLaws.{Shown, IsWord, Printed, printed_line, line_words_back, tolerance_back, order_back, limit_back, group_back, take_back, plain_back, wide_back, stuck_back, bound_back, weigh_back, target_back}
use Rattle.certificate_lines.specs.declared.fault.TextKind.{TextKind}
use Rattle.certificate_lines.specs.declared.fault.TextFault.{TextFault}
use Rattle.certificate_data.specs.declared.format.Format.{Format}
use Rattle.certificate_data.specs.declared.format.Format.TheVariants.{Plain, Wide}
use Rattle.certificate_data.specs.declared.weights.Weight.{Weight}
use Rattle.county_codes.specs.Tolerances.{is_tolerance}
use Rattle.county_codes.proofs.ToleranceLemmas.{in_range}
use Rattle.county_codes.specs.declared.group.Group.{Group}
use Rattle.county_codes.specs.declared.tolerance.Tolerance.{Tolerance}
use Rattle.certificate_lines.specs.declared.item.Version.{Version}
use Rattle.certificate_lines.specs.declared.item.Version.TheVariants.{One, Two}
use Rattle.certificate_data.specs.declared.allowance.Allowance.TheVariants.{Room, Weigh}
use Rattle.certificate_lines.specs.declared.item.Opening.{Opening}
use Rattle.certificate_lines.specs.declared.item.Opening.TheVariants.{Branch, Stuck, Seats, Bound}
use Rattle.certificate_lines.specs.declared.item.Item.{Item}
use Rattle.certificate_lines.specs.declared.item.Item.TheVariants.{Head, Within, Order, Limit, Target, Grouped, Opens, Takes, Mark, Open, Allows, End}
use Rattle.certificate_lines.specs.declared.item.Wanted.{Wanted}
use Rattle.certificate_lines.specs.declared.item.Wanted.TheVariants as want

-- a short word, of at most 20 bytes
pub record IsShort (word : List ℕ) : Type 0 where
  pub is_word : IsWord word
  pub short : length word ≤ 20

abbrev is_shown : ℕ → Bool
is_shown b = nat_le 33 b && nat_le b 126

shown_by : (bytes : List ℕ) → list_all is_shown bytes ≡ true → AllByRecursion Shown bytes
shown_by [] e = tt
shown_by (b ∷ bytes) e =
    let parts = and_parts (is_shown b) (list_all is_shown bytes) e in
    let ends = and_parts (nat_le 33 b) (nat_le b 126) parts.0 in
    (record { from = leb-true 33 b ends.0; to = leb-true b 126 ends.1 }, shown_by bytes parts.1)

-- a word that is written out
pub named_word : (word : List ℕ) → list_all is_shown word ≡ true → 0 < length word → length word ≤ 20 → IsShort word
named_word word e some short = record { is_word = record { some = some; shown = shown_by word e }; short = short }

pub digits_shown : (bytes : List ℕ) → AllByRecursion Digit bytes → AllByRecursion Shown bytes
digits_shown [] a = tt
digits_shown (b ∷ bytes) a = (record { from = omega (arith, a.0.from); to = omega (arith, a.0.to) }, digits_shown bytes a.1)

number_word : (n : ℕ) → n < 10 ^ 19 → IsShort (decimal n)
number_word n small =
    let fits : n < 2 ^ 64 = omega (arith, small) in
    record { is_word = record { some = decimal_nonempty n fits; shown = digits_shown (decimal n) (decimal_digits n fits) }; short = omega (arith, length-decimal-le 19 n (omega arith) small fits) }

pub code_word : (c : ℕ) → c ≤ 99999 → IsShort (five_digits c)
code_word c small = record { is_word = record { some = omega arith; shown = digits_shown (five_digits c) (code_digits c small) }; short = omega arith }

pub code_words : (cs : List ℕ) → AreCodes cs → AllByRecursion IsShort (map five_digits cs)
code_words [] a = tt
code_words (c ∷ cs) a = (code_word c a.0, code_words cs a.1)

pub words_of_short : (words : List (List ℕ)) → AllByRecursion IsShort words → AllByRecursion IsWord words
words_of_short [] a = tt
words_of_short (w ∷ words) a = (a.0.is_word, words_of_short words a.1)

short_line : (first : List ℕ) (words : List (List ℕ)) → IsShort first → AllByRecursion IsShort words → length (join_with_byte 32 (first ∷ words)) ≤ 21 * (length words + 1)
short_line first [] a b = omega (arith, a.short)
short_line first (w ∷ words) a b = omega (arith, a.short, short_line w words b.0 b.1, length-append first (32 ∷ join_with_byte 32 (w ∷ words)))

pub shown_append : (xs ys : List ℕ) → AllByRecursion Shown xs → AllByRecursion Shown ys → AllByRecursion Shown (xs ++ ys)
shown_append [] ys a b = b
shown_append (x ∷ xs) ys a b = (a.0, shown_append xs ys a.1 b)

weight_words : (ws : List Weight) → AllByRecursion FitsWeight ws → AllByRecursion IsWord (map weight_word ws)
weight_words [] a = tt
weight_words (w ∷ ws) a =
    let number = number_word w.weight (omega (arith, a.0.to)) in
    let shown : AllByRecursion Shown (weight_word w) = shown_append (five_digits w.county) (58 ∷ decimal w.weight) (code_word w.county a.0.county).is_word.shown (record { from = omega arith; to = omega arith }, number.is_word.shown) in
    (record { some = omega arith; shown = shown }, weight_words ws a.1)

-- a line of words: what its words say is said of it
pub record IsLine (n : ℕ) (wanted : Wanted) (item : Item) : Type 0 where
  pub printed : AllByRecursion Printed (join_with_byte 32 (item_words item))
  pub read : item_on wanted (record { number = n; bytes = join_with_byte 32 (item_words item); ended = true }) ≡ Ok item

said : {X : Type 0} (read : List (List ℕ) → Result X TextKind) (view : X → Item) (n : ℕ) (first : List ℕ) (words : List (List ℕ)) (x : X) → IsWord first → AllByRecursion IsWord words
    → length (join_with_byte 32 (first ∷ words)) ≤ most_bytes → read (first ∷ words) ≡ Ok x
    → seen view (by_words read (record { number = n; bytes = join_with_byte 32 (first ∷ words); ended = true })) ≡ Ok (view x)
said read view n first words x a b short h = rw (line_words_back first words a b short, h) refl

pub length_map : {X Y : Type 0} (f : X → Y) (xs : List X) → length (map f xs) ≡ length xs
length_map f [] = refl
length_map f (x ∷ xs) = omega (arith, length_map f xs)

-- the same for few short words
module _ {X : Type 0} (read : List (List ℕ) → Result X TextKind) (view : X → Item) (n : ℕ) (first : List ℕ) (words : List (List ℕ)) (x : X) (a : IsShort first) (b : AllByRecursion IsShort words) (few : length words ≤ 1 + most) where
  few_short : length (join_with_byte 32 (first ∷ words)) ≤ most_bytes
  few_short = omega (arith, short_line first words a b, few)

  few_printed : AllByRecursion Printed (join_with_byte 32 (first ∷ words))
  few_printed = printed_line first words a.is_word (words_of_short words b)

  few_said : read (first ∷ words) ≡ Ok x → seen view (by_words read (record { number = n; bytes = join_with_byte 32 (first ∷ words); ended = true })) ≡ Ok (view x)
  few_said h = said read view n first words x a.is_word (words_of_short words b) few_short h

tolerance_line : (n : ℕ) (format : Format) (w : Tolerance) → is_tolerance w ≡ true → IsLine n (want.Tolerance format) (Within w)
tolerance_line n format w fits =
    let is = in_range w fits in
    let name = named_word (codes "window") refl (omega arith) (omega arith) in
    let part = number_word w.numerator (omega (arith, is.half, is.few)) in
    let whole = number_word w.denominator (omega (arith, is.few)) in
    record {
      printed = few_printed line.tolerance_on Within n (codes "window") (decimal w.numerator ∷ decimal w.denominator ∷ []) w name (part, (whole, tt)) (omega arith);
      read = few_said line.tolerance_on Within n (codes "window") (decimal w.numerator ∷ decimal w.denominator ∷ []) w name (part, (whole, tt)) (omega arith) (tolerance_back w fits);
    }

order_line : (n : ℕ) (format : Format) (cs : List ℕ) → length cs ≤ most → AreCodes cs → IsLine n (want.Order format) (Order cs)
order_line n format cs few small =
    let name = named_word (codes "order") refl (omega arith) (omega arith) in
    let count : length (map five_digits cs) ≤ 1 + most = omega (arith, length_map five_digits cs, few) in
    record {
      printed = few_printed line.order_on Order n (codes "order") (map five_digits cs) cs name (code_words cs small) count;
      read = few_said line.order_on Order n (codes "order") (map five_digits cs) cs name (code_words cs small) count (order_back cs few small);
    }

limit_line : (n limit : ℕ) → limit ≤ most → IsLine n want.Limit (Limit limit)
limit_line n limit few =
    let name = named_word (codes "limit") refl (omega arith) (omega arith) in
    let word = number_word limit (omega (arith, few)) in
    record {
      printed = few_printed line.limit_on Limit n (codes "limit") (decimal limit ∷ []) limit name (word, tt) (omega arith);
      read = few_said line.limit_on Limit n (codes "limit") (decimal limit ∷ []) limit name (word, tt) (omega arith) (limit_back limit few);
    }

group_line : (n left : ℕ) (g : Group) → g.seats ≤ 65535 → IsSet g.codes → IsLine n (want.Groups left) (Grouped g)
group_line n left g seats set =
    let name = named_word (codes "group") refl (omega arith) (omega arith) in
    let word = number_word g.seats (omega (arith, seats)) in
    let count : length (decimal g.seats ∷ map five_digits g.codes) ≤ 1 + most = omega (arith, length_map five_digits g.codes, set.few) in
    record {
      printed = few_printed line.group_on Grouped n (codes "group") (decimal g.seats ∷ map five_digits g.codes) g name (word, code_words g.codes set.small) count;
      read = few_said line.group_on Grouped n (codes "group") (decimal g.seats ∷ map five_digits g.codes) g name (word, code_words g.codes set.small) count (group_back g seats set);
    }

take_line : (n : ℕ) (format : Format) (levels : ℕ) (cs : List ℕ) → IsSet cs → IsLine n (want.Takes format levels) (Takes cs)
take_line n format levels cs set =
    let name = named_word (codes "take") refl (omega arith) (omega arith) in
    let count : length (map five_digits cs) ≤ 1 + most = omega (arith, length_map five_digits cs, set.few) in
    record {
      printed = few_printed line.take_on taken n (codes "take") (map five_digits cs) (Some cs) name (code_words cs set.small) count;
      read = few_said line.take_on taken n (codes "take") (map five_digits cs) (Some cs) name (code_words cs set.small) count (take_back cs set);
    }

stuck_line : (n : ℕ) (format : Format) (levels c : ℕ) → c ≤ 99999 → IsLine n (want.Tree format levels) (Opens (Stuck c))
stuck_line n format levels c small =
    let name = named_word (codes "stuck") refl (omega arith) (omega arith) in
    record {
      printed = few_printed (line.opening_on format levels) Opens n (codes "stuck") (five_digits c ∷ []) (Stuck c) name (code_word c small, tt) (omega arith);
      read = few_said (line.opening_on format levels) Opens n (codes "stuck") (five_digits c ∷ []) (Stuck c) name (code_word c small, tt) (omega arith) (stuck_back format levels c small);
    }

plain_line : (n levels c : ℕ) → c ≤ 99999 → 0 < levels → IsLine n (want.Tree Plain levels) (Opens (Branch c None))
plain_line n levels c small deep =
    let name = named_word (codes "branch") refl (omega arith) (omega arith) in
    record {
      printed = few_printed (line.opening_on Plain levels) Opens n (codes "branch") (five_digits c ∷ []) (Branch c None) name (code_word c small, tt) (omega arith);
      read = few_said (line.opening_on Plain levels) Opens n (codes "branch") (five_digits c ∷ []) (Branch c None) name (code_word c small, tt) (omega arith) (plain_back levels c small deep);
    }

pub wide_line : (n levels c limit : ℕ) → c ≤ 99999 → 1 ≤ limit → limit ≤ most → 0 < levels → IsLine n (want.Tree Wide levels) (Opens (Branch c (Some limit)))
wide_line n levels c limit small low high deep =
    let name = named_word (codes "branch") refl (omega arith) (omega arith) in
    let word = number_word limit (omega (arith, high)) in
    record {
      printed = few_printed (line.opening_on Wide levels) Opens n (codes "branch") (five_digits c ∷ decimal limit ∷ []) (Branch c (Some limit)) name (code_word c small, (word, tt)) (omega arith);
      read = few_said (line.opening_on Wide levels) Opens n (codes "branch") (five_digits c ∷ decimal limit ∷ []) (Branch c (Some limit)) name (code_word c small, (word, tt)) (omega arith) (wide_back levels c limit small low high deep);
    }

bound_line : (n : ℕ) (format : Format) (levels k : ℕ) → k ≤ most → IsLine n (want.Tree format levels) (Opens (Bound k))
bound_line n format levels k few =
    let name = named_word (codes "bound") refl (omega arith) (omega arith) in
    let word = number_word k (omega (arith, few)) in
    record {
      printed = few_printed (line.opening_on format levels) Opens n (codes "bound") (decimal k ∷ []) (Bound k) name (word, tt) (omega arith);
      read = few_said (line.opening_on format levels) Opens n (codes "bound") (decimal k ∷ []) (Bound k) name (word, tt) (omega arith) (bound_back format levels k few);
    }

pub weigh_line : (n left quota : ℕ) (ws : List Weight) → AreWeights quota ws → IsLine n (want.Allowances left) (Allows (Weigh quota ws))
weigh_line n left quota ws are =
    let name = named_word (codes "weigh") refl (omega arith) (omega arith) in
    let word = number_word quota (omega (arith, are.to)) in
    record {
      printed = printed_line (codes "weigh") (decimal quota ∷ map weight_word ws) name.is_word (word.is_word, weight_words ws are.each);
      read = said line.allowance_on Allows n (codes "weigh") (decimal quota ∷ map weight_word ws) (Weigh quota ws) name.is_word (word.is_word, weight_words ws are.each) are.short (weigh_back quota ws are);
    }

target_line : (n k : ℕ) → k ≤ most → IsLine n want.Target (Target (Some k))
target_line n k few =
    let name = named_word (codes "target") refl (omega arith) (omega arith) in
    let word = number_word k (omega (arith, few)) in
    record {
      printed = few_printed line.target_on Target n (codes "target") (decimal k ∷ []) (Some k) name (word, tt) (omega arith);
      read = few_said line.target_on Target n (codes "target") (decimal k ∷ []) (Some k) name (word, tt) (omega arith) (target_back k few);
    }

none_line : (n : ℕ) → IsLine n want.Target (Target None)
unfolding line.target_on
none_line n =
    let name = named_word (codes "target") refl (omega arith) (omega arith) in
    let none = named_word (codes "none") refl (omega arith) (omega arith) in
    record {
      printed = few_printed line.target_on Target n (codes "target") (codes "none" ∷ []) None name (none, tt) (omega arith);
      read = few_said line.target_on Target n (codes "target") (codes "none" ∷ []) None name (none, tt) (omega arith) refl;
    }

seats_line : (n : ℕ) (format : Format) (levels : ℕ) → IsLine n (want.Tree format levels) (Opens Seats)
unfolding line.opening_on
seats_line n format levels =
    let name = named_word (codes "seats") refl (omega arith) (omega arith) in
    record {
      printed = few_printed (line.opening_on format levels) Opens n (codes "seats") [] Seats name tt (omega arith);
      read = few_said (line.opening_on format levels) Opens n (codes "seats") [] Seats name tt (omega arith) refl;
    }

mark_line : (n : ℕ) (format : Format) (levels : ℕ) → IsLine n (want.Takes format levels) Mark
unfolding line.take_on
mark_line n format levels =
    let name = named_word (codes "mark") refl (omega arith) (omega arith) in
    record {
      printed = few_printed line.take_on taken n (codes "mark") [] None name tt (omega arith);
      read = few_said line.take_on taken n (codes "mark") [] None name tt (omega arith) refl;
    }

open_line : (n : ℕ) (format : Format) (levels : ℕ) → IsLine n (want.Part format levels) Open
unfolding line.part_on
open_line n format levels =
    let name = named_word (codes "open") refl (omega arith) (omega arith) in
    record {
      printed = few_printed (line.part_on format levels) parted n (codes "open") [] None name tt (omega arith);
      read = few_said (line.part_on format levels) parted n (codes "open") [] None name tt (omega arith) refl;
    }

-- the line of what opens a tree
opening_line : (n : ℕ) (format : Format) (levels : ℕ) (o : Opening) → IsOpening format levels o → IsLine n (want.Tree format levels) (Opens o)
opening_line n Plain levels (Branch c None) f = plain_line n levels c f.0 f.1
opening_line n Wide levels (Branch c (Some limit)) f = wide_line n levels c limit f.0 f.1 f.2 f.3
opening_line n Plain levels (Branch c (Some limit)) f = absurd f
opening_line n Wide levels (Branch c None) f = absurd f
opening_line n Plain levels (Stuck c) f = stuck_line n Plain levels c f
opening_line n Wide levels (Stuck c) f = stuck_line n Wide levels c f
opening_line n format levels Seats f = seats_line n format levels
opening_line n Plain levels (Bound k) f = bound_line n Plain levels k f
opening_line n Wide levels (Bound k) f = bound_line n Wide levels k f

-- it opens a partial tree too, since its first word is not that of an open leaf
not_open : (o : Opening) → begins (codes "open") (item_words (Opens o)) ≡ false
not_open (Branch c None) = refl
not_open (Branch c (Some limit)) = refl
not_open (Stuck c) = refl
not_open Seats = refl
not_open (Bound k) = refl

part_back : (format : Format) (levels : ℕ) (words : List (List ℕ)) (o : Opening) → line.opening_on format levels words ≡ Ok o → line.part_on format levels words ≡ Ok (Some o)
unfolding line.part_on
part_back format levels words o h =
    let closed : begins (codes "open") words ≡ false = ap (begins (codes "open")) (opening_ok format levels words o h) ∙ not_open o in
    rw (closed, h) refl

part_line : (n : ℕ) (format : Format) (levels : ℕ) (o : Opening) → IsLine n (want.Tree format levels) (Opens o) → IsLine n (want.Part format levels) (Opens o)
part_line n format levels o one =
    let bytes = join_with_byte 32 (item_words (Opens o)) in
    let s = seen_ok Opens (by_words (line.opening_on format levels) (record { number = n; bytes = bytes; ended = true })) (Opens o) one.read in
    let w = bind_ok (line_words bytes true) (line.opening_on format levels) s.value s.first in
    record { printed = one.printed; read = rw (w.first, part_back format levels w.value s.value w.then) (ap (λ (i : Item). Ok i) s.view_is) }

room_line : (n left : ℕ) → IsLine n (want.Allowances left) (Allows Room)
unfolding line.allowance_on
room_line n left =
    let name = named_word (codes "room") refl (omega arith) (omega arith) in
    record {
      printed = few_printed line.allowance_on Allows n (codes "room") [] Room name tt (omega arith);
      read = few_said line.allowance_on Allows n (codes "room") [] Room name tt (omega arith) refl;
    }

end_line : (n : ℕ) → IsLine n want.End End
unfolding line.end_on
end_line n =
    let name = named_word (codes "end") refl (omega arith) (omega arith) in
    record {
      printed = few_printed line.end_on (λ _. End) n (codes "end") [] tt name tt (omega arith);
      read = few_said line.end_on (λ _. End) n (codes "end") [] tt name tt (omega arith) refl;
    }

is_printed : ℕ → Bool
is_printed b = nat_le 32 b && nat_le b 126

printed_by : (bytes : List ℕ) → list_all is_printed bytes ≡ true → AllByRecursion Printed bytes
unfolding is_printed
printed_by [] e = tt
printed_by (b ∷ bytes) e =
    let parts = and_parts (is_printed b) (list_all is_printed bytes) e in
    let ends = and_parts (nat_le 32 b) (nat_le b 126) parts.0 in
    (record { from = leb-true 32 b ends.0; to = leb-true b 126 ends.1 }, printed_by bytes parts.1)

head_line : (n : ℕ) (format : Format) (version : Version) → IsLine n want.Head (Head format version)
unfolding line.head_on line_bytes is_printed
head_line n Plain One = record { printed = printed_by (join_with_byte 32 (item_words (Head Plain One))) refl; read = refl }
head_line n Wide One = record { printed = printed_by (join_with_byte 32 (item_words (Head Wide One))) refl; read = refl }
head_line n Plain Two = record { printed = printed_by (join_with_byte 32 (item_words (Head Plain Two))) refl; read = refl }
head_line n Wide Two = record { printed = printed_by (join_with_byte 32 (item_words (Head Wide Two))) refl; read = refl }

-- the line of what fits is read
pub fits_line : (n : ℕ) (wanted : Wanted) (item : Item) → IsWanted wanted item → IsLine n wanted item
fits_line n want.Head (Head format version) f = head_line n format version
fits_line n (want.Tolerance format) (Within w) f = tolerance_line n format w f
fits_line n (want.Order format) (Order cs) f = order_line n format cs f.0 f.1
fits_line n want.Limit (Limit limit) f = limit_line n limit f
fits_line n want.Target (Target None) f = none_line n
fits_line n want.Target (Target (Some k)) f = target_line n k f
fits_line n (want.Groups left) (Grouped g) f = group_line n left g f.0 f.1
fits_line n (want.Tree format levels) (Opens o) f = opening_line n format levels o f
fits_line n (want.Takes format levels) (Takes cs) f = take_line n format levels cs f
fits_line n (want.Takes format levels) Mark f = mark_line n format levels
fits_line n (want.Part format levels) (Opens o) f = part_line n format levels o (opening_line n format levels o f)
fits_line n (want.Part format levels) Open f = open_line n format levels
fits_line n (want.PartTakes format levels) (Takes cs) f =
    let one = take_line n format levels cs f in
    record { printed = one.printed; read = one.read }
fits_line n (want.PartTakes format levels) Mark f =
    let one = mark_line n format levels in
    record { printed = one.printed; read = one.read }
fits_line n (want.Allowances left) (Allows Room) f = room_line n left
fits_line n (want.Allowances left) (Allows (Weigh quota ws)) f = weigh_line n left quota ws f
fits_line n want.End End f = end_line n
fits_line n _ _ f = absurd f

-- a line, its LF and the rest are cut again
no_lf : (bytes : List ℕ) → AllByRecursion Printed bytes → AllByRecursion (λ b. is_lf b ≡ false) bytes
no_lf [] a = tt
no_lf (b ∷ bytes) a = (ne_eqb b 10 (λ e. omega (arith, e, a.0.from)), no_lf bytes a.1)

pub line_cut : (n : ℕ) (bytes rest : List ℕ) → AllByRecursion Printed bytes → raw_lines_from n (bytes ++ 10 ∷ rest) ≡ record { number = n; bytes = bytes; ended = true } ∷ raw_lines_from (n + 1) rest
line_cut n bytes rest a =
    ap (numbered n) (slice_split_at is_lf bytes 10 rest (All-from_recursion (λ b. is_lf b ≡ false) bytes (no_lf bytes a)) refl) ∙ numbered-ended n bytes is_lf rest

abbrev pub line_by : Wanted → ℕ → List RawLine → List Wanted → Result Item TextKind → Result (List Item) TextFault
line_by w n pieces more r = elim r as (λ _. Result (List Item) TextFault) [
  | Ok item ↦ items_in_front (item ∷ []) (items_from (wanted_after w item ++ more) (n + 1) pieces)
  | Err kind ↦ Err (text_fault_at kind n)
]

-- items that fit are read from their text
pub items_back : (wanted : List Wanted) (n : ℕ) (items : List Item) → AllFit wanted items → items_from wanted n (raw_lines_from n (text_of_items items)) ≡ Ok items
items_back [] n [] f = refl
items_back [] n (item ∷ items) f = absurd f
items_back (w ∷ more) n [] f = absurd f
items_back (w ∷ more) n (item ∷ items) f =
    let one = fits_line n w item f.0 in
    let cut : raw_lines_from n (text_of_items (item ∷ items)) ≡ record { number = n; bytes = join_with_byte 32 (item_words item); ended = true } ∷ raw_lines_from (n + 1) (text_of_items items) =
    ap (raw_lines_from n) (append_assoc (join_with_byte 32 (item_words item)) (10 ∷ []) (text_of_items items)) ∙ line_cut n (join_with_byte 32 (item_words item)) (text_of_items items) one.printed in
    ap (items_from (w ∷ more) n) cut ∙ ap (line_by w n (raw_lines_from (n + 1) (text_of_items items)) more) one.read
    ∙ ap (items_in_front (item ∷ [])) (items_back (wanted_after w item ++ more) (n + 1) items f.1)
