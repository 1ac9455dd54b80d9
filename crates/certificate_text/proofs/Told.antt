-- An item of a tree is told from its line.
use Rattle.std.proofs.Common.{◌≡◌, ℕ, ◌+◌, ◌-◌, ◌*◌, ◌<◌, ◌≤◌, ◌^◌, List, [], ◌∷◌, map, codes, Some, None, refl, ap, sym, ◌∙◌, arith}
use Rattle.std.specs.Prelude.{nat_eq, if◌then◌else◌}
use Rattle.std.specs.Fmt.{decimal}
use Rattle.std.specs.Cmp.Lexicographic.{pointwise}
use Rattle.std.specs.List.{AllByRecursion, join_with_byte}
use Rattle.std.specs.Str.Parse.{digits_value}
use Rattle.std.proofs.lemmas.Fmt.{decimal_nonempty, digits_value-decimal}
use Rattle.certificate_lines.specs.Words.{words_of}
use Rattle.county_codes.specs.Digits.{five_digits}
use Rattle.certificate_lines.specs.Spelling.{weight_word, item_words}
use Rattle.certificate_lines.specs.Fitting.{AreCodes}
use Rattle.certificate_data.specs.declared.weights.Weight.{Weight}
use Rattle.certificate_data.specs.declared.allowance.Allowance.TheVariants.{Room, Weigh}
use Rattle.certificate_lines.specs.declared.item.Opening.TheVariants.{Branch, Stuck, Seats, Bound}
use Rattle.certificate_lines.specs.declared.item.Item.{Item}
use Rattle.certificate_lines.specs.declared.item.Item.TheVariants.{Opens, Takes, Mark, Allows, End}
use Rattle.field_lines.proofs.NumbersBack.{own, decimal_digits}
use Rattle.certificate_text.proofs.SpellLaws.{IsWord, Printed, printed_line, words_back}
use Rattle.certificate_text.proofs.TextBack.{named_word, digits_shown, shown_append, code_word, code_words, words_of_short}
use Rattle.certificate_text.specs.Ranges.{IsWeightInRange, IsInRange}

-- the number that five digits spell, and those of other words
abbrev five : ℕ → ℕ → ℕ → ℕ → ℕ → ℕ
five a b c d e = ((((a - 48) * 10 + (b - 48)) * 10 + (c - 48)) * 10 + (d - 48)) * 10 + (e - 48)

abbrev code_in : List ℕ → ℕ
code_in (a ∷ b ∷ c ∷ d ∷ e ∷ word) = five a b c d e
code_in word = 0

abbrev weight_in : List ℕ → Weight
weight_in (a ∷ b ∷ c ∷ d ∷ e ∷ colon ∷ word) = record { county = five a b c d e; weight = digits_value 10 word }
weight_in word = record { county = 0; weight = 0 }

-- the item of a tree that words spell
abbrev branch_in : List (List ℕ) → Item
branch_in (county ∷ []) = Opens (Branch (code_in county) None)
branch_in (county ∷ limit ∷ words) = Opens (Branch (code_in county) (Some (digits_value 10 limit)))
branch_in [] = End

abbrev stuck_in : List (List ℕ) → Item
stuck_in (county ∷ words) = Opens (Stuck (code_in county))
stuck_in [] = End

abbrev bound_in : List (List ℕ) → Item
bound_in (lines ∷ words) = Opens (Bound (digits_value 10 lines))
bound_in [] = End

abbrev weigh_in : List (List ℕ) → Item
weigh_in (quota ∷ words) = Allows (Weigh (digits_value 10 quota) (map weight_in words))
weigh_in [] = End

abbrev item_in : List (List ℕ) → Item
item_in [] = End
item_in (name ∷ words) =
    if pointwise nat_eq name (codes "branch") then branch_in words
    else if pointwise nat_eq name (codes "stuck") then stuck_in words
    else if pointwise nat_eq name (codes "seats") then Opens Seats
    else if pointwise nat_eq name (codes "bound") then bound_in words
    else if pointwise nat_eq name (codes "take") then Takes (map code_in words)
    else if pointwise nat_eq name (codes "mark") then Mark
    else if pointwise nat_eq name (codes "room") then Allows Room
    else weigh_in words

-- what is written is read
code_value : (c : ℕ) → c ≤ 99999 → code_in (five_digits c) ≡ c
code_value c small = omega arith

codes_value : (cs : List ℕ) → AreCodes cs → map code_in (map five_digits cs) ≡ cs
codes_value [] a = refl
codes_value (c ∷ cs) a = ap (λ (n : ℕ). n ∷ map code_in (map five_digits cs)) (code_value c a.0) ∙ ap (λ (l : List ℕ). c ∷ l) (codes_value cs a.1)

number_value : (n : ℕ) → n < 2 ^ 64 → digits_value 10 (decimal n) ≡ n
number_value n small = digits_value-decimal own n small

weight_made : (c d n m : ℕ) → c ≡ d → n ≡ m → ◌≡◌ {A = Weight} (record { county = c; weight = n }) (record { county = d; weight = m })
weight_made c d n m e h = cc

weight_value : (w : Weight) → IsWeightInRange w → weight_in (weight_word w) ≡ w
weight_value w a = weight_made (code_in (five_digits w.county)) w.county (digits_value 10 (decimal w.weight)) w.weight (code_value w.county a.county) (number_value w.weight a.weight)

weights_value : (ws : List Weight) → AllByRecursion IsWeightInRange ws → map weight_in (map weight_word ws) ≡ ws
weights_value [] a = refl
weights_value (w ∷ ws) a = ap (λ (v : Weight). v ∷ map weight_in (map weight_word ws)) (weight_value w a.0) ∙ ap (λ (l : List Weight). w ∷ l) (weights_value ws a.1)

-- its words are words
number_word : (n : ℕ) → n < 2 ^ 64 → IsWord (decimal n)
number_word n small = record { some = decimal_nonempty n small; shown = digits_shown (decimal n) (decimal_digits n small) }

weight_words : (ws : List Weight) → AllByRecursion IsWeightInRange ws → AllByRecursion IsWord (map weight_word ws)
weight_words [] a = tt
weight_words (w ∷ ws) a =
    let county = (code_word w.county a.0.county).is_word in
    let number = number_word w.weight a.0.weight in
    (record { some = omega arith; shown = shown_append (five_digits w.county) (58 ∷ decimal w.weight) county.shown (record { from = omega arith; to = omega arith }, number.shown) }, weight_words ws a.1)

-- an item that its line tells
pub record IsTold (i : Item) : Type 0 where
  pub printed : AllByRecursion Printed (join_with_byte 32 (item_words i))
  pub words : words_of (join_with_byte 32 (item_words i)) ≡ item_words i
  pub item : item_in (item_words i) ≡ i

branch_name : IsWord (codes "branch")
branch_name = (named_word (codes "branch") refl (omega arith) (omega arith)).is_word

plain_told : (c : ℕ) → c ≤ 99999 → IsTold (Opens (Branch c None))
plain_told c small =
    let word = (code_word c small).is_word in
    record {
      printed = printed_line (codes "branch") (five_digits c ∷ []) branch_name (word, tt);
      words = words_back (codes "branch") (five_digits c ∷ []) branch_name (word, tt);
      item = ap (λ (n : ℕ). Opens (Branch n None)) (code_value c small);
    }

wide_told : (c limit : ℕ) → c ≤ 99999 → limit < 2 ^ 64 → IsTold (Opens (Branch c (Some limit)))
wide_told c limit small few =
    let word = (code_word c small).is_word in
    let number = number_word limit few in
    record {
      printed = printed_line (codes "branch") (five_digits c ∷ decimal limit ∷ []) branch_name (word, (number, tt));
      words = words_back (codes "branch") (five_digits c ∷ decimal limit ∷ []) branch_name (word, (number, tt));
      item = ap (λ (n : ℕ). Opens (Branch n (Some (digits_value 10 (decimal limit))))) (code_value c small) ∙ ap (λ (n : ℕ). Opens (Branch c (Some n))) (number_value limit few);
    }

stuck_told : (c : ℕ) → c ≤ 99999 → IsTold (Opens (Stuck c))
stuck_told c small =
    let name = (named_word (codes "stuck") refl (omega arith) (omega arith)).is_word in
    let word = (code_word c small).is_word in
    record {
      printed = printed_line (codes "stuck") (five_digits c ∷ []) name (word, tt);
      words = words_back (codes "stuck") (five_digits c ∷ []) name (word, tt);
      item = ap (λ (n : ℕ). Opens (Stuck n)) (code_value c small);
    }

seats_told : IsTold (Opens Seats)
seats_told =
    let name = (named_word (codes "seats") refl (omega arith) (omega arith)).is_word in
    record { printed = printed_line (codes "seats") [] name tt; words = words_back (codes "seats") [] name tt; item = refl }

bound_told : (n : ℕ) → n < 2 ^ 64 → IsTold (Opens (Bound n))
bound_told n small =
    let name = (named_word (codes "bound") refl (omega arith) (omega arith)).is_word in
    let number = number_word n small in
    record {
      printed = printed_line (codes "bound") (decimal n ∷ []) name (number, tt);
      words = words_back (codes "bound") (decimal n ∷ []) name (number, tt);
      item = ap (λ (k : ℕ). Opens (Bound k)) (number_value n small);
    }

take_told : (cs : List ℕ) → AreCodes cs → IsTold (Takes cs)
take_told cs small =
    let name = (named_word (codes "take") refl (omega arith) (omega arith)).is_word in
    let words = words_of_short (map five_digits cs) (code_words cs small) in
    record {
      printed = printed_line (codes "take") (map five_digits cs) name words;
      words = words_back (codes "take") (map five_digits cs) name words;
      item = ap Takes (codes_value cs small);
    }

mark_told : IsTold Mark
mark_told =
    let name = (named_word (codes "mark") refl (omega arith) (omega arith)).is_word in
    record { printed = printed_line (codes "mark") [] name tt; words = words_back (codes "mark") [] name tt; item = refl }

room_told : IsTold (Allows Room)
room_told =
    let name = (named_word (codes "room") refl (omega arith) (omega arith)).is_word in
    record { printed = printed_line (codes "room") [] name tt; words = words_back (codes "room") [] name tt; item = refl }

weigh_told : (quota : ℕ) (ws : List Weight) → quota < 2 ^ 64 → AllByRecursion IsWeightInRange ws → IsTold (Allows (Weigh quota ws))
weigh_told quota ws small each =
    let name = (named_word (codes "weigh") refl (omega arith) (omega arith)).is_word in
    let number = number_word quota small in
    let words = weight_words ws each in
    record {
      printed = printed_line (codes "weigh") (decimal quota ∷ map weight_word ws) name (number, words);
      words = words_back (codes "weigh") (decimal quota ∷ map weight_word ws) name (number, words);
      item = ap (λ (n : ℕ). Allows (Weigh n (map weight_in (map weight_word ws)))) (number_value quota small) ∙ ap (λ (l : List Weight). Allows (Weigh quota l)) (weights_value ws each);
    }

pub told : (i : Item) → IsInRange i → IsTold i
told (Opens (Branch c None)) r = plain_told c r
told (Opens (Branch c (Some limit))) r = wide_told c limit r.0 r.1
told (Opens (Stuck c)) r = stuck_told c r
told (Opens Seats) r = seats_told
told (Opens (Bound n)) r = bound_told n r
told (Takes cs) r = take_told cs r
told Mark r = mark_told
told (Allows Room) r = room_told
told (Allows (Weigh quota ws)) r = weigh_told quota ws r.0 r.1
told _ r = absurd r

-- items whose lines are the same
pub same_item : (i j : Item) → IsTold i → IsTold j → join_with_byte 32 (item_words i) ≡ join_with_byte 32 (item_words j) → i ≡ j
same_item i j a b e = sym a.item ∙ ap item_in (sym a.words ∙ ap words_of e ∙ b.words) ∙ b.item
