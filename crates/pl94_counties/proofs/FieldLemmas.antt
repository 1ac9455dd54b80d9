-- Fields that are taken one after the other.
use Rattle.std.proofs.Common.{◌≡◌, ℕ, ◌+◌, List, [], ◌∷◌, length, drop, suc, zero, Option, Some, None, OnSome, refl, sym, ap, ◌∙◌, zero-add, arith}
use Rattle.std.proofs.Math.Seq.{drop-nil}
use Rattle.std.specs.List.{slice_get}
use Rattle.std.specs.Option.{option_map}
use Rattle.field_lines.specs.Fields.{fields_of}
use Rattle.pl94_counties.specs.Fields.{field, geo_fields}
use Rattle.std.specs.Iterator.{YieldsFirstBy, Yields, SkipsThenYields}

pub slice_get-drop : {X : Type 0} (n i : ℕ) (xs : List X) → slice_get (drop n xs) i ≡ slice_get xs (n + i)
slice_get-drop zero i xs = ap (λ k. slice_get xs k) (sym (zero-add i))
slice_get-drop (suc n) i [] = refl
slice_get-drop (suc n) i (x ∷ xs) =
    let next : suc (n + i) ≡ suc n + i = omega arith in
    slice_get-drop n i xs ∙ ap (λ k. slice_get (x ∷ xs) k) next

pub drop-drop : {X : Type 0} (n m : ℕ) (xs : List X) → drop n (drop m xs) ≡ drop (m + n) xs
drop-drop n zero xs = ap (λ k. drop k xs) (sym (zero-add n))
drop-drop n (suc m) [] = drop-nil n ∙ sym (drop-nil (suc m + n))
drop-drop n (suc m) (x ∷ xs) =
    let next : suc (m + n) ≡ suc m + n = omega arith in
    drop-drop n m xs ∙ ap (λ k. drop k (x ∷ xs)) next

-- after some items have come, what is left is without them
pub left_after : {S A B : Type 0} (view : A → B) (rest : S → List B) (s : S) (xs : List A) (t : S) → Yields (YieldsFirstBy view rest) s xs t → rest t ≡ drop (length xs) (rest s)
left_after view rest s [] t is = sym (ap rest is)
left_after view rest s (x ∷ xs) t ran =
    left_after view rest ran.0 xs t ran.2 ∙ ap (λ l. drop (suc (length xs)) l) (sym ran.1)

-- and so after the item that comes after some others
pub left_after_skip : {S A B : Type 0} (view : A → B) (rest : S → List B) (s : S) (n : ℕ) (r : Option A) (u : S) → SkipsThenYields (YieldsFirstBy view rest) s n r u → OnSome r (rest u ≡ drop (n + 1) (rest s))
left_after_skip view rest s n None u ran = tt
left_after_skip view rest s n (Some x) u ran =
    let t = ran.1.0 in
    let skipped = left_after view rest s ran.0 t ran.1.1 in
    ap (λ l. drop 1 l) (sym ran.1.2 ∙ skipped) ∙ drop-drop 1 (length ran.0) (rest s) ∙ ap (λ k. drop (k + 1) (rest s)) ran.2

-- what is left of fields after the third, the fifth, the eighth, the tenth and the thirteenth, one after the other
pub record LeftOf (fields after3 after5 after8 after10 after13 : List (List ℕ)) : Type 0 where
  pub third : after3 ≡ drop 3 fields
  pub fifth : after5 ≡ drop 5 fields
  pub eighth : after8 ≡ drop 8 fields
  pub tenth : after10 ≡ drop 10 fields
  pub thirteenth : after13 ≡ drop 13 fields

pub left_of : (fields after3 after5 after8 after10 after13 : List (List ℕ)) → after3 ≡ drop 3 fields → after5 ≡ drop 2 after3 → after8 ≡ drop 3 after5 → after10 ≡ drop 2 after8 → after13 ≡ drop 3 after10 → LeftOf fields after3 after5 after8 after10 after13
left_of fields after3 after5 after8 after10 after13 is3 is5 is8 is10 is13 =
    let fifth : after5 ≡ drop 5 fields = is5 ∙ ap (λ l. drop 2 l) is3 ∙ drop-drop 2 3 fields in
    let eighth : after8 ≡ drop 8 fields = is8 ∙ ap (λ l. drop 3 l) fifth ∙ drop-drop 3 5 fields in
    let tenth : after10 ≡ drop 10 fields = is10 ∙ ap (λ l. drop 2 l) eighth ∙ drop-drop 2 8 fields in
    record { third = is3; fifth = fifth; eighth = eighth; tenth = tenth; thirteenth = is13 ∙ ap (λ l. drop 3 l) tenth ∙ drop-drop 3 10 fields }

-- a field that was taken from what is left after n fields
pub taken_from : (n i : ℕ) (fields left : List (List ℕ)) (o : Option (List ℕ)) → o ≡ slice_get left i → left ≡ drop n fields → slice_get fields (n + i) ≡ o
taken_from n i fields left o taken is = sym (taken ∙ ap (λ l. slice_get l i) is ∙ slice_get-drop n i fields)

-- ---- the fields of a line of geo
geo_fields_from : (line a b n g s k : _) → field 3 line ≡ Some a → field 5 line ≡ Some b → field 8 line ≡ Some n → field 10 line ≡ Some g → field 13 line ≡ Some s → field 15 line ≡ Some k
    → geo_fields line ≡ Some (record { level = a; component = b; record_number = n; geocode = g; of_state = s; county = k })
unfolding geo_fields
geo_fields_from line a b n g s k e1 e2 e3 e4 e5 e6 = rw (e1, e2, e3, e4, e5, e6) refl

geo_fields_few : (line a b n g s : _) → field 3 line ≡ Some a → field 5 line ≡ Some b → field 8 line ≡ Some n → field 10 line ≡ Some g → field 13 line ≡ Some s → field 15 line ≡ None → geo_fields line ≡ None
unfolding geo_fields
geo_fields_few line a b n g s e1 e2 e3 e4 e5 e6 = rw (e1, e2, e3, e4, e5, e6) refl

pub geo_fields_fewer : (line a b n g : _) → field 3 line ≡ Some a → field 5 line ≡ Some b → field 8 line ≡ Some n → field 10 line ≡ Some g → field 13 line ≡ None → geo_fields line ≡ None
unfolding geo_fields
geo_fields_fewer line a b n g e1 e2 e3 e4 e5 = rw (e1, e2, e3, e4, e5) refl

-- the same of six fields that were taken one after the other; the last may be missing
pub geo_fields_taken : (line a b n g s : List ℕ) (k : Option (List ℕ)) (start after3 after5 after8 after10 after13 : List (List ℕ)) → start ≡ fields_of 124 line
    → Some a ≡ slice_get start 2 → after3 ≡ drop 3 start → Some b ≡ slice_get after3 1 → after5 ≡ drop 2 after3 → Some n ≡ slice_get after5 2 → after8 ≡ drop 3 after5
    → Some g ≡ slice_get after8 1 → after10 ≡ drop 2 after8 → Some s ≡ slice_get after10 2 → after13 ≡ drop 3 after10 → k ≡ slice_get after13 1
    → geo_fields line ≡ option_map (λ c. record { level = a; component = b; record_number = n; geocode = g; of_state = s; county = c }) k
geo_fields_taken line a b n g s k start after3 after5 after8 after10 after13 begun is3 rest3 is5 rest5 is8 rest8 is10 rest10 is13 rest13 is15 = by k is15
  where
    fields : List (List ℕ)
    fields = fields_of 124 line

    left : LeftOf fields after3 after5 after8 after10 after13
    left = left_of fields after3 after5 after8 after10 after13 (rest3 ∙ ap (λ l. drop 3 l) begun) rest5 rest8 rest10 rest13

    by : (o : Option (List ℕ)) → o ≡ slice_get after13 1 → geo_fields line ≡ option_map (λ c. record { level = a; component = b; record_number = n; geocode = g; of_state = s; county = c }) o
    by None none = geo_fields_few line a b n g s (taken_from 0 2 fields start _ is3 begun) (taken_from 3 1 fields after3 _ is5 left.third) (taken_from 5 2 fields after5 _ is8 left.fifth)
        (taken_from 8 1 fields after8 _ is10 left.eighth) (taken_from 10 2 fields after10 _ is13 left.tenth) (taken_from 13 1 fields after13 _ none left.thirteenth)
    by (Some c) some = geo_fields_from line a b n g s c (taken_from 0 2 fields start _ is3 begun) (taken_from 3 1 fields after3 _ is5 left.third) (taken_from 5 2 fields after5 _ is8 left.fifth)
        (taken_from 8 1 fields after8 _ is10 left.eighth) (taken_from 10 2 fields after10 _ is13 left.tenth) (taken_from 13 1 fields after13 _ some left.thirteenth)
