-- What each form of line is read as, and how that is written: a line that is read is the item's, word by word.
use Rattle.std.proofs.Common.{◌≡◌, ℕ, ◌+◌, ◌*◌, ◌<◌, ◌≤◌, ◌^◌, ◌&&◌, cond, Bool, true, false, List, [], ◌∷◌, length, map, drop, codes, Option, Some, None, Ok, Err, refl, ap, subst, ◌∙◌, arith, lit<}
use Rattle.std.specs.Prelude.{nat_le, nat_lt}
use Rattle.std.specs.Fmt.{decimal}
use Rattle.std.specs.List.{AllByRecursion}
use Rattle.std.specs.Cmp.Lexicographic.{bytes_decides}
use Rattle.std.proofs.lemmas.Bool.{and_parts, and_from, le-leb, leb-true}
use Rattle.field_lines.specs.Chain.{◌>>=◌}
use Rattle.county_codes.specs.Tolerances.{is_tolerance}
use Rattle.county_codes.specs.declared.group.Group.{Group}
use Rattle.county_codes.specs.declared.tolerance.Tolerance.{Tolerance}
use Rattle.certificate_lines.specs.Words.{number, code, pair}
use Rattle.certificate_lines.specs.Lines.{most, begins, named, counted, number_at, code_word_at, each, ascend, tolerance_on, order_on, limit_on, target_on, group_on, branch_on, stuck_on, bound_on, opening_on, take_on, weigh_on, allowance_on, end_on, part_on}
use Rattle.county_codes.specs.Digits.{five_digits}
use Rattle.certificate_lines.specs.Spelling.{weight_word, item_words}
use Rattle.certificate_lines.specs.Items.{taken, parted}
use Rattle.certificate_lines.specs.Fitting.{FitsWeight}
use Rattle.certificate_lines.proofs.WordLaws.{bind_ok, number_ok, code_ok, pair_ok, each_ok}
use Rattle.certificate_lines.specs.declared.fault.TextKind.TheVariants.{BadWord, BadNumber, NotCanonical, TooDeep}
use Rattle.certificate_data.specs.declared.format.Format.{Format}
use Rattle.certificate_data.specs.declared.format.Format.TheVariants.{Plain, Wide}
use Rattle.certificate_data.specs.declared.weights.Weight.{Weight}
use Rattle.certificate_data.specs.declared.allowance.Allowance.{Allowance}
use Rattle.certificate_data.specs.declared.allowance.Allowance.TheVariants.{Room, Weigh}
use Rattle.certificate_lines.specs.declared.item.Opening.{Opening}
use Rattle.certificate_lines.specs.declared.item.Opening.TheVariants.{Branch, Stuck, Seats, Bound as BoundLeaf}
use Rattle.certificate_lines.specs.declared.item.Item.TheVariants.{Within, Order, Limit, Target, Grouped, Opens, Allows, End}

-- which way a test went
begins_ok : (name : List ℕ) (words : List (List ℕ)) → begins name words ≡ true → words ≡ name ∷ drop 1 words
begins_ok name [] h = cc
begins_ok name (word ∷ words) h = ap (λ (w : List ℕ). w ∷ words) ((bytes_decides word name).0 h)

named_go : (name : List ℕ) (words rest : List (List ℕ)) (t : Bool) → begins name words ≡ t → cond t (Ok (drop 1 words)) (Err BadWord) ≡ Ok rest → words ≡ name ∷ rest
named_go name words rest false e h = cc
named_go name words rest true e h =
    let same : drop 1 words ≡ rest = cc in
    begins_ok name words e ∙ ap (λ (ws : List (List ℕ)). name ∷ ws) same

pub named_ok : (name : List ℕ) (words rest : List (List ℕ)) → named name words ≡ Ok rest → words ≡ name ∷ rest
named_ok name words rest h = named_go name words rest _ refl h

-- the words are from `least` to `greatest` in number
pub record CountedIs (least greatest : ℕ) (words rest : List (List ℕ)) : Type 0 where
  pub same : words ≡ rest
  pub from : least ≤ length rest
  pub to : length rest ≤ greatest

counted_go : (least greatest : ℕ) (words rest : List (List ℕ)) (t : Bool) → (nat_le least (length words) && nat_le (length words) greatest) ≡ t → cond t (Ok words) (Err BadWord) ≡ Ok rest → CountedIs least greatest words rest
counted_go least greatest words rest false e h = cc
counted_go least greatest words rest true e h =
    let same : words ≡ rest = cc in
    let parts = and_parts (nat_le least (length words)) (nat_le (length words) greatest) e in
    let low = leb-true least (length words) parts.0 in
    let high = leb-true (length words) greatest parts.1 in
    record { same = same; from = subst (λ (ws : List (List ℕ)). least ≤ length ws) same low; to = subst (λ (ws : List (List ℕ)). length ws ≤ greatest) same high }

pub counted_ok : (least greatest : ℕ) (words rest : List (List ℕ)) → counted least greatest words ≡ Ok rest → CountedIs least greatest words rest
counted_ok least greatest words rest h = counted_go least greatest words rest _ refl h

-- a number in front
pub record NumberAtIs (least greatest : ℕ) (words : List (List ℕ)) (n : ℕ) (rest : List (List ℕ)) : Type 0 where
  pub words_are : words ≡ decimal n ∷ rest
  pub from : least ≤ n
  pub to : n ≤ greatest

pub number_at_ok : (least greatest : ℕ) → greatest < 2 ^ 64 → (words : List (List ℕ)) (r : ℕ × List (List ℕ)) → number_at least greatest words ≡ Ok r → NumberAtIs least greatest words r.0 r.1
number_at_ok least greatest small [] r h = cc
number_at_ok least greatest small (word ∷ words) r h =
    let n = bind_ok (number least greatest word) _ r h in
    let is = number_ok least greatest small word n.value n.first in
    let same : (n.value, words) ≡ r = cc (n.then) in
    subst (λ (q : ℕ × List (List ℕ)). NumberAtIs least greatest (word ∷ words) q.0 q.1) same (record { words_are = ap (λ (w : List ℕ). w ∷ words) is.word_is; from = is.from; to = is.to })

pub record CodeAtIs (words : List (List ℕ)) (c : ℕ) (rest : List (List ℕ)) : Type 0 where
  pub words_are : words ≡ five_digits c ∷ rest
  pub to : c ≤ 99999

pub code_at_ok : (words : List (List ℕ)) (r : ℕ × List (List ℕ)) → code_word_at words ≡ Ok r → CodeAtIs words r.0 r.1
code_at_ok [] r h = cc
code_at_ok (word ∷ words) r h =
    let n = bind_ok (code word) _ r h in
    let is = code_ok word n.value n.first in
    let same : (n.value, words) ≡ r = cc (n.then) in
    subst (λ (q : ℕ × List (List ℕ)). CodeAtIs (word ∷ words) q.0 q.1) same (record { words_are = ap (λ (w : List ℕ). w ∷ words) is.word_is; to = is.to })

pub codes_ok : (words : List (List ℕ)) (cs : List ℕ) → each code words ≡ Ok cs → (words ≡ map five_digits cs) × AllByRecursion (λ c. c ≤ 99999) cs
codes_ok words cs h = each_ok code five_digits (λ c. c ≤ 99999) (λ word x e. ((code_ok word x e).word_is, (code_ok word x e).to)) words cs h

pub weights_ok : (words : List (List ℕ)) (ws : List Weight) → each pair words ≡ Ok ws → (words ≡ map weight_word ws) × AllByRecursion FitsWeight ws
weights_ok words ws h =
    each_ok pair weight_word FitsWeight (λ word x e. let is = pair_ok word x e in (is.word_is, record { county = is.county; from = is.from; to = is.to })) words ws h

empty : (words : List (List ℕ)) → length words ≤ 0 → words ≡ []
empty [] few = refl
empty (word ∷ words) few = absurd (omega (arith, few))

-- the forms
half_go : (numerator denominator : ℕ) (w : Tolerance) (t : Bool) → nat_le (2 * numerator) denominator ≡ t → cond t (Ok (record { numerator = numerator; denominator = denominator })) (Err BadNumber) ≡ Ok w
    → ◌≡◌ {A = Tolerance} (record { numerator = numerator; denominator = denominator }) w × (2 * numerator ≤ denominator)
half_go numerator denominator w true e h = (cc, leb-true (2 * numerator) denominator e)
half_go numerator denominator w false e h = cc

pub tolerance_ok : (line : List (List ℕ)) (w : Tolerance) → tolerance_on line ≡ Ok w → line ≡ item_words (Within w)
unfolding tolerance_on
tolerance_ok line w h =
    let a = bind_ok (named (codes "window") line) _ w h in
    let b = bind_ok (counted 2 2 a.value) _ w a.then in
    let p = bind_ok (number_at 0 500 b.value) _ w b.then in
    let q = bind_ok (number_at 1 1000 p.value.1) _ w p.then in
    let few = counted_ok 2 2 a.value b.value b.first in
    let m = number_at_ok 0 500 (lit< tt) b.value p.value p.first in
    let n = number_at_ok 1 1000 (lit< tt) p.value.1 q.value q.first in
    let same = (half_go p.value.0 q.value.0 w _ refl q.then).0 in
    let long : length b.value ≡ length p.value.1 + 1 = omega (arith, ap length {y = decimal p.value.0 ∷ p.value.1} m.words_are) in
    let less : length p.value.1 ≡ length q.value.1 + 1 = omega (arith, ap length {y = decimal q.value.0 ∷ q.value.1} n.words_are) in
    let none : q.value.1 ≡ [] = empty q.value.1 (omega (arith, few.to, long, less)) in
    named_ok (codes "window") line a.value a.first
    ∙ ap (λ (ws : List (List ℕ)). codes "window" ∷ ws) (few.same ∙ m.words_are ∙ ap (λ (ws : List (List ℕ)). decimal p.value.0 ∷ ws) (n.words_are ∙ ap (λ (ws : List (List ℕ)). decimal q.value.0 ∷ ws) none))
    ∙ ap (λ (v : Tolerance). item_words (Within v)) same

-- a tolerance that was read is in its range
pub tolerance_fits : (line : List (List ℕ)) (w : Tolerance) → tolerance_on line ≡ Ok w → is_tolerance w ≡ true
unfolding tolerance_on
tolerance_fits line w h =
    let a = bind_ok (named (codes "window") line) _ w h in
    let b = bind_ok (counted 2 2 a.value) _ w a.then in
    let p = bind_ok (number_at 0 500 b.value) _ w b.then in
    let q = bind_ok (number_at 1 1000 p.value.1) _ w p.then in
    let n = number_at_ok 1 1000 (lit< tt) p.value.1 q.value q.first in
    let half = half_go p.value.0 q.value.0 w _ refl q.then in
    let whole = q.value.0 in
    let low = le-leb 1 whole n.from in
    let high = le-leb whole 1000 n.to in
    let few = le-leb (2 * p.value.0) whole half.1 in
    subst (λ (v : Tolerance). is_tolerance v ≡ true) half.0 (and_from (nat_le 1 whole) (nat_le whole 1000 && nat_le (2 * p.value.0) whole) low (and_from (nat_le whole 1000) (nat_le (2 * p.value.0) whole) high few))

pub order_ok : (line : List (List ℕ)) (cs : List ℕ) → order_on line ≡ Ok cs → line ≡ item_words (Order cs)
unfolding order_on
order_ok line cs h =
    let a = bind_ok (named (codes "order") line) _ cs h in
    let b = bind_ok (counted 0 most a.value) _ cs a.then in
    named_ok (codes "order") line a.value a.first ∙ ap (λ (ws : List (List ℕ)). codes "order" ∷ ws) ((counted_ok 0 most a.value b.value b.first).same ∙ (codes_ok b.value cs b.then).0)

pub length_map : {X Y : Type 0} (f : X → Y) (xs : List X) → length (map f xs) ≡ length xs
length_map f [] = refl
length_map f (x ∷ xs) = omega (arith, length_map f xs)

-- an order that was read has few codes
pub order_few : (line : List (List ℕ)) (cs : List ℕ) → order_on line ≡ Ok cs → length cs ≤ most
unfolding order_on
order_few line cs h =
    let a = bind_ok (named (codes "order") line) _ cs h in
    let b = bind_ok (counted 0 most a.value) _ cs a.then in
    omega (arith, (counted_ok 0 most a.value b.value b.first).to, ap length (codes_ok b.value cs b.then).0, length_map five_digits cs)

pub limit_ok : (line : List (List ℕ)) (limit : ℕ) → limit_on line ≡ Ok limit → line ≡ item_words (Limit limit)
unfolding limit_on
limit_ok line limit h =
    let a = bind_ok (named (codes "limit") line) _ limit h in
    let b = bind_ok (counted 1 1 a.value) _ limit a.then in
    let c = bind_ok (number_at 0 most b.value) _ limit b.then in
    let few = counted_ok 1 1 a.value b.value b.first in
    let n = number_at_ok 0 most (lit< tt) b.value c.value c.first in
    let same : c.value.0 ≡ limit = cc (c.then) in
    let none : c.value.1 ≡ [] = empty c.value.1 (omega (arith, few.to, ap length n.words_are)) in
    named_ok (codes "limit") line a.value a.first ∙ ap (λ (ws : List (List ℕ)). codes "limit" ∷ ws) (few.same ∙ n.words_are ∙ ap (λ (ws : List (List ℕ)). decimal c.value.0 ∷ ws) none ∙ ap (λ (k : ℕ). decimal k ∷ []) same)

target_go : (words : List (List ℕ)) (target : Option ℕ) (t : Bool) → begins (codes "none") words ≡ t → length words ≤ 1
    → cond t (Ok None) (number_at 0 most words >>= λ groups. Ok (Some groups.0)) ≡ Ok target → codes "target" ∷ words ≡ item_words (Target target)
target_go words target true e few h =
    let none : drop 1 words ≡ [] = empty (drop 1 words) (omega (arith, few, ap length (begins_ok (codes "none") words e))) in
    let same : None ≡ target = cc in
    ap (λ (ws : List (List ℕ)). codes "target" ∷ ws) (begins_ok (codes "none") words e ∙ ap (λ (ws : List (List ℕ)). codes "none" ∷ ws) none) ∙ ap (λ (t : Option ℕ). item_words (Target t)) same
target_go words target false e few h =
    let c = bind_ok (number_at 0 most words) _ target h in
    let n = number_at_ok 0 most (lit< tt) words c.value c.first in
    let same : Some c.value.0 ≡ target = cc (c.then) in
    let none : c.value.1 ≡ [] = empty c.value.1 (omega (arith, few, ap length n.words_are)) in
    ap (λ (ws : List (List ℕ)). codes "target" ∷ ws) (n.words_are ∙ ap (λ (ws : List (List ℕ)). decimal c.value.0 ∷ ws) none) ∙ ap (λ (t : Option ℕ). item_words (Target t)) same

pub target_ok : (line : List (List ℕ)) (target : Option ℕ) → target_on line ≡ Ok target → line ≡ item_words (Target target)
unfolding target_on
target_ok line target h =
    let a = bind_ok (named (codes "target") line) _ target h in
    let b = bind_ok (counted 1 1 a.value) _ target a.then in
    let few = counted_ok 1 1 a.value b.value b.first in
    named_ok (codes "target") line a.value a.first ∙ ap (λ (ws : List (List ℕ)). codes "target" ∷ ws) few.same ∙ target_go b.value target _ refl few.to b.then

pub group_ok : (line : List (List ℕ)) (group : Group) → group_on line ≡ Ok group → line ≡ item_words (Grouped group)
unfolding group_on
group_ok line group h =
    let a = bind_ok (named (codes "group") line) _ group h in
    let b = bind_ok (counted 2 (1 + most) a.value) _ group a.then in
    let s = bind_ok (number_at 0 65535 b.value) _ group b.then in
    let d = bind_ok (each code s.value.1) _ group s.then in
    let n = number_at_ok 0 65535 (lit< tt) b.value s.value s.first in
    let same : record { seats = s.value.0; codes = d.value } ≡ group = cc (d.then) in
    named_ok (codes "group") line a.value a.first
    ∙ ap (λ (ws : List (List ℕ)). codes "group" ∷ ws) ((counted_ok 2 (1 + most) a.value b.value b.first).same ∙ n.words_are ∙ ap (λ (ws : List (List ℕ)). decimal s.value.0 ∷ ws) (codes_ok s.value.1 d.value d.first).0)
    ∙ ap (λ (g : Group). item_words (Grouped g)) same

deep_go : (levels : ℕ) (x y : Opening) (t : Bool) → nat_lt 0 levels ≡ t → cond t (Ok x) (Err TooDeep) ≡ Ok y → x ≡ y
deep_go levels x y true e h = cc
deep_go levels x y false e h = cc

branch_ok : (format : Format) (levels : ℕ) (words : List (List ℕ)) (opening : Opening) → branch_on format levels words ≡ Ok opening → codes "branch" ∷ words ≡ item_words (Opens opening)
unfolding branch_on
branch_ok Plain levels words opening h =
    let a = bind_ok (counted 1 1 words) _ opening h in
    let b = bind_ok (code_word_at a.value) _ opening a.then in
    let few = counted_ok 1 1 words a.value a.first in
    let c = code_at_ok a.value b.value b.first in
    let same : Branch b.value.0 None ≡ opening = deep_go levels _ opening _ refl b.then in
    let none : b.value.1 ≡ [] = empty b.value.1 (omega (arith, few.to, ap length c.words_are)) in
    ap (λ (ws : List (List ℕ)). codes "branch" ∷ ws) (few.same ∙ c.words_are ∙ ap (λ (ws : List (List ℕ)). five_digits b.value.0 ∷ ws) none) ∙ ap (λ (o : Opening). item_words (Opens o)) same
branch_ok Wide levels words opening h =
    let a = bind_ok (counted 2 2 words) _ opening h in
    let b = bind_ok (code_word_at a.value) _ opening a.then in
    let d = bind_ok (number_at 1 most b.value.1) _ opening b.then in
    let few = counted_ok 2 2 words a.value a.first in
    let c = code_at_ok a.value b.value b.first in
    let n = number_at_ok 1 most (lit< tt) b.value.1 d.value d.first in
    let same : Branch b.value.0 (Some d.value.0) ≡ opening = deep_go levels _ opening _ refl d.then in
    let none : d.value.1 ≡ [] = empty d.value.1 (omega (arith, few.to, ap length c.words_are, ap length n.words_are)) in
    ap (λ (ws : List (List ℕ)). codes "branch" ∷ ws) (few.same ∙ c.words_are ∙ ap (λ (ws : List (List ℕ)). five_digits b.value.0 ∷ ws) (n.words_are ∙ ap (λ (ws : List (List ℕ)). decimal d.value.0 ∷ ws) none)) ∙ ap (λ (o : Opening). item_words (Opens o)) same

stuck_ok : (words : List (List ℕ)) (opening : Opening) → stuck_on words ≡ Ok opening → codes "stuck" ∷ words ≡ item_words (Opens opening)
unfolding stuck_on
stuck_ok words opening h =
    let a = bind_ok (counted 1 1 words) _ opening h in
    let b = bind_ok (code_word_at a.value) _ opening a.then in
    let few = counted_ok 1 1 words a.value a.first in
    let c = code_at_ok a.value b.value b.first in
    let same : Stuck b.value.0 ≡ opening = cc (b.then) in
    let none : b.value.1 ≡ [] = empty b.value.1 (omega (arith, few.to, ap length c.words_are)) in
    ap (λ (ws : List (List ℕ)). codes "stuck" ∷ ws) (few.same ∙ c.words_are ∙ ap (λ (ws : List (List ℕ)). five_digits b.value.0 ∷ ws) none) ∙ ap (λ (o : Opening). item_words (Opens o)) same

bound_ok : (words : List (List ℕ)) (opening : Opening) → bound_on words ≡ Ok opening → codes "bound" ∷ words ≡ item_words (Opens opening)
unfolding bound_on
bound_ok words opening h =
    let a = bind_ok (counted 1 1 words) _ opening h in
    let b = bind_ok (number_at 0 most a.value) _ opening a.then in
    let few = counted_ok 1 1 words a.value a.first in
    let n = number_at_ok 0 most (lit< tt) a.value b.value b.first in
    let same : BoundLeaf b.value.0 ≡ opening = cc (b.then) in
    let none : b.value.1 ≡ [] = empty b.value.1 (omega (arith, few.to, ap length n.words_are)) in
    ap (λ (ws : List (List ℕ)). codes "bound" ∷ ws) (few.same ∙ n.words_are ∙ ap (λ (ws : List (List ℕ)). decimal b.value.0 ∷ ws) none) ∙ ap (λ (o : Opening). item_words (Opens o)) same

-- no words
none_ok : {X : Type 0} (x y : X) (words : List (List ℕ)) → (counted 0 0 words >>= λ _. Ok x) ≡ Ok y → (words ≡ []) × (x ≡ y)
none_ok x y words h =
    let a = bind_ok (counted 0 0 words) _ y h in
    let few = counted_ok 0 0 words a.value a.first in
    (few.same ∙ empty a.value few.to, cc (a.then))

module _ (format : Format) (levels : ℕ) (line : List (List ℕ)) (opening : Opening) where
  bound_go : (t : Bool) → begins (codes "bound") line ≡ t → cond t (bound_on (drop 1 line)) (Err BadWord) ≡ Ok opening → line ≡ item_words (Opens opening)
  bound_go false e h = cc
  bound_go true e h = begins_ok (codes "bound") line e ∙ bound_ok (drop 1 line) opening h

  seats_go : (t : Bool) → begins (codes "seats") line ≡ t → cond t (counted 0 0 (drop 1 line) >>= λ _. Ok Seats) (cond (begins (codes "bound") line) (bound_on (drop 1 line)) (Err BadWord)) ≡ Ok opening → line ≡ item_words (Opens opening)
  seats_go false e h = bound_go _ refl h
  seats_go true e h =
      let is = none_ok Seats opening (drop 1 line) h in
      begins_ok (codes "seats") line e ∙ ap (λ (ws : List (List ℕ)). codes "seats" ∷ ws) is.0 ∙ ap (λ (o : Opening). item_words (Opens o)) is.1

  stuck_go : (t : Bool) → begins (codes "stuck") line ≡ t → cond t (stuck_on (drop 1 line)) (cond (begins (codes "seats") line) (counted 0 0 (drop 1 line) >>= λ _. Ok Seats) (cond (begins (codes "bound") line) (bound_on (drop 1 line)) (Err BadWord))) ≡ Ok opening → line ≡ item_words (Opens opening)
  stuck_go false e h = seats_go _ refl h
  stuck_go true e h = begins_ok (codes "stuck") line e ∙ stuck_ok (drop 1 line) opening h

  branch_go : (t : Bool) → begins (codes "branch") line ≡ t → cond t (branch_on format levels (drop 1 line)) (cond (begins (codes "stuck") line) (stuck_on (drop 1 line)) (cond (begins (codes "seats") line) (counted 0 0 (drop 1 line) >>= λ _. Ok Seats) (cond (begins (codes "bound") line) (bound_on (drop 1 line)) (Err BadWord)))) ≡ Ok opening → line ≡ item_words (Opens opening)
  branch_go false e h = stuck_go _ refl h
  branch_go true e h = begins_ok (codes "branch") line e ∙ branch_ok format levels (drop 1 line) opening h

  pub opening_ok : opening_on format levels line ≡ Ok opening → line ≡ item_words (Opens opening)
  unfolding opening_on
  opening_ok h = branch_go _ refl h

module _ (format : Format) (levels : ℕ) (line : List (List ℕ)) (r : Option Opening) where
  open_go : (t : Bool) → begins (codes "open") line ≡ t → cond t (counted 0 0 (drop 1 line) >>= λ _. Ok None) (opening_on format levels line >>= λ o. Ok (Some o)) ≡ Ok r → line ≡ item_words (parted r)
  open_go false e h =
      let a = bind_ok (opening_on format levels line) _ r h in
      let same : Some a.value ≡ r = cc (a.then) in
      opening_ok format levels line a.value a.first ∙ ap (λ (o : Option Opening). item_words (parted o)) same
  open_go true e h =
      let is = none_ok None r (drop 1 line) h in
      begins_ok (codes "open") line e ∙ ap (λ (ws : List (List ℕ)). codes "open" ∷ ws) is.0 ∙ ap (λ (o : Option Opening). item_words (parted o)) is.1

  pub part_ok : part_on format levels line ≡ Ok r → line ≡ item_words (parted r)
  unfolding part_on
  part_ok h = open_go _ refl h

module _ (line : List (List ℕ)) (r : Option (List ℕ)) where
  mark_go : (t : Bool) → begins (codes "mark") line ≡ t → cond t (counted 0 0 (drop 1 line) >>= λ _. Ok None) (Err BadWord) ≡ Ok r → line ≡ item_words (taken r)
  mark_go false e h = cc
  mark_go true e h =
      let is = none_ok None r (drop 1 line) h in
      begins_ok (codes "mark") line e ∙ ap (λ (ws : List (List ℕ)). codes "mark" ∷ ws) is.0 ∙ ap (λ (o : Option (List ℕ)). item_words (taken o)) is.1

  take_go : (t : Bool) → begins (codes "take") line ≡ t
      → cond t (counted 1 most (drop 1 line) >>= λ words. (each code words >>= λ cs. Ok (Some cs))) (cond (begins (codes "mark") line) (counted 0 0 (drop 1 line) >>= λ _. Ok None) (Err BadWord)) ≡ Ok r → line ≡ item_words (taken r)
  take_go false e h = mark_go _ refl h
  take_go true e h =
      let a = bind_ok (counted 1 most (drop 1 line)) _ r h in
      let b = bind_ok (each code a.value) _ r a.then in
      let same : Some b.value ≡ r = cc (b.then) in
      begins_ok (codes "take") line e
      ∙ ap (λ (ws : List (List ℕ)). codes "take" ∷ ws) ((counted_ok 1 most (drop 1 line) a.value a.first).same ∙ (codes_ok a.value b.value b.first).0)
      ∙ ap (λ (o : Option (List ℕ)). item_words (taken o)) same

  pub take_ok : take_on line ≡ Ok r → line ≡ item_words (taken r)
  unfolding take_on
  take_ok h = take_go _ refl h

ascend_go : (quota : ℕ) (weights : List Weight) (a : Allowance) (t : Bool) → ascend weights ≡ t → cond t (Ok (Weigh quota weights)) (Err NotCanonical) ≡ Ok a → Weigh quota weights ≡ a
ascend_go quota weights a true e h = cc
ascend_go quota weights a false e h = cc

module _ (line : List (List ℕ)) (a : Allowance) where
  weigh_ok : (words : List (List ℕ)) → weigh_on words ≡ Ok a → codes "weigh" ∷ words ≡ item_words (Allows a)
  unfolding weigh_on
  weigh_ok words h =
      let q = bind_ok (number_at 1 256000000 words) _ a h in
      let w = bind_ok (each pair q.value.1) _ a q.then in
      let n = number_at_ok 1 256000000 (lit< tt) words q.value q.first in
      let same : Weigh q.value.0 w.value ≡ a = ascend_go q.value.0 w.value a _ refl w.then in
      ap (λ (ws : List (List ℕ)). codes "weigh" ∷ ws) (n.words_are ∙ ap (λ (ws : List (List ℕ)). decimal q.value.0 ∷ ws) (weights_ok q.value.1 w.value w.first).0) ∙ ap (λ (b : Allowance). item_words (Allows b)) same

  weigh_go : (t : Bool) → begins (codes "weigh") line ≡ t → cond t (weigh_on (drop 1 line)) (Err BadWord) ≡ Ok a → line ≡ item_words (Allows a)
  weigh_go false e h = cc
  weigh_go true e h = begins_ok (codes "weigh") line e ∙ weigh_ok (drop 1 line) h

  room_go : (t : Bool) → begins (codes "room") line ≡ t → cond t (counted 0 0 (drop 1 line) >>= λ _. Ok Room) (cond (begins (codes "weigh") line) (weigh_on (drop 1 line)) (Err BadWord)) ≡ Ok a → line ≡ item_words (Allows a)
  room_go false e h = weigh_go _ refl h
  room_go true e h =
      let is = none_ok Room a (drop 1 line) h in
      begins_ok (codes "room") line e ∙ ap (λ (ws : List (List ℕ)). codes "room" ∷ ws) is.0 ∙ ap (λ (b : Allowance). item_words (Allows b)) is.1

  pub allowance_ok : allowance_on line ≡ Ok a → line ≡ item_words (Allows a)
  unfolding allowance_on
  allowance_ok h = room_go _ refl h

pub end_ok : (line : List (List ℕ)) (done : Unit {0}) → end_on line ≡ Ok done → line ≡ item_words End
unfolding end_on
end_ok line done h =
    let a = bind_ok (named (codes "end") line) _ done h in
    let b = bind_ok (counted 0 0 a.value) _ done a.then in
    let few = counted_ok 0 0 a.value b.value b.first in
    named_ok (codes "end") line a.value a.first ∙ ap (λ (ws : List (List ℕ)). codes "end" ∷ ws) (few.same ∙ empty b.value few.to)
