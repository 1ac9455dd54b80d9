-- A text spells one list of events at most.
use Rattle.std.proofs.Common.{◌≡◌, ℕ, ◌+◌, true, List, [], ◌∷◌, ◌++◌, length, map, Result, Ok, refl, ap, sym, subst, ◌∙◌, arith, append_assoc, append-nil}
use Rattle.std.specs.List.{AllByRecursion, join_with_byte, filter}
use Rattle.std.proofs.lemmas.List.Elements.{filter-append}
use Rattle.std.proofs.lemmas.List.{length-append}
use Rattle.std.proofs.lemmas.Grind.{flat_map-append}
use Rattle.std.proofs.lemmas.Bool.{ne_eqb}
use Rattle.field_lines.specs.RawPieces.{is_lf}
use Rattle.certificate_data.specs.declared.format.Format.{Format}
use Rattle.county_codes.specs.declared.group.Group.{Group}
use Rattle.certificate_lines.specs.Items.{by_words, item_on, wanted_after}
use Rattle.certificate_lines.specs.Spelling.{item_words, item_line, text_of_items}
use Rattle.certificate_lines.specs.Fitting.{AllFit}
use Rattle.certificate_lines.specs.declared.fault.TextKind.{TextKind}
use Rattle.certificate_lines.specs.declared.item.Item.{Item}
use Rattle.certificate_lines.specs.declared.item.Item.TheVariants.{Grouped}
use Rattle.certificate_lines.specs.declared.item.Wanted.{Wanted}
use Rattle.certificate_text.proofs.SpellLaws.{Printed}
use Rattle.certificate_text.proofs.TextBack.{fits_line}
use Rattle.certificate_text.proofs.OneSpelling.{tree_told}
use Rattle.partial_text.proofs.PartBack.{part_told}
use Rattle.board_laws.specs.Content.{Event, hand, result, split_piece, part_piece, better, wider}
use Rattle.board_report.specs.EventLines.{event_on}
use Rattle.board_report.specs.EventSpelling.{event_words, event_line, line_of_event, items_of, wanted_by, HasForm, text_of_event, text_of_events, HasSpelling, EventsAreSpelled}
use Rattle.board_report.specs.declared.event_line.EventLine.{EventLine}
use Rattle.board_report.proofs.LinesBack.{event_back}

-- two printed lines, each with an LF and a text behind it: where the whole is the same, so are the lines and the texts
record Same {A B : Type 0} (a b : A) (x y : B) : Type 0 where
  pub first : a ≡ b
  pub behind : x ≡ y

same_line : (a b x y : List ℕ) → AllByRecursion Printed a → AllByRecursion Printed b → a ++ 10 ∷ x ≡ b ++ 10 ∷ y → Same a b x y
same_line [] [] x y f g h = record { first = refl; behind = cc }
same_line [] (d ∷ b) x y f g h =
    let lf : 10 ≡ d = cc in
    absurd (omega (arith, lf, g.0.from))
same_line (c ∷ a) [] x y f g h =
    let lf : c ≡ 10 = cc in
    absurd (omega (arith, lf, f.0.from))
same_line (c ∷ a) (d ∷ b) x y f g h =
    let head : c ≡ d = cc in
    let rest : a ++ 10 ∷ x ≡ b ++ 10 ∷ y = cc in
    let later = same_line a b x y f.1 g.1 rest in
    record { first = cc (head, later.first); behind = later.behind }

same_ok : {X : Type 0} (x y : X) → ◌≡◌ {A = Result X TextKind} (Ok x) (Ok y) → x ≡ y
same_ok x y h = cc

-- items that fit in one place, each with a text behind them
same_items : (wanted : List Wanted) (is js : List Item) (x y : List ℕ) → AllFit wanted is → AllFit wanted js → text_of_items is ++ x ≡ text_of_items js ++ y → Same is js x y
same_items [] [] [] x y f g h = record { first = refl; behind = h }
same_items [] (i ∷ is) js x y f g h = absurd f
same_items [] [] (j ∷ js) x y f g h = absurd g
same_items (w ∷ more) [] js x y f g h = absurd f
same_items (w ∷ more) (i ∷ is) [] x y f g h = absurd g
same_items (w ∷ more) (i ∷ is) (j ∷ js) x y f g h =
    let a = fits_line 0 w i f.0 in
    let b = fits_line 0 w j g.0 in
    let u = join_with_byte 32 (item_words i) in
    let v = join_with_byte 32 (item_words j) in
    let left : text_of_items (i ∷ is) ++ x ≡ u ++ 10 ∷ (text_of_items is ++ x) = append_assoc (u ++ 10 ∷ []) (text_of_items is) x ∙ append_assoc u (10 ∷ []) (text_of_items is ++ x) in
    let right : text_of_items (j ∷ js) ++ y ≡ v ++ 10 ∷ (text_of_items js ++ y) = append_assoc (v ++ 10 ∷ []) (text_of_items js) y ∙ append_assoc v (10 ∷ []) (text_of_items js ++ y) in
    let line = same_line u v (text_of_items is ++ x) (text_of_items js ++ y) a.printed b.printed (sym left ∙ h ∙ right) in
    let one : i ≡ j = same_ok i j (sym a.read ∙ ap (λ (l : List ℕ). item_on w (record { number = 0; bytes = l; ended = true })) line.first ∙ b.read) in
    let later = same_items (wanted_after w i ++ more) is js x y f.1 (subst (λ (k : Item). AllFit (wanted_after w k ++ more) js) (sym one) g.1) line.behind in
    record { first = ap (λ (l : List Item). i ∷ l) later.first ∙ ap (λ (k : Item). k ∷ js) one; behind = later.behind }

groups_told : (gs hs : List Group) → map Grouped gs ≡ map Grouped hs → gs ≡ hs
groups_told [] [] h = refl
groups_told [] (b ∷ hs) h = cc
groups_told (a ∷ gs) [] h = cc
groups_told (a ∷ gs) (b ∷ hs) h =
    let first : a ≡ b = cc in
    let rest : map Grouped gs ≡ map Grouped hs = cc in
    let later = groups_told gs hs rest in
    cc (first, later)

-- an event is told from its first line and its items
event_told : (e f : Event) → HasForm e → HasForm f → line_of_event e ≡ line_of_event f → items_of e ≡ items_of f → e ≡ f
event_told (hand a) (hand b) x y h g = cc (h)
event_told (result r p t) (result s q u) x y h g =
    let tree : t ≡ u = tree_told t u g in
    let round : r ≡ s = cc (h) in
    let piece : p ≡ q = cc (h) in
    cc (tree, round, piece)
event_told (split_piece r p c j) (split_piece s q d k) x y h g = cc (h)
event_told (part_piece r p t) (part_piece s q u) x y h g =
    let tree : t ≡ u = part_told t u x y g in
    let round : r ≡ s = cc (h) in
    let piece : p ≡ q = cc (h) in
    cc (tree, round, piece)
event_told (better r gs) (better s hs) x y h g =
    let groups : gs ≡ hs = groups_told gs hs g in
    let round : r ≡ s = cc (h) in
    cc (groups, round)
event_told (wider r) (wider s) x y h g = cc (h)
event_told (hand a) (result s q u) x y h g = cc (h)
event_told (hand a) (split_piece s q d k) x y h g = cc (h)
event_told (hand a) (part_piece s q u) x y h g = cc (h)
event_told (hand a) (better s hs) x y h g = cc (h)
event_told (hand a) (wider s) x y h g = cc (h)
event_told (result r p t) (hand b) x y h g = cc (h)
event_told (result r p t) (split_piece s q d k) x y h g = cc (h)
event_told (result r p t) (part_piece s q u) x y h g = cc (h)
event_told (result r p t) (better s hs) x y h g = cc (h)
event_told (result r p t) (wider s) x y h g = cc (h)
event_told (split_piece r p c j) (hand b) x y h g = cc (h)
event_told (split_piece r p c j) (result s q u) x y h g = cc (h)
event_told (split_piece r p c j) (part_piece s q u) x y h g = cc (h)
event_told (split_piece r p c j) (better s hs) x y h g = cc (h)
event_told (split_piece r p c j) (wider s) x y h g = cc (h)
event_told (part_piece r p t) (hand b) x y h g = cc (h)
event_told (part_piece r p t) (result s q u) x y h g = cc (h)
event_told (part_piece r p t) (split_piece s q d k) x y h g = cc (h)
event_told (part_piece r p t) (better s hs) x y h g = cc (h)
event_told (part_piece r p t) (wider s) x y h g = cc (h)
event_told (better r gs) (hand b) x y h g = cc (h)
event_told (better r gs) (result s q u) x y h g = cc (h)
event_told (better r gs) (split_piece s q d k) x y h g = cc (h)
event_told (better r gs) (part_piece s q u) x y h g = cc (h)
event_told (better r gs) (wider s) x y h g = cc (h)
event_told (wider r) (hand b) x y h g = cc (h)
event_told (wider r) (result s q u) x y h g = cc (h)
event_told (wider r) (split_piece s q d k) x y h g = cc (h)
event_told (wider r) (part_piece s q u) x y h g = cc (h)
event_told (wider r) (better s hs) x y h g = cc (h)

module _ (format : Format) (counties : ℕ) where
  -- events with a text behind each
  same_event : (e f : Event) (x y : List ℕ) → HasSpelling format counties e → HasSpelling format counties f → text_of_event e ++ x ≡ text_of_event f ++ y → Same e f x y
  same_event e f x y p q h =
      let a = event_back (line_of_event e) p.line in
      let b = event_back (line_of_event f) q.line in
      let u = join_with_byte 32 (event_words (line_of_event e)) in
      let v = join_with_byte 32 (event_words (line_of_event f)) in
      let is = items_of e in
      let js = items_of f in
      let left : text_of_event e ++ x ≡ u ++ 10 ∷ (text_of_items is ++ x) = append_assoc (u ++ 10 ∷ []) (text_of_items is) x ∙ append_assoc u (10 ∷ []) (text_of_items is ++ x) in
      let right : text_of_event f ++ y ≡ v ++ 10 ∷ (text_of_items js ++ y) = append_assoc (v ++ 10 ∷ []) (text_of_items js) y ∙ append_assoc v (10 ∷ []) (text_of_items js ++ y) in
      let line = same_line u v (text_of_items is ++ x) (text_of_items js ++ y) a.printed b.printed (sym left ∙ h ∙ right) in
      let one : line_of_event e ≡ line_of_event f = same_ok (line_of_event e) (line_of_event f) (sym (a.read_as 0) ∙ ap (λ (l : List ℕ). by_words event_on (record { number = 0; bytes = l; ended = true })) line.first ∙ b.read_as 0) in
      let later = same_items (wanted_by format counties (line_of_event e)) is js x y p.items (subst (λ (l : EventLine). AllFit (wanted_by format counties l) js) (sym one) q.items) line.behind in
      record { first = event_told e f p.form q.form one later.first; behind = later.behind }

  some_text : (e : Event) (x : List ℕ) → [] ≡ text_of_event e ++ x → ⊥
  some_text e x h =
      let long = ap length h in
      absurd (omega (arith, long, length-append (event_line (line_of_event e) ++ text_of_items (items_of e)) x, length-append (event_line (line_of_event e)) (text_of_items (items_of e)), length-append (join_with_byte 32 (event_words (line_of_event e))) (10 ∷ [])))

  same_events : (es fs : List Event) → AllByRecursion (HasSpelling format counties) es → AllByRecursion (HasSpelling format counties) fs → text_of_events es ≡ text_of_events fs → es ≡ fs
  same_events [] [] p q h = refl
  same_events [] (f ∷ fs) p q h = absurd (some_text f (text_of_events fs) h)
  same_events (e ∷ es) [] p q h = absurd (some_text e (text_of_events es) (sym h))
  same_events (e ∷ es) (f ∷ fs) p q h =
      let one = same_event e f (text_of_events es) (text_of_events fs) p.0 q.0 h in
      let later = same_events es fs p.1 q.1 one.behind in
      ap (λ (l : List Event). e ∷ l) later ∙ ap (λ (k : Event). k ∷ fs) one.first

  pub one_list : (text : List ℕ) (es fs : List Event) → EventsAreSpelled format counties text es → EventsAreSpelled format counties text fs → es ≡ fs
  one_list text es fs a b = same_events es fs a.fit b.fit (sym a.text_is ∙ b.text_is)

  pub one_text : (text other : List ℕ) (es : List Event) → EventsAreSpelled format counties text es → EventsAreSpelled format counties other es → text ≡ other
  one_text text other es a b = a.text_is ∙ sym b.text_is

  all_both : (es fs : List Event) → AllByRecursion (HasSpelling format counties) es → AllByRecursion (HasSpelling format counties) fs → AllByRecursion (HasSpelling format counties) (es ++ fs)
  all_both [] fs a b = b
  all_both (e ∷ es) fs a b = (a.0, all_both es fs a.1 b)

  pub append_spelled : (text other : List ℕ) (es fs : List Event) → EventsAreSpelled format counties text es → EventsAreSpelled format counties other fs → EventsAreSpelled format counties (text ++ other) (es ++ fs)
  append_spelled text other es fs a b = record {
    fit = all_both es fs a.fit b.fit;
    text_is = ap (λ (t : List ℕ). t ++ other) a.text_is ∙ ap (λ (t : List ℕ). text_of_events es ++ t) b.text_is ∙ sym (flat_map-append text_of_event es fs);
  }

  -- one event is spelled by its text
  pub one_spelled : (e : Event) → HasSpelling format counties e → EventsAreSpelled format counties (text_of_event e) (e ∷ [])
  one_spelled e h = record { fit = (h, tt); text_is = sym (append-nil (text_of_event e)) }

  -- how many LFs stand in the text of an event
  no_lfs : (bytes : List ℕ) → AllByRecursion Printed bytes → length (filter is_lf bytes) ≡ 0
  no_lfs [] a = refl
  no_lfs (b ∷ bytes) a = rw (ne_eqb b 10 (λ e. omega (arith, e, a.0.from))) (no_lfs bytes a.1)

  line_lfs : (bytes : List ℕ) → AllByRecursion Printed bytes → length (filter is_lf (bytes ++ 10 ∷ [])) ≡ 1
  line_lfs bytes a =
      omega (arith, no_lfs bytes a, ap length (filter-append is_lf bytes (10 ∷ [])), length-append (filter is_lf bytes) (10 ∷ []))

  both_lfs : (xs ys : List ℕ) → length (filter is_lf (xs ++ ys)) ≡ length (filter is_lf xs) + length (filter is_lf ys)
  both_lfs xs ys = ap length (filter-append is_lf xs ys) ∙ length-append (filter is_lf xs) (filter is_lf ys)

  items_lfs : (wanted : List Wanted) (items : List Item) → AllFit wanted items → length (filter is_lf (text_of_items items)) ≡ length items
  items_lfs [] [] f = refl
  items_lfs [] (i ∷ is) f = absurd f
  items_lfs (w ∷ more) [] f = absurd f
  items_lfs (w ∷ more) (i ∷ is) f =
      omega (arith, both_lfs (item_line i) (text_of_items is), line_lfs (join_with_byte 32 (item_words i)) (fits_line 0 w i f.0).printed, items_lfs (wanted_after w i ++ more) is f.1)

  pub event_lfs : (e : Event) → HasSpelling format counties e → length (filter is_lf (text_of_event e)) ≡ 1 + length (items_of e)
  event_lfs e h =
      omega (arith, both_lfs (event_line (line_of_event e)) (text_of_items (items_of e)), line_lfs (join_with_byte 32 (event_words (line_of_event e))) (event_back (line_of_event e) h.line).printed, items_lfs (wanted_by format counties (line_of_event e)) (items_of e) h.items)
