-- A level of a parse that has no fault leaves a value of each option that is required or has a
-- default, and of another exactly where it is given.
use Rattle.std.proofs.Common.{map, ◌≡◌, ◌⊎◌, ◌∙◌, ◌&&◌, ◌||◌, ◌++◌, ◌<◌, ◌+◌, not, ℕ, Bool, cond, true, false, refl, sym, ap, subst, inl, inr, arith, List, [], ◌∷◌, length, length-append, min, Option, Some, None, nat_lt, true≢false}
use Rattle.std.specs.Prelude.{option_and_then, option_map, slice_get}
use Rattle.std.specs.List.{All, find, fold, list_any, slice_index_or}
use Rattle.std.specs.Option.{option_map_or}
use Rattle.std.specs.Str.{bytes_eq}
use Rattle.std.proofs.lemmas.Bool.{ne_eqb}
use Rattle.std.proofs.lemmas.Slice.Eq.{bytes_eq-Decides}
use Rattle.std.proofs.lemmas.List.Elements.{All-append, All-cons, All-head, All-nil, All-tail}
use Rattle.std.proofs.lemmas.List.Folds.{list_any-append}
use Rattle.clap.specs.Facts.{explicit_source, parser_of_value, unwrap_or_range}
use Rattle.clap.specs.Values.{read_as}
use Rattle.clap.specs.Kinds.{check_kinds, range_kinds, request_kinds, value_kinds, values_kinds}
use Rattle.clap.specs.Faults.{action_fault, check_fault, default_fault, defaults_fault, given_default_fault, level_fault, repeat_fault, settle_fault, use_fault, values_fault, walk_fault}
use Rattle.clap.specs.Takes.{is_given}
use Rattle.clap.specs.ValueTests.{accepts}
use Rattle.clap.specs.declared.error.kind.ErrorKind.{ErrorKind}
use Rattle.clap.specs.Walk.{Held, Row, Rule, Text, action_of, arg_by_id, at_row, count_of, default_rows, has_row, is_empty, more_values, most_values, new_count, nothing_held, reading_by, row_text, rows_after, settled, stronger, used, used_as, values_or_missing, walk, walk_from, with_count, with_default, with_values, without}
use Rattle.clap.specs.Simple.{Shape, filled}
use Rattle.clap.specs.declared.builder.action.ArgAction.{ArgAction}
use Rattle.clap.specs.declared.builder.action.ArgAction.TheVariants as action
use Rattle.clap.specs.declared.builder.value_parser.Reading.{Reading}
use Rattle.clap.specs.declared.parser.matches.ValueSource.{ValueSource}
use Rattle.clap.specs.declared.parser.matches.ValueSource.TheVariants.{CommandLine, DefaultValue}
use Rattle.clap.proofs.WalkLemmas.{both}
use Rattle.clap.proofs.SimpleLemmas.{is_false}
use Rattle.clap.proofs.ValueTestLemmas.{accepts-Accepts}
use Rattle.cli_words.specs.Options.{HasNone, HasValue, HasValueIf, HasValues, always_has_value, is_set, takes_value}
use Rattle.cli_words.proofs.KeyLemmas.{each_by_own_key, find-All, found_any, keys_differ, none_passes, same_by_key, same_bytes}
use Rattle.cli_words.proofs.WalkLemmas.{IsFoundIn, neither, settle_keeps, walk_keeps}

-- ---- rows

module _ (Q : Row → Type 0) where
  -- a change at the row of an id
  pub at_row-All : (id : Text) (change : Row → List Row) (missing rows : List Row)
      → ((r : Row) → bytes_eq r.id id ≡ true → Q r → All Q (change r)) → All Q missing → All Q rows → All Q (at_row id change missing rows)
  at_row-All id change missing [] step new all = new
  at_row-All id change missing (r ∷ rs) step new all =
      go (bytes_eq r.id id) refl (at_row-All id change missing rs step new (All-tail Q r rs all))
    where
      go : (b : Bool) → bytes_eq r.id id ≡ b → All Q (at_row id change missing rs) → All Q (cond b (change r ++ rs) (r ∷ at_row id change missing rs))
      go true e rest = All-append Q (change r) rs (step r e (All-head Q r rs all)) (All-tail Q r rs all)
      go false e rest = All-cons Q r (at_row id change missing rs) (All-head Q r rs all) rest

-- where no row has the id, the new row joins at the end
at_row-missing : (id : Text) (change : Row → List Row) (missing rows : List Row) → has_row id rows ≡ false → at_row id change missing rows ≡ rows ++ missing
at_row-missing id change missing [] e = refl
at_row-missing id change missing (r ∷ rs) e = go (bytes_eq r.id id) e (λ f. at_row-missing id change missing rs f)
  where
    go : (b : Bool) → (b || has_row id rs) ≡ false → (has_row id rs ≡ false → at_row id change missing rs ≡ rs ++ missing)
        → cond b (change r ++ rs) (r ∷ at_row id change missing rs) ≡ r ∷ (rs ++ missing)
    go true f rest = absurd (true≢false f)
    go false f rest = ap (λ xs. r ∷ xs) (rest f)

-- ---- what the rows hold of one option

-- a row has values that the option's parser takes
pub record IsFilled (a : Rule) (r : Row) : Type 0 where
  pub some : 0 < length r.values
  pub passed : values_kinds a.ignore_case (parser_of_value a.parser) r.values ≡ []
  pub reading : r.reading ≡ reading_by a
  pub default : explicit_source r.source ≡ false → r.values ≡ a.defaults

-- the option's own rows do
abbrev pub FillsOwn : Rule → Row → Type 0
FillsOwn a r = bytes_eq r.id a.id ≡ true → IsFilled a r

values_kinds-append : (i : Bool) (p : _) (xs ys : List Text) → values_kinds i p xs ≡ [] → values_kinds i p ys ≡ [] → values_kinds i p (xs ++ ys) ≡ []
values_kinds-append i p [] ys e f = f
values_kinds-append i p (x ∷ xs) ys e f =
    let parts = neither (value_kinds i p x) (values_kinds i p xs) e in
    rw (parts.0) (values_kinds-append i p xs ys parts.1 f)

from_words : (o : Option ValueSource) → explicit_source (Some (stronger o CommandLine)) ≡ true
from_words None = refl
from_words (Some DefaultValue) = refl
from_words (Some CommandLine) = refl

-- rows of the words fill themselves whatever the default is
explicit : {X : Type 0} (o : Option ValueSource) → explicit_source o ≡ true → explicit_source o ≡ false → X
explicit o is e = absurd (true≢false (sym is ∙ e))

module _ (a : Rule) where
  -- a use with these values
  own_use : (values : List Text) (rows : List Row) → 0 < length values → values_fault a values ≡ [] → All (FillsOwn a) rows
      → All (FillsOwn a) (with_values a.id (reading_by a) CommandLine values rows)
  own_use values rows some passed all = at_row-All (FillsOwn a) a.id (more_values CommandLine values) _ rows
      (λ r is q. All-cons (FillsOwn a) _ [] (λ own. let f = q own in record {
        some = omega (arith, length-append r.values values);
        passed = values_kinds-append a.ignore_case (parser_of_value a.parser) r.values values f.passed passed;
        reading = f.reading;
        default = explicit (Some (stronger r.source CommandLine)) (from_words r.source);
      }) (All-nil (FillsOwn a)))
      (All-cons (FillsOwn a) _ [] (λ own. record { some = some; passed = passed; reading = refl; default = explicit (Some CommandLine) refl }) (All-nil (FillsOwn a)))
      all

  without_own : (id : Text) (rows : List Row) → All (FillsOwn a) rows → All (FillsOwn a) (without id rows)
  without_own id rows all = at_row-All (FillsOwn a) id (λ _. []) [] rows (λ r is q. All-nil (FillsOwn a)) (All-nil (FillsOwn a)) all

  -- ---- another rule's rows

  module _ (id : Text) (other : bytes_eq id a.id ≡ false) where
    strange : (r : Row) → r.id ≡ id → All (FillsOwn a) (r ∷ [])
    strange r is = All-cons (FillsOwn a) r [] (λ own. absurd (true≢false (sym own ∙ (ap (λ (t : Text). bytes_eq t a.id) is ∙ other)))) (All-nil (FillsOwn a))

    named : (r : Row) → bytes_eq r.id id ≡ true → r.id ≡ id
    named r is = (bytes_eq-Decides r.id id).0 is

    other_values : (how : Reading) (source : ValueSource) (values : List Text) (rows : List Row) → All (FillsOwn a) rows → All (FillsOwn a) (with_values id how source values rows)
    other_values how source values rows all =
        at_row-All (FillsOwn a) id (more_values source values) _ rows (λ r is q. strange _ (named r is)) (strange _ refl) all

    other_count : (how : Reading) (source : ValueSource) (n : ℕ) (rows : List Row) → All (FillsOwn a) rows → All (FillsOwn a) (with_count id how source n rows)
    other_count how source n rows all = at_row-All (FillsOwn a) id (new_count source n) _ rows (λ r is q. strange _ (named r is)) (strange _ refl) all

    other_use : (x : ArgAction) (how : Reading) (values : List Text) (rows : List Row) → All (FillsOwn a) rows → All (FillsOwn a) (used_as x id how values rows)
    other_use action.Set how values rows all = other_values how CommandLine values (without id rows) (without_own id rows all)
    other_use action.SetTrue how values rows all = other_values how CommandLine values (without id rows) (without_own id rows all)
    other_use action.SetFalse how values rows all = other_values how CommandLine values (without id rows) (without_own id rows all)
    other_use action.Append how values rows all = other_values how CommandLine values rows all
    other_use action.Count how [] rows all = other_count how CommandLine (min (count_of id rows + 1) 255) (without id rows) (without_own id rows all)
    other_use action.Count how (v ∷ vs) rows all = other_values how CommandLine (v ∷ vs) (without id rows) (without_own id rows all)
    other_use action.Help how values rows all = all
    other_use action.HelpShort how values rows all = all
    other_use action.HelpLong how values rows all = all
    other_use action.Version how values rows all = all

-- ---- one option of a list of rules

module _ (rules : List Rule) (a : Rule) (differ : keys_differ (λ (b : Rule). b.id) rules ≡ true) (there : arg_by_id rules a.id ≡ Some a)
    (set : action_of a ≡ action.Set) (wants : nat_lt 0 (unwrap_or_range a.range).start_inclusive ≡ true) where
  only : (b : Rule) → IsFoundIn rules b → bytes_eq b.id a.id ≡ true → a ≡ b
  only b found same =
      same_by_key (λ (x : Rule). x.id) rules found.0 a b differ there found.1 ((bytes_eq-Decides b.id a.id).0 same)

  given_values : (again : Bool) (values : List Text) (rows : List Row) → use_fault again a values rows ≡ [] → All (FillsOwn a) rows
      → All (FillsOwn a) (used_as action.Set a.id (reading_by a) (values_or_missing a values) rows)
  given_values again [] rows e all =
      let range = (neither (range_kinds (unwrap_or_range a.range).start_inclusive (most_values a) 0) _ e).0 in
      let bad = rw wants at range in cc
  given_values again (v ∷ vs) rows e all =
      let act = (neither (range_kinds (unwrap_or_range a.range).start_inclusive (most_values a) (length (v ∷ vs))) _ e).1 in
      let passed : values_fault a (v ∷ vs) ≡ [] =
      (neither (repeat_fault again a.id rows) (values_fault a (v ∷ vs)) (ap (λ (x : ArgAction). action_fault x again a (v ∷ vs) rows) (sym set) ∙ act)).1 in
      own_use a (v ∷ vs) (without a.id rows) (omega arith) passed (without_own a a.id rows all)

  -- a use without a fault keeps the option's rows filled
  pub use_fills : (again : Bool) (b : Rule) (values : List Text) (rows : List Row) → IsFoundIn rules b → use_fault again b values rows ≡ []
      → All (FillsOwn a) rows → All (FillsOwn a) (used b values rows)
  use_fills again b values rows found e all = go (bytes_eq b.id a.id) refl
    where
      go : (t : Bool) → bytes_eq b.id a.id ≡ t → All (FillsOwn a) (used b values rows)
      go false is = other_use a b.id is (action_of b) (reading_by b) (values_or_missing b values) rows all
      go true is =
          let same = only b found is in
          let fault = subst (λ (y : Rule). use_fault again y values rows ≡ []) (sym same) e in
          let mine = subst (λ (x : ArgAction). All (FillsOwn a) (used_as x a.id (reading_by a) (values_or_missing a values) rows)) (sym set) (given_values again values rows fault all) in
          subst (λ (y : Rule). All (FillsOwn a) (used y values rows)) same mine

  -- ---- defaults

  new_default : (b : Rule) (values : List Text) (rows : List Row) → IsFoundIn rules b → has_row b.id rows ≡ false → values_fault b values ≡ [] → b.defaults ≡ values
      → All (FillsOwn a) rows → All (FillsOwn a) (default_rows b.id (reading_by b) values rows)
  new_default b [] rows found none passed is all = all
  new_default b (v ∷ vs) rows found none passed is all = go (bytes_eq b.id a.id) refl
    where
      go : (t : Bool) → bytes_eq b.id a.id ≡ t → All (FillsOwn a) (with_values b.id (reading_by b) DefaultValue (v ∷ vs) rows)
      go false other = other_values a b.id other (reading_by b) DefaultValue (v ∷ vs) rows all
      go true same = subst (All (FillsOwn a)) (sym (at_row-missing b.id (more_values DefaultValue (v ∷ vs)) _ rows none))
          (All-append (FillsOwn a) rows _ all (All-cons (FillsOwn a) _ [] (λ own. record {
            some = omega arith;
            passed = subst (λ (y : Rule). values_fault y (v ∷ vs) ≡ []) (sym (only b found same)) passed;
            reading = ap reading_by (sym (only b found same));
            default = λ e. sym is ∙ ap (λ (y : Rule). y.defaults) (sym (only b found same));
          }) (All-nil (FillsOwn a))))

  default_fills : (rows : List Row) (b : Rule) → IsFoundIn rules b → default_fault rows b ≡ [] → All (FillsOwn a) rows → All (FillsOwn a) (with_default rows b)
  default_fills rows b found e all = go (has_row b.id rows) refl e
    where
      passed : (values : List Text) → cond (is_empty values) [] (given_default_fault b values) ≡ [] → values_fault b values ≡ []
      passed [] f = refl
      passed (v ∷ vs) f =
          let some : is_empty (v ∷ vs) ≡ false = ne_eqb _ _ (λ z. absurd (omega (arith, z))) in
          (neither (request_kinds (action_of b)) (values_fault b (v ∷ vs)) (rw some at f)).1

      go : (t : Bool) → has_row b.id rows ≡ t → cond (t || is_empty b.defaults) [] (given_default_fault b b.defaults) ≡ []
          → All (FillsOwn a) (cond t rows (default_rows b.id (reading_by b) b.defaults rows))
      go true is f = all
      go false is f = new_default b b.defaults rows found is (passed b.defaults f) refl all

  defaults_fill : (xs : List Rule) (rows : List Row) → All (IsFoundIn rules) xs → defaults_fault rows xs ≡ [] → All (FillsOwn a) rows
      → All (FillsOwn a) (fold with_default rows xs)
  unfolding defaults_fault
  defaults_fill [] rows found e all = all
  defaults_fill (x ∷ xs) rows found e all =
      let parts = neither (default_fault rows x) (defaults_fault (with_default rows x) xs) e in
      defaults_fill xs (with_default rows x) (All-tail (IsFoundIn rules) x xs found) parts.1
      (default_fills rows x (All-head (IsFoundIn rules) x xs found) parts.0 all)

-- ---- an option with a default has a row

has_row_more : (id : Text) (xs ys : List Row) → has_row id xs ≡ true → has_row id (xs ++ ys) ≡ true
has_row_more id xs ys e = list_any-append (λ (r : Row). bytes_eq r.id id) xs ys ∙ ap (λ (t : Bool). t || has_row id ys) e

has_row_last : (id : Text) (xs : List Row) (r : Row) → bytes_eq r.id id ≡ true → has_row id (xs ++ r ∷ []) ≡ true
has_row_last id [] r e = ap (λ (t : Bool). t || false) e
has_row_last id (x ∷ xs) r e = go (bytes_eq x.id id) (has_row_last id xs r e)
  where
    go : (t : Bool) → has_row id (xs ++ r ∷ []) ≡ true → (t || has_row id (xs ++ r ∷ [])) ≡ true
    go true f = refl
    go false f = f

row_stays : (id : Text) (b : Rule) (rows : List Row) → has_row id rows ≡ true → has_row id (with_default rows b) ≡ true
row_stays id b rows e = go (has_row b.id rows) refl
  where
    more : (values : List Text) → has_row b.id rows ≡ false → has_row id (default_rows b.id (reading_by b) values rows) ≡ true
    more [] none = e
    more (v ∷ vs) none = ap (has_row id) (at_row-missing b.id (more_values DefaultValue (v ∷ vs)) _ rows none)
        ∙ has_row_more id rows _ e

    go : (t : Bool) → has_row b.id rows ≡ t → has_row id (cond t rows (default_rows b.id (reading_by b) b.defaults rows)) ≡ true
    go true is = e
    go false is = more b.defaults is

rows_stay : (id : Text) (xs : List Rule) (rows : List Row) → has_row id rows ≡ true → has_row id (fold with_default rows xs) ≡ true
rows_stay id [] rows e = e
rows_stay id (x ∷ xs) rows e = rows_stay id xs (with_default rows x) (row_stays id x rows e)

module _ (a : Rule) (has_default : is_empty a.defaults ≡ false) where
  row_made : (rows : List Row) → has_row a.id (with_default rows a) ≡ true
  row_made rows = go (has_row a.id rows) refl
    where
      more : (values : List Text) → is_empty values ≡ false → has_row a.id rows ≡ false → has_row a.id (default_rows a.id (reading_by a) values rows) ≡ true
      more [] none is = absurd (true≢false none)
      more (v ∷ vs) some is = ap (has_row a.id) (at_row-missing a.id (more_values DefaultValue (v ∷ vs)) _ rows is)
          ∙ has_row_last a.id rows _ (same_bytes a.id)

      go : (t : Bool) → has_row a.id rows ≡ t → has_row a.id (cond t rows (default_rows a.id (reading_by a) a.defaults rows)) ≡ true
      go true is = is
      go false is = more a.defaults has_default is

  rows_made : (xs : List Rule) (rows : List Row) → arg_by_id xs a.id ≡ Some a → has_row a.id (fold with_default rows xs) ≡ true
  rows_made [] rows e = cc
  rows_made (x ∷ xs) rows e = go (bytes_eq x.id a.id) e (λ f. rows_made xs (with_default rows x) f)
    where
      go : (t : Bool) → cond t (Some x) (arg_by_id xs a.id) ≡ Some a
          → (arg_by_id xs a.id ≡ Some a → has_row a.id (fold with_default (with_default rows x) xs) ≡ true)
          → has_row a.id (fold with_default (with_default rows x) xs) ≡ true
      go true f rest =
          let same : a ≡ x = cc in
          rows_stay a.id xs (with_default rows x) (subst (λ (y : Rule). has_row a.id (with_default rows y) ≡ true) same (row_made rows))
      go false f rest = rest f

-- ---- the value

accepted_by : (k : ErrorKind) (t : Bool) → cond t [] (k ∷ []) ≡ [] → t ≡ true
accepted_by k true e = refl
accepted_by k false e = cc

-- the first value of a row that is filled
read_row : (rows : List Row) (a : Rule) (r : Row) (values : List Text) → find (λ (x : Row). bytes_eq x.id a.id) rows ≡ Some r → IsFilled a r → r.values ≡ values → HasValue rows a
read_row rows a r [] found f is =
    let some = f.some in
    let none : length r.values ≡ 0 = ap length is in
    absurd (omega arith)
read_row rows a r (v ∷ vs) found f is = record {
  text = v;
  first = ap (option_and_then (λ (x : Row). slice_get x.values 0)) found ∙ ap (λ (xs : List Text). slice_get xs 0) is;
  read = ap (option_and_then row_text) found ∙ (ap (λ (how : Reading). option_map (read_as how) (slice_get r.values 0)) f.reading
      ∙ ap (λ (xs : List Text). option_map (read_as (reading_by a)) (slice_get xs 0)) is);
  accepted = accepts-Accepts a.ignore_case (parser_of_value a.parser) v (accepted_by _ (accepts a.ignore_case (parser_of_value a.parser) v)
      (neither (value_kinds a.ignore_case (parser_of_value a.parser) v) _ (ap (values_kinds a.ignore_case (parser_of_value a.parser)) (sym is) ∙ f.passed)).0);
  default = λ e. ap (λ (xs : List Text). slice_get xs 0) (sym (f.default (sym (ap (λ (o : Option Row). option_map_or (λ x. explicit_source x.source) o false) found) ∙ e)) ∙ is);
}

-- an option whose rows are filled, at the row that it has
own_value : (rows : List Row) (a : Rule) (r : Row) → All (FillsOwn a) rows → find (λ (x : Row). bytes_eq x.id a.id) rows ≡ Some r → HasValue rows a
own_value rows a r all found =
    let own = find-All (FillsOwn a) (λ (x : Row). bytes_eq x.id a.id) rows r all found in
    read_row rows a r r.values found (own.1 own.0) refl

-- where the words give it or it has a default, it has one
has_value : (rows : List Row) (a : Rule) → All (FillsOwn a) rows → (is_given a.id rows ≡ true) ⊎ (has_row a.id rows ≡ true) → HasValue rows a
has_value rows a all (inr some) =
    let found = found_any (λ (r : Row). bytes_eq r.id a.id) rows some in
    own_value rows a found.0 all found.1
has_value rows a all (inl given) = go (find (λ (r : Row). bytes_eq r.id a.id) rows) refl given
  where
    go : (o : Option Row) → find (λ (r : Row). bytes_eq r.id a.id) rows ≡ o → option_map_or (λ (r : Row). explicit_source r.source) o false ≡ true → HasValue rows a
    go None is g = absurd (true≢false (sym g))
    go (Some r) is g = own_value rows a r all is

no_check : (help subcommand argument : Bool) → check_kinds help subcommand argument ≡ [] → argument ≡ false
no_check true s a e = cc
no_check false true a e = cc
no_check false false true e = cc
no_check false false false e = refl

is_set-Set : (x : ArgAction) → is_set x ≡ true → x ≡ action.Set
is_set-Set action.Set e = refl
is_set-Set action.Append e = absurd (true≢false (sym e))
is_set-Set action.SetTrue e = absurd (true≢false (sym e))
is_set-Set action.SetFalse e = absurd (true≢false (sym e))
is_set-Set action.Count e = absurd (true≢false (sym e))
is_set-Set action.Help e = absurd (true≢false (sym e))
is_set-Set action.HelpShort e = absurd (true≢false (sym e))
is_set-Set action.HelpLong e = absurd (true≢false (sym e))
is_set-Set action.Version e = absurd (true≢false (sym e))

leaf_wants : (negates missing : Bool) → (not (negates && false) && missing) ≡ false → missing ≡ false
leaf_wants true missing e = e
leaf_wants false missing e = e

given_too : (r g : Bool) → r ≡ true → (r && not g) ≡ false → g ≡ true
given_too true true is e = refl
given_too true false is e = absurd (true≢false e)
given_too false g is e = absurd (true≢false (sym is))

module _ (s : Shape) (words : List Text) (a : Rule) (e : level_fault s [] nothing_held words false [] ≡ []) (differ : keys_differ (λ (b : Rule). b.id) s.rules ≡ true)
    (there : arg_by_id s.rules a.id ≡ Some a) (takes : takes_value a ≡ true) where
  takes_one : (action_of a ≡ action.Set) × (nat_lt 0 (unwrap_or_range a.range).start_inclusive ≡ true)
  takes_one =
      let parts = both _ _ takes in
      (is_set-Set (action_of a) parts.0, parts.1)

  end : Held
  end = (walk s.rules [] nothing_held words).held

  rows_filled : All (FillsOwn a) (rows_after s.rules [] words) × (check_fault s (rows_after s.rules [] words) false ≡ [])
  unfolding end
  rows_filled =
      let again = s.args_override_self in
      let walked_well = neither (walk_fault s [] (walk_from nothing_held) words) _ e in
      let settled_well = neither (settle_fault s.rules again end) _ walked_well.1 in
      let filled_well = neither (defaults_fault (settled s.rules end).rows s.rules) _ settled_well.1 in
      let fills = use_fills s.rules a differ there takes_one.0 takes_one.1 again in
      let of_words = walk_keeps s [] (All (FillsOwn a)) fills (walk_from nothing_held) words walked_well.0 (All-nil (FillsOwn a)) in
      let of_pending = settle_keeps s.rules again (All (FillsOwn a)) fills end settled_well.0 of_words in
      let each : All (IsFoundIn s.rules) s.rules = λ k d lt. (_, each_by_own_key (λ (b : Rule). b.id) s.rules differ k d lt) in
      (defaults_fill s.rules a differ there takes_one.0 takes_one.1 s.rules (settled s.rules end).rows each filled_well.0 of_pending, filled_well.1)

  required_given : a.required ≡ true → is_given a.id (rows_after s.rules [] words) ≡ true
  required_given is =
      let rows = rows_after s.rules [] words in
      let missing : list_any (λ (x : Rule). x.required && not (is_given x.id rows)) s.rules ≡ false =
      leaf_wants s.subcommand_negates_reqs _ (no_check _ _ _ rows_filled.1) in
      given_too a.required (is_given a.id rows) is (none_passes (λ (x : Rule). x.required && not (is_given x.id rows)) _ s.rules a missing there)

  always_value : always_has_value a ≡ true → HasValue (rows_after s.rules [] words) a
  always_value has = has_value (rows_after s.rules [] words) a rows_filled.0 (go a.required refl has)
    where
      go : (b : Bool) → a.required ≡ b → (b || not (is_empty a.defaults)) ≡ true
          → (is_given a.id (rows_after s.rules [] words) ≡ true) ⊎ (has_row a.id (rows_after s.rules [] words) ≡ true)
      go true is f = inl (required_given is)
      go false is f = inr (rows_made a (is_false (is_empty a.defaults) f) s.rules (settled s.rules (walk s.rules [] nothing_held words).held).rows there)

  -- a level without a fault, below which none stands, has a value of each such option, or rightly none
  pub level_value : HasValue (rows_after s.rules [] words) a ⊎ HasNone (rows_after s.rules [] words) a
  level_value = go (always_has_value a) refl (find (λ (r : Row). bytes_eq r.id a.id) (rows_after s.rules [] words)) refl
    where
      go : (b : Bool) → always_has_value a ≡ b → (o : Option Row) → find (λ (r : Row). bytes_eq r.id a.id) (rows_after s.rules [] words) ≡ o
          → HasValue (rows_after s.rules [] words) a ⊎ HasNone (rows_after s.rules [] words) a
      go true is o found = inl (always_value is)
      go false is (Some r) found = inl (own_value (rows_after s.rules [] words) a r rows_filled.0 found)
      go false is None found = inr (record {
        optional = is;
        absent = ap (λ (o : Option Row). option_map_or (λ x. explicit_source x.source) o false) found;
        none = ap (option_and_then (λ (x : Row). slice_get x.values 0)) found;
      })

-- an option that is required or has a default has a value
surely : (rows : List Row) (a : Rule) → always_has_value a ≡ true → HasValue rows a ⊎ HasNone rows a → HasValue rows a
surely rows a always (inl h) = h
surely rows a always (inr h) = absurd (true≢false (sym always ∙ h.optional))

-- an option that takes a value has its own, or rightly none
abbrev HasIfTaken : List Row → Rule → Type 0
HasIfTaken rows a = takes_value a ≡ true → HasValue rows a ⊎ HasNone rows a

has_value_if : (rows : List Row) (a : Rule) → HasIfTaken rows a → (takes always : Bool) → takes_value a ≡ takes → always_has_value a ≡ always → HasValueIf takes always rows a
has_value_if rows a h false always takes is = tt
has_value_if rows a h true true takes is = surely rows a is (h takes)
has_value_if rows a h true false takes is = h takes

in_front : (rows : List Row) (options rest : List Rule) → All (HasIfTaken rows) (map filled options ++ rest) → HasValues options rows
in_front rows [] rest all = tt
in_front rows (x ∷ xs) rest all = (
  has_value_if rows (filled x) (All-head (HasIfTaken rows) _ _ all) _ _ refl refl,
  in_front rows xs rest (All-tail (HasIfTaken rows) _ _ all),
)

-- so it has the values of the options that clap completes in its first places
pub level_values : (s : Shape) (words : List Text) (options rest : List Rule) → level_fault s [] nothing_held words false [] ≡ [] → keys_differ (λ (b : Rule). b.id) s.rules ≡ true
    → s.rules ≡ map filled options ++ rest → HasValues options (rows_after s.rules [] words)
level_values s words options rest e differ is =
    let rows = rows_after s.rules [] words in
    let each : All (HasIfTaken rows) s.rules =
    λ k d lt. level_value s words (slice_index_or s.rules k d) e differ (each_by_own_key (λ (b : Rule). b.id) s.rules differ k d lt) in
    in_front rows options rest (subst (All (HasIfTaken rows)) is each)
