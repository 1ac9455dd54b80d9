-- The lines of a certificate in front of its tree, read one after the other.
use Rattle.std.proofs.Common.{◌≡◌, ◌+◌, ◌<◌, List, [], ◌∷◌, ◌++◌, length, map, Ok, Err, refl, sym, ◌∙◌, ap, arith, append_assoc}
use Rattle.std.proofs.lemmas.List.{length-append, length-map, append-nil}
use Rattle.county_codes.specs.declared.group.Group.{Group}
use Rattle.certificate_lines.specs.declared.item.Item.{Item}
use Rattle.certificate_lines.specs.declared.item.Item.TheVariants as item
use Rattle.certificate_checker.specs.Feeding.{FeedValue}
use Rattle.certificate_checker.specs.Judging.{TookForm}
use Rattle.certificate_checker.specs.Certificates.{AreTaken}
use Rattle.certificate_checker.specs.declared.feed.Halt.{Halt}
use Rattle.certificate_checker.specs.declared.feed.Halt.TheVariants as stop
use Rattle.certificate_checker.proofs.Taken.{form_taken}

-- of these groups some were read, and the others are to come with the rest behind them
pub record GroupsLeft (groups : List Group) (rest : List Item) (read : List Group) (old now : FeedValue) : Type 0 where
  pub later : List Group
  pub all : groups ≡ read ++ later
  pub items : now.reading.items ≡ map item.Grouped later ++ rest
  pub line : now.line ≡ old.line + length read
  pub used : now.used ≡ old.used + length read

pub groups_first : (groups : List Group) (rest : List Item) (old : FeedValue) → old.reading.items ≡ map item.Grouped groups ++ rest → GroupsLeft groups rest [] old old
groups_first groups rest old items = record { later = groups; all = refl; items = items; line = omega arith; used = omega arith }

-- one more is to come
one_later : (P : Type 0) (groups : List Group) (read later : List Group) → groups ≡ read ++ later → length read < length groups → ((g : Group) (others : List Group) → later ≡ g ∷ others → P) → P
one_later P groups read [] all less k = absurd (omega (arith, less, ap length all, length-append read []))
one_later P groups read (g ∷ others) all less k = k g others refl

pub group_on : (groups : List Group) (rest : List Item) (read : List Group) (g : Group) (old now new : FeedValue) → GroupsLeft groups rest read old now → length read < length groups → TookForm item.Grouped (λ x. x) now (Ok g) new
    → GroupsLeft groups rest (read ++ g ∷ []) old new
group_on groups rest read g old now new left less took =
    one_later (GroupsLeft groups rest (read ++ g ∷ []) old new) groups read left.later left.all less
    (λ first others is.
    let e : now.reading.items ≡ item.Grouped first ∷ (map item.Grouped others ++ rest) = left.items ∙ ap (λ l. map item.Grouped l ++ rest) is in
    let t = form_taken item.Grouped (λ x. x) first (map item.Grouped others ++ rest) now new (Ok g) took e in
    let same : g ≡ first = cc (t.0) in
    record {
      later = others;
      all = left.all ∙ ap (λ l. read ++ l) (is ∙ ap (λ x. x ∷ others) (sym same)) ∙ sym (append_assoc read (g ∷ []) others);
      items = t.1;
      line = omega (arith, t.2, left.line, length-append read (g ∷ []));
      used = omega (arith, t.3, left.used, length-append read (g ∷ []));
    })

pub group_stops : {X : Type 0} (Gave : X → Type 0) (groups : List Group) (rest : List Item) (read : List Group) (old now new : FeedValue) (s : Halt) → GroupsLeft groups rest read old now → length read < length groups → now.limit ≡ old.limit
    → TookForm {Y = Group} item.Grouped (λ x. x) now (Err s) new → AreTaken Gave (map item.Grouped groups) rest old (Err s) new
group_stops Gave groups rest read old now new s left less limit took =
    one_later (AreTaken Gave (map item.Grouped groups) rest old (Err s) new) groups read left.later left.all less
    (λ first others is.
    let e : now.reading.items ≡ item.Grouped first ∷ (map item.Grouped others ++ rest) = left.items ∙ ap (λ l. map item.Grouped l ++ rest) is in
    by_stop (item.Grouped first) (map item.Grouped others ++ rest) s (form_taken {Y = Group} item.Grouped (λ x. x) first (map item.Grouped others ++ rest) now new (Err s) took e))
  where
    by_stop : (one : Item) (items : List Item) (s : Halt) → AreTaken (λ (g : Group). item.Grouped g ≡ one) (one ∷ []) items now (Err s) new → AreTaken Gave (map item.Grouped groups) rest old (Err s) new
    by_stop one items stop.Budget h = omega (arith, h, left.used, limit, less, length-map groups item.Grouped)
    by_stop one items stop.Refused h = tt
    by_stop one items stop.Unspelled h = absurd h
    by_stop one items (stop.Text fault) h = absurd h
    by_stop one items (stop.Fault fault line) h = absurd h

none_later : (read later : List Group) → length read ≡ length (read ++ later) → later ≡ []
none_later read [] same = refl
none_later read (g ∷ others) same = absurd (omega (arith, same, length-append read (g ∷ others)))

pub groups_read : {X : Type 0} (Gave : X → Type 0) (groups : List Group) (rest : List Item) (read : List Group) (x : X) (old now : FeedValue) → GroupsLeft groups rest read old now → length read ≡ length groups → (read ≡ groups → Gave x)
    → AreTaken Gave (map item.Grouped groups) rest old (Ok x) now
groups_read Gave groups rest read x old now left whole gave =
    let none = none_later read left.later (whole ∙ ap length left.all) in
    let same : groups ≡ read = left.all ∙ ap (λ l. read ++ l) none ∙ append-nil read in
    (gave (sym same), left.items ∙ ap (λ l. map item.Grouped l ++ rest) none, omega (arith, left.line, whole, length-map groups item.Grouped), omega (arith, left.used, whole, length-map groups item.Grouped))
