-- The target of a certificate, and its round, read one line after the other.
use Rattle.std.proofs.Common.{◌≡◌, ℕ, List, [], ◌∷◌, ◌++◌, length, map, Option, Some, None, Result, Ok, sym, ◌∙◌, ap}
use Rattle.county_codes.specs.declared.group.Group.{Group}
use Rattle.county_codes.specs.declared.tolerance.Tolerance.{Tolerance}
use Rattle.certificate_data.specs.declared.format.Format.{Format}
use Rattle.grouping_laws.specs.Grouping.{Grouping}
use Rattle.certificate_data.specs.Round.{Round}
use Rattle.certificate_lines.specs.declared.item.Item.{Item}
use Rattle.certificate_lines.specs.declared.item.Item.TheVariants as item
use Rattle.certificate_data.specs.TreeValue.{Certificate}
use Rattle.certificate_text.specs.Trees.{items_of_head, items_of_target, items_of_tree}
use Rattle.certificate_checker.specs.Feeding.{FeedValue}
use Rattle.certificate_checker.specs.Judging.{TookForm}
use Rattle.certificate_checker.specs.Certificates.{AreTaken, round_items}
use Rattle.certificate_checker.specs.declared.feed.Halt.{Halt}
use Rattle.certificate_checker.proofs.Taken.{form_taken, taken_then, gave_more}

-- the first line of a target was read, and then its groups
module _ {V : Type 0} (view : V → List Group) (count : ℕ) (old mid new : FeedValue) (took : TookForm {Y = Option ℕ} item.Target (λ n. n) old (Ok (Some count)) mid) (limit : mid.limit ≡ old.limit) (r : Result V Halt) where
  pub target_then : ((groups : List Group) (rest : List Item) → length groups ≡ count → mid.reading.items ≡ map item.Grouped groups ++ rest → AreTaken (λ v. view v ≡ groups) (map item.Grouped groups) rest mid r new)
      → (target : Option Grouping) (rest : List Item) → old.reading.items ≡ items_of_target target ++ rest → AreTaken (λ v. Some (view v) ≡ target) (items_of_target target) rest old r new
  target_then h None rest items =
      let e : item.Target (Some count) ∷ mid.reading.items ≡ item.Target None ∷ rest = sym (ap (λ c. c.items) took.0) ∙ items in
      cc
  target_then h (Some groups) rest items =
      let Whole : Option ℕ → Type 0 = λ n. item.Target n ≡ item.Target (Some (length groups)) in
      let t = form_taken item.Target (λ (n : Option ℕ). n) (Some (length groups)) (map item.Grouped groups ++ rest) old mid (Ok (Some count)) took items in
      let same : length groups ≡ count = cc (t.0) in
      taken_then Whole (λ v. Some (view v) ≡ Some groups) (item.Target (Some (length groups)) ∷ []) (map item.Grouped groups) (map item.Grouped groups ++ rest) rest old mid new (Some count) r t limit
      (gave_more (λ v. view v ≡ groups) (λ v. Some (view v) ≡ Some groups) (map item.Grouped groups) rest mid new r (λ v e. ap (λ (l : List Group). Some l) e) (h groups rest same t.1))

-- a round by its parts
abbrev pub round_with : List ℕ → ℕ → Option Grouping → Format → Option Tolerance → Round
round_with order limit target format tolerance = record { order = order; limit = limit; target = target; format = format; tolerance = tolerance }

pub round_same : (r : Round) (order : List ℕ) (limit : ℕ) (target : Option Grouping) (format : Format) (tolerance : Option Tolerance) → order ≡ r.order → limit ≡ r.limit → target ≡ r.target → format ≡ r.format → tolerance ≡ r.tolerance
    → round_with order limit target format tolerance ≡ r
round_same r order limit target format tolerance o l t g w =
    ap (λ x. round_with x limit target format tolerance) o ∙ ap (λ x. round_with r.order x target format tolerance) l ∙ ap (λ x. round_with r.order r.limit x format tolerance) t
    ∙ ap (λ x. round_with r.order r.limit r.target x tolerance) g ∙ ap (λ x. round_with r.order r.limit r.target r.format x) w

-- the head of a certificate was given
abbrev pub IsHeadOf : Certificate → Format × Option Tolerance → Type 0
IsHeadOf c h = (h.0 ≡ c.round.format) × (h.1 ≡ c.round.tolerance)

-- the items behind a round
abbrev pub tree_behind : Certificate → List Item
tree_behind c = items_of_tree c.tree ++ item.End ∷ []

-- the lines in front of a target were read
module _ (c : Certificate) (old first second third new : FeedValue) (head : Format × Option Tolerance) (order : List ℕ) (limit : ℕ)
    (read : AreTaken (IsHeadOf c) (items_of_head c.round.format c.round.tolerance) (item.Order c.round.order ∷ item.Limit c.round.limit ∷ (items_of_target c.round.target ++ tree_behind c)) old (Ok head) first)
    (order_took : TookForm {Y = List ℕ} item.Order (λ o. o) first (Ok order) second) (limit_took : TookForm {Y = ℕ} item.Limit (λ n. n) second (Ok limit) third)
    (same : (first.limit ≡ old.limit) × (second.limit ≡ first.limit) × (third.limit ≡ second.limit)) where
  ordered : AreTaken (λ (o : List ℕ). item.Order o ≡ item.Order c.round.order) (item.Order c.round.order ∷ []) (item.Limit c.round.limit ∷ (items_of_target c.round.target ++ tree_behind c)) first (Ok order) second
  ordered = form_taken item.Order (λ (o : List ℕ). o) c.round.order (item.Limit c.round.limit ∷ (items_of_target c.round.target ++ tree_behind c)) first second (Ok order) order_took read.1

  limited : AreTaken (λ (n : ℕ). item.Limit n ≡ item.Limit c.round.limit) (item.Limit c.round.limit ∷ []) (items_of_target c.round.target ++ tree_behind c) second (Ok limit) third
  limited = form_taken item.Limit (λ (n : ℕ). n) c.round.limit (items_of_target c.round.target ++ tree_behind c) second third (Ok limit) limit_took ordered.1

  target_next : third.reading.items ≡ items_of_target c.round.target ++ tree_behind c
  target_next = limited.1

  pub round_then : {T : Type 0} (Gave : T → Type 0) (r : Result T Halt) → (third.reading.items ≡ items_of_target c.round.target ++ tree_behind c → AreTaken Gave (items_of_target c.round.target) (tree_behind c) third r new) → AreTaken Gave (round_items c) (tree_behind c) old r new
  round_then Gave r reads =
      taken_then (IsHeadOf c) Gave (items_of_head c.round.format c.round.tolerance) (item.Order c.round.order ∷ item.Limit c.round.limit ∷ items_of_target c.round.target)
      (item.Order c.round.order ∷ item.Limit c.round.limit ∷ (items_of_target c.round.target ++ tree_behind c)) (tree_behind c) old first new head r read same.0
      (taken_then (λ (o : List ℕ). item.Order o ≡ item.Order c.round.order) Gave (item.Order c.round.order ∷ []) (item.Limit c.round.limit ∷ items_of_target c.round.target)
      (item.Limit c.round.limit ∷ (items_of_target c.round.target ++ tree_behind c)) (tree_behind c) first second new order r ordered same.1
      (taken_then (λ (n : ℕ). item.Limit n ≡ item.Limit c.round.limit) Gave (item.Limit c.round.limit ∷ []) (items_of_target c.round.target)
      (items_of_target c.round.target ++ tree_behind c) (tree_behind c) second third new limit r limited same.2 (reads target_next)))

  pub round_is : (target : Option Grouping) → target ≡ c.round.target → round_with order limit target head.0 head.1 ≡ c.round
  round_is target is =
      let o : order ≡ c.round.order = cc (ordered.0) in
      let l : limit ≡ c.round.limit = cc (limited.0) in
      round_same c.round order limit target head.0 head.1 o l is read.0.0 read.0.1
