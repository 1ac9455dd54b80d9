-- The head of a certificate, and the tolerance behind it, read one after the other.
use Rattle.std.proofs.Common.{◌≡◌, List, [], ◌∷◌, ◌++◌, Option, Some, None, Err}
use Rattle.county_codes.specs.declared.tolerance.Tolerance.{Tolerance}
use Rattle.certificate_data.specs.declared.format.Format.{Format}
use Rattle.certificate_lines.specs.declared.item.Version.{Version}
use Rattle.certificate_lines.specs.declared.item.Version.TheVariants.{One, Two}
use Rattle.certificate_lines.specs.declared.item.Item.{Item}
use Rattle.certificate_lines.specs.declared.item.Item.TheVariants as item
use Rattle.certificate_text.specs.Trees.{items_of_head}
use Rattle.certificate_checker.specs.Feeding.{FeedValue}
use Rattle.certificate_checker.specs.Judging.{TookForm}
use Rattle.certificate_checker.specs.Certificates.{AreTaken}
use Rattle.certificate_checker.specs.declared.feed.Halt.{Halt}
use Rattle.certificate_checker.specs.declared.feed.Halt.TheVariants as stop
use Rattle.certificate_checker.proofs.Taken.{form_taken, taken_stop}

-- where the reading stopped, it is no matter what it should have given
stops_alike : {X Y : Type 0} (Gave : X → Type 0) (Other : Y → Type 0) (xs rest : List Item) (old new : FeedValue) (s : Halt) → AreTaken Gave xs rest old (Err s) new → AreTaken Other xs rest old (Err s) new
stops_alike Gave Other xs rest old new stop.Budget h = h
stops_alike Gave Other xs rest old new stop.Refused h = h
stops_alike Gave Other xs rest old new stop.Unspelled h = h
stops_alike Gave Other xs rest old new (stop.Text fault) h = h
stops_alike Gave Other xs rest old new (stop.Fault fault line) h = h

abbrev head : Format × Version → Item
head h = item.Head h.0 h.1

-- the reading stopped at the head
pub head_stops : {X : Type 0} (Gave : X → Type 0) (format : Format) (tolerance : Option Tolerance) (rest : List Item) (old new : FeedValue) (s : Halt) → TookForm {Y = Format × Version} head (λ h. h) old (Err s) new
    → old.reading.items ≡ items_of_head format tolerance ++ rest → AreTaken Gave (items_of_head format tolerance) rest old (Err s) new
head_stops Gave format None rest old new s took items =
    stops_alike (λ h. head h ≡ head (format, One)) Gave (item.Head format One ∷ []) rest old new s (form_taken head (λ h. h) (format, One) rest old new (Err s) took items)
head_stops Gave format (Some tolerance) rest old new s took items =
    taken_stop (λ h. head h ≡ head (format, Two)) Gave (item.Head format Two ∷ []) (item.Within tolerance ∷ []) (item.Within tolerance ∷ rest) rest old new s
    (form_taken head (λ h. h) (format, Two) (item.Within tolerance ∷ rest) old new (Err s) took items)
