-- Lines of the forms that are next, read one after the other.
use Rattle.std.proofs.Common.{◌≡◌, List, [], ◌∷◌, ◌++◌, Result, Ok, Err, sym, ◌∙◌, ap, arith}
use Rattle.std.proofs.lemmas.List.{length-append}
use Rattle.certificate_lines.specs.declared.item.Item.{Item}
use Rattle.certificate_checker.specs.Feeding.{FeedValue}
use Rattle.certificate_checker.specs.Judging.{TookForm}
use Rattle.certificate_checker.specs.Certificates.{AreTaken}
use Rattle.certificate_checker.specs.declared.feed.Halt.{Halt}
use Rattle.certificate_checker.specs.declared.feed.Halt.TheVariants as stop

-- a line of one form, which is next
pub form_taken : {X Y : Type 0} (wrap : X → Item) (view : Y → X) (x : X) (xs : List Item) (old new : FeedValue) (r : Result Y Halt) → TookForm wrap view old r new → old.reading.items ≡ wrap x ∷ xs
    → AreTaken (λ y. wrap (view y) ≡ wrap x) (wrap x ∷ []) xs old r new
form_taken wrap view x xs old new (Ok y) took items =
    let e : wrap (view y) ∷ new.reading.items ≡ wrap x ∷ xs = sym (ap (λ c. c.items) took.0) ∙ items in
    (cc, cc, took.1, took.2)
form_taken wrap view x xs old new (Err stop.Unspelled) took items = absurd (took x xs items)
form_taken wrap view x xs old new (Err stop.Budget) took items = omega (arith, took)
form_taken wrap view x xs old new (Err (stop.Text fault)) took items = cc (ap (λ c. c.items) took, items)
form_taken wrap view x xs old new (Err (stop.Fault fault line)) took items = absurd took
form_taken wrap view x xs old new (Err stop.Refused) took items = tt

-- items that were read, and then others
pub taken_then : {X Y : Type 0} (First : X → Type 0) (Second : Y → Type 0) (xs ys middle rest : List Item) (old mid new : FeedValue) (x : X) (r : Result Y Halt) → AreTaken First xs middle old (Ok x) mid → mid.limit ≡ old.limit → AreTaken Second ys rest mid r new
    → AreTaken Second (xs ++ ys) rest old r new
taken_then First Second xs ys middle rest old mid new x (Ok y) h limit k = (k.0, k.1, omega (arith, length-append xs ys, h.2, k.2), omega (arith, length-append xs ys, h.3, k.3))
taken_then First Second xs ys middle rest old mid new x (Err stop.Budget) h limit k = omega (arith, length-append xs ys, h.3, k, limit)
taken_then First Second xs ys middle rest old mid new x (Err stop.Refused) h limit k = tt
taken_then First Second xs ys middle rest old mid new x (Err stop.Unspelled) h limit k = absurd k
taken_then First Second xs ys middle rest old mid new x (Err (stop.Text fault)) h limit k = absurd k
taken_then First Second xs ys middle rest old mid new x (Err (stop.Fault fault line)) h limit k = absurd k

-- the reading stopped in the first of them
pub taken_stop : {X Y : Type 0} (First : X → Type 0) (Second : Y → Type 0) (xs ys middle rest : List Item) (old new : FeedValue) (s : Halt) → AreTaken First xs middle old (Err s) new → AreTaken Second (xs ++ ys) rest old (Err s) new
taken_stop First Second xs ys middle rest old new stop.Budget h = omega (arith, length-append xs ys, h)
taken_stop First Second xs ys middle rest old new stop.Refused h = tt
taken_stop First Second xs ys middle rest old new stop.Unspelled h = absurd h
taken_stop First Second xs ys middle rest old new (stop.Text fault) h = absurd h
taken_stop First Second xs ys middle rest old new (stop.Fault fault line) h = absurd h

-- what was given says more
pub gave_more : {X : Type 0} (First Second : X → Type 0) (xs rest : List Item) (old new : FeedValue) (r : Result X Halt) → ((x : X) → First x → Second x) → AreTaken First xs rest old r new → AreTaken Second xs rest old r new
gave_more First Second xs rest old new (Ok x) more h = (more x h.0, h.1, h.2, h.3)
gave_more First Second xs rest old new (Err stop.Budget) more h = h
gave_more First Second xs rest old new (Err stop.Refused) more h = tt
gave_more First Second xs rest old new (Err stop.Unspelled) more h = absurd h
gave_more First Second xs rest old new (Err (stop.Text fault)) more h = absurd h
gave_more First Second xs rest old new (Err (stop.Fault fault line)) more h = absurd h
