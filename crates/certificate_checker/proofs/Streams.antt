-- Feeds by the text that the source gives in the end.
use Rattle.std.proofs.Common.{◌≡◌, ℕ, List, [], refl, sym, subst}
use Rattle.field_lines.specs.Source.{Given, nothing_comes}
use Rattle.certificate_lines.specs.ItemReadings.{Unread}
use Rattle.certificate_lines.specs.ItemsLeft.{ItemsLeft, in_memory, reading_by, Through as ItemsThrough}
use Rattle.certificate_checker.specs.Feeding.{FeedValue, feed_at}
use Rattle.certificate_checker.specs.declared.feed.Feed.{Feed}

-- where the source stays, what is to come stays
module _ {S : Type 0} (left : S → ItemsLeft) (given : Given) (all : List ℕ) (old new : Feed S) (same : new.source ≡ old.source) where
  pub kept_reading : (Holds : FeedValue → FeedValue → Type 0) → ((reading : Unread) → Holds (feed_at reading old) (feed_at reading new))
      → Holds (feed_at (reading_by (left old.source) given all) old) (feed_at (reading_by (left new.source) given all) new)
  kept_reading Holds h =
      subst (λ (s : S). Holds (feed_at (reading_by (left old.source) given all) old) (feed_at (reading_by (left s) given all) new)) (sym same) (h (reading_by (left old.source) given all))

-- of a text in memory
pub at_once : (old new : Unread) (Holds : Unread → Unread → Type 0) → ItemsThrough (in_memory old) nothing_comes (in_memory new) nothing_comes Holds → Holds old new
at_once old new Holds h = (h [] (record { later = []; text = refl; may = λ ended. refl })).1
