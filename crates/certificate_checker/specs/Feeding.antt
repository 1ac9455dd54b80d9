-- What a checker has read, and what it has looked through.
use Rattle.std.specs.Prelude.{ℕ, ◌+◌, ◌*◌, ◌≡◌, ◌≤◌, ◌<◌, Bool, true, false, List, [], ◌∷◌, ◌++◌, length, Some, None}
use Rattle.std.specs.Prelude.{Result, Ok, Err, ⊤}
use Rattle.grouping_laws.specs.Problem.{Problem}
use Rattle.field_lines.specs.Source.{Given}
use Rattle.certificate_data.specs.Round.{Round}
use Rattle.certificate_data.specs.Tree.{Takes}
use Rattle.certificate_lines.specs.ItemReadings.{Unread, nothing, only_fault, first}
use Rattle.certificate_text.specs.Trees.{items_of_takes}
use Rattle.certificate_lines.specs.ItemsLeft.{ItemsLeft, Foresees, reading_by}
use Rattle.certificate_lines.specs.Rest.{IsUnread}
use Rattle.certificate_lines.specs.declared.fault.TextFault.{TextFault}
use Rattle.certificate_lines.specs.declared.item.Item.{Item}
use Rattle.certificate_lines.specs.declared.item.Item.TheVariants.{Mark}
use Rattle.checker_laws.specs.Fault.{Fault}
use Rattle.checker_laws.specs.End.{End, faulty}
use Rattle.checker_laws.specs.Work.{Open, WorkEnds}
use Rattle.checker_laws.specs.WorkCost.{WorkLooks}
use Rattle.state_judge.specs.CheckFaults.{fault_of}
use Rattle.certificate_checker.specs.declared.feed.Feed.{Feed}
use Rattle.certificate_checker.specs.declared.feed.Halt.{Halt}
use Rattle.certificate_checker.specs.declared.feed.Halt.TheVariants as stop

-- what is to come, how many lines were read, and how many steps may be taken and were
pub record FeedValue : Type 0 where
  pub reading : Unread
  pub line : ℕ
  pub limit : ℕ
  pub used : ℕ

-- a feed where this is to come
abbrev pub feed_at : {S : Type 0} → Unread → Feed S → FeedValue
feed_at reading feed = record { reading = reading; line = feed.line; limit = feed.steps.limit; used = feed.steps.used }

-- what is to come by the bytes that the source gives later, with the lines that were read and the steps
pub record Stream : Type 0 where
  pub left : ItemsLeft
  pub given : Given
  pub line : ℕ
  pub limit : ℕ
  pub used : ℕ

abbrev pub stream_of : {S F : Type 0} → (S → ItemsLeft) → (F → Given) → Feed S → F → Stream
stream_of left given feed from =
    record {
      left = left feed.source;
      given = given from;
      line = feed.line;
      limit = feed.steps.limit;
      used = feed.steps.used;
    }

-- the feed where the source gives this text in the end
abbrev pub fed_by : Stream → List ℕ → FeedValue
fed_by s all = record { reading = reading_by s.left s.given all; line = s.line; limit = s.limit; used = s.used }

-- Whatever text the source may give in the end, this holds of the two feeds.
abbrev pub ForEach : Stream → Stream → (FeedValue → FeedValue → Type 0) → Type 0
ForEach old new Holds = (all : List ℕ) → Foresees new.given all → Holds (fed_by old all) (fed_by new all)

-- Whatever text the source may give in the end: the source might give it before, and this holds of the two feeds.
abbrev pub FeedsThrough : Stream → Stream → (FeedValue → FeedValue → Type 0) → Type 0
FeedsThrough old new Holds =
    (all : List ℕ) → Foresees new.given all
    → Foresees old.given all × Holds (fed_by old all) (fed_by new all)

-- The limit stays, and each line is a step at least.
abbrev pub CountsSteps : {S : Type 0} → Feed S → Feed S → Type 0
CountsSteps old new =
    (new.steps.limit ≡ old.steps.limit) × (old.steps.used ≤ new.steps.used)
    × (new.line + old.steps.used ≤ new.steps.used + old.line)

-- a step was left, and was taken
abbrev pub TakesStep : {S X : Type 0} → Feed S → Result X Halt → Feed S → Type 0
TakesStep old (Ok x) new = (old.steps.used < old.steps.limit) × (new.steps.used ≡ old.steps.used + 1)
TakesStep old (Err found) new = ⊤

-- Lines were read from the one to the other, each a step at least.
pub record Fed (old new : FeedValue) : Type 0 where
  pub fault : new.reading.fault ≡ old.reading.fault
  pub limit : new.limit ≡ old.limit
  pub lines : new.line + length new.reading.items ≡ old.line + length old.reading.items
  pub later : old.line ≤ new.line
  pub counted : new.line + old.used ≤ new.used + old.line

-- The first fault of the text was met. The lines in front of it were a step each at least, and one more was left.
abbrev pub MetFault : FeedValue → TextFault → Type 0
MetFault old fault = (old.reading.fault ≡ Some fault) × (old.used + length old.reading.items < old.limit)

-- Lines were read from the one to the other, unless the text has a fault there or could not be read.
abbrev pub IsFed : {X : Type 0} → FeedValue → Result X Halt → FeedValue → Type 0
IsFed old (Ok x) new = Fed old new
IsFed old (Err (stop.Fault fault line)) new = Fed old new
IsFed old (Err stop.Unspelled) new = Fed old new
IsFed old (Err stop.Budget) new = Fed old new
IsFed old (Err (stop.Text fault)) new = MetFault old fault
IsFed old (Err stop.Refused) new = ⊤

-- As what is left ends and is looked through now, so did what was left before.
pub record Reaches (p : Problem) (round : Round) (old new : FeedValue) (before after : List Open) : Type 0 where
  pub ends : (end : End) → WorkEnds after p round (new.line + 1) end → WorkEnds before p round (old.line + 1) end
  pub looks : (n : ℕ) → WorkLooks before p round n
      → (m : ℕ) × WorkLooks after p round m × (new.used + old.line + 2 * m ≤ old.used + new.line + 2 * n)

-- The reading stopped in what is left, with the rest behind it: at its fault, or where the limit of steps is not enough
-- for it.
abbrev pub Halts : Problem → Round → FeedValue → List Open → List Item → Halt → Type 0
Halts p round old work rest (stop.Fault fault line) =
    (named : Fault) × (fault_of fault ≡ Some named) × WorkEnds work p round (old.line + 1) (faulty named line)
Halts p round old work rest stop.Unspelled = ⊥
Halts p round old work rest (stop.Text fault) = ⊥
Halts p round old work rest stop.Budget =
    (n : ℕ) → WorkLooks work p round n → old.limit + length rest ≤ old.used + length old.reading.items + 2 * n
Halts p round old work rest stop.Refused = ⊤

-- the lines of takes with their mark
abbrev pub items_to_mark : Takes → List Item
items_to_mark takes = items_of_takes takes ++ Mark ∷ []

-- A line was read; or there was none, or no step was left.
abbrev pub TookLine : FeedValue → Result Item Halt → FeedValue → Type 0
TookLine old (Ok item) new =
    (old.reading ≡ first item new.reading) × (new.line ≡ old.line + 1) × (new.used ≡ old.used + 1)
TookLine old (Err stop.Unspelled) new = old.reading ≡ nothing
TookLine old (Err stop.Budget) new = old.used ≡ old.limit
TookLine old (Err (stop.Text fault)) new = old.reading ≡ only_fault fault
TookLine old (Err (stop.Fault fault line)) new = ⊥
TookLine old (Err stop.Refused) new = ⊤

-- a fault of the source: the text could not be read, or is at fault
abbrev pub StopsAtText : TextFault → Halt → Type 0
StopsAtText fault (stop.Text same) = (same ≡ fault) × (IsUnread fault → ⊥)
StopsAtText fault stop.Refused = IsUnread fault
StopsAtText fault _ = ⊥

-- the next item is passed over: whether there was one
abbrev pub Passes : Unread → Result Bool TextFault → Unread → Type 0
Passes old (Ok true) new = (length old.items ≡ length new.items + 1) × (new.fault ≡ old.fault)
Passes old (Ok false) new = old ≡ nothing
Passes old (Err fault) new = (IsUnread fault → ⊥) → old ≡ only_fault fault

-- All lines were read: the text has no fault, or this one, and a step was left for the end or for the line at fault; or
-- there are as many lines as steps, where the end counts as one more.
abbrev pub IsRestRead : FeedValue → Result (Unit {0}) Halt → Type 0
IsRestRead old (Ok done) = (old.reading.fault ≡ None) × (old.line + length old.reading.items < old.limit)
IsRestRead old (Err (stop.Text fault)) =
    (old.reading.fault ≡ Some fault) × (old.line + length old.reading.items < old.limit)
IsRestRead old (Err stop.Budget) = old.limit ≤ old.line + length old.reading.items
IsRestRead old (Err stop.Refused) = ⊤
IsRestRead old (Err _) = ⊥
