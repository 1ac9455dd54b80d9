use Rattle.std.proofs.Common.{◌≡◌, ◌+◌, ◌-◌, length}
use Rattle.certificate_checker.specs.Feeding.{stream_of, FeedsThrough}
use Rattle.certificate_checker.proofs.feed.read_rest.Given as goal

abbrev pub invariant-loop-feed : goal.invariant-loop-feed
invariant-loop-feed g l = record {
  limit : l.feed.steps.limit ≡ l.fn.feed.steps.limit;
  read : FeedsThrough (stream_of g.S.ItemSource.left g.S.ItemSource.given l.fn.feed l.fn.from) (stream_of g.S.ItemSource.left g.S.ItemSource.given l.feed l.from) (λ a b. (b.reading.fault ≡ a.reading.fault) × (b.line + length b.reading.items ≡ a.line + length a.reading.items));
}

abbrev pub decreases-loop-feed : goal.decreases-loop-feed
decreases-loop-feed g l = l.limit - l.feed.line
