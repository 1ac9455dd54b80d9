-- Steps from one place of the text to a later one.
use Rattle.std.proofs.Common.{◌≤◌, List, length, Result, Ok, Err, refl, sym, ◌∙◌, arith}
use Rattle.grouping_laws.specs.Problem.{Problem}
use Rattle.certificate_data.specs.Round.{Round}
use Rattle.certificate_lines.specs.declared.fault.TextFault.{TextFault}
use Rattle.certificate_lines.specs.declared.item.Item.{Item}
use Rattle.checker_laws.specs.Work.{Open}
use Rattle.certificate_checker.specs.Feeding.{FeedValue, CountsSteps, Fed, MetFault, IsFed, Reaches, Halts}
use Rattle.certificate_checker.specs.declared.feed.Feed.{Feed}
use Rattle.certificate_checker.specs.declared.feed.Halt.{Halt}
use Rattle.certificate_checker.specs.declared.feed.Halt.TheVariants as stop

pub fed_twice : (a b c : FeedValue) → Fed a b → Fed b c → Fed a c
fed_twice a b c h k = record {
  fault = k.fault ∙ h.fault;
  limit = k.limit ∙ h.limit;
  lines = k.lines ∙ h.lines;
  later = omega (arith, h.later, k.later);
  counted = omega (arith, h.counted, k.counted);
}

-- nothing was read yet
pub fed_here : (a : FeedValue) → Fed a a
fed_here a = record {
  fault = refl;
  limit = refl;
  lines = refl;
  later = omega arith;
  counted = omega arith;
}

pub reaches_here : (p : Problem) (round : Round) (a : FeedValue) (w : List Open) → Reaches p round a a w w
reaches_here p round a w = record { ends = λ end e. e; looks = λ n l. (n, l, omega arith) }

-- a fault that was met from a later place on was met from the first
met_later : (a b : FeedValue) (fault : TextFault) → Fed a b → MetFault b fault → MetFault a fault
met_later a b fault h k = (sym h.fault ∙ k.0, omega (arith, h.limit, h.lines, h.counted, k.1))

-- what was read from a later place on was read from the first
pub fed_through : {X : Type 0} (a b c : FeedValue) (r : Result X Halt) → Fed a b → IsFed b r c → IsFed a r c
fed_through a b c (Ok x) h k = fed_twice a b c h k
fed_through a b c (Err (stop.Fault fault line)) h k = fed_twice a b c h k
fed_through a b c (Err stop.Unspelled) h k = fed_twice a b c h k
fed_through a b c (Err stop.Budget) h k = fed_twice a b c h k
fed_through a b c (Err (stop.Text fault)) h k = met_later a b fault h k
fed_through a b c (Err stop.Refused) h k = tt

-- the same where the reading stopped, whatever it should have given
pub fed_off : (X Y : Type 0) (a b c : FeedValue) (st : Halt) → Fed a b → IsFed {X = X} b (Err st) c → IsFed {X = Y} a (Err st) c
fed_off X Y a b c (stop.Fault fault line) h k = fed_twice a b c h k
fed_off X Y a b c stop.Unspelled h k = fed_twice a b c h k
fed_off X Y a b c stop.Budget h k = fed_twice a b c h k
fed_off X Y a b c (stop.Text fault) h k = met_later a b fault h k
fed_off X Y a b c stop.Refused h k = tt

-- steps are counted on
pub counts_here : {S : Type 0} (a : Feed S) → CountsSteps a a
counts_here a = (refl, omega arith, omega arith)

pub counts_on : {S : Type 0} (a b c : Feed S) → CountsSteps a b → CountsSteps b c → CountsSteps a c
counts_on a b c h k = (k.0 ∙ h.0, omega (arith, h.1, k.1), omega (arith, h.2, k.2))

pub reaches_twice : (p : Problem) (round : Round) (a b c : FeedValue) (u v w : List Open) → Reaches p round a b u v → Reaches p round b c v w → Reaches p round a c u w
reaches_twice p round a b c u v w h k = record {
  ends = λ end e. h.ends end (k.ends end e);
  looks = λ n l.
      let x = h.looks n l in
      let y = k.looks x.0 x.1 in
      (y.0, y.1, omega (arith, x.2, y.2));
}

pub halts_back : (p : Problem) (round : Round) (a b : FeedValue) (u v : List Open) (rest more : List Item) (s : Halt) → Reaches p round a b u v → Fed a b → length rest ≤ length more → Halts p round b v more s → Halts p round a u rest s
halts_back p round a b u v rest more (stop.Fault fault line) r f few h = (h.0, h.1, r.ends _ h.2)
halts_back p round a b u v rest more (stop.Text fault) r f few h = h
halts_back p round a b u v rest more stop.Unspelled r f few h = h
halts_back p round a b u v rest more stop.Budget r f few h = λ n l.
    let x = r.looks n l in
    omega (arith, x.2, h x.0 x.1, f.limit, f.lines, few)
halts_back p round a b u v rest more stop.Refused r f few h = tt
