-- The pairs so far are reconciled, and those that are left are pairs.
use Rattle.std.proofs.Common.{◌≡◌, ◌++◌, map}
use Rattle.std.specs.List.{AllZip}
use Rattle.station_desk.specs.Rings.{AreTogether}
use Rattle.office_day.specs.Day.{IsReconciled}
use Rattle.office_day.proofs.reconciled.all_reconciled.Given as goal

abbrev pub invariant-loop-feed : goal.invariant-loop-feed
invariant-loop-feed l = record {
  done : AllZip (λ pair day. IsReconciled pair.0 pair.1 day) l.yielded l.days.items;
  feeds : map (λ pair. pair.0) l.yielded ++ l.feed-iterator.a.rest.items ≡ l.fn.feeds.items;
  left : map (λ pair. pair.1) l.yielded ++ l.feed-iterator.b.rest.items ≡ l.fn.left.items;
  together : AllZip (λ feed part. AreTogether feed part.desk) l.feed-iterator.a.rest.items
      l.feed-iterator.b.rest.items;
}
