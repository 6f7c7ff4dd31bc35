use Rattle.std.proofs.Common.{◌≡◌, ◌+◌, ◌∷◌, ◌++◌, [], length, arith}
use Rattle.std.proofs.lemmas.List.{length_push}
use Rattle.rtrb.specs.Ring.{sent}
use Rattle.station_desk.specs.declared.messages.Ask.{Ask}
use Rattle.station_desk.specs.Messages.{AreNumberedFrom}
use Rattle.station_desk.specs.MessageLaws.{numbered-one_more}
use Rattle.station_desk.proofs.feed.Feed.submit.Goals as goal

pub invariant_of-self : goal.invariant_of-self
invariant_of-self c =
    let asked = sent c.self.inside.asks in
    let ask : Ask = record { ticket = c.self.inside.next; entry = c.args.entry } in
    let more = asked ++ ask ∷ [] in
    let count : c.self.inside.next + 1 ≡ length more =
    omega (arith, length_push asked ask, c.self.invariant.0) in
    let numbered : AreNumberedFrom 0 more =
    numbered-one_more 0 asked ask c.self.invariant.1 (omega (arith, c.self.invariant.0)) in
    rw c.in-Ok.ensures.ok.0 (count, numbered)
