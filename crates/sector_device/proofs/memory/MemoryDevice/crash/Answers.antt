use Rattle.std.proofs.Common.{◌<◌, ℕ, List, length, ap, arith, [], ◌∷◌, get_or, reverse, sym, ◌∙◌}
use Rattle.std.proofs.Common.{subst}
use Rattle.std.proofs.lemmas.List.{take_more}
use Rattle.sector_device.specs.Memory.{IsPending}
use Rattle.sector_device.specs.MemoryDevice.{IsPendingIn}
use Rattle.sector_device.specs.Picks.{TakesPicks}
use Rattle.sector_device.proofs.Loss.{settled_durable}
use Rattle.sector_device.proofs.Power.{more_picks}
use Rattle.sector_device.proofs.memory.MemoryDevice.crash.Goals as goal

pub loop-pick-preserved : goal.loop-pick-preserved
loop-pick-preserved c =
    let before = c.args.self.sectors.items in
    let mid = c.loop-pick.self.sectors.items in
    let after = c.take_pick.new.self.sectors.items in
    let list = c.args.picks.now.list.items in
    let same = c.deref-pick-items.ensures.value in
    let inside : c.loop-pick.pick-index < length list =
    omega (arith, ap length same, c.loop-pick-test.true) in
    let picked = subst
    (λ (picks : List (ℕ × List ℕ)).
    TakesPicks mid (get_or picks c.loop-pick.pick-index (0, []) ∷ []) (IsPendingIn c.args.self)
    after) same
    (subst (λ (calls : _).
    TakesPicks mid (get_or c.deref-pick-items.result.now c.loop-pick.pick-index (0, []) ∷ [])
    (IsPending calls) after) c.loop-pick.invariant.calls c.take_pick.ensures.picked) in
    record {
      picked = subst (λ (picks : _). TakesPicks before picks (IsPendingIn c.args.self) after)
          (sym (take_more list c.loop-pick.pick-index (0, []) inside))
          (more_picks before mid after _ _ (IsPendingIn c.args.self) c.loop-pick.invariant.picked
          picked);
      calls = c.take_pick.ensures.calls ∙ c.loop-pick.invariant.calls;
      faults = c.take_pick.ensures.faults ∙ c.loop-pick.invariant.faults;
      number = c.take_pick.ensures.number ∙ c.loop-pick.invariant.number;
    }

pub returns-clause-durable : goal.returns-clause-durable
returns-clause-durable c =
    settled_durable _ _
    (λ at pending. subst (λ (calls : _). IsPending (reverse calls) at) c.clear.ensures.items
    pending)
