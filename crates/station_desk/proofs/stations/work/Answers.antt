use Rattle.std.proofs.Common.{◌≡◌, ◌∙◌, Err, Some, ap}
use Rattle.turn_clerk.specs.declared.refusals.TurnRefusal.TheVariants.{Device}
use Rattle.line_lock.specs.declared.refusals.WithinRefusal.{WithinRefusal}
use Rattle.line_lock.specs.declared.refusals.WithinRefusal.TheVariants.{Turn}
use Rattle.station_desk.specs.declared.end.End.{End}
use Rattle.station_desk.specs.declared.end.End.TheVariants.{Refused, Tries}
use Rattle.station_desk.specs.WorkedLaws.{worked-nothing, worked-joined, worked-where}
use Rattle.station_desk.proofs.stations.work.Goals as goal

pub loop-init : goal.loop-init
loop-init g c = worked-nothing c.args.seat.now c.args.desk.now c.args.moves ⊥ (λ never. never)

pub returns-in-Some-end_of-clause-worked : goal.returns-in-Some-end_of-clause-worked
returns-in-Some-end_of-clause-worked g c =
    let refusal = c.in-Err.refusal in
    let end = c.in-Some-end_of.end in
    worked-joined c.args.seat.now c.loop.seat c.round.new.seat c.args.desk.now c.loop.desk
    c.round.new.desk c.args.moves (end ≡ Refused Device) c.loop.invariant
    (worked-where c.loop.seat c.round.new.seat c.loop.desk c.round.new.desk c.args.moves
    (Err refusal ≡ Err (Turn Device)) (end ≡ Refused Device)
    (λ failed.
    let device : refusal ≡ Turn Device = cc in
    let told : c.end_of.result ≡ Some (Refused Device) = c.end_of.ensures.device.1 device in
    let is = c.in-Some-end_of.is in
    cc)
    (λ ended. ap (λ (r : WithinRefusal). Err r)
    (c.end_of.ensures.device.0 (c.in-Some-end_of.is ∙ ap (λ (e : End). Some e) ended)))
    c.in-Err.ensures.worked)

pub loop-preserved-in_default : goal.loop-preserved-in_default
loop-preserved-in_default g c =
    worked-joined c.args.seat.now c.loop.seat c.round.new.seat c.args.desk.now c.loop.desk
    c.round.new.desk c.args.moves ⊥ c.loop.invariant
    (worked-where c.loop.seat c.round.new.seat c.loop.desk c.round.new.desk c.args.moves
    (c.round.result ≡ Err (Turn Device)) ⊥
    (λ failed. c.in_default.not-Err (Turn Device) failed)
    (λ never. absurd never)
    c.round.ensures.worked)

pub returns-then-refused-tries-clause-worked : goal.returns-then-refused-tries-clause-worked
returns-then-refused-tries-clause-worked g c =
    let refusal = c.in-Err.refusal in
    worked-joined c.args.seat.now c.loop.seat c.round.new.seat c.args.desk.now c.loop.desk
    c.round.new.desk c.args.moves (Tries ≡ Refused Device) c.loop.invariant
    (worked-where c.loop.seat c.round.new.seat c.loop.desk c.round.new.desk c.args.moves
    (Err refusal ≡ Err (Turn Device)) (Tries ≡ Refused Device)
    (λ failed.
    let device : refusal ≡ Turn Device = cc in
    let told : c.end_of.result ≡ Some (Refused Device) = c.end_of.ensures.device.1 device in
    let is = c.in_default-end_of.is in
    absurd (cc))
    (λ ended. absurd (cc))
    c.in-Err.ensures.worked)

pub loop-preserved : goal.loop-preserved
loop-preserved g c =
    let refusal = c.in-Err.refusal in
    worked-joined c.args.seat.now c.loop.seat c.round.new.seat c.args.desk.now c.loop.desk
    c.round.new.desk c.args.moves ⊥ c.loop.invariant
    (worked-where c.loop.seat c.round.new.seat c.loop.desk c.round.new.desk c.args.moves
    (Err refusal ≡ Err (Turn Device)) ⊥
    (λ failed.
    let device : refusal ≡ Turn Device = cc in
    let told : c.end_of.result ≡ Some (Refused Device) = c.end_of.ensures.device.1 device in
    let is = c.in_default-end_of.is in
    absurd (cc))
    (λ never. absurd never)
    c.in-Err.ensures.worked)
