use Rattle.std.proofs.Math.Logic.{∥∥₁_elim, ∥∥₁_prop}
use Rattle.std.proofs.lemmas.List.Elements.{All-contains}
use Rattle.office_sessions.specs.Right.{IsRight, WasReported}
use Rattle.office_sessions.proofs.Covered.{seen-covers, rise-above}
use Rattle.office_sessions.proofs.laws.looks_cover.Goals as goal

pub returns-clause-looks : goal.returns-clause-looks
returns-clause-looks g c moves from own limit seen heard honest right last =
    seen-covers g.D.Device.state moves from own limit heard honest
    (λ one among. All-contains (IsRight (WasReported g.D.Device.state moves from)) heard one right
    among)
    seen last

pub returns-clause-rise : goal.returns-clause-rise
returns-clause-rise g c moves from own told heard asked honest right follows =
    ∥∥₁_elim follows.rise ∥∥₁_prop
    (rise-above g.D.Device.state moves from own heard told asked honest
    (λ one among. All-contains (IsRight (WasReported g.D.Device.state moves from)) heard one right
    among))
