use Rattle.std.proofs.Common.{sym, subst}
use Rattle.office_sessions.specs.declared.look.Look.{Look}
use Rattle.office_sessions.specs.Replies.{HasLooked, look_begins}
use Rattle.office_sessions.proofs.session.Session.look_up_to.Goals as goal

pub invariant_of-self-clause-looked : goal.invariant_of-self-clause-looked
invariant_of-self-clause-looked g c =
    let old = c.args.self.now in
    ∣ subst (λ (look : Look). HasLooked old.own c.args.limit old.replies look)
    (sym c.starting_at-self.ensures.begins) look_begins ∣₁
