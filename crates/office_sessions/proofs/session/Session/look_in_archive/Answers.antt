use Rattle.std.specs.Prelude.{◌≡◌, ◌^◌, ◌-◌, Option, IfSome, ◌∷◌, ◌++◌, []}
use Rattle.std.proofs.Common.{subst}
use Rattle.std.proofs.Math.Logic.{∥∥₁_map}
use Rattle.office_sessions.specs.Replies.{HasSeenLast, nothing_since, in_archive}
use Rattle.office_sessions.specs.declared.recess.WishOutcome.{WishOutcome}
use Rattle.office_sessions.specs.declared.replies.Reply.TheVariants as reply
use Rattle.office_sessions.proofs.session.Session.look_in_archive.Goals as goal

pub returns-clause-seen : goal.returns-clause-seen
returns-clause-seen g c =
    let old = c.args.self.now in
    let before = old.replies in
    ∥∥₁_map
    (subst (λ (since : Option _). ∥ IfSome since (λ number.
    HasSeenLast old.own (2 ^ 64 - 1) (nothing_since number) before) ∥₁)
    c.in_ok-since.was old.far)
    (λ last. in_archive c.in_ok-since.since c.in-Last.in_archive before last
    (subst (λ (came : WishOutcome).
    c.what_came.new.self.replies ≡ before ++ reply.Outcome came ∷ []) c.in-Last.is
    c.in_ok-in_archive.ensures.last)
    c.farther.ensures)
