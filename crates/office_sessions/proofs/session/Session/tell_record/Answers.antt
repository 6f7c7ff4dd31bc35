use Rattle.std.specs.Prelude.{◌≡◌, ℕ, [], ◌∷◌, ◌++◌, Option, refl}
use Rattle.std.proofs.Common.{sym, ◌∙◌, subst}
use Rattle.std.proofs.Math.Logic.{∥∥₁_map}
use Rattle.rtrb.specs.Ring.{sent, received}
use Rattle.station_desk.specs.Messages.{entries_of}
use Rattle.office_sessions.specs.declared.messages.Message.{Message}
use Rattle.office_sessions.specs.declared.responses.Response.{Response}
use Rattle.office_sessions.specs.declared.responses.Response.TheVariants as response
use Rattle.office_sessions.specs.Exchange.{IsAnswering}
use Rattle.office_sessions.proofs.Exchanges.{answering-found, answering-still, other-answers}
use Rattle.office_sessions.proofs.ToldBy.{told-more, learned-told}
use Rattle.office_sessions.proofs.session.Session.tell_record.Given.{Over}
use Rattle.office_sessions.proofs.session.Session.tell_record.Goals as goal

-- what is told
abbrev record-told : (g : Over) → goal.After-note g → Response
record-told g c = response.Found c.args.number c.args.self.now.search.reference

tells : (g : Over) (c : goal.After-note g)
    → sent c.push_reserved.new.self ≡ sent c.args.self.now.responses ++ record-told g c ∷ []
tells g c =
    c.push_reserved.ensures.sent.0
    ∙ (λ i. sent c.args.self.now.responses
    ++ response.Found c.args.number (c.reference.ensures i) ∷ [])

pub invariant_of-self-clause-answered : goal.invariant_of-self-clause-answered
invariant_of-self-clause-answered g c =
    let old = c.args.self.now in
    let asked = entries_of old.postings.feed.asked in
    let after : Option Message → Type 0 =
    λ next. IsAnswering (received old.messages) (sent c.push_reserved.new.self) asked 0 next
    c.args.search in
    answering-still refl c.requires.behind
    (∥∥₁_map old.answered (λ was.
    subst after (sym c.requires.next)
    (answering-found old.search c.args.search c.args.number (tells g c) c.requires.counted.0
    c.requires.counted.1 c.requires.ahead
    (subst (λ (next : Option Message). IsAnswering (received old.messages) (sent old.responses)
    asked 0 next old.search) c.requires.next
    (subst (λ (unanswered : ℕ). IsAnswering (received old.messages) (sent old.responses)
    asked unanswered old.next old.search) c.requires.behind was)))))

pub invariant_of-self-clause-told : goal.invariant_of-self-clause-told
invariant_of-self-clause-told g c =
    other-answers (sent c.args.self.now.responses) (record-told g c) (tells g c) refl
    ∙ c.args.self.now.told

pub invariant_of-self-clause-told_by : goal.invariant_of-self-clause-told_by
invariant_of-self-clause-told_by g c =
    let old = c.args.self.now in
    told-more old.own (sent old.responses) old.replies
    (record-told g c) (tells g c) ∣ c.requires.by ∣₁ old.told_by

pub invariant_of-self-clause-learned : goal.invariant_of-self-clause-learned
invariant_of-self-clause-learned g c =
    let old = c.args.self.now in
    ∥∥₁_map old.learned
    (learned-told old.own old.replies (sent old.responses)
    (record-told g c) (entries_of old.postings.feed.asked) old.postings.posted old.earlier
    (tells g c))
