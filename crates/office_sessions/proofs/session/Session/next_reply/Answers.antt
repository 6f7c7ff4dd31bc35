use Rattle.std.specs.Prelude.{◌^◌, ◌-◌, IfSome, List}
use Rattle.std.proofs.Common.{sym, subst}
use Rattle.std.proofs.Math.Logic.{∥∥₁_map}
use Rattle.rtrb.specs.Ring.{sent}
use Rattle.station_desk.specs.Messages.{entries_of}
use Rattle.office_sessions.specs.Replies.{AreToldBy, HasSearched, HasLooked, HasSeenLast, IsLearned}
use Rattle.office_sessions.specs.Replies.{nothing_since}
use Rattle.office_sessions.specs.declared.replies.Reply.{Reply}
use Rattle.office_sessions.proofs.ToldBy.{told-heard, searched-more, looked-more, learned-heard}
use Rattle.office_sessions.proofs.session.Session.next_reply.Goals as goal

pub invariant_of-self-clause-told_by : goal.invariant_of-self-clause-told_by
invariant_of-self-clause-told_by g c =
    let old = c.args.self.now in
    told-heard old.own (sent old.responses) old.replies c.in-Some.reply
    c.in-Some.ensures.came old.told_by

pub invariant_of-self-clause-searched : goal.invariant_of-self-clause-searched
invariant_of-self-clause-searched g c =
    let old = c.args.self.now in
    searched-more old.replies c.in-Some.reply old.search c.in-Some.ensures.came old.searched

pub invariant_of-self-clause-looked : goal.invariant_of-self-clause-looked
invariant_of-self-clause-looked g c =
    let old = c.args.self.now in
    looked-more old.own old.limit old.replies c.in-Some.reply old.look
    c.in-Some.ensures.came old.looked

pub invariant_of-self-clause-learned : goal.invariant_of-self-clause-learned
invariant_of-self-clause-learned g c =
    let old = c.args.self.now in
    ∥∥₁_map old.learned
    (learned-heard old.own old.replies c.in-Some.reply (sent old.responses)
    (entries_of old.postings.feed.asked) old.postings.posted old.earlier c.in-Some.ensures.came)

pub invariant_of-self-in-None-clause-told_by : goal.invariant_of-self-in-None-clause-told_by
invariant_of-self-in-None-clause-told_by g c =
    let old = c.args.self.now in
    subst (λ (heard : List Reply). AreToldBy old.own (sent old.responses) heard)
    (sym (c.take.ensures.none c.in-None.is)) old.told_by

pub invariant_of-self-in-None-clause-searched : goal.invariant_of-self-in-None-clause-searched
invariant_of-self-in-None-clause-searched g c =
    let old = c.args.self.now in
    subst (λ (heard : List Reply). ∥ HasSearched heard old.search ∥₁)
    (sym (c.take.ensures.none c.in-None.is)) old.searched

pub invariant_of-self-in-None-clause-looked : goal.invariant_of-self-in-None-clause-looked
invariant_of-self-in-None-clause-looked g c =
    let old = c.args.self.now in
    subst (λ (heard : List Reply). ∥ HasLooked old.own old.limit heard old.look ∥₁)
    (sym (c.take.ensures.none c.in-None.is)) old.looked

pub invariant_of-self-in-None-clause-far : goal.invariant_of-self-in-None-clause-far
invariant_of-self-in-None-clause-far g c =
    let old = c.args.self.now in
    subst (λ (heard : List Reply). ∥ IfSome old.out_of_sight (λ number.
    HasSeenLast old.own (2 ^ 64 - 1) (nothing_since number) heard) ∥₁)
    (sym (c.take.ensures.none c.in-None.is)) old.far

pub invariant_of-self-in-None-clause-learned : goal.invariant_of-self-in-None-clause-learned
invariant_of-self-in-None-clause-learned g c =
    let old = c.args.self.now in
    subst (λ (heard : List Reply). ∥ IsLearned old.own heard (sent old.responses)
    (entries_of old.postings.feed.asked) old.postings.posted old.earlier ∥₁)
    (sym (c.take.ensures.none c.in-None.is)) old.learned
