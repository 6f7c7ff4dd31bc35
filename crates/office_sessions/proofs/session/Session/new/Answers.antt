use Rattle.std.specs.Prelude.{◌^◌, ◌-◌, List}
use Rattle.std.proofs.Common.{sym, ◌∙◌, ap, subst}
use Rattle.std.proofs.lemmas.List.Elements.{All-nil}
use Rattle.station_desk.specs.Messages.{entries_of}
use Rattle.station_desk.specs.Rings.{FeedState}
use Rattle.office_sessions.specs.declared.look.Look.{Look}
use Rattle.office_sessions.specs.declared.responses.Response.{Response}
use Rattle.office_sessions.specs.Replies.{AreToldBy, AreWithoutReference, HasLooked, look_begins}
use Rattle.office_sessions.proofs.Exchanges.{none-answering}
use Rattle.office_sessions.proofs.session.Session.new.Goals as goal

pub invariant_of-result-clause-told_by : goal.invariant_of-result-clause-told_by
invariant_of-result-clause-told_by g c =
    subst (λ (told : List Response). AreToldBy c.args.own told
    c.args.replies)
    (sym c.requires.nothing_told) (All-nil _)

pub invariant_of-result-clause-looked : goal.invariant_of-result-clause-looked
invariant_of-result-clause-looked g c =
    ∣ subst (λ (look : Look). HasLooked c.args.own (2 ^ 64 - 1)
    c.args.replies look)
    (sym c.starting_at.ensures.begins) look_begins ∣₁

pub invariant_of-result-clause-learned : goal.invariant_of-result-clause-learned
invariant_of-result-clause-learned g c =
    ∣ subst (λ (feed : FeedState). AreWithoutReference (entries_of feed.asked))
    (sym c.new.ensures.feed)
    (subst (λ (asked : List _). AreWithoutReference (entries_of asked))
    (sym c.requires.nothing_asked) (All-nil _)) ∣₁

pub invariant_of-result-clause-answered : goal.invariant_of-result-clause-answered
invariant_of-result-clause-answered g c =
    ∣ none-answering c.requires.nothing_said c.requires.nothing_told
    (ap (λ (feed : FeedState). entries_of feed.asked) c.new.ensures.feed
    ∙ ap entries_of c.requires.nothing_asked)
    c.new.ensures.unanswered c.of.ensures.fresh ∣₁
