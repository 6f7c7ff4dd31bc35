use Rattle.std.proofs.Common.{◌<◌, ◌∙◌, sym, subst}
use Rattle.four_state.specs.Configuration.{stations}
use Rattle.office_day.proofs.Days.{length-new_seats}
use Rattle.office_day.proofs.Sights.{all_in_sight}
use Rattle.office_day.proofs.SpanLaws.{is-span, own_served}
use Rattle.office_day.proofs.spans.run_span.Goals as goal

pub returns-clause-closed : goal.returns-clause-closed
returns-clause-closed g c =
    let ran = c.in_ok-run.ensures.ran in
    record {
      closed = c.in_ok-run.ensures.closed;
      begins = c.in_ok-run.ensures.begins;
      within = is-span (stations c.args.office.clerk.line) c.in_ok-run.run'.0.clerk ran.1
          ran.2.borne_out ran.2.there c.in_ok-run.ensures.closed.legal;
      in_sight = λ few honest.
          all_in_sight g.D.Device.state c.in_ok-run.run'.0.clerk c.how_far_back.ensures.ends
          c.how_far_back.ensures.has few (c.in_ok-run.ensures.closed.at_any_moment honest)
          (c.in_ok-run.ensures.closed.in_sight honest);
    }

pub returns-clause-left : goal.returns-clause-left
returns-clause-left g c =
    let ran = c.in_ok-run.ensures.ran in
    let count = stations c.args.office.clerk.line in
    let many = length-new_seats count in
    record {
      as_many = ran.1.left_as_many ∙ many ∙ sym c.requires.as_many;
      each = λ i desk part low.
          own_served count c.in_ok-run.run'.0.clerk ran.1 ran.2.borne_out c.in_ok-run.run'.0.audit i
          desk part (subst (λ n. i < n) c.requires.as_many low);
    }
