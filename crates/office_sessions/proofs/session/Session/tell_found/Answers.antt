use Rattle.std.specs.Prelude.{IfOk}
use Rattle.std.proofs.Common.{sym, subst}
use Rattle.station_desk.specs.declared.errand.Question.{Question}
use Rattle.station_desk.specs.declared.errand.Report.{Report}
use Rattle.station_desk.specs.declared.errand.Report.TheVariants.{Searched}
use Rattle.office_sessions.specs.declared.search.Search.{Search}
use Rattle.office_sessions.specs.Right.{GoesAhead, ReportGoesAhead}
use Rattle.office_sessions.proofs.session.Session.tell_found.Goals as goal

pub tell_step-requires-clause-ahead : goal.tell_step-requires-clause-ahead
tell_step-requires-clause-ahead g c =
    let found = c.in-Some-Searched.found in
    let ahead : ReportGoesAhead c.question-question.result (Searched found) =
    subst (λ (report : Report). ReportGoesAhead c.question-question.result report)
    c.in-Some-Searched.field-0-is
    (g.L.OfficeLife.ahead c.question-question.result c.in-Some-Searched.field-0
    c.in-Some-Searched.ensures.right) in
    subst (λ (s : Search). IfOk found (λ step. GoesAhead s.from step.posting step.reached))
    (sym c.report.ensures.keeps.search)
    (subst (λ (q : Question). ReportGoesAhead q (Searched found)) c.question-question.ensures ahead)
