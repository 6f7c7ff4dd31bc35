use Rattle.office_sessions.specs.Replies.{search_begins}
use Rattle.office_sessions.proofs.search.Search.of.Goals as goal

pub returns-clause-begins : goal.returns-clause-begins
returns-clause-begins c = λ heard. search_begins c.args.reference
