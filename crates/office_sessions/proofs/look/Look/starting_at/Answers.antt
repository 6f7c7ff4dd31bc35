use Rattle.office_sessions.specs.Looked.{begins}
use Rattle.office_sessions.proofs.look.Look.starting_at.Goals as goal

pub returns-clause-whole : goal.returns-clause-whole
returns-clause-whole c = begins
