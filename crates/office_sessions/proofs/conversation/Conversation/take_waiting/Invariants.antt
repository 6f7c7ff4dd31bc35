use Rattle.std.specs.Prelude.{◌≡◌, []}
use Rattle.office_sessions.specs.Conversation.{IsSilent}
use Rattle.office_sessions.specs.Over.{EndsOn}
use Rattle.office_sessions.proofs.conversation.Conversation.take_waiting.Given as goal

-- what was said so far was looked at; where nothing is answered any more nothing was told
abbrev pub invariant-loop : goal.invariant-loop
invariant-loop l = record {
  own : l.self.own ≡ l.initial.self.own;
  ends : EndsOn [] [] l.initial.self l.self;
  silent : IsSilent l.initial.self → IsSilent l.self × (l.self.told ≡ l.initial.self.told);
}
