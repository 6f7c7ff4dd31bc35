use Rattle.std.proofs.Common.{◌≡◌, take}
use Rattle.four_state.specs.Configuration.{IsLine}
use Rattle.sweep_auditor.specs.Run.{configuration_at, IsRun, IsFirstLegitimate}
use Rattle.sweep_auditor.proofs.audits.audit.Given as goal

abbrev pub invariant-loop-index : goal.invariant-loop-index
invariant-loop-index l = record {
  line : IsLine l.line;
  here : l.line ≡ configuration_at l.fn.start l.moves l.index;
  run : IsRun l.fn.start (take l.index l.moves);
  first : IsFirstLegitimate l.fn.start l.moves l.index l.first_legitimate;
}
