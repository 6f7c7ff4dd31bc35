use Rattle.std.proofs.Common.{get_or, drop, IfSome, refl, sym, ap, ◌∙◌}
use Rattle.std.proofs.lemmas.Bool.{false≢true}
use Rattle.std.proofs.lemmas.Option.{slice_get-get_or}
use Rattle.four_state.specs.Configuration.{Configuration, IsConfiguration}
use Rattle.four_state.specs.declared.rules.Rule.TheVariants.{Bottom}
use Rattle.sweep_auditor.specs.declared.moves.Move.{Move}
use Rattle.sweep_auditor.specs.Run.{next}
use Rattle.sweep_auditor.specs.RunLaws.{configuration_at-more, IsRun-more}
use Rattle.sweep_auditor.specs.Stabilization.{top_of, LegitimateFrom, IsStretch, ComesRound, Sweeps}
use Rattle.sweep_auditor.proofs.First.{reached, reached_from_any, reached_in_cube, first_sweeps}
use Rattle.sweep_auditor.proofs.First.{some_part}
use Rattle.sweep_auditor.proofs.Runs.{first_more, privilege_at}
use Rattle.sweep_auditor.proofs.audits.audit.Goals as goal

-- what is read past the last move
abbrev no_move : Move
no_move = record { station = 0; rule = Bottom }

pub returns-then-not-enabled-clause-ok : goal.returns-then-not-enabled-clause-ok
returns-then-not-enabled-clause-ok c = (
  λ e. absurd (false≢true e),
  λ run. absurd (
      let p = privilege_at c.args.moves.now c.args.start c.loop-index.index no_move run
      c.loop-index-test.true in
      let q = rw (← c.loop-index.invariant.here) at p in
      false≢true (sym c.if-not-enabled.true ∙ c.enabled.ensures.1 q)),
)

pub returns-then-not-enabled-clause-refused : goal.returns-then-not-enabled-clause-refused
returns-then-not-enabled-clause-refused c = record {
  run_before = c.loop-index.invariant.run;
  move = get_or c.args.moves.now c.loop-index.index no_move;
  stands_there = slice_get-get_or c.args.moves.now c.loop-index.index no_move
      c.loop-index-test.true;
  no_privilege = λ p.
      let q = rw (← c.loop-index.invariant.here) at p in
      false≢true (sym c.if-not-enabled.true ∙ c.enabled.ensures.1 q);
}

pub loop-index-preserved : goal.loop-index-preserved
loop-index-preserved c =
    let start = c.args.start in
    let moves = c.args.moves.now in
    let i = c.loop-index.index in
    let here = c.loop-index.invariant.here in
    let test = c.loop-index-test.true in
    let more = c.noted-first_legitimate-in-loop-index.ensures in
    let now = c.make_move.ensures.moved
    ∙ ap (λ (d : Configuration). next d (get_or moves i no_move)) here
    ∙ sym (configuration_at-more start moves i no_move test) in
    record {
      line = c.make_move.ensures.line;
      here = now;
      run = IsRun-more start moves i no_move test c.loop-index.invariant.run
          (rw here at c.make_move.ensures.a_move.privilege);
      first = first_more start moves i c.loop-index.first_legitimate
          c.noted-first_legitimate-in-loop-index.result c.loop-index.invariant.first more.found
          (rw now at more.here)
          (rw now at more.not_here);
    }

-- the start is a line
start_is : (c : goal.After-loop-index) → IsConfiguration c.args.start
start_is c = (c.noted-first_legitimate.ensures.line refl).configuration

-- after the first legitimate configuration the stations sweep
all_sweep : (c : goal.After-loop-index)
    → IfSome c.loop-index.first_legitimate (Sweeps c.args.start c.args.moves.now)
all_sweep c =
    let known = c.loop-index.invariant in
    first_sweeps c.args.start c.args.moves.now c.loop-index.index c.loop-index.first_legitimate
    (start_is c) known.run known.first c.loop-index-test.false c.loop-index.auto.index-end

pub returns-clause-stabilizes : goal.returns-clause-stabilizes
returns-clause-stabilizes c =
    let known = c.loop-index.invariant in
    reached c.args.start c.args.moves.now c.loop-index.index c.loop-index.first_legitimate
    (start_is c) known.run known.first c.loop-index-test.false c.loop-index.auto.index-end

pub returns-clause-stabilizes_from_any : goal.returns-clause-stabilizes_from_any
returns-clause-stabilizes_from_any c =
    let known = c.loop-index.invariant in
    reached_from_any c.args.start c.args.moves.now c.loop-index.index c.loop-index.first_legitimate
    (start_is c) known.run known.first c.loop-index-test.false c.loop-index.auto.index-end

pub returns-clause-stabilizes_in_cube : goal.returns-clause-stabilizes_in_cube
returns-clause-stabilizes_in_cube c =
    let known = c.loop-index.invariant in
    reached_in_cube c.args.start c.args.moves.now c.loop-index.index c.loop-index.first_legitimate
    (start_is c) known.run known.first c.loop-index-test.false c.loop-index.auto.index-end

pub returns-clause-stays_legitimate : goal.returns-clause-stays_legitimate
returns-clause-stays_legitimate c =
    let start = c.args.start in
    let moves = c.args.moves.now in
    some_part (Sweeps start moves) (LegitimateFrom start moves) c.loop-index.first_legitimate
    (λ i h. h.legitimate) (all_sweep c)

pub returns-clause-sweeps : goal.returns-clause-sweeps
returns-clause-sweeps c =
    let start = c.args.start in
    let moves = c.args.moves.now in
    some_part (Sweeps start moves) (λ i. IsStretch (top_of start) (drop i moves))
    c.loop-index.first_legitimate (λ i h. h.stretch) (all_sweep c)

pub returns-clause-comes_round : goal.returns-clause-comes_round
returns-clause-comes_round c =
    let start = c.args.start in
    let moves = c.args.moves.now in
    some_part (Sweeps start moves) (ComesRound start moves) c.loop-index.first_legitimate
    (λ i h. h.round) (all_sweep c)
