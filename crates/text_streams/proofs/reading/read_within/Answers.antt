use Rattle.std.proofs.Common.{◌≡◌, ◌<◌, ℕ, List, length, vec_len, arith, rules, sym, subst}
use Rattle.std.specs.Prelude.{IfSome}
use Rattle.std.specs.Io.KnownBytes.{Consumes}
use Rattle.text_streams.specs.declared.faults.StreamFault.TheVariants.{TooLong}
use Rattle.text_streams.proofs.ReadLemmas.{all_taken, more_from_start, none_taken, taken_more}
use Rattle.text_streams.proofs.reading.read_within.Goals as goal

pub loop-init : goal.loop-init
loop-init g c = record {
  limit = omega (arith, c.new-script.ensures.len);
  taken = subst (λ (l : List ℕ).
      Consumes (g.R.Read.remaining c.args.reader.now) (g.R.Read.remaining c.args.reader.now) l)
      (sym c.new-script.ensures.items) (none_taken (g.R.Read.remaining c.args.reader.now));
}

pub loop-preserved : goal.loop-preserved
loop-preserved g c = record {
  limit = c.in_ok-read_piece.ensures.within;
  taken = taken_more _ _ _ _ _ c.loop.invariant.taken c.in_ok-read_piece.ensures.added;
}

pub returns-in_err-read_piece-clause-too_long : goal.returns-in_err-read_piece-clause-too_long
returns-in_err-read_piece-clause-too_long g c =
    let size : vec_len c.loop.script ≡ length c.loop.script.items =
    omega (arith, c.loop.script.ok.0) in
    let more : c.in_err-read_piece.field-0.0 ≡ TooLong
    → IfSome (g.R.Read.remaining c.args.reader.now) (λ bytes. 16777216 < length bytes) =
    λ is. more_from_start _ _ c.loop.script.items 16777216 (vec_len c.loop.script) size
    c.loop.invariant.taken (c.in_err-read_piece.ensures.too_long is) in
    search (rules, more)

pub returns-then-branch-clause-whole : goal.returns-then-branch-clause-whole
returns-then-branch-clause-whole g c =
    all_taken _ _ _ (taken_more _ _ _ _ _ c.loop.invariant.taken c.in_ok-read_piece.ensures.added)
    (c.in_ok-read_piece.ensures.end c.if-branch.true)
