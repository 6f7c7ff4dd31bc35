use Rattle.std.proofs.Common.{◌<◌, ◌≤◌, ◌∙◌, ℕ, List, [], ap, arith, cond, length, refl}
use Rattle.std.specs.Str.Lines.{strip_carriage_return}
use Rattle.text_grammar.specs.Cutting.{HasSeen}
use Rattle.text_grammar.proofs.CuttingLemmas.{IsTold, at_end_of_line, begins_line, goes_on}
use Rattle.text_grammar.proofs.CuttingLemmas.{nearly_all, next_line, no_feed, no_more, one_more}
use Rattle.text_grammar.proofs.cutting.LineCutter.push.Goals as goal

-- what a line feed is answered with, whatever the bytes before it are
told_at_feed : (c : goal.After-cut) (bytes : List ℕ) → HasSeen c.args.self.now bytes
    → IsTold (strip_carriage_return bytes) c.cut.result c.cut.new.self.ended
told_at_feed c bytes seen =
    let inside = goes_on _ _ _ c.self.view_is c.begin.ensures.ended in
    let size = ap (λ (l : List ℕ). length l) c.without_return-length.ensures
    ∙ ap (λ (l : List ℕ). length (strip_carriage_return l)) c.deref.ensures.value in
    at_end_of_line strip_carriage_return nearly_all begins_line c.self.inside.kept.items
    c.begin.new.self.since bytes _ _ _ inside.1 (c.begin.ensures.since ∙ seen.0) size
    c.cut.ensures.too_long c.cut.ensures.line

pub returns-then-byte-eq10-clause-cuts : goal.returns-then-byte-eq10-clause-cuts
returns-then-byte-eq10-clause-cuts c =
    λ bytes seen feed.
    ((told_at_feed c bytes seen).told, (c.cut.ensures.since, λ k d below. absurd (omega arith)))

pub returns-then-byte-eq10-clause-line : goal.returns-then-byte-eq10-clause-line
returns-then-byte-eq10-clause-line c = λ bytes seen. (told_at_feed c bytes seen).lent

pub returns-then-byte-eq10-clause-next_line : goal.returns-then-byte-eq10-clause-next_line
returns-then-byte-eq10-clause-next_line c = λ bytes rest line seen ended.
    next_line bytes rest line c.args.byte seen.1 c.if-byte-eq10.true
    ((told_at_feed c bytes seen).only line ended)

pub returns-then-len-lt-KEPT-clause-goes_on : goal.returns-then-len-lt-KEPT-clause-goes_on
returns-then-len-lt-KEPT-clause-goes_on c = λ bytes seen other.
    let inside = goes_on _ _ _ c.self-2.view_is c.begin.ensures.ended in
    let room : length c.self-2.inside.kept.items < 258 =
    omega (arith, c.len.ensures, c.if-len-lt-KEPT.true) in
    let kept = one_more c.self-2.inside.kept.items c.begin.new.self.since bytes c.args.byte inside.1
    (c.begin.ensures.since ∙ seen.0) room in
    let shown = ap (λ b. cond b [] c.push_reserved.new.self.items) inside.0
    ∙ c.push_reserved.ensures.items ∙ kept in
    (refl, (shown, no_feed bytes c.args.byte seen.1 other))

pub returns-else-len-lt-KEPT-clause-goes_on : goal.returns-else-len-lt-KEPT-clause-goes_on
returns-else-len-lt-KEPT-clause-goes_on c = λ bytes seen other.
    let inside = goes_on _ _ _ c.self-2.view_is c.begin.ensures.ended in
    let full : 258 ≤ length c.self-2.inside.kept.items =
    omega (arith, c.len.ensures, c.if-len-lt-KEPT.false) in
    let kept = no_more c.self-2.inside.kept.items c.begin.new.self.since bytes c.args.byte inside.1
    (c.begin.ensures.since ∙ seen.0) full in
    (refl, (kept, no_feed bytes c.args.byte seen.1 other))
