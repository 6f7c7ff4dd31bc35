use Rattle.std.specs.Prelude.{◌≡◌, ◌≤◌, List, [], ◌∷◌, ◌++◌}
use Rattle.std.proofs.Common.{sym, ap, subst, arith}
use Rattle.turn_ledger.specs.Entry.{reference_of}
use Rattle.station_desk.specs.Rings.{FeedState}
use Rattle.station_desk.specs.declared.messages.Ask.{Ask}
use Rattle.office_sessions.specs.Rising.{AreAbove, AreWithin, AreUnderWay}
use Rattle.office_sessions.proofs.Rising.{within-more, under-collected, above-collected}
use Rattle.office_sessions.proofs.Rising.{collected-count}
use Rattle.office_sessions.proofs.postings.Postings.collect.Goals as goal

pub invariant_of-self-in-Posted : goal.invariant_of-self-in-Posted
invariant_of-self-in-Posted c =
    let old = c.args.self.now in
    let answer = c.in_ok-answer.answer in
    let asked : c.answer.new.self.asked ≡ old.feed.asked =
    ap (λ (f : FeedState). f.asked) c.in_ok-answer.ensures.collected in
    let collected : c.answer.new.self.collected ≡ old.feed.collected ++ answer ∷ [] =
    ap (λ (f : FeedState). f.collected) c.in_ok-answer.ensures.collected in
    let most : old.posted ≤ c.max-self.result = omega (arith, c.max-self.ensures) in
    let own : reference_of answer.entry ≤ c.max-self.result =
    omega (arith, c.max-self.ensures, c.reference.ensures) in
    record {
      counted = collected-count old.unanswered old.feed.asked old.feed.collected answer
          c.answer.new.self.asked c.answer.new.self.collected asked collected c.if-self-eq0.false
          old.counted;
      within = subst (AreWithin c.max-self.result) (sym collected)
          (within-more old.posted c.max-self.result old.feed.collected answer old.within most
          (λ number posted. own));
      begun = subst (λ (asks : List Ask).
          AreUnderWay old.under_way asks c.answer.new.self.collected) (sym asked)
          (subst (AreUnderWay old.under_way old.feed.asked) (sym collected)
          (under-collected old.under_way old.feed.asked old.feed.collected answer old.begun));
      above = subst (λ (asks : List Ask). AreAbove asks c.answer.new.self.collected) (sym asked)
          (subst (AreAbove old.feed.asked) (sym collected)
          (above-collected old.feed.asked old.feed.collected answer old.above));
    }

pub invariant_of-self-in_default : goal.invariant_of-self-in_default
invariant_of-self-in_default c =
    let old = c.args.self.now in
    let answer = c.in_ok-answer.answer in
    let asked : c.answer.new.self.asked ≡ old.feed.asked =
    ap (λ (f : FeedState). f.asked) c.in_ok-answer.ensures.collected in
    let collected : c.answer.new.self.collected ≡ old.feed.collected ++ answer ∷ [] =
    ap (λ (f : FeedState). f.collected) c.in_ok-answer.ensures.collected in
    record {
      counted = collected-count old.unanswered old.feed.asked old.feed.collected answer
          c.answer.new.self.asked c.answer.new.self.collected asked collected c.if-self-eq0.false
          old.counted;
      within = subst (AreWithin old.posted) (sym collected)
          (within-more old.posted old.posted old.feed.collected answer old.within (omega arith)
          (λ number posted. absurd (c.in_default.not-Posted number posted)));
      begun = subst (λ (asks : List Ask).
          AreUnderWay old.under_way asks c.answer.new.self.collected) (sym asked)
          (subst (AreUnderWay old.under_way old.feed.asked) (sym collected)
          (under-collected old.under_way old.feed.asked old.feed.collected answer old.begun));
      above = subst (λ (asks : List Ask). AreAbove asks c.answer.new.self.collected) (sym asked)
          (subst (AreAbove old.feed.asked) (sym collected)
          (above-collected old.feed.asked old.feed.collected answer old.above));
    }
