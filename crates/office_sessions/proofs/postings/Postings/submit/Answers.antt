use Rattle.std.specs.Prelude.{◌≡◌, ◌<◌, ◌≤◌, List, [], ◌∷◌, ◌++◌, length, refl}
use Rattle.std.proofs.Common.{sym, ◌∙◌, ap, subst, arith}
use Rattle.std.proofs.lemmas.List.{length-append}
use Rattle.turn_ledger.specs.Entry.{reference_of}
use Rattle.station_desk.specs.Rings.{FeedState}
use Rattle.station_desk.specs.declared.messages.Ask.{Ask}
use Rattle.office_sessions.specs.Rising.{AreAbove, AreWithin, AreUnderWay}
use Rattle.office_sessions.proofs.Rising.{under-asked, above-asked}
use Rattle.office_sessions.proofs.postings.Postings.submit.Goals as goal

pub invariant_of-self : goal.invariant_of-self
invariant_of-self c =
    let old = c.free_refused.new.self in
    let ask : Ask = record { ticket = c.in-Ok.field-0; entry = c.args.entry } in
    let asked : c.submit.new.self.asked ≡ old.feed.asked ++ ask ∷ [] =
    ap (λ (f : FeedState). f.asked) c.in-Ok.ensures.asked in
    let collected : c.submit.new.self.collected ≡ old.feed.collected =
    ap (λ (f : FeedState). f.collected) c.in-Ok.ensures.asked in
    let most : old.under_way ≤ c.max-self.result = omega (arith, c.max-self.ensures) in
    let own : reference_of c.args.entry ≤ c.max-self.result =
    omega (arith, c.max-self.ensures, c.reference-in-Ok.ensures) in
    let is : 0 < reference_of c.args.entry
    → (old.posted < reference_of c.args.entry) × (old.under_way < reference_of c.args.entry) =
    subst (λ r. 0 < r → (old.posted < r) × (old.under_way < r)) c.reference-2.ensures
    (c.if-not-is_above.ensures.above refl) in
    let long = ap length asked ∙ length-append old.feed.asked (ask ∷ []) in
    let same = ap length collected in
    let counted = old.counted in
    record {
      counted = omega (arith, long, same, counted);
      within = subst (AreWithin old.posted) (sym collected) old.within;
      begun = subst (λ (asks : List Ask).
          AreUnderWay c.max-self.result asks c.submit.new.self.collected) (sym asked)
          (subst (AreUnderWay c.max-self.result (old.feed.asked ++ ask ∷ [])) (sym collected)
          (under-asked old.under_way c.max-self.result old.feed.asked ask old.feed.collected
          old.begun most own));
      above = subst (λ (asks : List Ask). AreAbove asks c.submit.new.self.collected) (sym asked)
          (subst (AreAbove (old.feed.asked ++ ask ∷ [])) (sym collected)
          (above-asked old.posted old.under_way old.feed.asked ask old.feed.collected old.within
          old.begun is old.above));
    }
