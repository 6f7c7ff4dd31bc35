use Rattle.std.proofs.Common.{◌≡◌, ◌≢◌, nat_eq, not, refl, sym, ◌∙◌, ap, subst, rules}
use Rattle.std.specs.Bool.{IsTrue}
use Rattle.sector_device.specs.Image.{Image}
use Rattle.gate_journal.specs.Reading.{HasMagic}
use Rattle.journal_recovery.specs.State.{State}
use Rattle.journal_recovery.specs.Recovery.{RecoversTo}
use Rattle.journal_recovery.specs.Recovered.{found_state}
use Rattle.journal_recovery.specs.Refused.{RecoveryRefuses}
use Rattle.journal_recovery.proofs.postings.may_hold_postings.Goals as goal

pub returns-in-Ok-clause-told : goal.returns-in-Ok-clause-told
returns-in-Ok-clause-told g c honest =
    let state = g.D.Device.state in
    let image = (state c.args.device).reads in
    let same : (state c.begins_as_journal.new.device).reads ≡ image =
    (c.begins_as_journal.ensures.looks.only honest).reads in
    let held : State = found_state c.in-Ok.found in
    let recovers : RecoversTo held image =
    subst (RecoversTo held) same
    (c.in-Ok.ensures.recovers (c.begins_as_journal.ensures.looks.call.stays_honest honest)) in
    let magic : HasMagic image = (c.in-Ok-true.ensures.told honest).0 c.in-Ok-true.field-0-test in
    let next : held.next ≡ c.next-next.result = sym c.next-next.ensures.value in
    let yes : c.next-next.result ≢ 0 → IsTrue (not (nat_eq c.next-next.result 0)) = search rules in
    let no : IsTrue (not (nat_eq c.next-next.result 0)) → c.next-next.result ≢ 0 = search rules in (
      λ told. record {
        begins = magic;
        not_fresh = λ s is zero.
            no told (sym next
            ∙ ap (λ (t : State). t.next) (c.one_recovery.ensures.state image held s recovers is)
            ∙ zero);
      },
      λ may. yes (λ zero. may.not_fresh held recovers (next ∙ zero)),
    )

pub returns-in-Err-recover-clause-told : goal.returns-in-Err-recover-clause-told
returns-in-Err-recover-clause-told g c honest =
    let state = g.D.Device.state in
    let image = (state c.args.device).reads in
    let same : (state c.begins_as_journal.new.device).reads ≡ image =
    (c.begins_as_journal.ensures.looks.only honest).reads in
    let magic : HasMagic image = (c.in-Ok-true.ensures.told honest).0 c.in-Ok-true.field-0-test in
    let other = c.if-is_of_image.ensures.0 refl in
    let refused : RecoveryRefuses image c.in-Err-recover.refusal =
    let still = c.begins_as_journal.ensures.looks.call.stays_honest honest in
    subst (λ (sectors : Image). RecoveryRefuses sectors c.in-Err-recover.refusal) same
    (c.in-Err-recover.ensures.refused still other.0 other.1) in (
      λ _. record {
        begins = magic;
        not_fresh = λ s is _.
            c.one_recovery.ensures.refused image s c.in-Err-recover.refusal is refused;
      },
      λ _. refl,
    )
