use Rattle.std.proofs.Common.{rules, ◌≡◌, ◌++◌, [], List, false, ◌∙◌, ap, sym, subst}
use Rattle.sector_device.specs.Image.{Image}
use Rattle.gate_journal.specs.Reading.{ReadsAs}
use Rattle.turn_ledger.specs.State.{IsLedger}
use Rattle.journal_recovery.specs.Recovery.{RecoversTo, HoldsState}
use Rattle.turn_clerk.specs.declared.turns.Turn.{Turn}
use Rattle.turn_clerk.specs.Clerk.{ClerkState}
use Rattle.turn_clerk.specs.History.{moves_of, batches_of, stations_of}
use Rattle.turn_clerk.specs.FarBack.{SeesAsFar}
use Rattle.turn_clerk.proofs.AfterOpening.{begun}
use Rattle.turn_clerk.proofs.FarBack.{far_at_opening}
use Rattle.turn_clerk.proofs.clerk.Clerk.begin_anew.Goals as goal

pub invariant_of-clerk : goal.invariant_of-clerk
invariant_of-clerk g c =
    let state = g.D.Device.state in
    let k = c.clerk.inside in
    let works : k.journal.faulted ≡ false =
    ap (λ (s : ClerkState g.row.D.Denot). s.journal.faulted) c.clerk.view_is
    ∙ sym c.is_faulted.ensures ∙ c.if-is_faulted.false in
    let is_ledger : IsLedger k.ledger =
    subst IsLedger c.copy_from.ensures.copied c.copy_from.ensures.ledger in
    let holds : (state k.journal.device).honest
    → HoldsState state k.journal (record { ledger = k.ledger; next = k.journal.next }) =
    λ honest. (c.clerk.invariant.is_clerk.at_rest honest).holds works in
    let left : (state k.journal.device).honest → (image : Image)
    → (state k.journal.device).may_leave image
    → RecoversTo (record { ledger = k.ledger; next = k.journal.next }) image = λ honest image may.
    let held = holds honest in record {
      slots = k.journal.slots;
      live = k.journal.live;
      contents = held.contents;
      reads = subst (λ (i : Image). ReadsAs i k.journal.slots k.journal.live held.contents)
          (sym (held.is_at.durable image may)) held.is_at.reads;
      stand_for = held.stand_for;
    } in
    let no_turns : c.clear.new.self.items ≡ [] = c.clear.ensures.items in
    record {
      is_clerk =
          begun state g.met.D.Device.sound k.journal k.ledger c.args.line is_ledger works holds left
          c.clear.new.self.items c.of.result.value c.copy_from.new.self no_turns
          c.of.ensures c.copy_from.ensures.copied;
      moves = c.clear-2.ensures.items ∙ ap moves_of (sym no_turns);
      opening_next = search rules;
      looks_back = c.clerk.invariant.looks_back;
      sees_as_far =
          subst (λ (turns : List Turn).
          SeesAsFar state c.of.result.value k.journal (batches_of turns ++ [])
          (stations_of turns ++ [])) (sym no_turns)
          (far_at_opening state g.met.D.Device.sound c.one_reading.ensures.contents
          c.one_reading.ensures.earlier c.of.result.value k.journal c.of.ensures
          (λ honest. let held = holds honest in (held.contents, held.is_at)));
    }
