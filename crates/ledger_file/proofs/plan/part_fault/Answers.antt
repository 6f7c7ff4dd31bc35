use Rattle.std.proofs.Common.{refl, ap, subst}
use Rattle.std.specs.Prelude.{Some}
use Rattle.gate_journal.specs.declared.first_sector.FirstSector.TheVariants as says
use Rattle.ledger_file.specs.declared.refusal.LedgerRefusal.TheVariants.{OtherVersion}
use Rattle.ledger_file.specs.Plan.{IsPart}
use Rattle.ledger_file.proofs.Parts.{IsSaid, cause_of, part_of, other_one, same_fault, short_both}
use Rattle.ledger_file.proofs.Parts.{whole_none}
use Rattle.ledger_file.proofs.plan.part_fault.Goals as goal

pub short_fault-requires : goal.short_fault-requires
short_fault-requires c = ((c.in-Journal.ensures.journal c.in-Journal.slots).0 refl).2

pub returns-in-OtherVersion-clause-some : goal.returns-in-OtherVersion-clause-some
returns-in-OtherVersion-clause-some c fault =
    let bytes = c.args.first.now in
    let version = c.in-OtherVersion.version in
    let told = c.in-OtherVersion.ensures in
    let said : IsSaid bytes (says.OtherVersion version) = record {
      no_journal = told.no_journal;
      other_version = told.other_version;
      unsound = told.unsound;
      journal = told.journal;
    } in (
      λ e. subst (IsPart bytes c.args.found) (same_fault (OtherVersion version) fault e)
          (part_of bytes (says.OtherVersion version) said c.args.found (OtherVersion version) refl),
      λ part. ap Some
          (other_one (says.OtherVersion version) c.args.found version fault refl
          (cause_of bytes (says.OtherVersion version) said c.args.found fault part)),
    )

pub returns-in-Journal-clause-some : goal.returns-in-Journal-clause-some
returns-in-Journal-clause-some c =
    let told = c.in-Journal.ensures in
    let said : IsSaid c.args.first.now (says.Journal c.in-Journal.slots) = record {
      no_journal = told.no_journal;
      other_version = told.other_version;
      unsound = told.unsound;
      journal = told.journal;
    } in
    short_both c.args.first.now c.in-Journal.slots c.args.found said c.short_fault.result
    c.short_fault.ensures.some c.short_fault.ensures.short c.short_fault.ensures.whole

pub returns-in-Journal-clause-none : goal.returns-in-Journal-clause-none
returns-in-Journal-clause-none c =
    let told = c.in-Journal.ensures in
    let said : IsSaid c.args.first.now (says.Journal c.in-Journal.slots) = record {
      no_journal = told.no_journal;
      other_version = told.other_version;
      unsound = told.unsound;
      journal = told.journal;
    } in
    whole_none c.args.first.now c.in-Journal.slots c.args.found said c.short_fault.result
    c.short_fault.ensures.whole
