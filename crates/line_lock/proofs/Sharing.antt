-- What of an office may be sent to other threads, and what they may share, over any device that may
-- be sent. Rattle finds this itself for types that are less deep.
use denote.RattleType.{RattleType}
use denote.Struct.Declared.{shape}
use denote.Param.Send.{IsSend, IsSync, sendable, view_send, struct_send, struct_sync, recorded_send}
use denote.Param.Send.{recorded_sync}
use Rattle.std.proofs.Crossing.{crosses}
use Rattle.std.proofs.sync.Mutex.TheSendSync as mutex
use Rattle.sector_device.specs.declared.device.Device as device
use Rattle.std.specs.declared.sync.ledger.Ledger as ledger
use Rattle.std.proofs.sync.ledger.Book.TheSendSync as book_sends
use Rattle.std.proofs.sync.ledger.Share.TheSendSync as share_sends
use Rattle.turn_clerk.specs.contracts.clerk.Clerk as clerk
use Rattle.line_lock.specs.declared.opened_on.OpenedOn as opening
use Rattle.line_lock.specs.contracts.locked.Locked as locked
use Rattle.line_lock.specs.contracts.locked.Locked.TheInside as inside
use Rattle.line_lock.specs.contracts.office.Office as office

module _ (D : RattleType) (state : device.Ghosts D.Denot) (send : IsSend D) where
  clerk_send : IsSend (clerk.the_row D state)
  clerk_send = search (crosses, sendable) depth 60 fits 100000

  module _ (L : RattleType) (named : ledger.Ghosts L.Denot) (opened : opening.Ghosts L.Denot)
      (send_name : IsSend L) where
    locked_send : IsSend (locked.the_row D L state named opened)
    locked_send =
        view_send _ _ _ _ _
        (recorded_send _ _ _ (inside.the_type D L state named opened).to_one
        (struct_send (shape (inside.the_type D L state named opened))
        (clerk_send, (book_sends.the_send L named, (share_sends.the_send L named, tt)))))

    pub office_sync : IsSync (office.the_row D L state named opened)
    office_sync =
        recorded_sync _ _ _ (office.the_type D L state named opened).to_one
        (struct_sync (shape (office.the_type D L state named opened))
        (mutex.the_sync (locked.the_row D L state named opened) locked_send, tt))
