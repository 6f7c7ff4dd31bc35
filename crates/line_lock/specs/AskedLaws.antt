-- What a question leaves of a seat. The crates above may cite it.
use Rattle.std.specs.Prelude.{◌≡◌, ℕ, Result, Ok, Err}
use Rattle.std.proofs.Common.{◌∙◌, sym}
use Rattle.turn_clerk.specs.declared.refusals.FindRefusal.{FindRefusal}
use Rattle.turn_clerk.specs.declared.refusals.FindRefusal.TheVariants as find
use Rattle.line_lock.specs.Seat.{SeatState}
use Rattle.line_lock.specs.declared.refusals.BalanceRefusal.{BalanceRefusal}
use Rattle.line_lock.specs.declared.refusals.BalanceRefusal.TheVariants.{Faulted, NoAccount}
use Rattle.line_lock.specs.Asked.{NotesAlone, noted, searched}

pub noted-alone : (old new : SeatState) (account turns : ℕ) (answer : Result ℕ BalanceRefusal)
    → new ≡ noted old account turns answer → NotesAlone old new
noted-alone old new account turns (Ok amount) is =
    is ∙ (λ i. record old { told = (sym is i).told; faulted = (sym is i).faulted })
noted-alone old new account turns (Err Faulted) is =
    is ∙ (λ i. record old { told = (sym is i).told; faulted = (sym is i).faulted })
noted-alone old new account turns (Err NoAccount) is =
    is ∙ (λ i. record old { told = (sym is i).told; faulted = (sym is i).faulted })

pub searched-alone : {Told : Type 0} → (old new : SeatState) (answer : Result Told FindRefusal)
    → new ≡ searched old answer → NotesAlone old new
searched-alone old new (Ok told) is =
    is ∙ (λ i. record old { told = (sym is i).told; faulted = (sym is i).faulted })
searched-alone old new (Err find.Faulted) is =
    is ∙ (λ i. record old { told = (sym is i).told; faulted = (sym is i).faulted })
searched-alone old new (Err find.Changed) is =
    is ∙ (λ i. record old { told = (sym is i).told; faulted = (sym is i).faulted })
searched-alone old new (Err find.Device) is =
    is ∙ (λ i. record old { told = (sym is i).told; faulted = (sym is i).faulted })
