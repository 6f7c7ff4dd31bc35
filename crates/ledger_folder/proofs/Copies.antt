-- Names of copies, and what a crash leaves of a folder that a copy is put into.
use Rattle.std.proofs.Common.{◌≡◌, ◌≢◌, inl, inr, ⊎_elim, ℕ, ◌+◌, ◌-◌, List, [], ◌++◌, length, ap}
use Rattle.std.proofs.Common.{◌∙◌, arith}
use Rattle.std.specs.Prelude.{replicate}
use Rattle.std.specs.Fmt.{decimal, styled_decimal, format_spec, padded_integral}
use Rattle.std.specs.Fmt.{char_count}
use Rattle.std.proofs.lemmas.List.{length-append, length-replicate, append-nil}
use Rattle.sector_device.specs.Image.{Image}
use Rattle.journal_recovery.specs.State.{State}
use Rattle.journal_recovery.specs.Recovery.{RecoversTo}
use Rattle.device_folder.specs.Folder.{FolderState}
use Rattle.device_folder.specs.Crash.{LeavesOnly, weakened}
use Rattle.device_folder.specs.Put.{IsBeforeOrAfter}
use Rattle.ledger_folder.specs.Copies.{unfinished, name_of, IsCopiedOrNot}

-- the name of a copy is longer than that of one that isn't finished
pub unfinished_differs : (number : ℕ) → unfinished ≢ name_of number
unfinished_differs number same =
    let digits : ℕ = length (decimal number) in
    let long : length (name_of number) ≡ (20 - digits) + digits =
    length-append (replicate (20 - digits) 48) (decimal number)
    ∙ ap (λ (n : ℕ). n + digits) (length-replicate (20 - digits) 48) in
    let short : 10 ≡ length (name_of number) = ap length same in
    omega (arith, long, short)

-- what `{:020}` writes
pub in_twenty_digits : (number : ℕ)
    → styled_decimal (format_spec 32 0 4 20 18446744073709551615) number ≡ name_of number
unfolding padded_integral char_count
in_twenty_digits number =
    let digits : ℕ = length (decimal number) in
    let zeros : 20 - digits - 0 - 0 ≡ 20 - digits = omega arith in
    ap (λ (count : ℕ). replicate count 48 ++ (decimal number ++ [])) zeros
    ∙ ap (λ (text : List ℕ). replicate (20 - length (decimal number)) 48 ++ text)
    (append-nil (decimal number))

-- what is so of a copy of the state that was recovered is so of the ledger
pub of_ledger : (held : State) (original : Image) (old new : FolderState)
    → RecoversTo held original
    → LeavesOnly old new (IsBeforeOrAfter unfinished (name_of held.next) (RecoversTo held) old)
    → LeavesOnly old new (IsCopiedOrNot original old)
of_ledger held original old new recovers =
    weakened old new (IsBeforeOrAfter unfinished (name_of held.next) (RecoversTo held) old)
    (IsCopiedOrNot original old)
    (λ left. ⊎_elim (λ before. inl before)
    (λ after. inr (record { held = held; recovers = recovers; copy = after })))
