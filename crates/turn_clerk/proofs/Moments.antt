-- The moments at which turns were acknowledged, and what a crash left since each of them.
use Rattle.std.proofs.Common.{◌≡◌, ◌≤◌, ◌∷◌, ◌++◌, [], ℕ, List, Some, length, take, drop, sym, ◌∙◌}
use Rattle.std.proofs.Common.{ap, subst, arith, length-append}
use Rattle.std.specs.Prelude.{slice_get, ◌⊎◌}
use Rattle.std.proofs.lemmas.List.{take-append-le, take_all, take-append-drop}
use Rattle.std.proofs.lemmas.Grind.{flat_map-append}
use Rattle.std.proofs.lemmas.Option.{slice_get_within}
use Rattle.sector_device.specs.Image.{Image}
use Rattle.sector_device.specs.Device.{DeviceState, IsSound}
use Rattle.sector_device.specs.Crash.{LeavesOnly, nothing_happened, joined, weakened}
use Rattle.gate_journal.specs.Journal.{JournalState}
use Rattle.gate_journal.specs.OneMore.{each_there}
use Rattle.turn_ledger.specs.declared.entry.Entry.{Entry}
use Rattle.journal_recovery.specs.State.{State, state_after}
use Rattle.journal_recovery.specs.Recovery.{RecoversTo}
use Rattle.turn_clerk.specs.declared.turns.Turn.{Turn}
use Rattle.turn_clerk.specs.Turn.{accepted_of, as_batch}
use Rattle.turn_clerk.specs.History.{batches_of}
use Rattle.turn_clerk.specs.Clerk.{RecoversToPrefix, NeverFall}
use Rattle.turn_clerk.proofs.Prefixes.{fewer, ever_more}

-- the first turns journaled no more batches than all
pub fewer_batches : (turns : ℕ) (history : List Turn)
    → length (batches_of (take turns history)) ≤ length (batches_of history)
fewer_batches turns history =
    let all : batches_of history
    ≡ batches_of (take turns history) ++ batches_of (drop turns history) =
    ap batches_of (sym (take-append-drop turns history))
    ∙ flat_map-append (λ (t : Turn). as_batch (accepted_of t)) (take turns history)
    (drop turns history) in
    omega (
      arith,
      ap length all,
      length-append (batches_of (take turns history)) (batches_of (drop turns history)),
    )

module _ {D : Type 0} (state : D → DeviceState) where
  -- what a crash left since that moment, when so many of these turns had been acknowledged
  abbrev pub Held : State → List (List Entry) → List Turn → ℕ → JournalState D → DeviceState
      → Type 0
  Held from batches history turns then now =
      LeavesOnly (state then.device) now
      (RecoversToPrefix from batches (length (batches_of (take turns history))))

  abbrev pub HeldSince : State → List (List Entry) → List Turn → List (JournalState D) → DeviceState
      → Type 0
  HeldSince from batches history journals now =
      (turns : ℕ) (then : JournalState D) → slice_get journals turns ≡ Some then
      → Held from batches history turns then now

  -- one moment more, the last
  pub in_order_more : (journals : List (JournalState D)) (new : JournalState D)
      → NeverFall state journals
      → ((m : ℕ) (then : JournalState D) → slice_get (journals ++ new ∷ []) m ≡ Some then
      → (state then.device).moment ≤ (state new.device).moment)
      → NeverFall state (journals ++ new ∷ [])
  in_order_more journals new before last m n earlier later le is_earlier is_later =
      each_there (λ k y. m ≤ k → (state earlier.device).moment ≤ (state y.device).moment) journals
      new
      (λ k y there within.
      each_there (λ j e. j ≤ k → (state e.device).moment ≤ (state y.device).moment) journals new
      (λ j e is before_it. before j k e y before_it is there)
      (λ behind. omega (arith, behind, slice_get_within journals k y there))
      m earlier is_earlier within)
      (λ _. last m earlier is_earlier) n later is_later le

  -- while a batch is written
  pub held_on : (from present : State) (history : List Turn) (more : List (List Entry))
      → present ≡ state_after from (batches_of history)
      → state_after present more ≡ state_after from (batches_of history ++ more)
      → (journals : List (JournalState D)) (old new : DeviceState)
      → HeldSince from (batches_of history) history journals old
      → LeavesOnly old new
      (λ image. RecoversTo present image ⊎ RecoversTo (state_after present more) image)
      → HeldSince from (batches_of history ++ more) history journals new
  held_on from present history more before after journals old new held moments turns then there =
      ever_more from present (batches_of history) more before after
      (length (batches_of (take turns history))) (fewer_batches turns history)
      (state then.device) old new
      (held turns then there) moments

  -- while the device is only read
  pub held_still : (from : State) (batches : List (List Entry)) (history : List Turn)
      (journals : List (JournalState D)) (old new : DeviceState)
      → HeldSince from batches history journals old
      → LeavesOnly old new (RecoversToPrefix from batches (length (batches_of history)))
      → HeldSince from batches history journals new
  held_still from batches history journals old new held moments turns then there =
      let least = length (batches_of (take turns history)) in
      joined (state then.device) old new (RecoversToPrefix from batches least)
      (held turns then there)
      (weakened old new (RecoversToPrefix from batches (length (batches_of history)))
      (RecoversToPrefix from batches least)
      (λ image prefix.
      fewer from batches (length (batches_of history)) least image (fewer_batches turns history)
      prefix) moments)

  -- a turn more was acknowledged, now
  pub held_more : (from : State) (batches : List (List Entry)) (history : List Turn) (turn : Turn)
      (journals : List (JournalState D)) (new : JournalState D)
      → length journals ≡ length (turn ∷ history) → IsSound (state new.device)
      → HeldSince from batches history journals (state new.device)
      → ((image : Image) → (state new.device).may_leave image
      → RecoversToPrefix from batches (length (batches_of (history ++ turn ∷ []))) image)
      → HeldSince from batches (history ++ turn ∷ []) (journals ++ new ∷ []) (state new.device)
  held_more from batches history turn journals new one_each sound held now =
      each_there (λ n then. Held from batches (history ++ turn ∷ []) n then (state new.device))
      journals new
      (λ n then there.
      subst (λ (ts : List Turn).
      LeavesOnly (state then.device) (state new.device)
      (RecoversToPrefix from batches (length (batches_of ts))))
      (sym (take-append-le n history (turn ∷ [])
      (omega (arith, one_each, slice_get_within journals n then there)))) (held n then there))
      (subst (λ (ts : List Turn).
      LeavesOnly (state new.device) (state new.device)
      (RecoversToPrefix from batches (length (batches_of ts))))
      (sym (take_all (length journals) (history ++ turn ∷ [])
      (omega (arith, one_each, length-append history (turn ∷ [])))))
      (nothing_happened (state new.device)
      (RecoversToPrefix from batches (length (batches_of (history ++ turn ∷ [])))) sound now))

  -- at the opening
  pub in_order_first : (journal : JournalState D) → NeverFall state (journal ∷ [])
  in_order_first journal =
      in_order_more [] journal
      (λ m n earlier later le is_earlier is_later.
      omega (arith, slice_get_within [] m earlier is_earlier))
      (each_there (λ m then. (state then.device).moment ≤ (state journal.device).moment) [] journal
      (λ m then there. omega (arith, slice_get_within [] m then there)) (omega arith))

  pub held_first : (from : State) (journal : JournalState D) → IsSound (state journal.device)
      → ((image : Image) → (state journal.device).may_leave image
      → RecoversToPrefix from [] 0 image)
      → HeldSince from [] [] (journal ∷ []) (state journal.device)
  held_first from journal sound now =
      each_there (λ n then. Held from [] [] n then (state journal.device)) [] journal
      (λ n then there. absurd (cc))
      (nothing_happened (state journal.device) (RecoversToPrefix from [] 0) sound now)
