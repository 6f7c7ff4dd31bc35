-- The bytes of an entry keep the table of its place.
use Rattle.std.proofs.Common.{◌≡◌, ℕ, ◌+◌, ◌-◌, ◌<◌, ◌≤◌, Bool, true, false, List, get_or, take}
use Rattle.std.proofs.Common.{drop, replicate, sym, ◌∙◌, ap, refl, arith, inl, inr}
use Rattle.std.specs.Prelude.{slice_index}
use Rattle.std.specs.Int.{w32, w64, to_be_bytes}
use Rattle.std.proofs.lemmas.List.{get_or-drop, get_or-take, get_or_past, get_or-replicate}
use Rattle.std.proofs.lemmas.List.{length-replicate}
use Rattle.std.proofs.lemmas.Bool.{cases_lt}
use Rattle.turn_ledger.specs.Place.{place, place_bytes}
use Rattle.turn_ledger.specs.PlaceTable.{KeepsPlace}
use Rattle.turn_ledger.specs.declared.entry.Entry.{Entry}
use Rattle.turn_ledger.specs.declared.entry.Entry.TheVariants.{Deposit, Withdraw, Transfer, Seal}

-- zeros, also behind their end
zero_at : (n at : ℕ) → slice_index (replicate n 0) at ≡ 0
zero_at n at = elim (cases_lt at n) [
  | inl inside ↦ get_or-replicate n at 0 0 inside
  | inr past ↦ get_or_past (replicate n 0) at 0 (omega (arith, length-replicate {A = ℕ} n 0))
]

-- a byte of a part that is zeros
zero_in : (bytes : List ℕ) (from n at : ℕ) → take n (drop from bytes) ≡ replicate n 0 → from ≤ at
    → at < from + n → slice_index bytes at ≡ 0
zero_in bytes from n at is le lt =
    let back : at ≡ from + (at - from) = omega arith in
    let inside : at - from < n = omega arith in
    ap (λ (k : ℕ). get_or bytes k 0) back ∙ sym (get_or-drop from bytes (at - from) 0)
    ∙ sym (get_or-take n (drop from bytes) (at - from) 0 inside)
    ∙ ap (λ (xs : List ℕ). get_or xs (at - from) 0) is ∙ zero_at n (at - from)

place_keeps : (seals : Bool) (kind from to amount reference : ℕ) → 1 ≤ kind → kind ≤ 4
    → (seals ≡ false → kind ≤ 3) → (kind ≡ 1 → from ≡ 0) → (kind ≡ 2 → to ≡ 0) → (kind ≡ 4 → to ≡ 0)
    → (kind ≡ 4 → amount ≡ 0) → KeepsPlace seals (place kind from to amount reference)
unfolding place
place_keeps seals kind from to amount reference some most no_seal source target target_of_seal none
    at _ =
    let bytes = place kind from to amount reference in
    record {
      some_kind = λ _. some;
      most_kind = λ _. most;
      no_seal = λ _. no_seal;
      zeros = zero_in bytes 1 3 at refl;
      deposit_source = λ is. zero_in bytes 4 4 at (ap (to_be_bytes w32) (source is));
      withdrawal_target = λ is. zero_in bytes 8 4 at (ap (to_be_bytes w32) (target is));
      seal_target = λ is. zero_in bytes 8 4 at (ap (to_be_bytes w32) (target_of_seal is));
      spare = zero_in bytes 12 4 at refl;
      seal_amount = λ is. zero_in bytes 16 8 at (ap (to_be_bytes w64) (none is));
    }

pub entry_keeps : (entry : Entry) → KeepsPlace true (place_bytes entry)
entry_keeps (Deposit to amount reference) =
    place_keeps true 1 0 to amount reference
    (omega arith) (omega arith) (λ no. omega arith) (λ _. refl) (λ no. absurd (omega (arith, no)))
    (λ no. absurd (omega (arith, no))) (λ no. absurd (omega (arith, no)))
entry_keeps (Withdraw from amount reference) =
    place_keeps true 2 from 0 amount reference
    (omega arith) (omega arith) (λ no. omega arith) (λ no. absurd (omega (arith, no))) (λ _. refl)
    (λ _. refl) (λ no. absurd (omega (arith, no)))
entry_keeps (Transfer from to amount reference) =
    place_keeps true 3 from to amount reference
    (omega arith) (omega arith) (λ no. omega arith) (λ no. absurd (omega (arith, no)))
    (λ no. absurd (omega (arith, no))) (λ no. absurd (omega (arith, no)))
    (λ no. absurd (omega (arith, no)))
entry_keeps (Seal account reference) =
    place_keeps true 4 account 0 0 reference
    (omega arith) (omega arith) (λ no. cc) (λ no. absurd (omega (arith, no))) (λ _. refl)
    (λ _. refl) (λ _. refl)
