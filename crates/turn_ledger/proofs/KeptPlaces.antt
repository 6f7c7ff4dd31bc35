-- Bytes that keep the table of a place are those of an entry.
use Rattle.std.proofs.Common.{◌≡◌, ℕ, ◌+◌, ◌<◌, ◌≤◌, ◌^◌, Bool, List, [], ◌∷◌, ◌++◌, length, take}
use Rattle.std.proofs.Common.{drop, replicate, sym, ◌∙◌, ap, refl, subst, arith, inl, inr}
use Rattle.std.proofs.Common.{take-append-drop}
use Rattle.std.specs.Prelude.{slice_index}
use Rattle.std.specs.Int.{w32, w64, to_be_bytes, from_be_bytes}
use Rattle.std.proofs.lemmas.List.{ext_get_or, get_or-drop, get_or-take, get_or_past}
use Rattle.std.proofs.lemmas.List.{get_or-replicate, length-replicate, length-drop, length-take-le}
use Rattle.std.proofs.lemmas.List.{take_all}
use Rattle.std.proofs.lemmas.Nat.{be_bytes_4, be_bytes_8}
use Rattle.std.proofs.lemmas.Bool.{cases_lt}
use Rattle.std.proofs.Math.Seq.{take-add}
use Rattle.turn_ledger.specs.Place.{zeros, place, place_bytes, IsInRange}
use Rattle.turn_ledger.specs.PlaceTable.{KeepsPlace}
use Rattle.turn_ledger.specs.declared.entry.Entry.{Entry}
use Rattle.turn_ledger.specs.declared.entry.Entry.TheVariants.{Deposit, Withdraw, Transfer, Seal}

-- a place at its fields
cut : (bytes : List ℕ)
    → take 4 bytes ++ take 4 (drop 4 bytes) ++ take 4 (drop 8 bytes) ++ take 4 (drop 12 bytes)
    ++ take 8 (drop 16 bytes) ++ drop 24 bytes ≡ bytes
cut bytes =
    ap (λ (xs : List ℕ). xs ++ take 4 (drop 8 bytes) ++ take 4 (drop 12 bytes)
    ++ take 8 (drop 16 bytes) ++ drop 24 bytes) (sym (take-add 4 4 bytes))
    ∙ ap (λ (xs : List ℕ). xs ++ take 4 (drop 12 bytes) ++ take 8 (drop 16 bytes) ++ drop 24 bytes)
    (sym (take-add 8 4 bytes))
    ∙ ap (λ (xs : List ℕ). xs ++ take 8 (drop 16 bytes) ++ drop 24 bytes)
    (sym (take-add 12 4 bytes))
    ∙ ap (λ (xs : List ℕ). xs ++ drop 24 bytes) (sym (take-add 16 8 bytes))
    ∙ take-append-drop 24 bytes

place_of_fields : (bytes : List ℕ) (kind from to amount reference : ℕ)
    → take 4 bytes ≡ kind ∷ 0 ∷ 0 ∷ 0 ∷ [] → to_be_bytes w32 from ≡ take 4 (drop 4 bytes)
    → to_be_bytes w32 to ≡ take 4 (drop 8 bytes) → take 4 (drop 12 bytes) ≡ zeros
    → to_be_bytes w64 amount ≡ take 8 (drop 16 bytes)
    → to_be_bytes w64 reference ≡ drop 24 bytes → bytes ≡ place kind from to amount reference
unfolding place
place_of_fields bytes kind from to amount reference first source target spare sum last =
    sym (cut bytes)
    ∙ (λ i. first i ++ sym source i ++ sym target i ++ spare i ++ sym sum i ++ sym last i)

first_four : (bytes : List ℕ) (a b c d : ℕ) → 4 ≤ length bytes → slice_index bytes 0 ≡ a
    → slice_index bytes 1 ≡ b → slice_index bytes 2 ≡ c → slice_index bytes 3 ≡ d
    → take 4 bytes ≡ a ∷ b ∷ c ∷ d ∷ []
first_four [] a b c d long e f g h = absurd (omega (arith, long))
first_four (v ∷ []) a b c d long e f g h = absurd (omega (arith, long))
first_four (v ∷ w ∷ []) a b c d long e f g h = absurd (omega (arith, long))
first_four (v ∷ w ∷ x ∷ []) a b c d long e f g h = absurd (omega (arith, long))
first_four (v ∷ w ∷ x ∷ y ∷ bytes) a b c d long e f g h = λ i. e i ∷ f i ∷ g i ∷ h i ∷ []

module _ (bytes : List ℕ) (long : length bytes ≡ 32)
    (values : (at : ℕ) → slice_index bytes at < 256) where
  long_part : (from n : ℕ) → from + n ≤ 32 → length (take n (drop from bytes)) ≡ n
  long_part from n fits =
      length-take-le n (drop from bytes) (omega (arith, long, fits, length-drop from bytes))

  part_values : (from n : ℕ) → from + n ≤ 32 → (at : ℕ)
      → slice_index (take n (drop from bytes)) at < 256
  part_values from n fits at = elim (cases_lt at n) [
    | inl within ↦ subst (λ (byte : ℕ). byte < 256)
        (sym (get_or-take n (drop from bytes) at 0 within ∙ get_or-drop from bytes at 0))
        (values (from + at))
    | inr past ↦ subst (λ (byte : ℕ). byte < 256)
        (sym (get_or_past (take n (drop from bytes)) at 0
        (omega (arith, past, long_part from n fits)))) (omega arith)
  ]

  -- the number in four bytes, and in eight
  four : (from : ℕ) → from + 4 ≤ 32
      → (n : ℕ) × (n < 2 ^ 32) × (to_be_bytes w32 n ≡ take 4 (drop from bytes))
  four from fits =
      let part = take 4 (drop from bytes) in
      let each = part_values from 4 fits in (
        from_be_bytes w32 part,
        omega (arith, each 0, each 1, each 2, each 3),
        be_bytes_4 part (from_be_bytes w32 part) (long_part from 4 fits) each refl,
      )

  eight : (from : ℕ) → from + 8 ≤ 32
      → (n : ℕ) × (n < 2 ^ 64) × (to_be_bytes w64 n ≡ take 8 (drop from bytes))
  eight from fits =
      let part = take 8 (drop from bytes) in
      let each = part_values from 8 fits in (
        from_be_bytes w64 part,
        omega (arith, each 0, each 1, each 2, each 3, each 4, each 5, each 6, each 7),
        be_bytes_8 part (from_be_bytes w64 part) (long_part from 8 fits) each refl,
      )

  -- bytes that are zero
  zero_part : (from n : ℕ) → from + n ≤ 32
      → ((at : ℕ) → from ≤ at → at < from + n → slice_index bytes at ≡ 0)
      → replicate n 0 ≡ take n (drop from bytes)
  zero_part from n fits none =
      let size : length (replicate {A = ℕ} n 0) ≡ n = length-replicate {A = ℕ} n 0 in
      ext_get_or 0 (replicate n 0) (take n (drop from bytes)) (size ∙ sym (long_part from n fits))
      (λ at lt.
      let within : at < n = omega (arith, lt, size) in
      let is : slice_index bytes (from + at) ≡ 0 =
      none (from + at) (omega arith) (omega (arith, within)) in
      get_or-replicate n at 0 0 within
      ∙ sym (get_or-take n (drop from bytes) at 0 within ∙ get_or-drop from bytes at 0 ∙ is))

  pub kept_place : (seals : Bool) → KeepsPlace seals bytes
      → (entry : Entry) × IsInRange entry × (bytes ≡ place_bytes entry)
  kept_place seals keeps =
      let kind = slice_index bytes 0 in
      let some : 1 ≤ kind = (keeps 0 (omega arith)).some_kind refl in
      let most : kind ≤ 4 = (keeps 0 (omega arith)).most_kind refl in
      let first = first_four bytes kind 0 0 0 (omega (arith, long)) refl
      ((keeps 1 (omega arith)).zeros (omega arith) (omega arith))
      ((keeps 2 (omega arith)).zeros (omega arith) (omega arith))
      ((keeps 3 (omega arith)).zeros (omega arith) (omega arith)) in
      let spare = sym
      (zero_part 12 4 (omega arith)
      (λ at low high. (keeps at (omega (arith, high))).spare low high)) in
      let source = four 4 (omega arith) in
      let target = four 8 (omega arith) in
      let amount = eight 16 (omega arith) in
      let reference = eight 24 (omega arith) in
      let last = reference.2
      ∙ take_all 8 (drop 24 bytes) (omega (arith, long, length-drop 24 bytes)) in
      let told = λ (k from to sum : ℕ) (is : kind ≡ k)
      (f : to_be_bytes w32 from ≡ take 4 (drop 4 bytes))
      (t : to_be_bytes w32 to ≡ take 4 (drop 8 bytes))
      (s : to_be_bytes w64 sum ≡ take 8 (drop 16 bytes)).
      place_of_fields bytes k from to sum reference.0
      (first ∙ ap (λ (byte : ℕ). byte ∷ 0 ∷ 0 ∷ 0 ∷ []) is) f t spare s last in
      elim (cases_lt kind 2) [
        | inl lt ↦
            let is : kind ≡ 1 = omega (arith, some, lt) in (
              Deposit target.0 amount.0 reference.0,
              (target.1, amount.1, reference.1),
              told 1 0 target.0 amount.0 is
                  (zero_part 4 4 (omega arith)
                  (λ at low high. (keeps at (omega (arith, high))).deposit_source is low high))
                  target.2 amount.2,
            )
        | inr more ↦ elim (cases_lt kind 3) [
          | inl lt ↦
              let is : kind ≡ 2 = omega (arith, more, lt) in (
                Withdraw source.0 amount.0 reference.0,
                (source.1, amount.1, reference.1),
                told 2 source.0 0 amount.0 is source.2
                    (zero_part 8 4 (omega arith)
                    (λ at low high.
                    (keeps at (omega (arith, high))).withdrawal_target is low high)) amount.2,
              )
          | inr more ↦ elim (cases_lt kind 4) [
            | inl lt ↦
                let is : kind ≡ 3 = omega (arith, more, lt) in (
                  Transfer source.0 target.0 amount.0 reference.0,
                  (source.1, target.1, amount.1, reference.1),
                  told 3 source.0 target.0 amount.0 is source.2 target.2 amount.2,
                )
            | inr more ↦
                let is : kind ≡ 4 = omega (arith, more, most) in (
                  Seal source.0 reference.0,
                  (source.1, reference.1),
                  told 4 source.0 0 0 is source.2
                      (zero_part 8 4 (omega arith)
                      (λ at low high. (keeps at (omega (arith, high))).seal_target is low high))
                      (zero_part 16 8 (omega arith)
                      (λ at low high.
                      (keeps at (omega (arith, high))).seal_amount is low high)),
                )
          ]
        ]
      ]
