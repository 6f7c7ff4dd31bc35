-- Lists of at most as many items as one batch has, held in an array with a count.
use Rattle.std.specs.Prelude.{◌≡◌, ℕ, ◌+◌, ◌-◌, ◌≤◌, List, ◌++◌, length, take, drop, replicate}
use Rattle.std.specs.Prelude.{refl}
use Rattle.std.proofs.Common.{◌∙◌, ◌<◌, ap, sym, set, arith}
use Rattle.std.proofs.lemmas.List.{take-append-drop, length-take-le, length-append, length-drop}
use Rattle.std.proofs.lemmas.List.{length-replicate, length-set, drop_at, drop-replicate}
use Rattle.std.proofs.lemmas.List.{drop-set-lt, drop-drop}
use Rattle.turn_ledger.specs.declared.limits.TheConstants.{BATCH_LIMIT}

-- the places from the count on hold the filler, so that the items alone give the array back
pub record IsFilled {X : Type 0} (filler : X) (places : List X) (count : ℕ) : Type 0 where
  pub all_places : length places ≡ BATCH_LIMIT
  pub count_fits : count ≤ BATCH_LIMIT
  pub unused : drop count places ≡ replicate (BATCH_LIMIT - count) filler

-- the array that holds these items
abbrev pub filled : {X : Type 0} → X → List X → List X
filled filler items = items ++ replicate (BATCH_LIMIT - length items) filler

pub filled-take : {X : Type 0} (filler : X) (places : List X) (count : ℕ)
    → IsFilled filler places count
    → (filled filler (take count places) ≡ places) × (length (take count places) ≡ count)
filled-take {X} filler places count h =
    let size : length (take count places) ≡ count = length-take-le count places (omega arith) in (
      ap (λ (n : ℕ). take count places ++ replicate (BATCH_LIMIT - n) filler) size
          ∙ ap (λ (rest : List X). take count places ++ rest) (sym h.unused)
          ∙ take-append-drop count places,
      size,
    )

-- items written over the first of the unused places
pub IsFilled-over : {X : Type 0} (filler : X) (items : List X) → length items ≤ BATCH_LIMIT
    → IsFilled filler (items ++ drop (length items) (replicate BATCH_LIMIT filler)) (length items)
IsFilled-over {X} filler items h = record {
  all_places = length-append items _
      ∙ ap (λ (n : ℕ). length items + n)
      (length-drop (length items) (replicate BATCH_LIMIT filler)
      ∙ ap (λ (n : ℕ). n - length items) (length-replicate BATCH_LIMIT filler)) ∙ omega arith;
  count_fits = h;
  unused = drop_at items _ (length items) refl ∙ drop-replicate (length items) BATCH_LIMIT filler;
}

-- one more item, at the first unused place
pub IsFilled-push : {X : Type 0} (filler item : X) (places : List X) (count : ℕ)
    → IsFilled filler places count → count < BATCH_LIMIT
    → IsFilled filler (set places count item) (count + 1)
IsFilled-push {X} filler item places count h room = record {
  all_places = length-set places count item ∙ h.all_places;
  count_fits = omega arith;
  unused = drop-set-lt (count + 1) places count item (omega arith)
      ∙ sym (drop-drop 1 count places)
      ∙ ap (λ (rest : List X). drop 1 rest) h.unused
      ∙ drop-replicate 1 (BATCH_LIMIT - count) filler
      ∙ ap (λ (n : ℕ). replicate n filler) (omega arith);
}
