-- A device of zero sectors.
use Rattle.std.proofs.Common.{◌≡◌, ℕ, ◌<◌, List, [], length, replicate, get_or, sym, ◌∙◌, subst}
use Rattle.std.proofs.Common.{arith, inl, inr}
use Rattle.std.proofs.lemmas.List.{length-replicate, get_or-replicate, ext_get_or, get_or_past}
use Rattle.std.proofs.lemmas.Bool.{cases_lt}
use Rattle.sector_device.specs.Image.{IsImage, IsSector}

pub zero_sector : IsSector (replicate 512 0)
zero_sector = record {
  size = length-replicate {A = ℕ} 512 0;
  values = λ place. elim (cases_lt place 512) [
    | inl inside ↦ subst (λ (byte : ℕ). byte < 256) (sym (get_or-replicate 512 place 0 0 inside))
        (omega arith)
    | inr past ↦ subst (λ (byte : ℕ). byte < 256)
        (sym (get_or_past (replicate 512 0) place 0
        (omega (arith, past, length-replicate {A = ℕ} 512 0)))) (omega arith)
  ];
}

pub zero_image : (n : ℕ) → IsImage (replicate n (replicate 512 0))
zero_image n = record {
  each = λ at lt.
      subst IsSector (sym
      (get_or-replicate n at (replicate 512 0) []
      (omega (arith, lt, length-replicate {A = List ℕ} n (replicate 512 0))))) zero_sector;
}

pub same_sector : (bytes : List ℕ) → length bytes ≡ 512
    → ((k : ℕ) → k < 512 → get_or bytes k 0 ≡ get_or (replicate 512 0) k 0)
    → bytes ≡ replicate 512 0
same_sector bytes long each =
    ext_get_or 0 bytes (replicate 512 0) (long ∙ sym (length-replicate {A = ℕ} 512 0))
    (λ k lt. each k (omega (arith, lt, long)))
