-- What a writer holds after several calls.
use Rattle.std.proofs.Common.{◌≡◌, ◌∙◌, ℕ, ◌+◌, ◌<◌, List, [], ◌++◌, length, take, drop, Option}
use Rattle.std.proofs.Common.{Some, None, append_assoc, append-nil, length-append, arith, sym}
use Rattle.std.proofs.Common.{subst, ap}
use Rattle.std.specs.Prelude.{IfSome}
use Rattle.std.specs.Io.KnownBytes.{Appends, Keeps, append_known}
use Rattle.std.proofs.Math.Seq.{take-append_seam, take-append-add}
use Rattle.std.proofs.lemmas.List.{take-append-drop}

both : (a b c : Option (List ℕ)) (xs ys : List ℕ) → Appends a b xs → Appends b c ys
    → Appends a c (xs ++ ys)
both None b c xs ys p q = tt
both (Some a) None c xs ys p q = absurd p
both (Some a) (Some b) None xs ys p q = absurd q
both (Some a) (Some b) (Some c) xs ys p q =
    q ∙ ap (λ (l : List ℕ). l ++ ys) p ∙ append_assoc a xs ys

pub more_written : (a b c : Option (List ℕ)) (bytes rest after : List ℕ) (n : ℕ)
    → ((written : List ℕ) × Appends a b written × (bytes ≡ written ++ rest))
    → Appends b c (take n rest) → after ≡ drop n rest
    → (written : List ℕ) × Appends a c written × (bytes ≡ written ++ after)
more_written a b c bytes rest after n h more left = (
  h.0 ++ take n rest,
  both a b c h.0 (take n rest) h.1 more,
  h.2 ∙ ap (λ (l : List ℕ). h.0 ++ l) (sym (take-append-drop n rest))
      ∙ sym (append_assoc h.0 (take n rest) (drop n rest))
      ∙ ap (λ (l : List ℕ). (h.0 ++ take n rest) ++ l) (sym left),
)

pub kept_both : (a b c : Option (List ℕ)) → Keeps a b → Keeps b c → Keeps a c
kept_both None b c p q = tt
kept_both (Some a) None c p q = absurd p
kept_both (Some a) (Some b) None p q = absurd q
kept_both (Some a) (Some b) (Some c) p q = q ∙ p

pub nothing_written : (a b c : Option (List ℕ)) → Keeps a b → Appends b c [] → Keeps a c
nothing_written None b c p q = tt
nothing_written (Some a) None c p q = absurd p
nothing_written (Some a) (Some b) None p q = absurd q
nothing_written (Some a) (Some b) (Some c) p q = q ∙ append-nil b ∙ p

still_written : (a b c : Option (List ℕ)) (xs : List ℕ) → Appends a b xs → Keeps b c
    → Appends a c xs
still_written None b c xs p q = tt
still_written (Some a) None c xs p q = absurd p
still_written (Some a) (Some b) None xs p q = absurd q
still_written (Some a) (Some b) (Some c) xs p q = q ∙ p

pub part_written : (a b c : Option (List ℕ)) (bytes rest : List ℕ)
    → ((written : List ℕ) × Appends a b written × (bytes ≡ written ++ rest))
    → 0 < length rest → Keeps b c → (n : ℕ) × (n < length bytes) × Appends a c (take n bytes)
part_written a b c bytes rest h more kept =
    let size : length bytes ≡ length h.0 + length rest = ap length h.2 ∙ length-append h.0 rest in
    let first : take (length h.0) bytes ≡ h.0 =
    ap (λ (l : List ℕ). take (length h.0) l) h.2 ∙ take-append_seam h.0 rest in (
      length h.0,
      omega arith,
      subst (λ (l : List ℕ). Appends a c l) (sym first) (still_written a b c h.0 h.1 kept),
    )

-- what a writer has that was handed a first part of what was gathered
pub first_part : (a b : Option (List ℕ)) (text bytes : List ℕ) → bytes ≡ text
    → ((n : ℕ) × (n < length bytes) × Appends a b (take n bytes))
    → IfSome (append_known a text) (λ all. (n : ℕ) × (n < length all) × (b ≡ Some (take n all)))
first_part None b text bytes same h = tt
first_part (Some a) None text bytes same h = absurd h.2
first_part (Some a) (Some b) text bytes same h =
    let part : b ≡ take (length a + h.0) (a ++ text) =
    h.2 ∙ ap (λ (l : List ℕ). a ++ take h.0 l) same ∙ sym (take-append-add a text h.0) in (
      length a + h.0,
      omega (arith, length-append a text, ap length same, h.1),
      ap (λ (l : List ℕ). Some l) part,
    )
