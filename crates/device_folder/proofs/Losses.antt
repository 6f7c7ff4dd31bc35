-- What a power loss leaves of files, one after the other.
use Rattle.std.proofs.Common.{◌≡◌, ℕ, zero, suc, ◌+◌, ◌<◌, ◌≤◌, List, [], ◌∷◌, length, get_or, set}
use Rattle.std.proofs.Common.{refl, sym, ◌∙◌, subst, inl, inr, arith}
use Rattle.std.specs.Prelude.{Option, None, Some, slice_get}
use Rattle.std.proofs.lemmas.Bool.{cases_eq}
use Rattle.std.proofs.lemmas.List.{get_or-set_same, get_or-set_other, length-set, get_or_default}
use Rattle.sector_device.specs.Image.{Image}
use Rattle.device_folder.specs.Names.{MayName, AreKnown, AreSettledBy}
use Rattle.device_folder.specs.Memory.{MayHold, IsLentOut, read_as}
use Rattle.device_folder.specs.Loss.{picks_of, IsLostBy, IsLostAt, AreLostBy, TakesPicks}
use Rattle.device_folder.specs.declared.loss.FileLeft.{FileLeft}
use Rattle.device_folder.specs.declared.names.Entry.{Entry}
use Rattle.device_folder.specs.declared.names.NameLeft.{NameLeft}
use Rattle.device_folder.specs.declared.memory.Slot.{Slot}
use Rattle.device_folder.specs.declared.memory.Slot.TheVariants.{Kept, Lent, Lost}

-- the first so many files have lost what is pending, and the others are as they were
pub record LostUpTo (choices : List FileLeft) (count : ℕ) (old new : List Slot) : Type 0 where
  pub size : length new ≡ length old
  pub lost : (k : ℕ) (d : Slot) → k < count → k < length old
      → IsLostBy (picks_of choices k) (get_or old k d) (get_or new k d)
  pub rest : (k : ℕ) (d : Slot) → count ≤ k → get_or new k d ≡ get_or old k d

pub one_more : (choices : List FileLeft) (i : ℕ) (old mid : List Slot) (slot new : Slot)
    → LostUpTo choices i old mid → i < length mid → get_or mid i slot ≡ slot
    → IsLostBy (picks_of choices i) slot new → LostUpTo choices (i + 1) old (set mid i new)
one_more choices i old mid slot new before lt was one = record {
  size = length-set mid i new ∙ before.size;
  lost = λ k d less inside. elim (cases_eq k i) [
    | inl same ↦ subst (λ (n : ℕ).
        IsLostBy (picks_of choices n) (get_or old n d) (get_or (set mid i new) n d)) (sym same)
        (subst (λ (s : Slot). IsLostBy (picks_of choices i) (get_or old i d) s)
        (sym (get_or-set_same mid i new d lt))
        (subst (λ (s : Slot). IsLostBy (picks_of choices i) s new)
        (sym was ∙ get_or_default mid i slot d lt ∙ before.rest i d (omega arith)) one))
    | inr differs ↦ subst (λ (s : Slot). IsLostBy (picks_of choices k) (get_or old k d) s)
        (sym (get_or-set_other mid i k new d differs))
        (before.lost k d (omega (arith, less, differs)) inside)
  ];
  rest = λ k d le. get_or-set_other mid i k new d (λ same. omega (arith, le, same))
      ∙ before.rest k d (omega (arith, le));
}

at : (picks : ℕ → List (ℕ × List ℕ)) (old new : List Slot) → length new ≡ length old
    → ((k : ℕ) (d : Slot) → k < length old → IsLostBy (picks k) (get_or old k d) (get_or new k d))
    → (file : ℕ) → IsLostAt (picks file) (slice_get old file) (slice_get new file)
at picks [] [] size each file = tt
at picks [] (y ∷ ys) size each file = absurd (omega (arith, size))
at picks (x ∷ xs) [] size each file = absurd (omega (arith, size))
at picks (x ∷ xs) (y ∷ ys) size each zero = each 0 x (omega arith)
at picks (x ∷ xs) (y ∷ ys) size each (suc file) =
    at (λ k. picks (suc k)) xs ys (omega (arith, size))
    (λ k d lt. each (suc k) d (omega (arith, lt)))
    file

pub all_lost : (choices : List FileLeft) (old new : List Slot)
    → LostUpTo choices (length old) old new → AreLostBy choices old new
all_lost choices old new up file =
    at (picks_of choices) old new up.size (λ k d lt. up.lost k d lt lt) file

-- what is known of a file afterwards
pub record IsLeft (picks : List (ℕ × List ℕ)) (old new : Option Slot) : Type 0 where
  pub picked : TakesPicks picks old (read_as new)
  pub lawful : MayHold old (read_as new)
  pub durable : (image : Image) → MayHold new image → image ≡ read_as new
  pub not_lent : IsLentOut new → ⊥

nothing_left : (picks : List (ℕ × List ℕ)) (old : Option Slot) → TakesPicks picks old []
    → MayHold old [] → IsLeft picks old (Some Lost)
nothing_left picks old picked lawful = record {
  picked = picked;
  lawful = lawful;
  durable = λ image is. is;
  not_lent = λ lent. lent;
}

pub is_left : (picks : List (ℕ × List ℕ)) (old new : Option Slot) → IsLostAt picks old new
    → IsLeft picks old new
is_left picks None None is = record {
  picked = refl;
  lawful = refl;
  durable = λ image is. is;
  not_lent = λ lent. lent;
}
is_left picks None (Some new) is = absurd is
is_left picks (Some old) None is = absurd is
is_left picks (Some (Kept old)) (Some (Kept new)) is = record {
  picked = is.picked;
  lawful = is.lawful;
  durable = is.durable;
  not_lent = λ lent. lent;
}
is_left picks (Some (Kept old)) (Some Lent) is = absurd is
is_left picks (Some (Kept old)) (Some Lost) is = absurd is
is_left picks (Some Lent) (Some new) is =
    subst (λ (slot : Slot). IsLeft picks (Some Lent) (Some slot)) (sym is)
    (nothing_left picks (Some Lent) refl tt)
is_left picks (Some Lost) (Some new) is =
    subst (λ (slot : Slot). IsLeft picks (Some Lost) (Some slot)) (sym is)
    (nothing_left picks (Some Lost) refl refl)

-- every file that a name stands for is still there
pub settled_known : (choices : List NameLeft) (old new : List Entry) (count more : ℕ)
    → AreKnown old count → count ≡ more → AreSettledBy choices old new → AreKnown new more
settled_known choices old new count more known same settled name file may =
    let lt : file < count = known name file
    (subst (λ (to : Option ℕ). MayName old name to) (sym (settled.durable name (Some file) may))
    (settled.chosen name).lawful) in omega (arith, lt, same)
