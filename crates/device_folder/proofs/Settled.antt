-- What settling each entry does to names.
use Rattle.std.proofs.Common.{◌≡◌, ℕ, suc, ◌+◌, ◌<◌, ◌≤◌, Bool, true, false, List, [], ◌∷◌}
use Rattle.std.proofs.Common.{length, get_or}
use Rattle.std.proofs.Common.{set, cond, refl, sym, ◌∙◌, ap, subst, inl, inr, arith}
use Rattle.std.specs.Prelude.{Option, None, Some, Contains, bytes_eq, string_bytes}
use Rattle.std.proofs.lemmas.Bool.{cases_eq}
use Rattle.std.proofs.lemmas.List.{get_or-set_same, get_or-set_other, length-set}
use Rattle.std.proofs.lemmas.List.{get_or_default}
use Rattle.std.proofs.lemmas.Slice.Eq.{bytes_eq-Decides}
use Rattle.device_folder.specs.Folder.{Name}
use Rattle.device_folder.specs.Names.{has_name, entry_of, file_in, MayStand}
use Rattle.device_folder.specs.Names.{choice_of, TakesChoice, IsSettledBy, AreSettledBy}
use Rattle.device_folder.specs.declared.names.Entry.{Entry}
use Rattle.device_folder.specs.declared.names.NameLeft.{NameLeft}

-- the first so many entries are settled, and the others as they were
pub record SettledUpTo (choices : List NameLeft) (count : ℕ) (old new : List Entry) : Type 0 where
  pub size : length new ≡ length old
  pub settled : (k : ℕ) (d : Entry) → k < count → k < length old
      → IsSettledBy choices (get_or old k d) (get_or new k d)
  pub rest : (k : ℕ) (d : Entry) → count ≤ k → get_or new k d ≡ get_or old k d

pub none_settled : (choices : List NameLeft) (entries : List Entry)
    → SettledUpTo choices 0 entries entries
none_settled choices entries = record {
  size = refl;
  settled = λ k d less _. absurd (omega (arith, less));
  rest = λ k d _. refl;
}

pub one_more : (choices : List NameLeft) (i : ℕ) (old mid : List Entry) (entry new : Entry)
    → SettledUpTo choices i old mid → i < length mid → get_or mid i entry ≡ entry
    → IsSettledBy choices entry new → SettledUpTo choices (i + 1) old (set mid i new)
one_more choices i old mid entry new before lt was one = record {
  size = length-set mid i new ∙ before.size;
  settled = λ k d less inside. elim (cases_eq k i) [
    | inl same ↦ subst (λ (n : ℕ).
        IsSettledBy choices (get_or old n d) (get_or (set mid i new) n d))
        (sym same)
        (subst (λ (e : Entry). IsSettledBy choices (get_or old i d) e)
        (sym (get_or-set_same mid i new d lt))
        (subst (λ (e : Entry). IsSettledBy choices e new)
        (sym was ∙ get_or_default mid i entry d lt ∙ before.rest i d (omega arith)) one))
    | inr differs ↦ subst (λ (e : Entry). IsSettledBy choices (get_or old k d) e)
        (sym (get_or-set_other mid i k new d differs))
        (before.settled k d (omega (arith, less, differs)) inside)
  ];
  rest = λ k d le. get_or-set_other mid i k new d (λ same. omega (arith, le, same))
      ∙ before.rest k d (omega (arith, le));
}

-- what was found under a name before and afterwards
Looked : List NameLeft → Name → Option Entry → Option Entry → Type 0
Looked choices name None None = Unit {0}
Looked choices name None (Some new) = ⊥
Looked choices name (Some old) None = ⊥
Looked choices name (Some old) (Some new) =
    IsSettledBy choices old new × (string_bytes old.name ≡ name)

pick : (choices : List NameLeft) (name : Name) (b : Bool) (x y : Entry) (found after : Option Entry)
    → (b ≡ true → Looked choices name (Some x) (Some y)) → Looked choices name found after
    → Looked choices name (cond b (Some x) found) (cond b (Some y) after)
pick choices name true x y found after here there = here refl
pick choices name false x y found after here there = there

looked : (choices : List NameLeft) (name : Name) (old new : List Entry) → length new ≡ length old
    → ((k : ℕ) (d : Entry) → k < length old → IsSettledBy choices (get_or old k d) (get_or new k d))
    → Looked choices name (entry_of old name) (entry_of new name)
unfolding Looked
looked choices name [] [] size each = tt
looked choices name [] (y ∷ ys) size each = absurd (omega (arith, size))
looked choices name (x ∷ xs) [] size each = absurd (omega (arith, size))
looked choices name (x ∷ xs) (y ∷ ys) size each =
    let one : IsSettledBy choices x y = each 0 x (omega arith) in
    subst (λ (b : Bool). Looked choices name (entry_of (x ∷ xs) name)
    (cond b (Some y) (entry_of ys name)))
    (ap (λ (bytes : List ℕ). bytes_eq bytes name) (sym one.name))
    (pick choices name (has_name name x) x y (entry_of xs name) (entry_of ys name)
    (λ same. (one, (bytes_eq-Decides (string_bytes x.name) name).0 same))
    (looked choices name xs ys (omega (arith, size))
    (λ k d lt. each (suc k) d (omega (arith, lt)))))

chosen_by : (choices : List NameLeft) (name : Name) (old new : Option Entry)
    → Looked choices name old new
    → TakesChoice (choice_of choices name) (MayStand old) (file_in old) (file_in new)
    × ((to : Option ℕ) → MayStand new to → to ≡ file_in new)
unfolding Looked
chosen_by choices name None None is = (
  record {
    chosen = λ to _ may. sym may;
    ignored = λ to _ _. refl;
    unchosen = λ _. refl;
    lawful = refl;
  },
  λ to may. may,
)
chosen_by choices name None (Some new) is = absurd is
chosen_by choices name (Some old) None is = absurd is
chosen_by choices name (Some old) (Some new) is = (
  subst
      (λ (n : Name). TakesChoice (choice_of choices n) (MayStand (Some old)) old.file new.file) is.1
      is.0.file,
  durable,
)
  where
    durable : (to : Option ℕ) → MayStand (Some new) to → to ≡ new.file
    durable to (inl stands) = stands
    durable to (inr has) = absurd (none_has to (subst (λ (xs : List (Option ℕ)). Contains xs to)
        is.0.durable has))
      where
        none_has : (x : Option ℕ) → Contains [] x → ⊥
        none_has x has = omega (arith, has.1)

pub all_settled : (choices : List NameLeft) (old new : List Entry)
    → SettledUpTo choices (length old) old new → AreSettledBy choices old new
all_settled choices old new up = record {
  chosen = λ name. (chosen_by choices name (entry_of old name) (entry_of new name) (at name)).0;
  durable = λ name. (chosen_by choices name (entry_of old name) (entry_of new name) (at name)).1;
}
  where
    at : (name : Name) → Looked choices name (entry_of old name) (entry_of new name)
    at name = looked choices name old new up.size (λ k d lt. up.settled k d lt lt)
