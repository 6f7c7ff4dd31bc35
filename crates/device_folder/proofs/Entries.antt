-- What a change of one entry does to names.
use Rattle.std.proofs.Common.{◌≡◌, ◌≢◌, ◌⊎◌, inl, inr, ⊎_elim, ℕ, zero, suc, ◌<◌, ◌≤◌, Bool, true}
use Rattle.std.proofs.Common.{false, List, [], ◌∷◌, ◌++◌, length, get_or, set, cond, refl, sym, ◌∙◌}
use Rattle.std.proofs.Common.{ap, subst, arith}
use Rattle.std.specs.Prelude.{Option, None, Some, Contains, find, position, string_bytes}
use Rattle.std.specs.Prelude.{Result, Ok, Err, OnOk, is_ok}
use Rattle.std.specs.List.{slice_get, position_or_len}
use Rattle.std.specs.Option.{option_or}
use Rattle.std.proofs.lemmas.Bool.{cases_lt, false≢true}
use Rattle.std.proofs.lemmas.List.{get_or-set_same, get_or-set_other, length-set, length_push}
use Rattle.std.proofs.lemmas.List.{get_or_append_left, get_or_push}
use Rattle.std.proofs.lemmas.List.Folds.{find_at, find_past, find-append}
use Rattle.std.proofs.lemmas.List.Quantifiers.{position-Some}
use Rattle.std.proofs.lemmas.Slice.Eq.{bytes_eq-Decides}
use Rattle.device_folder.specs.Folder.{Name, Keeps}
use Rattle.device_folder.specs.Names.{has_name, entry_of, file_in, MayStand, named, MayName}
use Rattle.device_folder.specs.Names.{RemembersIts, IsReady, Changes}
use Rattle.device_folder.specs.declared.names.Entry.{Entry}
use Rattle.device_folder.proofs.Texts.{same_or_not}

-- the first that passes
first_found : (p : Entry → Bool) (xs : List Entry) (i : ℕ) (d : Entry) → i < length xs
    → p (get_or xs i d) ≡ true → ((k : ℕ) → k < i → p (get_or xs k d) ≡ false)
    → find p xs ≡ Some (get_or xs i d)
first_found p [] i d lt passes before = absurd (omega (arith, lt))
first_found p (x ∷ xs) zero d lt passes before =
    ap (λ (b : Bool). cond b (Some x) (find p xs)) passes
first_found p (x ∷ xs) (suc i) d lt passes before =
    ap (λ (b : Bool). cond b (Some x) (find p xs)) (before 0 (omega arith))
    ∙ first_found p xs i d (omega (arith, lt)) passes
    (λ k less. before (suc k) (omega (arith, less)))

past_end : (xs : List Entry) (n : ℕ) → length xs ≤ n → slice_get xs n ≡ None
past_end [] n le = refl
past_end (x ∷ xs) zero le = absurd (omega (arith, le))
past_end (x ∷ xs) (suc n) le = past_end xs n (omega (arith, le))

-- no entry has the name
pub none_found : (p : Entry → Bool) (xs : List Entry) → position p xs ≡ None → find p xs ≡ None
none_found p xs none = elim (cases_lt (position_or_len p xs) (length xs)) [
  | inl lt ↦ absurd (grind arith)
  | inr le ↦ find_at p xs ∙ past_end xs (position_or_len p xs) le
]

-- an entry of one name isn't another's
pub not_its : (name other : Name) (entry : Entry) → string_bytes entry.name ≡ name
    → other ≢ name → has_name other entry ≡ false
not_its name other entry is differs =
    tells (has_name other entry) (λ same.
    differs (sym ((bytes_eq-Decides (string_bytes entry.name) other).0 same) ∙ is))
  where
    tells : (b : Bool) → (b ≡ true → ⊥) → b ≡ false
    tells true none = absurd (none refl)
    tells false none = refl

pub its : (name : Name) (entry : Entry) → string_bytes entry.name ≡ name
    → has_name name entry ≡ true
its name entry is = (bytes_eq-Decides (string_bytes entry.name) name).1 is

-- The first entry of a name is another one afterwards, which has the name too.
module _ (entries : List Entry) (name : Name) (i : ℕ) (old new : Entry)
    (found : position (has_name name) entries ≡ Some i) (was : get_or entries i old ≡ old)
    (is : string_bytes new.name ≡ string_bytes old.name) where
  there : i < length entries
  there = (position-Some (has_name name) entries i old found).0

  passed : has_name name (get_or entries i old) ≡ true
  passed = (position-Some (has_name name) entries i old found).1

  old_name : string_bytes old.name ≡ name
  old_name = (bytes_eq-Decides (string_bytes old.name) name).0
      (sym (ap (has_name name) was) ∙ passed)

  pub entry_was : entry_of entries name ≡ Some old
  entry_was =
      first_found (has_name name) entries i old there passed
      (position-Some (has_name name) entries i old found).2 ∙ ap Some was

  pub entry_is : entry_of (set entries i new) name ≡ Some new
  entry_is =
      first_found (has_name name) (set entries i new) i old
      (omega (arith, there, length-set entries i new))
      (ap (has_name name) (get_or-set_same entries i new old there) ∙ its name new (is ∙ old_name))
      (λ k less. ap (has_name name)
      (get_or-set_other entries i k new old (λ same. omega (arith, less, same)))
      ∙ (position-Some (has_name name) entries i old found).2 k less)
      ∙ ap Some (get_or-set_same entries i new old there)

  pub others_are : (other : Name) → other ≢ name
      → entry_of (set entries i new) other ≡ entry_of entries other
  others_are other differs = find_past (has_name other) entries i new old
      (ap (has_name other) was ∙ not_its name other old old_name differs)
      (not_its name other new (is ∙ old_name) differs)

  -- what that changes
  pub entry_changes : (P : Name → Option ℕ → Type 0)
      → (new.file ≡ old.file) ⊎ P name new.file
      → ((to : Option ℕ) → MayStand (Some new) to → MayStand (Some old) to ⊎ P name to)
      → Changes P entries (set entries i new)
  entry_changes P file may = record {
    names = λ n. elim (same_or_not n name) [
      | inl same ↦ subst (λ (m : Name). (named (set entries i new) m ≡ named entries m)
          ⊎ P m (named (set entries i new) m)) (sym same)
          (subst (λ (e : Option Entry). (file_in e ≡ named entries name) ⊎ P name (file_in e))
          (sym entry_is)
          (subst (λ (e : Option Entry). (new.file ≡ file_in e) ⊎ P name new.file)
          (sym entry_was) file))
      | inr differs ↦ inl (ap file_in (others_are n differs))
    ];
    may_name = λ n to is_may. elim (same_or_not n name) [
      | inl same ↦ subst (λ (m : Name). MayName entries m to ⊎ P m to) (sym same)
          (subst (λ (e : Option Entry). MayStand e to ⊎ P name to) (sym entry_was)
          (may to (subst (λ (e : Option Entry). MayStand e to) entry_is
          (subst (λ (m : Name). MayName (set entries i new) m to) same is_may))))
      | inr differs ↦ inl (subst (λ (e : Option Entry). MayStand e to) (others_are n differs)
          is_may)
    ];
  }

  pub ready_is : Contains new.earlier.items new.file → IsReady (set entries i new) name
  ready_is remembers = subst RemembersIts (sym entry_is) remembers

  pub other_ready : (other : Name) → other ≢ name → IsReady entries other
      → IsReady (set entries i new) other
  other_ready other differs ready = subst RemembersIts (sym (others_are other differs)) ready

  pub each_ready : (Contains old.earlier.items old.file → Contains new.earlier.items new.file)
      → (other : Name) → IsReady entries other → IsReady (set entries i new) other
  each_ready keeps other ready = elim (same_or_not other name) [
    | inl same ↦ subst (λ (m : Name). IsReady (set entries i new) m) (sym same)
        (ready_is (keeps (subst RemembersIts entry_was
        (subst (λ (m : Name). IsReady entries m) same ready))))
    | inr differs ↦ other_ready other differs ready
  ]

-- one value more
more_has : (xs : List (Option ℕ)) (x y : Option ℕ) → Contains xs x → Contains (xs ++ y ∷ []) x
more_has xs x y has = (
  has.0,
  omega (arith, has.1, length_push xs y),
  get_or_append_left xs (y ∷ []) x has.0 has.1 ∙ has.2,
)

last_has : (xs : List (Option ℕ)) (y : Option ℕ) → Contains (xs ++ y ∷ []) y
last_has xs y =
    (length xs, omega (arith, length_push xs y), get_or_push xs y y (length xs) refl)

had : (xs : List (Option ℕ)) (x y : Option ℕ) → Contains (xs ++ y ∷ []) x
    → (x ≡ y) ⊎ Contains xs x
had xs x y has = elim (cases_lt has.0 (length xs)) [
  | inl lt ↦ inr (has.0, lt, sym (get_or_append_left xs (y ∷ []) x has.0 lt) ∙ has.2)
  | inr le ↦ inl (sym has.2
      ∙ get_or_push xs y x has.0 (omega (arith, le, has.1, length_push xs y)))
]

-- an entry that remembers what it stands for, or has no memory for it
pub remembered : (b : Bool) (old new : Entry) → new.file ≡ old.file
    → new.earlier.items ≡ cond b (old.earlier.items ++ old.file ∷ []) old.earlier.items
    → (to : Option ℕ) → MayStand (Some new) to → MayStand (Some old) to
remembered b old new file earlier to (inl is) = inl (is ∙ file)
remembered true old new file earlier to (inr has) =
    had old.earlier.items to old.file
    (subst (λ (xs : List (Option ℕ)). Contains xs to) earlier has)
remembered false old new file earlier to (inr has) =
    inr (subst (λ (xs : List (Option ℕ)). Contains xs to) earlier has)

pub still_remembers : (b : Bool) (old new : Entry) → new.file ≡ old.file
    → new.earlier.items ≡ cond b (old.earlier.items ++ old.file ∷ []) old.earlier.items
    → Contains old.earlier.items old.file → Contains new.earlier.items new.file
still_remembers true old new file earlier has =
    subst (λ (to : Option ℕ). Contains new.earlier.items to) (sym file)
    (subst (λ (xs : List (Option ℕ)). Contains xs old.file) (sym earlier)
    (more_has old.earlier.items old.file old.file has))
still_remembers false old new file earlier has =
    subst (λ (to : Option ℕ). Contains new.earlier.items to) (sym file)
    (subst (λ (xs : List (Option ℕ)). Contains xs old.file) (sym earlier) has)

pub now_remembers : (b : Bool) (old new : Entry) → new.file ≡ old.file
    → new.earlier.items ≡ cond b (old.earlier.items ++ old.file ∷ []) old.earlier.items
    → b ≡ true → Contains new.earlier.items new.file
now_remembers true old new file earlier ok =
    subst (λ (to : Option ℕ). Contains new.earlier.items to) (sym file)
    (subst (λ (xs : List (Option ℕ)). Contains xs old.file) (sym earlier)
    (last_has old.earlier.items old.file))
now_remembers false old new file earlier ok = absurd (false≢true ok)

pub on_ok : {T E : Type 0} (r : Result T E) (P : Type 0) → (is_ok r ≡ true → P) → OnOk r P
on_ok (Ok value) P holds = holds refl
on_ok (Err error) P holds = tt

-- an entry that stands for something else, and remembers what it stood for
pub set_leaves : (P : Name → Option ℕ → Type 0) (name : Name) (old new : Entry) → P name new.file
    → new.earlier.items ≡ old.earlier.items → (to : Option ℕ) → MayStand (Some new) to
    → MayStand (Some old) to ⊎ P name to
set_leaves P name old new says earlier to (inl is) =
    inr (subst (λ (t : Option ℕ). P name t) (sym is) says)
set_leaves P name old new says earlier to (inr has) =
    inl (inr (subst (λ (xs : List (Option ℕ)). Contains xs to) earlier has))

-- one entry more, of a name without one
module _ (entries : List Entry) (entry : Entry) (file : entry.file ≡ None)
    (earlier : entry.earlier.items ≡ None ∷ []) where
  -- what it may stand for
  stands_none : (to : Option ℕ) → MayStand (Some entry) to → to ≡ None
  stands_none to (inl is) = is ∙ file
  stands_none to (inr has) = ⊎_elim (λ is. is) (λ none. absurd (omega (arith, none.1)))
      (had [] to None (subst (λ (xs : List (Option ℕ)). Contains xs to) earlier has))

  look_one : (name : Name) (b : Bool) → (file_in (cond b (Some entry) None) ≡ None)
      × ((to : Option ℕ) → MayStand (cond b (Some entry) None) to → to ≡ None)
  look_one name true = (file, stands_none)
  look_one name false = (refl, λ to is. is)

  pub pushed_names : Changes Keeps entries (entries ++ entry ∷ [])
  pushed_names = record {
    names = λ name. inl (subst (λ (e : Option Entry). file_in e ≡ named entries name)
        (sym (find-append (has_name name) entries (entry ∷ [])))
        (kept name (entry_of entries name)));
    may_name = λ name to may. inl (kept_may name to (entry_of entries name)
        (subst (λ (e : Option Entry). MayStand e to)
        (find-append (has_name name) entries (entry ∷ [])) may));
  }
    where
      kept : (name : Name) (was : Option Entry)
          → file_in (option_or was (entry_of (entry ∷ []) name)) ≡ file_in was
      kept name None = (look_one name (has_name name entry)).0
      kept name (Some one) = refl

      kept_may : (name : Name) (to : Option ℕ) (was : Option Entry)
          → MayStand (option_or was (entry_of (entry ∷ []) name)) to → MayStand was to
      kept_may name to None may = (look_one name (has_name name entry)).1 to may
      kept_may name to (Some one) may = may

  pub pushed_ready : (name : Name) → IsReady entries name → IsReady (entries ++ entry ∷ []) name
  pushed_ready name ready =
      subst RemembersIts (sym (find-append (has_name name) entries (entry ∷ [])))
      (still (entry_of entries name) ready)
    where
      still : (was : Option Entry) → RemembersIts was
          → RemembersIts (option_or was (entry_of (entry ∷ []) name))
      still None ready = absurd ready
      still (Some one) ready = ready

  pub pushed_is_ready : (name : Name) → string_bytes entry.name ≡ name
      → entry_of entries name ≡ None → IsReady (entries ++ entry ∷ []) name
  pushed_is_ready name is none =
      subst RemembersIts (sym (find-append (has_name name) entries (entry ∷ [])
      ∙ ap (λ (was : Option Entry). option_or was (entry_of (entry ∷ []) name)) none
      ∙ ap (λ (b : Bool). cond b (Some entry) None) (its name entry is)))
      (subst (λ (to : Option ℕ). Contains entry.earlier.items to) (sym file)
      (subst (λ (xs : List (Option ℕ)). Contains xs None) (sym earlier) (last_has [] None)))

-- of two lists the first
pub taken : (b : Bool) (new xs ys : List Entry) → new ≡ cond b xs ys → b ≡ true → new ≡ xs
taken true new xs ys is ok = is
taken false new xs ys is ok = absurd (false≢true ok)

pub not_some : (o : Option ℕ) → ((x : ℕ) → o ≡ Some x → ⊥) → o ≡ None
not_some None none = refl
not_some (Some x) none = absurd (none x refl)
