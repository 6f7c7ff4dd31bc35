-- What names stand for in a folder in memory, and what a crash may leave of them.
use Rattle.std.specs.Prelude.{◌≡◌, ◌⊎◌, ◌<◌, ℕ, Bool, List, [], Option, None, Some, Contains}
use Rattle.std.specs.Prelude.{find, option_map, bytes_eq, string_bytes}
use Rattle.device_folder.specs.Folder.{Name}
use Rattle.device_folder.specs.declared.names.Entry.{Entry}
use Rattle.device_folder.specs.declared.names.NameLeft.{NameLeft}

-- the entry is that name's
abbrev pub has_name : Name → Entry → Bool
has_name name entry = bytes_eq (string_bytes entry.name) name

-- the first entry of a name counts
abbrev pub entry_of : List Entry → Name → Option Entry
entry_of entries name = find (has_name name) entries

-- what an entry stands for; without one, nothing
abbrev pub file_in : Option Entry → Option ℕ
file_in None = None
file_in (Some entry) = entry.file

-- what a crash may leave it standing for: what it stands for, or stood for since the last sync
abbrev pub MayStand : Option Entry → Option ℕ → Type 0
MayStand None to = to ≡ None
MayStand (Some entry) to = (to ≡ entry.file) ⊎ Contains entry.earlier.items to

abbrev pub named : List Entry → Name → Option ℕ
named entries name = file_in (entry_of entries name)

abbrev pub MayName : List Entry → Name → Option ℕ → Type 0
MayName entries name to = MayStand (entry_of entries name) to

-- there is an entry, and it remembers what it stands for
abbrev pub RemembersIts : Option Entry → Type 0
RemembersIts None = ⊥
RemembersIts (Some entry) = Contains entry.earlier.items entry.file

abbrev pub IsReady : List Entry → Name → Type 0
IsReady entries name = RemembersIts (entry_of entries name)

-- names that P holds of come to stand for what it says, and no others change
pub record Changes (P : Name → Option ℕ → Type 0) (old new : List Entry) : Type 0 where
  pub names : (name : Name) → (named new name ≡ named old name) ⊎ P name (named new name)
  pub may_name : (name : Name) (to : Option ℕ) → MayName new name to
      → MayName old name to ⊎ P name to

-- the first choice for a name
abbrev pub choice_of : List NameLeft → Name → Option (Option ℕ)
choice_of choices name =
    option_map (λ choice. choice.file) (find (λ choice. bytes_eq (string_bytes choice.name) name)
    choices)

-- The choice counts if a crash may leave it. Without one that counts all stays.
pub record TakesChoice (choice : Option (Option ℕ)) (may : Option ℕ → Type 0) (old new : Option ℕ)
    : Type 0 where
  pub chosen : (to : Option ℕ) → choice ≡ Some to → may to → new ≡ to
  pub ignored : (to : Option ℕ) → choice ≡ Some to → (may to → ⊥) → new ≡ old
  pub unchosen : choice ≡ None → new ≡ old
  pub lawful : may new

-- the entry stands for its choice, durably
pub record IsSettledBy (choices : List NameLeft) (old new : Entry) : Type 0 where
  pub name : string_bytes new.name ≡ string_bytes old.name
  pub file : TakesChoice (choice_of choices (string_bytes old.name)) (MayStand (Some old))
      old.file new.file
  pub durable : new.earlier.items ≡ []

-- each name stands for its choice, durably
pub record AreSettledBy (choices : List NameLeft) (old new : List Entry) : Type 0 where
  pub chosen : (name : Name) → TakesChoice (choice_of choices name) (MayName old name)
      (named old name) (named new name)
  pub durable : (name : Name) (to : Option ℕ) → MayName new name to → to ≡ named new name

-- each file that a crash may leave a name standing for has a number below that
abbrev pub AreKnown : List Entry → ℕ → Type 0
AreKnown entries count = (name : Name) (file : ℕ) → MayName entries name (Some file) → file < count
