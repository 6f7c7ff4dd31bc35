-- What the words of `turn_console` ask for, in the terms of `clap`.
use Rattle.std.specs.Prelude.{◌≡◌, ℕ, Bool, true, false, List, [], ◌∷◌, Option, None, Some, codes}
use Rattle.std.specs.Str.Parse.{digits_value, without_leading_plus}
use Rattle.clap.specs.Words.{App, Rule, Text, matches_of, new_app, new_rule, first_of, one_of}
use Rattle.clap.specs.Words.{with_rule}
use Rattle.clap.specs.declared.builder.action.ArgAction.TheVariants.{Set, SetTrue}
use Rattle.clap.specs.declared.builder.value_parser.ValueParser.TheVariants as value_parser

-- an option with a path, one with a number within limits, and a flag
abbrev pub path_option : Text → Rule
path_option name = record (new_rule name) { long = Some name; action = Some Set; value_names = 1 }

abbrev pub number_option : Text → ℕ → ℕ → Rule
number_option name least most =
    record (path_option name) { parser = Some (value_parser.Unsigned least most) }

abbrev pub flag_option : Text → Rule
flag_option name = record (new_rule name) { long = Some name; action = Some SetTrue }

-- `--device PATH` and `--migrate OLD`: a path, where it is used
abbrev pub device_option : Rule
device_option = path_option (codes "device")

abbrev pub migrate_option : Rule
migrate_option = path_option (codes "migrate")

-- `--sectors K`: a number from 1 to 4,000,039, which is 64 where it isn't used
abbrev pub sectors_option : Rule
sectors_option = record (number_option (codes "sectors") 1 4000039) { defaults = codes "64" ∷ [] }

-- `--slots K`: a number from 1 to 1,000,000, where it is used
abbrev pub slots_option : Rule
slots_option = number_option (codes "slots") 1 1000000

-- `--overwrite`: a flag
abbrev pub overwrite_option : Rule
overwrite_option = flag_option (codes "overwrite")

-- the program's command line
abbrev pub console : App
console = with_rule
    (with_rule (with_rule
    (with_rule (with_rule (new_app (codes "turn_console")) device_option) sectors_option)
    migrate_option) slots_option) overwrite_option

-- the words ask for this number of sectors
abbrev pub AskForSectors : List Text → ℕ → Type 0
AskForSectors words sectors =
    (text : Text) × (one_of (codes "sectors") (matches_of console words) ≡ Some text)
    × (sectors ≡ digits_value 10 (without_leading_plus text))

-- the words ask for the device in this file, or for none
abbrev pub AskForDevice : List Text → Option Text → Type 0
AskForDevice words device = device ≡ first_of (codes "device") (matches_of console words)

-- the words ask for an older file to be migrated, or for none
abbrev pub AskForMigration : List Text → Option Text → Type 0
AskForMigration words old = old ≡ first_of (codes "migrate") (matches_of console words)

-- they ask for this number of slots, or for none
abbrev pub AskForSlots : List Text → Option ℕ → Type 0
AskForSlots words None = first_of (codes "slots") (matches_of console words) ≡ None
AskForSlots words (Some slots) =
    (text : Text) × (one_of (codes "slots") (matches_of console words) ≡ Some text)
    × (slots ≡ digits_value 10 (without_leading_plus text))

-- a flag is set where its text is true, and isn't where that is false or there is none
pub record IsFlagOf (text : Option Text) (flag : Bool) : Type 0 where
  pub used : text ≡ Some (codes "true") → flag ≡ true
  pub unused : text ≡ Some (codes "false") → flag ≡ false
  pub none : text ≡ None → flag ≡ false

-- they ask for a disk to be written over, or don't
abbrev pub AskForOverwrite : List Text → Bool → Type 0
AskForOverwrite words overwrite =
    IsFlagOf (one_of (codes "overwrite") (matches_of console words)) overwrite
