-- What a script of `turn_console` runs on, by the options.
use Rattle.std.specs.Prelude.{◌≡◌, ◌≢◌, ℕ, false, List, Option, None, Some, option_map}
use Rattle.std.specs.Borrow.{Bor}
use Rattle.front_program.specs.declared.console_settings.Options.{Options}
use Rattle.front_program.specs.declared.invocation.OlderLedger.{OlderLedger}
use Rattle.front_program.specs.declared.invocation.ScriptOptions.{ScriptOptions}
use Rattle.front_program.specs.declared.invocation.ScriptFile.{ScriptFile}

-- the ledger that is copied onto the device is the one that the options name, with their slots, and
-- isn't the device
abbrev pub IsOlderOf : Options → Bor (List ℕ) → Option OlderLedger → Type 0
IsOlderOf options device None = (options.migrate ≡ None) × (options.slots ≡ None)
IsOlderOf options device (Some older) =
    (options.migrate ≡ Some older.path) × (options.slots ≡ Some older.slots)
    × (older.path.now ≢ device.now)

-- the device is the one that the options name, opened as they say, and nothing is noted of it
abbrev pub IsFileOf : Options → Option ScriptFile → Type 0
IsFileOf options None =
    (options.device ≡ None) × (options.migrate ≡ None) × (options.slots ≡ None)
    × (options.overwrite ≡ false)
IsFileOf options (Some file) =
    (options.device ≡ Some file.path) × (file.overwrite ≡ options.overwrite) × (file.noted ≡ false)
    × IsOlderOf options file.path file.older

-- the script runs on that device
pub record IsPlanOf (options : Options) (running : ScriptOptions) : Type 0 where
  pub file : IsFileOf options running.file
  pub sectors : running.sectors ≡ Some options.sectors

-- the file that is migrated and the device are one text
pub record NamesOnePath (options : Options) : Type 0 where
  pub path : List ℕ
  pub migrate : option_map (λ p. p.now) options.migrate ≡ Some path
  pub device : option_map (λ p. p.now) options.device ≡ Some path
