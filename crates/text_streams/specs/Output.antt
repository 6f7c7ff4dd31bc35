-- What an output was given.
use Rattle.std.specs.Prelude.{◌<◌, ℕ, List, Option, length, take}
use Rattle.std.specs.Io.KnownBytes.{Appends, append_known}
use Rattle.text_streams.specs.declared.output.Output.{Output}

-- what an output was given so far, where the bytes of its writer are known: these, and behind them
-- what is still gathered
abbrev pub given_to : {W : Type 0} → (W → Option (List ℕ)) → Output W → Option (List ℕ)
given_to contents output = append_known (contents output.writer.now) output.text.bytes.items

-- a writer got the first of the bytes, and not all
abbrev pub AppendsPart : Option (List ℕ) → Option (List ℕ) → List ℕ → Type 0
AppendsPart old new bytes = (n : ℕ) × (n < length bytes) × Appends old new (take n bytes)
