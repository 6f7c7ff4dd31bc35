-- In which limits the numbers are that are asked for.
use Rattle.std.specs.Prelude.{◌≤◌, ℕ, Option, IfSome}
use Rattle.std.specs.Int.NonZero.{non_zero_u64_get}
use Rattle.front_program.specs.declared.invocation.Invocation.{Invocation}
use Rattle.front_program.specs.declared.invocation.Invocation.TheVariants.{Run, Serve, Close}
use Rattle.front_program.specs.declared.invocation.Invocation.TheVariants.{Status}
use Rattle.front_program.specs.declared.invocation.Invocation.TheVariants.{Inspect, Format, Copy}
use Rattle.front_program.specs.declared.invocation.Invocation.TheVariants.{Archive}

-- as many sectors as a ledger of the most slots has, and one at least
abbrev pub AreSectors : Option ℕ → Type 0
AreSectors sectors = IfSome sectors (λ count. (1 ≤ count) × (count ≤ 4000039))

-- each number is one that can be had
abbrev pub IsWithin : Invocation → Type 0
IsWithin (Run running) = AreSectors running.sectors
IsWithin (Serve serving) =
    AreSectors serving.sectors × IfSome serving.format (λ slots. non_zero_u64_get slots ≤ 1000000)
    × IfSome serving.stations (λ count. (2 ≤ count) × (count ≤ 64))
IsWithin (Close counter seconds) = seconds ≤ 86400
IsWithin (Status counter) = Unit {0}
IsWithin (Inspect inspection) = Unit {0}
IsWithin (Format path formatting) = non_zero_u64_get formatting.slots ≤ 1000000
IsWithin (Archive archiving) = Unit {0}
IsWithin (Copy copying) = non_zero_u64_get copying.formatting.slots ≤ 1000000
