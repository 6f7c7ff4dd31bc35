-- What a power loss leaves, pick by pick.
use Rattle.std.proofs.Common.{◌≡◌, ℕ, List, [], ◌∷◌, ◌++◌, refl, sym, ◌∙◌, ap, arith}
use Rattle.std.specs.Prelude.{◌==◌, if◌then◌else◌}
use Rattle.sector_device.specs.Image.{Image, sector_at}
use Rattle.sector_device.specs.Picks.{last_pick, TakesPicks}

last_pick-append : (first second : List (ℕ × List ℕ)) (at : ℕ) (bytes : List ℕ)
    → last_pick (first ++ second) at bytes ≡ last_pick second at (last_pick first at bytes)
last_pick-append [] second at bytes = refl
last_pick-append (pick ∷ first) second at bytes =
    last_pick-append first second at (if pick.0 == at then pick.1 else bytes)

-- some picks, and then some more
pub more_picks : (old mid new : Image) (first second : List (ℕ × List ℕ)) (pending : ℕ → Type 0)
    → TakesPicks old first pending mid → TakesPicks mid second pending new
    → TakesPicks old (first ++ second) pending new
more_picks old mid new first second pending before after = record {
  sectors = after.sectors ∙ before.sectors;
  picked = λ at lt is. after.picked at (omega (arith, lt, before.sectors)) is
      ∙ ap (last_pick second at) (before.picked at lt is)
      ∙ sym (last_pick-append first second at (sector_at old at));
  settled = λ at free. after.settled at free ∙ before.settled at free;
}
