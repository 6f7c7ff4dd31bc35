use Rattle.std.proofs.Common.{◌∙◌, ap, subst, ℕ, List, []}
use Rattle.std.specs.Prelude.{Option, unwrap_or}
use Rattle.device_folder.specs.Loss.{IsLostBy}
use Rattle.device_folder.proofs.memory.Slot.lose_by.Goals as goal

pub returns-in-Some : goal.returns-in-Some
returns-in-Some c =
    subst (λ (picks : List (ℕ × List ℕ)). IsLostBy picks c.args.self.now c.lose.new.self)
    (ap (λ (found : Option (List (ℕ × List ℕ))). unwrap_or found []) c.in-Some.ensures)
    c.lose.ensures

pub returns-in-None : goal.returns-in-None
returns-in-None c =
    subst (λ (picks : List (ℕ × List ℕ)). IsLostBy picks c.args.self.now c.lose-in-None.new.self)
    (c.requires
    ∙ ap (λ (found : Option (List (ℕ × List ℕ))). unwrap_or found []) c.in-None.ensures)
    c.lose-in-None.ensures
