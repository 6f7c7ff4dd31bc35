use Rattle.turn_clerk.proofs.Lives.{after_lives}
use Rattle.turn_clerk.proofs.laws.lives_in_a_row.Goals as goal

pub returns : goal.returns
returns c from found lives sound are =
    after_lives c.one_recovery.ensures.state from lives found sound are
