-- Marks on the boundaries between neighbors: each is one privilege, so their number is the number
-- of privileges.
use Rattle.std.specs.Prelude.{ℕ, ◌+◌, ◌-◌, Bool, true, false, cond, not, ◌&&◌, List, [], ◌∷◌, map}
use Rattle.std.specs.List.{range_with_len}
use Rattle.four_state.specs.Configuration.{Configuration, stations, x_at, up_at, differ}

pub data Mark : Type 0 where
  Rising Falling Still : Mark

-- the bits x of stations b and b + 1 differ: a privilege of b + 1
abbrev pub rises : Configuration → ℕ → Bool
rises c b = differ (x_at c b) (x_at c (b + 1))

-- they are equal, and only b is up: a privilege of b
abbrev pub falls : Configuration → ℕ → Bool
falls c b = not (rises c b) && (up_at c b && not (up_at c (b + 1)))

-- what stands on the boundary between stations b and b + 1
abbrev pub mark_at : Configuration → ℕ → Mark
mark_at c b = cond (rises c b) Rising (cond (falls c b) Falling Still)

-- the marks of n boundaries, from boundary a on
abbrev pub marks_from : Configuration → ℕ → ℕ → List Mark
marks_from c a n = map (mark_at c) (range_with_len a n)

-- the marks of all boundaries, from the bottom
abbrev pub marks_of : Configuration → List Mark
marks_of c = marks_from c 0 (stations c - 1)

abbrev pub is_privilege : Mark → Bool
is_privilege Rising = true
is_privilege Falling = true
is_privilege Still = false

-- how many marks there are
abbrev pub mark_count : List Mark → ℕ
mark_count [] = 0
mark_count (mark ∷ marks) = cond (is_privilege mark) 1 0 + mark_count marks
