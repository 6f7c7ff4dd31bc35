-- Any bits with those of the ends of up set are a line.
use Rattle.std.proofs.Common.{◌≡◌, ℕ, ◌-◌, ◌≤◌, Bool, true, false, List, [], ◌∷◌, length, set, refl}
use Rattle.std.proofs.Common.{ap₂, ◌∙◌, arith, length-set, get_or-set_same, get_or-set_other}
use Rattle.four_state.specs.Configuration.{IsLine}
use Rattle.four_state.specs.Words.{word_of}
use Rattle.four_state.proofs.Says.{Says}

-- the bits up with those of the ends set
abbrev pub ends_set : List Bool → List Bool → List Bool
ends_set x up = set (set up 0 true) (length x - 1) false

pub ends_line : (x up : List Bool) → length up ≡ length x → 2 ≤ length x → length x ≤ 64
    → IsLine (record { x = x; up = ends_set x up })
ends_line x up e two most =
    let same = length-set up 0 true in
    let whole = length-set (set up 0 true) (length x - 1) false in
    record {
      configuration = record {
        as_long = whole ∙ same ∙ e;
        at_least_two = two;
        up_at_the_bottom =
            get_or-set_other (set up 0 true) (length x - 1) 0 false false (omega arith)
            ∙ get_or-set_same up 0 true false (omega arith);
        not_up_at_the_top =
            get_or-set_same (set up 0 true) (length x - 1) false false (omega arith);
      };
      at_most_64 = most;
    }

pub says-ends : (x up : List Bool) (x_word up_word : ℕ) → length up ≡ length x → 2 ≤ length x
    → length x ≤ 64 → x_word ≡ word_of x → up_word ≡ word_of (ends_set x up)
    → Says (length x) (x_word ∷ up_word ∷ []) (record { x = x; up = ends_set x up })
says-ends x up x_word up_word e two most is_x is_up =
    record {
      number = refl;
      same_words = ap₂ (λ (a b : ℕ). a ∷ b ∷ []) is_x is_up;
      line = ends_line x up e two most;
    }
