-- The bits of a word, place by place.
use Rattle.std.proofs.Common.{◌≡◌, ◌∙◌, ℕ, ◌+◌, ◌<◌, Bool, List, [], ◌∷◌, ◌++◌, length, ◌==◌, take}
use Rattle.std.proofs.Common.{map, min, get_or, add-one, arith, sym, ap}
use Rattle.std.proofs.Math.ListN.{set}
use Rattle.std.proofs.Math.Seq.{take-suc, take-suc-set, take-length}
use Rattle.std.proofs.lemmas.List.{map-append, take-map, take_min, length-take}

abbrev is_one : ℕ → Bool
is_one byte = byte == 49

pub one_more : (places : List Bool) (kept : List ℕ) (i : ℕ) → i < length places → i < length kept
    → take i places ≡ map (λ byte. byte == 49) (take i kept)
    → take (i + 1) (set places i (get_or kept i 0 == 49))
    ≡ map (λ byte. byte == 49) (take (i + 1) kept)
one_more places kept i in_places in_kept so_far =
    let bit : Bool = get_or kept i 0 == 49 in
    ap (λ (k : ℕ). take k (set places i bit)) (add-one i) ∙ take-suc-set places i bit in_places
    ∙ ap (λ (l : List Bool). l ++ (bit ∷ [])) so_far
    ∙ sym (map-append is_one (take i kept) (get_or kept i 0 ∷ []))
    ∙ sym (ap (map is_one) (take-suc kept i 0 in_kept))
    ∙ sym (ap (λ (k : ℕ). map is_one (take k kept)) (add-one i))

pub all_kept : (places : List Bool) (word : List ℕ) (i most : ℕ) → most ≡ min 65 (length word)
    → i ≡ length (take most word)
    → take i places ≡ map (λ byte. byte == 49) (take i (take most word))
    → take (length (take most word)) places ≡ take 65 (map (λ byte. byte == 49) word)
all_kept places word i most least all so_far =
    ap (λ (k : ℕ). take k places) (sym all) ∙ so_far
    ∙ ap (map is_one) (ap (λ (k : ℕ). take k (take most word)) all ∙ take-length (take most word)
    ∙ ap (λ (k : ℕ). take k word) least ∙ take_min 65 word)
    ∙ sym (take-map is_one 65 word)

-- a place of what is kept is one of the 65
pub in_kept : (word : List ℕ) (i most : ℕ) → most ≡ min 65 (length word)
    → i < length (take most word) → i < 65
in_kept word i most least below =
    let size : length (take most word) ≡ min most (length word) = length-take most word in
    omega arith
