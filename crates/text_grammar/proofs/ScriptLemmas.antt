-- How lines and words follow from the first line feed and the first space.
use Rattle.std.proofs.Common.{◌≡◌, ◌∙◌, ℕ, ◌<◌, Bool, true, false, Option, Some, None, List, []}
use Rattle.std.proofs.Common.{◌∷◌, ◌++◌, length, ◌==◌, nat_lt, cond, arith, refl, sym, ap, filter}
use Rattle.std.specs.Prelude.{All, MatchOption}
use Rattle.std.specs.List.{slice_split}
use Rattle.std.specs.Borrow.{Bor}
use Rattle.std.specs.Str.Lines.{lines, lines_of_parts, strip_carriage_return}
use Rattle.std.proofs.lemmas.List.Splits.{slice_split_at, slice_split_none, length-slice_split}
use Rattle.std.proofs.lemmas.Bool.{ne_eqb}
use Rattle.std.proofs.lemmas.Bool.Decides.{nat_tests}
use Rattle.text_grammar.specs.Script.{words_of}

parts_cut : (xs : List ℕ) (parts : List (List ℕ)) → 0 < length parts
    → lines_of_parts (xs ∷ parts) ≡ strip_carriage_return xs ∷ lines_of_parts parts
parts_cut xs [] h = absurd (omega arith)
parts_cut xs (y ∷ more) h = refl

pub lines_cut : (xs ys : List ℕ) → All (λ byte. (byte == 10) ≡ false) xs
    → lines (xs ++ 10 ∷ ys) ≡ strip_carriage_return xs ∷ lines ys
lines_cut xs ys none =
    let p : ℕ → Bool = λ byte. byte == 10 in
    let some : 0 < length (slice_split p ys) = rw length-slice_split (omega arith) in
    ap lines_of_parts (slice_split_at p xs 10 ys none refl) ∙ parts_cut xs (slice_split p ys) some

one_part : (ys : List ℕ) → 0 < length ys → lines_of_parts (ys ∷ []) ≡ ys ∷ []
one_part ys some =
    let test : (length ys == 0) ≡ false = ne_eqb _ _ (λ none. omega arith) in
    rw test refl

pub only_line : (xs : List ℕ) → All (λ byte. (byte == 10) ≡ false) xs → 0 < length xs
    → lines xs ≡ xs ∷ []
only_line xs none some =
    ap lines_of_parts (slice_split_none (λ byte. byte == 10) xs none) ∙ one_part xs some

pub last_line : (xs : List ℕ) (r : Option (Bor (List ℕ))) → All (λ byte. (byte == 10) ≡ false) xs
    → MatchOption r (xs ≡ []) (λ piece. (piece.now ≡ xs) × (0 < length piece.now))
    → MatchOption r (lines xs ≡ []) (λ piece. lines xs ≡ piece.now ∷ [])
last_line xs None none e = ap lines e
last_line xs (Some piece) none h =
    let some : 0 < length xs = rw (ap length (sym h.0)) h.1 in
    ap lines_of_parts (slice_split_none (λ byte. byte == 10) xs none) ∙ one_part xs some
    ∙ ap (λ (y : List ℕ). y ∷ []) (sym h.0)

kept_word : (zs : List ℕ) (rest : List (List ℕ)) → 0 < length zs
    → cond (nat_lt 0 (length zs)) (zs ∷ rest) rest ≡ zs ∷ rest
kept_word zs rest some =
    let test : nat_lt 0 (length zs) ≡ true = grind (arith, nat_tests) in
    rw test refl

empty_word : (zs : List ℕ) (rest : List (List ℕ)) → length zs ≡ 0
    → cond (nat_lt 0 (length zs)) (zs ∷ rest) rest ≡ rest
empty_word [] rest h = refl
empty_word (z ∷ zs) rest h = absurd (omega arith)

-- the words where a space stands behind these bytes
words_cut : (xs ys : List ℕ) → All (λ byte. (byte == 32) ≡ false) xs
    → words_of (xs ++ 32 ∷ ys) ≡ cond (nat_lt 0 (length xs)) (xs ∷ words_of ys) (words_of ys)
words_cut xs ys none =
    ap (filter (λ word. nat_lt 0 (length word)))
    (slice_split_at (λ byte. byte == 32) xs 32 ys none refl)

pub words_cut_some : (xs ys : List ℕ) → All (λ byte. (byte == 32) ≡ false) xs → 0 < length xs
    → words_of (xs ++ 32 ∷ ys) ≡ xs ∷ words_of ys
words_cut_some xs ys none some = words_cut xs ys none ∙ kept_word xs (words_of ys) some

pub words_cut_empty : (xs ys : List ℕ) → All (λ byte. (byte == 32) ≡ false) xs → length xs ≡ 0
    → words_of (xs ++ 32 ∷ ys) ≡ words_of ys
words_cut_empty xs ys none empty = words_cut xs ys none ∙ empty_word xs (words_of ys) empty

pub last_word : (xs : List ℕ) (r : Option (Bor (List ℕ))) → All (λ byte. (byte == 32) ≡ false) xs
    → MatchOption r (xs ≡ []) (λ piece. (piece.now ≡ xs) × (0 < length piece.now))
    → MatchOption r (words_of xs ≡ []) (λ piece. words_of xs ≡ piece.now ∷ [])
last_word xs None none e = ap words_of e
last_word xs (Some piece) none h =
    let some : 0 < length xs = rw (ap length (sym h.0)) h.1 in
    ap (filter (λ word. nat_lt 0 (length word))) (slice_split_none (λ byte. byte == 32) xs none)
    ∙ kept_word xs [] some
    ∙ ap (λ (y : List ℕ). y ∷ []) (sym h.0)

-- what an iterator over a list has to say of its last step
pub last_step : (old now new : List (List ℕ)) (r : Option (Bor (List ℕ))) → now ≡ old → new ≡ []
    → MatchOption r (now ≡ []) (λ piece. now ≡ piece.now ∷ [])
    → MatchOption r ((old ≡ []) × (new ≡ [])) (λ piece. old ≡ piece.now ∷ new)
last_step old now new None same empty h = (sym same ∙ h, empty)
last_step old now new (Some piece) same empty h =
    sym same ∙ h ∙ ap (λ (l : List (List ℕ)). piece.now ∷ l) (sym empty)
