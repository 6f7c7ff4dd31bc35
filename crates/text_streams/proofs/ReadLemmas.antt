-- What was taken of a reader in several calls.
use Rattle.std.proofs.Common.{◌≡◌, ◌∙◌, ℕ, ◌+◌, ◌<◌, List, [], ◌++◌, length, Option, Some, None}
use Rattle.std.proofs.Common.{append_assoc, append-nil, length-append, arith, refl, sym, ap, subst}
use Rattle.std.specs.Prelude.{IfSome}
use Rattle.std.specs.Io.KnownBytes.{Consumes, IsAtEnd, Keeps}

-- nothing was taken
pub none_taken : (a : Option (List ℕ)) → Consumes a a []
none_taken None = tt
none_taken (Some xs) = refl

pub kept : (a b : Option (List ℕ)) → Keeps a b → Consumes a b []
kept None b h = tt
kept (Some xs) None h = absurd h
kept (Some xs) (Some ys) h = sym h

pub taken_both : (a b c : Option (List ℕ)) (xs ys : List ℕ) → Consumes a b xs → Consumes b c ys
    → Consumes a c (xs ++ ys)
taken_both None b c xs ys p q = tt
taken_both (Some a) None c xs ys p q = absurd p
taken_both (Some a) (Some b) None xs ys p q = absurd q
taken_both (Some a) (Some b) (Some c) xs ys p q =
    p ∙ ap (λ (l : List ℕ). xs ++ l) q ∙ sym (append_assoc xs ys c)

pub taken_more : (a b c : Option (List ℕ)) (xs after : List ℕ) → Consumes a b xs
    → ((bytes : List ℕ) × Consumes b c bytes × (after ≡ xs ++ bytes)) → Consumes a c after
taken_more a b c xs after p h =
    subst (λ (l : List ℕ). Consumes a c l) (sym h.2) (taken_both a b c xs h.0 p h.1)

pub all_taken : (a b : Option (List ℕ)) (xs : List ℕ) → Consumes a b xs → IsAtEnd b
    → IfSome a (λ bytes. xs ≡ bytes)
all_taken None b xs p end = tt
all_taken (Some a) None xs p end = absurd p
all_taken (Some a) (Some b) xs p end = sym (p ∙ ap (λ (l : List ℕ). xs ++ l) end ∙ append-nil xs)

-- more than the limit was there, if so much was taken
pub more_there : (a b : Option (List ℕ)) (xs : List ℕ) (limit n : ℕ) → Consumes a b xs
    → limit < n + length xs
    → IfSome a (λ bytes. limit < n + length bytes)
more_there None b xs limit n p more = tt
more_there (Some a) None xs limit n p more = absurd p
more_there (Some a) (Some b) xs limit n p more =
    let size : length a ≡ length xs + length b = ap length p ∙ length-append xs b in
    omega arith

pub more_from_start : (a b : Option (List ℕ)) (xs : List ℕ) (limit n : ℕ) → n ≡ length xs
    → Consumes a b xs
    → IfSome b (λ bytes. limit < n + length bytes) → IfSome a (λ bytes. limit < length bytes)
more_from_start None b xs limit n so_far p more = tt
more_from_start (Some a) None xs limit n so_far p more = absurd p
more_from_start (Some a) (Some b) xs limit n so_far p more =
    let size : length a ≡ length xs + length b = ap length p ∙ length-append xs b in
    omega arith
