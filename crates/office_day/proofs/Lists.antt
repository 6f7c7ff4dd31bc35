-- Two lists, place by place.
use Rattle.std.specs.Prelude.{◌≡◌, ◌<◌, ℕ, zero, suc, List, [], ◌∷◌, ◌++◌, length, map, sum_by}
use Rattle.std.specs.Prelude.{refl}
use Rattle.std.specs.List.{AllZip, slice_index_or}
use Rattle.std.proofs.Common.{arith, sym, ◌∙◌, ap, append_assoc}
use Rattle.std.proofs.lemmas.List.{append-nil, map-append}
use Rattle.std.proofs.lemmas.List.Sums.{sum_by-cons}

pub AllZip-more : {A B : Type 0} (R : A → B → Type 0) (xs : List A) (ys : List B) (x : A) (y : B)
    → AllZip R xs ys → R x y → AllZip R (xs ++ x ∷ []) (ys ++ y ∷ [])
AllZip-more R [] [] x y all it = (it, tt)
AllZip-more R [] (b ∷ ys) x y all it = absurd all
AllZip-more R (a ∷ xs) [] x y all it = absurd all
AllZip-more R (a ∷ xs) (b ∷ ys) x y all it = (all.0, AllZip-more R xs ys x y all.1 it)

pub AllZip-at : {A B : Type 0} (R : A → B → Type 0) (xs : List A) (ys : List B) (i : ℕ) (d : A)
    (e : B) → AllZip R xs ys → i < length xs → R (slice_index_or xs i d) (slice_index_or ys i e)
AllZip-at R [] ys i d e all low = absurd (omega (arith, low))
AllZip-at R (a ∷ xs) [] i d e all low = absurd all
AllZip-at R (a ∷ xs) (b ∷ ys) zero d e all low = all.0
AllZip-at R (a ∷ xs) (b ∷ ys) (suc i) d e all low =
    AllZip-at R xs ys i d e all.1 (omega (arith, low))

-- what holds of the second list's images
pub AllZip-along : {A B C : Type 0} (R : A → B → Type 0) (f : C → B) (xs : List A) (zs : List C)
    → AllZip R xs (map f zs) → AllZip (λ x z. R x (f z)) xs zs
AllZip-along R f [] [] all = tt
AllZip-along R f [] (c ∷ zs) all = absurd all
AllZip-along R f (a ∷ xs) [] all = absurd all
AllZip-along R f (a ∷ xs) (c ∷ zs) all = (all.0, AllZip-along R f xs zs all.1)

-- ---- what is moved from one list to another

-- one more is moved
pub moved : {A B : Type 0} (f : A → B) (done : List A) (x : A) (rest left whole : List B)
    → map f done ++ rest ≡ whole → rest ≡ f x ∷ left → map f (done ++ x ∷ []) ++ left ≡ whole
moved {B = B} f done x rest left whole before step =
    ap (λ (l : List B). l ++ left) (map-append f done (x ∷ []))
    ∙ append_assoc (map f done) (f x ∷ []) left
    ∙ ap (λ (l : List B). map f done ++ l) (sym step) ∙ before

-- all is moved
pub all_moved : {B : Type 0} (done rest whole : List B) → done ++ rest ≡ whole → length rest ≡ 0
    → done ≡ whole
all_moved done [] whole before none = sym (append-nil done) ∙ before
all_moved done (x ∷ rest) whole before none = absurd (omega (arith, none))

-- what holds at each place holds of both lists
pub AllZip-each : {A B : Type 0} (R : A → B → Type 0) (xs : List A) (ys : List B)
    → length ys ≡ length xs
    → ((i : ℕ) (d : A) (e : B) → i < length xs → R (slice_index_or xs i d) (slice_index_or ys i e))
    → AllZip R xs ys
AllZip-each R [] [] long each = tt
AllZip-each R [] (b ∷ ys) long each = absurd (omega (arith, long))
AllZip-each R (a ∷ xs) [] long each = absurd (omega (arith, long))
AllZip-each R (a ∷ xs) (b ∷ ys) long each = (
  each zero a b (omega arith),
  AllZip-each R xs ys (omega (arith, long)) (λ i d e low. each (suc i) d e (omega (arith, low))),
)

-- two sums that agree place by place
pub sum_by-alike : {A B : Type 0} (f : A → ℕ) (h : B → ℕ) (xs : List A) (ys : List B)
    → length ys ≡ length xs
    → ((i : ℕ) (x : A) (y : B) → i < length xs
    → f (slice_index_or xs i x) ≡ h (slice_index_or ys i y)) → sum_by f xs ≡ sum_by h ys
sum_by-alike f h [] [] long each = refl
sum_by-alike f h [] (y ∷ ys) long each = absurd (omega (arith, long))
sum_by-alike f h (x ∷ xs) [] long each = absurd (omega (arith, long))
sum_by-alike f h (x ∷ xs) (y ∷ ys) long each =
    let here : f x ≡ h y = each 0 x y (omega arith) in
    let rest = sum_by-alike f h xs ys (omega (arith, long))
    (λ i a b lt. each (suc i) a b (omega (arith, lt))) in
    let one = sum_by-cons f x xs in
    let other = sum_by-cons h y ys in
    omega (arith, here, rest, one, other)

-- some element of a list that isn't empty
pub first : {A : Type 0} (xs : List A) → 0 < length xs → A
first [] some = absurd (omega (arith, some))
first (x ∷ xs) some = x
