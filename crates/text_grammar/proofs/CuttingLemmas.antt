-- What the bytes that a cutter keeps tell of all bytes since the last line feed.
use Rattle.std.proofs.Common.{◌≡◌, ◌≢◌, ◌∙◌, ◌⊎◌, inl, inr, ℕ, ◌+◌, ◌-◌, ◌<◌, ◌≤◌, Bool, true}
use Rattle.std.proofs.Common.{false, Option, Some, None, List, [], ◌∷◌}
use Rattle.std.proofs.Common.{◌++◌, length, take, ◌==◌, nat_lt, cond, min, arith, refl, sym, ap}
use Rattle.std.proofs.Common.{subst}
use Rattle.std.specs.Prelude.{All, slice_index}
use Rattle.std.specs.Str.Lines.{lines, strip_carriage_return}
use Rattle.std.proofs.lemmas.Bool.{cases_lt, le-ltb, lt-ltb, ne_eqb}
use Rattle.std.proofs.lemmas.List.{length-take, length-take-le, length-append, take_all}
use Rattle.std.proofs.lemmas.List.{take-append-le}
use Rattle.std.proofs.lemmas.List.Elements.{All-push}
use Rattle.std.proofs.lemmas.Option.{same_Some}
use Rattle.std.proofs.Math.Seq.{take-length}
use Rattle.text_grammar.specs.Cutting.{Cutting, HasSeen, cut_of}
use Rattle.text_grammar.specs.declared.cutting.Cut.{Cut}
use Rattle.text_grammar.specs.declared.cutting.Cut.TheVariants.{Line, TooLong}
use Rattle.text_grammar.proofs.ScriptLemmas.{lines_cut, only_line}

abbrev NoFeed : List ℕ → Type 0
NoFeed bytes = All (λ byte. (byte == 10) ≡ false) bytes

-- ---- the fields of a cutter whose last call ended no line

pub goes_on : (has_ended : Bool) (kept : List ℕ) (shown : Cutting)
    → (let shape : Cutting =
    record { since = cond has_ended [] kept; ended = cond has_ended (Some kept) None } in
    shape ≡ shown)
    → shown.ended ≡ None → (has_ended ≡ false) × (kept ≡ shown.since)
goes_on false kept shown is none = (refl, ap (λ (c : Cutting). c.since) is)
goes_on true kept shown is none =
    let e : Some kept ≡ None = ap (λ (c : Cutting). c.ended) is ∙ none in
    cc

itself : (bytes : List ℕ) (shown : Cutting) → bytes ≡ shown.since → length bytes ≤ 258
    → NoFeed bytes → HasSeen shown shown.since
itself bytes shown e few none =
    let P : List ℕ → Type 0 = λ l. (l ≡ take 258 l) × NoFeed l in
    subst P e (sym (take_all 258 bytes few), none)

-- a cutter has seen what it keeps, if nothing else
pub seen_itself : (has_ended : Bool) (kept : List ℕ) (shown : Cutting)
    → (let shape : Cutting =
    record { since = cond has_ended [] kept; ended = cond has_ended (Some kept) None } in
    shape ≡ shown)
    → length kept ≤ 258 → NoFeed kept → HasSeen shown shown.since
seen_itself false kept shown is few none =
    itself kept shown (ap (λ (c : Cutting). c.since) is) few none
seen_itself true kept shown is few none =
    itself [] shown (ap (λ (c : Cutting). c.since) is) (omega arith)
    (λ k d below. absurd (omega arith))

-- ---- a carriage return

stripped : (returns : Bool) (l : List ℕ) → let short : List ℕ =
    cond returns (take (length l - 1) l) l in
    (length l ≤ length short + 1) × (take (length short) l ≡ short)
stripped true l =
    let size : length (take (length l - 1) l) ≡ length l - 1 =
    length-take-le (length l - 1) l (omega arith) in
    (omega (arith, size), ap (λ (n : ℕ). take n l) size)
stripped false l = (omega arith, take-length l)

pub nearly_all : (l : List ℕ) → length l ≤ length (strip_carriage_return l) + 1
nearly_all l = (stripped (slice_index l (length l - 1) == 13) l).0

pub begins_line : (l : List ℕ) → take (length (strip_carriage_return l)) l ≡ strip_carriage_return l
begins_line l = (stripped (slice_index l (length l - 1) == 13) l).1

-- ---- what is kept

kept_all : (kept bytes : List ℕ) → kept ≡ take 258 bytes → length kept ≤ 257 → kept ≡ bytes
kept_all kept bytes is short =
    let size : length kept ≡ min 258 (length bytes) =
    ap (λ (l : List ℕ). length l) is ∙ length-take 258 bytes in
    is ∙ take_all 258 bytes (omega (arith, size))

pub no_longer : (kept bytes : List ℕ) → kept ≡ take 258 bytes → length kept ≤ length bytes
no_longer kept bytes is =
    let size : length kept ≡ min 258 (length bytes) =
    ap (λ (l : List ℕ). length l) is ∙ length-take 258 bytes in
    omega (arith, size)

-- ---- how a line is told

-- what is answered of a line, by the number of its bytes that count
pub record IsTold (whole : List ℕ) (r : Cut) (ended : Option (List ℕ)) : Type 0 where
  pub told : r ≡ cut_of whole
  pub lent : r ≡ Line → ended ≡ Some whole
  pub only : (line : List ℕ) → ended ≡ Some line → line ≡ whole

-- an end behind these bytes, of which the line keeps all but one at most
module _ (line_of : List ℕ → List ℕ) (near : (l : List ℕ) → length l ≤ length (line_of l) + 1)
    (begins : (l : List ℕ) → take (length (line_of l)) l ≡ line_of l)
    (kept since bytes : List ℕ) (n : ℕ) (r : Cut) (ended : Option (List ℕ)) (same : kept ≡ since)
    (is : since ≡ take 258 bytes) (size : n ≡ length (line_of kept))
    (long : 256 < n → (r ≡ TooLong) × (ended ≡ None))
    (short : n ≤ 256 → (r ≡ Line) × (ended ≡ Some (take n since))) where
  longer : 256 < n → (257 < length kept) ⊎ (length kept ≤ 257) → 256 < length (line_of bytes)
  longer more (inl full) = omega (arith, near bytes, no_longer kept bytes (same ∙ is), full)
  longer more (inr few) =
      omega (
        arith,
        ap (λ (l : List ℕ). length (line_of l)) (kept_all kept bytes (same ∙ is) few),
        size,
        more,
      )

  told_by_size : (256 < n) ⊎ (n ≤ 256) → IsTold (line_of bytes) r ended
  told_by_size (inl more) =
      let test : nat_lt 256 (length (line_of bytes)) ≡ true =
      lt-ltb _ _ (longer more (cases_lt 257 (length kept))) in
      let is_long : r ≡ TooLong = (long more).0 in
      let none : ended ≡ None = (long more).1 in
      record {
        told = is_long ∙ rw test refl;
        lent = λ e. let wrong : TooLong ≡ Line = sym is_long ∙ e in cc;
        only = λ line e. let wrong : None ≡ Some line = sym none ∙ e in cc;
      }
  told_by_size (inr few) =
      let all : kept ≡ bytes =
      kept_all kept bytes (same ∙ is) (omega (arith, near kept, size, few)) in
      let same_size : length (line_of kept) ≡ length (line_of bytes) =
      ap (λ (l : List ℕ). length (line_of l)) all in
      let test : nat_lt 256 (length (line_of bytes)) ≡ false =
      le-ltb 256 _ (omega (arith, same_size, size, few)) in
      let whole : take n since ≡ line_of bytes =
      ap (λ (l : List ℕ). take n l) (sym same) ∙ ap (λ (m : ℕ). take m kept) size ∙ begins kept
      ∙ ap line_of all in
      let some : ended ≡ Some (line_of bytes) = (short few).1 ∙ ap (λ (l : List ℕ). Some l) whole in
      record {
        told = (short few).0 ∙ rw test refl;
        lent = λ _. some;
        only = λ line e. same_Some line (line_of bytes) (sym e ∙ some);
      }

  pub at_end_of_line : IsTold (line_of bytes) r ended
  at_end_of_line = told_by_size (cases_lt 256 n)

-- ---- a byte that ends no line

pub one_more : (kept since bytes : List ℕ) (byte : ℕ) → kept ≡ since → since ≡ take 258 bytes
    → length kept < 258
    → kept ++ (byte ∷ []) ≡ take 258 (bytes ++ (byte ∷ []))
one_more kept since bytes byte same is room =
    let all : kept ≡ bytes = kept_all kept bytes (same ∙ is) (omega arith) in
    let size : length kept ≡ length bytes = ap (λ (l : List ℕ). length l) all in
    let longer : length (bytes ++ (byte ∷ [])) ≡ length bytes + 1 =
    length-append bytes (byte ∷ []) in
    ap (λ (l : List ℕ). l ++ (byte ∷ [])) all
    ∙ sym (take_all 258 (bytes ++ (byte ∷ [])) (omega (arith, size, longer)))

pub no_more : (kept since bytes : List ℕ) (byte : ℕ) → kept ≡ since → since ≡ take 258 bytes
    → 258 ≤ length kept
    → since ≡ take 258 (bytes ++ (byte ∷ []))
no_more kept since bytes byte same is full =
    let least = no_longer kept bytes (same ∙ is) in
    is ∙ sym (take-append-le 258 bytes (byte ∷ []) (omega (arith, least)))

pub no_feed : (bytes : List ℕ) (byte : ℕ) → NoFeed bytes → byte ≢ 10 → NoFeed (bytes ++ (byte ∷ []))
no_feed bytes byte none other =
    All-push (λ b. (b == 10) ≡ false) bytes byte none (ne_eqb byte 10 other)

-- ---- the lines of the stream

pub next_line : (bytes rest line : List ℕ) (byte : ℕ) → NoFeed bytes → byte ≡ 10
    → line ≡ strip_carriage_return bytes
    → lines (bytes ++ (byte ∷ rest)) ≡ line ∷ lines rest
next_line bytes rest line byte none feed is =
    ap (λ (b : ℕ). lines (bytes ++ (b ∷ rest))) feed ∙ lines_cut bytes rest none
    ∙ ap (λ (l : List ℕ). l ∷ lines rest) (sym is)

pub last_of_stream : (bytes line : List ℕ) → NoFeed bytes → 0 < length bytes → line ≡ bytes
    → lines bytes ≡ line ∷ []
last_of_stream bytes line none some is =
    only_line bytes none some ∙ ap (λ (l : List ℕ). l ∷ []) (sym is)
