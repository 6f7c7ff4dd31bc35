-- The list of privileges has exactly the pairs whose guard is true.
use Rattle.std.specs.Prelude.{◌≡◌, ℕ, zero, suc, ◌+◌, ◌<◌, ◌≤◌, Bool, true, false, cond, List, []}
use Rattle.std.specs.Prelude.{◌∷◌, map, length, slice_index_or}
use Rattle.std.specs.List.{Contains, filter, flat_map, range_with_len}
use Rattle.std.proofs.Common.{refl, sym, ◌∙◌, ap, arith, inl, inr}
use Rattle.std.proofs.lemmas.Bool.{cases_lt}
use Rattle.std.proofs.lemmas.List.Elements.{Contains-append_left, Contains-append_right}
use Rattle.std.proofs.lemmas.List.Elements.{filter_passes}
use Rattle.four_state.specs.Configuration.{stations}
use Rattle.four_state.specs.Privilege.{guard, every_rule, every_pair}
use Rattle.four_state.specs.Laws.{ListsPrivileges}
use Rattle.four_state.specs.MotionLaws.{privileged_stands}
use Rattle.four_state.specs.declared.rules.Rule.{Rule}
use Rattle.four_state.specs.declared.rules.Rule.TheVariants.{Bottom, Top, Raise, Lower}

kept_first : {X : Type 0} (b : Bool) (y x : X) (rest : List X) → b ≡ true → y ≡ x
    → Contains (cond b (y ∷ rest) rest) x
kept_first true y x rest e same = (0, omega arith, same)
kept_first false y x rest e same = absurd (cc)

kept_later : {X : Type 0} (b : Bool) (y x : X) (rest : List X) → Contains rest x
    → Contains (cond b (y ∷ rest) rest) x
kept_later true y x rest h = (suc h.0, omega (arith, h.1), h.2)
kept_later false y x rest h = h

-- what passes is kept
kept : {X : Type 0} (p : X → Bool) (xs : List X) (x : X) (k : ℕ) → k < length xs
    → slice_index_or xs k x ≡ x → p x ≡ true → Contains (filter p xs) x
kept p [] x k l e passes = absurd (omega arith)
kept p (y ∷ xs) x zero l e passes = kept_first (p y) y x (filter p xs) (ap p e ∙ passes) e
kept p (y ∷ xs) x (suc k) l e passes =
    kept_later (p y) y x (filter p xs) (kept p xs x k (omega arith) e passes)

-- what is kept passes
passes_if_kept : {X : Type 0} (p : X → Bool) (xs : List X) (x : X) → Contains (filter p xs) x
    → p x ≡ true
passes_if_kept p xs x h = ap p (sym h.2) ∙ filter_passes p xs h.0 x h.1

rule_stands : (s : ℕ) (rule : Rule)
    → Contains {X = ℕ × Rule} (map (λ rule. (s, rule)) every_rule) (s, rule)
rule_stands s Bottom = (0, omega arith, refl)
rule_stands s Top = (1, omega arith, refl)
rule_stands s Raise = (2, omega arith, refl)
rule_stands s Lower = (3, omega arith, refl)

pair_stands : (n a s : ℕ) (rule : Rule) → a ≤ s → s < a + n
    → Contains {X = ℕ × Rule}
    (flat_map (λ s. map (λ rule. (s, rule)) every_rule) (range_with_len a n)) (s, rule)
pair_stands zero a s rule above below = absurd (omega arith)
pair_stands (suc n) a s rule above below =
    let here : List (ℕ × Rule) = map (λ rule. (a, rule)) every_rule in
    let rest : List (ℕ × Rule) =
    flat_map (λ s. map (λ rule. (s, rule)) every_rule) (range_with_len (a + 1) n) in
    elim (cases_lt a s) [
      | inl l ↦ Contains-append_right here rest (s, rule)
          (pair_stands n (a + 1) s rule (omega arith) (omega arith))
      | inr l ↦
          let same : s ≡ a = omega arith in
          Contains-append_left here rest (s, rule) (rw same (rule_stands a rule))
    ]

pub privileges_of-Contains : ListsPrivileges
privileges_of-Contains c h s rule =
    let pairs = every_pair c in
    let test : (ℕ × Rule) → Bool = λ pair. guard c pair.0 pair.1 in (
      λ member. passes_if_kept test pairs (s, rule) member,
      λ p.
          let stands = pair_stands (stations c) 0 s rule (omega arith)
          (omega (arith, privileged_stands c s rule h p)) in
          kept test pairs (s, rule) stands.0 stands.1 stands.2 p,
    )
