-- What `==` says of turns: it holds exactly where they are the same. The crates above may cite it.
use Rattle.std.proofs.Common.{◌≡◌, ℕ, ◌==◌, Option, Some, None, length, refl, ap}
use Rattle.std.specs.Prelude.{count_by, is_ok, is_none}
use Rattle.std.specs.Bool.{Decides}
use Rattle.std.proofs.lemmas.Bool.Decides.{Decides-eqb, Decides-and, Decides-like}
use mathlib.Core.HLevel.{is_prop→PathP}
use denote.Enum.Bare.{same_true, true_same}
use denote.Struct.Props.{props}
use Rattle.four_state.specs.declared.rules.Rule.{Rule}
use Rattle.four_state.specs.contracts.rules.Rule as rule
use Rattle.four_state.specs.contracts.rules.RulePartialEq.TheImpl as rule_eq
use Rattle.std.specs.Option.{option_eq}
use Rattle.turn_ledger.specs.Equality.{Batch-decides, Verdicts-decides}
use Rattle.turn_clerk.specs.declared.turns.Turn.{Turn}
use Rattle.turn_clerk.specs.contracts.turns.TurnPartialEq.TheImpl as turn_eq

Rule-decides : (a b : Rule) → Decides (rule_eq.ghosts.eq a b) (a ≡ b)
Rule-decides a b = (same_true rule.the_type tt a b, true_same rule.the_type a b)

Number-decides : (a b : Option ℕ) → Decides (option_eq (λ x y. x == y) a b) (a ≡ b)
Number-decides None None = (λ yes. refl, λ same. refl)
Number-decides None (Some b) = (λ yes. absurd (cc), λ same. absurd (cc))
Number-decides (Some a) None = (λ yes. absurd (cc), λ same. absurd (cc))
Number-decides (Some a) (Some b) =
    Decides-like (a == b) (λ same i. Some (same i)) (λ same. cc) (Decides-eqb a b)

-- turns are the same where their parts are
module _ (a b : Turn) (index : a.index ≡ b.index) (station : a.station ≡ b.station)
    (rule : a.rule ≡ b.rule) (entries : a.entries ≡ b.entries) (verdicts : a.verdicts ≡ b.verdicts)
    (posted : a.posted ≡ b.posted) where
  judged_prop : (i : 𝕀) → IsProp (length (verdicts i) ≡ length (entries i))
  judged_prop i = hlevel props

  posted_prop : (i : 𝕀) → IsProp (is_none (posted i) ≡ (count_by is_ok (verdicts i) == 0))
  posted_prop i = hlevel props

  same_turn : a ≡ b
  same_turn = λ i. record {
    index = index i;
    station = station i;
    rule = rule i;
    entries = entries i;
    verdicts = verdicts i;
    posted = posted i;
    judged_each = is_prop→PathP (λ (j : 𝕀). length (verdicts j) ≡ length (entries j)) judged_prop
        a.judged_each b.judged_each i;
    posted_if_accepted =
        is_prop→PathP (λ (j : 𝕀). is_none (posted j) ≡ (count_by is_ok (verdicts j) == 0))
        posted_prop a.posted_if_accepted b.posted_if_accepted i;
  }

pub Turn-decides : (a b : Turn) → Decides (turn_eq.ghosts.eq a b) (a ≡ b)
Turn-decides a b =
    Decides-like (turn_eq.ghosts.eq a b)
    (λ p. same_turn a b p.0 p.1.0 p.1.1.0 p.1.1.1.0 p.1.1.1.1.0 p.1.1.1.1.1)
    (λ same. (
      ap (λ (t : Turn). t.index) same,
      (
        ap (λ (t : Turn). t.station) same,
        (
          ap (λ (t : Turn). t.rule) same,
          (
            ap (λ (t : Turn). t.entries) same,
            (ap (λ (t : Turn). t.verdicts) same, ap (λ (t : Turn). t.posted) same),
          ),
        ),
      ),
    ))
    (Decides-and _ _ (Decides-eqb a.index b.index)
    (Decides-and _ _ (Decides-eqb a.station b.station)
    (Decides-and _ _ (Rule-decides a.rule b.rule)
    (Decides-and _ _ (Batch-decides a.entries b.entries)
    (Decides-and _ _ (Verdicts-decides a.verdicts b.verdicts)
    (Number-decides a.posted b.posted))))))
