-- What `==` says of batches and of verdicts: it holds exactly where they are the same. The crates
-- above may cite it.
use Rattle.std.proofs.Common.{◌≡◌, ◌∙◌, ℕ, Bool, ◌&&◌, List, Ok, Err, length, take, replicate, refl}
use Rattle.std.proofs.Common.{sym, ap}
use Rattle.std.specs.Prelude.{Result, ◌-◌, ◌==◌}
use Rattle.std.specs.Bool.{Decides}
use Rattle.std.proofs.lemmas.Bool.Decides.{Decides-eqb, Decides-and, Decides-like}
use Rattle.std.specs.Cmp.Lexicographic.{pointwise}
use Rattle.std.proofs.lemmas.Slice.Eq.{slice_eq-Decides}
use Rattle.std.proofs.Math.Seq.{take-append_seam}
use Rattle.std.specs.Result.{result_eq}
use Rattle.std.specs.contracts.prelude.UnitPartialEq.TheImpl as unit_eq
use denote.Enum.Bare.{same_true, true_same}
use Rattle.turn_ledger.specs.InPlace.{filled}
use Rattle.turn_ledger.specs.declared.limits.TheConstants.{BATCH_LIMIT}
use Rattle.turn_ledger.specs.declared.entry.Entry.{Entry}
use Rattle.turn_ledger.specs.declared.entry.Entry.TheVariants.{Deposit, Withdraw, Transfer, Seal}
use Rattle.turn_ledger.specs.declared.refusal.EntryRefusal.{EntryRefusal}
use Rattle.turn_ledger.specs.declared.batch.TheConstants as batch
use Rattle.turn_ledger.specs.declared.verdicts.TheConstants as verdicts
use Rattle.turn_ledger.specs.contracts.refusal.EntryRefusal as refusal
use Rattle.turn_ledger.specs.contracts.entry.EntryPartialEq.TheImpl as entry_eq
use Rattle.turn_ledger.specs.contracts.refusal.EntryRefusalPartialEq.TheImpl as refusal_eq
use Rattle.turn_ledger.specs.contracts.batch.BatchPartialEq.TheImpl as batch_eq
use Rattle.turn_ledger.specs.contracts.verdicts.VerdictsPartialEq.TheImpl as verdicts_eq

-- three numbers, and four
three : (to to' amount amount' reference reference' : ℕ)
    → Decides ((to == to') && ((amount == amount') && (reference == reference')))
    ((to ≡ to') × ((amount ≡ amount') × (reference ≡ reference')))
three to to' amount amount' reference reference' =
    Decides-and (to == to') ((amount == amount') && (reference == reference')) (Decides-eqb to to')
    (Decides-and (amount == amount') (reference == reference') (Decides-eqb amount amount')
    (Decides-eqb reference reference'))

four : (from from' to to' amount amount' reference reference' : ℕ)
    → Decides ((from == from')
    && ((to == to') && ((amount == amount') && (reference == reference'))))
    ((from ≡ from') × ((to ≡ to') × ((amount ≡ amount') × (reference ≡ reference'))))
four from from' to to' amount amount' reference reference' =
    Decides-and (from == from') ((to == to') && ((amount == amount') && (reference == reference')))
    (Decides-eqb from from') (three to to' amount amount' reference reference')

pub Entry-decides : (a b : Entry) → Decides (entry_eq.ghosts.eq a b) (a ≡ b)
Entry-decides (Deposit to amount reference) (Deposit to' amount' reference') =
    Decides-like (entry_eq.ghosts.eq (Deposit to amount reference) (Deposit to' amount' reference'))
    (λ p i. Deposit (p.0 i) (p.1.0 i) (p.1.1 i)) (λ same. (cc, (cc, cc)))
    (three to to' amount amount' reference reference')
Entry-decides (Deposit to amount reference) (Withdraw from' amount' reference') =
    (λ yes. absurd (cc), λ same. absurd (cc))
Entry-decides (Deposit to amount reference) (Transfer from' to' amount' reference') =
    (λ yes. absurd (cc), λ same. absurd (cc))
Entry-decides (Withdraw from amount reference) (Deposit to' amount' reference') =
    (λ yes. absurd (cc), λ same. absurd (cc))
Entry-decides (Withdraw from amount reference) (Withdraw from' amount' reference') =
    Decides-like (entry_eq.ghosts.eq (Withdraw from amount reference)
    (Withdraw from' amount' reference')) (λ p i. Withdraw (p.0 i) (p.1.0 i) (p.1.1 i))
    (λ same. (cc, (cc, cc)))
    (three from from' amount amount' reference reference')
Entry-decides (Withdraw from amount reference) (Transfer from' to' amount' reference') =
    (λ yes. absurd (cc), λ same. absurd (cc))
Entry-decides (Transfer from to amount reference) (Deposit to' amount' reference') =
    (λ yes. absurd (cc), λ same. absurd (cc))
Entry-decides (Transfer from to amount reference) (Withdraw from' amount' reference') =
    (λ yes. absurd (cc), λ same. absurd (cc))
Entry-decides (Transfer from to amount reference) (Transfer from' to' amount' reference') =
    Decides-like (entry_eq.ghosts.eq (Transfer from to amount reference)
    (Transfer from' to' amount' reference'))
    (λ p i. Transfer (p.0 i) (p.1.0 i) (p.1.1.0 i) (p.1.1.1 i))
    (λ same. (cc, (cc, (cc, cc))))
    (four from from' to to' amount amount' reference reference')
Entry-decides (Deposit to amount reference) (Seal account' reference') =
    (λ yes. absurd (cc), λ same. absurd (cc))
Entry-decides (Withdraw from amount reference) (Seal account' reference') =
    (λ yes. absurd (cc), λ same. absurd (cc))
Entry-decides (Transfer from to amount reference) (Seal account' reference') =
    (λ yes. absurd (cc), λ same. absurd (cc))
Entry-decides (Seal account reference) (Deposit to' amount' reference') =
    (λ yes. absurd (cc), λ same. absurd (cc))
Entry-decides (Seal account reference) (Withdraw from' amount' reference') =
    (λ yes. absurd (cc), λ same. absurd (cc))
Entry-decides (Seal account reference) (Transfer from' to' amount' reference') =
    (λ yes. absurd (cc), λ same. absurd (cc))
Entry-decides (Seal account reference) (Seal account' reference') =
    Decides-like (entry_eq.ghosts.eq (Seal account reference) (Seal account' reference'))
    (λ p i. Seal (p.0 i) (p.1 i)) (λ same. (cc, cc))
    (Decides-and (account == account') (reference == reference') (Decides-eqb account account')
    (Decides-eqb reference reference'))

Refusal-decides : (a b : EntryRefusal) → Decides (refusal_eq.ghosts.eq a b) (a ≡ b)
Refusal-decides a b = (same_true refusal.the_type tt a b, true_same refusal.the_type a b)

abbrev Verdict : Type 0
Verdict = Result (Unit {0}) EntryRefusal

abbrev verdict_eq : Verdict → Verdict → Bool
verdict_eq = result_eq unit_eq.ghosts.eq refusal_eq.ghosts.eq

Verdict-decides : (a b : Verdict) → Decides (verdict_eq a b) (a ≡ b)
Verdict-decides (Ok x) (Ok y) = (λ yes. refl, λ same. refl)
Verdict-decides (Ok x) (Err b) = (λ yes. absurd (cc), λ same. absurd (cc))
Verdict-decides (Err a) (Ok y) = (λ yes. absurd (cc), λ same. absurd (cc))
Verdict-decides (Err a) (Err b) =
    Decides-like (refusal_eq.ghosts.eq a b) (λ same i. Err (same i)) (λ same. cc)
    (Refusal-decides a b)

-- arrays that are filled up, each with its count
module _ {X : Type 0} (filler : X) (E : X → X → Bool)
    (each : (a b : X) → Decides (E a b) (a ≡ b)) where
  pub filled-decides : (xs ys : List X)
      → Decides (pointwise E (filled filler xs) (filled filler ys) && (length xs == length ys))
      (xs ≡ ys)
  filled-decides xs ys =
      Decides-like (pointwise E (filled filler xs) (filled filler ys) && (length xs == length ys))
      (λ both.
      sym (take-append_seam xs (replicate (BATCH_LIMIT - length xs) filler))
      ∙ (λ i. take (both.1 i) (both.0 i))
      ∙ take-append_seam ys (replicate (BATCH_LIMIT - length ys) filler))
      (λ same. (ap (filled filler) same, ap length same))
      (Decides-and (pointwise E (filled filler xs) (filled filler ys)) (length xs == length ys)
      (slice_eq-Decides each (filled filler xs) (filled filler ys)
      (pointwise E (filled filler xs) (filled filler ys)) refl)
      (Decides-eqb (length xs) (length ys)))

pub Batch-decides : (a b : List Entry) → Decides (batch_eq.ghosts.eq a b) (a ≡ b)
Batch-decides = filled-decides batch.UNUSED entry_eq.ghosts.eq Entry-decides

pub Verdicts-decides : (a b : List Verdict) → Decides (verdicts_eq.ghosts.eq a b) (a ≡ b)
Verdicts-decides = filled-decides verdicts.UNUSED verdict_eq Verdict-decides
