-- A look goes on in one run of steps, or begins a new one.
use Rattle.std.specs.Prelude.{◌⊎◌, ◌<◌, ◌≤◌, ℕ, Option, None, refl}
use Rattle.std.proofs.Common.{sym, subst, inl, inr, arith}
use Rattle.std.proofs.lemmas.Bool.{cases_lt}
use Rattle.turn_clerk.specs.declared.search_target.Posting.{Posting}
use Rattle.office_sessions.specs.declared.look.Look.{Look}
use Rattle.office_sessions.specs.Looked.{HasSeen, begins, goes_on, Meets, BeginsAnew}

module _ (old new : Look) (began next : ℕ) (posting : Option Posting)
    (meets : began ≤ old.from → Meets old posting new)
    (gap : old.from < began → BeginsAnew began posting new)
    (was : HasSeen old.since old.from old.posting) where
  on : (old.from < began) ⊎ (began ≤ old.from) → HasSeen new.since next new.posting
  on (inl far) =
      subst (λ (s : ℕ). HasSeen s next new.posting) (sym (gap far).0)
      (subst (HasSeen began next) (sym (gap far).1)
      (goes_on began began next None posting posting begins (omega arith) refl))
  on (inr near) =
      goes_on old.from began next old.posting posting new.posting
      (subst (λ (s : ℕ). HasSeen s old.from old.posting) (sym (meets near).0) was) near
      (meets near).1

  pub seen-on : HasSeen new.since next new.posting
  seen-on = on (cases_lt old.from began)
