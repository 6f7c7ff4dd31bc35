-- Taking one request after another.
use Rattle.std.specs.Prelude.{◌≡◌, List, [], ◌∷◌, ◌++◌, refl}
use Rattle.std.specs.declared.alloc.Global.{Global}
use Rattle.std.proofs.Common.{sym, ◌∙◌, ap, append_assoc}
use Rattle.std.proofs.lemmas.List.{append-nil}
use Rattle.rtrb.specs.Ring.{received, SameConsumer}
use Rattle.rtrb.specs.declared.consumer.Consumer.{Consumer}
use Rattle.rtrb.specs.declared.AnyItems.{AnyItems}
use Rattle.station_desk.specs.declared.messages.Ask.{Ask}

-- the requests that were taken so far are those that the ring has given and those that are held
-- more
pub record Taking (old new : Consumer Ask Global AnyItems) (before after : List Ask) : Type 0 where
  pub more : List Ask
  pub ring : SameConsumer old new
  pub taken : received new ≡ received old ++ more
  pub held : after ≡ before ++ more

pub none_taken : (ring : Consumer Ask Global AnyItems) (held : List Ask)
    → Taking ring ring held held
none_taken ring held = record {
  more = [];
  ring = ((refl, refl, refl, refl), refl);
  taken = sym (append-nil (received ring));
  held = sym (append-nil held);
}

-- one request more has come out of the ring
pub record Popped (old new : Consumer Ask Global AnyItems) (ask : Ask) : Type 0 where
  pub ring : SameConsumer old new
  pub taken : received new ≡ received old ++ ask ∷ []

pub one_more_taken : (old mid new : Consumer Ask Global AnyItems) (before held after : List Ask)
    (ask : Ask) → Taking old mid before held
    → Popped mid new ask → after ≡ held ++ ask ∷ [] → Taking old new before after
one_more_taken old mid new before held after ask far popped more_held = let ring = popped.ring in
    record {
      more = far.more ++ ask ∷ [];
      ring = (
        (
          ring.0.0 ∙ far.ring.0.0,
          ring.0.1 ∙ far.ring.0.1,
          ring.0.2 ∙ far.ring.0.2,
          ring.0.3 ∙ far.ring.0.3,
        ),
        ring.1 ∙ far.ring.1,
      );
      taken = popped.taken ∙ ap (λ (asks : List Ask). asks ++ ask ∷ []) far.taken
          ∙ append_assoc (received old) far.more (ask ∷ []);
      held = more_held ∙ ap (λ (asks : List Ask). asks ++ ask ∷ []) far.held
          ∙ append_assoc before far.more (ask ∷ []);
    }

-- the end of a pop that found nothing
pub still_taken : (old mid new : Consumer Ask Global AnyItems) (before held : List Ask)
    → Taking old mid before held
    → SameConsumer mid new → received new ≡ received mid → Taking old new before held
still_taken old mid new before held far ring taken = record {
  more = far.more;
  ring = (
    (
      ring.0.0 ∙ far.ring.0.0,
      ring.0.1 ∙ far.ring.0.1,
      ring.0.2 ∙ far.ring.0.2,
      ring.0.3 ∙ far.ring.0.3,
    ),
    ring.1 ∙ far.ring.1,
  );
  taken = taken ∙ far.taken;
  held = far.held;
}
