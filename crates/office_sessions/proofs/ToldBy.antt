-- What a counter was told stays right with each reply, response and entry more.
use Rattle.std.specs.Prelude.{◌≡◌, ◌⊎◌, ◌+◌, ◌^◌, ◌<◌, ◌≤◌, ℕ, List, [], ◌∷◌, ◌++◌, All}
use Rattle.std.specs.Prelude.{Contains, Option, None, Some, IfSome, Result, Ok, Err, IfOk, IfErr}
use Rattle.std.specs.Prelude.{refl, zero, suc}
use Rattle.std.proofs.Common.{sym, ◌∙◌, ap, subst, inl, inr, arith}
use Rattle.std.proofs.Math.Logic.{∥∥₁_map}
use Rattle.std.proofs.lemmas.List.{append_assoc, append-nil}
use Rattle.std.proofs.lemmas.List.Elements.{All-append, All-cons, All-nil, Contains-append_left}
use Rattle.std.proofs.lemmas.List.Elements.{Contains-append_right}
use Rattle.std.proofs.lemmas.Bool.{cases_lt}
use Rattle.turn_ledger.specs.declared.entry.Entry.{Entry}
use Rattle.turn_ledger.specs.Entry.{reference_of}
use Rattle.turn_clerk.specs.declared.search_target.Posting.{Posting}
use Rattle.turn_clerk.specs.declared.searching.SearchStep.{SearchStep}
use Rattle.turn_clerk.specs.declared.refusals.FindRefusal.{FindRefusal}
use Rattle.station_desk.specs.declared.messages.Answer.{Answer}
use Rattle.station_desk.specs.declared.messages.Outcome.{Outcome}
use Rattle.station_desk.specs.declared.messages.Outcome.TheVariants as outcome
use Rattle.office_sessions.specs.declared.look.OwnPostings.{OwnPostings}
use Rattle.office_sessions.specs.Conversation.{told_of, response_of}
use Rattle.office_sessions.specs.Looked.{earlier_by, earlier_of, GoesOnBy}
use Rattle.office_sessions.specs.Replies.{CameLast, HeldAtSomeMoment, HasSearched, HasLooked}
use Rattle.office_sessions.specs.Replies.{search_begins, search_goes_on, look_begins, look_goes_on}
use Rattle.office_sessions.specs.Replies.{HasSeenAll, IsToldBy, AreToldBy, AreWithoutReference}
use Rattle.office_sessions.specs.Replies.{AreAboveSeen, IsEnough, AreAboveEarlier, IsLearned}
use Rattle.office_sessions.specs.Replies.{IsAboveSeen, IsWithin, RiseFromEarlier, nothing_since}
use Rattle.office_sessions.specs.Replies.{IsFirst, IsFrom, SearchesOn}
use Rattle.office_sessions.specs.Replies.{IsTooFar, greatest_in, step_of_search}
use Rattle.office_sessions.specs.Replies.{step_of_look}
use Rattle.office_sessions.specs.declared.look.Look.{Look}
use Rattle.office_sessions.specs.declared.look.LookAnswer.{LookAnswer}
use Rattle.office_sessions.specs.declared.search.Search.{Search}
use Rattle.office_sessions.specs.declared.session.Earlier.{Earlier}
use Rattle.office_sessions.specs.declared.session.Earlier.TheVariants as earlier
use Rattle.office_sessions.specs.declared.replies.Reply.{Reply}
use Rattle.office_sessions.specs.declared.responses.Response.{Response}
use Rattle.office_sessions.specs.declared.responses.Response.TheVariants as response

-- what is so now was so at some moment
pub once-now : (So : List Reply → Type 0) (heard : List Reply) → So heard
    → HeldAtSomeMoment So heard
once-now So heard so =
    record { before = heard; later = []; all = sym (append-nil heard); so = so }

-- and still was, with one reply more
pub once-more : (So : List Reply → Type 0) (heard : List Reply) (one : Reply) {more : List Reply}
    → more ≡ heard ++ one ∷ [] → HeldAtSomeMoment So heard → HeldAtSomeMoment So more
once-more So heard one is once = record {
  before = once.before;
  later = once.later ++ one ∷ [];
  all = is ∙ ap (λ (front : List Reply). front ++ one ∷ []) once.all
      ∙ append_assoc once.before once.later (one ∷ []);
  so = once.so;
}

-- what was put behind others is among them
pub among-last : {X : Type 0} (before : List X) (one : X) {all : List X} → all ≡ before ++ one ∷ []
    → Contains all one
among-last {X} before one is =
    subst (λ (l : List X). Contains l one) (sym is)
    (Contains-append_right before (one ∷ []) one (0, omega arith, refl))

-- what came last is among what came
pub last-among : (one : Reply) (heard : List Reply) → CameLast one heard → Contains heard one
last-among one heard last = among-last last.before one last.all

-- a search, and a look, stand on what came
searched-on : (heard : List Reply) (one : Reply) (search : Search) → HasSearched heard search
    → HasSearched (heard ++ one ∷ []) search
searched-on heard one search (search_begins reference) = search_begins reference
searched-on heard one search (search_goes_on before after step was among on) =
    search_goes_on before after step (searched-on heard one before was)
    (Contains-append_left heard (one ∷ []) _ among) on

pub searched-more : (heard : List Reply) (one : Reply) (search : Search) {more : List Reply}
    → more ≡ heard ++ one ∷ [] → ∥ HasSearched heard search ∥₁ → ∥ HasSearched more search ∥₁
searched-more heard one search is was =
    ∥∥₁_map was (λ so. subst (λ (l : List Reply). HasSearched l search) (sym is)
    (searched-on heard one search so))

looked-on : (own : OwnPostings) (limit : ℕ) (heard : List Reply) (one : Reply) (look : Look)
    → HasLooked own limit heard look → HasLooked own limit (heard ++ one ∷ []) look
looked-on own limit heard one look look_begins = look_begins
looked-on own limit heard one look (look_goes_on before after step was among on) =
    look_goes_on before after step (looked-on own limit heard one before was)
    (Contains-append_left heard (one ∷ []) _ among) on

pub looked-more : (own : OwnPostings) (limit : ℕ) (heard : List Reply) (one : Reply) (look : Look)
    {more : List Reply} → more ≡ heard ++ one ∷ [] → ∥ HasLooked own limit heard look ∥₁
    → ∥ HasLooked own limit more look ∥₁
looked-more own limit heard one look is was =
    ∥∥₁_map was (λ so. subst (λ (l : List Reply). HasLooked own limit l look) (sym is)
    (looked-on own limit heard one look so))

-- what was told was right by what had come, also where more has come
pub told-heard : (own : OwnPostings) (told : List Response) (heard : List Reply) (one : Reply)
    {more : List Reply} → more ≡ heard ++ one ∷ [] → AreToldBy own told heard
    → AreToldBy own told more
told-heard own told heard one is right =
    λ k other low. ∥∥₁_map (right k other low) (once-more _ heard one is)

-- and is, with one response more that is right by now
pub told-more : (own : OwnPostings) (told : List Response) (heard : List Reply) (one : Response)
    {more : List Response} → more ≡ told ++ one ∷ [] → ∥ IsToldBy own one heard ∥₁
    → AreToldBy own told heard → AreToldBy own more heard
told-more own told heard one is by right =
    let So : Response → Type 0 = λ each. ∥ HeldAtSomeMoment (IsToldBy own each) heard ∥₁ in
    subst (λ (l : List Response). AreToldBy own l heard) (sym is)
    (All-append So told (one ∷ []) right
    (All-cons So one [] (∥∥₁_map by (once-now (IsToldBy own one) heard)) (All-nil So)))

-- what a session has learned, with one reply more
module _ (own : OwnPostings) (heard : List Reply) (one : Reply) (told : List Response)
    (asked : List Entry) (posted : ℕ) where
  above-heard : {more : List Reply} → more ≡ heard ++ one ∷ []
      → AreAboveEarlier own heard told asked → AreAboveEarlier own more told asked
  above-heard is above = record {
    seen = above.seen;
    looked = once-more (HasSeenAll own above.seen) heard one is above.looked;
    enough = above.enough;
    above = above.above;
  }

  pub learned-heard : (known : Earlier) {more : List Reply} → more ≡ heard ++ one ∷ []
      → IsLearned own heard told asked posted known
      → IsLearned own more told asked posted known
  unfolding above-heard
  learned-heard earlier.Unlooked is so = so
  learned-heard (earlier.OutOfSight since) is so =
      (so.0, (so.1.0, once-more (HasSeenAll own (nothing_since since)) heard one is so.1.1))
  learned-heard earlier.Known is so = (above-heard is so.0, so.1, so.2)

-- with one response more
module _ (own : OwnPostings) (heard : List Reply) (told : List Response) (one : Response)
    (asked : List Entry) where
  enough-told : (seen : LookAnswer) {more : List Response} → more ≡ told ++ one ∷ []
      → IsEnough seen told asked → IsEnough seen more asked
  enough-told seen is (inl all) = inl all
  enough-told seen is (inr begins) = inr (record {
    reference = begins.reference;
    said = subst (λ (l : List Response). Contains l (response.First begins.reference)) (sym is)
        (Contains-append_left told (one ∷ []) _ begins.said);
    from = begins.from;
  })

  from-told : (seen : LookAnswer) (most : ℕ) {more : List Response} (is : more ≡ told ++ one ∷ [])
      (enough : IsEnough seen told asked) → IsFrom seen told asked most enough
      → IsFrom seen more asked most (enough-told seen is enough)
  unfolding enough-told
  from-told seen most is (inl all) so = so
  from-told seen most is (inr begins) so = so

  above-told : {more : List Response} → more ≡ told ++ one ∷ []
      → AreAboveEarlier own heard told asked → AreAboveEarlier own heard more asked
  above-told is above = record {
    seen = above.seen;
    looked = above.looked;
    enough = enough-told above.seen is above.enough;
    above = above.above;
  }

  pub rise-told : {more : List Response} → more ≡ told ++ one ∷ []
      → RiseFromEarlier own heard told asked → RiseFromEarlier own heard more asked
  rise-told is (inl none) = inl none
  rise-told is (inr above) = inr (above-told is above)

  pub learned-told : (posted : ℕ) (known : Earlier) {more : List Response}
      → more ≡ told ++ one ∷ [] → IsLearned own heard told asked posted known
      → IsLearned own heard more asked posted known
  unfolding above-told
  learned-told posted earlier.Unlooked is so = so
  learned-told posted (earlier.OutOfSight since) is so = so
  learned-told posted earlier.Known is so =
      (above-told is so.0, so.1, from-told so.0.seen posted is so.0.enough so.2)

-- entries without a reference are above whatever was seen
pub above-any : (seen : LookAnswer) (asked : List Entry) → AreWithoutReference asked
    → AreAboveSeen seen asked
above-any seen asked none =
    λ k entry low above. absurd (omega (arith, above, none k entry low))

-- the reference that was seen is within a greater one too
pub within-more : (posting : Option Posting) (posted most : ℕ) → posted ≤ most
    → IfSome posting (λ last. reference_of last.entry ≤ posted)
    → IfSome posting (λ last. reference_of last.entry ≤ most)
within-more None posted most low within = within
within-more (Some last) posted most low within = omega (arith, low, within)

-- a reference that is above all that are known is above the one that was seen
above-within : (posting : Option Posting) (posted reference : ℕ) → posted < reference
    → IfSome posting (λ last. reference_of last.entry ≤ posted)
    → IfSome posting (λ last. reference_of last.entry < reference)
above-within None posted reference above within = within
above-within (Some last) posted reference above within = omega (arith, above, within)

above-more : (seen : LookAnswer) (asked : List Entry) (posted : ℕ) (entry : Entry)
    {more : List Entry} → more ≡ asked ++ entry ∷ []
    → (0 < reference_of entry → posted < reference_of entry) → IsWithin posted seen
    → AreAboveSeen seen asked → AreAboveSeen seen more
above-more seen asked posted entry is above within before =
    let So : Entry → Type 0 = λ one. 0 < reference_of one → IsAboveSeen seen (reference_of one) in
    subst (All So) (sym is)
    (All-append So asked (entry ∷ []) before
    (All-cons So entry []
    (λ some. above-within seen.posting posted (reference_of entry) (above some) within)
    (All-nil So)))

no-reference : (reference : ℕ) → (0 < reference → ⊥)
    → (0 < reference) ⊎ (reference ≤ 0) → reference ≡ 0
no-reference reference none (inl some) = absurd (none some)
no-reference reference none (inr low) = omega (arith, low)

none-more : (asked : List Entry) (entry : Entry) {more : List Entry} → more ≡ asked ++ entry ∷ []
    → reference_of entry ≡ 0 → AreWithoutReference asked → AreWithoutReference more
none-more asked entry is lacks before =
    let So : Entry → Type 0 = λ one. reference_of one ≡ 0 in
    subst (All So) (sym is)
    (All-append So asked (entry ∷ []) before (All-cons So entry [] lacks (All-nil So)))

enough-more : (seen : LookAnswer) (told : List Response) (asked : List Entry) (posted : ℕ)
    (entry : Entry) {more : List Entry} → more ≡ asked ++ entry ∷ []
    → (0 < reference_of entry → posted < reference_of entry)
    → (enough : IsEnough seen told asked) → IsFrom seen told asked posted enough
    → (after : IsEnough seen told more) × IsFrom seen told more posted after
enough-more seen told asked posted entry is above (inl known) so = (inl known, tt)
enough-more seen told asked posted entry is above (inr begins) so =
    let So : Entry → Type 0 =
    λ one. 0 < reference_of one → begins.reference ≤ reference_of one in (
      inr (record {
        reference = begins.reference;
        said = begins.said;
        from = subst (All So) (sym is)
            (All-append So asked (entry ∷ []) begins.from
            (All-cons So entry [] (λ some. omega (arith, above some, so)) (All-nil So)));
      }),
      so,
    )

-- with one entry more, whose reference is above all that are known
pub learned-asked : (own : OwnPostings) (heard : List Reply) (told : List Response)
    (asked : List Entry) (posted : ℕ) (known : Earlier) (entry : Entry) {more : List Entry}
    → more ≡ asked ++ entry ∷ []
    → (0 < reference_of entry → known ≡ earlier.Known)
    → (0 < reference_of entry → posted < reference_of entry)
    → IsLearned own heard told asked posted known
    → IsLearned own heard told more posted known
learned-asked own heard told asked posted earlier.Unlooked entry is only above so =
    none-more asked entry is
    (no-reference (reference_of entry) (λ some. let known = only some in absurd (cc))
    (cases_lt 0 (reference_of entry))) so
learned-asked own heard told asked posted (earlier.OutOfSight since) entry is only above so = (
  none-more asked entry is
      (no-reference (reference_of entry) (λ some. let known = only some in absurd (cc))
      (cases_lt 0 (reference_of entry))) so.0,
  so.1,
)
learned-asked own heard told asked posted earlier.Known entry is only above so =
    let enough =
    enough-more so.0.seen told asked posted entry is above so.0.enough so.2 in (
      record {
        seen = so.0.seen;
        looked = so.0.looked;
        enough = enough.0;
        above = above-more so.0.seen asked posted entry is above so.1 so.0.above;
      },
      so.1,
      enough.1,
    )

from-raised : (seen : LookAnswer) (told : List Response) (asked : List Entry) (posted most : ℕ)
    → posted ≤ most → (enough : IsEnough seen told asked)
    → IsFrom seen told asked posted enough
    → IsFrom seen told asked most enough
from-raised seen told asked posted most low (inl known) so = tt
from-raised seen told asked posted most low (inr begins) so = omega (arith, low, so)

-- where more is known to be posted
pub learned-raised : (own : OwnPostings) (heard : List Reply) (told : List Response)
    (asked : List Entry) (posted most : ℕ) (known : Earlier) → posted ≤ most
    → IsLearned own heard told asked posted known
    → IsLearned own heard told asked most known
learned-raised own heard told asked posted most earlier.Unlooked low so = so
learned-raised own heard told asked posted most (earlier.OutOfSight since) low so = so
learned-raised own heard told asked posted most earlier.Known low so = (
  so.0,
  within-more so.0.seen.posting posted most low so.1,
  from-raised so.0.seen told asked posted most low so.0.enough so.2,
)

-- what entries a session that has learned asks to post rise
pub rise-learned : (own : OwnPostings) (heard : List Reply) (told : List Response)
    (asked : List Entry) (posted : ℕ) (known : Earlier)
    → IsLearned own heard told asked posted known
    → RiseFromEarlier own heard told asked
rise-learned own heard told asked posted earlier.Unlooked so = inl so
rise-learned own heard told asked posted (earlier.OutOfSight since) so = inl so.0
rise-learned own heard told asked posted earlier.Known so = inr so.0

by-seen : (own : OwnPostings) (heard : List Reply) (told : List Response)
    (asked : List Entry) (posted : ℕ) (posting : Option Posting) (since : ℕ)
    → AreWithoutReference asked
    → HeldAtSomeMoment (HasSeenAll own (record { posting = posting; since = since })) heard
    → IfSome posting (λ last. reference_of last.entry ≤ posted)
    → IsLearned own heard told asked posted (earlier_of posting since)
by-seen own heard told asked posted (Some last) since none looked within = (
  record {
    seen = record { posting = Some last; since = since };
    looked = looked;
    enough = inl refl;
    above = above-any (record { posting = Some last; since = since }) asked none;
  },
  within,
  tt,
)
by-seen own heard told asked posted None zero none looked within = (
  record {
    seen = record { posting = None; since = zero };
    looked = looked;
    enough = inl refl;
    above = above-any (record { posting = None; since = zero }) asked none;
  },
  tt,
  tt,
)
by-seen own heard told asked posted None (suc before) none looked within =
    (none, (omega arith, looked))

-- a look at all that was posted says what is known
pub learned-seen : (own : OwnPostings) (heard : List Reply) (told : List Response)
    (asked : List Entry) (posted : ℕ) (seen : LookAnswer) → AreWithoutReference asked
    → HeldAtSomeMoment (HasSeenAll own seen) heard → IsWithin posted seen
    → IsLearned own heard told asked posted (earlier_by seen)
learned-seen own heard told asked posted seen none looked within =
    by-seen own heard told asked posted seen.posting seen.since none looked within

-- a session that has looked knows that the reference is above what was posted before
pub first-learned : (own : OwnPostings) (heard : List Reply) (told : List Response)
    (asked : List Entry) (posted : ℕ) (known : Earlier) (reference : ℕ)
    → (known ≡ earlier.Unlooked → ⊥)
    → posted < reference → IsLearned own heard told asked posted known
    → IsFirst own reference heard
first-learned own heard told asked posted earlier.Unlooked reference looked above so =
    absurd (looked refl)
first-learned own heard told asked posted (earlier.OutOfSight since) reference looked above so =
    record { seen = nothing_since since; looked = so.1.1; above = tt }
first-learned own heard told asked posted earlier.Known reference looked above so = record {
  seen = so.0.seen;
  looked = so.0.looked;
  above = above-within so.0.seen.posting posted reference above so.1;
}

-- from then on references begin there
pub learned-first : (own : OwnPostings) (heard : List Reply) (told : List Response)
    (asked : List Entry) (posted most : ℕ) (known : Earlier) (reference : ℕ)
    → (known ≡ earlier.Unlooked → ⊥)
    → posted ≤ most → reference ≤ most + 1 → Contains told (response.First reference)
    → IsLearned own heard told asked posted known
    → IsLearned own heard told asked most earlier.Known
learned-first own heard told asked posted most earlier.Unlooked reference looked low from first
    so = absurd (looked refl)
learned-first own heard told asked posted most (earlier.OutOfSight since) reference looked low
    from first so = (
      record {
        seen = nothing_since since;
        looked = so.1.1;
        enough = inr (record {
          reference = reference;
          said = first;
          from = λ k entry under some. absurd (omega (arith, some, so.0 k entry under));
        });
        above = above-any (nothing_since since) asked so.0;
      },
      tt,
      from,
    )
learned-first own heard told asked posted most earlier.Known reference looked low from first
    so = (
      so.0,
      within-more so.0.seen.posting posted most low so.1,
      from-raised so.0.seen told asked posted most low so.0.enough so.2,
    )

-- a session that has looked has
pub looked-learned : (own : OwnPostings) (heard : List Reply) (told : List Response)
    (asked : List Entry) (posted : ℕ) (known : Earlier) → (known ≡ earlier.Unlooked → ⊥)
    → IsLearned own heard told asked posted known
    → (seen : LookAnswer) × HeldAtSomeMoment (HasSeenAll own seen) heard
looked-learned own heard told asked posted earlier.Unlooked looked so = absurd (looked refl)
looked-learned own heard told asked posted (earlier.OutOfSight since) looked so =
    (nothing_since since, so.1.1)
looked-learned own heard told asked posted earlier.Known looked so =
    (so.0.seen, so.0.looked)

-- what is told of an answer tells of its entry alone
told-outcome : (own : OwnPostings) (reference : ℕ) (heard : List Reply) (what : Outcome)
    → IsToldBy own (told_of reference what) heard
told-outcome own reference heard (outcome.Posted number) = tt
told-outcome own reference heard (outcome.Refused refusal) = tt
told-outcome own reference heard outcome.Undecided = tt

pub told-answer : (own : OwnPostings) (heard : List Reply) (answer : Answer)
    → IsToldBy own (response_of answer) heard
told-answer own heard answer =
    told-outcome own (reference_of answer.entry) heard answer.outcome

-- a search goes on by a step that came last, or stays where the step failed
pub searched-by : (heard : List Reply) (found : Result SearchStep FindRefusal)
    (before after : Search) → IfOk found (λ step. SearchesOn before step after)
    → IfErr found (λ refusal. after ≡ before) → CameLast (step_of_search before found) heard
    → ∥ HasSearched heard before ∥₁ → ∥ HasSearched heard after ∥₁
searched-by heard (Ok step) before after on failed came was =
    ∥∥₁_map was (λ so. search_goes_on before after step so
    (last-among (step_of_search before (Ok step)) heard came) on)
searched-by heard (Err refusal) before after on failed came was =
    subst (λ (search : Search). ∥ HasSearched heard search ∥₁) (sym failed) was

-- and so a look
pub looked-by : (own : OwnPostings) (limit : ℕ) (heard : List Reply)
    (found : Result SearchStep FindRefusal) (before after : Look)
    → IfOk found (λ step. GoesOnBy before step.posting step.reached after)
    → IfErr found (λ refusal. after ≡ before)
    → CameLast (step_of_look own limit before found) heard
    → ∥ HasLooked own limit heard before ∥₁ → ∥ HasLooked own limit heard after ∥₁
looked-by own limit heard (Ok step) before after on failed came was =
    ∥∥₁_map was (λ so. look_goes_on before after step so
    (last-among (step_of_look own limit before (Ok step)) heard came) on)
looked-by own limit heard (Err refusal) before after on failed came was =
    subst (λ (look : Look). ∥ HasLooked own limit heard look ∥₁) (sym failed) was

-- a reference that is too far above all that are known is too far above the one that was seen
greatest-within : (posting : Option Posting) (posted reference : ℕ) → posted + 2 ^ 32 < reference
    → IfSome posting (λ last. reference_of last.entry ≤ posted)
    → greatest_in posting + 2 ^ 32 < reference
greatest-within None posted reference far within = omega (arith, far)
greatest-within (Some last) posted reference far within = omega (arith, far, within)

pub far-learned : (own : OwnPostings) (heard : List Reply) (told : List Response)
    (asked : List Entry) (posted reference : ℕ) (what : Earlier) → what ≡ earlier.Known
    → posted + 2 ^ 32 < reference → IsLearned own heard told asked posted what
    → IsTooFar own reference heard
far-learned own heard told asked posted reference what is far so =
    let is-so = subst (λ (e : Earlier). IsLearned own heard told asked posted e) is so in
    record {
      seen = is-so.0.seen;
      looked = is-so.0.looked;
      far = greatest-within is-so.0.seen.posting posted reference far is-so.1;
    }
