-- What each step of a counter's session leaves of its exchanges.
use Rattle.std.specs.Prelude.{◌≡◌, ◌≢◌, ◌+◌, ◌-◌, ◌^◌, ◌<◌, ◌≤◌, ℕ, true, false, min, List}
use Rattle.std.specs.Prelude.{[], ◌∷◌, ◌++◌, map, length, Option, None, Some, IsSomeAnd, refl}
use Rattle.std.specs.List.{flat_map}
use Rattle.std.proofs.Common.{sym, ◌∙◌, ap, subst, cond, inl, inr, arith}
use Rattle.std.proofs.lemmas.List.{map-append, append_assoc, append-nil, length-append}
use Rattle.std.proofs.lemmas.List.Elements.{filter-append}
use Rattle.std.proofs.lemmas.Grind.{flat_map-append}
use Rattle.std.specs.Option.{option_to_list}
use Rattle.std.proofs.lemmas.Bool.{cases_order}
use Rattle.std.proofs.lemmas.List.{nil_from_length, get_or_append_left, get_or_push}
use Rattle.std.proofs.lemmas.List.Elements.{All-nil, All-push, All-weaker, All-get_or}
use Rattle.turn_ledger.specs.declared.entry.Entry.{Entry}
use Rattle.turn_ledger.specs.Entry.{reference_of}
use Rattle.station_desk.specs.declared.messages.Answer.{Answer}
use Rattle.station_desk.specs.declared.messages.Outcome.{Outcome}
use Rattle.station_desk.specs.declared.messages.Outcome.TheVariants as outcome
use Rattle.office_sessions.specs.declared.messages.Message.{Message}
use Rattle.office_sessions.specs.declared.messages.Message.TheVariants.{Ended}
use Rattle.office_sessions.specs.declared.responses.Response.{Response}
use Rattle.office_sessions.specs.declared.responses.Response.TheVariants as response
use Rattle.office_sessions.specs.declared.responses.Judgement.{Judgement}
use Rattle.office_sessions.specs.declared.search.Search.{Search}
use Rattle.office_sessions.specs.Conversation.{told_of, response_of, is_answer, answers_among}
use Rattle.office_sessions.specs.Conversation.{IsResponseTo, EndsCount, IsFresh}
use Rattle.office_sessions.specs.Exchange.{Exchange, message_in, told_in, submitted_in}
use Rattle.office_sessions.specs.Exchange.{entry_answered, entry_judged, search_ended}
use Rattle.office_sessions.specs.Exchange.{question_answered, input_ended, asks_to_post}
use Rattle.office_sessions.specs.Exchange.{asks_to_find}
use Rattle.office_sessions.specs.Exchange.{all_found, IsAnswering, RiseTo}
use Rattle.office_sessions.specs.Right.{SearchGoesAhead}
use Rattle.office_sessions.specs.declared.search.Step.TheVariants as stepped

-- what is told of an answer is one
answers : (reference : ℕ) (what : Outcome) → is_answer (told_of reference what) ≡ true
answers reference (outcome.Posted number) = refl
answers reference (outcome.Refused refusal) = refl
answers reference outcome.Undecided = refl

pub an-answer : (answer : Answer) → is_answer (response_of answer) ≡ true
an-answer answer = answers (reference_of answer.entry) answer.outcome

-- the answers among responses, with one more that is none
pub other-answers : (told : List Response) (one : Response) {more : List Response}
    → more ≡ told ++ one ∷ [] → is_answer one ≡ false → answers_among more ≡ answers_among told
other-answers told one is other =
    ap answers_among is ∙ filter-append is_answer told (one ∷ [])
    ∙ ap (λ b. answers_among told ++ cond b (one ∷ []) []) other
    ∙ append-nil (answers_among told)

-- what ends a search is none
pub no-answer : (count : ℕ) (last : Response) → EndsCount count last → is_answer last ≡ false
no-answer count last (inl found) = ap is_answer found.1
no-answer count last (inr failed) = ap is_answer failed.1

-- with one more that is what is told of an answer
pub more-answers : (told : List Response) (one : Response) (answer : Answer)
    (collected : List Answer) {more : List Response} {collects : List Answer}
    → more ≡ told ++ one ∷ [] → one ≡ response_of answer
    → answers_among told ≡ map response_of collected → collects ≡ collected ++ answer ∷ []
    → answers_among more ≡ map response_of collects
more-answers told one answer collected is tells before collecting =
    ap answers_among is ∙ filter-append is_answer told (one ∷ [])
    ∙ ap (λ b. answers_among told ++ cond b (one ∷ []) []) (ap is_answer tells ∙ an-answer answer)
    ∙ (λ i. before i ++ tells i ∷ [])
    ∙ sym (ap (map response_of) collecting ∙ map-append response_of collected (answer ∷ []))

-- a list that has no element
pub none-in : {X : Type 0} (l : List X) → (0 < length l → ⊥) → l ≡ []
none-in [] none = refl
none-in (x ∷ l) none = absurd (none (omega arith))

-- what was told of no record rises
none-rise : (end : ℕ) → RiseTo end []
none-rise end = (λ k low. absurd (omega (arith, low)), All-nil _)

-- and goes on to be below where the search goes on
rise-on : (numbers : List ℕ) (before after : ℕ) → RiseTo before numbers → before ≤ after
    → RiseTo after numbers
rise-on numbers before after rise ahead = (
  rise.0,
  All-weaker (λ n. n < before) (λ n. n < after) (λ n low. omega (arith, low, ahead)) numbers rise.1,
)

-- with a record more, from there on
rise-more : (numbers : List ℕ) (before after number : ℕ) → RiseTo before numbers → before ≤ number
    → number < after → RiseTo after (numbers ++ number ∷ [])
rise-more numbers before after number rise from low = (
  λ k in_it.
      let long = length-append numbers (number ∷ []) in
      let there : k < length numbers = omega (arith, in_it, long) in
      let at = get_or_append_left numbers (number ∷ []) 0 k there in
      elim (cases_order (k + 1) (length numbers)) [
        | inl end ↦
            let last = get_or_push numbers number 0 (k + 1) (sym end) in
            let below = All-get_or (λ n. n < before) numbers k 0 there rise.1 in
            omega (arith, at, last, below, from)
        | inr (inl inside) ↦
            let next = get_or_append_left numbers (number ∷ []) 0 (k + 1) inside in
            let rises = rise.0 k inside in
            omega (arith, at, next, rises)
        | inr (inr past) ↦ absurd (omega (arith, past, there))
      ],
  All-push (λ n. n < after) numbers number
      (All-weaker (λ n. n < before) (λ n. n < after) (λ n is. omega (arith, is, from, low)) numbers
      rise.1) low,
)

-- nothing was said
pub none-answering : {said : List Message} {told : List Response} {asked : List Entry}
    {unanswered : ℕ} {search : Search} → said ≡ [] → told ≡ [] → asked ≡ [] → unanswered ≡ 0
    → IsFresh search → IsAnswering said told asked unanswered None search
none-answering nothing_said nothing_told nothing_asked all_answered begins = record {
  exchanges = [];
  waiting = [];
  numbers = [];
  messages = nothing_said;
  responses = nothing_told;
  submitted = nothing_asked;
  counted = sym all_answered;
  found = ap (λ (s : Search). s.count) begins;
  rise = none-rise _;
  searches = λ some. absurd (omega (arith, some));
  fresh = λ _. begins;
}

module _ {told : List Response} {asked : List Entry} {search : Search} where
  -- one message more
  pub answering-said : {said : List Message} {unanswered : ℕ} (message : Message)
      {more : List Message} → more ≡ said ++ message ∷ []
      → IsAnswering said told asked unanswered None search
      → IsAnswering more told asked unanswered (Some message) search
  answering-said message is was = record {
    exchanges = was.exchanges;
    waiting = was.waiting;
    numbers = was.numbers;
    messages = is ∙ ap (λ (l : List Message). l ++ message ∷ []) was.messages
        ∙ append_assoc (map message_in was.exchanges) (map asks_to_post was.waiting ++ [])
        (message ∷ [])
        ∙ ap (λ (l : List Message). map message_in was.exchanges ++ (l ++ message ∷ []))
        (append-nil (map asks_to_post was.waiting));
    responses = was.responses;
    submitted = was.submitted;
    counted = was.counted;
    found = was.found;
    rise = was.rise;
    searches = λ some. let is-some = (was.searches some).0 in absurd (cc);
    fresh = λ _. was.fresh (λ is-some. let never = is-some in cc);
  }

  -- the entry that is next was submitted
  pub answering-submitted : {said : List Message} {unanswered answered : ℕ} (entry : Entry)
      {more : List Entry} → more ≡ asked ++ entry ∷ [] → answered ≡ unanswered + 1
      → IsAnswering said told asked unanswered (Some (asks_to_post entry)) search
      → IsAnswering said told more answered None search
  answering-submitted entry is one was = record {
    exchanges = was.exchanges;
    waiting = was.waiting ++ entry ∷ [];
    numbers = was.numbers;
    messages = was.messages
        ∙ ap (λ (l : List Message). map message_in was.exchanges ++ l)
        (sym (append-nil (map asks_to_post (was.waiting ++ entry ∷ []))
        ∙ map-append asks_to_post was.waiting (entry ∷ [])));
    responses = was.responses;
    submitted = is ∙ ap (λ (l : List Entry). l ++ entry ∷ []) was.submitted
        ∙ append_assoc (flat_map submitted_in was.exchanges) was.waiting (entry ∷ []);
    counted = omega (arith, one, was.counted, length-append was.waiting (entry ∷ []));
    found = was.found;
    rise = was.rise;
    searches = λ some. let is-some = (was.searches some).0 in absurd (cc);
    fresh = λ _. was.fresh (λ is-some. let never = is-some in cc);
  }

-- the oldest of the entries that are submitted was answered
collected-at : {said : List Message} {told : List Response} {asked : List Entry}
    {next : Option Message} {search : Search} (left : ℕ) (one : Response)
    → is_answer one ≡ true → (exchanges : List Exchange) (waiting : List Entry) (numbers : List ℕ)
    → said ≡ map message_in exchanges ++ (map asks_to_post waiting ++ option_to_list next)
    → told ≡ flat_map told_in exchanges ++ all_found search.reference numbers
    → asked ≡ flat_map submitted_in exchanges ++ waiting → length waiting ≡ left + 1
    → search.count ≡ min (length numbers) (2 ^ 64 - 1) → RiseTo search.from numbers
    → (0 < length numbers → (next ≡ Some (asks_to_find search.reference)) × (waiting ≡ []))
    → ((next ≡ Some (asks_to_find search.reference) → ⊥) → IsFresh search)
    → IsAnswering said (told ++ one ∷ []) asked left next search
collected-at left one is exchanges [] numbers said told submitted counted found rise searches
    fresh =
    absurd (omega (arith, counted))
collected-at left one is exchanges (entry ∷ waiting) (number ∷ numbers) said told submitted counted
    found rise searches fresh =
    let none = (searches (omega arith)).1 in absurd (cc)
collected-at {next = next} left one is exchanges (entry ∷ waiting) [] said told submitted counted
    found rise searches fresh =
    let exchange = entry_answered entry one is in
    record {
      exchanges = exchanges ++ exchange ∷ [];
      waiting = waiting;
      numbers = [];
      messages = said
          ∙ sym (ap (λ (l : List Message). l ++ (map asks_to_post waiting ++ option_to_list next))
          (map-append message_in exchanges (exchange ∷ []))
          ∙ append_assoc (map message_in exchanges) (asks_to_post entry ∷ [])
          (map asks_to_post waiting ++ option_to_list next));
      responses = ap (λ (l : List Response). l ++ one ∷ [])
          (told ∙ append-nil (flat_map told_in exchanges))
          ∙ sym (append-nil (flat_map told_in (exchanges ++ exchange ∷ []))
          ∙ flat_map-append told_in exchanges (exchange ∷ []));
      submitted = submitted
          ∙ sym (ap (λ (l : List Entry). l ++ waiting)
          (flat_map-append submitted_in exchanges (exchange ∷ []))
          ∙ append_assoc (flat_map submitted_in exchanges) (entry ∷ []) waiting);
      counted = omega (arith, counted);
      found = found;
      rise = rise;
      searches = λ some. absurd (omega (arith, some));
      fresh = fresh;
    }

pub answering-collected : {said : List Message} {told : List Response} {asked : List Entry}
    {unanswered : ℕ} {next : Option Message} {search : Search} (left : ℕ) (one : Response)
    {more : List Response} → more ≡ told ++ one ∷ [] → is_answer one ≡ true
    → left + 1 ≡ unanswered → IsAnswering said told asked unanswered next search
    → IsAnswering said more asked left next search
answering-collected {said} {asked = asked} {next = next} {search = search} left one is answers fewer
    was =
    subst (λ (l : List Response). IsAnswering said l asked left next search) (sym is)
    (collected-at left one answers was.exchanges was.waiting was.numbers was.messages was.responses
    was.submitted (was.counted ∙ sym fewer) was.found was.rise was.searches
    was.fresh)

-- the message that is next was answered whole
module _ {said : List Message} {told : List Response} {asked : List Entry} {search : Search}
    (exchange : Exchange) (was : IsAnswering said told asked 0 (Some (message_in exchange)) search)
  where
    exchanged : (after : Search) {more : List Response}
        → more ≡ flat_map told_in was.exchanges ++ told_in exchange → submitted_in exchange ≡ []
        → IsFresh after → IsAnswering said more asked 0 None after
    exchanged after tells none begins =
        let nothing = nil_from_length was.waiting was.counted in
        record {
          exchanges = was.exchanges ++ exchange ∷ [];
          waiting = [];
          numbers = [];
          messages = was.messages
              ∙ ap (λ (w : List Entry).
              map message_in was.exchanges ++ (map asks_to_post w ++ message_in exchange ∷ []))
              nothing
              ∙ sym (append-nil (map message_in (was.exchanges ++ exchange ∷ []))
              ∙ map-append message_in was.exchanges (exchange ∷ []));
          responses = tells
              ∙ sym (append-nil (flat_map told_in (was.exchanges ++ exchange ∷ []))
              ∙ flat_map-append told_in was.exchanges (exchange ∷ [])
              ∙ ap (λ (l : List Response). flat_map told_in was.exchanges ++ l)
              (append-nil (told_in exchange)));
          submitted = was.submitted
              ∙ (λ i. flat_map submitted_in was.exchanges ++ nothing i)
              ∙ ap (λ (l : List Entry). l ++ [])
              (sym (flat_map-append submitted_in was.exchanges (exchange ∷ [])
              ∙ (λ i. flat_map submitted_in was.exchanges ++ (none i ++ []))
              ∙ append-nil (flat_map submitted_in was.exchanges)));
          counted = refl;
          found = ap (λ (s : Search). s.count) begins;
          rise = none-rise _;
          searches = λ some. absurd (omega (arith, some));
          fresh = λ _. begins;
        }

    -- by one response, where it is no search
    exchanged-other : (one : Response) {more : List Response} → more ≡ told ++ one ∷ []
        → told_in exchange ≡ one ∷ [] → submitted_in exchange ≡ []
        → ((reference : ℕ) → message_in exchange ≡ asks_to_find reference → ⊥)
        → IsAnswering said more asked 0 None search
    unfolding exchanged
    exchanged-other one is tells none other =
        let nothing = none-in was.numbers (λ some. let is-some = (was.searches some).0 in
        other search.reference cc) in
        exchanged search
        (is ∙ ap (λ (l : List Response). l ++ one ∷ []) (was.responses
        ∙ (λ i. flat_map told_in was.exchanges ++ all_found search.reference (nothing i))
        ∙ append-nil (flat_map told_in was.exchanges))
        ∙ (λ i. flat_map told_in was.exchanges ++ sym tells i)) none
        (was.fresh (λ is-some. other search.reference (let same = is-some in cc)))

-- the entry that is next was answered otherwise than by submitting it
pub answering-judged : {said : List Message} {told : List Response} {asked : List Entry}
    {search : Search} (entry : Entry) (judgement : Judgement) {more : List Response}
    → more ≡ told ++ response.Judged entry judgement ∷ []
    → IsAnswering said told asked 0 (Some (asks_to_post entry)) search
    → IsAnswering said more asked 0 None search
unfolding exchanged-other
answering-judged entry judgement is was =
    exchanged-other (entry_judged entry judgement) was (response.Judged entry judgement) is refl
    refl (λ reference one. absurd (cc))

-- a search is answered by no response of these
no-search : (reference : ℕ) (one : Response) → IsResponseTo (asks_to_find reference) one → ⊥
no-search reference one is = is

-- the question that is next was answered
pub answering-responded : {said : List Message} {told : List Response} {asked : List Entry}
    {search : Search} (message : Message) (one : Response) {more : List Response}
    → more ≡ told ++ one ∷ [] → IsResponseTo message one
    → IsAnswering said told asked 0 (Some message) search
    → IsAnswering said more asked 0 None search
unfolding exchanged-other
answering-responded message one is answers was =
    exchanged-other (question_answered message one answers) was one is refl refl
    (λ reference finds.
    no-search reference one (subst (λ (m : Message). IsResponseTo m one) finds answers))

-- nothing comes any more
pub answering-ended : {said : List Message} {told : List Response} {asked : List Entry}
    {search : Search} → IsAnswering said told asked 0 (Some Ended) search
    → IsAnswering said told asked 0 None search
unfolding exchanged
answering-ended {told = told} {search = search} was =
    let nothing = none-in was.numbers
    (λ some. let is-some = (was.searches some).0 in absurd (cc)) in
    exchanged input_ended was search
    (was.responses
    ∙ (λ i. flat_map told_in was.exchanges ++ all_found search.reference (nothing i)))
    refl (was.fresh (λ is-some. let never = is-some in cc))

module _ {said : List Message} {told : List Response} {asked : List Entry} (before after : Search)
  where
    -- the search that is next was answered whole
    pub answering-searched : (last : Response) {more : List Response} → more ≡ told ++ last ∷ []
        → EndsCount before.count last → IsFresh after
        → IsAnswering said told asked 0 (Some (asks_to_find before.reference)) before
        → IsAnswering said more asked 0 None after
    unfolding exchanged
    answering-searched last is ends begins was =
        exchanged
        (search_ended before.reference was.numbers last was.rise.0
        (subst (λ (count : ℕ). EndsCount count last) was.found ends))
        was after
        (is ∙ ap (λ (l : List Response). l ++ last ∷ []) was.responses
        ∙ append_assoc (flat_map told_in was.exchanges) (all_found before.reference was.numbers)
        (last ∷ [])) refl begins

    -- it told of a record more
    pub answering-found : (number : ℕ) {more : List Response}
        → more ≡ told ++ response.Found number before.reference ∷ []
        → after.reference ≡ before.reference → after.count ≡ min (before.count + 1) (2 ^ 64 - 1)
        → SearchGoesAhead before (stepped.Found number) after
        → IsAnswering said told asked 0 (Some (asks_to_find before.reference)) before
        → IsAnswering said more asked 0 (Some (asks_to_find before.reference)) after
    answering-found number is same counts ahead was = record {
      exchanges = was.exchanges;
      waiting = was.waiting;
      numbers = was.numbers ++ number ∷ [];
      messages = was.messages;
      responses = is
          ∙ ap (λ (l : List Response). l ++ response.Found number before.reference ∷ [])
          was.responses
          ∙ append_assoc (flat_map told_in was.exchanges) (all_found before.reference was.numbers)
          (response.Found number before.reference ∷ [])
          ∙ ap (λ (l : List Response). flat_map told_in was.exchanges ++ l)
          (sym (map-append (λ (n : ℕ). response.Found n before.reference) was.numbers
          (number ∷ [])))
          ∙ ap (λ (reference : ℕ).
          flat_map told_in was.exchanges ++ all_found reference (was.numbers ++ number ∷ []))
          (sym same);
      submitted = was.submitted;
      counted = was.counted;
      found = omega (arith, counts, was.found, length-append was.numbers (number ∷ []));
      rise = rise-more was.numbers before.from after.from number was.rise ahead.0 ahead.1;
      searches = λ some. (
        ap (λ (reference : ℕ). Some (asks_to_find reference)) (sym same),
        nil_from_length was.waiting was.counted,
      );
      fresh = λ not. absurd
          (not (ap (λ (reference : ℕ). Some (asks_to_find reference)) (sym same)));
    }

    -- or of none
    pub answering-same : {unanswered : ℕ} → after.reference ≡ before.reference
        → after.count ≡ before.count → before.from ≤ after.from
        → IsAnswering said told asked unanswered (Some (asks_to_find before.reference)) before
        → IsAnswering said told asked unanswered (Some (asks_to_find before.reference)) after
    answering-same same counts ahead was = record {
      exchanges = was.exchanges;
      waiting = was.waiting;
      numbers = was.numbers;
      messages = was.messages;
      responses = was.responses
          ∙ ap (λ (reference : ℕ).
          flat_map told_in was.exchanges ++ all_found reference was.numbers) (sym same);
      submitted = was.submitted;
      counted = was.counted;
      found = counts ∙ was.found;
      rise = rise-on was.numbers before.from after.from was.rise ahead;
      searches = λ some. (
        (was.searches some).0 ∙ ap (λ (reference : ℕ). Some (asks_to_find reference)) (sym same),
        (was.searches some).1,
      );
      fresh = λ not. absurd
          (not (ap (λ (reference : ℕ). Some (asks_to_find reference)) (sym same)));
    }

    -- another search begins
    pub answering-begun : {unanswered : ℕ} (reference : ℕ) → before.reference ≢ reference
        → IsFresh after
        → IsAnswering said told asked unanswered (Some (asks_to_find reference)) before
        → IsAnswering said told asked unanswered (Some (asks_to_find reference)) after
    answering-begun reference other begins was =
        let nothing = none-in was.numbers
        (λ some. let is-some = (was.searches some).0 in other cc) in
        record {
          exchanges = was.exchanges;
          waiting = was.waiting;
          numbers = [];
          messages = was.messages;
          responses = was.responses
              ∙ (λ i. flat_map told_in was.exchanges ++ all_found before.reference (nothing i));
          submitted = was.submitted;
          counted = was.counted;
          found = ap (λ (s : Search). s.count) begins;
          rise = none-rise _;
          searches = λ some. absurd (omega (arith, some));
          fresh = λ _. begins;
        }

-- the message that is next, if there is one, was answered by that response
pub answering-next : {said : List Message} {told : List Response} {asked : List Entry}
    {search : Search} (next : Option Message) (one : Response) {more : List Response}
    → more ≡ told ++ one ∷ [] → IsSomeAnd next (λ message. IsResponseTo message one)
    → IsAnswering said told asked 0 next search → IsAnswering said more asked 0 None search
answering-next None one is answers was = absurd answers
answering-next (Some message) one is answers was = answering-responded message one is answers was

-- the same, where what was asked and how much is unanswered are the same
pub answering-still : {said : List Message} {told : List Response} {asked same : List Entry}
    {unanswered as_many : ℕ} {next : Option Message} {search : Search} → same ≡ asked
    → as_many ≡ unanswered → ∥ IsAnswering said told asked unanswered next search ∥₁
    → ∥ IsAnswering said told same as_many next search ∥₁
answering-still {said} {told} {asked} {as_many = as_many} {next = next} {search = search} is are
    was =
    subst (λ (l : List Entry). ∥ IsAnswering said told l as_many next search ∥₁) (sym is)
    (subst (λ (n : ℕ). ∥ IsAnswering said told asked n next search ∥₁) (sym are) was)
