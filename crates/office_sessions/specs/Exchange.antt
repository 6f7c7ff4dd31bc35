-- The messages of a counter, and what each was answered with.
use Rattle.std.specs.Prelude.{◌≡◌, ◌⊎◌, ◌-◌, ◌^◌, ◌<◌, ℕ, true, min, List, [], ◌∷◌, ◌++◌}
use Rattle.std.specs.Prelude.{map, length, Option, None, Some, All}
use Rattle.std.specs.List.{flat_map}
use Rattle.std.specs.Option.{option_to_list}
use Rattle.std.specs.List.Sorted.{IsStrictlyIncreasing}
use Rattle.turn_ledger.specs.declared.entry.Entry.{Entry}
use Rattle.text_grammar.specs.declared.requests.Request.TheVariants as request
use Rattle.office_sessions.specs.declared.messages.Message.{Message}
use Rattle.office_sessions.specs.declared.messages.Message.TheVariants.{Asked, Wrong, Ended}
use Rattle.office_sessions.specs.declared.responses.Judgement.{Judgement}
use Rattle.office_sessions.specs.declared.responses.Response.{Response}
use Rattle.office_sessions.specs.declared.responses.Response.TheVariants as response
use Rattle.office_sessions.specs.declared.search.Search.{Search}
use Rattle.office_sessions.specs.Conversation.{is_answer, postings_among, IsResponseTo, EndsCount}
use Rattle.office_sessions.specs.Conversation.{IsFresh}

-- a message, and what it was answered with
pub data Exchange : Type 0 where
  -- an entry that was submitted, and its answer
  entry_answered : (entry : Entry) (answer : Response) → is_answer answer ≡ true → Exchange
  -- an entry that wasn't, for the sake of its reference
  entry_judged : Entry → Judgement → Exchange
  -- a search for a reference: the numbers of the batches that it told of, which rise, and how it
  -- ended
  search_ended : (reference : ℕ) (numbers : List ℕ) (last : Response)
      → IsStrictlyIncreasing numbers → EndsCount (min (length numbers) (2 ^ 64 - 1)) last
      → Exchange
  -- any other question
  question_answered : (asked : Message) (answer : Response) → IsResponseTo asked answer → Exchange
  -- the end of the input
  input_ended : Exchange

-- the message that asks to post an entry, and the one that asks to find a reference
abbrev pub asks_to_post : Entry → Message
asks_to_post entry = Asked (request.Post entry)

abbrev pub asks_to_find : ℕ → Message
asks_to_find reference = Asked (request.Find reference)

-- a response for each record that a search found
abbrev pub all_found : ℕ → List ℕ → List Response
all_found reference numbers = map (λ number. response.Found number reference) numbers

abbrev pub message_in : Exchange → Message
message_in (entry_answered entry answer is) = asks_to_post entry
message_in (entry_judged entry judgement) = asks_to_post entry
message_in (search_ended reference numbers last rise ends) = asks_to_find reference
message_in (question_answered asked answer is) = asked
message_in input_ended = Ended

abbrev pub told_in : Exchange → List Response
told_in (entry_answered entry answer is) = answer ∷ []
told_in (entry_judged entry judgement) = response.Judged entry judgement ∷ []
told_in (search_ended reference numbers last rise ends) = all_found reference numbers ++ last ∷ []
told_in (question_answered asked answer is) = answer ∷ []
told_in input_ended = []

-- the entry that was submitted, if one was
abbrev pub submitted_in : Exchange → List Entry
submitted_in (entry_answered entry answer is) = entry ∷ []
submitted_in (entry_judged entry judgement) = []
submitted_in (search_ended reference numbers last rise ends) = []
submitted_in (question_answered asked answer is) = []
submitted_in input_ended = []

-- What is answered to a message that comes too late: most questions are refused, some need no
-- ledger, and an entry, the wish to close and the end of the input have no answer.
abbrev pub late_answer : Message → Option Response
late_answer (Asked (request.Post entry)) = None
late_answer (Asked (request.Balance account)) = Some response.Closed
late_answer (Asked (request.Find reference)) = Some response.Closed
late_answer (Asked request.Last) = Some response.Closed
late_answer (Asked (request.First reference)) = Some response.Closed
late_answer (Asked (request.Hello number)) = Some (response.Hello number)
late_answer (Asked request.Copy) = Some response.Closed
late_answer (Asked request.Archive) = Some response.Closed
late_answer (Asked request.Status) = Some response.Closed
late_answer (Asked request.Name) = Some response.Closed
late_answer (Asked request.Help) = Some response.Help
late_answer (Asked request.Close) = None
late_answer (Wrong wrong) = Some (response.Wrong wrong)
late_answer Ended = None

-- the same as a list
abbrev pub told_late : Message → List Response
told_late message = option_to_list (late_answer message)

-- The numbers rise, and are below that one.
abbrev pub RiseTo : ℕ → List ℕ → Type 0
RiseTo end numbers = IsStrictlyIncreasing numbers × All (λ number. number < end) numbers

-- How far a session is with its messages. The first ones were answered, in order. Then come the
-- entries that wait for an answer, then the next message, if there is one. If that is a search, the
-- numbers are those of the records that were told so far, which rise up to where it is. Any other
-- search begins anew.
pub record IsAnswering (said : List Message) (told : List Response) (asked : List Entry)
    (unanswered : ℕ) (next : Option Message) (search : Search) : Type 0 where
  pub exchanges : List Exchange
  pub waiting : List Entry
  pub numbers : List ℕ
  pub messages : said
      ≡ map message_in exchanges ++ (map asks_to_post waiting ++ option_to_list next)
  pub responses : told ≡ flat_map told_in exchanges ++ all_found search.reference numbers
  pub submitted : asked ≡ flat_map submitted_in exchanges ++ waiting
  pub counted : length waiting ≡ unanswered
  pub found : search.count ≡ min (length numbers) (2 ^ 64 - 1)
  pub rise : RiseTo search.from numbers
  pub searches : 0 < length numbers → (next ≡ Some (asks_to_find search.reference)) × (waiting ≡ [])
  pub fresh : (next ≡ Some (asks_to_find search.reference) → ⊥) → IsFresh search

-- What a counter was told at last: that the office closes, or nothing.
abbrev pub IsClosing : List Response → Type 0
IsClosing told = (told ≡ []) ⊎ (told ≡ response.Closing ∷ [])

-- How a counter's messages were answered, when its conversation is over, in order: some while the
-- office was open; then some that came late, none of them an entry. Then come entries that were
-- submitted and not answered, and then what nobody took up, of which the entries are unheard. What
-- was found by a search that the office left unfinished was told before, by numbers that rise; and
-- at last that the office closes, or nothing.
pub record WereAnswered (said : List Message) (told : List Response)
    (asked unheard : List Entry) : Type 0 where
  pub exchanges : List Exchange
  pub late : List Message
  pub waiting : List Entry
  pub rest : List Message
  pub reference : ℕ
  pub numbers : List ℕ
  pub closing : List Response
  pub messages : said
      ≡ map message_in exchanges ++ (late ++ (map asks_to_post waiting ++ rest))
  pub responses : told ≡ flat_map told_in exchanges
      ++ (all_found reference numbers ++ (flat_map told_late late ++ closing))
  pub submitted : asked ≡ flat_map submitted_in exchanges ++ waiting
  pub rise : IsStrictlyIncreasing numbers
  pub no_entry : postings_among late ≡ []
  pub untaken : postings_among rest ≡ unheard
  pub in_order : 0 < length late → waiting ≡ []
  pub unfinished : 0 < length numbers
      → (waiting ≡ []) × ((more : List Message) × (late ++ rest ≡ asks_to_find reference ∷ more))
  pub closes : IsClosing closing
