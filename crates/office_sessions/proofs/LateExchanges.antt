-- How a conversation with a counter ends: what each message that comes late, and each response,
-- leaves of it.
use Rattle.std.specs.Prelude.{◌≡◌, ◌⊎◌, ◌<◌, ℕ, Bool, true, false, not, IsTrue, List, [], ◌∷◌, ◌++◌}
use Rattle.std.specs.Prelude.{map, length, Option, None, Some, refl}
use Rattle.std.specs.List.{flat_map}
use Rattle.std.proofs.Common.{sym, ◌∙◌, ap, subst, inl, inr, arith}
use Rattle.std.proofs.Math.Logic.{∥∥₁_map}
use Rattle.std.proofs.lemmas.List.{append_assoc, append-nil, length-append}
use Rattle.std.proofs.lemmas.Grind.{flat_map-append}
use Rattle.std.specs.Option.{option_to_list}
use Rattle.std.proofs.lemmas.List.{nil_from_length}
use Rattle.turn_ledger.specs.declared.entry.Entry.{Entry}
use Rattle.station_desk.specs.Messages.{entries_of}
use Rattle.station_desk.specs.Rings.{FeedState}
use Rattle.text_grammar.specs.declared.requests.Request.TheVariants as request
use Rattle.office_sessions.specs.declared.messages.Message.{Message}
use Rattle.office_sessions.specs.declared.messages.Message.TheVariants.{Asked, Wrong, Ended}
use Rattle.office_sessions.specs.declared.responses.Response.{Response}
use Rattle.office_sessions.specs.declared.responses.Response.TheVariants as response
use Rattle.office_sessions.specs.declared.search.Search.{Search}
use Rattle.office_sessions.specs.Conversation.{ConversationState, is_answer, pending, posting_of}
use Rattle.office_sessions.specs.Conversation.{postings_among}
use Rattle.office_sessions.specs.Exchange.{IsAnswering, WereAnswered, told_in, message_in}
use Rattle.office_sessions.specs.Exchange.{submitted_in, all_found, late_answer, told_late}
use Rattle.office_sessions.specs.Exchange.{asks_to_post}
use Rattle.office_sessions.specs.Over.{IsEnding, IsOver, IsOpen, AreAnsweredUpTo}
use Rattle.office_sessions.specs.Replies.{IsPlain}
use Rattle.office_sessions.specs.declared.replies.Reply.{Reply}
use Rattle.office_sessions.proofs.Exchanges.{other-answers}
use Rattle.office_sessions.proofs.ToldBy.{told-more, rise-told}

-- something more behind four parts
append-fourth : {X : Type 0} (a b c d more : List X)
    → (a ++ (b ++ (c ++ d))) ++ more ≡ a ++ (b ++ (c ++ (d ++ more)))
append-fourth {X} a b c d more =
    append_assoc a (b ++ (c ++ d)) more
    ∙ ap (λ (l : List X). a ++ l) (append_assoc b (c ++ d) more
    ∙ ap (λ (l : List X). b ++ l) (append_assoc c d more))

-- the entry that the message handled next asks to post
postings-next : (next : Option Message) → postings_among (option_to_list next) ≡ pending next
postings-next None = refl
postings-next (Some message) = append-nil (posting_of message)

-- What is answered to a message that comes late is no answer, and tells nothing of the ledger.
plain-as : (given one : Response) → is_answer given ≡ false → IsPlain given → Some given ≡ Some one
    → (is_answer one ≡ false) × IsPlain one
plain-as given one other plain is =
    let same : given ≡ one = cc in
    subst (λ (r : Response). (is_answer r ≡ false) × IsPlain r) same (other, plain)

closed-plain : (one : Response) → Some response.Closed ≡ Some one
    → (is_answer one ≡ false) × IsPlain one
closed-plain one is = plain-as response.Closed one refl (λ own heard. tt) is

late-plain : (message : Message) (one : Response) → late_answer message ≡ Some one
    → (is_answer one ≡ false) × IsPlain one
late-plain (Asked (request.Post entry)) one is = absurd (cc)
late-plain (Asked (request.Balance account)) one is = closed-plain one is
late-plain (Asked (request.Find reference)) one is = closed-plain one is
late-plain (Asked request.Last) one is = closed-plain one is
late-plain (Asked (request.First reference)) one is = closed-plain one is
late-plain (Asked (request.Hello number)) one is =
    plain-as (response.Hello number) one refl (λ own heard. tt) is
late-plain (Asked request.Copy) one is = closed-plain one is
late-plain (Asked request.Archive) one is = closed-plain one is
late-plain (Asked request.Status) one is = closed-plain one is
late-plain (Asked request.Name) one is = closed-plain one is
late-plain (Asked request.Help) one is = plain-as response.Help one refl (λ own heard. tt) is
late-plain (Asked request.Close) one is = absurd (cc)
late-plain (Wrong wrong) one is = plain-as (response.Wrong wrong) one refl (λ own heard. tt) is
late-plain Ended one is = absurd (cc)

-- what a session leaves
pub ending-begins : {said : List Message} {told : List Response} {asked unheard : List Entry}
    {unanswered : ℕ} {next : Option Message} {search : Search} → unheard ≡ pending next
    → IsAnswering said told asked unanswered next search
    → (were : WereAnswered said told asked unheard) × (were.closing ≡ [])
    × (were.rest ≡ option_to_list next) × (unanswered ≡ 0 → were.waiting ≡ [])
ending-begins {next = next} {search = search} is was = (
  record {
    exchanges = was.exchanges;
    late = [];
    waiting = was.waiting;
    rest = option_to_list next;
    reference = search.reference;
    numbers = was.numbers;
    closing = [];
    messages = was.messages;
    responses = was.responses
        ∙ ap (λ (l : List Response). flat_map told_in was.exchanges ++ l)
        (sym (append-nil (all_found search.reference was.numbers)));
    submitted = was.submitted;
    rise = was.rise.0;
    no_entry = refl;
    untaken = postings-next next ∙ sym is;
    in_order = λ some. absurd (omega (arith, some));
    unfinished = λ some. (
      (was.searches some).1,
      ([], ap option_to_list (was.searches some).0),
    );
    closes = inl refl;
  },
  refl,
  refl,
  λ none. nil_from_length was.waiting (was.counted ∙ none),
)

module _ (feed : FeedState) (heard : List Reply) (state : ConversationState) where
  -- with a message more a conversation isn't opened again
  still-open : (message : Message) (said : List Message) (unheard : List Entry)
      → unheard ≡ state.unheard ++ posting_of message
      → IsOpen (record state { said = said; unheard = unheard }) → IsOpen state
  still-open message said unheard late is = (
    is.0,
    nil_from_length state.unheard
        (omega (
          arith,
          ap length (sym late ∙ is.1),
          length-append state.unheard (posting_of message),
        )),
  )

  -- one message more, which nobody looked at yet
  pub ending-said : (message : Message) (said : List Message) (unheard : List Entry)
      → said ≡ state.said ++ message ∷ [] → unheard ≡ state.unheard ++ posting_of message
      → IsEnding [] feed heard state
      → IsEnding (message ∷ []) feed heard (record state { said = said; unheard = unheard })
  ending-said message said unheard more late ending = record {
    told = ending.told;
    answered = ∥∥₁_map ending.answered
        (λ so.
        let were = so.were in
        let before = still-open message said unheard late in
        record {
          were = record {
            exchanges = were.exchanges;
            late = were.late;
            waiting = were.waiting;
            rest = were.rest ++ message ∷ [];
            reference = were.reference;
            numbers = were.numbers;
            closing = were.closing;
            messages = more ∙ ap (λ (l : List Message). l ++ message ∷ []) were.messages
                ∙ append-fourth (map message_in were.exchanges) were.late
                (map asks_to_post were.waiting) were.rest (message ∷ []);
            responses = were.responses;
            submitted = were.submitted;
            untaken = flat_map-append posting_of were.rest (message ∷ [])
                ∙ (λ i. were.untaken i ++ append-nil (posting_of message) i) ∙ sym late;
            rise = were.rise;
            no_entry = were.no_entry;
            in_order = were.in_order;
            unfinished = λ some.
                let left = were.unfinished some in (
                  left.0,
                  (
                    left.1.0 ++ message ∷ [],
                    sym (append_assoc were.late were.rest (message ∷ []))
                        ∙ ap (λ (l : List Message). l ++ message ∷ []) left.1.1,
                  ),
                );
            closes = were.closes;
          };
          not_closed = so.not_closed;
          rest = λ is. ap (λ (l : List Message). l ++ message ∷ []) (so.rest (before is));
          waiting = λ is. so.waiting (before is);
        });
    above = ending.above;
    follows = ending.follows;
  }

  -- where nothing is answered any more
  pub ending-silent : (next : List Message) → IsEnding next feed heard state
      → IsEnding [] feed heard (record state { is_silent = true })
  ending-silent next ending = record {
    told = ending.told;
    answered = ∥∥₁_map ending.answered
        (λ so. record {
          were = so.were;
          not_closed = so.not_closed;
          rest = λ is. let not = is.0 in absurd (cc);
          waiting = λ is. let not = is.0 in absurd (cc);
        });
    above = ending.above;
    follows = ending.follows;
  }

  -- or wasn't before
  pub ending-closed : (next : List Message) → (IsOpen state → ⊥) → IsEnding next feed heard state
      → IsEnding [] feed heard state
  ending-closed next not ending = record {
    told = ending.told;
    answered = ∥∥₁_map ending.answered
        (λ so. record {
          were = so.were;
          not_closed = so.not_closed;
          rest = λ is. absurd (not is);
          waiting = λ is. absurd (not is);
        });
    above = ending.above;
    follows = ending.follows;
  }

  -- the message that was looked at next was answered as one that came late
  answered-late : (message : Message) (told : List Response)
      → told ≡ state.told ++ told_late message → IsOpen state
      → AreAnsweredUpTo (message ∷ []) state (entries_of feed.asked)
      → AreAnsweredUpTo [] (record state { told = told }) (entries_of feed.asked)
  answered-late message told tells is so =
      let were = so.were in
      let front = flat_map told_in were.exchanges in
      let found = all_found were.reference were.numbers in
      let late = flat_map told_late were.late in
      let last = so.rest is in
      record {
        were = record {
          exchanges = were.exchanges;
          late = were.late ++ message ∷ [];
          waiting = [];
          rest = [];
          reference = were.reference;
          numbers = were.numbers;
          closing = [];
          messages = were.messages
              ∙ (λ i. map message_in were.exchanges
              ++ (were.late ++ (map asks_to_post (so.waiting is i) ++ last i)))
              ∙ ap (λ (l : List Message). map message_in were.exchanges ++ l)
              (sym (append-nil (were.late ++ message ∷ [])));
          responses = tells
              ∙ ap (λ (l : List Response). l ++ told_late message) (were.responses
              ∙ (λ i. front ++ (found ++ (late ++ so.not_closed i))))
              ∙ append-fourth front found late [] (told_late message)
              ∙ ap (λ (l : List Response). front ++ (found ++ l))
              (sym (append-nil (flat_map told_late (were.late ++ message ∷ []))
              ∙ flat_map-append told_late were.late (message ∷ [])
              ∙ ap (λ (l : List Response). late ++ l) (append-nil (told_late message))));
          submitted = were.submitted
              ∙ (λ i. flat_map submitted_in were.exchanges ++ so.waiting is i);
          rise = were.rise;
          no_entry = flat_map-append posting_of were.late (message ∷ [])
              ∙ (λ i. were.no_entry i ++ (ap postings_among (sym last) ∙ were.untaken ∙ is.1) i);
          untaken = sym is.1;
          in_order = λ some. refl;
          unfinished = λ some.
              let left = were.unfinished some in (
                refl,
                (
                  left.1.0,
                  append-nil (were.late ++ message ∷ [])
                      ∙ ap (λ (l : List Message). were.late ++ l) (sym last) ∙ left.1.1,
                ),
              );
          closes = inl refl;
        };
        not_closed = refl;
        rest = λ _. refl;
        waiting = λ _. refl;
      }

  -- by nothing
  pub ending-unanswered : (message : Message) → late_answer message ≡ None → IsOpen state
      → IsEnding (message ∷ []) feed heard state → IsEnding [] feed heard state
  unfolding answered-late
  ending-unanswered message none is ending = record {
    told = ending.told;
    answered = ∥∥₁_map ending.answered
        (answered-late message state.told
        (sym (append-nil state.told)
        ∙ ap (λ (l : List Response). state.told ++ l) (sym (ap option_to_list none))) is);
    above = ending.above;
    follows = ending.follows;
  }

  -- by a response
  pub ending-told : (message : Message) (one : Response) → late_answer message ≡ Some one
      → IsOpen state → IsEnding (message ∷ []) feed heard state
      → IsEnding [] feed heard (record state { told = state.told ++ one ∷ [] })
  unfolding answered-late
  ending-told message one is may ending =
      let plain = late-plain message one is in
      record {
        told = other-answers state.told one refl plain.0 ∙ ending.told;
        answered = ∥∥₁_map ending.answered
            (answered-late message (state.told ++ one ∷ [])
            (ap (λ (l : List Response). state.told ++ l) (sym (ap option_to_list is))) may);
        above = ending.above;
        follows = record {
          right = told-more state.own state.told heard one refl
              ∣ plain.1 state.own heard ∣₁ ending.follows.right;
          rise = ∥∥₁_map ending.follows.rise
              (rise-told state.own heard state.told one (entries_of feed.asked) refl);
        };
      }

  -- the counter was told at last that the office closes
  pub over-closing : IsEnding [] feed heard state
      → IsOver feed heard
      (record state { told = state.told ++ response.Closing ∷ []; is_silent = true })
  over-closing ending = record {
    told = other-answers state.told response.Closing refl refl ∙ ending.told;
    answered = ∥∥₁_map ending.answered (λ so.
        let were = so.were in
        let front = flat_map told_in were.exchanges in
        let found = all_found were.reference were.numbers in
        let late = flat_map told_late were.late in
        record {
          exchanges = were.exchanges;
          late = were.late;
          waiting = were.waiting;
          rest = were.rest;
          reference = were.reference;
          numbers = were.numbers;
          closing = response.Closing ∷ [];
          messages = were.messages;
          responses = ap (λ (l : List Response). l ++ response.Closing ∷ [])
              (were.responses ∙ (λ i. front ++ (found ++ (late ++ so.not_closed i))))
              ∙ append-fourth front found late [] (response.Closing ∷ []);
          submitted = were.submitted;
          rise = were.rise;
          no_entry = were.no_entry;
          untaken = were.untaken;
          in_order = were.in_order;
          unfinished = were.unfinished;
          closes = inr refl;
        });
    above = ending.above;
    follows = record {
      right = told-more state.own state.told heard response.Closing refl ∣ tt ∣₁
          ending.follows.right;
      rise = ∥∥₁_map ending.follows.rise
          (rise-told state.own heard state.told response.Closing (entries_of feed.asked)
          refl);
    };
  }

  -- or wasn't
  pub over-told : IsEnding [] feed heard state
      → IsOver feed heard (record state { is_silent = true })
  over-told ending = record {
    told = ending.told;
    answered = ∥∥₁_map ending.answered (λ so. so.were);
    above = ending.above;
    follows = ending.follows;
  }

-- where nothing is answered any more, nothing is with a message more
pub silent-more : (silent : Bool) (before unheard : List Entry) (message : Message)
    → unheard ≡ before ++ posting_of message → (silent ≡ true) ⊎ (0 < length before)
    → (silent ≡ true) ⊎ (0 < length unheard)
silent-more silent before unheard message late (inl is) = inl is
silent-more silent before unheard message late (inr some) =
    inr (omega (arith, some, ap length late, length-append before (posting_of message)))

-- a message that came late was answered, or there is no place for its answer
pub ending-either : (feed : FeedState) (heard : List Reply) (state after : ConversationState)
    (message : Message) (one : Response) (result : Bool)
    → (IsTrue result → after ≡ record state { told = state.told ++ one ∷ [] })
    → (result ≡ false → after ≡ state) → late_answer message ≡ Some one → IsOpen state
    → IsEnding (message ∷ []) feed heard state
    → IsEnding [] feed heard (record after { is_silent = not result })
unfolding ending-told
ending-either feed heard state after message one true told untold is may ending =
    subst (λ (k : ConversationState). IsEnding [] feed heard (record k { is_silent = false }))
    (sym (told refl))
    (subst (λ (silent : Bool). IsEnding [] feed heard
    (record state { told = state.told ++ one ∷ []; is_silent = silent })) may.0
    (ending-told feed heard state message one is may ending))
ending-either feed heard state after message one false told untold is may ending =
    subst (λ (k : ConversationState). IsEnding [] feed heard (record k { is_silent = true }))
    (sym (untold refl)) (ending-silent feed heard state (message ∷ []) ending)

-- the counter was told that the office closes, or there was no place for that
pub over-either : (feed : FeedState) (heard : List Reply) (state after : ConversationState)
    (result : Bool)
    → (IsTrue result → after ≡ record state { told = state.told ++ response.Closing ∷ [] })
    → (result ≡ false → after ≡ state) → IsEnding [] feed heard state
    → IsOver feed heard (record after { is_silent = true })
unfolding over-closing over-told
over-either feed heard state after true told untold ending =
    subst (λ (k : ConversationState). IsOver feed heard (record k { is_silent = true }))
    (sym (told refl)) (over-closing feed heard state ending)
over-either feed heard state after false told untold ending =
    subst (λ (k : ConversationState). IsOver feed heard (record k { is_silent = true }))
    (sym (untold refl)) (over-told feed heard state ending)
