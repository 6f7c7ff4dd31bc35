-- Laws of requests and of the answers to them.
use Rattle.std.specs.Prelude.{◌≡◌, ℕ, zero, suc, ◌+◌, List, [], ◌∷◌, ◌++◌, length, slice_get, Some}
use Rattle.std.specs.Prelude.{refl}
use Rattle.std.proofs.Common.{◌∙◌, ap, take, arith}
use Rattle.std.proofs.lemmas.List.{map-append, length-map}
use Rattle.station_desk.specs.declared.messages.Ask.{Ask}
use Rattle.station_desk.specs.declared.messages.Answer.{Answer}
use Rattle.station_desk.specs.declared.messages.Outcome.{Outcome}
use Rattle.station_desk.specs.Messages.{entries_of, ask_of, asks_of, outcomes_in, answer_to}
use Rattle.station_desk.specs.Messages.{answers_to, AreNumberedFrom}

-- one more request, whose ticket is the next number
pub numbered-one_more : (first : ℕ) (asks : List Ask) (ask : Ask) → AreNumberedFrom first asks
    → ask.ticket ≡ first + length asks → AreNumberedFrom first (asks ++ ask ∷ [])
numbered-one_more first [] ask before next = (omega (arith, next), tt)
numbered-one_more first (a ∷ asks) ask before next =
    (before.0, numbered-one_more (suc first) asks ask before.1 (omega (arith, next)))

-- answers to requests, and then to others
pub answers_to-append : (asks more : List Ask) (outcomes others : List Outcome)
    → length asks ≡ length outcomes
    → answers_to (asks ++ more) (outcomes ++ others)
    ≡ answers_to asks outcomes ++ answers_to more others
answers_to-append [] more [] others same = refl
answers_to-append [] more (o ∷ outcomes) others same = absurd (omega (arith, same))
answers_to-append (a ∷ asks) more [] others same = absurd (omega (arith, same))
answers_to-append (a ∷ asks) more (o ∷ outcomes) others same =
    ap (λ (rest : List Answer). answer_to a o ∷ rest)
    (answers_to-append asks more outcomes others (omega (arith, same)))

-- the answers answer the requests that they were given to
pub asks_of-answers_to : (asks : List Ask) (outcomes : List Outcome) → length asks ≡ length outcomes
    → asks_of (answers_to asks outcomes) ≡ asks
asks_of-answers_to [] outcomes same = refl
asks_of-answers_to (a ∷ asks) [] same = absurd (omega (arith, same))
asks_of-answers_to (a ∷ asks) (o ∷ outcomes) same =
    ap (λ (rest : List Ask). a ∷ rest) (asks_of-answers_to asks outcomes (omega (arith, same)))

-- and carry the outcomes that they were given with
pub outcomes_in-answers_to : (asks : List Ask) (outcomes : List Outcome)
    → length asks ≡ length outcomes → outcomes_in (answers_to asks outcomes) ≡ outcomes
outcomes_in-answers_to [] [] same = refl
outcomes_in-answers_to [] (o ∷ outcomes) same = absurd (omega (arith, same))
outcomes_in-answers_to (a ∷ asks) [] same = absurd (omega (arith, same))
outcomes_in-answers_to (a ∷ asks) (o ∷ outcomes) same =
    ap (λ (rest : List Outcome). o ∷ rest)
    (outcomes_in-answers_to asks outcomes (omega (arith, same)))

-- answering one request more, of those that have an outcome
pub answers_to-one_more : (asks : List Ask) (outcomes : List Outcome) (more : Ask)
    (outcome : Outcome) (others : List Outcome) → length asks ≡ length outcomes
    → answers_to (asks ++ more ∷ []) (outcomes ++ outcome ∷ others)
    ≡ answers_to asks outcomes ++ answer_to more outcome ∷ []
answers_to-one_more asks outcomes more outcome others same =
    answers_to-append asks (more ∷ []) outcomes (outcome ∷ others) same

-- answers appended
pub asks_of-append : (answers more : List Answer)
    → asks_of (answers ++ more) ≡ asks_of answers ++ asks_of more
asks_of-append answers more = map-append ask_of answers more

-- answering the request at a place, after those before it
pub answers_to-next : (asks : List Ask) (outcomes : List Outcome) (place : ℕ) (ask : Ask)
    (outcome : Outcome)
    → slice_get asks place ≡ Some ask → slice_get outcomes place ≡ Some outcome
    → answers_to (take (suc place) asks) outcomes
    ≡ answers_to (take place asks) outcomes ++ answer_to ask outcome ∷ []
answers_to-next [] outcomes place ask outcome here there = absurd (cc)
answers_to-next (a ∷ asks) [] place ask outcome here there = absurd (cc)
answers_to-next (a ∷ asks) (o ∷ outcomes) zero ask outcome here there = grind arith
answers_to-next (a ∷ asks) (o ∷ outcomes) (suc place) ask outcome here there =
    ap (λ (rest : List Answer). answer_to a o ∷ rest)
    (answers_to-next asks outcomes place ask outcome here there)

-- answers given to all that was held answer, behind the earlier ones, what was held
pub asks_of-given : (given : List Answer) (held : List Ask) (outcomes : List Outcome)
    → length held ≡ length outcomes
    → asks_of (given ++ answers_to held outcomes) ≡ asks_of given ++ held
asks_of-given given held outcomes same =
    asks_of-append given (answers_to held outcomes)
    ∙ ap (λ (rest : List Ask). asks_of given ++ rest) (asks_of-answers_to held outcomes same)

-- each request has its entry
pub length-entries_of : (asks : List Ask) → length (entries_of asks) ≡ length asks
length-entries_of asks = length-map asks (λ (ask : Ask). ask.entry)
