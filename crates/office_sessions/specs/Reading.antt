-- What a counter's reader hands on of what it reads.
use Rattle.std.specs.Prelude.{◌≡◌, ℕ, Bool, true, List, [], ◌∷◌, ◌++◌, Option, None, Some}
use Rattle.text_grammar.specs.Places.{is_skipped}
use Rattle.text_grammar.specs.Requests.{request_fault, SpellsRequest}
use Rattle.text_grammar.specs.Script.{words_of}
use Rattle.text_grammar.specs.declared.requests.Request.{Request}
use Rattle.text_grammar.specs.declared.requests.Request.TheVariants as request
use Rattle.office_sessions.specs.declared.messages.Message.{Message}
use Rattle.office_sessions.specs.declared.messages.Message.TheVariants.{Asked, Wrong, Ended}
use Rattle.office_sessions.specs.declared.messages.WrongLine.TheVariants.{Fault, TooLong, NoHello}

-- the request by which a client says that it is there
abbrev pub IsHello : Request → Type 0
IsHello asked = (number : ℕ) × (asked ≡ request.Hello number)

-- A line says that: the request that it spells, or what is wrong with it, or nothing, if it has no
-- words but a comment's. A client that has to say hello first says nothing else that is a request.
abbrev pub Says : Bool → List ℕ → Option Message → Type 0
Says awaits line None = is_skipped (words_of line) ≡ true
Says awaits line (Some (Asked asked)) =
    SpellsRequest (words_of line) asked × (awaits ≡ true → IsHello asked)
Says awaits line (Some (Wrong (Fault fault))) = request_fault (words_of line) ≡ Some fault
Says awaits line (Some (Wrong TooLong)) = ⊥
Says awaits line (Some (Wrong NoHello)) =
    (awaits ≡ true) × ((asked : Request) × SpellsRequest (words_of line) asked)
Says awaits line (Some Ended) = ⊥

-- a message, if there is one, behind others
abbrev pub with_message : List Message → Option Message → List Message
with_message before None = before
with_message before (Some message) = before ++ message ∷ []

-- The reader handed on what the line says, and nothing else.
pub record HandsOn (awaits : Bool) (line : List ℕ) (before after : List Message) : Type 0 where
  pub message : Option Message
  pub said : Says awaits line message
  pub handed : after ≡ with_message before message
