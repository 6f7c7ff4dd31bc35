use Rattle.std.proofs.Common.{◌≡◌, ◌∙◌, false, List, ◌∷◌, ◌==◌, codes, refl, rules}
use Rattle.std.specs.Prelude.{bytes_eq, slice_index}
use Rattle.text_grammar.specs.Entries.{entries_given}
use Rattle.text_grammar.specs.Places.{told_by}
use Rattle.text_grammar.specs.Requests.{IsRequestRead, SpellsRequest, request_fault}
use Rattle.text_grammar.proofs.GrammarLemmas.{Word}
use Rattle.text_grammar.proofs.requests.read_requested.Goals as goal

-- what is told of a line of another name is told of it as an entry
as_entry : (word : Word) (words : List Word) → (slice_index word 0 == 35) ≡ false
    → bytes_eq word (codes "balance") ≡ false → bytes_eq word (codes "find") ≡ false
    → bytes_eq word (codes "last") ≡ false → bytes_eq word (codes "first") ≡ false
    → bytes_eq word (codes "hello") ≡ false → bytes_eq word (codes "copy") ≡ false
    → bytes_eq word (codes "archive") ≡ false → bytes_eq word (codes "status") ≡ false
    → bytes_eq word (codes "name") ≡ false
    → bytes_eq word (codes "help") ≡ false → bytes_eq word (codes "close") ≡ false
    → request_fault (word ∷ words) ≡ told_by entries_given (word ∷ words)
unfolding request_fault
as_entry word words no_comment balance find last first hello copy archive status name help close =
    rw (no_comment, balance, find, last, first, hello, copy, archive, status, name, help, close)
    refl

pub returns-in_err-entry : goal.returns-in_err-entry
unfolding IsRequestRead
returns-in_err-entry c =
    let told =
    as_entry c.args.name.now c.args.words c.requires (c.if-is.ensures.no refl)
    (c.if-is-2.ensures.no refl) (c.if-is-3.ensures.no refl)
    (c.if-is-4.ensures.no refl) (c.if-is-5.ensures.no refl) (c.if-is-6.ensures.no refl)
    (c.if-is-7.ensures.no refl) (c.if-is-8.ensures.no refl)
    (c.if-is-9.ensures.no refl) (c.if-is-10.ensures.no refl) (c.if-is-11.ensures.no refl) in
    search (rules, told ∙ c.in_err-entry.ensures)

pub returns-in_ok-entry : goal.returns-in_ok-entry
unfolding IsRequestRead SpellsRequest
returns-in_ok-entry c =
    let told =
    as_entry c.args.name.now c.args.words c.requires (c.if-is.ensures.no refl)
    (c.if-is-2.ensures.no refl) (c.if-is-3.ensures.no refl)
    (c.if-is-4.ensures.no refl) (c.if-is-5.ensures.no refl) (c.if-is-6.ensures.no refl)
    (c.if-is-7.ensures.no refl) (c.if-is-8.ensures.no refl)
    (c.if-is-9.ensures.no refl) (c.if-is-10.ensures.no refl) (c.if-is-11.ensures.no refl) in
    (told ∙ c.in_ok-entry.ensures.0, c.in_ok-entry.ensures.1)
