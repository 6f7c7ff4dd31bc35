use Rattle.std.proofs.Common.{◌≡◌, ◌∙◌, ◌≤◌, List, ℕ, Option, Some, None, refl, sym, ap, map, codes}
use Rattle.std.specs.Prelude.{IfSome, option_map}
use Rattle.std.specs.Int.NonZero.{non_zero_u64_get}
use Rattle.std.specs.Str.Parse.{digits_value, without_leading_plus}
use Rattle.std.proofs.lemmas.List.{length-map}
use Rattle.clap.specs.Words.{App, Text, found_of, first_value, is_simple, matches_of, first_of}
use Rattle.clap.specs.Words.{one_of, one_text, rows_of}
use Rattle.clap.proofs.WalkLemmas.{one_text-rows, first_value-rows}
use Rattle.front_program.specs.ConsoleWords.{AskForSlots, console}
use Rattle.front_program.proofs.ConsoleWordsLemmas.{console_is_simple, default_sectors}
use Rattle.front_program.proofs.ConsoleWordsLemmas.{default_device}
use Rattle.front_program.proofs.console_words.options.Goals as goal

-- a number within the limits of slots isn't zero
at_least : (number : Option ℕ) → IfSome number (λ slots. (1 ≤ slots) × (slots ≤ 1000000))
    → IfSome number (λ slots. 1 ≤ slots)
at_least None within = within
at_least (Some slots) within = within.0

-- the slots, by what was found of them
slots_are : (words : List Text) (slots : Option ℕ) (value text : Option Text)
    → value ≡ first_of (codes "slots") (matches_of console words)
    → text ≡ one_of (codes "slots") (matches_of console words)
    → (slots ≡ None → value ≡ None)
    → IfSome slots (λ number. (t : Text) × (text ≡ Some t)
    × (number ≡ digits_value 10 (without_leading_plus t))) → AskForSlots words slots
slots_are words None value text value_is text_is none asked = sym value_is ∙ none refl
slots_are words (Some number) value text value_is text_is none asked =
    (asked.0, sym text_is ∙ asked.1, asked.2)

pub returns-clause-asked : goal.returns-clause-asked
returns-clause-asked c =
    let words : List Text = map (λ word. word.now) c.args.words.now in
    let rows_are : rows_of (found_of c.in_ok-matches.matches) ≡ matches_of console words =
    (c.in_ok-matches.ensures.ok.2
    (ap is_simple c.in_ok-command.ensures.words ∙ console_is_simple)).0
    ∙ ap (λ (a : App). matches_of a words) c.in_ok-command.ensures.words in
    let asked = c.in-Some.ensures.asked in
    let text_is = one_text-rows (found_of c.in_ok-matches.matches) (codes "sectors")
    ∙ ap (one_of (codes "sectors")) rows_are in
    (asked.0, sym text_is ∙ asked.1, asked.2)

pub returns-clause-device : goal.returns-clause-device
returns-clause-device c =
    let words : List Text = map (λ word. word.now) c.args.words.now in
    let rows_are : rows_of (found_of c.in_ok-matches.matches) ≡ matches_of console words =
    (c.in_ok-matches.ensures.ok.2
    (ap is_simple c.in_ok-command.ensures.words ∙ console_is_simple)).0
    ∙ ap (λ (a : App). matches_of a words) c.in_ok-command.ensures.words in
    c.get_str-device.ensures ∙ first_value-rows (found_of c.in_ok-matches.matches) (codes "device")
    ∙ ap (first_of (codes "device")) rows_are

pub returns-clause-migrate : goal.returns-clause-migrate
returns-clause-migrate c =
    let words : List Text = map (λ word. word.now) c.args.words.now in
    let rows_are : rows_of (found_of c.in_ok-matches.matches) ≡ matches_of console words =
    (c.in_ok-matches.ensures.ok.2
    (ap is_simple c.in_ok-command.ensures.words ∙ console_is_simple)).0
    ∙ ap (λ (a : App). matches_of a words) c.in_ok-command.ensures.words in
    c.get_str-migrate.ensures
    ∙ first_value-rows (found_of c.in_ok-matches.matches) (codes "migrate")
    ∙ ap (first_of (codes "migrate")) rows_are

pub returns-clause-overwrite : goal.returns-clause-overwrite
returns-clause-overwrite c =
    let words : List Text = map (λ word. word.now) c.args.words.now in
    let rows_are : rows_of (found_of c.in_ok-matches.matches) ≡ matches_of console words =
    (c.in_ok-matches.ensures.ok.2
    (ap is_simple c.in_ok-command.ensures.words ∙ console_is_simple)).0
    ∙ ap (λ (a : App). matches_of a words) c.in_ok-command.ensures.words in
    let text_is = one_text-rows (found_of c.in_ok-matches.matches) (codes "overwrite")
    ∙ ap (one_of (codes "overwrite")) rows_are in
    record {
      used = λ e. c.get_flag-overwrite.ensures.value (text_is ∙ e);
      unused = λ e. c.get_flag-overwrite.ensures.other (text_is ∙ e);
      none = λ e. c.get_flag-overwrite.ensures.none (text_is ∙ e);
    }

pub returns-clause-slots : goal.returns-clause-slots
returns-clause-slots c =
    let words : List Text = map (λ word. word.now) c.args.words.now in
    let rows_are : rows_of (found_of c.in_ok-matches.matches) ≡ matches_of console words =
    (c.in_ok-matches.ensures.ok.2
    (ap is_simple c.in_ok-command.ensures.words ∙ console_is_simple)).0
    ∙ ap (λ (a : App). matches_of a words) c.in_ok-command.ensures.words in
    let found = found_of c.in_ok-matches.matches in
    let same : option_map non_zero_u64_get c.non_zero.result ≡ c.in-Ok.slots =
    c.non_zero.ensures.same (at_least c.in-Ok.slots c.in-Ok.ensures.within) in
    rw same (slots_are words c.in-Ok.slots (first_value found (codes "slots"))
    (one_text found (codes "slots"))
    (first_value-rows found (codes "slots") ∙ ap (first_of (codes "slots")) rows_are)
    (one_text-rows found (codes "slots") ∙ ap (one_of (codes "slots")) rows_are)
    c.in-Ok.ensures.none c.in-Ok.ensures.asked)

pub returns-clause-default : goal.returns-clause-default
returns-clause-default c = λ one.
    let asked = returns-clause-asked c in
    default_sectors _ c.in-Some.sectors (length-map c.args.words.now (λ word. word.now) ∙ one) asked

none_mapped : {A B : Type 0} (f : A → B) (o : Option A) → option_map f o ≡ None → o ≡ None
none_mapped f None e = refl
none_mapped f (Some a) e = absurd (cc)

pub returns-clause-memory : goal.returns-clause-memory
returns-clause-memory c = λ one.
    let asked = returns-clause-device c in
    none_mapped (λ path. path.now) c.get_str-device.result
    (default_device _ (option_map (λ path. path.now) c.get_str-device.result)
    (length-map c.args.words.now (λ word. word.now) ∙ one) asked)
