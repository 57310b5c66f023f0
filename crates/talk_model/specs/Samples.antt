-- Commands for the examples. This project's own choice.
use Rattle.std.specs.Prelude.{◌≡◌, ◌⊎◌, ℕ, pos, Bool, true, false, List, [], ◌∷◌, codes, bytes_eq}
use Rattle.std.specs.Prelude.{Option, Some, None}
use Rattle.edn_model.specs.Form as edn
use Rattle.edn_model.specs.Form.{Form, forms, pairs}
use Rattle.fb_values.specs.declared.facts.Datom.{Datom}
use Rattle.fb_values.specs.declared.facts.Entry.{Entry}
use Rattle.fb_numbers.specs.Numbers.{transaction_of, user_entity}
use Rattle.view_model.specs.Window.{Window, whole}
use Rattle.view_model.specs.Samples.{ages, texts, minus_one}
use Rattle.tuple_model.specs.Samples.{numbered}
use Rattle.tx_model.specs.Step.{no_guard}
use Rattle.tx_model.specs.Samples.{string, vector, add, doc}
use Rattle.talk_model.specs.Commands.{Read, Command, read, command_in}
use Rattle.talk_model.specs.Session.{Setting, setting, Standing, Sight, opened_at}
use Rattle.talk_model.specs.Reads.{IsReply, behind}
use Rattle.talk_model.specs.Computed.{tested, reply}
use Rattle.talk_model.specs.Talk.{Exchange}

-- a vector of a word and what follows it
abbrev pub said : List ℕ → List Form → Form
said word behind = edn.vector (forms (edn.keyword word ∷ behind))

abbrev pub key : List ℕ → Form
key k = edn.keyword k

abbrev pub number : ℕ → Form
number n = edn.integer (pos n)

-- -1
abbrev pub minus_one_form : Form
minus_one_form = edn.integer minus_one

-- `users` is the name of a filter, and no other name is
abbrev pub users_alone : List ℕ → Bool
users_alone name = bytes_eq name (codes "users")

-- [[:db/add "x" :db/doc "hi"]]
abbrev pub text : Form
text = vector (add (string (codes "x")) doc (string (codes "hi")) ∷ [])

-- one session alone, over a history, under a clock that reads a second or two
abbrev pub alone : List Entry → Option ℕ → Bool → Setting
alone h stop teller =
    setting (λ reading. (reading ≡ pos 1000) ⊎ (reading ≡ pos 2000)) (λ name d. d.added ≡ true)
    no_guard users_alone h stop teller

-- a form, the place where it was answered, its line, and its commit
abbrev pub exchange : Form → ℕ → List ℕ → Option ℕ → Exchange
exchange form place line commit =
    record { form = form; place = place; line = line; commit = commit }

-- ---- replies over the histories of the examples

-- the read that the form is; every other form is none here
abbrev pub read_of : Option Command → Option Read
read_of (Some (read r)) = Some r
read_of command = None

abbrev pub read_in : Form → Option Read
read_in f = read_of (command_in f)

-- all ages in view, where a filter selects additions
abbrev pub over_ages : Sight
over_ages =
    record {
      history = ages;
      window = whole;
      filters = [];
      Selects = λ d. d.added ≡ true;
      is_filter = users_alone;
      guard = no_guard;
    }

-- the reply to a read at t 4 of the ages
abbrev pub IsReplyOverAges : Form → Form → Type 0
IsReplyOverAges form reply = IsReply over_ages (read_in form) reply

-- the session after a read, if it was at t 4 of the ages before
abbrev pub behind_read : Standing → Form → Standing
behind_read standing form = behind over_ages standing (read_in form)

abbrev pub standing_behind : Form → Standing
standing_behind form = behind_read (opened_at 4) form

-- at t 4, with a window and the names of filters
abbrev pub standing_with : Window → List (List ℕ) → Standing
standing_with w filters = record { place = 4; window = w; filters = filters; was_notified = false }

-- the reply to a read at t 1 of the texts, under a window and filters
abbrev pub reply_over_texts : Window → List (Datom → Bool) → Form → Form
reply_over_texts w filters form =
    reply (tested texts w [] filters users_alone no_guard) filters (read_in form)

-- the reply to a range of the tuples of `:n/a` and `:n/b`, by user entities 3 to 5, under a window
-- and filters
abbrev pub range_over_numbers : Window → List (Datom → Bool) → Form → Form → Form
range_over_numbers w filters start end =
    reply (tested numbered w [] filters users_alone no_guard) filters
    (read_in
    (said (codes "tuple-range")
    (vector (key (codes "n/a") ∷ key (codes "n/b") ∷ []) ∷ start ∷ end ∷ [])))

-- [:with datas look]
abbrev pub tries : List Form → Form → Form
tries datas look = said (codes "with") (vector datas ∷ look ∷ [])

-- [:datoms :eavt e], where e is the first user entity
abbrev pub datoms_of_first : Form
datoms_of_first = said (codes "datoms") (key (codes "eavt") ∷ number (user_entity 1) ∷ [])

-- ---- replies as forms

-- [e a v tx added]
abbrev pub datom_vector : ℕ → List ℕ → Form → ℕ → Bool → Form
datom_vector e a v tx added =
    edn.vector (forms (number e ∷ key a ∷ v ∷ number tx ∷ edn.boolean added ∷ []))

-- {:t t :data [datom ..]}
abbrev pub transaction_map : ℕ → List Form → Form
transaction_map t datoms =
    edn.map
    (pairs ((key (codes "t"), number t) ∷ (key (codes "data"), edn.vector (forms datoms)) ∷ []))

-- the transaction of the texts: its instant, and the text
abbrev pub text_transaction : Form
text_transaction =
    transaction_map 1 (
    datom_vector (transaction_of 1) (codes "db/txInstant") (edn.instant (pos 1000))
    (transaction_of 1) true
    ∷ datom_vector (user_entity 1) (codes "db/doc") (edn.string (codes "hi")) (transaction_of 1)
    true
    ∷ [])
