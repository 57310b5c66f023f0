-- What the examples are decided over, and how they are read.
-- This project's own choice. User entity 1 is the attribute `:person/email`.
use Rattle.std.specs.Prelude.{ℕ, false, List, [], ◌∷◌, codes, Option, Some, None}
use Rattle.edn_model.specs.Form.{Form}
use Rattle.fb_values.specs.declared.facts.Entry.{Entry}
use Rattle.tx_model.specs.Step.{Guard, Decision, refused, accepted, step}
use Rattle.tx_model.specs.Samples.{keyword, string, vector, map_of, tempid, add, id, clock}
use Rattle.tx_model.specs.Samples.{after}
use Rattle.tx_model.specs.SamplePeople.{install_email}
use Rattle.fb_checks.specs.Checks.{bars_of}
use Rattle.fb_checks.specs.Shipped.{doc, email}

-- ---- guards

-- a name of no attribute
abbrev pub no_attribute : List ℕ
no_attribute = codes "no/such"

-- no value of that attribute passes
abbrev pub nothing_of_no_attribute : Guard
nothing_of_no_attribute = bars_of ((no_attribute, λ d. false) ∷ []) []

-- who has an address has a value of that attribute, or the other way round
abbrev pub address_needs_no_attribute : Guard
address_needs_no_attribute = bars_of [] ((email, no_attribute) ∷ [])

abbrev pub no_attribute_needs_address : Guard
no_attribute_needs_address = bars_of [] ((no_attribute, email) ∷ [])

-- ---- forms

abbrev pub described : Form → List ℕ → Form
described e text = add e doc (string text)

-- {:db/id name :person/email address :db/doc text}
abbrev pub described_person : List ℕ → List ℕ → List ℕ → Form
described_person name address text =
    map_of ((id, tempid name)
    ∷ (keyword email, string address)
    ∷ (keyword doc, string text)
    ∷ [])

-- ---- histories

-- user entity 2 has the address a@x and the text d, and 3 has the text e
abbrev pub described_people : List Entry
described_people =
    after (install_email
    ∷ (described_person (codes "p") (codes "a@x") (codes "d")
    ∷ described (tempid (codes "q")) (codes "e")
    ∷ [])
    ∷ [])

-- user entity 1 has an empty text, which no guard kept out
abbrev pub one_empty_text : List Entry
one_empty_text = after ((described (tempid (codes "x")) [] ∷ []) ∷ [])

-- ---- what is decided

-- of the transaction of these forms
abbrev pub decision_under : Guard → List Entry → List Form → Decision
decision_under guard h fs = step h (vector fs) clock guard

-- the t of an accepted transaction
abbrev t_of : Decision → Option ℕ
t_of (accepted entry tempids) = Some entry.t
t_of (refused refusal) = None

abbrev pub accepted_under : Guard → List Entry → List Form → Option ℕ
accepted_under guard h fs = t_of (decision_under guard h fs)
