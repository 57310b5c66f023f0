-- What is read off a chain, and transactions on a history with one text, for the examples.
-- This project's own choice.
use Rattle.std.specs.Prelude.{ℕ, Bool, true, false, map, List, [], ◌∷◌, codes, Option, Some}
use Rattle.edn_model.specs.Form.{Form}
use Rattle.fb_values.specs.declared.facts.Value.{Value}
use Rattle.fb_values.specs.declared.facts.Value.TheVariants.{Str}
use Rattle.fb_numbers.specs.Numbers as numbers
use Rattle.fb_model.specs.History.{basis}
use Rattle.fb_model.specs.Facts.{facts, value_of}
use Rattle.tx_model.specs.Samples.{string, number, vector, tempid, user, add, doc}
use Rattle.tx_model.specs.SampleHistories.{one_text}
use Rattle.tx_model.specs.Step.{no_guard}
use Rattle.with_model.specs.Chain.{TxReport, Chain, reaches, refused_at, chain}

-- a transaction that gives an entity a text
abbrev pub says : Form → List ℕ → Form
says e text = vector (add e doc (string text) ∷ [])

-- one that makes a second user entity
abbrev pub new_text : Form
new_text = says (tempid (codes "y")) (codes "1")

-- one that gives the first user entity another text
abbrev pub other_text : Form
other_text = says (user 1) (codes "ho")

-- one that gives the second user entity a text
abbrev pub second_text : Form
second_text = says (user 2) (codes "2")

-- one that is refused, since there is no such entity
abbrev pub no_entity_text : Form
no_entity_text = says (number 99) (codes "2")

-- what comes of these transactions where the first user entity has the text `hi`
abbrev pub tried : List Form → Chain
tried asked = chain no_guard one_text asked

abbrev pub reports_in : Chain → List (ℕ × List (List ℕ × ℕ))
reports_in (reaches h reports) = map (λ (one : TxReport). (one.t, one.tempids)) reports
reports_in (refused_at refusal at) = []

abbrev text_from : Option Value → List ℕ
text_from (Some (Str text)) = text
text_from other = []

-- the text of the first user entity in the history that the chain comes to
abbrev pub text_in : Chain → List ℕ
text_in (reaches h reports) = text_from (value_of (facts h) (numbers.user_entity 1) numbers.doc)
text_in (refused_at refusal at) = []

abbrev pub basis_in : Chain → ℕ
basis_in (reaches h reports) = basis h
basis_in (refused_at refusal at) = at

abbrev pub is_refused : Chain → Bool
is_refused (reaches h reports) = false
is_refused (refused_at refusal at) = true
