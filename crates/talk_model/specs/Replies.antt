-- What answers a command, as a form, and its line: the canonical text, and a line feed.
-- EDN, edn-format. Which keys a reply has is this project's own choice.
use Rattle.std.specs.Prelude.{◌≡◌, ℕ, pos, true, List, [], ◌∷◌, ◌++◌, codes, map, Option, Some}
use Rattle.std.specs.Prelude.{None}
use Rattle.std.specs.Option.{option_map_or}
use Rattle.edn_model.specs.Form as edn
use Rattle.edn_model.specs.Form.{Form, forms, pairs}
use Rattle.edn_model.specs.Canon.{Canon}
use Rattle.edn_print.specs.Printable.{printable}
use Rattle.edn_values.specs.Values.{form_of_value}
use Rattle.fb_values.specs.declared.facts.Datom.{Datom}
use Rattle.fb_values.specs.declared.facts.Entry.{Entry}
use Rattle.fb_values.specs.declared.facts.Value.{Value}
use Rattle.fb_values.specs.declared.facts.Value.TheVariants.{Ref}
use Rattle.fb_numbers.specs.Numbers.{transaction_of}
use Rattle.fb_model.specs.Schema.{attribute_of}
use Rattle.with_model.specs.Chain.{TxReport}
use Rattle.tuple_model.specs.Tuples.{Row}

-- ---- parts

abbrev pub number : ℕ → Form
number n = edn.integer (pos n)

-- an entity is printed as a value that is one
abbrev pub entity : ℕ → Form
entity e = form_of_value (Ref e)

abbrev pub vector : List Form → Form
vector fs = edn.vector (forms fs)

-- a map whose keys are keywords
abbrev pub field : List ℕ × Form → Form × Form
field part = (edn.keyword part.0, part.1)

abbrev pub map_of : List (List ℕ × Form) → Form
map_of parts = edn.map (pairs (map field parts))

-- an attribute by its keyword, as the facts of the whole history have it; what is no attribute by
-- its number
abbrev pub attribute : List Datom → ℕ → Form
attribute facts a =
    option_map_or (λ known. edn.keyword known.name) (attribute_of facts a) (entity a)

-- [17592186044417 :db/doc "hi" 13194139533313 true]
abbrev pub datom_form : List Datom → Datom → Form
datom_form facts d =
    vector (
    entity d.e
    ∷ attribute facts d.a
    ∷ form_of_value d.v
    ∷ entity (transaction_of d.t)
    ∷ edn.boolean d.added
    ∷ [])

abbrev pub datom_forms : List Datom → List Datom → Form
datom_forms facts ds = vector (map (datom_form facts) ds)

-- "x" 17592186044417
abbrev pub tempid_pair : List ℕ × ℕ → Form × Form
tempid_pair tempid = (edn.string tempid.0, entity tempid.1)

-- {:t 1 :data [..]}
abbrev pub transaction_form : List Datom → Entry → Form
transaction_form facts entry =
    map_of ((codes "t", number entry.t) ∷ (codes "data", datom_forms facts entry.datoms) ∷ [])

-- a member of a tuple
abbrev pub member_form : Option Value → Form
member_form None = edn.nil
member_form (Some v) = form_of_value v

-- [[1 nil] 17592186044420]
abbrev pub row_form : Row → Form
row_form row = vector (vector (map member_form row.tuple) ∷ entity row.e ∷ [])

-- ---- replies

-- {:t 1 :tempids {"x" 17592186044417}}
abbrev pub receipt : ℕ → List (List ℕ × ℕ) → Form
receipt t tempids =
    map_of
    ((codes "t", number t) ∷ (codes "tempids", edn.map (pairs (map tempid_pair tempids))) ∷ [])

-- {:basis 3}
abbrev pub basis_reply : ℕ → Form
basis_reply basis = map_of ((codes "basis", number basis) ∷ [])

-- {:ok true :basis 3}
abbrev pub done_reply : ℕ → Form
done_reply basis = map_of ((codes "ok", edn.boolean true) ∷ (codes "basis", number basis) ∷ [])

-- {:basis 3 :datoms [..]}
abbrev pub datoms_reply : ℕ → List Datom → List Datom → Form
datoms_reply basis facts ds =
    map_of ((codes "basis", number basis) ∷ (codes "datoms", datom_forms facts ds) ∷ [])

-- {:basis 3 :txs [..]}
abbrev pub transactions_reply : ℕ → List Datom → List Entry → Form
transactions_reply basis facts entries =
    map_of (
    (codes "basis", number basis)
    ∷ (codes "txs", vector (map (transaction_form facts) entries))
    ∷ [])

-- {:basis 3 :pull tree}; an instant that has no text,
-- which no script and no history has, is printed as the nearest that has one
abbrev pub pull_reply : ℕ → Form → Form
pull_reply basis tree =
    map_of ((codes "basis", number basis) ∷ (codes "pull", printable tree) ∷ [])

-- {:basis 1 :with [{:t 2 :tempids {}} ..] :reply {:basis 2 ..}}: the reports of transactions that
-- were tried, and the reply of a look behind them
abbrev pub with_reply : ℕ → List TxReport → Form → Form
with_reply basis reports shown =
    map_of (
    (codes "basis", number basis)
    ∷ (codes "with", vector (map (λ report. receipt report.t report.tempids) reports))
    ∷ (codes "reply", shown)
    ∷ [])

-- {:basis 3 :tuples [[[1 nil] 17592186044420] ..]}
abbrev pub tuples_reply : ℕ → List Row → Form
tuples_reply basis rows =
    map_of ((codes "basis", number basis) ∷ (codes "tuples", vector (map row_form rows)) ∷ [])

-- {:refused :read/not-a-command :at 0 :basis 3}
abbrev pub refusal_reply : List ℕ → ℕ → ℕ → Form
refusal_reply reason at basis =
    map_of (
    (codes "refused", edn.keyword reason)
    ∷ (codes "at", number at)
    ∷ (codes "basis", number basis)
    ∷ [])

-- {:fault :log :at 4 :basis 3}
abbrev pub fault_reply : List ℕ → ℕ → ℕ → Form
fault_reply fault at basis =
    map_of (
    (codes "fault", edn.keyword fault)
    ∷ (codes "at", number at)
    ∷ (codes "basis", number basis)
    ∷ [])

-- ---- lines

abbrev pub line_feed : ℕ
line_feed = 10

-- the line of a reply
abbrev pub IsLineOf : Form → List ℕ → Type 0
IsLineOf reply line = (text : List ℕ) × Canon reply text × (line ≡ text ++ line_feed ∷ [])
