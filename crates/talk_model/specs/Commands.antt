-- The commands of a session: a vector whose first member is a keyword, the command's word.
-- Datomic, Transactions, Database Filters, Indexes, Log API and Pull. The words are this project's
-- own choice.
use Rattle.std.specs.Prelude.{ℕ, List, [], ◌∷◌, length, nat_le, ◌&&◌, if◌then◌else◌, bytes_eq}
use Rattle.std.specs.Prelude.{codes, Option, Some, None, option_map, option_and_then}
use Rattle.std.specs.Option.{option_or}
use Rattle.edn_model.specs.Form as edn
use Rattle.edn_model.specs.Form.{Form, items}
use Rattle.fb_values.specs.declared.indexes.Order.{Order}
use Rattle.fb_values.specs.declared.indexes.Order.TheVariants.{Eavt, Aevt, Avet, Vaet}
use Rattle.with_model.specs.Chain.{most_tried}

-- what is looked at, of what the session has seen
pub data Look : Type 0 where
  -- [:datoms index c ..] and [:seek index c ..]
  datoms : Order → List Form → Look
  seek : Order → List Form → Look
  -- [:index-range a start end]
  index_range : Form → Form → Form → Look
  -- [:tx-range start end]
  tx_range : Form → Form → Look
  -- [:pull pattern entity]
  pull : Form → Form → Look

-- what changes in the view of later looks
pub data Turn : Type 0 where
  -- [:as-of point], [:since point] and [:history] narrow or widen the window
  as_of : Form → Turn
  since : Form → Turn
  history : Turn
  -- [:filter :name] adds a filter, and [:unfilter] takes back the window and the filters
  filter : List ℕ → Turn
  unfilter : Turn

-- a command that is answered of what its session has seen
pub data Read : Type 0 where
  look : Look → Read
  -- [:with [data ..] look]: a look at what transactions would make of it
  tried : List Form → Look → Read
  -- [:tuple-range [a ..] start end]
  tuples : Form → Form → Form → Read
  turn : Turn → Read
  -- [:request-index]
  request_index : Read

pub data Command : Type 0 where
  -- [:transact forms]
  transact : Form → Command
  -- [:db] and [:sync]: what the session sees, and what there is to see
  db : Command
  sync : Command
  read : Read → Command

-- ---- words

-- what is beside the word in a list
abbrev pub beside : {X : Type 0} → List ℕ → List (List ℕ × X) → Option X
beside word [] = None
beside word (one ∷ rest) = if bytes_eq one.0 word then Some one.1 else beside word rest

-- the same, where it is something
abbrev pub named : {X : Type 0} → List ℕ → List (List ℕ × Option X) → Option X
named word words = option_and_then (λ found. found) (beside word words)

abbrev pub name_in : Form → Option (List ℕ)
name_in (edn.keyword k) = Some k
name_in f = None

abbrev pub order_of : List ℕ → Option Order
order_of word =
    beside word
    ((codes "eavt", Eavt) ∷ (codes "aevt", Aevt) ∷ (codes "avet", Avet) ∷ (codes "vaet", Vaet) ∷ [])

abbrev pub order_in : Form → Option Order
order_in f = option_and_then order_of (name_in f)

-- ---- looks

-- those that begin with an index
abbrev pub of_an_index : Form → List Form → List (List ℕ × Option Look)
of_an_index index components =
    (codes "datoms", option_map (λ order. datoms order components) (order_in index))
    ∷ (codes "seek", option_map (λ order. seek order components) (order_in index))
    ∷ []

-- those whose word precedes these forms
abbrev pub look_words : List Form → List (List ℕ × Option Look)
look_words [] = []
look_words (x ∷ []) = of_an_index x []
look_words (x ∷ y ∷ []) =
    (codes "tx-range", Some (tx_range x y))
    ∷ (codes "pull", Some (pull x y))
    ∷ of_an_index x (y ∷ [])
look_words (x ∷ y ∷ z ∷ []) =
    (codes "index-range", Some (index_range x y z)) ∷ of_an_index x (y ∷ z ∷ [])
look_words (x ∷ more) = of_an_index x more

abbrev pub look_named : List ℕ → List Form → Option Look
look_named word behind = named word (look_words behind)

abbrev pub look_of : List Form → Option Look
look_of (edn.keyword word ∷ behind) = look_named word behind
look_of fs = None

-- the look that the form is, if it is one
abbrev pub look_in : Form → Option Look
look_in (edn.vector fs) = look_of (items fs)
look_in f = None

-- ---- transactions that are tried

abbrev pub datas_of : List Form → Option (List Form)
datas_of fs = if nat_le 1 (length fs) && nat_le (length fs) most_tried then Some fs else None

-- a vector of them: at least one, and not too many
abbrev pub datas_in : Form → Option (List Form)
datas_in (edn.vector fs) = datas_of (items fs)
datas_in f = None

-- ---- commands

abbrev pub looks : Look → Command
looks l = read (look l)

abbrev pub turns : Turn → Command
turns t = read (turn t)

-- a look behind transactions that are tried
abbrev pub tried_in : Form → Form → Option Command
tried_in given looked =
    option_and_then (λ datas. option_map (λ l. read (tried datas l)) (look_in looked))
    (datas_in given)

-- those whose word precedes these forms, beside looks
abbrev pub before : List Form → List (List ℕ × Option Command)
before [] =
    (codes "db", Some db)
    ∷ (codes "sync", Some sync)
    ∷ (codes "history", Some (turns history))
    ∷ (codes "unfilter", Some (turns unfilter))
    ∷ (codes "request-index", Some (read request_index))
    ∷ []
before (x ∷ []) =
    (codes "transact", Some (transact x))
    ∷ (codes "as-of", Some (turns (as_of x)))
    ∷ (codes "since", Some (turns (since x)))
    ∷ (codes "filter", option_map (λ name. turns (filter name)) (name_in x))
    ∷ []
before (x ∷ y ∷ []) = (codes "with", tried_in x y) ∷ []
before (x ∷ y ∷ z ∷ []) = (codes "tuple-range", Some (read (tuples x y z))) ∷ []
before (x ∷ y ∷ z ∷ more) = []

abbrev pub command_named : List ℕ → List Form → Option Command
command_named word behind =
    option_or (option_map looks (look_named word behind)) (named word (before behind))

abbrev pub command_of : List Form → Option Command
command_of (edn.keyword word ∷ behind) = command_named word behind
command_of fs = None

-- the command that the form is, if it is one
abbrev pub command_in : Form → Option Command
command_in (edn.vector fs) = command_of (items fs)
command_in f = None
