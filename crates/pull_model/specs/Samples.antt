-- Histories and forms for the examples. This project's own choice.
use Rattle.std.specs.Prelude.{ℕ, zero, suc, ◌+◌, ℤ, pos, negsuc, Bool, true, false, List, [], ◌∷◌}
use Rattle.std.specs.Prelude.{◌++◌, map, codes, Some, None, Result, Ok, Err}
use Rattle.edn_model.specs.Form as edn
use Rattle.edn_model.specs.Form.{Form, forms, pairs}
use Rattle.fb_values.specs.declared.facts.Datom.{Datom}
use Rattle.fb_values.specs.declared.facts.Entry.{Entry}
use Rattle.fb_values.specs.declared.facts.Value.TheVariants.{Keyword, Str, Bool as Boolean, Long}
use Rattle.fb_values.specs.declared.facts.Value.TheVariants.{Ref, Uri}
use Rattle.fb_numbers.specs.Numbers.{user_entity, ident, value_type, cardinality, is_component}
use Rattle.fb_numbers.specs.Numbers.{type_long, type_string, type_ref, type_uri, cardinality_one}
use Rattle.fb_numbers.specs.Numbers.{cardinality_many}
use Rattle.fb_model.specs.FirstEntry.{first_entry}
use Rattle.fb_model.specs.Facts.{facts}
use Rattle.read_refusals.specs.declared.reasons.Reason.{Reason}
use Rattle.read_refusals.specs.declared.reasons.Reason.TheVariants.{BadPattern}
use Rattle.view_model.specs.Window.{Window, whole}
use Rattle.view_model.specs.Samples.{datom, entry_at, texts}
use Rattle.pull_model.specs.Found.{Db, db_of}
use Rattle.pull_model.specs.Pull.{pull, pulled, made_by}
use Rattle.pull_model.specs.Reading.{pattern_in}
use Rattle.pull_model.specs.Patterns.{Options, no_options, Limit, Pattern, no_items, item, Item}
use Rattle.pull_model.specs.Patterns.{own, attribute, Below, usual, unlimited}
use Rattle.pull_model.specs.Made.{Made}

-- ---- forms

abbrev pub key : List ℕ → Form
key k = edn.keyword k

abbrev pub text : List ℕ → Form
text s = edn.string s

abbrev pub int : ℕ → Form
int n = edn.integer (pos n)

abbrev pub vector : List Form → Form
vector fs = edn.vector (forms fs)

abbrev pub map_of : List (Form × Form) → Form
map_of ps = edn.map (pairs ps)

-- `*` and `...`
abbrev pub star : Form
star = edn.symbol (codes "*")

abbrev pub dots : Form
dots = edn.symbol (codes "...")

abbrev pub id : Form
id = key (codes "db/id")

-- a map of one pair
abbrev pub below : Form → Form → Form
below k v = map_of ((k, v) ∷ [])

-- an attribute, or any, with one option
abbrev pub with : Form → List ℕ → Form → Form
with name option value = vector (name ∷ key option ∷ value ∷ [])

-- [name :as new]
abbrev pub renamed : Form → Form → Form
renamed name new = with name (codes "as") new

-- [name :default value]
abbrev pub with_default : Form → Form → Form
with_default name value = with name (codes "default") value

-- [name :limit count]
abbrev pub with_limit : Form → Form → Form
with_limit name count = with name (codes "limit") count

-- a vector of one
abbrev pub only : Form → Form
only f = vector (f ∷ [])

-- {:db/id n}
abbrev pub entity : ℕ → Form
entity n = below id (int n)

-- ---- pulls by a form

abbrev answer_by : Result Pattern ℕ → (Pattern → Result Form Reason) → Result Form Reason
answer_by (Ok pattern) answer = answer pattern
answer_by (Err place) answer = Err BadPattern

-- what a pull by the form gives of an entity in a view
abbrev pub tree_in : List Entry → Window → List (Datom → Bool) → Form → ℕ → Result Form Reason
tree_in h w filters f n = answer_by (pattern_in f) (λ pattern. pull h w filters pattern n)

-- in a database value
abbrev pub tree_over : Db → Form → ℕ → Result Form Reason
tree_over db f n = answer_by (pattern_in f) (λ pattern. pulled false db pattern n)

-- by a pattern of these items in the whole database
abbrev pub tree_of : List Entry → List Form → ℕ → Result Form Reason
tree_of h pattern n = tree_in h whole [] (vector pattern) n

-- ---- patterns as they are read

-- the pattern of these items
abbrev pub pattern_with : List Item → Pattern
pattern_with [] = no_items
pattern_with (i ∷ rest) = item i (pattern_with rest)

-- an attribute without options
abbrev pub bare : List ℕ → Below → Item
bare name below = attribute name no_options below

-- options of which one alone is given
abbrev pub as_alone : Form → Options
as_alone key = record { renamed = Some key; default = None; limit = None }

abbrev pub default_alone : Form → Options
default_alone value = record { renamed = None; default = Some value; limit = None }

abbrev pub limit_alone : Limit → Options
limit_alone limit = record { renamed = None; default = None; limit = Some limit }

-- ---- attributes, installed by the first transaction

abbrev pub installed : ℕ → List ℕ → ℕ → ℕ → List Datom
installed n name kind count =
    datom (user_entity n) ident (Keyword name) 1 true
    ∷ datom (user_entity n) value_type (Ref kind) 1 true
    ∷ datom (user_entity n) cardinality (Ref count) 1 true
    ∷ []

-- one whose values are parts
abbrev pub installed_part : ℕ → List ℕ → ℕ → List Datom
installed_part n name count =
    installed n name type_ref count ++ datom (user_entity n) is_component (Boolean true) 1 true ∷ []

-- ---- names and friends

abbrev pub name : Form
name = key (codes "f/name")

abbrev pub friend : Form
friend = key (codes "f/friend")

abbrev pub friend_of : Form
friend_of = key (codes "f/_friend")

abbrev pub friend_schema : List Entry
friend_schema =
    first_entry
    ∷ entry_at 1 1000 (
    installed 1 (codes "f/name") type_string cardinality_one
    ++ installed 2 (codes "f/friend") type_ref cardinality_many)
    ∷ []

-- three people
abbrev pub ann : ℕ
ann = user_entity 3

abbrev pub ben : ℕ
ben = user_entity 4

abbrev pub cleo : ℕ
cleo = user_entity 5

abbrev pub has_name : ℕ → List ℕ → Datom
has_name e s = datom e (user_entity 1) (Str s) 2 true

abbrev pub has_friend : ℕ → ℕ → Datom
has_friend e other = datom e (user_entity 2) (Ref other) 2 true

-- Ann and Ben are friends, and have the names `A` and `B`
abbrev pub friends : List Entry
friends =
    friend_schema
    ++ entry_at 2 2000
    (has_name ann (codes "A") ∷ has_friend ann ben
    ∷ has_name ben (codes "B") ∷ has_friend ben ann
    ∷ [])
    ∷ []

-- Ann has two friends, of whom only Cleo has a name, `C`
abbrev pub nameless_friend : List Entry
nameless_friend =
    friend_schema
    ++ entry_at 2 2000
    (has_name ann (codes "A") ∷ has_friend ann ben ∷ has_friend ann cleo
    ∷ has_friend ben ann
    ∷ has_name cleo (codes "C")
    ∷ [])
    ∷ []

-- the pair that gives a name
abbrev pub name_is : List ℕ → Form × Form
name_is s = (name, text s)

-- the pair that gives the one friend
abbrev pub friend_is : Form → Form × Form
friend_is f = (friend, only f)

-- the pair that gives the one whose friend it is
abbrev pub friend_of_is : Form → Form × Form
friend_of_is f = (friend_of, only f)

-- {:f/name s}
abbrev pub named : List ℕ → Form
named s = map_of (name_is s ∷ [])

-- the names of somebody and of all friends
abbrev pub names_of_friends : Pattern
names_of_friends =
    pattern_with (bare (codes "f/name") usual ∷ bare (codes "f/friend") unlimited ∷ [])

-- what a pattern makes of Ann
abbrev pub made_for_ann : Pattern → Made
made_for_ann pattern = made_by (db_of friends whole []) pattern ann

-- ---- orders, whose lines are their parts, and a note on a line

abbrev pub lines : Form
lines = key (codes "order/lines")

abbrev pub order_of : Form
order_of = key (codes "order/_lines")

abbrev pub sku : Form
sku = key (codes "line/sku")

-- an order of two lines, and a note on the second of them
abbrev pub the_order : ℕ
the_order = user_entity 4

abbrev pub first_line : ℕ
first_line = user_entity 5

abbrev pub second_line : ℕ
second_line = user_entity 6

abbrev pub the_note : ℕ
the_note = user_entity 7

abbrev pub order_facts : List Datom
order_facts =
    datom the_order (user_entity 1) (Ref first_line) 2 true
    ∷ datom the_order (user_entity 1) (Ref second_line) 2 true
    ∷ datom first_line (user_entity 2) (Str (codes "A")) 2 true
    ∷ datom second_line (user_entity 2) (Str (codes "B")) 2 true
    ∷ datom the_note (user_entity 3) (Ref second_line) 2 true
    ∷ []

-- {:db/id n :line/sku s}
abbrev pub line_form : ℕ → List ℕ → Form
line_form n s = map_of ((id, int n) ∷ (sku, text s) ∷ [])

-- both lines as they are given whole
abbrev pub both_lines : Form
both_lines = vector (line_form first_line (codes "A") ∷ line_form second_line (codes "B") ∷ [])

abbrev pub retraction : Datom → Datom
retraction d = record d { t = 3; added = false }

abbrev retractions : List Datom → List Datom
retractions [] = []
retractions (d ∷ ds) = retraction d ∷ retractions ds

abbrev pub orders : List Entry
orders =
    first_entry
    ∷ entry_at 1 1000 (
    installed_part 1 (codes "order/lines") cardinality_many
    ++ installed 2 (codes "line/sku") type_string cardinality_one
    ++ installed 3 (codes "note/line") type_ref cardinality_one)
    ∷ entry_at 2 2000 order_facts
    ∷ []

-- the order is retracted with its lines
abbrev pub orders_retracted : List Entry
orders_retracted = orders ++ entry_at 3 3000 (retractions order_facts) ∷ []

-- ---- parts in a circle, and a part of two wholes

abbrev pub part : Form
part = key (codes "c/part")

abbrev pub part_of : Form
part_of = key (codes "c/_part")

abbrev pub next : Form
next = key (codes "c/next")

abbrev pub has_part : ℕ → ℕ → Datom
has_part e other = datom e (user_entity 1) (Ref other) 2 true

abbrev pub is_next_to : ℕ → ℕ → Datom
is_next_to e other = datom e (user_entity 2) (Ref other) 2 true

abbrev pub part_schema : List Entry
part_schema =
    first_entry
    ∷ entry_at 1 1000 (
    installed_part 1 (codes "c/part") cardinality_many
    ++ installed 2 (codes "c/next") type_ref cardinality_one)
    ∷ []

-- three entities
abbrev pub left : ℕ
left = user_entity 3

abbrev pub right : ℕ
right = user_entity 4

abbrev pub middle : ℕ
middle = user_entity 5

-- the left and the right are parts of each other, and the right is next to the left
abbrev pub circle : List Entry
circle =
    part_schema
    ++ entry_at 2 2000 (has_part left right ∷ is_next_to left right ∷ has_part right left ∷ [])
    ∷ []

-- the right, which is given inside the left, with the left in it again
abbrev pub right_in_left : Form
right_in_left = map_of ((id, int right) ∷ (part, only (entity left)) ∷ [])

-- the middle is a part of the left and of the right, and the right and the middle are next to each
-- other
abbrev pub two_wholes : List Entry
two_wholes =
    part_schema
    ++ entry_at 2 2000
    (has_part left middle ∷ has_part right middle
    ∷ is_next_to right middle ∷ is_next_to middle right
    ∷ [])
    ∷ []

-- ---- two names of which the later attribute's is the first by its bytes

-- the entity of both names
abbrev pub twice_named : ℕ
twice_named = user_entity 3

abbrev pub two_names : List Entry
two_names =
    first_entry
    ∷ entry_at 1 1000 (
    installed 1 (codes "a/b") type_string cardinality_one
    ++ installed 2 (codes "a.b/c") type_string cardinality_one)
    ∷ entry_at 2 2000 (
    datom twice_named (user_entity 1) (Str (codes "1")) 2 true
    ∷ datom twice_named (user_entity 2) (Str (codes "2")) 2 true
    ∷ [])
    ∷ []

-- the pairs `:a/b "1"` and `:a.b/c "2"`
abbrev pub one_is_told : Form × Form
one_is_told = (key (codes "a/b"), text (codes "1"))

abbrev pub two_is_told : Form × Form
two_is_told = (key (codes "a.b/c"), text (codes "2"))

-- ---- a text, and a uri

abbrev pub doc_word : Form
doc_word = key (codes "db/doc")

-- the name of no attribute
abbrev pub unknown : Form
unknown = key (codes "x/y")

abbrev pub home : Form
home = key (codes "u/home")

-- an entity with a text has a uri too
abbrev pub homes : List Entry
homes =
    texts
    ++ entry_at 2 2000
    (datom (user_entity 2) ident (Keyword (codes "u/home")) 2 true
    ∷ datom (user_entity 2) value_type (Ref type_uri) 2 true
    ∷ datom (user_entity 2) cardinality (Ref cardinality_one) 2 true
    ∷ [])
    ∷ entry_at 3 3000 (datom (user_entity 1) (user_entity 2) (Uri (codes "http://a")) 3 true ∷ [])
    ∷ []

-- ---- many numbers, and a long chain

-- from n on, so many
abbrev pub counted : ℕ → ℕ → List ℕ
counted n zero = []
counted n (suc more) = n ∷ counted (n + 1) more

abbrev pub some_number : Form
some_number = key (codes "x/n")

abbrev number_schema : List Datom
number_schema =
    facts
    (first_entry ∷ entry_at 1 1000 (installed 1 (codes "x/n") type_long cardinality_many) ∷ [])

-- the entity that has the numbers
abbrev pub numbered : ℕ
numbered = user_entity 2

abbrev pub has_number : ℤ → Datom
has_number z = datom numbered (user_entity 1) (Long z) 2 true

-- -1, and so many from 0 on
abbrev pub numbers : ℕ → Db
numbers n =
    record { schema = number_schema; seen = map has_number (negsuc 0 ∷ map pos (counted 0 n)) }

-- so many from 0 on, as a filter that hides negative numbers leaves them
abbrev pub numbers_hidden_below_0 : ℕ → Db
numbers_hidden_below_0 n =
    record { schema = number_schema; seen = map has_number (map pos (counted 0 n)) }

abbrev pub number_forms : List ℤ → List Form
number_forms zs = map (λ z. edn.integer z) zs

-- the user entities from the third on, each next to the one after it, so many
abbrev pub chain : ℕ → Db
chain n =
    record {
      schema = facts part_schema;
      seen = map (λ k. is_next_to (user_entity k) (user_entity (k + 1))) (counted 3 n);
    }

-- the entities of a chain, each inside the one before
abbrev pub all_behind : Pattern
all_behind = pattern_with (bare (codes "c/next") unlimited ∷ own no_options ∷ [])
