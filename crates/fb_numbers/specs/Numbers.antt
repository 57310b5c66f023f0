-- Numbers: those of entities and of the built-in attributes, and the ranges of t, of instants and of the other numbers in values.
-- The attributes' meaning and the partitions are those of Datomic, Schema; the built-in numbers are this project's own choice.
use Rattle.std.specs.Prelude.{ℕ, ◌+◌, ◌-◌, ◌^◌, ℤ, pos, negsuc, Bool, ◌&&◌, ◌||◌, nat_le, nat_lt, int_le}
use Rattle.fb_numbers.specs.declared.entities.TheConstants.{CARDINALITY, CARDINALITY_MANY, CARDINALITY_ONE, DOC, IDENT, INDEX, IS_COMPONENT, TRANSACTIONS, TX_INSTANT, TYPE_BOOLEAN, TYPE_INSTANT, TYPE_KEYWORD, TYPE_LONG, TYPE_REF, TYPE_STRING, TYPE_SYMBOL, TYPE_URI, TYPE_UUID, UNIQUE, UNIQUE_IDENTITY, UNIQUE_VALUE, USER_ENTITIES, VALUE_TYPE}
use Rattle.fb_numbers.specs.declared.limits.TheConstants.{GREATEST_T, LEAST_INSTANT, GREATEST_INSTANT, MOST_DATOMS, MOST_USERS}

-- the entity of transaction t
abbrev pub transaction_of : ℕ → ℕ
transaction_of t = TRANSACTIONS + t

-- the n-th user entity, n from 1 on
abbrev pub user_entity : ℕ → ℕ
user_entity n = USER_ENTITIES + n

-- the n of a user entity, and 0 for every other number
abbrev pub user_number : ℕ → ℕ
user_number e = e - USER_ENTITIES

-- the attributes that describe attributes
abbrev pub ident : ℕ
ident = IDENT

abbrev pub value_type : ℕ
value_type = VALUE_TYPE

abbrev pub cardinality : ℕ
cardinality = CARDINALITY

abbrev pub unique : ℕ
unique = UNIQUE

abbrev pub is_component : ℕ
is_component = IS_COMPONENT

abbrev pub index : ℕ
index = INDEX

-- a text that says what an entity is
abbrev pub doc : ℕ
doc = DOC

-- when a transaction was recorded
abbrev pub tx_instant : ℕ
tx_instant = TX_INSTANT

-- the types of values
abbrev pub type_keyword : ℕ
type_keyword = TYPE_KEYWORD

abbrev pub type_string : ℕ
type_string = TYPE_STRING

abbrev pub type_boolean : ℕ
type_boolean = TYPE_BOOLEAN

abbrev pub type_long : ℕ
type_long = TYPE_LONG

abbrev pub type_ref : ℕ
type_ref = TYPE_REF

abbrev pub type_instant : ℕ
type_instant = TYPE_INSTANT

abbrev pub type_uuid : ℕ
type_uuid = TYPE_UUID

abbrev pub type_symbol : ℕ
type_symbol = TYPE_SYMBOL

abbrev pub type_uri : ℕ
type_uri = TYPE_URI

-- how many values an entity may have of an attribute
abbrev pub cardinality_one : ℕ
cardinality_one = CARDINALITY_ONE

abbrev pub cardinality_many : ℕ
cardinality_many = CARDINALITY_MANY

-- the two kinds of unique attributes
abbrev pub unique_identity : ℕ
unique_identity = UNIQUE_IDENTITY

abbrev pub unique_value : ℕ
unique_value = UNIQUE_VALUE

-- an entity of the first entry: 1 to 8, 10 to 18, 20, 21, 30 and 31
abbrev pub is_builtin : ℕ → Bool
is_builtin e =
    (nat_le ident e && nat_le e tx_instant)
    || (nat_le type_keyword e && nat_le e type_uri)
    || (nat_le cardinality_one e && nat_le e cardinality_many)
    || (nat_le unique_identity e && nat_le e unique_value)

-- the greatest t of a transaction
abbrev pub greatest_t : ℕ
greatest_t = GREATEST_T

-- instants are milliseconds from 1970-01-01T00:00:00Z, and lie from 0001-01-01 to 9999-12-31T23:59:59.999Z
abbrev pub least_instant : ℤ
least_instant = LEAST_INSTANT

abbrev pub greatest_instant : ℤ
greatest_instant = GREATEST_INSTANT

abbrev pub is_instant : ℤ → Bool
is_instant z = int_le least_instant z && int_le z greatest_instant

-- a long has 64 bits, one of them for its sign
abbrev pub least_long : ℤ
least_long = negsuc 9223372036854775807

abbrev pub greatest_long : ℤ
greatest_long = pos 9223372036854775807

abbrev pub is_long : ℤ → Bool
is_long z = int_le least_long z && int_le z greatest_long

-- a reference has 64 bits, and a uuid 128
abbrev pub is_reference : ℕ → Bool
is_reference n = nat_lt n (2 ^ 64)

abbrev pub is_uuid : ℕ → Bool
is_uuid n = nat_lt n (2 ^ 128)

-- the most datoms of an entry
abbrev pub most_datoms : ℕ
most_datoms = MOST_DATOMS

-- the greatest n of a user entity that a transaction may make
abbrev pub most_users : ℕ
most_users = MOST_USERS
