-- Which forms are alike: what a map may not have twice as its key, nor a set twice as its member.
-- EDN, edn-format: "Equality".
use Rattle.std.specs.Prelude.{ℕ, ◌==◌, Bool, true, false, ◌&&◌, ◌||◌, not, if◌then◌else◌, suc}
use Rattle.std.specs.Prelude.{bytes_eq}
use Rattle.std.specs.Ordering.{int_eq}
use Rattle.edn_model.specs.Form.{Form, nil, boolean, integer, string, symbol, keyword, list, vector}
use Rattle.edn_model.specs.Form.{map, set, instant, uuid, Forms, no_forms, form, Pairs, no_pairs}
use Rattle.edn_model.specs.Form.{pair, with_last}

abbrev pub count : Forms → ℕ
count no_forms = 0
count (form f fs) = suc (count fs)

abbrev pub count_pairs : Pairs → ℕ
count_pairs no_pairs = 0
count_pairs (pair k v ps) = suc (count_pairs ps)

-- some form passes the test, or some key with its value
abbrev pub any : (Form → Bool) → Forms → Bool
any test no_forms = false
any test (form f fs) = test f || any test fs

abbrev pub any_pair : (Form → Form → Bool) → Pairs → Bool
any_pair test no_pairs = false
any_pair test (pair k v ps) = test k v || any_pair test ps

abbrev pub bool_eq : Bool → Bool → Bool
bool_eq a b = if a then b else not b

-- Lists and vectors are alike in order,
-- sets and maps without it, and other forms where they are of one kind and value.
abbrev mutual
  pub alike : Form → Form → Bool
  alike nil nil = true
  alike (boolean a) (boolean b) = bool_eq a b
  alike (integer a) (integer b) = int_eq a b
  alike (string a) (string b) = bytes_eq a b
  alike (symbol a) (symbol b) = bytes_eq a b
  alike (keyword a) (keyword b) = bytes_eq a b
  alike (list a) (list b) = alike_in_order a b
  alike (list a) (vector b) = alike_in_order a b
  alike (vector a) (list b) = alike_in_order a b
  alike (vector a) (vector b) = alike_in_order a b
  alike (map a) (map b) = (count_pairs a == count_pairs b) && pairs_among a b
  alike (set a) (set b) = (count a == count b) && forms_among a b
  alike (instant a) (instant b) = int_eq a b
  alike (uuid a) (uuid b) = a == b
  alike _ _ = false

  -- as many, and each alike to the one in its place
  pub alike_in_order : Forms → Forms → Bool
  alike_in_order no_forms no_forms = true
  alike_in_order (form f fs) (form g gs) = alike f g && alike_in_order fs gs
  alike_in_order _ _ = false

  -- each of the first is alike to one of the second
  pub forms_among : Forms → Forms → Bool
  forms_among no_forms gs = true
  forms_among (form f fs) gs = any (alike f) gs && forms_among fs gs

  -- each key of the first is alike to one of the second, and their values are
  pub pairs_among : Pairs → Pairs → Bool
  pairs_among no_pairs qs = true
  pairs_among (pair k v ps) qs = any_pair (λ l w. alike k l && alike v w) qs && pairs_among ps qs

-- none is alike to one of those seen before, nor to one before it
abbrev pub distinct_from : Forms → Forms → Bool
distinct_from seen no_forms = true
distinct_from seen (form f fs) = not (any (alike f) seen) && distinct_from (with_last seen f) fs

-- no two are alike
abbrev pub distinct : Forms → Bool
distinct = distinct_from no_forms

-- the keys of a map
abbrev pub keys : Pairs → Forms
keys no_pairs = no_forms
keys (pair k v ps) = form k (keys ps)
