-- People with addresses and ages, and the histories with them, for the examples.
-- This project's own choice.
-- User entities are counted in the order in which they are made, attributes among them.
use Rattle.std.specs.Prelude.{ℕ, true, List, [], ◌∷◌, codes}
use Rattle.edn_model.specs.Form.{Form, nil, boolean}
use Rattle.fb_values.specs.declared.facts.Entry.{Entry}
use Rattle.tx_model.specs.Samples.{keyword, string, number, map_of, tempid, user, add, retract, cas}
use Rattle.tx_model.specs.Samples.{id, doc, ident, cardinality, unique, index, type_string}
use Rattle.tx_model.specs.Samples.{type_long, cardinality_one, cardinality_many, unique_identity}
use Rattle.tx_model.specs.Samples.{install, after, after_from}

-- ---- addresses: `:person/email`, a unique string, is user entity 1

abbrev pub email : List ℕ
email = codes "person/email"

-- the pair of an attribute whose values identify entities
abbrev pub identifies : Form × Form
identifies = (keyword unique, unique_identity)

abbrev pub install_email : List Form
install_email = install email type_string cardinality_one (identifies ∷ []) ∷ []

-- {:db/id name :person/email address}
abbrev pub person : List ℕ → List ℕ → Form
person name address = map_of ((id, tempid name) ∷ (keyword email, string address) ∷ [])

-- {:person/email address}
abbrev pub nameless_person : List ℕ → Form
nameless_person address = map_of ((keyword email, string address) ∷ [])

-- the attribute alone
abbrev pub with_email_installed : List Entry
with_email_installed = after (install_email ∷ [])

-- user entity 2 has the address a@x
abbrev pub one_person : List Entry
one_person = after (install_email ∷ (person (codes "p") (codes "a@x") ∷ []) ∷ [])

-- user entity 2 has the address b@x, and 3 has c@x
abbrev pub two_people : List Entry
two_people =
    after (install_email
    ∷ (person (codes "p") (codes "b@x") ∷ person (codes "q") (codes "c@x") ∷ [])
    ∷ [])

-- where there are two people, the second gets the address of the first
abbrev pub move_address : List Form
move_address =
    retract (user 2) email (string (codes "b@x"))
    ∷ add (user 3) email (string (codes "b@x"))
    ∷ []

-- two new people with one address
abbrev pub one_address_for_two : List Form
one_address_for_two = person (codes "p") (codes "b@x") ∷ person (codes "q") (codes "b@x") ∷ []

-- the attribute alone, since the people with one address were refused
abbrev pub after_a_refusal : List Entry
after_a_refusal = after (install_email ∷ one_address_for_two ∷ [])

-- ---- two attributes that identify entities: `:id/s`, a string, and `:id/l`, a number

abbrev pub id_string : List ℕ
id_string = codes "id/s"

abbrev pub id_number : List ℕ
id_number = codes "id/l"

abbrev pub install_ids : List Form
install_ids =
    install id_string type_string cardinality_one (identifies ∷ [])
    ∷ install id_number type_long cardinality_one (identifies ∷ [])
    ∷ []

-- user entity 3 has the string `p`, and 4 has the number 1
abbrev pub two_ids : List Entry
two_ids =
    after (install_ids
    ∷ (map_of ((keyword id_string, string (codes "p")) ∷ [])
    ∷ map_of ((keyword id_number, number 1) ∷ [])
    ∷ [])
    ∷ [])

-- they lose them, and another entity gets both
abbrev pub both_ids_for : Form → List Form
both_ids_for e =
    retract (user 3) id_string (string (codes "p"))
    ∷ retract (user 4) id_number (number 1)
    ∷ add e id_string (string (codes "p"))
    ∷ add e id_number (number 1)
    ∷ []

-- ---- ages: `:p/age`, a number, is user entity 1

abbrev pub age : List ℕ
age = codes "p/age"

abbrev pub install_age : List Form
install_age = install age type_long cardinality_one [] ∷ []

-- {:db/id name :p/age n}
abbrev pub person_aged : List ℕ → ℕ → Form
person_aged name n = map_of ((id, tempid name) ∷ (keyword age, number n) ∷ [])

-- the attribute alone
abbrev pub with_age_installed : List Entry
with_age_installed = after (install_age ∷ [])

-- user entity 2 has a text and no age
abbrev pub one_without_age : List Entry
one_without_age =
    after (install_age
    ∷ (add (tempid (codes "a")) doc (string (codes "acct")) ∷ [])
    ∷ [])

-- user entity 2 has a text and the age 5
abbrev pub one_aged : List Entry
one_aged = after_from one_without_age ((cas (user 2) age nil (number 5) ∷ []) ∷ [])

-- user entities 2 and 3 are both 5
abbrev pub two_aged : List Entry
two_aged =
    after (install_age ∷ (person_aged (codes "a") 5 ∷ person_aged (codes "b") 5 ∷ []) ∷ [])

-- a person is to have one age, or several
abbrev pub allow_one_age : Form
allow_one_age = add (keyword age) cardinality cardinality_one

abbrev pub allow_many_ages : Form
allow_many_ages = add (keyword age) cardinality cardinality_many

-- user entities 2 and 3 are both 5, and may have several ages
abbrev pub many_aged : List Entry
many_aged = after_from two_aged ((allow_many_ages ∷ []) ∷ [])

-- user entity 2 is 5 and 6, and 3 is 5
abbrev pub one_with_two_ages : List Entry
one_with_two_ages = after_from many_aged ((add (user 2) age (number 6) ∷ []) ∷ [])

-- ages are to be indexed
abbrev pub index_ages : List Form
index_ages = add (keyword age) index (boolean true) ∷ []

-- user entities 2 and 3 are both 5, and ages are indexed
abbrev pub with_ages_indexed : List Entry
with_ages_indexed = after_from two_aged (index_ages ∷ [])

-- ages are to have another name
abbrev pub rename_age : List Form
rename_age = add (keyword age) ident (keyword (codes "p/years")) ∷ []
