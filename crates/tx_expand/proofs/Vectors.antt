-- Vectors and lists under a key: collections, and those that are none.
use Rattle.std.proofs.Common.{◌≡◌, ℕ, Bool, true, false, not, ◌&&◌, cond, List, [], refl, sym, ◌∙◌, ap}
use Rattle.std.specs.Prelude.{Option, Some, None}
use Rattle.std.proofs.lemmas.Bool.{false≢true}
use Rattle.edn_model.specs.Form as edn
use Rattle.edn_model.specs.Form.{Form, Forms}
use Rattle.fb_values.specs.declared.facts.Datom.{Datom}
use Rattle.tx_model.specs.Asks.{Name, plain, Ask, Key, own, forward, backward, lookup_in}
use Rattle.tx_model.specs.Walk.{has_ref, has_many, has_uniqueness, links, vector_asks, sequence_asks}
use Rattle.tx_expand.specs.Numbered.{Visited, visited, is_collection, walk_vector, walk_list}

where_many : {A : Type 0} (refers unique many : Bool) (x y z : A) → (many && not (refers && unique)) ≡ true
    → cond (refers && unique) x (cond many z y) ≡ z
where_many true true true x y z is = absurd (false≢true is)
where_many true true false x y z is = absurd (false≢true is)
where_many true false true x y z is = refl
where_many true false false x y z is = absurd (false≢true is)
where_many false true true x y z is = refl
where_many false true false x y z is = absurd (false≢true is)
where_many false false true x y z is = refl
where_many false false false x y z is = absurd (false≢true is)

where_one : {A : Type 0} (refers unique many : Bool) (x y z w : A) → (many && not (refers && unique)) ≡ false
    → cond (refers && unique) x (cond many z y) ≡ cond (refers && unique) x (cond many w y)
where_one true true true x y z w is = refl
where_one true true false x y z w is = refl
where_one true false true x y z w is = absurd (false≢true (sym is))
where_one true false false x y z w is = refl
where_one false true true x y z w is = absurd (false≢true (sym is))
where_one false true false x y z w is = refl
where_one false false true x y z w is = absurd (false≢true (sym is))
where_one false false false x y z w is = refl

where_not : {A : Type 0} (b : Bool) (x y : A) → not b ≡ true → cond b x y ≡ y
where_not true x y is = absurd (false≢true is)
where_not false x y is = refl

where_yes : {A : Type 0} (b : Bool) (x y z : A) → not b ≡ false → cond b x y ≡ cond b x z
where_yes true x y z is = refl
where_yes false x y z is = absurd (false≢true (sym is))

pub collected : (facts : List Datom) (self : Name) (key : Key) (fs : Forms) (found : Option (List ℕ × Form)) (members : List Ask)
    → is_collection facts key found ≡ true → members ≡ vector_asks facts self key fs found members
collected facts self own fs found members is = absurd (false≢true is)
collected facts self (forward k) fs None members is = rw is refl
collected facts self (forward k) fs (Some found) members is =
    sym (where_many (has_ref facts k) (has_uniqueness facts found.0) (has_many facts k) _ _ members is)
collected facts self (backward k) fs None members is = refl
collected facts self (backward k) fs (Some found) members is = sym (where_not (has_uniqueness facts found.0) _ members is)

pub alone : (facts : List Datom) (self : Name) (key : Key) (fs : Forms) (found : Option (List ℕ × Form)) (members : List Ask)
    → is_collection facts key found ≡ false → vector_asks facts self key fs found [] ≡ vector_asks facts self key fs found members
alone facts self own fs found members is = refl
alone facts self (forward k) fs None members is = rw is refl
alone facts self (forward k) fs (Some found) members is =
    where_one (has_ref facts k) (has_uniqueness facts found.0) (has_many facts k) _ _ [] members is
alone facts self (backward k) fs None members is = absurd (false≢true (sym is))
alone facts self (backward k) fs (Some found) members is = where_yes (has_uniqueness facts found.0) _ [] members is

-- ---- what is told

pub vector_collected : (facts : List Datom) (self : Name) (key : Key) (n : ℕ) (fs : Forms) (members : Visited)
    → is_collection facts key (lookup_in fs) ≡ true → members ≡ walk_vector facts self key n fs members
vector_collected facts self key n fs members is = rw is refl

pub vector_alone : (facts : List Datom) (self : Name) (key : Key) (n : ℕ) (fs : Forms) (members : Visited)
    → is_collection facts key (lookup_in fs) ≡ false
    → visited (vector_asks facts self key fs (lookup_in fs) []) n ≡ walk_vector facts self key n fs members
vector_alone facts self key n fs members is = rw is refl

pub list_collected : (facts : List Datom) (self : Name) (key : Key) (n : ℕ) (fs : Forms) (members : Visited)
    → is_collection facts key None ≡ true → members ≡ walk_list facts self key n fs members
list_collected facts self key n fs members is = rw is refl

pub list_alone : (facts : List Datom) (self : Name) (key : Key) (n : ℕ) (fs : Forms) (members : Visited)
    → is_collection facts key None ≡ false
    → visited (links self key (plain (edn.list fs))) n ≡ walk_list facts self key n fs members
list_alone facts self own n fs members is = refl
list_alone facts self (forward k) n fs members is = rw is refl
list_alone facts self (backward k) n fs members is = absurd (false≢true (sym is))
