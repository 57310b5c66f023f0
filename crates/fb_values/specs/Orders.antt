-- The four orders of the indexes:
-- a datom's key in each, how keys compare, and how a probe compares with a datom.
-- Restates Indexes of Datomic's documentation.
-- The order of the types, and that t ascends, are this project's own choice.
use Rattle.std.specs.Prelude.{ℕ, List, [], ◌∷◌, length, take, Option, Some, None}
use Rattle.std.specs.Option.{option_map}
use Rattle.std.specs.Ordering.{nat_cmp, int_cmp, bool_cmp, ordering_then}
use Rattle.std.specs.Cmp.Lexicographic.{slice_cmp}
use Rattle.std.specs.declared.cmp.Ordering.{Ordering}
use Rattle.std.specs.declared.cmp.Ordering.TheVariants.{Equal}
use Rattle.fb_values.specs.declared.facts.Value.{Value}
use Rattle.fb_values.specs.declared.facts.Value.TheVariants.{Keyword, Str, Bool, Long, Ref, Instant}
use Rattle.fb_values.specs.declared.facts.Value.TheVariants.{Uuid, Symbol, Uri}
use Rattle.fb_values.specs.declared.facts.Datom.{Datom}
use Rattle.fb_values.specs.declared.indexes.Order.{Order}
use Rattle.fb_values.specs.declared.indexes.Order.TheVariants.{Eavt, Aevt, Avet, Vaet}
use Rattle.fb_values.specs.declared.indexes.Probe.{Probe}

-- the place of a value's type among the types
abbrev pub type_place : Value → ℕ
type_place (Keyword text) = 0
type_place (Str text) = 1
type_place (Bool b) = 2
type_place (Long n) = 3
type_place (Ref n) = 4
type_place (Instant n) = 5
type_place (Uuid n) = 6
type_place (Symbol text) = 7
type_place (Uri text) = 8

-- by the UTF-8 bytes
abbrev pub text_cmp : List ℕ → List ℕ → Ordering
text_cmp = slice_cmp nat_cmp

-- values of one type
abbrev pub content_cmp : Value → Value → Ordering
content_cmp (Keyword x) (Keyword y) = text_cmp x y
content_cmp (Str x) (Str y) = text_cmp x y
content_cmp (Bool x) (Bool y) = bool_cmp x y
content_cmp (Long x) (Long y) = int_cmp x y
content_cmp (Ref x) (Ref y) = nat_cmp x y
content_cmp (Instant x) (Instant y) = int_cmp x y
content_cmp (Uuid x) (Uuid y) = nat_cmp x y
content_cmp (Symbol x) (Symbol y) = text_cmp x y
content_cmp (Uri x) (Uri y) = text_cmp x y
content_cmp x y = Equal

-- by the type, and then within the type
abbrev pub value_cmp : Value → Value → Ordering
value_cmp x y = ordering_then (nat_cmp (type_place x) (type_place y)) (content_cmp x y)

-- A datom's key. Its components are values:
-- an entity, an attribute and a t compare as numbers, so they are refs here.
abbrev pub key_of : Order → Datom → List Value
key_of Eavt d = Ref d.e ∷ Ref d.a ∷ d.v ∷ Ref d.t ∷ []
key_of Aevt d = Ref d.a ∷ Ref d.e ∷ d.v ∷ Ref d.t ∷ []
key_of Avet d = Ref d.a ∷ d.v ∷ Ref d.e ∷ Ref d.t ∷ []
key_of Vaet d = d.v ∷ Ref d.a ∷ Ref d.e ∷ Ref d.t ∷ []

-- the first component that differs decides
abbrev pub key_cmp : Order → Datom → Datom → Ordering
key_cmp order x y = slice_cmp value_cmp (key_of order x) (key_of order y)

-- a probe's components in its order
abbrev pub components_of : Probe → Order → List (Option Value)
components_of p Eavt = option_map Ref p.e ∷ option_map Ref p.a ∷ p.v ∷ option_map Ref p.t ∷ []
components_of p Aevt = option_map Ref p.a ∷ option_map Ref p.e ∷ p.v ∷ option_map Ref p.t ∷ []
components_of p Avet = option_map Ref p.a ∷ p.v ∷ option_map Ref p.e ∷ option_map Ref p.t ∷ []
components_of p Vaet = p.v ∷ option_map Ref p.a ∷ option_map Ref p.e ∷ option_map Ref p.t ∷ []

-- the components before the first that is not given
abbrev pub leading : List (Option Value) → List Value
leading [] = []
leading (None ∷ rest) = []
leading (Some v ∷ rest) = v ∷ leading rest

-- the leading components that a probe gives: one after a gap is not among them
abbrev pub given : Probe → List Value
given p = leading (components_of p p.order)

-- a probe and as many leading components of the datom's key
abbrev pub probe_cmp : Probe → Datom → Ordering
probe_cmp p d = slice_cmp value_cmp (given p) (take (length (given p)) (key_of p.order d))
