-- Tuples: what a composite is of each entity, and the list of them in order.
-- Datomic, Schema (Composite tuples) and Indexes. They are derived from facts and never recorded,
-- which is this project's own choice.
use Rattle.std.specs.Prelude.{◌≡◌, ◌↔◌, ℕ, Bool, true, false, not, ◌&&◌, List, [], ◌∷◌, map, filter}
use Rattle.std.specs.Prelude.{nat_eq, if◌then◌else◌, Option, Some, None, IsTrue, Contains}
use Rattle.std.specs.List.{list_any}
use Rattle.std.specs.Option.{option_map_or}
use Rattle.std.specs.Ordering.{is_lt, nat_cmp, ordering_then}
use Rattle.std.specs.Cmp.Lexicographic.{slice_cmp}
use Rattle.std.specs.declared.cmp.Ordering.{Ordering}
use Rattle.std.specs.declared.cmp.Ordering.TheVariants.{Less, Equal, Greater}
use Rattle.fb_values.specs.Orders.{value_cmp}
use Rattle.fb_values.specs.declared.facts.Datom.{Datom}
use Rattle.fb_values.specs.declared.facts.Entry.{Entry}
use Rattle.fb_values.specs.declared.facts.Value.{Value}
use Rattle.fb_model.specs.Facts.{values_of}
use Rattle.fb_model.specs.Types.{is_of_type}
use Rattle.fb_model.specs.Schema.{attribute_of}
use Rattle.view_model.specs.Window.{Window}
use Rattle.view_model.specs.View.{facts_seen}
use Rattle.tuple_model.specs.Composite.{is_among}

-- a value of each attribute, or nil
abbrev pub Tuple : Type 0
Tuple = List (Option Value)

-- an entity with its tuple
pub record Row : Type 0 where
  pub tuple : Tuple
  pub e : ℕ

-- ---- the order: nil is below every value; by the tuples, member by member, and then by the entity

abbrev pub member_cmp : Option Value → Option Value → Ordering
member_cmp None None = Equal
member_cmp None (Some w) = Less
member_cmp (Some v) None = Greater
member_cmp (Some v) (Some w) = value_cmp v w

abbrev pub tuple_cmp : Tuple → Tuple → Ordering
tuple_cmp = slice_cmp member_cmp

abbrev pub row_cmp : Row → Row → Ordering
row_cmp x y = ordering_then (tuple_cmp x.tuple y.tuple) (nat_cmp x.e y.e)

-- each row is below the next one
abbrev pub rows_rise : List Row → Bool
rows_rise [] = true
rows_rise (x ∷ []) = true
rows_rise (x ∷ y ∷ rows) = is_lt (row_cmp x y) && rows_rise (y ∷ rows)

-- ---- the tuple of an entity

-- the least of the values: an attribute that has one value now may have several in a view of the
-- past
abbrev pub least_value : List Value → Option Value
least_value [] = None
least_value (v ∷ vs) =
    option_map_or (λ w. if is_lt (value_cmp w v) then Some w else Some v) (least_value vs) (Some v)

abbrev pub tuple_of : List Datom → List ℕ → ℕ → Tuple
tuple_of facts attrs e = map (λ a. least_value (values_of facts e a)) attrs

-- the entity has a value of at least one of the attributes
abbrev pub has_one_of : List Datom → List ℕ → ℕ → Bool
has_one_of facts attrs e = list_any (λ d. nat_eq d.e e && is_among attrs d.a) facts

-- ---- the list of a composite

pub record IsRowOf (facts : List Datom) (attrs : List ℕ) (row : Row) : Type 0 where
  pub some : IsTrue (has_one_of facts attrs row.e)
  pub tuple_is : row.tuple ≡ tuple_of facts attrs row.e

-- the one rising list of the tuples of these facts
pub record AreTuples (facts : List Datom) (attrs : List ℕ) (rows : List Row) : Type 0 where
  pub rising : IsTrue (rows_rise rows)
  pub members : (row : Row) → Contains rows row ↔ IsRowOf facts attrs row

-- the same, computed: of equal rows one alone
abbrev pub put_row : Row → List Row → List Row
put_row x [] = x ∷ []
put_row x (y ∷ rows) =
    if is_lt (row_cmp x y) then x ∷ y ∷ rows
    else (if is_lt (row_cmp y x) then y ∷ put_row x rows else y ∷ rows)

abbrev pub rows_in_order : List Row → List Row
rows_in_order [] = []
rows_in_order (x ∷ rows) = put_row x (rows_in_order rows)

abbrev pub row_of : List Datom → List ℕ → Datom → Row
row_of facts attrs d = record { tuple = tuple_of facts attrs d.e; e = d.e }

abbrev pub tuples : List Datom → List ℕ → List Row
tuples facts attrs =
    rows_in_order (map (row_of facts attrs) (filter (λ d. is_among attrs d.a) facts))

-- those of a view, whose facts are those without history
abbrev pub tuples_seen : List Entry → Window → List (Datom → Bool) → List ℕ → List Row
tuples_seen h w filters attrs = tuples (facts_seen h w filters) attrs

-- ---- ranges: the start is in them, the end is not

abbrev pub is_member_of_type : List Datom → ℕ → Option Value → Bool
is_member_of_type facts a None = true
is_member_of_type facts a (Some v) =
    option_map_or (λ attribute. is_of_type attribute.kind v) (attribute_of facts a) false

-- as many members as the composite has attributes, each nil or of its attribute's type
abbrev pub is_bound : List Datom → List ℕ → Tuple → Bool
is_bound facts [] [] = true
is_bound facts [] (member ∷ members) = false
is_bound facts (a ∷ attrs) [] = false
is_bound facts (a ∷ attrs) (member ∷ members) =
    is_member_of_type facts a member && is_bound facts attrs members

abbrev pub is_in_range : Option Tuple → Option Tuple → Row → Bool
is_in_range start end row =
    option_map_or (λ bound. not (is_lt (tuple_cmp row.tuple bound))) start true
    && option_map_or (λ bound. is_lt (tuple_cmp row.tuple bound)) end true

abbrev pub range : Option Tuple → Option Tuple → List Row → List Row
range start end rows = filter (is_in_range start end) rows
