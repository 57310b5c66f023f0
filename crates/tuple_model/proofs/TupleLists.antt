-- The computed tuples are those of the facts.
use Rattle.std.proofs.Common.{◌≡◌, ℕ, ◌&&◌, List, map, refl, sym, ◌∙◌, ap, subst}
use Rattle.std.specs.Prelude.{Contains, filter, nat_eq}
use Rattle.std.proofs.lemmas.Bool.{and_parts, and_from, eqb-true, eq-eqb}
use Rattle.fb_values.specs.declared.facts.Datom.{Datom}
use Rattle.fb_model.proofs.Members.{any_member, some_member, IsKept, kept, keep}
use Rattle.tuple_model.specs.Composite.{is_among}
use Rattle.tuple_model.specs.Tuples.{Row, tuple_of, IsRowOf, AreTuples, row_of, tuples}
use Rattle.tuple_model.proofs.Members.{map_has, map_member}
use Rattle.tuple_model.proofs.Rows.{in_order-rises, in_order_member, in_order_has, one_rising_list}

module _ (facts : List Datom) (attrs : List ℕ) where
  abbrev rows : List Row
  rows = map (row_of facts attrs) (filter (λ d. is_among attrs d.a) facts)

  is_row : (row : Row) → Contains rows row → IsRowOf facts attrs row
  is_row row member =
      let from = map_member (row_of facts attrs) (filter (λ d. is_among attrs d.a) facts) row member in
      let d = from.0 in
      let has : IsKept (λ x. is_among attrs x.a) facts d = kept (λ x. is_among attrs x.a) facts d from.1 in
      subst (IsRowOf facts attrs) from.2 (record {
        some = any_member (λ x. nat_eq x.e d.e && is_among attrs x.a) facts d has.member (and_from _ _ (eq-eqb d.e d.e refl) has.passes);
        tuple_is = refl;
      })

  has_row : (row : Row) → IsRowOf facts attrs row → Contains rows row
  has_row row is =
      let found = some_member (λ x. nat_eq x.e row.e && is_among attrs x.a) facts is.some in
      let d = found.0 in
      let parts = and_parts (nat_eq d.e row.e) (is_among attrs d.a) found.2 in
      let same : d.e ≡ row.e = eqb-true d.e row.e parts.0 in
      let tuples_same = ap (tuple_of facts attrs) same ∙ sym is.tuple_is in
      let row_is : row_of facts attrs d ≡ row = λ i. record { tuple = tuples_same i; e = same i } in
      subst (λ z. Contains rows z) row_is
      (map_has (row_of facts attrs) (filter (λ x. is_among attrs x.a) facts) d (keep (λ x. is_among attrs x.a) facts d found.1 parts.1))

  pub tuples-AreTuples : AreTuples facts attrs (tuples facts attrs)
  tuples-AreTuples = record {
    rising = in_order-rises rows;
    members = λ row. (λ member. is_row row (in_order_member rows row member), λ is. in_order_has rows row (has_row row is));
  }

  pub one_list : (first second : List Row) → AreTuples facts attrs first → AreTuples facts attrs second → first ≡ second
  one_list first second one other =
      one_rising_list first second one.rising other.rising
      (λ d member. (other.members d).1 ((one.members d).0 member))
      (λ d member. (one.members d).1 ((other.members d).0 member))

  pub one_row : (list : List Row) (x y : Row) → AreTuples facts attrs list → Contains list x → Contains list y → x.e ≡ y.e → x ≡ y
  one_row list x y are has_x has_y same =
      let tuples_same = ((are.members x).0 has_x).tuple_is ∙ ap (tuple_of facts attrs) same ∙ sym ((are.members y).0 has_y).tuple_is in
      λ i. record { tuple = tuples_same i; e = same i }
