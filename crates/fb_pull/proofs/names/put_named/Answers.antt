use denote.Ref.{Bor}
use Rattle.std.proofs.Common.{◌∙◌, List, Some, None, ap, sym, subst, arith}
use Rattle.std.specs.List.{All}
use Rattle.fb_schema.specs.declared.attribute.Attribute.{Attribute}
use Rattle.fb_pull.specs.Attributes.{names_of, IsOfSchema, IsPlace}
use Rattle.fb_pull.proofs.Named.{names_inserted, all_inserted, names_length}
use Rattle.fb_pull.proofs.names.put_named.Goals as goal

pub insert-requires : goal.insert-requires
insert-requires c =
    let place =
    subst (λ (l : List (Bor Attribute)). IsPlace c.args.attribute.now.ident (names_of l) (Some c.in-Some.at)) c.deref.ensures.value
    c.in-Some.ensures in
    omega (arith, place.0, names_length c.args.list.now.items)

pub returns-in_ok-insert-in-Some-clause-names : goal.returns-in_ok-insert-in-Some-clause-names
returns-in_ok-insert-in-Some-clause-names c =
    let place =
    subst (λ (l : List (Bor Attribute)). IsPlace c.args.attribute.now.ident (names_of l) (Some c.in-Some.at)) c.deref.ensures.value
    c.in-Some.ensures in
    ap names_of c.in_ok-insert-in-Some.ensures.items
    ∙ names_inserted c.args.list.now.items c.in-Some.at c.args.attribute ∙ sym place.1

pub returns-in_ok-insert-in-Some-clause-members : goal.returns-in_ok-insert-in-Some-clause-members
returns-in_ok-insert-in-Some-clause-members c = λ schema own all.
    subst (All (λ a. IsOfSchema schema a.now)) (sym c.in_ok-insert-in-Some.ensures.items)
    (all_inserted (λ a. IsOfSchema schema a.now) c.args.list.now.items c.in-Some.at c.args.attribute own all)

pub returns-in-None-clause-names : goal.returns-in-None-clause-names
returns-in-None-clause-names c =
    sym (subst (λ (l : List (Bor Attribute)). IsPlace c.args.attribute.now.ident (names_of l) None) c.deref.ensures.value c.in-None.ensures)
