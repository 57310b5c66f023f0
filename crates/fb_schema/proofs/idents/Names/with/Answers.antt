use Rattle.std.proofs.Common.{◌∷◌, ◌++◌, [], subst, sym}
use Rattle.std.specs.Prelude.{nat_eq}
use Rattle.std.proofs.lemmas.Bool.{and_left, and_right, ne_eqb}
use Rattle.fb_values.specs.declared.facts.Value.TheVariants.{Keyword}
use Rattle.fb_numbers.specs.Numbers.{ident}
use Rattle.fb_model.specs.Facts.{standing, value_eq}
use Rattle.fb_schema.specs.Naming.{HasNames}
use Rattle.fb_schema.proofs.Results.{IfOk-map}
use Rattle.fb_schema.proofs.Names.{HasNames-other, HasNames-name, no_keyword}
use Rattle.fb_schema.proofs.idents.Names.with.Goals as goal

pub returns-then-d-ne-IDENT : goal.returns-then-d-ne-IDENT
returns-then-d-ne-IDENT c =
    let d = c.args.d.now in
    IfOk-map _ _
    (λ names is facts has stands.
    subst (λ n. HasNames n (standing (facts ++ d ∷ []))) (sym is)
    (HasNames-other c.args.self.now facts d
    (λ name. and_left (nat_eq d.a ident) (value_eq d.v (Keyword name)) (ne_eqb d.a ident c.if-d-ne-IDENT.true)) has stands))
    c.share.result c.share.ensures

pub returns-in-Keyword : goal.returns-in-Keyword
returns-in-Keyword c =
    IfOk-map _ _
    (λ names is facts has stands. HasNames-name c.args.self.now names facts c.args.d.now c.in-Keyword.name c.if-d-ne-IDENT.false
    c.in-Keyword.is is has stands)
    c.with_name.result c.with_name.ensures

pub returns-in_default : goal.returns-in_default
returns-in_default c =
    let d = c.args.d.now in
    IfOk-map _ _
    (λ names is facts has stands.
    subst (λ n. HasNames n (standing (facts ++ d ∷ []))) (sym is)
    (HasNames-other c.args.self.now facts d
    (λ name. and_right (nat_eq d.a ident) (value_eq d.v (Keyword name)) (no_keyword d.v name c.in_default.not-Keyword)) has stands))
    c.share-in_default.result c.share-in_default.ensures
