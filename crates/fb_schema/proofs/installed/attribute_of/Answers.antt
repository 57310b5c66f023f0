use Rattle.std.proofs.Common.{◌≡◌, ◌<◌, ◌-◌, ◌∷◌, true, length, get_or, drop, ap, sym, subst, ◌∙◌, arith}
use Rattle.std.specs.Prelude.{filter, nat_eq}
use Rattle.std.proofs.lemmas.Bool.{eqb-true}
use Rattle.fb_model.specs.Schema.{attribute_of}
use Rattle.fb_schema.specs.Parts.{description_of, attribute_from}
use Rattle.fb_schema.proofs.Drops.{drop_before, drop_end}
use Rattle.fb_schema.proofs.Lookups.{attribute_of-own}
use Rattle.fb_schema.proofs.Results.{IfOk-map}
use Rattle.fb_schema.proofs.Steps.{filter-at}
use Rattle.fb_schema.proofs.installed.attribute_of.Goals as goal

pub loop-i-init : goal.loop-i-init
loop-i-init c =
    let own = c.args.own.now in
    record {
      in_range = omega arith;
      said = λ facts is.
          c.empty-said.ensures c.args.e ∙ ap (λ l. description_of l c.args.e) (sym (drop_end own (length own) (omega arith)));
    }

pub loop-i-preserved : goal.loop-i-preserved
loop-i-preserved c =
    let i = c.loop-i.i in
    let own = c.args.own.now in
    let x = c.index-own-i.result in
    let first = drop_before own i x (omega arith) c.loop-i.invariant.in_range c.index-own-i.is in
    record {
      in_range = omega arith;
      said = λ facts is.
          let within : i - 1 < length (filter (λ d. nat_eq d.e c.args.e) facts) =
          rw is at (omega_within i (length own) (omega arith) c.loop-i.invariant.in_range) in
          let passes = filter-at (λ d. nat_eq d.e c.args.e) facts (i - 1) x within in
          let of : nat_eq x.e c.args.e ≡ true =
          ap (λ y. nat_eq y.e c.args.e) (c.index-own-i.is ∙ ap (λ l. get_or l (i - 1) x) is) ∙ passes in
          let same = eqb-true x.e c.args.e of in
          c.in_ok-said.ensures (drop i own) (c.loop-i.invariant.said facts is ∙ ap (description_of (drop i own)) (sym same))
          ∙ ap (description_of (x ∷ drop i own)) same
          ∙ ap (λ l. description_of l c.args.e) (sym first);
    }
  where
    omega_within : (i n : Rattle.std.proofs.Common.ℕ) → 0 < i → Rattle.std.proofs.Common.◌≤◌ i n → i - 1 < n
    omega_within i n some low = omega arith

pub returns : goal.returns
returns c =
    let own = c.args.own.now in
    let zero : c.loop-i.i ≡ 0 = omega arith in
    IfOk-map _ _
    (λ found got facts is.
    got
    ∙ ap (attribute_from c.args.e) (c.loop-i.invariant.said facts is ∙ ap (λ i. description_of (drop i own) c.args.e) zero)
    ∙ ap (λ l. attribute_of l c.args.e) is
    ∙ attribute_of-own facts c.args.e)
    c.attribute.result c.attribute.ensures
