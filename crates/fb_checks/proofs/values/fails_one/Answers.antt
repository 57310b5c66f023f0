use Rattle.std.proofs.Common.{◌≡◌, ◌∙◌, ap, sym, refl, Bool, true, false, ◌&&◌, not, nat_eq, Option, ℕ}
use Rattle.std.specs.List.{list_any}
use Rattle.std.specs.Option.{option_map_or}
use Rattle.fb_values.specs.declared.facts.Datom.{Datom}
use Rattle.fb_checks.proofs.Anys.{any_false}
use Rattle.fb_checks.proofs.values.fails_one.Goals as goal

nobody : (a b : Bool) → (a && false && b) ≡ false
nobody true b = refl
nobody false b = refl

pub returns-in-None : goal.returns-in-None
returns-in-None g c =
    sym (ap (λ (id : Option ℕ). list_any (λ (d : Datom). d.added && option_map_or (nat_eq d.a) id false
    && not (g.T.Check.passes c.args.pred.now.test d)) c.args.changes.now) (sym c.id_of.ensures ∙ c.in-None.is)
    ∙ any_false _ (λ d. nobody d.added (not (g.T.Check.passes c.args.pred.now.test d))) c.args.changes.now)
