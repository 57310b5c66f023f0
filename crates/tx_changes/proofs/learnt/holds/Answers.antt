use Rattle.std.proofs.Common.{◌≡◌, ap, sym, ◌∙◌, nat_lt, rules}
use Rattle.std.specs.Prelude.{Some, Vec}
use Rattle.std.specs.Option.{option_map_or}
use Rattle.std.specs.declared.alloc.Global.{Global}
use Rattle.std.specs.BTreeMap.{get}
use Rattle.fb_values.specs.declared.facts.Value.{Value}
use Rattle.fb_numbers.specs.Numbers.{user_number}
use Rattle.fb_facts.specs.FactLists.{values_of}
use Rattle.tx_sweep.specs.Sweep.{pair_cmp}
use Rattle.tx_changes.proofs.KnownValues.{values_tell}
use Rattle.tx_changes.proofs.NewEntities.{new_holds_nothing}
use Rattle.tx_changes.proofs.learnt.holds.Goals as goal

pub returns-then-is_new : goal.returns-then-is_new
returns-then-is_new g c =
    let new = ap (λ n. nat_lt n (user_number c.args.asking.now.e)) (sym c.requires.issued) ∙ sym c.is_new.ensures ∙ c.if-is_new.true in
    sym
    (new_holds_nothing (g.F.Facts.history c.args.facts.now) c.args.asking.now.e c.args.asking.now.a c.args.asking.now.v
    c.new_users_have_no_facts.ensures.no_fact new)

pub returns-in-Some : goal.returns-in-Some
returns-in-Some g c =
    let h = g.F.Facts.history c.args.facts.now in
    let asking = c.args.asking.now in
    let got : get pair_cmp c.args.learnt.now (asking.e, asking.a) ≡ Some c.in-Some.values.now = search rules in
    let are : c.in-Some.values.now.items ≡ values_of h asking.e asking.a =
    sym (ap (λ o. option_map_or (λ (values : Vec Value Global). values.items) o (values_of h asking.e asking.a)) got)
    ∙ c.requires.known asking.e asking.a in
    c.contains.ensures.value
    ∙ values_tell c.the_lists_are_the_rising_ones.ensures h c.facts_are_what_holds.ensures asking.e asking.a asking.v
    c.deref.result.now (c.deref.ensures.value ∙ are)
