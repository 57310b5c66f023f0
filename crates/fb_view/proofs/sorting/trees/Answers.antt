use Rattle.std.proofs.Common.{◌≡◌, ◌∙◌, [], List, ap, sym, subst}
use Rattle.fb_values.specs.declared.facts.Datom.{Datom}
use Rattle.fb_values.specs.declared.indexes.Order.{Order}
use Rattle.fb_values.specs.declared.indexes.Order.TheVariants.{Eavt, Aevt, Avet, Vaet}
use Rattle.fb_values.specs.Lists.{Lists, list_in}
use Rattle.live_index.specs.Growth.{IsGrown}
use Rattle.seg_tree.specs.Indexes.{trees_of}
use Rattle.fb_view.proofs.sorting.trees.Goals as goal

-- copies of the four lists, as trees hold them
held_as : (lists held : Lists) (eavt aevt avet vaet : List Datom)
    → held ≡ record { eavt = eavt; aevt = aevt; avet = avet; vaet = vaet }
    → eavt ≡ lists.eavt → aevt ≡ lists.aevt → avet ≡ lists.avet → vaet ≡ lists.vaet
    → (order : Order) → list_in lists order ≡ list_in held order
held_as lists held eavt aevt avet vaet are e a v r Eavt = sym (ap (λ (l : Lists). l.eavt) are ∙ e)
held_as lists held eavt aevt avet vaet are e a v r Aevt = sym (ap (λ (l : Lists). l.aevt) are ∙ a)
held_as lists held eavt aevt avet vaet are e a v r Avet = sym (ap (λ (l : Lists). l.avet) are ∙ v)
held_as lists held eavt aevt avet vaet are e a v r Vaet = sym (ap (λ (l : Lists). l.vaet) are ∙ r)

pub returns-clause-grown : goal.returns-clause-grown
returns-clause-grown c = λ order.
    subst (λ (list : List Datom). IsGrown order c.args.covers.now [] [] c.args.datoms.now list)
    (held_as c.in_ok-index.index (trees_of c.in_ok-of.field-0) c.in_ok-eavt.eavt.items c.in_ok-aevt.aevt.items
    c.in_ok-avet.avet.items c.in_ok-vaet.vaet.items c.in_ok-of.ensures.lists c.in_ok-eavt.ensures c.in_ok-aevt.ensures
    c.in_ok-avet.ensures c.in_ok-vaet.ensures order)
    (c.in_ok-index.ensures order)
