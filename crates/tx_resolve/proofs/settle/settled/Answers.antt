use Rattle.std.proofs.Common.{◌≡◌, List, Vec, Global, length, map, filter_map, sym, ap, ◌∙◌}
use Rattle.std.proofs.lemmas.List.{with_items_is}
use Rattle.std.specs.Vec.{with_items}
use Rattle.tx_model.specs.Step.{first_refusal}
use Rattle.tx_resolve.specs.declared.drafts.Draft.{Draft}
use Rattle.tx_resolve.specs.declared.holders.Slot.{Slot}
use Rattle.tx_resolve.specs.Meeting.{drafts_in}
use Rattle.tx_resolve.specs.Holders.{slots_of}
use Rattle.tx_resolve.specs.Numbers.{numbered, act_of, with_entity}
use Rattle.tx_resolve.specs.Settled.{slots_in, rules_of}
use Rattle.tx_resolve.proofs.Keeping.{length-slots}
use Rattle.tx_resolve.proofs.settle.settled.Goals as goal

-- what the vector has once the slice that it lent has these slots
kept : (slots : Vec Slot Global) (lent new : List Slot) (forms fs : List (Vec Draft Global)) → lent ≡ slots.items → fs ≡ forms
    → new ≡ slots_of lent (drafts_in fs) → (with_items slots new).items ≡ slots_of slots.items (drafts_in forms)
kept slots lent new forms fs same seen is =
    let are : new ≡ slots_of slots.items (drafts_in forms) =
    is ∙ ap (λ l. slots_of l (drafts_in fs)) same ∙ ap (λ l. slots_of slots.items (drafts_in l)) seen in
    with_items_is slots new (ap length are ∙ length-slots slots.items (drafts_in forms) ∙ sym slots.ok.0) ∙ are

pub returns-in-Some-clause-refused : goal.returns-in-Some-clause-refused
returns-in-Some-clause-refused c =
    let met = c.args.met in
    let forms = c.args.forms.items in
    let slots : c.deref-2.result.now ≡ slots_in met forms =
    c.deref-2.ensures.value
    ∙ kept met.slots c.deref_mut.result.now c.keep_holders.new.slots forms c.deref.result.now c.deref_mut.ensures.value
    c.deref.ensures.value c.keep_holders.ensures in
    sym (c.in-Some.ensures
    ∙ ap (λ s. first_refusal (rules_of s c.deref-3.result.now)) slots
    ∙ ap (λ fs. first_refusal (rules_of (slots_in met forms) fs)) c.deref-3.ensures.value)

pub returns-clause-acts : goal.returns-clause-acts
returns-clause-acts c =
    let met = c.args.met in
    let forms = c.args.forms.items in
    let slots : c.deref-in-None.result.now ≡ slots_in met forms =
    c.deref-in-None.ensures.value
    ∙ kept met.slots c.deref_mut.result.now c.keep_holders.new.slots forms c.deref.result.now c.deref_mut.ensures.value
    c.deref.ensures.value c.keep_holders.ensures in
    c.in_ok-answer-in-None.ensures.acts
    ∙ ap (λ s. map (λ (form : Vec Draft Global). filter_map (act_of (numbered s c.args.users)) form.items) forms) slots

pub returns-clause-tempids : goal.returns-clause-tempids
returns-clause-tempids c =
    let met = c.args.met in
    let forms = c.args.forms.items in
    let slots : c.deref-in-None.result.now ≡ slots_in met forms =
    c.deref-in-None.ensures.value
    ∙ kept met.slots c.deref_mut.result.now c.keep_holders.new.slots forms c.deref.result.now c.deref_mut.ensures.value
    c.deref.ensures.value c.keep_holders.ensures in
    c.in_ok-answer-in-None.ensures.tempids
    ∙ ap (λ s. filter_map (with_entity (numbered s c.args.users)) met.named.entries) slots

pub returns-clause-unbroken : goal.returns-clause-unbroken
returns-clause-unbroken c =
    let met = c.args.met in
    let forms = c.args.forms.items in
    let slots : c.deref-2.result.now ≡ slots_in met forms =
    c.deref-2.ensures.value
    ∙ kept met.slots c.deref_mut.result.now c.keep_holders.new.slots forms c.deref.result.now c.deref_mut.ensures.value
    c.deref.ensures.value c.keep_holders.ensures in
    sym (c.in-None.ensures
    ∙ ap (λ s. first_refusal (rules_of s c.deref-3.result.now)) slots
    ∙ ap (λ fs. first_refusal (rules_of (slots_in met forms) fs)) c.deref-3.ensures.value)
