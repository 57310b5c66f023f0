use Rattle.std.proofs.Common.{◌≡◌, ◌∙◌, ◌++◌, List, sym, ap, subst}
use Rattle.std.specs.Prelude.{filter}
use Rattle.fb_values.specs.declared.facts.Datom.{Datom}
use Rattle.fb_values.specs.Rising.{IsRising}
use Rattle.fb_values.proofs.Rising.{rising_from}
use Rattle.fb_model.specs.Rising.{in_order}
use Rattle.fb_model.proofs.Members.{in_order-rises}
use Rattle.live_index.specs.declared.ranked.Ranked.{Ranked}
use Rattle.live_index.specs.Growth.{is_held}
use Rattle.live_index.specs.Ranks.{AreInOrder, AreRanked, datoms_of, span_of}
use Rattle.live_index.specs.Splits.{AreSplit}
use Rattle.live_index.proofs.Growing.{both_ok}
use Rattle.live_index.proofs.splitting.halves_of.Goals as goal

pub returns : goal.returns
returns c =
    let order = c.args.order in
    let table = c.args.table.now in
    let p = is_held c.args.covers.now order in
    let coming = filter p (span_of table c.args.coming) in
    let own = filter p (span_of table c.args.own) in
    let all = c.in_ok-all-2.all.items in
    let all_is : datoms_of all ≡ own ++ coming =
    c.in_ok-all-2.ensures.datoms
    ∙ ap (λ (l : List Datom). l ++ coming)
    (c.in_ok-all.ensures.datoms ∙ ap (λ (l : List Ranked). datoms_of l ++ own) c.new.ensures.items) in
    let given : datoms_of c.deref.result.now ≡ in_order order (datoms_of all) =
    ap (λ (l : List Ranked). datoms_of l) c.deref.ensures.value
    ∙ c.in_ok-rising.ensures.datoms table c.requires.single c.in_ok-all-2.ensures.ranked in
    let are : AreInOrder order table c.deref.result.now =
    record {
      ranked = subst (AreRanked order table) (sym c.deref.ensures.value) (c.in_ok-rising.ensures.ranked table c.in_ok-all-2.ensures.ranked);
      rising = subst (IsRising order) (sym given) (rising_from order (in_order order (datoms_of all)) (in_order-rises order (datoms_of all)));
    } in
    both_ok c.runs_of.result _ _ _ (λ new is also.
    subst (λ (l : List Datom). AreSplit order table l new) (given ∙ ap (in_order order) all_is) (is order table c.requires.single are))
    c.runs_of.ensures c.runs_of.ensures
