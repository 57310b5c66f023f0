use Rattle.std.proofs.Common.{◌≡◌, ℕ, List, [], Vec, Global, Option, None, flat_map, subst, sym, ap, ◌∙◌}
use Rattle.std.proofs.lemmas.Result.{IfOk-weaker, IfErr-weaker, err_from_is_err_and}
use Rattle.tx_model.specs.Tempids.{Db, db_of}
use Rattle.tx_asks.specs.declared.asks.Ask.{Ask}
use Rattle.tx_asks.specs.declared.asks.LookupRef.{LookupRef}
use Rattle.tx_asks.specs.Acts.{acts_in}
use Rattle.tx_resolve.specs.declared.drafts.Draft.{Draft}
use Rattle.tx_resolve.specs.declared.meeting.Met.{Met}
use Rattle.tx_resolve.specs.Whoms.{all_found}
use Rattle.tx_resolve.specs.Drafts.{AreFound, lost_at}
use Rattle.tx_resolve.specs.Rules.{StopsBy}
use Rattle.tx_resolve.specs.Meeting.{tempids_of, asks_in, met_with, AreMet}
use Rattle.tx_resolve.specs.Settled.{drafted_acts, told_names, lists_of}
use Rattle.tx_resolve.proofs.Bridge.{AskNothing, acts_are, told_is}
use Rattle.tx_resolve.proofs.Refusing.{seen_lists, lost_refused, rest_refused}
use Rattle.tx_resolve.proofs.resolving.resolve.Goals as goal

-- what was found and which forms were seen, behind the references that the calls took

sought_is : (db : Db) (found looked_up : List (Option ℕ)) (seen refs : List LookupRef) → found ≡ looked_up → looked_up ≡ all_found db seen
    → seen ≡ refs → found ≡ all_found db refs
sought_is db found looked_up seen refs same are is = same ∙ are ∙ ap (all_found db) is

met_is : (met : Met) (seen fs : List (Vec Ask Global)) → seen ≡ fs → AreMet met (met_with [] (flat_map tempids_of (asks_in seen)))
    → AreMet met (met_with [] (flat_map tempids_of (asks_in fs)))
met_is met seen fs is are = subst (λ forms. AreMet met (met_with [] (flat_map tempids_of (asks_in forms)))) is are

lost_is : (db : Db) (met : Met) (found looked_up : List (Option ℕ)) (seen fs : List (Vec Ask Global)) → found ≡ looked_up → seen ≡ fs
    → lost_at db found met seen ≡ lost_at db looked_up met fs
lost_is db met found looked_up seen fs sought is = ap (lost_at db found met) is ∙ ap (λ found. lost_at db found met fs) sought

none_is : (db : Db) (met : Met) (found looked_up : List (Option ℕ)) (seen fs : List (Vec Ask Global)) → found ≡ looked_up → seen ≡ fs
    → lost_at db found met seen ≡ None → None ≡ lost_at db looked_up met fs
none_is db met found looked_up seen fs sought is none = sym none ∙ lost_is db met found looked_up seen fs sought is

found_is : (db : Db) (met : Met) (found looked_up : List (Option ℕ)) (seen fs : List (Vec Ask Global)) (gs : List (Vec Draft Global))
    → found ≡ looked_up → seen ≡ fs → AreFound db found met seen gs → AreFound db looked_up met fs gs
found_is db met found looked_up seen fs gs sought is are =
    subst (λ found. AreFound db found met fs gs) sought (subst (λ forms. AreFound db found met forms gs) is are)

pub returns-in_err-drafts-clause-refused : goal.returns-in_err-drafts-clause-refused
returns-in_err-drafts-clause-refused g c =
    let laws = c.asks_that_ask_for_nothing.ensures in
    let nothing : AskNothing =
    record { names = laws.names; holders_are = laws.holders; assigned_are = laws.assigned; joined_are = laws.joined } in
    let db = db_of (g.F.Facts.history c.args.facts.now) in
    let flat = c.args.flat in
    let met = c.in_ok-met.met in
    let are_met = met_is met c.deref.result.now flat.forms.items c.deref.ensures.value c.in_ok-met.ensures in
    let refs = flat.lookups.items in
    let sought =
    sought_is db c.as_slice-2.result.now c.in_ok-found.found.items c.as_slice.result.now refs c.as_slice-2.ensures.value
    c.in_ok-found.ensures c.as_slice.ensures.value in
    let lost =
    lost_is db met c.as_slice-2.result.now (all_found db refs) c.deref-2.result.now flat.forms.items sought c.deref-2.ensures.value in
    let stop = c.in_err-drafts.field-0.0 in
    let p = err_from_is_err_and c.from_residual-in_err-drafts.result c.from_residual-in_err-drafts.ensures.1 in
    rw (p.1, p.2) (λ asks are.
    lost_refused nothing db flat asks are met are_met c.as_slice-2.result.now c.deref-2.result.now lost stop
    c.in_err-drafts.ensures.refused)

pub returns-clause-acts : goal.returns-clause-acts
returns-clause-acts g c =
    let laws = c.asks_that_ask_for_nothing.ensures in
    let nothing : AskNothing =
    record { names = laws.names; holders_are = laws.holders; assigned_are = laws.assigned; joined_are = laws.joined } in
    let db = db_of (g.F.Facts.history c.args.facts.now) in
    let flat = c.args.flat in
    let met = c.in_ok-met.met in
    let are_met = met_is met c.deref.result.now flat.forms.items c.deref.ensures.value c.in_ok-met.ensures in
    let refs = flat.lookups.items in
    let sought =
    sought_is db c.as_slice-2.result.now c.in_ok-found.found.items c.as_slice.result.now refs c.as_slice-2.ensures.value
    c.in_ok-found.ensures c.as_slice.ensures.value in
    let gs = c.in_ok-drafts.drafts.items in
    let found =
    found_is db met c.as_slice-2.result.now (all_found db refs) c.deref-2.result.now flat.forms.items gs sought c.deref-2.ensures.value
    c.in_ok-drafts.ensures.found in
    IfOk-weaker c.unless_lacking.result _ _
    (λ answer is asks are. acts_are nothing db flat asks are met are_met gs found (acts_in (lists_of answer.forms.items))
    (seen_lists answer.forms.items ∙ is ∙ ap (drafted_acts met gs) c.issued.ensures))
    c.unless_lacking.ensures.acts

pub returns-clause-tempids : goal.returns-clause-tempids
returns-clause-tempids g c =
    let laws = c.asks_that_ask_for_nothing.ensures in
    let nothing : AskNothing =
    record { names = laws.names; holders_are = laws.holders; assigned_are = laws.assigned; joined_are = laws.joined } in
    let db = db_of (g.F.Facts.history c.args.facts.now) in
    let flat = c.args.flat in
    let met = c.in_ok-met.met in
    let are_met = met_is met c.deref.result.now flat.forms.items c.deref.ensures.value c.in_ok-met.ensures in
    let refs = flat.lookups.items in
    let sought =
    sought_is db c.as_slice-2.result.now c.in_ok-found.found.items c.as_slice.result.now refs c.as_slice-2.ensures.value
    c.in_ok-found.ensures c.as_slice.ensures.value in
    let gs = c.in_ok-drafts.drafts.items in
    let found =
    found_is db met c.as_slice-2.result.now (all_found db refs) c.deref-2.result.now flat.forms.items gs sought c.deref-2.ensures.value
    c.in_ok-drafts.ensures.found in
    IfOk-weaker c.unless_lacking.result _ _
    (λ answer is asks are.
    is ∙ ap (λ users. told_names met gs users) c.issued.ensures ∙ told_is nothing db flat asks are met are_met gs found)
    c.unless_lacking.ensures.tempids

pub returns-clause-unbroken : goal.returns-clause-unbroken
returns-clause-unbroken g c =
    let laws = c.asks_that_ask_for_nothing.ensures in
    let nothing : AskNothing =
    record { names = laws.names; holders_are = laws.holders; assigned_are = laws.assigned; joined_are = laws.joined } in
    let db = db_of (g.F.Facts.history c.args.facts.now) in
    let flat = c.args.flat in
    let met = c.in_ok-met.met in
    let are_met = met_is met c.deref.result.now flat.forms.items c.deref.ensures.value c.in_ok-met.ensures in
    let refs = flat.lookups.items in
    let sought =
    sought_is db c.as_slice-2.result.now c.in_ok-found.found.items c.as_slice.result.now refs c.as_slice-2.ensures.value
    c.in_ok-found.ensures c.as_slice.ensures.value in
    let gs = c.in_ok-drafts.drafts.items in
    let found =
    found_is db met c.as_slice-2.result.now (all_found db refs) c.deref-2.result.now flat.forms.items gs sought c.deref-2.ensures.value
    c.in_ok-drafts.ensures.found in
    let none =
    none_is db met c.as_slice-2.result.now (all_found db refs) c.deref-2.result.now flat.forms.items sought c.deref-2.ensures.value
    c.in_ok-drafts.ensures.unbroken in
    IfOk-weaker c.unless_lacking.result _ _
    (λ answer is asks are. sym (rest_refused nothing db flat asks are met are_met gs found none) ∙ is)
    c.unless_lacking.ensures.unbroken

pub returns-clause-refused : goal.returns-clause-refused
returns-clause-refused g c =
    let laws = c.asks_that_ask_for_nothing.ensures in
    let nothing : AskNothing =
    record { names = laws.names; holders_are = laws.holders; assigned_are = laws.assigned; joined_are = laws.joined } in
    let db = db_of (g.F.Facts.history c.args.facts.now) in
    let flat = c.args.flat in
    let met = c.in_ok-met.met in
    let are_met = met_is met c.deref.result.now flat.forms.items c.deref.ensures.value c.in_ok-met.ensures in
    let refs = flat.lookups.items in
    let sought =
    sought_is db c.as_slice-2.result.now c.in_ok-found.found.items c.as_slice.result.now refs c.as_slice-2.ensures.value
    c.in_ok-found.ensures c.as_slice.ensures.value in
    let gs = c.in_ok-drafts.drafts.items in
    let found =
    found_is db met c.as_slice-2.result.now (all_found db refs) c.deref-2.result.now flat.forms.items gs sought c.deref-2.ensures.value
    c.in_ok-drafts.ensures.found in
    let none =
    none_is db met c.as_slice-2.result.now (all_found db refs) c.deref-2.result.now flat.forms.items sought c.deref-2.ensures.value
    c.in_ok-drafts.ensures.unbroken in
    IfErr-weaker c.unless_lacking.result _ _
    (λ stop told asks are. subst (λ o. StopsBy o stop) (rest_refused nothing db flat asks are met are_met gs found none) told)
    c.unless_lacking.ensures.refused
