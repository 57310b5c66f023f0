use Rattle.std.proofs.Common.{[], append-nil, List, sym, subst}
use Rattle.std.proofs.lemmas.Result.{IfOk-weaker}
use Rattle.fb_values.specs.declared.facts.Datom.{Datom}
use Rattle.fb_values.specs.declared.indexes.Order.TheVariants.{Avet}
use Rattle.fb_values.specs.Lists.{list_in}
use Rattle.live_index.specs.Growth.{HasNoTwins, IsGrown}
use Rattle.fb_view.specs.InAvet.{IsInAvet}
use Rattle.fb_view.proofs.Alone.{none_held, single_alone, refilled_alone}
use Rattle.fb_view.proofs.sorting.in_avet.Goals as goal

pub made_anew-requires-clause-held : goal.made_anew-requires-clause-held
made_anew-requires-clause-held c = λ order. none_held c.args.covers.now order (list_in c.empty.result order) (c.empty.ensures order)

pub made_anew-requires-clause-single : goal.made_anew-requires-clause-single
made_anew-requires-clause-single c = λ order.
    single_alone (list_in c.empty.result order) c.args.datoms.now [] (c.empty.ensures order)
    (subst HasNoTwins (sym (append-nil c.args.datoms.now)) c.requires)

pub returns : goal.returns
returns c =
    IfOk-weaker c.copied.result _ _
    (λ list is.
    subst (IsInAvet c.args.covers.now c.args.datoms.now) (sym is)
    (refilled_alone c.args.covers.now c.args.datoms.now (list_in c.in_ok-index.index Avet)
    (subst (λ (old : List Datom). IsGrown Avet c.args.covers.now old c.args.datoms.now [] (list_in c.in_ok-index.index Avet))
    (c.empty.ensures Avet) (c.in_ok-index.ensures Avet))))
    c.copied.ensures
