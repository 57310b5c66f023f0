use Rattle.std.proofs.Common.{ap, sym, ◌∙◌, subst}
use Rattle.std.proofs.lemmas.Result.{IfOk-weaker}
use Rattle.tx_model.specs.Transaction.{Transaction}
use Rattle.tx_asks.specs.Triples.{AreTriples}
use Rattle.tx_changes.proofs.Recordings.{changes_are}
use Rattle.tx_changes.proofs.recording.changes.Goals as goal

pub returns : goal.returns
returns c =
    IfOk-weaker c.changes_of.result _ _
    (λ changes of tx built are t_is. of
    ∙ changes_are tx.db tx.asks tx.names c.args.triples.now
    (subst (λ (t : Transaction). AreTriples t c.args.triples.now) built are) c.args.t t_is
    ∙ sym (ap (λ (t : Transaction). t.changes) built))
    c.changes_of.ensures
