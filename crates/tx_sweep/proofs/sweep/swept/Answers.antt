use Rattle.std.proofs.Common.{List, sym, subst}
use Rattle.fb_values.specs.declared.facts.Datom.{Datom}
use Rattle.tx_asks.specs.Triples.{AreAskings}
use Rattle.tx_sweep.specs.Sweep.{acts_of}
use Rattle.tx_sweep.proofs.Forms.{swept_of_acts, swept_held}
use Rattle.tx_sweep.proofs.sweep.swept.Goals as goal

pub returns-clause-all : goal.returns-clause-all
returns-clause-all g c = λ tx db_is are.
    let h = g.F.Facts.history c.args.facts.now in
    subst (λ (lists : List (List Datom)). AreAskings lists c.in_ok-askings.field-0.askings.items)
    (sym (swept_of_acts h (acts_of c.args.forms.now) tx db_is are (λ ask. c.acts_ask_what_asks_do.ensures.swept tx.db tx.names ask)))
    c.in_ok-askings.ensures

pub returns-clause-held : goal.returns-clause-held
returns-clause-held g c =
    swept_held (g.F.Facts.history c.args.facts.now) c.args.forms.now c.in_ok-askings.field-0.askings.items c.facts_are_what_holds.ensures
    c.in_ok-askings.ensures
