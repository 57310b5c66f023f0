use Rattle.std.proofs.lemmas.Result.{on_ok_weaker}
use Rattle.fb_journal.proofs.windows.Window.show.Goals as goal

pub returns-clause-shown : goal.returns-clause-shown
returns-clause-shown g c =
    on_ok_weaker c.move_to.result
    (λ shown. λ file told shows. shown file told shows c.args.n c.requires.within c.requires.room) c.move_to.ensures.shown
