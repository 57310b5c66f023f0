use Rattle.std.proofs.Common.{◌≡◌, ◌∙◌, ◌++◌, List, ap, sym, subst, append_assoc}
use Rattle.fb_values.specs.declared.facts.Entry.{Entry}
use Rattle.fb_model.specs.History.{basis, upto}
use Rattle.fb_conn.specs.declared.home.Kept.{Kept}
use Rattle.fb_conn.proofs.Histories.{begins_there}
use Rattle.fb_conn.proofs.conn.Conn.publish.Goals as goal

pub rebase_on-requires : goal.rebase_on-requires
rebase_on-requires g c =
    let h = c.enter-held.result.home.core.snapshot.entries in
    let last = c.args.seat.now.last.entries in let first = c.args.ahead.now.entries in
    let seen = (c.enter-held.ensures.learns last c.requires.seat.0.seen).seen in let past = c.requires.ahead in
    let begins : h ≡ first ++ (past.0 ++ seen.0) =
    seen.1 ∙ (ap (λ (l : List Entry). l ++ seen.0) past.1 ∙ append_assoc first past.0 seen.0) in
    record {
      begins =
          subst (λ (k : Kept _). upto k.core.snapshot.entries (basis first) ≡ first) (sym (ap (λ h. h.home) c.held.view_is))
          (begins_there h first (past.0 ++ seen.0) c.basis-basis.ensures.stands.history.lawful begins);
    }
