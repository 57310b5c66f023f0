use Rattle.std.proofs.Common.{◌∙◌, max, ap, sym, rules}
use Rattle.fb_model.specs.History.{users_in}
use Rattle.fb_model.proofs.OneMoreEntry.{basis-push, last_instant-push, users_issued-push}
use Rattle.tx_laws.proofs.latest.Latest.with.Goals as goal

pub returns : goal.returns
returns c = λ h is.
    let entry = c.args.entry.now in
    record {
      basis = sym (basis-push h entry);
      instant = rw (last_instant-push h entry) (search rules);
      issued =
          c.greatest_user.ensures
          ∙ ap (λ ds. max c.args.self.now.issued (users_in ds)) c.as_slice.ensures
          ∙ ap (λ n. max n (users_in entry.datoms)) is.issued
          ∙ sym (users_issued-push h entry);
    }
