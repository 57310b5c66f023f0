use Rattle.std.proofs.Common.{◌∙◌, ap}
use Rattle.std.specs.List.{list_all}
use Rattle.fb_model.specs.History.{basis}
use Rattle.fb_model.specs.Laws as model
use Rattle.tx_laws.specs.Users.{is_known_datom}
use Rattle.tx_laws.proofs.Counting.{known, all_known-same}
use Rattle.tx_laws.proofs.numbers.has_known_numbers.Goals as goal

pub returns : goal.returns
returns c = λ h is.
    let latest = c.args.latest.now in
    let entry = c.args.entry.now in
    let ds = entry.datoms in
    let users =
    c.in_ok-users.ensures
    ∙ ap (λ l. model.users_behind l l latest.issued) c.as_slice-datoms.ensures
    ∙ ap (model.users_behind ds ds) is.issued in
    c.are_known.ensures
    ∙ ap (λ l. list_all (is_known_datom (known latest.basis entry.t c.in_ok-users.users)) l) c.as_slice-datoms.ensures
    ∙ ap (λ b. list_all (is_known_datom (known b entry.t c.in_ok-users.users)) ds) is.basis
    ∙ ap (λ u. list_all (is_known_datom (known (basis h) entry.t u)) ds) users
    ∙ all_known-same h entry ds
