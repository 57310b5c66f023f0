use Rattle.std.proofs.Common.{◌≡◌, ◌∙◌, ap, arith, length}
use Rattle.fb_model.proofs.LawfulHistories.{IsLawful-length}
use Rattle.fb_view.proofs.snapshot.Snapshot.basis.Goals as goal

pub returns-clause-basis : goal.returns-clause-basis
returns-clause-basis c = let counted = IsLawful-length c.args.self.now.entries c.entries.ensures.stands.history.lawful in
    let len : c.len.result ≡ length c.args.self.now.entries = c.len.ensures ∙ ap length c.entries.ensures.entries in
    omega (arith, counted, len)
