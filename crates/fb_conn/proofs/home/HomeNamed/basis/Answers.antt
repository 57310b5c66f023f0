use Rattle.std.proofs.Common.{◌≡◌, ◌+◌, ◌∙◌, ap, sym, ℕ, length}
use Rattle.fb_values.specs.declared.facts.Entry.{Entry}
use Rattle.fb_model.proofs.LawfulHistories.{IsLawful-length}
use Rattle.fb_conn.proofs.home.HomeNamed.basis.Goals as goal

pub returns : goal.returns
returns g c =
    let same : c.deref.result.now ≡ c.args.self.now = c.deref.ensures ∙ c.self.view_is in
    ap (λ (n : ℕ). n + 1) c.basis.ensures.basis
    ∙ (sym (IsLawful-length c.deref.result.now.core.snapshot.entries c.basis.ensures.stands.snapshot.history.lawful)
    ∙ (λ i. length {A = Entry} (same i).core.snapshot.entries))
