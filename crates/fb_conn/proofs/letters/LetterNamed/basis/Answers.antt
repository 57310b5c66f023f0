use Rattle.std.proofs.Common.{◌+◌, ◌∙◌, ap, sym, ℕ}
use Rattle.fb_model.proofs.LawfulHistories.{IsLawful-length}
use Rattle.fb_conn.proofs.letters.LetterNamed.basis.Goals as goal

pub returns : goal.returns
returns c =
    ap (λ (n : ℕ). n + 1) c.basis.ensures.basis ∙ sym (IsLawful-length c.args.self.now.one.entries c.basis.ensures.stands.history.lawful)
