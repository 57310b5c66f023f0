use Rattle.std.proofs.Common.{◌≡◌, rules, sym, ap, ◌∙◌, subst, max, ◌++◌}
use Rattle.fb_model.specs.History.{basis, said, users_issued, users_in}
use Rattle.fb_model.proofs.OneMoreEntry.{basis-push, last_instant-push, said-push, users_issued-push}
use Rattle.held_facts.specs.FactMaps.{HasFacts}
use Rattle.held_facts.proofs.held.Held.add.Goals as goal

pub invariant_of-result : goal.invariant_of-result
invariant_of-result c =
    let h = c.self.inside.entries in
    let entry = c.args.entry in
    let kept = c.follow_all.new.kept in
    let ds = c.as_slice-datoms.result.now in
    let same : ds ≡ entry.datoms = c.as_slice-datoms.ensures in
    let is = c.in_ok-entries.ensures in
    let all : said h ++ ds ≡ said c.in_ok-entries.entries = ap (λ l. said h ++ l) same ∙ sym (ap said is ∙ said-push h entry) in (
      sym (ap basis is ∙ basis-push h entry),
      rw (is, last_instant-push h entry) (search rules),
      c.greatest_user-users.ensures
          ∙ ap (λ n. max n (users_in ds)) c.self.invariant.2
          ∙ ap (λ l. max (users_issued h) (users_in l)) same
          ∙ sym (ap users_issued is ∙ users_issued-push h entry),
      subst (λ l. HasFacts l kept) all (c.in_ok-follow_all.ensures (said h) c.self.invariant.3),
    )
