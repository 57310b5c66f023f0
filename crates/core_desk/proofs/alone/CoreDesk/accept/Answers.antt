use Rattle.std.proofs.Common.{◌≡◌, ◌∙◌, ◌+◌, ℕ, List, [], ◌∷◌, ◌++◌, sym, ap, subst}
use Rattle.fb_model.specs.History.{basis}
use Rattle.fb_core.specs.declared.shared.CoreParts.{CoreParts}
use Rattle.fb_core.specs.Cores.{CoreStands, entry_of}
use Rattle.fb_core.proofs.Histories.{next_basis}
use Rattle.core_desk.specs.Alone.{IsAlone}
use Rattle.core_desk.proofs.Writing.{with_draft, one_more}
use Rattle.core_desk.proofs.alone.CoreDesk.accept.Goals as goal

pub invariant_of-self-clause-alone : goal.invariant_of-self-clause-alone
invariant_of-self-clause-alone c =
    let desk = c.args.self.now in
    let draft = c.args.draft in
    let own = c.requires.draft in
    let last : basis draft.after.entries ≡ basis desk.core.snapshot.entries + 1 =
    ap basis own.entries ∙ next_basis desk.core.snapshot.entries (entry_of draft) own.next in
    let core : c.accept.new.self ≡ with_draft draft =
    cc (c.accept.ensures.core, c.take_tempids-tempids.ensures.after, c.take_tempids-tempids.ensures.authors) in
    let t : c.basis-t.result ≡ basis draft.after.entries =
    c.basis-t.ensures.basis ∙ ap (λ (parts : CoreParts). basis parts.snapshot.entries) core in
    let stands : CoreStands (with_draft draft) = subst CoreStands core c.basis-t.ensures.stands in
    let commits : c.push_reserved.new.self.items ≡ desk.commits.items ++ basis draft.after.entries ∷ [] =
    c.push_reserved.ensures.items ∙ ap (λ (n : ℕ). desk.commits.items ++ n ∷ []) t in
    subst (λ (parts : CoreParts). IsAlone parts c.push_reserved.new.self.items) (sym core)
    (subst (λ (ts : List ℕ). IsAlone (with_draft draft) ts) (sym commits)
    (one_more desk.core draft desk.commits.items stands last own desk.alone))
