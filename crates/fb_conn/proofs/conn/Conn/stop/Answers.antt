use Rattle.std.proofs.Common.{◌≡◌, ◌∙◌, ℕ, [], ◌∷◌, ◌++◌, ap, sym, subst, refl}
use Rattle.fb_model.specs.History.{basis}
use Rattle.fb_model.proofs.LawfulHistories.{IsLawful-length}
use Rattle.fb_view.specs.SnapshotModel.{SnapshotModel}
use Rattle.fb_core.specs.Cores.{entry_of}
use Rattle.fb_core.proofs.Histories.{next_basis}
use Rattle.fb_desk.specs.declared.answers.TxFault.TheVariants.{LogFault}
use Rattle.fb_conn.specs.declared.home.Kept.{Kept}
use Rattle.fb_conn.specs.Homes.{IsSoundHome}
use Rattle.fb_conn.proofs.conn.Conn.stop.Goals as goal

pub end_seen-requires-clause-sound : goal.end_seen-requires-clause-sound
end_seen-requires-clause-sound g c =
    let h = c.args.held.home.core.snapshot.entries in let draft = c.args.draft in let own = c.requires.draft in
    let at : c.basis-at.result ≡ basis draft.after.entries =
    c.basis-at.ensures.basis ∙ ap (λ (k : SnapshotModel). basis k.entries) c.after.ensures in
    let next = next_basis h (entry_of draft) own.next ∙ sym (IsLawful-length h c.requires.stands.snapshot.history.lawful) in
    let by = own.authors ∙ ap (λ (n : ℕ). c.args.held.home.core.authors ++ n ∷ []) (sym c.number-author.ensures) in
    subst (λ (k : Kept _). IsSoundHome g.L.Log.keeps g.L.Log.broke k) (sym c.stop_at.ensures)
    ((at ∙ (ap basis own.entries ∙ next), (draft, refl, own.entries, own.next, c.requires.broke)), by)

pub returns-clause-fault : goal.returns-clause-fault
returns-clause-fault g c =
    let draft = c.args.draft in
    let at : c.basis-at.result ≡ basis draft.after.entries =
    c.basis-at.ensures.basis ∙ ap (λ (k : SnapshotModel). basis k.entries) c.after.ensures in (
      c.args.before.two,
      ap (λ (n : ℕ). LogFault n c.args.before.two) at,
      ap (λ (k : SnapshotModel). k.entries) (c.args.before.same ∙ c.requires.before),
    )
