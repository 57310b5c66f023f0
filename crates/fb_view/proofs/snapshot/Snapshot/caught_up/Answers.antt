use Rattle.std.proofs.Common.{◌≡◌, ◌∙◌, ℕ, List, ap, arith, length, subst, sym, take}
use Rattle.fb_values.specs.declared.facts.Entry.{Entry}
use Rattle.fb_model.specs.History.{basis, upto}
use Rattle.fb_model.specs.Lawful.{IsLawful}
use Rattle.fb_model.proofs.LawfulHistories.{IsLawful-length}
use Rattle.fb_view.specs.declared.growth.Older.{Older}
use Rattle.fb_view.specs.SnapshotModel.{SnapshotModel, Stands, model_snapshot}
use Rattle.fb_view.proofs.Beginnings.{begins_within}
use Rattle.fb_view.proofs.snapshot.Snapshot.caught_up.Goals as goal

-- the beginning is as it was
own_begins : (h first own : List Entry) → own ≡ first → upto h (basis first) ≡ first → upto h (basis own) ≡ own
own_begins h first own same begins = subst (λ (l : List Entry). upto h (basis l) ≡ l) (sym same) begins

pub with_each-requires-clause-lawful : goal.with_each-requires-clause-lawful
with_each-requires-clause-lawful c =
    subst IsLawful (sym (c.in_ok-entries.ensures ∙ c.entries.ensures.entries)) c.entries.ensures.stands.history.lawful

pub with_each-requires-clause-from : goal.with_each-requires-clause-from
with_each-requires-clause-from c =
    let h = c.args.latest.now.entries in
    let own = c.parts.inside.entries in
    let same = ap (λ (k : SnapshotModel). k.entries) (c.parts.view_is ∙ c.parts-parts.ensures.parts) in
    let counted = IsLawful-length own c.parts.invariant.history.lawful in
    let within = begins_within h own c.parts.invariant.history.lawful (own_begins h c.args.self.now.entries own same c.requires.begins) in
    let listed = ap (λ (l : List Entry). length l) (c.in_ok-entries.ensures ∙ c.entries.ensures.entries) in
    (omega (arith, counted, c.len-from.ensures), omega (arith, counted, c.len-from.ensures, within, listed))

pub with_each-requires-clause-stands : goal.with_each-requires-clause-stands
with_each-requires-clause-stands c =
    let h = c.args.latest.now.entries in
    let own = c.parts.inside.entries in
    let same = ap (λ (k : SnapshotModel). k.entries) (c.parts.view_is ∙ c.parts-parts.ensures.parts) in
    let counted = IsLawful-length own c.parts.invariant.history.lawful in
    let first : take c.len-from.result c.in_ok-entries.entries ≡ own =
    ap (λ (n : ℕ). take n c.in_ok-entries.entries) (c.len-from.ensures ∙ counted)
    ∙ ap (λ (l : List Entry). upto l (basis own)) (c.in_ok-entries.ensures ∙ c.entries.ensures.entries)
    ∙ own_begins h c.args.self.now.entries own same c.requires.begins in
    subst (λ (o : Older). Stands (model_snapshot (take c.len-from.result c.in_ok-entries.entries) c.parts.inside.recent o))
    (sym (c.get.ensures ∙ c.in_ok-older.ensures))
    (subst (λ (l : List Entry). Stands (model_snapshot l c.parts.inside.recent c.parts.inside.older)) (sym first) c.parts.invariant)
