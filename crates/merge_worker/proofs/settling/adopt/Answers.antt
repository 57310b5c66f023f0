use Rattle.std.proofs.Common.{◌≡◌, ◌∙◌, List, ap, sym}
use Rattle.fb_values.specs.declared.facts.Entry.{Entry}
use Rattle.fb_model.specs.History.{basis}
use Rattle.fb_view.specs.SnapshotModel.{SnapshotModel}
use Rattle.fb_core.specs.declared.shared.CoreParts.{CoreParts}
use Rattle.fb_core.specs.Cores.{live_datoms}
use Rattle.merge_worker.proofs.Whole.{nothing_is_live}
use Rattle.merge_worker.proofs.settling.adopt.Goals as goal

pub returns-clause-merged : goal.returns-clause-merged
returns-clause-merged g c =
    let now = c.in_ok-rebased.rebased.snapshot in let made = c.in_ok-rebased.ensures in
    let adopted : c.adopt.new.self.snapshot ≡ now = ap (λ (core : CoreParts). core.snapshot) c.adopt.ensures.core in
    let of_begin : now.covered ≡ basis c.args.core.now.snapshot.entries =
    made.covered ∙ ap (λ (k : SnapshotModel). basis k.entries) c.snapshot-begin.ensures.snapshot in
    let whole : now.covered ≡ basis now.entries = of_begin ∙ ap (λ (h : List Entry). basis h) (sym made.rebase.entries) in
    ap (λ (k : SnapshotModel). live_datoms k.live) adopted ∙ nothing_is_live now made.rebase.stands whole
