use Rattle.std.proofs.Common.{rules, ◌≡◌, ◌∙◌, ◌+◌, ℕ, length, ap, subst, arith}
use Rattle.fb_values.specs.declared.facts.Entry.{Entry}
use Rattle.fb_model.specs.History.{basis}
use Rattle.fb_model.specs.Lawful.{IsLawful}
use Rattle.fb_model.proofs.LawfulHistories.{IsLawful-length}
use Rattle.fb_view.specs.SnapshotModel.{SnapshotModel}
use Rattle.fb_core.specs.declared.shared.CoreParts.{CoreParts}
use Rattle.fb_core.specs.Cores.{entry_of}
use Rattle.board_rule.specs.Calls.{view_of}
use Rattle.fb_conn.specs.declared.home.Kept.{Kept}
use Rattle.fb_conn.specs.Homes.{marks_of, marks_by}
use Rattle.fb_conn.proofs.Histories.{follows_lawful}
use Rattle.fb_conn.proofs.Turning.{holds, is_committed}
use Rattle.fb_conn.proofs.conn.Conn.commit.Goals as goal

pub add-replaced-requires-clause-entry : goal.add-replaced-requires-clause-entry
add-replaced-requires-clause-entry g c =
    let h = c.args.held.home.core.snapshot.entries in let entry = entry_of c.args.draft in let own = c.requires.draft in
    let grown =
    ap (λ (p : CoreParts). p.snapshot.entries) c.accept-before.ensures.core
    ∙ (ap (λ (k : SnapshotModel). k.entries) c.take_tempids-tempids.ensures.after ∙ own.entries) in
    (h, entry, holds _ _ _ c.requires.turn, grown, follows_lawful h entry (subst IsLawful own.entries own.stands.history.lawful) own.next)

pub returns-clause-receipt : goal.returns-clause-receipt
returns-clause-receipt g c =
    record {
      t = c.basis-t.ensures.basis ∙ ap (λ (k : SnapshotModel). basis k.entries) c.requires.after;
      instant = search rules;
      tempids = search rules;
      snapshot = c.args.after.same ∙ c.requires.after;
    }

pub returns-clause-view : goal.returns-clause-view
returns-clause-view g c =
    let own = c.requires.draft in let draft = c.args.draft in let home = c.args.held.home in
    let same : c.deref_mut.result.now ≡ home = c.deref_mut.ensures.value ∙ ap (λ h. h.home) c.held.view_is in
    let grown : c.accept-before.new.self.snapshot.entries ≡ draft.after.entries =
    ap (λ (p : CoreParts). p.snapshot.entries) c.accept-before.ensures.core
    ∙ ap (λ (k : SnapshotModel). k.entries) c.take_tempids-tempids.ensures.after in
    let covered : c.accept-before.new.self.snapshot.covered ≡ home.core.snapshot.covered =
    ap (λ (p : CoreParts). p.snapshot.covered) c.accept-before.ensures.core
    ∙ (ap (λ (k : SnapshotModel). k.covered) c.take_tempids-tempids.ensures.after ∙ own.covered) in
    let t : c.basis-t.result ≡ basis draft.after.entries =
    c.basis-t.ensures.basis ∙ ap (λ (k : SnapshotModel). basis k.entries) c.requires.after in
    let count = IsLawful-length draft.after.entries own.stands.history.lawful in let adds = c.add-replaced.ensures.gained in
    let u : ℕ = adds.0 in let at : u + 1 ≡ length c.accept-before.new.self.snapshot.entries = adds.1 in
    is_committed (view_of c.args.seat.now.board) (view_of c.add-replaced.new.seat)
    (view_of c.end.new.seat) draft.after.entries c.accept-before.new.self.snapshot.entries c.accept-before.new.self.authors
    c.args.self.now.board.table.shared.key.sessions c.basis-t.result u (marks_of home) _
    c.end.ensures.left adds.2 grown (ap (λ h. marks_of h.home) c.add-replaced.ensures.held
    ∙ (ap (λ (k : Kept _). marks_by k.stop c.accept-before.new.self.snapshot.covered) same ∙ ap (marks_by home.stop) covered))
    (omega (arith, at, ap (length {A = Entry}) grown, count, t))
