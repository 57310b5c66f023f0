use Rattle.std.proofs.Common.{◌≡◌, Bor, List, map, sym, subst, ap, ◌∙◌, nat_le, nat_lt, ◌&&◌}
use Rattle.std.specs.Prelude.{IsTrue, OnOk}
use Rattle.edn_model.specs.Form.{Form}
use Rattle.fb_values.specs.declared.facts.Entry.{Entry}
use Rattle.fb_model.specs.History.{basis}
use Rattle.view_model.specs.Scan.{transactions}
use Rattle.talk_model.specs.Replies.{transactions_reply, IsLineOf}
use Rattle.fb_replies.specs.Texts.{have_texts, entries_have_texts}
use Rattle.fb_reads.proofs.Scanned.{all_kept}
use Rattle.fb_reads.proofs.scans.write_log.Goals as goal

pub write_transactions-requires : goal.write_transactions-requires
write_transactions-requires c =
    let h = c.args.snapshot.now.entries in
    let range = c.args.range in
    let lent : map (λ (entry : Bor Entry). entry.now) c.deref.result.now ≡ transactions h range.start range.stop =
    ap (map (λ (entry : Bor Entry). entry.now)) c.deref.ensures.value ∙ c.in_ok-entries.ensures ∙ c.tx_range.ensures in
    subst (λ (es : List Entry). IsTrue (entries_have_texts es)) (sym lent)
    (all_kept (λ (entry : Entry). have_texts entry.datoms)
    (λ entry. nat_le 1 entry.t && nat_le range.start entry.t && nat_lt entry.t range.stop) h
    (c.what_is_said_has_a_text.ensures.entries h h c.schema.ensures.stands.history.lawful (λ entry member. member)))

pub returns : goal.returns
returns c =
    let h = c.args.snapshot.now.entries in
    let range = c.args.range in
    let lent : map (λ (entry : Bor Entry). entry.now) c.deref.result.now ≡ transactions h range.start range.stop =
    ap (map (λ (entry : Bor Entry). entry.now)) c.deref.ensures.value ∙ c.in_ok-entries.ensures ∙ c.tx_range.ensures in
    subst (λ (f : Form). OnOk c.write_transactions.result (IsLineOf f c.write_transactions.new.line.items))
    ((λ i. transactions_reply (c.basis.ensures.basis i) (c.schema.ensures.schema i) (lent i))
    ∙ c.a_schema_tells_its_history.ensures.transactions (basis h) c.args.snapshot.now.schema h
    (transactions h range.start range.stop) c.schema.ensures.stands.schema_is)
    c.write_transactions.ensures
