use Rattle.std.proofs.Common.{◌∙◌, ◌++◌, List, take, ap, subst, sym, arith, append_assoc}
use Rattle.fb_values.specs.declared.facts.Datom.{Datom}
use Rattle.fb_model.specs.History.{said, upto}
use Rattle.fb_model.proofs.OneMoreEntry.{said-push}
use Rattle.fb_schema.specs.Described.{SchemaStands}
use Rattle.fb_view.proofs.Lists.{take-next}
use Rattle.fb_view.proofs.replaying.Replay.behind.Goals as goal

pub loop-t-preserved : goal.loop-t-preserved
loop-t-preserved c =
    let h = c.args.entries.now in
    let seen = take c.loop-t.t h in
    let entry = c.at.result.now in
    let was = c.loop-t.invariant in
    let next = take-next h c.loop-t.t entry c.at.ensures in
    let before = said (upto h c.args.c) in
    record {
      behind = omega (arith, was.behind);
      said =
          ap (λ (ds : List Datom). before ++ ds) c.in_ok-push.ensures.said
          ∙ sym (append_assoc before c.loop-t.replay.said.items entry.datoms)
          ∙ ap (λ (ds : List Datom). ds ++ entry.datoms) was.said
          ∙ sym (ap said next ∙ said-push seen entry);
      schema = subst (SchemaStands c.push.new.self.schema) (sym next) (c.in_ok-push.ensures.schema seen was.schema);
      gained = c.in_ok-push.ensures.gained seen c.args.schema.now was.schema was.gained;
    }

pub returns-clause-gained : goal.returns-clause-gained
returns-clause-gained c = λ a is. (c.keep_each_once.ensures a).0 (c.loop-t.invariant.gained a is)
