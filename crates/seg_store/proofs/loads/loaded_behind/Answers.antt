use Rattle.std.proofs.Common.{◌∙◌, Vec, ap, sym, subst}
use Rattle.std.specs.declared.alloc.Global.{Global}
use Rattle.std.proofs.lemmas.Result.{IfOk-weaker}
use Rattle.log_model.specs.Nodes.{ids_in, is_among}
use Rattle.disk_model.specs.Journal.{segments_mark}
use Rattle.seg_store.specs.declared.loads.KeptTrees.{KeptTrees}
use Rattle.seg_store.specs.Loads.{AreKept}
use Rattle.seg_codec.specs.declared.wanted.Wanted.TheVariants.{Every}
use Rattle.log_model.specs.Kept.{nodes_of}
use Rattle.seg_store.proofs.Holding.{held_ids_in}
use Rattle.seg_store.proofs.Loading.{all_kept, loaded_on, loaded_anew}
use Rattle.seg_store.proofs.loads.loaded_behind.Goals as goal

pub finish-journal-requires : goal.finish-journal-requires
finish-journal-requires g c =
    (segments_mark, c.requires.0, c.requires.1, (c.requires.2.good c.if-not-good.false).1)

pub invariant_of-store : goal.invariant_of-store
invariant_of-store g c =
    record { marked = (c.finish-journal.ensures.keeps segments_mark c.requires.0 c.requires.1 (c.requires.2.good c.if-not-good.false).1).1 }

pub returns-in-Ok-clause-loaded : goal.returns-in-Ok-clause-loaded
returns-in-Ok-clause-loaded g c = λ disk records all.
    let d = g.D.Disk in
    let good = all.good c.if-not-good.false in
    loaded_on d.bytes d.images (d.bytes disk) records _ all.records_are (all_kept records _ all.kept)
    (record {
      journal = (c.finish-journal.ensures.keeps segments_mark disk records good.1).0;
      good = good.0;
      ids = λ id. ap (λ ids. is_among ids id) (c.in-Ok.ensures ∙ ap ids_in all.nodes ∙ held_ids_in Every (nodes_of records));
    })

pub returns-then-not-good-clause-loaded : goal.returns-then-not-good-clause-loaded
returns-then-not-good-clause-loaded g c =
    let d = g.D.Disk in
    IfOk-weaker c.anew.result _ _
    (λ loaded is. λ disk records all.
    loaded_anew d.bytes d.images (d.bytes disk) records loaded all.records_are
    (subst (λ (kept : Vec KeptTrees Global). AreKept records kept.items) (sym is.1) (all_kept records _ all.kept)) (all.faulty c.if-not-good.true) is.0)
    c.anew.ensures.anew
