use Rattle.std.proofs.Common.{◌∙◌, ◌++◌, ◌∷◌, []}
use Rattle.seg_store.proofs.loads.found_in.Goals as goal

pub loop-payload-preserved : goal.loop-payload-preserved
loop-payload-preserved g c =
    let follows = c.loop-payload.invariant.follows in
    let read = c.in_ok-find.ensures.record c.if-branch.true in
    let went = read.1 follows.records in record {
      faults = c.in_ok-find.ensures.counted ∙ c.loop-payload.invariant.faults;
      follows = record {
        records = follows.records ++ read.0 ∷ [];
        reads = λ disk has. went.0 disk (follows.reads disk has);
        has = went.1 c.args.wanted follows.has;
      };
    }

pub returns-clause-found : goal.returns-clause-found
returns-clause-found g c = λ disk has.
    let follows = c.loop-payload.invariant.follows in
    (follows.records, c.in_ok-find.ensures.end c.if-branch.false c.args.wanted disk follows.records (follows.reads disk has) follows.has)
