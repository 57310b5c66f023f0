use Rattle.std.proofs.Common.{◌≡◌, ◌<◌, ◌++◌, take}
use Rattle.fb_model.specs.History.{said, upto}
use Rattle.fb_schema.specs.Described.{SchemaStands}
use Rattle.fb_view.specs.Refills.{HasGained}
use Rattle.fb_view.proofs.replaying.Replay.behind.Given as goal

abbrev pub invariant-loop-t : goal.invariant-loop-t
invariant-loop-t l = record {
  behind : l.c < l.t;
  said : said (upto l.entries l.c) ++ l.replay.said.items ≡ said (take l.t l.entries);
  schema : SchemaStands l.replay.schema (take l.t l.entries);
  gained : HasGained l.schema l.replay.schema l.replay.gained.items;
}
