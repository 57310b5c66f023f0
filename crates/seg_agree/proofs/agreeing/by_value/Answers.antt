use Rattle.std.proofs.Common.{◌∙◌}
use Rattle.fb_values.specs.declared.indexes.Order.TheVariants.{Avet, Vaet}
use Rattle.fb_model.specs.History.{upto}
use Rattle.seg_agree.proofs.agreeing.by_value.Goals as goal

pub counted-requires : goal.counted-requires
counted-requires c = record {
  lawful = c.requires.lawful;
  within = c.requires.within;
  covers = λ a. c.covers.ensures Avet a
      ∙ c.schemas_tell_of_attributes.ensures.coverage c.in_ok-schema.schema (upto c.args.entries.now c.args.c) Avet a
      c.in_ok-schema.ensures;
}

pub counted-requires-then-branch : goal.counted-requires-then-branch
counted-requires-then-branch c = record {
  lawful = c.requires.lawful;
  within = c.requires.within;
  covers = λ a. c.covers-2.ensures Vaet a
      ∙ c.schemas_tell_of_attributes.ensures.coverage c.in_ok-schema.schema (upto c.args.entries.now c.args.c) Vaet a
      c.in_ok-schema.ensures;
}
