use Rattle.std.proofs.Common.{Option, subst}
use Rattle.std.specs.Prelude.{option_map}
use Rattle.fb_model.specs.Schema.{Attribute}
use Rattle.fb_pull.specs.Attributes.{put, HaveNames}
use Rattle.fb_pull.proofs.Named.{put_known}
use Rattle.fb_pull.proofs.names.put_attribute.Goals as goal

pub returns-in-Some : goal.returns-in-Some
returns-in-Some c = λ names has.
    put_known c.args.schema.now c.args.list.now.items c.put_named.new.list.items names c.args.a c.in-Some.attribute c.put_named.result
    c.in-Some.ensures has c.put_named.ensures.names (c.put_named.ensures.members c.args.schema.now)

pub returns-in-None : goal.returns-in-None
returns-in-None c = λ names has.
    subst (λ (o : Option Attribute). HaveNames c.args.schema.now c.args.list.now.items (put (option_map (λ a. a.name) o) names))
    c.in-None.ensures has
