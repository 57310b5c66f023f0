use Rattle.std.proofs.Common.{◌≡◌, Some, None, sym, ◌∙◌}
use Rattle.shared_map.specs.Entries.{get}
use Rattle.fb_values.specs.declared.facts.Value.TheVariants.{Keyword}
use Rattle.fb_numbers.specs.Numbers.{ident}
use Rattle.fb_schema.specs.Naming.{name_cmp}
use Rattle.fb_schema.proofs.Names.{least-holder, holder-none, found-entities, no-entities}
use Rattle.fb_schema.proofs.idents.Names.entity.Goals as goal

pub returns-in-Some : goal.returns-in-Some
returns-in-Some c = λ facts has.
    let name = c.args.ident.now in
    let entities = c.in-Some.entities.now in
    let found : get name_cmp c.args.self.now name ≡ Some entities = rw (← c.self.view_is) (sym c.in-Some.ensures) in
    c.least.ensures.least
    ∙ least-holder entities facts ident (Keyword name) c.least.ensures.rising
    (λ e. sym (found-entities c.args.self.now name entities e found) ∙ has name e)

pub returns-in-None : goal.returns-in-None
returns-in-None c = λ facts has.
    let name = c.args.ident.now in
    let none : get name_cmp c.args.self.now name ≡ None = rw (← c.self.view_is) (sym c.in-None.ensures) in
    sym (holder-none facts ident (Keyword name) (λ e. sym (has name e) ∙ no-entities c.args.self.now name e none))
