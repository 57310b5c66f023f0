use Rattle.std.proofs.Common.{cond, eqb, ap, ◌∙◌}
use Rattle.std.specs.Ordering.{is_eq}
use Rattle.shared_map.specs.Entries.{put}
use Rattle.fb_schema.specs.Naming.{is_name_of, name_cmp}
use Rattle.fb_schema.proofs.Names.{name-put}
use Rattle.fb_schema.proofs.idents.Names.with_name.Goals as goal

pub returns : goal.returns
returns c = λ other k.
    let name = c.args.name.now in
    let same = is_eq (name_cmp name other) in
    ap (λ n. is_name_of n other k)
    (c.in_ok-by_name.ensures ∙ ap (λ n. put name_cmp (n, c.in_ok-entities.entities) c.self.inside.by_name) c.in_ok-text.ensures)
    ∙ name-put c.self.inside.by_name name c.in_ok-entities.entities other k
    ∙ ap (λ b. cond same b (is_name_of c.self.inside.by_name other k))
    (c.in_ok-entities.ensures k ∙ ap (cond (eqb c.args.e k) c.args.is_named) (c.in_ok-known.ensures k))
    ∙ ap (λ n. cond same (cond (eqb c.args.e k) c.args.is_named (is_name_of c.args.self.now name k)) (is_name_of n other k)) c.self.view_is
