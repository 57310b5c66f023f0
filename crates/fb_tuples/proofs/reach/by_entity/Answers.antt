-- The datoms of the attribute that have a value within the reach.
use Rattle.std.proofs.Common.{◌∙◌, sym, ap, subst, option_map, rules}
use Rattle.std.specs.Borrow.{Bor}
use Rattle.std.proofs.lemmas.Fn.{filter_same}
use Rattle.fb_values.specs.declared.facts.Datom.{Datom}
use Rattle.fb_db.specs.Seen.{window_of}
use Rattle.fb_tuples.specs.Lent.{datoms_lent}
use Rattle.fb_tuples.specs.Reached.{HasReached, is_reached}
use Rattle.fb_tuples.proofs.Parts.{map_kept}
use Rattle.fb_tuples.proofs.MemberScans.{reached_under}
use Rattle.fb_tuples.proofs.reach.by_entity.Goals as goal

pub returns : goal.returns
returns g c =
    let db = c.args.db.now in
    let selects = g.S.Selector.selects db.filter in
    let least = c.args.reach.least.now in
    let greatest = option_map (λ v. v.now) c.args.reach.greatest in
    let all = c.in_ok-found.found.items in
    let test = λ (d : Datom). is_reached least greatest d.v in
    let kept = filter_same _ (λ (d : Bor Datom). test d.now) _ (λ x b f' called. search rules) all c.retain.new.self.items c.retain.ensures.filtered in
    subst (HasReached db.snapshot.entries (window_of db) selects c.args.a least greatest)
    (sym (ap datoms_lent kept ∙ map_kept (λ (d : Bor Datom). d.now) test all))
    (reached_under db.snapshot.entries (window_of db) selects c.args.a least greatest (datoms_lent all) c.in_ok-found.ensures)
