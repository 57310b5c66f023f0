-- By where the start begins.
use Rattle.std.proofs.Common.{sym, subst, map, option_map, Option, rules}
use Rattle.std.proofs.lemmas.Result.{IfOk-weaker}
use Rattle.fb_db.specs.Seen.{window_of}
use Rattle.tuple_model.specs.Tuples.{Tuple}
use Rattle.fb_tuples.specs.Lent.{model_row}
use Rattle.fb_tuples.specs.Reached.{HasRange}
use Rattle.fb_tuples.proofs.Reaching.{begins}
use Rattle.fb_tuples.proofs.ranges.candidates.Goals as goal

pub returns-in-Some-Some : goal.returns-in-Some-Some
returns-in-Some-Some g c =
    let db = c.args.db.now in
    let start = option_map (λ b. b.now) c.args.start in
    let end = option_map (λ b. b.now) c.args.end in
    let bound = begins start c.in-Some-Some.least.now (search rules) in
    IfOk-weaker c.behind.result _ _ (λ rows has.
    subst (λ (o : Option Tuple). HasRange db.snapshot.entries (window_of db) (g.S.Selector.selects db.filter) c.args.attrs.now o end (map model_row rows.items))
    (sym bound.1) has)
    (c.behind.ensures bound.0 bound.2 (search rules))

pub returns-in_default : goal.returns-in_default
returns-in_default g c =
    IfOk-weaker c.all_rows.result _ _
    (λ rows all. all (option_map (λ b. b.now) c.args.start) (option_map (λ b. b.now) c.args.end)) c.all_rows.ensures
