use Rattle.std.proofs.Common.{List, drop, sym, subst}
use Rattle.std.proofs.lemmas.Result.{err_from_is_err_and}
use Rattle.edn_model.specs.Steps.{Free, HasRoom}
use Rattle.edn_core.specs.Frames.{frames_of, Enters, RefusedAt}
use Rattle.edn_core.specs.declared.construct.Construct.TheVariants.{Set}
use Rattle.edn_core.specs.declared.construct.Frame.{Frame}
use Rattle.edn_core.proofs.Openings.{set_enters, grown_enters, refused_leads, deep_set, no_string_set}
use Rattle.edn_core.proofs.open.set.Goals as goal

pub returns-in_err-may_open : goal.returns-in_err-may_open
returns-in_err-may_open c bytes slot next is start after before kept =
    let at = c.args.at in
    let here = drop at bytes in
    let F = frames_of bytes c.args.frames.now.items in
    let e = c.in_err-may_open.field-0.0 in
    let p = err_from_is_err_and c.from_residual.result c.from_residual.ensures.1 in
    rw (p.1, p.2) (refused_leads bytes start at F e
    (subst (λ (xs : List Frame). RefusedAt at (frames_of bytes xs) e) c.as_slice.ensures.value (c.in_err-may_open.ensures.refused bytes))
    (no_string_set here (drop 2 here) is) (deep_set F here (drop 2 here) is) after before)

pub returns : goal.returns
returns c bytes slot next is start after before kept =
    let at = c.args.at in
    let old = c.args.frames.now.items in
    let may =
    subst (λ (xs : List Frame). Free (frames_of bytes xs) × HasRoom (frames_of bytes xs)) c.as_slice.ensures.value
    (c.in_ok-may_open.ensures.free bytes) in
    grown_enters bytes start at c.args.next old c.grow.new.items.items slot (Set c.new.result c.new-2.result) c.grow.result
    (subst (λ n. Enters bytes old (Set c.new.result c.new-2.result) at n) (sym next)
    (set_enters bytes old at c.new.result c.new-2.result c.new.ensures.items c.new-2.ensures is may.0 may.1))
    c.grow.ensures.ok c.grow.ensures.err after before kept
