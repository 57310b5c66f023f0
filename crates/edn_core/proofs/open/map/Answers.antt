use Rattle.std.proofs.Common.{List, drop, refl, sym, subst, None}
use Rattle.std.proofs.lemmas.Result.{err_from_is_err_and}
use Rattle.edn_model.specs.Bytes.{open_brace}
use Rattle.edn_model.specs.Steps.{Free, HasRoom}
use Rattle.edn_core.specs.Frames.{frames_of, Enters, RefusedAt}
use Rattle.edn_core.specs.declared.construct.Construct.TheVariants.{Map}
use Rattle.edn_core.specs.declared.construct.Frame.{Frame}
use Rattle.edn_core.proofs.Openings.{map_enters, grown_enters, refused_leads, deep_opening, no_string_brace}
use Rattle.edn_core.proofs.open.map.Goals as goal

pub returns-in_err-may_open : goal.returns-in_err-may_open
returns-in_err-may_open c bytes slot next is start after before kept =
    let at = c.args.at in
    let here = drop at bytes in
    let F = frames_of bytes c.args.frames.now.items in
    let e = c.in_err-may_open.field-0.0 in
    let p = err_from_is_err_and c.from_residual.result c.from_residual.ensures.1 in
    rw (p.1, p.2) (refused_leads bytes start at F e
    (subst (λ (xs : List Frame). RefusedAt at (frames_of bytes xs) e) c.as_slice.ensures.value (c.in_err-may_open.ensures.refused bytes))
    (no_string_brace here (drop 1 here) is) (deep_opening F here (drop 1 here) open_brace is refl) after before)

pub returns-in_err-pairs : goal.returns-in_err-pairs
returns-in_err-pairs c bytes slot next is start after before kept =
    let p = err_from_is_err_and c.from_residual-in_err-pairs.result c.from_residual-in_err-pairs.ensures.1 in
    rw (p.1, p.2) tt

pub returns : goal.returns
returns c bytes slot next is start after before kept =
    let at = c.args.at in
    let old = c.args.frames.now.items in
    let may =
    subst (λ (xs : List Frame). Free (frames_of bytes xs) × HasRoom (frames_of bytes xs)) c.as_slice.ensures.value
    (c.in_ok-may_open.ensures.free bytes) in
    grown_enters bytes start at c.args.next old c.grow.new.items.items slot (Map c.in_ok-pairs.pairs None c.new.result) c.grow.result
    (subst (λ n. Enters bytes old (Map c.in_ok-pairs.pairs None c.new.result) at n) (sym next)
    (map_enters bytes old at c.in_ok-pairs.pairs c.new.result c.in_ok-pairs.ensures c.new.ensures is may.0 may.1))
    c.grow.ensures.ok c.grow.ensures.err after before kept
