-- A tuple that is not whole is shared by nobody.
use Rattle.std.proofs.Common.{◌≡◌, ◌∙◌, ap, sym, false, rules}
use Rattle.tuple_model.specs.UniqueTuples.{is_whole}
use Rattle.fb_tuple_guard.specs.Sharing.{facts_after}
use Rattle.fb_tuple_guard.proofs.Found.{none_shares}
use Rattle.fb_tuple_guard.proofs.sharing.is_shared.Goals as goal

pub returns-then-not-is_whole : goal.returns-then-not-is_whole
returns-then-not-is_whole c =
    let held = facts_after c.args.tuples.now in
    let no : c.is_whole.result ≡ false = search rules in
    sym (none_shares held c.args.tuples.now.attrs.now c.args.e
    (sym (c.is_whole.ensures ∙ ap is_whole (c.deref.ensures.value ∙ c.in_ok-tuple.ensures)) ∙ no) held)
