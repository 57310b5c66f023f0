use Rattle.std.proofs.Common.{◌≡◌, ◌-◌, ◌∙◌, ap, length, Some, subst, sym}
use Rattle.std.specs.List.{slice_get}
use Rattle.fb_values.specs.declared.facts.Entry.{Entry}
use Rattle.fb_model.specs.Lawful.{IsLawfulAfter}
use Rattle.fb_core.specs.Cores.{last_of}
use Rattle.fb_core.proofs.Histories.{last_of-is, last_of-push}
use Rattle.fb_conn.proofs.supposing.Supposing.suppose.Goals as goal

-- the last entry of the value is the one that was decided on
pub record-requires : goal.record-requires
record-requires g c =
    let h = c.args.before.entries in let done = c.in-Ok.ensures.supposed in
    let all = c.entries-entries.result.now in let entry = c.at-entry.result.now in
    let read : slice_get all (length all - 1) ≡ Some entry = ap (λ n. slice_get all (n - 1)) (sym c.len.ensures) ∙ c.at-entry.ensures in
    let is : done.0 ≡ entry =
    sym (last_of-push h done.0) ∙ (ap last_of (sym done.1) ∙ (ap last_of (sym c.entries-entries.ensures.entries) ∙ last_of-is all entry read)) in
    (h, c.basis-basis.ensures.stands.history.lawful, subst (λ (e : Entry). IsLawfulAfter h e) is done.2)
