use Rattle.std.proofs.Common.{◌≡◌, ℕ, List, Some, sym, ◌∙◌, ap}
use Rattle.std.proofs.lemmas.Bool.Decides.{Decides-eqb}
use Rattle.std.proofs.lemmas.Slice.Eq.{slice_eq-Decides}
use Rattle.fb_journal.proofs.Framing.{record-same}
use Rattle.fb_journal.proofs.journals.Journal.has_laid.Goals as goal

pub returns-in-Some : goal.returns-in-Some
returns-in-Some g c = λ yes.
    let first : List ℕ = c.bytes.result.now in
    let second : List ℕ = c.bytes-in-Some.result.now in
    let same : first ≡ second = (slice_eq-Decides Decides-eqb first second c.eq.result c.eq.ensures).0 yes in
    c.in-Some.is ∙ ap Some (record-same c.in-Some.laid c.args.framed.now (sym c.bytes.ensures ∙ same ∙ c.bytes-in-Some.ensures))
