use Rattle.std.proofs.Common.{◌≡◌, ◌∙◌, ℕ, ◌<◌, inl, inr, length, Some, refl, sym, subst, arith}
use Rattle.std.specs.List.{slice_get}
use Rattle.std.proofs.lemmas.List.{length-set}
use Rattle.std.proofs.lemmas.Option.{slice_get_read}
use Rattle.fb_conn.specs.declared.seats.Seat.{Seat}
use Rattle.test_conn.specs.Seated.{IsSession}
use Rattle.test_conn.proofs.Places.{set_there}
use Rattle.test_conn.proofs.runs.ask_at.Goals as goal

pub returns : goal.returns
returns g c =
    let all = c.requires in let conn = c.args.conn.now in let seats = c.args.seats.now in let who = c.args.turn.who in
    let old = c.in-Some.seat.now in let new = c.ask.new.seat in
    let few = c.in-Some.ensures.variant.0 refl in let within : who < length seats.items = omega (arith, few, seats.ok) in
    let was : slice_get seats.items who ≡ Some old =
    slice_get_read seats.items (length seats.items) who old refl within c.in-Some.ensures.value in let own = all.1 who old was in (
      length-set seats.items who new ∙ all.0,
      λ k seat at.
          elim (set_there seats.items who k new seat at) [
            | inl here ↦
                subst (λ (s : Seat). IsSession conn k s) here.1 (c.ask.ensures k (subst (λ (n : ℕ). IsSession conn n old) (sym here.0) own))
            | inr there ↦ all.1 k seat there
          ],
    )
