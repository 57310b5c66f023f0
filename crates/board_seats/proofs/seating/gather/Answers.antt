use Rattle.std.proofs.Common.{rules, ◌≡◌, ◌+◌, length, List, [], ◌∷◌, ◌++◌, map, ap, sym, ◌∙◌, arith, length-append}
use Rattle.std.proofs.lemmas.List.{map-append}
use Rattle.board_rule.specs.declared.seat.BoardSeat.{BoardSeat}
use Rattle.board_rule.specs.declared.view.Code.{Code}
use Rattle.board_rule.specs.declared.view.View.{View}
use Rattle.board_rule.specs.Calls.{view_of}
use Rattle.board_seats.proofs.Notes.{last_idle, others_idle, joined_once, still_seen, taken_on}
use Rattle.board_seats.proofs.seating.gather.Goals as goal

-- the seat of what was taken from the end is the last of the seats
popped : {T : Type 0} (f : T → BoardSeat) (all rest : List T) (x : T) (s : BoardSeat) → all ≡ rest ++ x ∷ [] → s ≡ f x
    → map f all ≡ map f rest ++ s ∷ []
popped f all rest x s e seat = ap (map f) e ∙ (map-append f rest (x ∷ []) ∙ ap (λ (z : BoardSeat). map f rest ++ z ∷ []) (sym seat))

pub step_join-requires-clause-seat : goal.step_join-requires-clause-seat
step_join-requires-clause-seat g c =
    let inv = c.loop-seat.invariant in let s = c.into_seat.result in
    let last =
    popped g.T.Seated.seat c.loop-seat.seats.items c.pop.new.self.items c.in-Some.seat s c.in-Some.ensures.items c.into_seat.ensures in
    (inv.0 ∙ c.requires.seat, (last_idle _ _ _ s last inv.3).0)

pub step_join-requires-clause-tickets : goal.step_join-requires-clause-tickets
step_join-requires-clause-tickets g c =
    let inv = c.loop-seat.invariant in let s = c.into_seat.result in
    let last =
    popped g.T.Seated.seat c.loop-seat.seats.items c.pop.new.self.items c.in-Some.seat s c.in-Some.ensures.items c.into_seat.ensures in
    (ap (λ (z : View Code). z.ticket) inv.1 ∙ c.requires.idle.0, (last_idle _ _ _ s last inv.3).1.0)

pub step_join-requires-clause-free : goal.step_join-requires-clause-free
step_join-requires-clause-free g c =
    let inv = c.loop-seat.invariant in let s = c.into_seat.result in
    let last =
    popped g.T.Seated.seat c.loop-seat.seats.items c.pop.new.self.items c.in-Some.seat s c.in-Some.ensures.items c.into_seat.ensures in
    (ap (λ (z : View Code). z.grab) inv.1 ∙ c.requires.idle.2, (last_idle _ _ _ s last inv.3).1.2)

pub loop-seat-preserved : goal.loop-seat-preserved
loop-seat-preserved g c =
    let inv = c.loop-seat.invariant in
    let f = g.T.Seated.seat in
    let all = c.loop-seat.seats.items in
    let rest = c.pop.new.self.items in
    let s = c.into_seat.result in
    let last = popped f all rest c.in-Some.seat s c.in-Some.ensures.items c.into_seat.ensures in
    let v : View Code = view_of c.args.first.now in
    let w : View Code = view_of c.loop-seat.first in
    let w' : View Code = view_of c.step_join.new.seat in
    let joins = c.step_join.ensures.both in
    let one : (view_of s).seats ≡ 1 = (last_idle _ _ _ s last inv.3).2 in
    let more : w'.seats ≡ w.seats + (view_of s).seats = ap (λ (z : View Code). z.seats) joins in (
      search rules,
      joined_once w (view_of s) w' joins v inv.1,
      omega (arith, ap (length {A = _}) c.in-Some.ensures.items, length-append rest (c.in-Some.seat ∷ [])),
      others_idle _ (map f all) (map f rest) s last inv.3,
      taken_on (map f rest) s w w' joins _ (map f all) last inv.4,
      still_seen w (view_of s) w' joins v.seen inv.5,
    )
