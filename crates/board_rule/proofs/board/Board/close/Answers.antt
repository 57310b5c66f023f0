use Rattle.std.proofs.Common.{◌≡◌, ◌+◌, ◌<◌, false, get_or, ap, sym, subst, ◌∙◌, Some, arith}
use Rattle.std.proofs.lemmas.List.{get_or-set_other}
use Rattle.std.specs.Slots.{slots_filled}
use mathlib.Core.Option.{some-injective}
use Rattle.board_rule.specs.Seat.{first_of}
use Rattle.board_rule.specs.Views.{IsLawful, IsWhole, codes}
use Rattle.board_rule.proofs.Codes.{lawful_inj}
use Rattle.board_rule.proofs.Lifetime.{ends_on}
use Rattle.board_rule.proofs.board.Board.close.Goals as goal

pub core_of-home-requires : goal.core_of-home-requires
core_of-home-requires g c =
    let u = sym (ap first_of c.into_seat.ensures.2) in
    let e =
    ends_on _ _ _ _ c.into_seat.result.me.0 _ _
    (ap (λ z. z.number) u ∙ c.requires.first) (subst (λ z. z.seats ≡ z.given + 1) (sym u) c.requires.all)
    (ap (λ z. z.ticket) u ∙ c.requires.free) c.close_with-closed.ensures.values.2 in
    (e.0, some-injective _ _ (sym c.take.ensures.value ∙ e.1))

pub returns : goal.returns
returns g c =
    let u = sym (ap first_of c.into_seat.ensures.2) in let f = g.row.H-Entry.coded.code in let home = c.core_of-home.result in
    let e =
    ends_on _ _ _ _ c.into_seat.result.me.0 _ _
    (ap (λ z. z.number) u ∙ c.requires.first) (subst (λ z. z.seats ≡ z.given + 1) (sym u) c.requires.all)
    (ap (λ z. z.ticket) u ∙ c.requires.free) c.close_with-closed.ensures.values.2 in
    let there = some-injective _ _ (sym c.take.ensures.value ∙ e.1) in
    let same : Some e.0 ≡ Some home = cc (there, c.core_of-home.ensures) in
    let is : e.0 ≡ home = cc same in
    record {
      lawful =
          subst (λ h. IsLawful g.H.Named.follows (g.H.Named.entries h)) is
          (lawful_inj g.row.H-Entry.coded g.H.Named.follows (g.H.Named.entries e.0) e.2);
      sound = subst g.H.Named.sound is e.3.0;
      origin = sym (ap g.H.Named.origin is) ∙ e.3.1;
      whole =
          subst (IsWhole (codes f (g.H.Named.entries home)) (g.H.Named.authors home) (g.H.Named.marks home)) u
          (subst (λ h. IsWhole (codes f (g.H.Named.entries h)) (g.H.Named.authors h) (g.H.Named.marks h) c.into_seat.result.me.0) is e.4);
    }

-- every slot is full but slot 0, which was taken
pub clear-requires-clause-full : goal.clear-requires-clause-full
clear-requires-clause-full g c k at_least within =
    let t = c.take.ensures.others in let before = c.close_with-closed.result.slots in
    ap (λ l. get_or l k false) t.1
    ∙ get_or-set_other (slots_filled before) 0 k false false (omega arith)
    ∙ c.close_with-closed.ensures.values.1 k (omega arith) (subst (λ n. k < n) t.2 within)
