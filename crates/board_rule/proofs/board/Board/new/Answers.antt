use Rattle.std.proofs.Common.{rules, ◌≡◌, ◌+◌, ◌∷◌, map, length, ap, sym, subst, ◌∙◌, refl, arith, Some}
use lib.ListN.{length-map}
use Rattle.board_rule.specs.declared.board.SlotValue.TheVariants.{Core}
use Rattle.board_rule.specs.Views.{IsLawful, code, codes}
use Rattle.board_rule.specs.Board.{mailed_as}
use Rattle.board_rule.proofs.Lifetime.{starts_on, of_all}
use Rattle.board_rule.proofs.board.Board.new.Goals as goal

pub new-requires : goal.new-requires
new-requires g c =
    let h = c.of.result.value in
    let is : h ≡ c.args.home = c.of.ensures in
    let f = g.row.H-Entry.coded.code in
    let ms = c.into_vec-mailed.result.items in
    let mails : ms ≡ c.args.mailed = c.into_vec-mailed.ensures in
    let entries = ap g.H.Named.entries is in
    let long = length-map (g.H.Named.entries h) (code f) in
    let basis = c.requires.history.0 in
    let basis' : c.args.basis + 1 ≡ length (g.H.Named.entries h) = basis ∙ ap (length {A = g.row.H-Entry.Denot}) (sym entries) in
    let range = c.ranges.basis in
    starts_on _ _ _ h ms c.as_slice.result.now c.lay_slots-slots.result.items (search rules)
    (c.lay_slots-slots.ensures ∙ ap (λ z. Core (Some z) ∷ map mailed_as ms) (sym is)) (search rules)
    (λ k s e. ap (codes f) (of_all (λ s. g.S.Named.entries s ≡ g.H.Named.entries c.args.home) ms
    (subst (λ z. Rattle.std.specs.List.All (λ s. g.S.Named.entries s ≡ g.H.Named.entries c.args.home) z) (sym mails) c.requires.mailed.0) k
    s e ∙ sym entries))
    (omega arith) (omega arith) (
      g.H.Named.entries h,
      refl,
      subst (λ z. IsLawful g.H.Named.follows (g.H.Named.entries z)) (sym is) c.requires.history.1,
    ) (ap g.H.Named.authors is ∙ c.requires.home.0)
    (ap (λ z. (g.H.Named.marks z).stop) is ∙ c.requires.home.1) (subst g.H.Named.sound (sym is) c.requires.home.2, refl)
