use Rattle.std.proofs.Common.{rules, ◌≡◌, List, [], ◌∷◌, ◌++◌, length, ap, sym, subst, ◌∙◌, arith}
use lib.ListN.{length-map}
use Rattle.board_rule.specs.declared.view.Code.{Code}
use Rattle.board_rule.specs.declared.view.View.{View}
use Rattle.board_rule.specs.Views.{HasTurn, history_of, authors_of, code, codes, IsLawful}
use Rattle.board_rule.specs.Calls.{view_of}
use Rattle.board_rule.proofs.Codes.{codes_inj, codes_snoc, lawful_snoc}
use Rattle.board_rule.proofs.Holding.{commits_on}
use Rattle.board_rule.proofs.steps.store_count.Goals as goal

pub store-requires : goal.store-requires
store-requires g c =
    let v = ap (λ m. m.0) c.open-opened.ensures.2 in
    let p = c.requires.picked in
    let entry = c.requires.entry in
    let l = entry.0 in
    let e = entry.1 in
    let f = g.row.H-Entry.coded.code in
    let follows = g.H.Named.follows in let all = g.H.Named.entries c.args._home.now in let old : View Code = view_of c.args.seat.now in
    let as_codes : codes f all ≡ history_of old ++ code f e ∷ [] =
    ap (codes f) entry.3 ∙ (codes_snoc f l e ∙ ap (λ (z : List Code). z ++ code f e ∷ []) entry.2) in
    let es : g.B.PickedHistory.entries ≡ history_of c.open-opened.result.me.0 ++ code f e ∷ [] =
    p.0 ∙ (as_codes ∙ ap (λ z. history_of z ++ code f e ∷ []) (sym v)) in
    let who : g.B.PickedHistory.authors ≡ authors_of c.open-opened.result.me.0 ++ c.open-opened.result.me.0.number ∷ [] =
    p.1 ∙ (c.requires.author ∙ ap (λ z. authors_of z ++ z.number ∷ []) (sym v)) in
    let long : length g.B.PickedHistory.entries ≡ length all = ap (length {A = Code}) p.0 ∙ length-map all (code f) in
    let basis = c.requires.basis in let range = c.ranges.basis in (
      search rules,
      search rules,
      commits_on _ _ _ _ _ c.open-opened.result.me g.B.PickedHistory.entries g.B.PickedHistory.authors c.args.basis (code f e)
          (subst HasTurn (sym v) c.requires.turn.0) (ap (λ z. z.core) v ∙ c.requires.turn.1) es who
          (λ was. let same = codes_inj g.row.H-Entry.coded was.0 l (sym was.1 ∙ (ap (λ z. history_of z) v ∙ sym entry.2)) in
          (all, p.0, subst (IsLawful follows) (sym entry.3) (lawful_snoc follows l e (subst (IsLawful follows) same was.2) entry.4)))
          (omega arith) (omega arith),
    )
