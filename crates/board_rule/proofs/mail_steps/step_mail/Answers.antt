use Rattle.std.proofs.Common.{rules, ◌≡◌, ◌+◌, ◌-◌, ℕ, [], ◌∷◌, true, ap, sym, subst, ◌∙◌, arith}
use Rattle.atomic_table.specs.Table.{rest}
use Rattle.board_rule.specs.declared.board.SlotValue.TheVariants.{Mail}
use Rattle.board_rule.specs.declared.view.Code.{Code}
use Rattle.board_rule.specs.declared.view.Content.TheVariants.{InHand}
use Rattle.board_rule.specs.declared.view.Grab.{Grab}
use Rattle.board_rule.specs.declared.view.Grab.TheVariants.{Free, Grabbed, Found, Writing}
use Rattle.board_rule.specs.declared.view.View.{View}
use Rattle.board_rule.specs.Views.{MayMove, grab_rests, content_rests, content_of, refilled}
use Rattle.board_rule.specs.Calls.{view_of}
use Rattle.board_rule.proofs.Moving.{takes_mail_on, puts_mail_on}
use Rattle.board_rule.proofs.mail_steps.step_mail.Goals as goal

content_there : (number s : ℕ) (k : Grab Code) → MayMove number s k → grab_rests k ≡ true → content_rests (content_of k) ≡ true
content_there number s Free may e = absurd may
content_there number s Grabbed may e = absurd may
content_there number s (Found l c) may e = e
content_there number s (Writing r c) may e = e

may_still : (number s : ℕ) (k : Grab Code) → MayMove number s k → MayMove number s (refilled k InHand)
may_still number s Free may = may
may_still number s Grabbed may = may
may_still number s (Found l c) may = may
may_still number s (Writing r c) may = may

pub load-requires : goal.load-requires
load-requires g c =
    let v = ap (λ m. m.0) c.open-opened.ensures.2 in
    let old : View Code = view_of c.args.seat.now in
    let there = content_there old.number c.args.session old.grab c.requires.may c.args.seat.now.rests.1 in (
      search rules,
      search rules,
      takes_mail_on _ _ _ _ _ c.args.session c.open-opened.result.me
          (subst (λ z. MayMove z.number c.args.session z.grab) (sym v) c.requires.may)
          (ap (λ z. content_rests (content_of z.grab)) v ∙ there) (ap (λ m. m.1) c.open-opened.ensures.2),
    )

pub exchange-requires : goal.exchange-requires
exchange-requires g c =
    let t = c.load.ensures.2 in let back : c.args.session + 3 - 2 ≡ c.args.session + 1 = omega arith in (
      search rules,
      (
        Mail t.0,
        ap (λ m. m.1) t.1
            ∙ (ap (λ (k : ℕ). (k, Mail t.0) ∷ []) back ∙ ap (λ z. (c.args.session + 1, Mail t.0) ∷ z) (sym (ap (λ m. rest m.1) t.1))),
      ),
    )

pub load-requires-2 : goal.load-requires-2
load-requires-2 g c =
    let t = c.load.ensures.2 in
    let v = ap (λ m. m.0) c.open-opened.ensures.2 in
    let now = c.exchange.ensures.3 in
    let old : View Code = view_of c.args.seat.now in
    let w : View Code = record old { grab = refilled old.grab InHand } in
    let is : c.exchange.new.seat.me.0 ≡ w =
    ap (λ m. m.0) now
    ∙ (ap (λ m. m.0) t.1 ∙ ap (λ (z : View Code). let y : View Code = record z { grab = refilled z.grab InHand } in y) v) in
    let carries : c.exchange.new.seat.me.1 ≡ (c.args.session + 1, Mail c.args.put) ∷ [] =
    ap (λ m. m.1) now ∙ ap (λ z. (c.args.session + 1, Mail c.args.put) ∷ z) (ap (λ m. rest m.1) t.1) in (
      search rules,
      search rules,
      puts_mail_on _ _ _ _ _ c.args.session c.exchange.new.seat.me c.args.put carries
          (subst (λ (z : View Code). MayMove z.number c.args.session z.grab) (sym is)
          (may_still old.number c.args.session old.grab c.requires.may)),
    )
