use Rattle.std.proofs.Common.{rules, ◌≡◌, ◌<◌, ◌+◌, ℕ, List, [], ◌∷◌, ◌++◌, length, get_or, ap, sym, subst, ◌∙◌, arith, length-append}
use Rattle.std.proofs.lemmas.List.{get_or_append_left}
use Rattle.board_rule.specs.declared.view.Grab.TheVariants.{Free}
use Rattle.board_rule.specs.declared.view.Code.{Code}
use Rattle.board_rule.specs.declared.view.View.{View}
use Rattle.board_rule.specs.Views.{codes, history_of, tried_too, tried_down, IsTried}
use Rattle.board_rule.specs.Calls.{view_of}
use Rattle.board_rule.proofs.Tried.{tried_next, tried_all}
use Rattle.board_mail.proofs.mailing.put_each.Goals as goal

before : {A : Type 0} (l m : List A) (a d : A) (k : ℕ) → l ≡ m ++ a ∷ [] → k < length m → get_or l k d ≡ get_or m k d
before l m a d k e lt = ap (λ z. get_or z k d) e ∙ get_or_append_left m (a ∷ []) d k lt

inside : {A : Type 0} (l m : List A) (a : A) (k : ℕ) → l ≡ m ++ a ∷ [] → k < length m → k < length l
inside {A} l m a k e lt = omega (arith, ap (length {A = A}) e, length-append m (a ∷ []))

pub loop-session-init : goal.loop-session-init
loop-session-init g c =
    let v : View Code = view_of c.args.seat.now in
    let w : View Code = view_of c.try_put-left.new.seat in
    let first = c.try_put-left.ensures.tried in
    let popped = c.in-Some.ensures.items in
    let same : history_of v ≡ history_of w = sym (ap (λ (z : View Code). history_of z) first) in
    let free : w.grab ≡ Free = ap (λ (z : View Code). z.grab) first in
    let len : c.len-session.result ≡ length c.pop.new.self.items = search rules in (
      search rules,
      search rules,
      search rules,
      search rules,
      search rules,
      (λ k d lo lt. let within : k < length c.pop.new.self.items = omega (arith, len) in
          ap (λ s. codes g.row.H-Entry.coded.code (g.S.Named.entries s)) (sym (before _ _ _ d k popped within))
          ∙ (c.requires.whole k d (inside _ _ _ k popped within) ∙ same)),
      (λ i. record w { grab = free i }),
      ap (λ (z : ℕ). tried_down z w.tried) len,
    )

-- each session was tried, where the last one was tried first
all_tried : (n s len : ℕ) (v u w : View Code) → u.tried ≡ tried_too s v.tried → tried_down 0 w.tried ≡ tried_down len u.tried → s ≡ len
    → len + 1 ≡ n → w.tried ≡ tried_down n v.tried
all_tried n s len v u w first rest last one =
    rest ∙ (ap (tried_down len) (first ∙ ap (λ (z : ℕ). tried_too z v.tried) last)
    ∙ (sym (tried_next len v.tried) ∙ ap (λ (z : ℕ). tried_down z v.tried) one))

pub returns-clause-mailed : goal.returns-clause-mailed
returns-clause-mailed g c =
    let inv = c.loop-session.invariant in
    let n : ℕ = c.args.board.now.table.shared.key.sessions in
    let v : View Code = view_of c.args.seat.now in
    let u : View Code = view_of c.try_put-left.new.seat in
    let w : View Code = view_of c.loop-session.seat in
    let first = c.try_put-left.ensures.tried in
    let none_left : c.loop-session.session ≡ 0 = search rules in
    let last : c.len-session.result ≡ length c.loop-session.snapshots.items = search rules in
    let tried : w.tried ≡ tried_down n v.tried =
    all_tried n c.len-session.result (length c.loop-session.snapshots.items) v u w (ap (λ (z : View Code). z.tried) first)
    (sym (ap (λ (z : ℕ). tried_down z w.tried) none_left) ∙ inv.7) last inv.2 in
    inv.6 ∙ (ap (λ (z : View Code). record z { grab = Free; tried = w.tried; met = w.met }) first
    ∙ (λ i. record v { grab = Free; tried = tried i; met = w.met }))

pub returns-clause-tried : goal.returns-clause-tried
returns-clause-tried g c =
    let inv = c.loop-session.invariant in
    let n : ℕ = c.args.board.now.table.shared.key.sessions in
    let v : View Code = view_of c.args.seat.now in
    let u : View Code = view_of c.try_put-left.new.seat in
    let w : View Code = view_of c.loop-session.seat in
    let none_left : c.loop-session.session ≡ 0 = search rules in
    let last : c.len-session.result ≡ length c.loop-session.snapshots.items = search rules in
    let tried : w.tried ≡ tried_down n v.tried =
    all_tried n c.len-session.result (length c.loop-session.snapshots.items) v u w
    (ap (λ (z : View Code). z.tried) c.try_put-left.ensures.tried)
    (sym (ap (λ (z : ℕ). tried_down z w.tried) none_left) ∙ inv.7) last inv.2 in
    subst (IsTried n) (sym tried) (tried_all n v.tried)
