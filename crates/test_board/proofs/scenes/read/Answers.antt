use Rattle.std.proofs.Common.{◌≡◌, ℕ, List, Result, Ok, Err, IfOk, ap, sym, ◌∙◌}
use base.Stored.{coded_ℕ}
use Rattle.fb_memory.specs.declared.Memory.{Memory}
use Rattle.board_rule.specs.declared.view.Code.{Code}
use Rattle.board_rule.specs.declared.view.View.{View}
use Rattle.board_rule.specs.Views.{codes, entries_in}
use Rattle.board_rule.specs.Calls.{view_of}
use Rattle.test_board.specs.declared.book.Page.{Page}
use Rattle.test_board.proofs.scenes.read.Goals as goal

seen_in : (r : Result Page Memory) (l : List ℕ) (seen : List Code) → IfOk r (λ p. p.entries.items ≡ l) → seen ≡ codes coded_ℕ.code l
    → IfOk r (λ p. seen ≡ codes coded_ℕ.code p.entries.items)
seen_in (Ok p) l seen copy all = all ∙ ap (codes coded_ℕ.code) (sym copy)
seen_in (Err e) l seen copy all = tt

pub returns-clause-seen : goal.returns-clause-seen
returns-clause-seen g c =
    let t = c.count.ensures.counted in let has = c.begin-held.ensures.book.0 in
    seen_in c.of-page.result c.as_slice.result.now (view_of c.end.new.seat).seen c.of-page.ensures
    (c.end.ensures.seen
    ∙ (ap (λ (z : View Code). z.seen) t.1 ∙ (t.4 (_, has) ∙ (ap entries_in has ∙ ap (codes coded_ℕ.code) (sym c.as_slice.ensures.value)))))
