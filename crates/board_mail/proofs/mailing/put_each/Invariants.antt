use Rattle.std.proofs.Common.{◌≡◌, ◌+◌, ◌<◌, ◌≤◌, length}
use Rattle.std.specs.Prelude.{vec_len, vec_capacity}
use Rattle.std.specs.List.{AllWithin}
use Rattle.board_rule.specs.declared.view.Grab.TheVariants.{Free}
use Rattle.board_rule.specs.declared.view.Code.{Code}
use Rattle.board_rule.specs.declared.view.View.{View}
use Rattle.board_rule.specs.Views.{codes, history_of, tried_down}
use Rattle.board_rule.specs.Calls.{view_of, board_of}
use Rattle.board_mail.proofs.mailing.put_each.Given as goal

abbrev pub decreases-loop-session : goal.decreases-loop-session
decreases-loop-session g l = l.session

abbrev pub invariant-loop-session : goal.invariant-loop-session
invariant-loop-session g l =
    (board_of l.seat ≡ board_of l.initial.seat) × (l.held ≡ l.initial.held)
    × (length l.snapshots.items + 1 ≡ l.board.table.shared.key.sessions)
    × (vec_len l.snapshots < vec_capacity l.snapshots)
    × (l.session ≤ length l.snapshots.items)
    × AllWithin (λ s. codes g.row.H-Entry.coded.code (g.S.Named.entries s) ≡ history_of (view_of l.initial.seat)) l.snapshots.items 0 l.session
    × (let v : View Code = view_of l.initial.seat in let w : View Code = view_of l.seat in
    w ≡ record v { grab = Free; tried = w.tried; met = w.met })
    × (tried_down l.session (view_of l.seat).tried ≡ tried_down (length l.snapshots.items) (view_of l.initial.seat).tried)
