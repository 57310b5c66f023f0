use Rattle.std.specs.List.{AllByRecursion}
use Rattle.std.proofs.Common.{◌≡◌, ◌<◌, inl, inr, ◌∙◌, ℕ, ◌+◌, List, [], length, ap, sym, subst, arith}
use lib.ListN.{length-map}
use Rattle.fb_values.specs.contracts.facts.Entry as an_entry
use Rattle.fb_model.specs.History.{basis}
use Rattle.fb_model.proofs.LawfulHistories.{IsLawful-length}
use Rattle.board_rule.specs.declared.seat.BoardSeat.{BoardSeat}
use Rattle.board_rule.specs.declared.view.Code.{Code}
use Rattle.board_rule.specs.declared.view.Marks.{Marks}
use Rattle.board_rule.specs.declared.view.View.{View}
use Rattle.board_rule.specs.Views.{worker, StartsWith, code, codes, commits_of, IsIdle, IsWhole}
use Rattle.board_rule.specs.Calls.{view_of, board_of}
use Rattle.board_rule.proofs.Codes.{starts_inj}
use Rattle.board_seats.specs.Seating.{HasSeen}
use Rattle.fb_conn.specs.declared.home.Kept.{Kept}
use Rattle.fb_conn.specs.Homes.{code_of}
use Rattle.fb_conn.specs.Seats.{board_in, state_of}
use Rattle.fb_conn.specs.Closing.{IsTakenIn}
use Rattle.fb_conn.proofs.Places.{made_of, made_at}
use Rattle.fb_conn.proofs.Taking.{behind_is_from, all_below, no_other_commits, stop_taken}
use Rattle.fb_conn.proofs.conn.Conn.close.Goals as goal

pub gather-requires-clause-seats : goal.gather-requires-clause-seats
gather-requires-clause-seats g c = λ k s at.
    let made = made_of board_in c.args.seats.items k s at in let rest = (c.requires.seats k made.0 made.1).0 in
    subst (λ (b : BoardSeat). (board_of b ≡ c.args.self.board.table.shared.table_id) × IsIdle (view_of b) × ((view_of b).seats ≡ 1))
    (sym made.2) (rest.on, rest.idle, rest.alone)

pub returns-clause-each_t : goal.returns-clause-each_t
returns-clause-each_t g c =
    let same : c.into_inner-core.result ≡ c.close-home.result = c.into_inner-core.ensures ∙ c.home.view_is in
    let home = c.close-home.result in let whole = c.close-home.ensures.whole in let h = home.core.snapshot.entries in
    let start = ap (λ (z : View Code). z.start) c.gather.ensures.gathered in
    let count = IsLawful-length h c.snapshot-latest.ensures.stands.snapshot.history.lawful in
    subst (λ (k : Kept _). (view_of c.args.worker.board).start + length k.core.authors ≡ basis k.core.snapshot.entries) (sym same)
    (omega (arith, start, whole.counted, length-map h (code code_of), count))

pub returns-clause-by_sessions : goal.returns-clause-by_sessions
returns-clause-by_sessions g c =
    let same : c.into_inner-core.result ≡ c.close-home.result = c.into_inner-core.ensures ∙ c.home.view_is in
    let whole = c.close-home.ensures.whole in
    let gathered = c.gather.ensures.gathered in
    let first : View Code = view_of c.gather.new.first in
    let own = c.requires.worker.0 in
    let who = c.close-home.result.core.authors in let n = length c.args.seats.items in
    let given : first.given ≡ n = ap (λ (z : View Code). z.given) gathered ∙ c.requires.worker.1 in
    let number : first.number ≡ worker = ap (λ (z : View Code). z.number) gathered ∙ own.1 in
    let none : first.commits ≡ [] = ap (λ (z : View Code). z.commits) gathered ∙ own.2 in
    subst (λ (k : Kept _). AllByRecursion (λ (author : ℕ). author < n) k.core.authors) (sym same)
    (all_below n (first.start + 1) who
    (no_other_commits n (first.start + 1) who (λ z past ne. whole.unwritten z (omega (arith, given, past)) ne)
    (ap (λ (m : ℕ). commits_of m (first.start + 1) who) (sym number) ∙ (sym whole.commits ∙ none))))

-- what the view had seen, or had seen as a seat was joined to it, the closed history begins with
own_seen : (l es : List Code) (who : List ℕ) (m : Marks) (w : View Code) → IsWhole es who m w → HasSeen l w → StartsWith es l
own_seen l es who m w whole (inl is) = subst (StartsWith es) is whole.seen
own_seen l es who m w whole (inr h) = subst (StartsWith es) h.3 (whole.joined_seen h.0 h.1 h.2).1

pub returns-clause-last : goal.returns-clause-last
returns-clause-last g c =
    let same : c.into_inner-core.result ≡ c.close-home.result = c.into_inner-core.ensures ∙ c.home.view_is in
    let home = c.close-home.result in let h = home.core.snapshot.entries in let last = c.args.worker.last.entries in
    let begins =
    own_seen _ (codes code_of h) home.core.authors _ (view_of c.gather.new.first) c.close-home.ensures.whole c.gather.ensures.own in
    subst (λ (k : Kept _). StartsWith k.core.snapshot.entries last) (sym same)
    (starts_inj an_entry.the_row.coded h last (subst (StartsWith (codes code_of h)) c.requires.worker.0.0.seen begins))

pub returns-clause-taken : goal.returns-clause-taken
returns-clause-taken g c = λ k seat at.
    let same : c.into_inner-core.result ≡ c.close-home.result = c.into_inner-core.ensures ∙ c.home.view_is in
    let whole = c.close-home.ensures.whole in
    let home = c.close-home.result in
    let h = home.core.snapshot.entries in
    let who = home.core.authors in
    let first : View Code = view_of c.gather.new.first in
    let v : View Code = view_of c.args.worker.board in
    let u : View Code = view_of seat.board in
    let rest = c.requires.seats k seat at in
    let noted = c.gather.ensures.noted k seat.board (made_at board_in c.args.seats.items k seat at) in
    let i = noted.0 in let p = noted.1 in let there = noted.2 in let is = noted.3 in
    let start : first.start ≡ v.start = ap (λ (z : View Code). z.start) c.gather.ensures.gathered in
    let begins =
    starts_inj an_entry.the_row.coded h seat.last.entries
    (subst (StartsWith (codes code_of h)) (is.seen ∙ rest.0.seen) (whole.joined_seen i p there).0) in
    subst (λ (h : Kept _). IsTakenIn h.core v.start h.stop k (state_of seat)) (sym same)
    (record {
      more = begins.0;
      entries = begins.1;
      commits =
          sym is.commits ∙ (whole.joined i p there ∙ (ap (λ (m : ℕ). commits_of m (first.start + 1) who) (is.number ∙ rest.1)
          ∙ (ap (λ (s : ℕ). commits_of k (s + 1) who) start ∙ behind_is_from k v.start who)));
      stop = stop_taken u.stop u.number k home.stop rest.1 (λ q told. whole.joined_stop i p q there (is.stop ∙ told));
    })
