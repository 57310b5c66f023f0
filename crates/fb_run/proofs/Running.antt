-- What the closed database and the sessions that ran leave: one history, and what each session did in it.
use Rattle.std.proofs.Common.{◌≡◌, ℕ, ◌+◌, ◌<◌, ◌≤◌, ◌⊎◌, inl, inr, List, [], ◌∷◌, ◌++◌, map, length, length-append, Option, Some, None}
use Rattle.std.proofs.Common.{refl, sym, ap, ◌∙◌, subst, arith}
use Rattle.std.proofs.lemmas.Option.{get_or_from_slice_get, slice_get_within}
use Rattle.std.proofs.lemmas.List.{append_assoc}
use Rattle.std.proofs.Math.Seq.{take-append_seam}
use Rattle.std.specs.Prelude.{◌==◌, fold, take, option_map, slice_get, slice_index_or, IfSome, IsSome, unwrap_or}
use Rattle.std.specs.List.{AllByRecursion}
use Rattle.std.specs.List.Sorted.{IsStrictlyIncreasing}
use lib.ListN.{length-map}
use Rattle.fb_values.specs.declared.facts.Entry.{Entry}
use Rattle.fb_model.specs.History.{basis, upto}
use Rattle.fb_model.specs.Lawful.{IsLawful, IsLawfulAfter}
use Rattle.fb_model.proofs.LawfulHistories.{IsLawful-length}
use Rattle.fb_model.proofs.Times.{next_t}
use Rattle.fb_core.specs.Worlds.{commits_behind}
use Rattle.fb_view.specs.SnapshotModel.{SnapshotModel}
use Rattle.fb_desk.specs.Desks.{State, as_opened}
use Rattle.fb_conn.specs.declared.conn.Conn.{Conn}
use Rattle.fb_conn.specs.declared.seats.Seat.{Seat}
use Rattle.fb_conn.specs.declared.home.Stop.{Stop}
use Rattle.fb_conn.specs.Homes.{GoesWithLog, IsTornBy}
use Rattle.fb_conn.specs.Seats.{IsSeatOf, IsWorkerOf, state_of}
use Rattle.fb_core.specs.declared.shared.CoreParts.{CoreParts}
use Rattle.fb_core.specs.declared.accepting.Draft.{Draft}
use Rattle.fb_core.specs.Cores.{CoreStands, entry_of}
use Rattle.disk_log.specs.declared.logs.DiskLog.{DiskLog}
use Rattle.disk_log.specs.Disks.{HasKept, HasBroken}
use Rattle.disk_log.specs.Logs.{disk_in, count_in, KeepsHistory, BrokeAt}
use Rattle.board_rule.specs.Calls.{view_of}
use Rattle.fb_conn.specs.Closing.{at_of, is_author, IsTakenIn}
use Rattle.talk_model.specs.Prefixes.{Prefixes}
use Rattle.talk_model.proofs.Places.{commits_rise}
use Rattle.fb_session.specs.Terms.{Terms}
use Rattle.fb_session.specs.Replies.{Replies}
use Rattle.fb_session.proofs.LongerHistories.{replies_longer, prefixes_longer}
use Rattle.fb_run.specs.declared.outcome.SessionOut.{SessionOut}
use Rattle.fb_run.specs.Outside.{StreamSpec, DiskSpec, setting_of, EachOf}
use Rattle.fb_run.specs.Jobs.{run_from}
use Rattle.fb_run.specs.Jobs.{HasTalked, HaveTalked}
use Rattle.fb_run.specs.declared.outcome.Outcome.{Outcome}
use Rattle.fb_run.specs.Headline.{OneHistory, stop_of}
use Rattle.fb_run.specs.declared.database.Directory.{Directory}
use Rattle.fb_run.specs.declared.merging.Trees.{Trees}
use Rattle.fb_run.specs.Running.{IsMade, Closes, LeavesLog, HandsLogBack, GoesOnFrom, CountsBy, RepliesBy, EndsWith, HaveEnded}
use Rattle.fb_run.proofs.Lists.{some_then, there, all_at, map_at, at_map, each_at}

-- a state as it was opened over this history
abbrev pub IsNew : List Entry → State → Type 0
IsNew h s = s ≡ record (as_opened h) { seat = s.seat }

-- the session whose transaction the log did not take
abbrev pub teller_of : Option Stop → ℕ
teller_of None = 0
teller_of (Some stop) = stop.author

-- the torn transaction is the teller's
torn_by : (authors : List ℕ) (stopped : Option Stop) (torn : Option Draft) → stop_of torn ≡ option_map at_of stopped
    → IsTornBy authors stopped torn → IfSome torn (λ draft. draft.authors ≡ authors ++ teller_of stopped ∷ [])
torn_by authors stopped None is by = tt
torn_by authors None (Some draft) is by = let wrong = is in absurd (cc)
torn_by authors (Some who) (Some draft) is by = by

module _ {I O : Type 0} (terms : Terms) (io : StreamSpec I O) (h : List Entry) (begun : IsLawful h) (r : ℕ) (start : basis h ≡ r) (stopped :
    Option Stop) (last : SnapshotModel)
    (authors : List ℕ) (lawful : IsLawful last.entries) where
  abbrev stop : Option ℕ
  stop = option_map at_of stopped

  -- what the session of this number did, in the words of the one history
  record Part (k : ℕ) (old new : SessionOut I O) : Type 0 where
    commits : new.commits ≡ commits_behind r k authors
    rising : IsStrictlyIncreasing new.commits
    prefixes : Prefixes r (basis last.entries) new.places new.commits
    replies : Replies (setting_of terms last.entries stop (teller_of stopped == k)) r (run_from io old.source old.sink new)
    counts : CountsBy io old new

  stays_by : (z : State) (who : Option Stop) (k : ℕ) → (z.stop ≡ None) ⊎ ((z.stop ≡ option_map at_of who) × (z.teller ≡ is_author k who))
      → (z.stop ≡ None) ⊎ ((option_map at_of who ≡ z.stop) × ((teller_of who == k) ≡ z.teller))
  stays_by z None k (inl none) = inl none
  stays_by z None k (inr one) = inl one.0
  stays_by z (Some who) k (inl none) = inl none
  stays_by z (Some who) k (inr one) = inr (sym one.0, sym one.1)

  -- the history goes on from the opening's
  grown_by : (k : ℕ) (s z : State) (old new : SessionOut I O) → IsNew h s → HasTalked terms io s z old new
      → IsTakenIn (record { snapshot = last; authors = authors }) r stopped k z → (more : List Entry) × (last.entries ≡ h ++ more)
  grown_by k s z old new is_new talked taken =
      let entries : s.entries ≡ h = ap (λ (x : State). x.entries) is_new in (
        talked.went_on.more ++ taken.more,
        taken.entries
            ∙ (ap (λ (l : List Entry). l ++ taken.more) (talked.went_on.entries ∙ ap (λ (l : List Entry). l ++ talked.went_on.more) entries)
            ∙ append_assoc h talked.went_on.more taken.more),
      )

  part_of : (k : ℕ) (s z : State) (old new : SessionOut I O) → IsNew h s → HasTalked terms io s z old new
      → IsTakenIn (record { snapshot = last; authors = authors }) r stopped k z → Part k old new
  part_of k s z old new is_new talked taken =
      let entries : s.entries ≡ h = ap (λ (x : State). x.entries) is_new in
      let first : basis s.entries ≡ r = ap basis entries ∙ start in
      let nothing : s.commits ≡ [] = ap (λ (x : State). x.commits) is_new in
      let ours : z.commits ≡ new.commits = talked.commits ∙ ap (λ (c : List ℕ). c ++ new.commits) nothing in
      let begins : IsLawful s.entries = subst IsLawful (sym entries) begun in
      let goes_on : IsLawful z.entries = talked.went_on.lawful begins in
      let count : length z.entries ≡ basis z.entries + 1 = IsLawful-length z.entries goes_on in
      let longer : IsLawful (z.entries ++ taken.more) = subst IsLawful taken.entries lawful in
      let counted : length (z.entries ++ taken.more) ≡ basis (z.entries ++ taken.more) + 1 = IsLawful-length (z.entries ++ taken.more)
      longer in
      let grows : basis z.entries ≤ basis (z.entries ++ taken.more) = omega (arith, count, counted, length-append z.entries taken.more) in
      let within : basis z.entries ≤ basis last.entries = subst (λ (l : List Entry). basis z.entries ≤ basis l) (sym taken.entries) grows in
      let seen : r ≤ basis z.entries =
      omega (
        arith,
        count,
        first,
        IsLawful-length s.entries begins,
        ap length talked.went_on.entries,
        length-append s.entries talked.went_on.more,
      ) in
      let prefixes : Prefixes r (basis z.entries) new.places new.commits =
      subst (λ (n : ℕ). Prefixes n (basis z.entries) new.places new.commits) first talked.prefixes in
      let replies : Replies (setting_of terms z.entries z.stop z.teller) r (run_from io old.source old.sink new) =
      subst (λ (n : ℕ). Replies (setting_of terms z.entries z.stop z.teller) n (run_from io old.source old.sink new)) first
      talked.replies in
      let over : Replies (setting_of terms (z.entries ++ taken.more) stop (teller_of stopped == k)) r (run_from io old.source old.sink
      new) =
      replies_longer (setting_of terms z.entries z.stop z.teller) taken.more stop (teller_of stopped == k) count grows (stays_by z stopped k
      taken.stop) r seen _ replies in
      record {
        commits = sym ours ∙ taken.commits;
        rising = commits_rise _ _ _ _ talked.prefixes.committed_before;
        prefixes = prefixes_longer r (basis z.entries) (basis last.entries) new.places new.commits within prefixes;
        replies = subst (λ (l : List Entry). Replies (setting_of terms l stop (teller_of stopped == k)) r (run_from io old.source
            old.sink
            new)) (sym taken.entries) over;
        counts = record { source = talked.source_count; sink = talked.sink_count };
      }

  module _ {L R : Type 0} (conn : Conn L R) (given : List Seat) (opened : List (SessionOut I O)) (seats : List Seat) (sessions : List
      (SessionOut I O))
      (talked : HaveTalked terms io conn given opened seats sessions) (count : length opened ≡ length given)
      (is_new : (k : ℕ) (seat : Seat) → slice_get given k ≡ Some seat → IsNew h (state_of seat))
      (taken : (k : ℕ) (seat : Seat) → slice_get seats k ≡ Some seat → IsTakenIn (record { snapshot = last; authors = authors }) r stopped k
      (state_of seat)) where
    part_at : (k : ℕ) (old new : SessionOut I O) → slice_get opened k ≡ Some old → slice_get sessions k ≡ Some new → k < length sessions →
        Part k old new
    part_at k old new is_old is_new_one within =
        let was = there given k (omega (arith, within, talked.session_count)) in
        let now = there seats k (omega (arith, within, talked.session_count, talked.seat_count)) in
        part_of k (state_of was.0) (state_of now.0) old new (is_new k was.0 was.1)
        (talked.talked k was.0 now.0 old new was.1 now.1 is_old is_new_one) (taken k now.0 now.1)

    new_at : (k : ℕ) (new : SessionOut I O) → slice_get sessions k ≡ Some new → k < length sessions → (old : SessionOut I O) × Part k old
        new
    new_at k new is within =
        let old = there opened k (omega (arith, within, talked.session_count, count)) in (old.0, part_at k old.0 new old.1 is within)

    own : (k : ℕ) → k < length (map (λ (s : SessionOut I O). s.commits) sessions)
        → slice_index_or (map (λ (s : SessionOut I O). s.commits) sessions) k [] ≡ commits_behind r k authors
    own k within =
        let inside : k < length sessions = omega (arith, within, length-map sessions (λ (s : SessionOut I O). s.commits)) in
        let new = there sessions k inside in
        let at = at_map (λ (s : SessionOut I O). s.commits) sessions k new.0 new.1 in
        get_or_from_slice_get (map (λ (s : SessionOut I O). s.commits) sessions) k new.0.commits [] at ∙ (new_at k new.0 new.1
        inside).1.commits

    -- there is a session, and what it had seen begins with the opening's history
    pub opened_history : 0 < length sessions → (more : List Entry) × (last.entries ≡ h ++ more)
    opened_history some =
        let was = there given 0 (omega (arith, some, talked.session_count)) in
        let now = there seats 0 (omega (arith, some, talked.session_count, talked.seat_count)) in
        let old = there opened 0 (omega (arith, some, talked.session_count, count)) in let new = there sessions 0 some in
        grown_by 0 (state_of was.0) (state_of now.0) old.0 new.0 (is_new 0 was.0 was.1)
        (talked.talked 0 was.0 now.0 old.0 new.0 was.1 now.1 old.1 new.1) (taken 0 now.0 now.1)

    pub one_history : r + length authors ≡ basis last.entries → AllByRecursion (λ author. author < length seats) authors
        → OneHistory last.entries r authors (map (λ (s : SessionOut I O). s.commits) sessions)
    one_history each_t by_seats =
        let wide : length seats ≡ length (map (λ (s : SessionOut I O). s.commits) sessions) =
        omega (arith, talked.seat_count, talked.session_count, length-map sessions (λ (s : SessionOut I O). s.commits)) in
        record {
          lawful = lawful;
          each_t = each_t;
          by_sessions = subst (λ (n : ℕ). AllByRecursion (λ author. author < n) authors) wide by_seats;
          own = own;
          rising = all_at IsStrictlyIncreasing (map (λ (s : SessionOut I O). s.commits) sessions) (λ k cs at.
              let new = map_at (λ (s : SessionOut I O). s.commits) sessions k cs at in
              subst IsStrictlyIncreasing new.2 (new_at k new.0 new.1 (slice_get_within sessions k new.0 new.1)).1.rising);
        }

    pub all_prefixes : AllByRecursion (λ (s : SessionOut I O). Prefixes r (basis last.entries) s.places s.commits) sessions
    all_prefixes = all_at (λ (s : SessionOut I O). Prefixes r (basis last.entries) s.places s.commits) sessions (λ k new at. (new_at k new
        at (slice_get_within sessions k new at)).1.prefixes)

    same_count : length opened ≡ length sessions
    same_count = omega (arith, count, talked.session_count)

    each_replies : EachOf (λ n (old new : SessionOut I O).
        Replies (setting_of terms last.entries stop (teller_of stopped == n)) r (run_from io old.source old.sink new)) 0 opened sessions
    each_replies =
        each_at (λ n (old new : SessionOut I O). Replies (setting_of terms last.entries stop (teller_of stopped == n)) r (run_from io
        old.source old.sink
        new)) 0 opened sessions same_count (λ k m old new is is_old is_new_one.
        let same : m ≡ k = omega (arith, is) in
        subst (λ (n : ℕ). Replies (setting_of terms last.entries stop (teller_of stopped == n)) r (run_from io old.source old.sink
        new)) (sym same)
        (part_at k old new is_old is_new_one (slice_get_within sessions k new is_new_one)).replies)

    pub all_replies : (torn : Option Draft) → stop_of torn ≡ stop → IsTornBy authors stopped torn
        → RepliesBy terms io r torn authors opened sessions last.entries
    all_replies torn is by = (
      teller_of stopped,
      subst (λ (at : Option ℕ). EachOf (λ n (old new : SessionOut I O).
          Replies (setting_of terms last.entries at (teller_of stopped == n)) r (run_from io old.source old.sink new)) 0 opened sessions)
          (sym is) each_replies,
      torn_by authors stopped torn is by,
    )

    pub all_counts : EachOf (λ n (old new : SessionOut I O). CountsBy io old new) 0 opened sessions
    all_counts = each_at (λ n (old new : SessionOut I O). CountsBy io old new) 0 opened sessions same_count (λ k m old new is is_old
        is_new_one.
        (part_at k old new is_old is_new_one (slice_get_within sessions k new is_new_one)).counts)

-- ---- the connection, as it was made and as it was closed

pub is_made : {L R : Type 0} (conn : Conn L R) (seats : List Seat) (worker : Seat) (n : ℕ) (entries : List Entry) (c : ℕ)
    → length seats ≡ n
    → ((k : ℕ) (seat : Seat) → slice_get seats k ≡ Some seat
    → IsSeatOf conn seat × ((view_of seat.board).number ≡ k) × (state_of seat ≡ record (as_opened entries) { seat = (state_of seat).seat }))
    → IsWorkerOf conn worker × ((view_of worker.board).given ≡ n) × ((view_of worker.board).covered ≡ c)
    × ((view_of worker.board).start ≡ basis entries) × (worker.last.entries ≡ entries)
    → IsMade n entries conn seats worker
is_made conn seats worker n entries c count opened is = record {
  count = count;
  opened = opened;
  worker_is = is.0;
  given = is.1;
  start = is.3;
}

-- ---- the log

by_last : (h : List Entry) (n : ℕ) (e : Entry) → n ≡ e.t → fold (λ _ (entry : Entry). entry.t) n h ≡ (fold (λ _ (entry : Entry). entry) e
    h).t
by_last [] n e same = same
by_last (x ∷ xs) n e same = by_last xs x.t x refl

-- the t of the torn transaction is the next one
next_of : (h : List Entry) (draft : Draft) → IsLawfulAfter h (entry_of draft) → basis draft.after.entries ≡ basis h + 1
next_of h draft next = by_last draft.after.entries 0 _ refl ∙ next_t h (entry_of draft) next

pub torn_at : {D : Type 0} {g : _} (disks : DiskSpec D) (begun log : DiskLog D g) (h : List Entry) (stopped : Option Stop) (torn : Option
    Draft) → IsLawful h
    → GoesWithLog (KeepsHistory disks.bytes disks.images disks.faults disks.moment disks.images_since)
    (BrokeAt disks.bytes disks.images disks.faults disks.moment disks.images_since) begun h log stopped torn
    → stop_of torn ≡ option_map at_of stopped
torn_at disks begun log h None torn lawful stands = ap stop_of stands.0
torn_at disks begun log h (Some who) torn lawful stands =
    let draft : Draft = stands.1.0 in
    let t : basis draft.after.entries ≡ who.at = omega (arith, next_of h draft stands.1.3, IsLawful-length h lawful, stands.0) in
    ap stop_of stands.1.1 ∙ ap (λ (n : ℕ). Some n) t

module _ {D : Type 0} {g : _} (disks : DiskSpec D) (begun log : DiskLog D g) (disk : D)
    (kept : (from : DiskLog D g) (h : List Entry) → KeepsHistory disks.bytes disks.images disks.faults disks.moment disks.images_since from
    h
    log
    → HasKept disks.bytes disks.images disks.faults disks.moment disks.images_since (count_in from) (disk_in from) h disk)
    (broke : (from : DiskLog D g) (h : List Entry) (entry : Entry) → BrokeAt disks.bytes disks.images disks.faults disks.moment
    disks.images_since from h entry log
    → HasBroken disks.bytes disks.images disks.faults disks.moment disks.images_since (count_in from) (disk_in from) h entry disk) where
  pub leaves_log : (h : List Entry) (stopped : Option Stop) (torn : Option Draft)
      → GoesWithLog (KeepsHistory disks.bytes disks.images disks.faults disks.moment disks.images_since)
      (BrokeAt disks.bytes disks.images disks.faults disks.moment disks.images_since) begun h log stopped torn
      → LeavesLog disks (count_in begun) (disk_in begun) h torn disk
  leaves_log h None None stands = kept begun h stands.1
  leaves_log h None (Some draft) stands = let wrong = stands.0 in absurd (cc)
  leaves_log h (Some who) None stands = let wrong = stands.1.1 in absurd (cc)
  leaves_log h (Some who) (Some draft) stands =
      let one : Some draft ≡ Some stands.1.0 = stands.1.1 in
      let same : draft ≡ stands.1.0 = cc in
      subst (λ (d : Draft). LeavesLog disks (count_in begun) (disk_in begun) h (Some d) disk) (sym same) (
        record { lawful = stands.1.3; entries = stands.1.2; t = next_of h stands.1.0 stands.1.3 },
        broke begun h (entry_of stands.1.0) stands.1.4,
      )

-- ---- the database, as it was closed: merging changes neither the entries nor their authors

pub closes_of : {I O D : Type 0} (seats : List Seat) (outcome : Outcome I O D) (core parts : CoreParts) (start r : ℕ) (stopped : Option
    Stop)
    → parts.snapshot.entries ≡ core.snapshot.entries → parts.authors ≡ core.authors
    → outcome.last ≡ Some parts.snapshot → outcome.authors ≡ Some parts.authors → start ≡ r → stop_of outcome.torn ≡ option_map at_of
    stopped
    → IsTornBy core.authors stopped outcome.torn
    → CoreStands core
    → start + length core.authors ≡ basis core.snapshot.entries → AllByRecursion (λ author. author < length seats) core.authors
    → ((k : ℕ) (seat : Seat) → slice_get seats k ≡ Some seat → IsTakenIn core start stopped k (state_of seat)) → Closes seats r outcome
closes_of seats outcome core parts start r stopped same by_same last authors begins torn teller stands each_t by_seats taken =
    let counted : start + length core.authors ≡ basis parts.snapshot.entries = each_t ∙ ap basis (sym same) in
    record {
      last = parts.snapshot;
      authors = parts.authors;
      stopped = stopped;
      last_is = last;
      authors_is = authors;
      lawful = subst IsLawful (sym same) stands.snapshot.history.lawful;
      each_t = subst (λ (n : ℕ). n + length parts.authors ≡ basis parts.snapshot.entries) begins (ap (λ (who : List ℕ). start + length who)
          by_same ∙ counted);
      by_sessions = subst (AllByRecursion (λ author. author < length seats)) (sym by_same) by_seats;
      taken = λ k seat is.
          let t = taken k seat is in
          let now : IsTakenIn parts start stopped k (state_of seat) = record {
            more = t.more;
            entries = same ∙ t.entries;
            commits = t.commits ∙ ap (commits_behind start k) (sym by_same);
            stop = t.stop;
          } in
          subst (λ (n : ℕ). IsTakenIn parts n stopped k (state_of seat)) begins now;
      torn = torn;
      teller = subst (λ (who : List ℕ). IsTornBy who stopped outcome.torn) (sym by_same) teller;
    }

-- ---- the outcome

-- a history that goes on from the opening's has it up to the opening's basis
opened_upto : (h l more : List Entry) (r : ℕ) → IsLawful h → basis h ≡ r → l ≡ h ++ more → upto l r ≡ h
opened_upto h l more r lawful start is =
    let count : r + 1 ≡ length h = omega (arith, IsLawful-length h lawful, start) in
    ap (λ (n : ℕ). take n l) count ∙ (ap (take (length h)) is ∙ take-append_seam h more)

module _ {I O D L R : Type 0} (terms : Terms) (io : StreamSpec I O) (conn : Conn L R) (given : List Seat) (opened : List (SessionOut I O))
    (seats : List Seat)
    (sessions : List (SessionOut I O)) (talked : HaveTalked terms io conn given opened seats sessions) (count : length opened ≡ length
    given)
    (h : List Entry) (begun : IsLawful h) (r : ℕ) (opens : basis h ≡ r)
    (is_new : (k : ℕ) (seat : Seat) → slice_get given k ≡ Some seat → IsNew h (state_of seat)) (outcome : Outcome I O D) (closes : Closes
    seats r outcome)
    (same : outcome.sessions.items ≡ sessions) (start : outcome.recovered ≡ r) where
  pub run_history : IfSome outcome.last (λ last. OneHistory last.entries outcome.recovered (unwrap_or outcome.authors [])
      (map (λ (s : SessionOut I O). s.commits) outcome.sessions.items))
  run_history =
      some_then (λ last. OneHistory last.entries outcome.recovered (unwrap_or outcome.authors []) (map (λ (s : SessionOut I O). s.commits)
      outcome.sessions.items))
      outcome.last closes.last closes.last_is
      (rw (start, same, closes.authors_is) (one_history terms io h begun r opens closes.stopped closes.last closes.authors closes.lawful
      conn given opened seats sessions talked count is_new closes.taken
      closes.each_t closes.by_sessions))

  pub run_replies : IfSome outcome.last (λ last. RepliesBy terms io outcome.recovered outcome.torn (unwrap_or outcome.authors []) opened
      outcome.sessions.items last.entries)
  run_replies =
      some_then (λ last. RepliesBy terms io outcome.recovered outcome.torn (unwrap_or outcome.authors []) opened outcome.sessions.items
      last.entries)
      outcome.last closes.last closes.last_is
      (rw (start, same, closes.authors_is) (all_replies terms io h begun r opens closes.stopped closes.last closes.authors closes.lawful
      conn given opened seats sessions talked count is_new closes.taken outcome.torn closes.torn closes.teller))

  pub run_prefixes : IfSome outcome.last (λ last. AllByRecursion (λ (s : SessionOut I O). Prefixes outcome.recovered (basis last.entries)
      s.places s.commits) outcome.sessions.items)
  run_prefixes =
      some_then (λ last. AllByRecursion (λ (s : SessionOut I O). Prefixes outcome.recovered (basis last.entries) s.places s.commits)
      outcome.sessions.items)
      outcome.last closes.last closes.last_is
      (rw (start, same) (all_prefixes terms io h begun r opens closes.stopped closes.last closes.authors closes.lawful conn given opened
      seats sessions talked count is_new closes.taken))

  pub run_opening : {g : _} (directory : Directory D g) → directory.core.snapshot.entries ≡ h → directory.recovered ≡ r → 0 < length
      sessions
      → IfSome outcome.last (λ last. GoesOnFrom directory last.entries outcome)
  run_opening directory is_h is_r some =
      let grown = opened_history terms io h begun r opens closes.stopped closes.last closes.authors closes.lawful conn given opened seats
      sessions talked count is_new closes.taken some in
      some_then (λ last. GoesOnFrom directory last.entries outcome) outcome.last closes.last closes.last_is
      (record {
        recovered = start ∙ sym is_r;
        within = subst (λ (n : ℕ). n ≤ basis closes.last.entries) (sym start) (omega (arith, closes.each_t));
        opened = ap (upto closes.last.entries) start ∙ (opened_upto h closes.last.entries grown.0 r begun opens grown.1 ∙ sym is_h);
      })

  pub run_ended : {g : _} (names : List (List ℕ)) (disks : DiskSpec D) (merge_at n : ℕ) (was : D) (trees : Trees D g)
      → IfSome outcome.last (λ last. HandsLogBack disks n was last.entries outcome)
      → EndsWith disks merge_at names trees outcome
      → HaveEnded io disks merge_at names opened trees outcome
  run_ended names disks merge_at n was trees leaves ends =
      let left : HandsLogBack disks n was closes.last.entries outcome =
      subst (λ (o : Option SnapshotModel). IfSome o (λ last. HandsLogBack disks n was last.entries outcome)) closes.last_is leaves in
      record {
        each = rw same (all_counts terms io h begun r opens closes.stopped closes.last closes.authors closes.lawful conn given opened
            seats sessions talked count is_new closes.taken);
        ends = ends;
        authors = rw closes.authors_is refl;
        both = record { log = subst IsSome (sym left.log_is) refl; segments = subst IsSome (sym ends.segments_is) refl };
      }
