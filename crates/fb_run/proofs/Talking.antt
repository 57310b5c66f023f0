-- Sessions talk at their seats: what jobs leave, by places.
use Rattle.std.proofs.Common.{◌≡◌, ℕ, ◌<◌, List, [], ◌∷◌, ◌++◌, map, length, take, drop, Some, sym, ap, ◌∙◌, subst, arith}
use Rattle.std.proofs.lemmas.Option.{get_or_from_slice_get, same_Some, slice_get_within, slice_get-get_or}
use Rattle.std.specs.Prelude.{slice_get, slice_index_or}
use Rattle.std.proofs.lemmas.List.{append-nil, append_assoc, map-append}
use Rattle.std.proofs.Math.Seq.{take-append_seam}
use lib.ListN.{length-map}
use Rattle.std.specs.List.{All, AllByRecursion}
use Rattle.board_rule.specs.Calls.{view_of, board_of}
use Rattle.fb_conn.specs.declared.conn.Conn.{Conn}
use Rattle.fb_conn.specs.declared.seats.Seat.{Seat}
use Rattle.fb_conn.specs.Seats.{table_of, IsAtRest, state_of}
use Rattle.fb_conn.proofs.States.{same_table}
use Rattle.fb_session.specs.Terms.{Terms}
use Rattle.fb_run.specs.declared.jobs.Job.{Job}
use Rattle.fb_run.specs.declared.outcome.SessionOut.{SessionOut}
use Rattle.fb_run.specs.Outside.{StreamSpec}
use Rattle.fb_run.specs.Jobs.{HasTalked, HaveTalked}
use Rattle.fb_run.proofs.Lists.{all_at, map_at, at_map}

module _ {I O L R : Type 0} (terms : Terms) (io : StreamSpec I O) where
  abbrev seat_in : Job I O L R → Seat
  seat_in job = job.desk.seat

  abbrev out_in : Job I O L R → SessionOut I O
  out_in job = job.out

  abbrev JobTalked : Job I O L R → Job I O L R → Type 0
  JobTalked old new = HasTalked terms io (state_of old.desk.seat) (state_of new.desk.seat) old.out new.out

  module _ (conn : Conn L R) (before after : List (Job I O L R)) (same : length after ≡ length before)
      (desks : All (λ (job : Job I O L R). job.desk.conn.now ≡ conn) before)
      (ran : (k : ℕ) (d : Job I O L R) → k < length before → JobTalked (slice_index_or before k d) (slice_index_or after k d)) where
    ran_at : (k : ℕ) (old new : Job I O L R) → slice_get before k ≡ Some old → slice_get after k ≡ Some new → k < length before → JobTalked
        old
        new
    ran_at k old new was now within =
        subst (λ (a : Job I O L R). JobTalked a new) (get_or_from_slice_get before k old old was)
        (subst (λ (b : Job I O L R). JobTalked (slice_index_or before k old) b) (get_or_from_slice_get after k new old now) (ran k old
        within))

    pub jobs_talked : (k : ℕ) (was now : Seat) (old new : SessionOut I O) → slice_get (map seat_in before) k ≡ Some was → slice_get (map
        seat_in after) k ≡ Some now
        → slice_get (map out_in before) k ≡ Some old → slice_get (map out_in after) k ≡ Some new → HasTalked terms io (state_of was)
        (state_of now) old new
    jobs_talked k was now old new is_was is_now is_old is_new =
        let a = map_at seat_in before k was is_was in let b = map_at seat_in after k now is_now in
        let c = map_at out_in before k old is_old in let d = map_at out_in after k new is_new in
        let one : c.0 ≡ a.0 = same_Some c.0 a.0 (sym c.1 ∙ a.1) in let two : d.0 ≡ b.0 = same_Some d.0 b.0 (sym d.1 ∙ b.1) in
        let talked = ran_at k a.0 b.0 a.1 b.1 (slice_get_within before k a.0 a.1) in
        subst (λ (s : Seat). HasTalked terms io (state_of s) (state_of now) old new) a.2
        (subst (λ (s : Seat). HasTalked terms io (state_of (seat_in a.0)) (state_of s) old new) b.2
        (subst (λ (o : SessionOut I O). HasTalked terms io (state_of (seat_in a.0)) (state_of (seat_in b.0)) o new) (sym (ap out_in one)
        ∙ c.2)
        (subst (λ (o : SessionOut I O). HasTalked terms io (state_of (seat_in a.0)) (state_of (seat_in b.0)) (out_in a.0) o) (sym (ap
        out_in two) ∙ d.2) talked)))

    pub jobs_rested : (k : ℕ) (was now : Seat) → slice_get (map seat_in before) k ≡ Some was → slice_get (map seat_in after) k ≡ Some now
        → IsAtRest (table_of conn) now × ((view_of now.board).number ≡ (view_of was.board).number)
    jobs_rested k was now is_was is_now =
        let a = map_at seat_in before k was is_was in let b = map_at seat_in after k now is_now in
        let within = slice_get_within before k a.0 a.1 in let talked = ran_at k a.0 b.0 a.1 b.1 within in
        let ours : a.0.desk.conn.now ≡ conn =
        subst (λ (j : Job I O L R). j.desk.conn.now ≡ conn) (get_or_from_slice_get before k a.0 a.0 a.1) (desks k a.0 within) in
        let old = a.0.desk.seated in let new = b.0.desk.seated in
        let both = same_table _ _ _ _ talked.went_on.seat in
        let on : board_of (seat_in b.0).board ≡ table_of conn = both.1 ∙ (old.0.on ∙ ap (λ (c : Conn L R). table_of c) ours) in
        let P : Seat → Type 0 = λ z. IsAtRest (table_of conn) z × ((view_of z.board).number ≡ (view_of was.board).number) in
        let Q : Seat → Type 0 = λ z. IsAtRest (table_of conn) (seat_in b.0) × ((view_of (seat_in b.0).board).number ≡ (view_of
        z.board).number) in
        subst P b.2 (subst Q a.2 (record { on = on; idle = new.0.idle; alone = new.0.alone; seen = new.0.seen }, both.0))

-- ---- making jobs, and what is left of them

module _ {A B : Type 0} (f : A → B) where
  -- one more was made, of what stood next
  pub grow : (old new : List A) (x : A) (y : B) (before rest all : List B) → new ≡ old ++ x ∷ [] → f x ≡ y → before ≡ y ∷ rest → map f old
      ++ before ≡ all
      → map f new ++ rest ≡ all
  grow old new x y before rest all pushed is cut inv =
      ap (λ (l : List A). map f l ++ rest) pushed
      ∙ (ap (λ (l : List B). l ++ rest) (map-append f old (x ∷ []))
      ∙ (append_assoc (map f old) (f x ∷ []) rest ∙ (ap (λ (z : B). map f old ++ z ∷ rest) is ∙ (ap (λ (l : List B). map f old ++ l) (sym
      cut) ∙ inv))))

  -- nothing stands next
  pub finish : (made : List A) (rest all : List B) → map f made ++ rest ≡ all → length rest ≡ 0 → map f made ≡ all
  finish made [] all inv none = sym (append-nil (map f made)) ∙ inv
  finish made (x ∷ rest) all inv none = absurd (omega (arith, none))

pub every : {A : Type 0} (P : A → Type 0) (xs ys : List A) → ys ≡ xs → All P xs → AllByRecursion P ys
every P xs ys same all =
    subst (AllByRecursion P) (sym same) (all_at P xs (λ k x at. subst P (get_or_from_slice_get xs k x x at) (all k x (slice_get_within xs k
    x at))))

-- what was lent as a slice is all there is
written : {A : Type 0} (n : ℕ) (new old : List A) → length new ≡ length old → n ≡ length old → take n (new ++ drop (length new) old) ≡ new
written n new old same is = ap (λ (m : ℕ). take m (new ++ drop (length new) old)) (is ∙ sym same) ∙ take-append_seam new (drop (length new)
    old)

module _ {I O L R : Type 0} where
  pub at_seats : (P : Seat → Type 0) (jobs slice : List (Job I O L R)) (seats : List Seat) → slice ≡ jobs → map (λ (job : Job I O L R).
      job.desk.seat) jobs ≡ seats
      → ((k : ℕ) (seat : Seat) → slice_get seats k ≡ Some seat → P seat) → All (λ (job : Job I O L R). P job.desk.seat) slice
  at_seats P jobs slice seats same is at =
      subst (All (λ (job : Job I O L R). P job.desk.seat)) (sym same) (λ k d within.
      at k (slice_index_or jobs k d).desk.seat (subst (λ (l : List Seat). slice_get l k ≡ Some (slice_index_or jobs k d).desk.seat) is
      (at_map (λ (job : Job I O L R). job.desk.seat) jobs k (slice_index_or jobs k d) (slice_get-get_or jobs k d within))))

  pub have_talked : (terms : Terms) (io : StreamSpec I O) (conn : Conn L R) (given : List Seat) (opened : List (SessionOut I O))
      (seats : List Seat)
      (sessions : List (SessionOut I O)) (before after : List (Job I O L R)) → map (λ (job : Job I O L R). job.desk.seat) before ≡ given
      → map (λ (job : Job I O L R). job.out) before ≡ opened → All (λ (job : Job I O L R). job.desk.conn.now ≡ conn) before
      → ((k : ℕ) (d : Job I O L R) → k < length before → HasTalked terms io (state_of (slice_index_or before k d).desk.seat) (state_of
      (slice_index_or after k d).desk.seat)
      (slice_index_or before k d).out (slice_index_or after k d).out)
      → length after ≡ length before → seats ≡ map (λ (job : Job I O L R). job.desk.seat) after → sessions ≡ map (λ (job : Job I O L R).
      job.out)
      after
      → HaveTalked terms io conn given opened seats sessions
  have_talked terms io conn given opened seats sessions before after is_given is_opened desks ran same is_seats is_sessions =
      let one : length given ≡ length before = sym (ap length is_given) ∙ length-map before (λ (job : Job I O L R). job.desk.seat) in
      let two : length seats ≡ length after = ap length is_seats ∙ length-map after (λ (job : Job I O L R). job.desk.seat) in
      let three : length sessions ≡ length after = ap length is_sessions ∙ length-map after (λ (job : Job I O L R). job.out) in
      record {
        seat_count = omega (arith, one, two, same);
        session_count = omega (arith, one, three, same);
        talked = λ k was now old new is_was is_now is_old is_new. jobs_talked terms io conn before after same desks ran k was now old new
            (subst (λ (l : List Seat). slice_get l k ≡ Some was) (sym is_given) is_was) (subst (λ (l : List Seat). slice_get l k ≡ Some
            now) is_seats is_now)
            (subst (λ (l : List (SessionOut I O)). slice_get l k ≡ Some old) (sym is_opened) is_old)
            (subst (λ (l : List (SessionOut I O)). slice_get l k ≡ Some new) is_sessions is_new);
        rested = λ k was now is_was is_now. jobs_rested terms io conn before after same desks ran k was now
            (subst (λ (l : List Seat). slice_get l k ≡ Some was) (sym is_given) is_was) (subst (λ (l : List Seat). slice_get l k ≡ Some
            now) is_seats is_now);
      }

  -- the same where the jobs were lent as a slice, and written back
  pub have_talked_in : (terms : Terms) (io : StreamSpec I O) (conn : Conn L R) (given : List Seat) (opened : List (SessionOut I
      O)) (seats : List Seat)
      (sessions : List (SessionOut I O)) (before slice after : List (Job I O L R)) (n : ℕ) → map (λ (job : Job I O L R). job.desk.seat)
      before ≡
      given
      → map (λ (job : Job I O L R). job.out) before ≡ opened → All (λ (job : Job I O L R). job.desk.conn.now ≡ conn) before → slice ≡ before
      → ((k : ℕ) (d : Job I O L R) → k < length slice → HasTalked terms io (state_of (slice_index_or slice k d).desk.seat) (state_of
      (slice_index_or after k d).desk.seat)
      (slice_index_or slice k d).out (slice_index_or after k d).out)
      → length after ≡ length slice → n ≡ length before → seats ≡ map (λ (job : Job I O L R). job.desk.seat) (take n (after ++ drop (length
      after) before))
      → sessions ≡ map (λ (job : Job I O L R). job.out) (take n (after ++ drop (length after) before)) → HaveTalked terms io conn given
      opened seats sessions
  have_talked_in terms io conn given opened seats sessions before slice after n is_given is_opened desks lent ran same wide is_seats
      is_sessions =
      let count : length after ≡ length before = same ∙ ap length lent in
      let back : take n (after ++ drop (length after) before) ≡ after = written n after before count wide in
      have_talked terms io conn given opened seats sessions before after is_given is_opened desks
      (subst (λ (l : List (Job I O L R)). (k : ℕ) (d : Job I O L R) → k < length l → HasTalked terms io (state_of (slice_index_or l k
      d).desk.seat)
      (state_of (slice_index_or after k d).desk.seat) (slice_index_or l k d).out (slice_index_or after k d).out) lent ran)
      count (is_seats ∙ ap (map (λ (job : Job I O L R). job.desk.seat)) back) (is_sessions ∙ ap (map (λ (job : Job I O L R). job.out)) back)
