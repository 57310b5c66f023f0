-- Each event leaves a sound world sound.
use Rattle.std.proofs.Common.{◌≡◌, ◌⊎◌, ℕ, ◌+◌, ◌<◌, ◌≤◌, ℤ, List, [], ◌∷◌, ◌++◌, Option, Some, None, refl, sym, ◌∙◌, ap, subst, inl, inr}
use Rattle.std.proofs.Common.{arith}
use Rattle.std.specs.Prelude.{All, Contains}
use Rattle.std.proofs.lemmas.List.Elements.{All-nil, All-push, All-weaker, All-contains, All-contains_itself, Contains-append_left}
use Rattle.edn_model.specs.Form.{Form}
use Rattle.fb_values.specs.declared.facts.Entry.{Entry}
use Rattle.fb_model.specs.History.{basis}
use Rattle.fb_model.specs.Lawful.{IsLawful, IsLawfulAfter}
use Rattle.fb_model.proofs.OneMoreEntry.{basis-push}
use Rattle.fb_model.proofs.LawfulHistories.{IsLawful-push}
use Rattle.fb_model.proofs.Times.{next_t}
use Rattle.tx_model.specs.Step.{Guard, step, accepted}
use Rattle.tx_model.proofs.Steps.{accepted_at}
use Rattle.tx_model.proofs.StepLaws.{step-lawful}
use Rattle.event_model.specs.World.{Session, Stop, World, opened, IsBeginning, changed, with_session}
use Rattle.event_model.specs.Event.{Event, accept, refuse, fail, stopped, mail, glance, held, sync, begin, keep, adopt, abandon, crash}
use Rattle.event_model.specs.Event.{with_snap, with_mail, with_commit, at_its_mail, synced, committed, stopped_at, IsLeftOf, IsFoundIn}
use Rattle.event_model.specs.Event.{AreRootsLeft, Crashes, Happens}
use Rattle.event_model.specs.Runs.{Runs, IsReached}
use Rattle.event_model.specs.Sound.{IsSoundSession, HasOneAuthor, IsSoundStop, IsSound}
use Rattle.event_model.proofs.Sessions.{changed_by, opened_session, session_with_snap, session_with_mail, session_at_its_mail}
use Rattle.event_model.proofs.Sessions.{session_with_more, session_with_commit, same_author, author_before, author_of_new}

pub none_not_some : {A : Type 0} (x : A) (P : Type 0) → None ≡ Some x → P
none_not_some {A} x P is = absurd (subst IsNothing is tt)
  where
    IsNothing : Option A → Type 0
    IsNothing None = Unit {0}
    IsNothing (Some y) = ⊥

abbrev pub number_in : Option ℕ → ℕ
number_in None = 0
number_in (Some n) = n

pub same_number : (a b : ℕ) → Some a ≡ Some b → a ≡ b
same_number a b is = ap number_in is

abbrev stop_in : Stop → Option Stop → Stop
stop_in other None = other
stop_in other (Some stop) = stop

-- ---- worlds that have just been opened

pub opened-IsSound : (h : List Entry) (adopted : ℕ) (kept : List ℕ) → IsLawful h → adopted ≤ basis h → All (λ c. c ≤ basis h) kept
    → IsSound (opened h adopted kept)
opened-IsSound h adopted kept lawful adopted_low kept_low =
    record {
      lawful = lawful;
      opening = omega arith;
      stop = λ stop is. none_not_some stop (IsSoundStop h stop) is;
      adopted = adopted_low;
      kept = kept_low;
      merging = λ c is. none_not_some c (c ≤ basis h) is;
      sessions = λ s. opened_session (basis h);
      authors = λ t above below. absurd (omega (arith, above, below));
    }

pub beginning-IsSound : (world : World) → IsBeginning world → IsSound world
beginning-IsSound world begins =
    let opening : world.opening ≡ basis world.history = ap (λ (w : World). w.opening) begins.is_opened in
    subst IsSound (sym begins.is_opened)
    (opened-IsSound world.history world.adopted world.kept begins.lawful
    (subst (λ b. world.adopted ≤ b) opening begins.adopted)
    (subst (λ b. All (λ c. c ≤ b) world.kept) opening begins.kept))

-- ---- events of sessions

-- a session changes, and its commits stay
module _ (change : World → Session → Session)
    (same : (world : World) (session : Session) → (change world session).commits ≡ session.commits)
    (keeps : (world : World) (session : Session) → IsSoundSession world.opening (basis world.history) session
    → IsSoundSession world.opening (basis world.history) (change world session)) where
  changed-IsSound : (s : ℕ) (world : World) → IsSound world → IsSound (with_session s (change world) world)
  changed-IsSound s world sound =
      record {
        lawful = sound.lawful;
        opening = sound.opening;
        stop = sound.stop;
        adopted = sound.adopted;
        kept = sound.kept;
        merging = sound.merging;
        sessions =
            changed_by (λ _ session. IsSoundSession world.opening (basis world.history) session) s (change world) world.sessions
            (keeps world (world.sessions s) (sound.sessions s)) sound.sessions;
        authors = λ t above below.
            same_author world.sessions (changed s (change world) world.sessions) t
            (changed_by (λ n session. session.commits ≡ (world.sessions n).commits) s (change world) world.sessions
            (same world (world.sessions s)) (λ _. refl))
            (sound.authors t above below);
      }

pub synced-IsSound : (s : ℕ) (world : World) → IsSound world → IsSound (synced s world)
synced-IsSound =
    changed-IsSound (λ world. with_snap (basis world.history)) (λ world session. refl)
    (λ world session. session_with_snap world.opening (basis world.history) session)

pub mailed-IsSound : (s : ℕ) (world : World) → IsSound world → IsSound (with_session s (with_mail (basis world.history)) world)
mailed-IsSound =
    changed-IsSound (λ world. with_mail (basis world.history)) (λ world session. refl)
    (λ world session. session_with_mail world.opening (basis world.history) session)

pub glanced-IsSound : (s : ℕ) (world : World) → IsSound world → IsSound (with_session s at_its_mail world)
glanced-IsSound =
    changed-IsSound (λ world. at_its_mail) (λ world session. refl)
    (λ world session. session_at_its_mail world.opening (basis world.history) session)

-- ---- transactions

pub accepted-IsLawfulAfter : (h : List Entry) (asked : Form) (guard : Guard) (reading : ℤ) (entry : Entry) (tempids : List (List ℕ × ℕ))
    → IsLawful h → step h asked reading guard ≡ accepted entry tempids → IsLawfulAfter h entry
accepted-IsLawfulAfter h asked guard reading entry tempids lawful is =
    let at = accepted_at h asked guard reading entry tempids is in
    subst (IsLawfulAfter h) (sym at.entry_is) (step-lawful h at.forms reading lawful at.is_not_refused)

pub committed-IsSound : (s : ℕ) (entry : Entry) (world : World) → world.stop ≡ None → IsLawfulAfter world.history entry → IsSound world
    → IsSound (committed s entry world)
committed-IsSound s entry world none next sound =
    let h = world.history in
    let after = h ++ entry ∷ [] in
    let last : basis after ≡ entry.t = basis-push h entry in
    let one_more : entry.t ≡ basis h + 1 = next_t h entry next in
    record {
      lawful = IsLawful-push h entry sound.lawful next;
      opening = omega (arith, last, one_more, sound.opening);
      stop = λ stop is. none_not_some stop (IsSoundStop after stop) (sym none ∙ is);
      adopted = omega (arith, last, one_more, sound.adopted);
      kept = All-weaker (λ c. c ≤ basis h) (λ c. c ≤ basis after) (λ c low. omega (arith, last, one_more, low)) world.kept sound.kept;
      merging = λ c is. let low : c ≤ basis h = sound.merging c is in omega (arith, last, one_more, low);
      sessions =
          subst (λ b. (n : ℕ) → IsSoundSession world.opening b (changed s (with_commit entry.t) world.sessions n)) (sym last)
          (changed_by (λ _ session. IsSoundSession world.opening entry.t session) s (with_commit entry.t) world.sessions
          (session_with_commit world.opening (basis h) entry.t (world.sessions s) sound.opening (omega (arith, one_more))
          (sound.sessions s))
          (λ n. session_with_more world.opening (basis h) entry.t (world.sessions n) (omega (arith, one_more)) (sound.sessions n)));
      authors = λ t above below. author t above (t_cases t (basis h) entry.t one_more (omega (arith, last, below)));
    }
  where
    t_cases : (t b new : ℕ) → new ≡ b + 1 → t ≤ new → (t ≤ b) ⊎ (new ≡ t)
    t_cases t b new is low = grind arith

    author : (t : ℕ) → world.opening < t → (t ≤ basis world.history) ⊎ (entry.t ≡ t)
        → HasOneAuthor (changed s (with_commit entry.t) world.sessions) t
    author t above (inl below) =
        let one_more : entry.t ≡ basis world.history + 1 = next_t world.history entry next in
        author_before s entry.t t world.sessions (omega (arith, one_more, below)) (sound.authors t above below)
    author t above (inr is) =
        subst (HasOneAuthor (changed s (with_commit entry.t) world.sessions)) is
        (author_of_new s entry.t world.sessions (λ other.
        let one = sound.sessions other in
        All-weaker (λ u. u ≤ (world.sessions other).snap) (λ u. u < entry.t)
        (λ u low. let one_more : entry.t ≡ basis world.history + 1 = next_t world.history entry next in
        omega (arith, low, one.snap, one_more))
        (world.sessions other).commits one.seen))

pub stopped-IsSound : (entry : Entry) (world : World) → IsLawfulAfter world.history entry → IsSound world → IsSound (stopped_at entry world)
stopped-IsSound entry world next sound =
    record {
      lawful = sound.lawful;
      opening = sound.opening;
      stop = λ stop is.
          subst (IsSoundStop world.history) (ap (stop_in (record { t = basis world.history + 1; torn = entry })) is)
          (record { next_t = refl; lawful = next });
      adopted = sound.adopted;
      kept = sound.kept;
      merging = sound.merging;
      sessions = sound.sessions;
      authors = sound.authors;
    }

-- ---- merges

pub begun-IsSound : (world : World) → IsSound world → IsSound (record world { merging = Some (basis world.history) })
begun-IsSound world sound =
    record {
      lawful = sound.lawful;
      opening = sound.opening;
      stop = sound.stop;
      adopted = sound.adopted;
      kept = sound.kept;
      merging = λ c is. let same : basis world.history ≡ c = same_number (basis world.history) c is in omega (arith, same);
      sessions = sound.sessions;
      authors = sound.authors;
    }

pub kept-IsSound : (c : ℕ) (world : World) → c ≤ basis world.history → IsSound world
    → IsSound (record world { kept = world.kept ++ c ∷ [] })
kept-IsSound c world low sound =
    record {
      lawful = sound.lawful;
      opening = sound.opening;
      stop = sound.stop;
      adopted = sound.adopted;
      kept = All-push (λ c. c ≤ basis world.history) world.kept c sound.kept low;
      merging = sound.merging;
      sessions = sound.sessions;
      authors = sound.authors;
    }

pub adopted-IsSound : (c : ℕ) (world : World) → c ≤ basis world.history → IsSound world
    → IsSound (record world { adopted = c; merging = None })
adopted-IsSound c world low sound =
    record {
      lawful = sound.lawful;
      opening = sound.opening;
      stop = sound.stop;
      adopted = low;
      kept = sound.kept;
      merging = λ other is. none_not_some other (other ≤ basis world.history) is;
      sessions = sound.sessions;
      authors = sound.authors;
    }

pub abandoned-IsSound : (world : World) → IsSound world → IsSound (record world { merging = None })
abandoned-IsSound world sound = adopted-IsSound world.adopted world sound.adopted sound

-- ---- crashes

log-IsLawful : (world : World) (h : List Entry) → IsSound world → IsLeftOf world h → IsLawful h × (basis world.history ≤ basis h)
log-IsLawful world h sound (inl same) = subst (λ k. IsLawful k × (basis world.history ≤ basis k)) (sym same) (sound.lawful, omega arith)
log-IsLawful world h sound (inr torn) =
    let next = (sound.stop torn.0 torn.1).lawful in
    let t_is : torn.0.torn.t ≡ basis world.history + 1 = next_t world.history torn.0.torn next in
    subst (λ k. IsLawful k × (basis world.history ≤ basis k)) (sym torn.2)
    (IsLawful-push world.history torn.0.torn sound.lawful next, omega (arith, t_is, basis-push world.history torn.0.torn))

found_low : (kept : List ℕ) (h : List Entry) (c : ℕ) → IsFoundIn kept h c → c ≤ basis h
found_low kept h c (inl none) = omega (arith, none)
found_low kept h c (inr found) = found.1

-- each root that is left was there before
were_kept : (kept : List ℕ) (c : ℕ) (left : List ℕ) → AreRootsLeft kept c left → All (Contains kept) left
were_kept kept c left (inl (lost, same)) =
    subst (λ l. All (Contains l) left) (sym same)
    (All-weaker (Contains left) (Contains (left ++ lost)) (Contains-append_left left lost) left (All-contains_itself left))
were_kept kept c left (inr (was_kept, same)) =
    subst (All (Contains kept)) (sym same) (All-push (Contains kept) [] c (All-nil (Contains kept)) was_kept)

pub crashed-IsBeginning : (before after : World) → IsSound before → Crashes before after → IsBeginning after
crashed-IsBeginning before after sound crashes =
    let log = log-IsLawful before after.history sound crashes.log in
    let opening : after.opening ≡ basis after.history = ap (λ (w : World). w.opening) crashes.is_opened in
    record {
      is_opened = crashes.is_opened;
      lawful = log.0;
      adopted = subst (λ b. after.adopted ≤ b) (sym opening) (found_low after.kept after.history after.adopted crashes.adopted);
      kept =
          All-weaker (Contains before.kept) (λ c. c ≤ after.opening)
          (λ c was_kept. let low : c ≤ basis before.history =
          All-contains (λ c. c ≤ basis before.history) before.kept c sound.kept was_kept in omega (arith, low, log.1, opening))
          after.kept (were_kept before.kept after.adopted after.kept crashes.kept);
    }

-- ---- all events

pub happens-IsSound : (guard : Guard) (before : World) (event : Event) (after : World) → IsSound before → Happens guard before event after
    → IsSound after
happens-IsSound guard before (accept s asked reading) after sound (entry, tempids, none, is, same) =
    subst IsSound (sym same)
    (committed-IsSound s entry before none (accepted-IsLawfulAfter before.history asked guard reading entry tempids sound.lawful is) sound)
happens-IsSound guard before (refuse s asked) after sound (reading, refusal, none, is, same) =
    subst IsSound (sym same) (synced-IsSound s before sound)
happens-IsSound guard before (fail s asked reading) after sound (entry, tempids, none, is, same) =
    subst IsSound (sym same)
    (stopped-IsSound entry (synced s before) (accepted-IsLawfulAfter before.history asked guard reading entry tempids sound.lawful is)
    (synced-IsSound s before sound))
happens-IsSound guard before (stopped s) after sound (stop, is, same) = subst IsSound (sym same) (synced-IsSound s before sound)
happens-IsSound guard before (mail s) after sound same = subst IsSound (sym same) (mailed-IsSound s before sound)
happens-IsSound guard before (glance s) after sound same = subst IsSound (sym same) (glanced-IsSound s before sound)
happens-IsSound guard before (held s) after sound same = subst IsSound (sym same) sound
happens-IsSound guard before (sync s) after sound same = subst IsSound (sym same) (synced-IsSound s before sound)
happens-IsSound guard before begin after sound (none, same) = subst IsSound (sym same) (begun-IsSound before sound)
happens-IsSound guard before keep after sound (c, is, same) = subst IsSound (sym same) (kept-IsSound c before (sound.merging c is) sound)
happens-IsSound guard before adopt after sound (c, is, was_kept, same) =
    subst IsSound (sym same) (adopted-IsSound c before (sound.merging c is) sound)
happens-IsSound guard before abandon after sound (c, is, same) = subst IsSound (sym same) (abandoned-IsSound before sound)
happens-IsSound guard before crash after sound crashes = beginning-IsSound after (crashed-IsBeginning before after sound crashes)

pub runs-IsSound : (guard : Guard) (before : World) (events : List Event) (after : World) → IsSound before → Runs guard before events after
    → IsSound after
runs-IsSound guard before [] after sound same = subst IsSound (sym same) sound
runs-IsSound guard before (event ∷ events) after sound (between, happens, runs) =
    runs-IsSound guard between events after (happens-IsSound guard before event between sound happens) runs

pub reached-IsSound : (guard : Guard) (world : World) → IsReached guard world → IsSound world
reached-IsSound guard world reached =
    runs-IsSound guard reached.start reached.events world (beginning-IsSound reached.start reached.begins) reached.runs

-- a session's commit is no later than the last transaction
pub commit-low : (world : World) (s t : ℕ) → IsSound world → Contains (world.sessions s).commits t → t ≤ basis world.history
commit-low world s t sound theirs =
    let one = sound.sessions s in
    let low : t ≤ (world.sessions s).snap = All-contains (λ t. t ≤ (world.sessions s).snap) (world.sessions s).commits t one.seen theirs in
    omega (arith, low, one.snap)
