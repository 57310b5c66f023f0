-- What stays as it is from one world to another.
use Rattle.std.proofs.Common.{◌≡◌, ℕ, ◌≤◌, max, Bool, true, false, not, List, [], ◌∷◌, ◌++◌, Some, refl, sym, ◌∙◌, ap, subst, inl, inr}
use Rattle.std.proofs.Common.{arith, append_assoc}
use Rattle.std.specs.Prelude.{Contains, IsTrue}
use Rattle.std.specs.List.{slice_get, list_all}
use Rattle.std.proofs.lemmas.Bool.{false≢true, and_parts}
use Rattle.std.proofs.lemmas.List.{append-nil}
use Rattle.fb_values.specs.declared.facts.Entry.{Entry}
use Rattle.fb_model.specs.History.{basis, upto}
use Rattle.fb_model.specs.Lawful.{IsLawfulAfter}
use Rattle.fb_model.proofs.OneMoreEntry.{upto-append}
use Rattle.fb_model.proofs.LawfulHistories.{IsLawful-length}
use Rattle.fb_model.proofs.Times.{next_t}
use Rattle.tx_model.specs.Step.{Guard}
use Rattle.event_model.specs.World.{Session, World, IsBeginning, changed}
use Rattle.event_model.specs.Event.{Event, accept, refuse, fail, stopped, mail, glance, held, sync, begin, keep, adopt, abandon, crash}
use Rattle.event_model.specs.Event.{with_snap, with_mail, with_commit, at_its_mail, synced, committed, IsLeftOf, Happens, is_crash}
use Rattle.event_model.specs.Event.{is_of_merge}
use Rattle.event_model.specs.Runs.{Runs, HaveNoCrash}
use Rattle.event_model.specs.Sound.{IsSound}
use Rattle.event_model.proofs.Sessions.{changed_by}
use Rattle.event_model.proofs.SoundWorlds.{happens-IsSound, crashed-IsBeginning, accepted-IsLawfulAfter, commit-low}
use Rattle.event_model.proofs.Entries.{slice_get-append, entry_at}

-- ---- the history

abbrev Begins : List Entry → List Entry → Type 0
Begins h longer = (more : List Entry) × (longer ≡ h ++ more)

begins-itself : (h longer : List Entry) → longer ≡ h → Begins h longer
begins-itself h longer same = ([], same ∙ sym (append-nil h))

log_begins : (world : World) (h : List Entry) → IsLeftOf world h → Begins world.history h
log_begins world h (inl same) = begins-itself world.history h same
log_begins world h (inr torn) = (torn.0.torn ∷ [], torn.2)

happens-begins : (guard : Guard) (before : World) (event : Event) (after : World) → Happens guard before event after
    → Begins before.history after.history
happens-begins guard before (accept s asked reading) after (entry, tempids, none, is, same) =
    (entry ∷ [], ap (λ (w : World). w.history) same)
happens-begins guard before (refuse s asked) after (reading, refusal, none, is, same) =
    begins-itself before.history after.history (ap (λ (w : World). w.history) same)
happens-begins guard before (fail s asked reading) after (entry, tempids, none, is, same) =
    begins-itself before.history after.history (ap (λ (w : World). w.history) same)
happens-begins guard before (stopped s) after (stop, is, same) =
    begins-itself before.history after.history (ap (λ (w : World). w.history) same)
happens-begins guard before (mail s) after same = begins-itself before.history after.history (ap (λ (w : World). w.history) same)
happens-begins guard before (glance s) after same = begins-itself before.history after.history (ap (λ (w : World). w.history) same)
happens-begins guard before (held s) after same = begins-itself before.history after.history (ap (λ (w : World). w.history) same)
happens-begins guard before (sync s) after same = begins-itself before.history after.history (ap (λ (w : World). w.history) same)
happens-begins guard before begin after (none, same) = begins-itself before.history after.history (ap (λ (w : World). w.history) same)
happens-begins guard before keep after (c, is, same) = begins-itself before.history after.history (ap (λ (w : World). w.history) same)
happens-begins guard before adopt after (c, is, was_kept, same) =
    begins-itself before.history after.history (ap (λ (w : World). w.history) same)
happens-begins guard before abandon after (c, is, same) = begins-itself before.history after.history (ap (λ (w : World). w.history) same)
happens-begins guard before crash after crashes = log_begins before after.history crashes.log

pub runs-begins : (guard : Guard) (before : World) (events : List Event) (after : World) → Runs guard before events after
    → (more : List Entry) × (after.history ≡ before.history ++ more)
runs-begins guard before [] after same = begins-itself before.history after.history (ap (λ (w : World). w.history) same)
runs-begins guard before (event ∷ events) after (between, happens, runs) =
    let first = happens-begins guard before event between happens in
    let rest = runs-begins guard between events after runs in
    (first.0 ++ rest.0, rest.1 ∙ ap (λ h. h ++ rest.0) first.1 ∙ append_assoc before.history first.0 rest.0)

pub runs-places : (guard : Guard) (before : World) (events : List Event) (after : World) (place : ℕ) (entry : Entry)
    → Runs guard before events after
    → slice_get before.history place ≡ Some entry → slice_get after.history place ≡ Some entry
runs-places guard before events after place entry runs is =
    let begins = runs-begins guard before events after runs in
    ap (λ h. slice_get h place) begins.1 ∙ slice_get-append before.history begins.0 place entry is

pub runs-upto : (guard : Guard) (before : World) (events : List Event) (after : World) (b : ℕ) → IsSound before
    → Runs guard before events after → b ≤ basis before.history
    → upto after.history b ≡ upto before.history b
runs-upto guard before events after b sound runs low =
    let begins = runs-begins guard before events after runs in
    ap (λ h. upto h b) begins.1
    ∙ upto-append before.history begins.0 b (omega (arith, IsLawful-length before.history sound.lawful, low))

-- ---- the basis at the opening

happens-opening : (guard : Guard) (before : World) (event : Event) (after : World) → is_crash event ≡ false
    → Happens guard before event after → after.opening ≡ before.opening
happens-opening guard before (accept s asked reading) after goes_on (entry, tempids, none, is, same) = ap (λ (w : World). w.opening) same
happens-opening guard before (refuse s asked) after goes_on (reading, refusal, none, is, same) = ap (λ (w : World). w.opening) same
happens-opening guard before (fail s asked reading) after goes_on (entry, tempids, none, is, same) = ap (λ (w : World). w.opening) same
happens-opening guard before (stopped s) after goes_on (stop, is, same) = ap (λ (w : World). w.opening) same
happens-opening guard before (mail s) after goes_on same = ap (λ (w : World). w.opening) same
happens-opening guard before (glance s) after goes_on same = ap (λ (w : World). w.opening) same
happens-opening guard before (held s) after goes_on same = ap (λ (w : World). w.opening) same
happens-opening guard before (sync s) after goes_on same = ap (λ (w : World). w.opening) same
happens-opening guard before begin after goes_on (none, same) = ap (λ (w : World). w.opening) same
happens-opening guard before keep after goes_on (c, is, same) = ap (λ (w : World). w.opening) same
happens-opening guard before adopt after goes_on (c, is, was_kept, same) = ap (λ (w : World). w.opening) same
happens-opening guard before abandon after goes_on (c, is, same) = ap (λ (w : World). w.opening) same
happens-opening guard before crash after goes_on crashes = absurd (false≢true (sym goes_on))

not_true : (b : Bool) → not b ≡ true → b ≡ false
not_true false is = refl
not_true true is = absurd (false≢true is)

pub no_crash : (event : Event) (events : List Event) → HaveNoCrash (event ∷ events) → (is_crash event ≡ false) × HaveNoCrash events
no_crash event events none =
    let parts = and_parts (not (is_crash event)) (list_all (λ event. not (is_crash event)) events) none in
    (not_true (is_crash event) parts.0, parts.1)

pub runs-opening : (guard : Guard) (before : World) (events : List Event) (after : World) → HaveNoCrash events
    → Runs guard before events after → after.opening ≡ before.opening
runs-opening guard before [] after none same = ap (λ (w : World). w.opening) same
runs-opening guard before (event ∷ events) after none (between, happens, runs) =
    let parts = no_crash event events none in
    runs-opening guard between events after parts.1 runs ∙ happens-opening guard before event between parts.0 happens

-- ---- sessions between crashes

pub record IsLater (before after : Session) : Type 0 where
  pub mailed : before.mailed ≤ after.mailed
  pub snap : before.snap ≤ after.snap
  pub commits : (more : List ℕ) × (after.commits ≡ before.commits ++ more)

itself : (session : Session) → IsLater session session
itself session = record { mailed = omega arith; snap = omega arith; commits = ([], sym (append-nil session.commits)) }

later_still : (first second third : Session) → IsLater first second → IsLater second third → IsLater first third
later_still first second third one two =
    record {
      mailed = omega (arith, one.mailed, two.mailed);
      snap = omega (arith, one.snap, two.snap);
      commits = (
        one.commits.0 ++ two.commits.0,
        two.commits.1 ∙ ap (λ ts. ts ++ two.commits.0) one.commits.1 ∙ append_assoc first.commits one.commits.0 two.commits.0,
      );
    }

with_snap-IsLater : (b : ℕ) (session : Session) → session.snap ≤ b → IsLater session (with_snap b session)
with_snap-IsLater b session low = record { mailed = omega arith; snap = low; commits = ([], sym (append-nil session.commits)) }

with_mail-IsLater : (b : ℕ) (session : Session) → session.mailed ≤ b → IsLater session (with_mail b session)
with_mail-IsLater b session low = record { mailed = low; snap = omega arith; commits = ([], sym (append-nil session.commits)) }

with_commit-IsLater : (t : ℕ) (session : Session) → session.snap ≤ t → IsLater session (with_commit t session)
with_commit-IsLater t session low = record { mailed = omega arith; snap = low; commits = (t ∷ [], refl) }

changed-IsLater : (s : ℕ) (change : Session → Session) (sessions : ℕ → Session) → IsLater (sessions s) (change (sessions s))
    → (n : ℕ) → IsLater (sessions n) (changed s change sessions n)
changed-IsLater s change sessions later =
    changed_by (λ n session. IsLater (sessions n) session) s change sessions later (λ n. itself (sessions n))

-- the same holds of each session
abbrev GoOn : World → World → Type 0
GoOn before after = (s : ℕ) → IsLater (before.sessions s) (after.sessions s)

synced-GoOn : (s : ℕ) (world : World) → IsSound world → GoOn world (synced s world)
synced-GoOn s world sound =
    changed-IsLater s (with_snap (basis world.history)) world.sessions
    (with_snap-IsLater (basis world.history) (world.sessions s) (sound.sessions s).snap)

committed-GoOn : (s : ℕ) (entry : Entry) (world : World) → IsLawfulAfter world.history entry → IsSound world
    → GoOn world (committed s entry world)
committed-GoOn s entry world next sound =
    changed-IsLater s (with_commit entry.t) world.sessions
    (with_commit-IsLater entry.t (world.sessions s) (omega (arith, (sound.sessions s).snap, next_t world.history entry next)))

happens-GoOn : (guard : Guard) (before : World) (event : Event) (after : World) → is_crash event ≡ false → IsSound before
    → Happens guard before event after → GoOn before after
happens-GoOn guard before (accept s asked reading) after goes_on sound (entry, tempids, none, is, same) =
    subst (GoOn before) (sym same)
    (committed-GoOn s entry before (accepted-IsLawfulAfter before.history asked guard reading entry tempids sound.lawful is) sound)
happens-GoOn guard before (refuse s asked) after goes_on sound (reading, refusal, none, is, same) =
    subst (GoOn before) (sym same) (synced-GoOn s before sound)
happens-GoOn guard before (fail s asked reading) after goes_on sound (entry, tempids, none, is, same) =
    subst (GoOn before) (sym same) (synced-GoOn s before sound)
happens-GoOn guard before (stopped s) after goes_on sound (stop, is, same) = subst (GoOn before) (sym same) (synced-GoOn s before sound)
happens-GoOn guard before (mail s) after goes_on sound same =
    subst (GoOn before) (sym same)
    (changed-IsLater s (with_mail (basis before.history)) before.sessions
    (with_mail-IsLater (basis before.history) (before.sessions s) (sound.sessions s).mailed))
happens-GoOn guard before (glance s) after goes_on sound same =
    subst (GoOn before) (sym same)
    (changed-IsLater s at_its_mail before.sessions
    (with_snap-IsLater (max (before.sessions s).snap (before.sessions s).mailed) (before.sessions s) (omega arith)))
happens-GoOn guard before (held s) after goes_on sound same = subst (GoOn before) (sym same) (λ n. itself (before.sessions n))
happens-GoOn guard before (sync s) after goes_on sound same = subst (GoOn before) (sym same) (synced-GoOn s before sound)
happens-GoOn guard before begin after goes_on sound (none, same) = subst (GoOn before) (sym same) (λ n. itself (before.sessions n))
happens-GoOn guard before keep after goes_on sound (c, is, same) = subst (GoOn before) (sym same) (λ n. itself (before.sessions n))
happens-GoOn guard before adopt after goes_on sound (c, is, was_kept, same) =
    subst (GoOn before) (sym same) (λ n. itself (before.sessions n))
happens-GoOn guard before abandon after goes_on sound (c, is, same) = subst (GoOn before) (sym same) (λ n. itself (before.sessions n))
happens-GoOn guard before crash after goes_on sound crashes = absurd (false≢true (sym goes_on))

pub runs-GoOn : (guard : Guard) (before : World) (events : List Event) (after : World) → IsSound before → HaveNoCrash events
    → Runs guard before events after
    → (s : ℕ) → IsLater (before.sessions s) (after.sessions s)
runs-GoOn guard before [] after sound none same = subst (GoOn before) (sym same) (λ n. itself (before.sessions n))
runs-GoOn guard before (event ∷ events) after sound none (between, happens, runs) =
    let parts = no_crash event events none in
    let first = happens-GoOn guard before event between parts.0 sound happens in
    let rest = runs-GoOn guard between events after (happens-IsSound guard before event between sound happens) parts.1 runs in
    λ s. later_still (before.sessions s) (between.sessions s) (after.sessions s) (first s) (rest s)

-- ---- crashes

pub commit-kept : (guard : Guard) (before : World) (events : List Event) (after : World) (s t : ℕ) → IsSound before
    → Runs guard before events after → Contains (before.sessions s).commits t
    → (entry : Entry) × (entry.t ≡ t) × (slice_get before.history t ≡ Some entry) × (slice_get after.history t ≡ Some entry)
commit-kept guard before events after s t sound runs theirs =
    let there = entry_at before.history sound.lawful t (commit-low before s t sound theirs) in
    (there.0, there.1, there.2, runs-places guard before events after t there.0 runs there.2)

pub crash-kept : (guard : Guard) (before after : World) (s t : ℕ) → IsSound before → Happens guard before crash after
    → Contains (before.sessions s).commits t
    → (entry : Entry) × (entry.t ≡ t) × (slice_get before.history t ≡ Some entry) × (slice_get after.history t ≡ Some entry)
crash-kept guard before after s t sound crashes theirs = commit-kept guard before (crash ∷ []) after s t sound (after, crashes, refl) theirs

pub crash-log : (guard : Guard) (before after : World) → Happens guard before crash after → IsLeftOf before after.history
crash-log guard before after crashes = crashes.log

pub crash-IsBeginning : (guard : Guard) (before after : World) → IsSound before → Happens guard before crash after → IsBeginning after
crash-IsBeginning guard before after sound crashes = crashed-IsBeginning before after sound crashes

-- ---- merges

pub record LeavesAlone (before after : World) : Type 0 where
  pub history : after.history ≡ before.history
  pub opening : after.opening ≡ before.opening
  pub stop : after.stop ≡ before.stop
  pub sessions : after.sessions ≡ before.sessions

pub merge-LeavesAlone : (guard : Guard) (before : World) (event : Event) (after : World) → IsTrue (is_of_merge event)
    → Happens guard before event after → LeavesAlone before after
merge-LeavesAlone guard before begin after of_merge (none, same) =
    subst (LeavesAlone before) (sym same) (record { history = refl; opening = refl; stop = refl; sessions = refl })
merge-LeavesAlone guard before keep after of_merge (c, is, same) =
    subst (LeavesAlone before) (sym same) (record { history = refl; opening = refl; stop = refl; sessions = refl })
merge-LeavesAlone guard before adopt after of_merge (c, is, was_kept, same) =
    subst (LeavesAlone before) (sym same) (record { history = refl; opening = refl; stop = refl; sessions = refl })
merge-LeavesAlone guard before abandon after of_merge (c, is, same) =
    subst (LeavesAlone before) (sym same) (record { history = refl; opening = refl; stop = refl; sessions = refl })
merge-LeavesAlone guard before (accept s asked reading) after of_merge happens = absurd (false≢true of_merge)
merge-LeavesAlone guard before (refuse s asked) after of_merge happens = absurd (false≢true of_merge)
merge-LeavesAlone guard before (fail s asked reading) after of_merge happens = absurd (false≢true of_merge)
merge-LeavesAlone guard before (stopped s) after of_merge happens = absurd (false≢true of_merge)
merge-LeavesAlone guard before (mail s) after of_merge happens = absurd (false≢true of_merge)
merge-LeavesAlone guard before (glance s) after of_merge happens = absurd (false≢true of_merge)
merge-LeavesAlone guard before (held s) after of_merge happens = absurd (false≢true of_merge)
merge-LeavesAlone guard before (sync s) after of_merge happens = absurd (false≢true of_merge)
merge-LeavesAlone guard before crash after of_merge happens = absurd (false≢true of_merge)
