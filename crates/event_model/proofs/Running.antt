-- Events that make one world, runs that go on, and what is behind a failed append.
use Rattle.std.proofs.Common.{◌≡◌, ℕ, false, List, [], ◌∷◌, ◌++◌, Option, Some, None, sym, ◌∙◌, ap, subst}
use Rattle.std.proofs.lemmas.Bool.{false≢true}
use Rattle.fb_values.specs.declared.facts.Entry.{Entry}
use Rattle.tx_model.specs.Step.{Decision, accepted, refused, Guard, step}
use Rattle.event_model.specs.World.{Stop, World}
use Rattle.event_model.specs.Event.{Event, accept, refuse, fail, stopped, mail, glance, held, sync, begin, keep, adopt, abandon, crash}
use Rattle.event_model.specs.Event.{committed, stopped_at, synced, Happens, is_crash}
use Rattle.event_model.specs.Runs.{Runs, HaveNoCrash, IsReached}
use Rattle.event_model.proofs.SoundWorlds.{none_not_some, same_number}
use Rattle.event_model.proofs.Growing.{no_crash}

-- ---- one world

abbrev entry_or : Entry → Decision → Entry
entry_or other (accepted entry tempids) = entry
entry_or other (refused refusal) = other

one_entry : (outcome : Decision) (entry other : Entry) (tempids others : List (List ℕ × ℕ)) → outcome ≡ accepted entry tempids
    → outcome ≡ accepted other others → entry ≡ other
one_entry outcome entry other tempids others is too = sym (ap (entry_or entry) is) ∙ ap (entry_or entry) too

one_number : (merging : Option ℕ) (c other : ℕ) → merging ≡ Some c → merging ≡ Some other → c ≡ other
one_number merging c other is too = same_number c other (sym is ∙ too)

pub one_world : (guard : Guard) (before : World) (event : Event) (one other : World) → is_crash event ≡ false
    → Happens guard before event one → Happens guard before event other → one ≡ other
one_world guard before (accept s asked reading) one other goes_on (entry, tempids, none, is, same) (twin, others, none_too, too, same_too) =
    same
    ∙ ap (λ e. committed s e before) (one_entry (step before.history asked reading guard) entry twin tempids others is too)
    ∙ sym same_too
one_world guard before (refuse s asked) one other goes_on (reading, refusal, none, is, same)
    (reading_too, refusal_too, none_too, too, same_too) =
    same ∙ sym same_too
one_world guard before (fail s asked reading) one other goes_on (entry, tempids, none, is, same) (twin, others, none_too, too, same_too) =
    same
    ∙ ap (λ e. stopped_at e (synced s before)) (one_entry (step before.history asked reading guard) entry twin tempids others is too)
    ∙ sym same_too
one_world guard before (stopped s) one other goes_on (stop, is, same) (stop_too, too, same_too) = same ∙ sym same_too
one_world guard before (mail s) one other goes_on same same_too = same ∙ sym same_too
one_world guard before (glance s) one other goes_on same same_too = same ∙ sym same_too
one_world guard before (held s) one other goes_on same same_too = same ∙ sym same_too
one_world guard before (sync s) one other goes_on same same_too = same ∙ sym same_too
one_world guard before begin one other goes_on (none, same) (none_too, same_too) = same ∙ sym same_too
one_world guard before keep one other goes_on (c, is, same) (d, too, same_too) =
    same ∙ ap (λ n. record before { kept = before.kept ++ n ∷ [] }) (one_number before.merging c d is too) ∙ sym same_too
one_world guard before adopt one other goes_on (c, is, was_kept, same) (d, too, was_kept_too, same_too) =
    same ∙ ap (λ n. record before { adopted = n; merging = None }) (one_number before.merging c d is too) ∙ sym same_too
one_world guard before abandon one other goes_on (c, is, same) (d, too, same_too) = same ∙ sym same_too
one_world guard before crash one other goes_on happens too = absurd (false≢true (sym goes_on))

-- ---- runs that go on

pub runs-append : (guard : Guard) (before : World) (events : List Event) (between : World) (more : List Event) (after : World)
    → Runs guard before events between → Runs guard between more after → Runs guard before (events ++ more) after
runs-append guard before [] between more after same runs = subst (λ w. Runs guard w more after) same runs
runs-append guard before (event ∷ events) between more after (next, happens, first) runs =
    (next, happens, runs-append guard next events between more after first runs)

pub reached-further : (guard : Guard) (before : World) (events : List Event) (after : World) → IsReached guard before
    → Runs guard before events after → IsReached guard after
reached-further guard before events after reached runs =
    record {
      start = reached.start;
      events = reached.events ++ events;
      begins = reached.begins;
      runs = runs-append guard reached.start reached.events before events after reached.runs runs;
    }

-- ---- behind a failed append

pub record Stays (before after : World) : Type 0 where
  pub stop : after.stop ≡ before.stop
  pub history : after.history ≡ before.history

happens-Stays : (guard : Guard) (before : World) (event : Event) (after : World) (stop : Stop) → before.stop ≡ Some stop
    → is_crash event ≡ false → Happens guard before event after → Stays before after
happens-Stays guard before (accept s asked reading) after stop torn goes_on (entry, tempids, none, is, same) =
    none_not_some stop (Stays before after) (sym none ∙ torn)
happens-Stays guard before (refuse s asked) after stop torn goes_on (reading, refusal, none, is, same) =
    none_not_some stop (Stays before after) (sym none ∙ torn)
happens-Stays guard before (fail s asked reading) after stop torn goes_on (entry, tempids, none, is, same) =
    none_not_some stop (Stays before after) (sym none ∙ torn)
happens-Stays guard before (stopped s) after stop torn goes_on (other, is, same) =
    record { stop = ap (λ (w : World). w.stop) same; history = ap (λ (w : World). w.history) same }
happens-Stays guard before (mail s) after stop torn goes_on same =
    record { stop = ap (λ (w : World). w.stop) same; history = ap (λ (w : World). w.history) same }
happens-Stays guard before (glance s) after stop torn goes_on same =
    record { stop = ap (λ (w : World). w.stop) same; history = ap (λ (w : World). w.history) same }
happens-Stays guard before (held s) after stop torn goes_on same =
    record { stop = ap (λ (w : World). w.stop) same; history = ap (λ (w : World). w.history) same }
happens-Stays guard before (sync s) after stop torn goes_on same =
    record { stop = ap (λ (w : World). w.stop) same; history = ap (λ (w : World). w.history) same }
happens-Stays guard before begin after stop torn goes_on (none, same) =
    record { stop = ap (λ (w : World). w.stop) same; history = ap (λ (w : World). w.history) same }
happens-Stays guard before keep after stop torn goes_on (c, is, same) =
    record { stop = ap (λ (w : World). w.stop) same; history = ap (λ (w : World). w.history) same }
happens-Stays guard before adopt after stop torn goes_on (c, is, was_kept, same) =
    record { stop = ap (λ (w : World). w.stop) same; history = ap (λ (w : World). w.history) same }
happens-Stays guard before abandon after stop torn goes_on (c, is, same) =
    record { stop = ap (λ (w : World). w.stop) same; history = ap (λ (w : World). w.history) same }
happens-Stays guard before crash after stop torn goes_on crashes = absurd (false≢true (sym goes_on))

pub runs-Stays : (guard : Guard) (before : World) (events : List Event) (after : World) (stop : Stop) → before.stop ≡ Some stop
    → HaveNoCrash events → Runs guard before events after → Stays before after
runs-Stays guard before [] after stop torn none same =
    record { stop = ap (λ (w : World). w.stop) same; history = ap (λ (w : World). w.history) same }
runs-Stays guard before (event ∷ events) after stop torn none (between, happens, runs) =
    let parts = no_crash event events none in
    let first = happens-Stays guard before event between stop torn parts.0 happens in
    let rest = runs-Stays guard between events after stop (first.stop ∙ torn) parts.1 runs in
    record { stop = rest.stop ∙ first.stop; history = rest.history ∙ first.history }
