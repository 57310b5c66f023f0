-- What holds of each session where one of them changes.
use Rattle.std.proofs.Common.{◌≡◌, ◌⊎◌, ℕ, ◌<◌, ◌≤◌, max, Bool, true, false, cond, eqb, List, [], ◌∷◌, ◌++◌, refl, sym, subst, inl, inr}
use Rattle.std.proofs.Common.{arith}
use Rattle.std.specs.Prelude.{All, Contains}
use Rattle.std.specs.List.Sorted.{IsStrictlyIncreasing}
use Rattle.std.proofs.lemmas.Bool.{false≢true, eqb-true, eq-eqb}
use Rattle.std.proofs.lemmas.Grind.{common_steps}
use Rattle.std.proofs.lemmas.List.Elements.{All-nil, All-push, All-weaker, All-get_or, All-contains, Contains-append_left, Contains-push}
use Rattle.std.proofs.lemmas.List.Elements.{Contains-push_cases}
use Rattle.event_model.specs.World.{Session, changed}
use Rattle.event_model.specs.Event.{with_snap, with_mail, with_commit, at_its_mail}
use Rattle.event_model.specs.Sound.{IsSoundSession, HasOneAuthor}

-- what holds of the changed session, where it is the one, and of each as it was
pub changed_by : (P : ℕ → Session → Type 0) (s : ℕ) (change : Session → Session) (sessions : ℕ → Session)
    → P s (change (sessions s)) → ((other : ℕ) → P other (sessions other)) → (other : ℕ) → P other (changed s change sessions other)
changed_by P s change sessions there elsewhere other = go (eqb other s) refl
  where
    go : (b : Bool) → eqb other s ≡ b → P other (cond b (change (sessions other)) (sessions other))
    go true is = subst (λ n. P n (change (sessions n))) (sym (eqb-true other s is)) there
    go false is = elsewhere other

-- ---- sound sessions

pub opened_session : (b : ℕ) → IsSoundSession b b (record { mailed = b; snap = b; commits = [] })
opened_session b =
    record {
      mailed = omega arith;
      snap = omega arith;
      seen = All-nil (λ t. t ≤ b);
      made_here = All-nil (λ t. b < t);
      rising = λ k within. absurd (omega (arith, within));
    }

pub session_with_snap : (opening last : ℕ) (session : Session) → IsSoundSession opening last session
    → IsSoundSession opening last (with_snap last session)
session_with_snap opening last session sound =
    record {
      mailed = sound.mailed;
      snap = omega arith;
      seen = All-weaker (λ t. t ≤ session.snap) (λ t. t ≤ last) (λ t low. omega (arith, low, sound.snap)) session.commits sound.seen;
      made_here = sound.made_here;
      rising = sound.rising;
    }

pub session_with_mail : (opening last : ℕ) (session : Session) → IsSoundSession opening last session
    → IsSoundSession opening last (with_mail last session)
session_with_mail opening last session sound =
    record { mailed = omega arith; snap = sound.snap; seen = sound.seen; made_here = sound.made_here; rising = sound.rising }

pub session_at_its_mail : (opening last : ℕ) (session : Session) → IsSoundSession opening last session
    → IsSoundSession opening last (at_its_mail session)
session_at_its_mail opening last session sound =
    record {
      mailed = sound.mailed;
      snap = omega (arith, sound.snap, sound.mailed);
      seen =
          All-weaker (λ t. t ≤ session.snap) (λ t. t ≤ max session.snap session.mailed)
          (λ t low. omega (arith, low)) session.commits sound.seen;
      made_here = sound.made_here;
      rising = sound.rising;
    }

-- more is there than the session knows of
pub session_with_more : (opening last next : ℕ) (session : Session) → last ≤ next → IsSoundSession opening last session
    → IsSoundSession opening next session
session_with_more opening last next session more sound =
    record {
      mailed = omega (arith, more, sound.mailed);
      snap = omega (arith, more, sound.snap);
      seen = sound.seen;
      made_here = sound.made_here;
      rising = sound.rising;
    }

rising_push : (ts : List ℕ) (t : ℕ) → IsStrictlyIncreasing ts → All (λ u. u < t) ts → IsStrictlyIncreasing (ts ++ t ∷ [])
rising_push ts t rising below k within = grind (arith, common_steps, rising k, All-get_or (λ u. u < t) ts k 0)

pub session_with_commit : (opening last t : ℕ) (session : Session) → opening ≤ last → last < t → IsSoundSession opening last session
    → IsSoundSession opening t (with_commit t session)
session_with_commit opening last t session opened above sound =
    record {
      mailed = omega (arith, above, sound.mailed);
      snap = omega arith;
      seen =
          All-push (λ u. u ≤ t) session.commits t
          (All-weaker (λ u. u ≤ session.snap) (λ u. u ≤ t) (λ u low. omega (arith, low, sound.snap, above)) session.commits sound.seen)
          (omega arith);
      made_here = All-push (λ u. opening < u) session.commits t sound.made_here (omega (arith, opened, above));
      rising =
          rising_push session.commits t sound.rising
          (All-weaker (λ u. u ≤ session.snap) (λ u. u < t) (λ u low. omega (arith, low, sound.snap, above)) session.commits sound.seen);
    }

-- ---- the author of each t

pub same_author : (sessions others : ℕ → Session) (t : ℕ) → ((s : ℕ) → (others s).commits ≡ (sessions s).commits) → HasOneAuthor sessions t
    → HasOneAuthor others t
same_author sessions others t same one =
    record {
      author = one.author;
      is_theirs = subst (λ ts. Contains ts t) (sym (same one.author)) one.is_theirs;
      of_no_other = λ other theirs. one.of_no_other other (subst (λ ts. Contains ts t) (same other) theirs);
    }

pub commits_kept : (s t u : ℕ) (sessions : ℕ → Session) (other : ℕ) → Contains (sessions other).commits u
    → Contains (changed s (with_commit t) sessions other).commits u
commits_kept s t u sessions =
    changed_by (λ n session. Contains (sessions n).commits u → Contains session.commits u) s (with_commit t) sessions
    (λ theirs. Contains-append_left (sessions s).commits (t ∷ []) u theirs)
    (λ other theirs. theirs)

commits_cases : (s t u : ℕ) (sessions : ℕ → Session) (other : ℕ) → Contains (changed s (with_commit t) sessions other).commits u
    → Contains (sessions other).commits u ⊎ ((other ≡ s) × (t ≡ u))
commits_cases s t u sessions =
    changed_by (λ n session. Contains session.commits u → Contains (sessions n).commits u ⊎ ((n ≡ s) × (t ≡ u))) s (with_commit t) sessions
    (λ theirs. go (Contains-push_cases (sessions s).commits t u theirs))
    (λ other theirs. inl theirs)
  where
    go : Contains (sessions s).commits u ⊎ (t ≡ u) → Contains (sessions s).commits u ⊎ ((s ≡ s) × (t ≡ u))
    go (inl theirs) = inl theirs
    go (inr is) = inr (refl, is)

new_commit : (s t : ℕ) (sessions : ℕ → Session) → Contains (changed s (with_commit t) sessions s).commits t
new_commit s t sessions = go (eqb s s) (eq-eqb s s refl)
  where
    go : (b : Bool) → b ≡ true → Contains (cond b (with_commit t (sessions s)) (sessions s)).commits t
    go true is = Contains-push (sessions s).commits t
    go false is = absurd (false≢true is)

-- a t that is no new one has the author that it had
pub author_before : (s t u : ℕ) (sessions : ℕ → Session) → u < t → HasOneAuthor sessions u
    → HasOneAuthor (changed s (with_commit t) sessions) u
author_before s t u sessions below one =
    record {
      author = one.author;
      is_theirs = commits_kept s t u sessions one.author one.is_theirs;
      of_no_other = λ other theirs. go other (commits_cases s t u sessions other theirs);
    }
  where
    go : (other : ℕ) → Contains (sessions other).commits u ⊎ ((other ≡ s) × (t ≡ u)) → other ≡ one.author
    go other (inl theirs) = one.of_no_other other theirs
    go other (inr is) = absurd (omega (arith, below, is.1))

-- the new one is of the session that made it, where all others are earlier
pub author_of_new : (s t : ℕ) (sessions : ℕ → Session)
    → ((other : ℕ) → All (λ u. u < t) (sessions other).commits) → HasOneAuthor (changed s (with_commit t) sessions) t
author_of_new s t sessions earlier =
    record {
      author = s;
      is_theirs = new_commit s t sessions;
      of_no_other = λ other theirs. go other (commits_cases s t t sessions other theirs);
    }
  where
    go : (other : ℕ) → Contains (sessions other).commits t ⊎ ((other ≡ s) × (t ≡ t)) → other ≡ s
    go other (inl theirs) =
        let low : t < t = All-contains (λ u. u < t) (sessions other).commits t (earlier other) theirs in absurd (omega (arith, low))
    go other (inr is) = is.0
