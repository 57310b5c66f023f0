-- What a run promises: the accepted transactions form one history, and each reply is that of
-- a database with one thread at a prefix of the history which holds all that its session had seen.
-- This project's own choice.
use Rattle.std.specs.Prelude.{◌≡◌, ℕ, ◌+◌, ◌<◌, ◌==◌, List, [], ◌∷◌, ◌++◌, Option, length}
use Rattle.std.specs.Prelude.{slice_index_or, IfSome}
use Rattle.std.specs.Option.{option_map}
use Rattle.std.specs.List.{AllByRecursion}
use Rattle.std.specs.List.Sorted.{IsStrictlyIncreasing}
use Rattle.fb_values.specs.declared.facts.Entry.{Entry}
use Rattle.fb_model.specs.History.{basis}
use Rattle.fb_model.specs.Lawful.{IsLawful}
use Rattle.fb_core.specs.declared.accepting.Draft.{Draft}
use Rattle.fb_core.specs.Worlds.{commits_behind}
use Rattle.fb_ports.specs.HostSpec.{HostSpec}
use Rattle.fb_session.specs.Terms.{Terms}
use Rattle.fb_session.specs.Replies.{Replies}
use Rattle.fb_run.specs.declared.outcome.SessionOut.{SessionOut}
use Rattle.fb_run.specs.Outside.{StreamSpec, run_of, setting_of, EachOf}

-- The history is lawful. Each t after the opening's has one author, a session, and is
-- among the commits of that session and of no other. Commits strictly rise, and have nothing else.
pub record OneHistory (h : List Entry) (opening : ℕ) (authors : List ℕ) (commits : List (List ℕ))
    : Type 0 where
  pub lawful : IsLawful h
  pub each_t : opening + length authors ≡ basis h
  pub by_sessions : AllByRecursion (λ author. author < length commits) authors
  pub own : (session : ℕ) → session < length commits
      → slice_index_or commits session [] ≡ commits_behind opening session authors
  pub rising : AllByRecursion IsStrictlyIncreasing commits

-- the t that the log did not take: that of the transaction that it did not take
abbrev pub stop_of : Option Draft → Option ℕ
stop_of torn = option_map (λ draft. basis draft.after.entries) torn

-- The session of each script answered it over the one history since its opening,
-- where one session at most, the teller, asked for what the log did not take:
-- the torn transaction names it beside the authors of the history.
abbrev pub EachReplies : {I O : Type 0} → Terms → HostSpec → StreamSpec I O → ℕ → Option Draft
    → List ℕ → List (List ℕ) → List (SessionOut I O) → List Entry → Type 0
EachReplies {I} {O} terms spec io opening torn authors scripts sessions h =
    (teller : ℕ)
    × EachOf (λ n name (s : SessionOut I O).
    Replies (setting_of terms h (stop_of torn) (teller == n)) opening (run_of spec io name s))
    0 scripts sessions
    × IfSome torn (λ draft. draft.authors ≡ authors ++ teller ∷ [])
