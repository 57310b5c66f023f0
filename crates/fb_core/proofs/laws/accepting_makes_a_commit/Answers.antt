use Rattle.std.proofs.Common.{◌≡◌, ◌∙◌, ◌+◌, List, [], ◌∷◌, ◌++◌, length, refl, sym, ap, arith}
use Rattle.std.specs.Prelude.{nat_eq}
use Rattle.std.proofs.lemmas.List.{length-append}
use Rattle.fb_values.specs.declared.facts.Entry.{Entry}
use Rattle.fb_model.specs.History.{basis}
use Rattle.fb_model.proofs.Times.{next_t}
use Rattle.tx_model.specs.Step.{step}
use Rattle.event_model.specs.Event.{with_commit}
use Rattle.fb_core.specs.Cores.{entry_of}
use Rattle.fb_core.specs.Worlds.{commits_behind}
use Rattle.fb_core.proofs.Histories.{next_basis}
use Rattle.fb_core.proofs.Commits.{own, commits_behind-push, one_more}
use Rattle.fb_core.proofs.laws.accepting_makes_a_commit.Goals as goal

pub returns : goal.returns
returns c =
    record {
      happens = λ core world s draft guard asked reading is no_stop decided.
          (entry_of draft, draft.tempids.items, no_stop, ap (λ (h : List Entry). step h asked reading guard) is.history ∙ decided, refl);
      core = λ core world s draft is drafted.
          let entry = entry_of draft in
          let grown : world.history ++ entry ∷ [] ≡ draft.after.entries =
          ap (λ (h : List Entry). h ++ entry ∷ []) is.history ∙ sym drafted.entries in
          let before : basis core.snapshot.entries ≡ world.opening + length core.authors = sym (ap basis is.history) ∙ is.opening in
          let last : basis (world.history ++ entry ∷ []) ≡ basis core.snapshot.entries + 1 =
          ap (λ (h : List Entry). basis (h ++ entry ∷ [])) is.history ∙ next_basis core.snapshot.entries entry drafted.next in
          let count : length draft.authors ≡ length core.authors + 1 = ap length drafted.authors ∙ length-append core.authors (s ∷ []) in
          let at : entry.t ≡ world.opening + length core.authors + 1 =
          next_t core.snapshot.entries entry drafted.next ∙ ap (λ n. n + 1) before in
          record {
            history = grown;
            adopted = is.adopted ∙ sym drafted.covered;
            opening = omega (arith, before, last, count);
            commits = λ other.
                one_more (nat_eq other s) (with_commit entry.t (world.sessions other)) (world.sessions other)
                (commits_behind world.opening other core.authors) entry.t (ap (λ ts. ts ++ entry.t ∷ []) (is.commits other))
                (is.commits other)
                ∙ ap (λ t. commits_behind world.opening other core.authors ++ own other s t) at
                ∙ sym (commits_behind-push world.opening other core.authors s)
                ∙ ap (commits_behind world.opening other) (sym drafted.authors);
          };
    }
