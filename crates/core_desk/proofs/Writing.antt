-- Cores to which one session alone writes.
use Rattle.std.proofs.Common.{◌≡◌, ◌∙◌, ℕ, ◌+◌, List, [], ◌∷◌, ◌++◌, length, refl, sym, ap, subst, arith}
use Rattle.std.specs.List.{AllByRecursion}
use Rattle.std.proofs.lemmas.List.{length-append}
use Rattle.fb_model.specs.History.{basis}
use Rattle.fb_core.specs.declared.shared.CoreParts.{CoreParts}
use Rattle.fb_core.specs.declared.accepting.Draft.{Draft}
use Rattle.fb_core.specs.Cores.{CoreStands, IsDraftOf}
use Rattle.fb_core.specs.Worlds.{commits_behind}
use Rattle.fb_core.proofs.Commits.{commits_behind-push}
use Rattle.core_desk.specs.Alone.{opening_of, IsAlone}

-- the core that has accepted the draft
abbrev pub with_draft : Draft → CoreParts
with_draft draft = record { snapshot = draft.after; authors = draft.authors }

by_session-push : (authors : List ℕ) → AllByRecursion (λ author. author ≡ 0) authors
    → AllByRecursion (λ author. author ≡ 0) (authors ++ 0 ∷ [])
by_session-push [] all = (refl, tt)
by_session-push (author ∷ authors) all = (all.0, by_session-push authors all.1)

pub opening_stays : (core : CoreParts) (draft : Draft) → basis draft.after.entries ≡ basis core.snapshot.entries + 1
    → IsDraftOf core 0 draft → opening_of (with_draft draft) ≡ opening_of core
opening_stays core draft last is =
    let count : length draft.authors ≡ length core.authors + 1 = ap length is.authors ∙ length-append core.authors (0 ∷ []) in
    omega (arith, last, count)

pub one_more : (core : CoreParts) (draft : Draft) (commits : List ℕ) → CoreStands (with_draft draft)
    → basis draft.after.entries ≡ basis core.snapshot.entries + 1 → IsDraftOf core 0 draft → IsAlone core commits
    → IsAlone (with_draft draft) (commits ++ basis draft.after.entries ∷ [])
one_more core draft commits stands last is alone =
    let opening = opening_of core in
    let fits = stands.authors in
    let count : length draft.authors ≡ length core.authors + 1 = ap length is.authors ∙ length-append core.authors (0 ∷ []) in
    let next : opening + length core.authors + 1 ≡ basis draft.after.entries = omega (arith, last, fits, count) in
    record {
      by_session = subst (AllByRecursion (λ author. author ≡ 0)) (sym is.authors) (by_session-push core.authors alone.by_session);
      commits_are =
          ap (λ ts. ts ++ basis draft.after.entries ∷ []) alone.commits_are
          ∙ ap (λ t. commits_behind opening 0 core.authors ++ t ∷ []) (sym next)
          ∙ sym (commits_behind-push opening 0 core.authors 0)
          ∙ ap (commits_behind opening 0) (sym is.authors)
          ∙ ap (λ t. commits_behind t 0 draft.authors) (sym (opening_stays core draft last is));
    }
