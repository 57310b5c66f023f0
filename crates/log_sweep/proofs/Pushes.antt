-- One entry more that keeps what is asked of it alone.
use Rattle.std.proofs.Common.{◌≡◌, ℕ, ◌+◌, ◌<◌, List, [], ◌∷◌, ◌++◌, ap, sym, ◌∙◌, subst, append_assoc, take, length, get_or}
use Rattle.std.proofs.lemmas.List.{append-nil, take_more}
use Rattle.fb_values.specs.declared.facts.Entry.{Entry}
use Rattle.log_sweep.specs.Alone.{KeepsAlone, KeepAlone}

pub KeepAlone-push : (h rest : List Entry) (entry : Entry) → KeepAlone h rest → KeepsAlone (h ++ rest) entry
    → KeepAlone h (rest ++ entry ∷ [])
KeepAlone-push h [] entry keep keeps = (subst (λ k. KeepsAlone k entry) (append-nil h) keeps, tt)
KeepAlone-push h (e ∷ rest) entry keep keeps = (
  keep.0,
  KeepAlone-push (h ++ e ∷ []) rest entry keep.1 (subst (λ k. KeepsAlone k entry) (sym (append_assoc h (e ∷ []) rest)) keeps),
)

-- the entries up to the next place
pub take_next : (entries : List Entry) (i : ℕ) (entry : Entry) → i < length entries → entry ≡ get_or entries i entry
    → take (i + 1) entries ≡ take i entries ++ entry ∷ []
take_next entries i entry within is = take_more entries i entry within ∙ ap (λ e. take i entries ++ e ∷ []) (sym is)
