-- Trees that are ahead over a longer history, and trees over a store that has more.
use Rattle.std.proofs.Common.{◌∙◌, ℕ, List, Option, None, Some, inl, inr, sym, subst}
use Rattle.std.specs.Prelude.{IfSome}
use Rattle.fb_values.specs.declared.facts.Entry.{Entry}
use Rattle.fb_roots.specs.declared.bases.Base.{Base}
use Rattle.fb_roots.specs.Bases.{IsBaseOf}
use Rattle.merge_worker.specs.Work.{IsOldOrKept, AreAhead, AreOldOrKept}

pub ahead_of_longer : (ahead : Option Base) (old new : List Entry) → ((trees : Base) (c : ℕ) → IsBaseOf trees old c → IsBaseOf trees new c)
    → AreAhead ahead old → AreAhead ahead new
ahead_of_longer None old new longer of = of
ahead_of_longer (Some trees) old new longer of = longer trees trees.c of

module _ {S : Type 0} (keeps : Base → S → Type 0) (old new : S) (stays : (older : Base) → keeps older old → keeps older new) where
  base_still : (first mid last : Base) → IsOldOrKept keeps first old mid → IsOldOrKept keeps mid new last → IsOldOrKept keeps first new last
  base_still first mid last (inl same) (inl again) = inl (again ∙ same)
  base_still first mid last (inr kept) (inl again) = inr (subst (λ (base : Base). keeps base new) (sym again) (stays mid kept))
  base_still first mid last before (inr kept) = inr kept

  still_kept : (ahead : Option Base) → IfSome ahead (λ trees. keeps trees old) → IfSome ahead (λ trees. keeps trees new)
  still_kept None kept = kept
  still_kept (Some trees) kept = stays trees kept

  ahead_still : (first mid last : Option Base) → AreOldOrKept keeps first old mid → AreOldOrKept keeps mid new last
      → AreOldOrKept keeps first new last
  ahead_still first mid last (inl same) (inl again) = inl (again ∙ same)
  ahead_still first mid last (inr kept) (inl again) =
      inr (subst (λ (ahead : Option Base). IfSome ahead (λ trees. keeps trees new)) (sym again) (still_kept mid kept))
  ahead_still first mid last before (inr kept) = inr kept

-- over rounds, by what the store was when it was begun
module _ {S : Type 0} (goes : S → S → Type 0) (keeps : S → Base → S → Type 0) (first old new : S)
    (goes_on : (begun : S) → goes begun first → goes begun old)
    (stays : (begun : S) (older : Base) → goes begun old → keeps begun older old → keeps begun older new) where
  pub base_later : (was mid now : Base) → ((begun : S) → goes begun first → IsOldOrKept (keeps begun) was old mid)
      → ((begun : S) → goes begun old → IsOldOrKept (keeps begun) mid new now)
      → (begun : S) → goes begun first → IsOldOrKept (keeps begun) was new now
  base_later was mid now before after begun going =
      base_still (keeps begun) old new (λ older. stays begun older (goes_on begun going)) was mid now (before begun going)
      (after begun (goes_on begun going))

  pub ahead_later : (was mid now : Option Base) → ((begun : S) → goes begun first → AreOldOrKept (keeps begun) was old mid)
      → ((begun : S) → goes begun old → AreOldOrKept (keeps begun) mid new now)
      → (begun : S) → goes begun first → AreOldOrKept (keeps begun) was new now
  ahead_later was mid now before after begun going =
      ahead_still (keeps begun) old new (λ older. stays begun older (goes_on begun going)) was mid now (before begun going)
      (after begun (goes_on begun going))
