-- Lawful histories as the board sees them, and the longer of two.
use Rattle.std.proofs.Common.{◌≡◌, ◌∙◌, ℕ, zero, suc, ◌<◌, ◌≤◌, Bool, true, false, nat_lt, if◌then◌else◌, List, [], ◌∷◌, ◌++◌, length, take}
use Rattle.std.proofs.Common.{sym, ap, subst, arith, append_assoc}
use Rattle.std.proofs.lemmas.Bool.{lt-ltb, le-ltb}
use Rattle.std.proofs.lemmas.List.{append-nil}
use mathlib.Core.Option.{some, some-injective, some-ne-none}
use lib.ListN.{get_elem?}
use Rattle.fb_values.specs.declared.facts.Entry.{Entry}
use Rattle.fb_model.specs.History.{basis, upto}
use Rattle.fb_model.specs.Lawful.{IsLawful, IsLawfulAfter, IsLawfulFrom}
use Rattle.fb_model.proofs.LawfulHistories.{IsLawful-length}
use Rattle.fb_model.proofs.OneMoreEntry.{upto-append}
use Rattle.fb_model.proofs.Times.{upto-basis}
use Rattle.board_rule.specs.Views.{longer, IsLawful as EachFollows}
use Rattle.fb_conn.specs.Homes.{follows}

-- the last entry of a lawful history may follow those before it
pub follows_lawful : (h : List Entry) (entry : Entry) → IsLawful (h ++ entry ∷ []) → IsLawfulAfter h entry → follows h entry
follows_lawful [] entry lawful next = lawful.0
follows_lawful (first ∷ rest) entry lawful next = next

behind : (h rest : List Entry) (i : ℕ) (entry : Entry) → IsLawfulFrom h rest → get_elem? rest i ≡ some entry
    → IsLawfulAfter (h ++ take i rest) entry
behind h [] i entry lawful at = absurd (some-ne-none entry (sym at))
behind h (next ∷ rest) zero entry lawful at =
    subst (λ (e : Entry). IsLawfulAfter (h ++ []) e) (some-injective next entry at)
    (subst (λ (l : List Entry). IsLawfulAfter l next) (sym (append-nil h)) lawful.0)
behind h (next ∷ rest) (suc i) entry lawful at =
    subst (λ (l : List Entry). IsLawfulAfter l entry) (append_assoc h (next ∷ []) (take i rest))
    (behind (h ++ next ∷ []) rest i entry lawful.1 at)

pub each_follows : (h : List Entry) → IsLawful h → EachFollows follows h
each_follows [] lawful i entry at = absurd lawful
each_follows (first ∷ rest) lawful zero entry at = sym (some-injective first entry at) ∙ lawful.0
each_follows (first ∷ rest) lawful (suc i) entry at = behind (first ∷ []) rest i entry lawful.1 at

-- a lawful beginning of a history is that up to its basis
pub begins_there : (h begin rest : List Entry) → IsLawful begin → h ≡ begin ++ rest → upto h (basis begin) ≡ begin
begins_there h begin rest lawful begins =
    let count = IsLawful-length begin lawful in let within : basis begin < length begin = omega (arith, count) in
    ap (λ (l : List Entry). upto l (basis begin)) begins ∙ (upto-append begin rest (basis begin) within ∙ upto-basis begin lawful)

module _ (a b : List Entry) (first : IsLawful a) (second : IsLawful b) where
  pub later_is_longer : basis a < basis b → b ≡ longer a b
  later_is_longer less =
      let m = IsLawful-length a first in let n = IsLawful-length b second in
      let test : nat_lt (length a) (length b) ≡ true = lt-ltb (length a) (length b) (omega (arith, m, n)) in
      sym (ap (λ (t : Bool). if t then b else a) test)

  pub no_later_is_longer : basis b ≤ basis a → a ≡ longer a b
  no_later_is_longer le =
      let m = IsLawful-length a first in let n = IsLawful-length b second in
      let within : length b ≤ length a = omega (arith, m, n) in
      let test : nat_lt (length a) (length b) ≡ false = le-ltb (length a) (length b) within in
      sym (ap (λ (t : Bool). if t then b else a) test)
