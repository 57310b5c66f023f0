-- Two rising lists that are merged part by part.
use Rattle.std.proofs.Common.{◌⊎◌, List, [], ◌++◌, inl, inr}
use Rattle.std.specs.Prelude.{◌↔◌, Contains}
use Rattle.std.proofs.lemmas.List.Elements.{Contains-append_left, Contains-append_right, Contains-append_cases}
use Rattle.fb_values.specs.declared.facts.Datom.{Datom}
use Rattle.fb_values.specs.declared.indexes.Order.{Order}
use Rattle.fb_values.specs.Rising.{IsRising}
use Rattle.live_index.proofs.Members.{contains_none}
use Rattle.seg_merge.proofs.Before.{Before, rising_join}

-- the rising list of the first part of one list, as far as P holds, and of the first part of the other; the rest of both
-- stands behind it
pub record Merges (order : Order) (P : Datom → Type 0) (seen rest taken left out : List Datom) : Type 0 where
  pub rising : IsRising order out
  pub members : (d : Datom) → Contains out d ↔ ((Contains seen d × P d) ⊎ Contains taken d)
  pub before_rest : Before order out rest
  pub before_left : Before order out left

pub merges_none : (order : Order) (P : Datom → Type 0) (rest left : List Datom) → Merges order P [] rest [] left []
merges_none order P rest left = record {
  rising = tt;
  members = λ d. (
    λ there. absurd (contains_none d there),
    λ given. elim given [
      | inl seen ↦ absurd (contains_none d seen.0)
      | inr taken ↦ absurd (contains_none d taken)
    ],
  );
  before_rest = λ x y there at. absurd (contains_none x there);
  before_left = λ x y there at. absurd (contains_none x there);
}

-- what is due next
pub record IsNext (order : Order) (P : Datom → Type 0) (old rest added left piece : List Datom) : Type 0 where
  pub rising : IsRising order piece
  pub members : (d : Datom) → Contains piece d ↔ ((Contains old d × P d) ⊎ Contains added d)
  pub before_rest : Before order piece rest
  pub before_left : Before order piece left

piece_behind : (order : Order) (P : Datom → Type 0) (seen old rest taken added left out piece : List Datom)
    → Merges order P seen (old ++ rest) taken (added ++ left) out → IsNext order P old rest added left piece → Before order out piece
piece_behind order P seen old rest taken added left out piece m next x y there at =
    elim ((next.members y).0 at) [
      | inl of_old ↦ m.before_rest x y there (Contains-append_left old rest y of_old.0)
      | inr of_added ↦ m.before_left x y there (Contains-append_left added left y of_added)
    ]

join_before : (order : Order) (out piece later : List Datom) → Before order out later → Before order piece later
    → Before order (out ++ piece) later
join_before order out piece later front back x y there at =
    elim (Contains-append_cases out piece x there) [
      | inl l ↦ front x y l at
      | inr r ↦ back x y r at
    ]

pub merges_more : (order : Order) (P : Datom → Type 0) (seen old rest taken added left out piece : List Datom)
    → Merges order P seen (old ++ rest) taken (added ++ left) out → IsNext order P old rest added left piece
    → Merges order P (seen ++ old) rest (taken ++ added) left (out ++ piece)
merges_more order P seen old rest taken added left out piece m next = record {
  rising = rising_join order out piece m.rising next.rising (piece_behind order P seen old rest taken added left out piece m next);
  members = λ d. (
    λ there. elim (Contains-append_cases out piece d there) [
      | inl l ↦ elim ((m.members d).0 l) [
        | inl a ↦ inl (Contains-append_left seen old d a.0, a.1)
        | inr b ↦ inr (Contains-append_left taken added d b)
      ]
      | inr r ↦ elim ((next.members d).0 r) [
        | inl a ↦ inl (Contains-append_right seen old d a.0, a.1)
        | inr b ↦ inr (Contains-append_right taken added d b)
      ]
    ],
    λ given. elim given [
      | inl a ↦ elim (Contains-append_cases seen old d a.0) [
        | inl s ↦ Contains-append_left out piece d ((m.members d).1 (inl (s, a.1)))
        | inr o ↦ Contains-append_right out piece d ((next.members d).1 (inl (o, a.1)))
      ]
      | inr b ↦ elim (Contains-append_cases taken added d b) [
        | inl s ↦ Contains-append_left out piece d ((m.members d).1 (inr s))
        | inr o ↦ Contains-append_right out piece d ((next.members d).1 (inr o))
      ]
    ],
  );
  before_rest =
      join_before order out piece rest (λ x y there at. m.before_rest x y there (Contains-append_right old rest y at)) next.before_rest;
  before_left =
      join_before order out piece left (λ x y there at. m.before_left x y there (Contains-append_right added left y at)) next.before_left;
}
