-- Rising lists of datoms by their members.
use Rattle.std.proofs.Common.{◌≡◌, inl, inr, List, [], ◌∷◌, ◌++◌, subst}
use Rattle.std.specs.Prelude.{Contains}
use Rattle.std.specs.Cmp.{tied_itself}
use Rattle.std.specs.declared.cmp.Ordering.TheVariants.{Less, Equal}
use Rattle.std.proofs.lemmas.List.Elements.{Contains-append_right}
use Rattle.fb_values.specs.declared.facts.Datom.{Datom}
use Rattle.fb_values.specs.declared.indexes.Order.{Order}
use Rattle.fb_values.specs.Orders.{key_cmp}
use Rattle.fb_values.specs.OrderLaws.{key_cmp-Equal, key_cmp_total}
use Rattle.fb_values.specs.Rising.{IsBelowAll, IsRising}
use Rattle.fb_values.proofs.Rising.{rises_from}
use Rattle.fb_model.proofs.InOrder.{one_rising_list}
use Rattle.fb_model.proofs.Members.{here, there, cases_of, none_of}
use Rattle.live_runs.specs.Changed.{HasNoTwins}

pub before_member : (order : Order) (x : Datom) (ds : List Datom) (d : Datom) → IsBelowAll order x ds → Contains ds d
    → key_cmp order x d ≡ Less
before_member order x [] d before inside = absurd (none_of d inside)
before_member order x (y ∷ ds) d before inside =
    elim (cases_of y d ds inside) [
      | inl same ↦ subst (λ (z : Datom). key_cmp order x z ≡ Less) same before.0
      | inr behind ↦ before_member order x ds d before.1 behind
    ]

pub before_all : (order : Order) (x : Datom) (ds : List Datom) → ((d : Datom) → Contains ds d → key_cmp order x d ≡ Less)
    → IsBelowAll order x ds
before_all order x [] each = tt
before_all order x (y ∷ ds) each = (each y (here y ds), before_all order x ds (λ d inside. each d (there y d ds inside)))

-- two rising lists of the same members are one
pub same_list : (order : Order) (ds es : List Datom) → IsRising order ds → IsRising order es
    → ((d : Datom) → Contains ds d → Contains es d) → ((d : Datom) → Contains es d → Contains ds d) → ds ≡ es
same_list order ds es rising also forth back =
    one_rising_list order ds es (rises_from order ds rising) (rises_from order es also) forth back

pub not_below_itself : (order : Order) (d : Datom) → key_cmp order d d ≡ Less → ⊥
not_below_itself order d less = let tied : key_cmp order d d ≡ Equal = tied_itself (key_cmp_total order) d in absurd (cc)

pub not_both_ways : (order : Order) (x y : Datom) → key_cmp order x y ≡ Less → key_cmp order y x ≡ Less → ⊥
not_both_ways order x y less more = not_below_itself order x ((key_cmp_total order).trans x y x less more)

-- what stands before all datoms of a list is none of them
pub not_behind_itself : (order : Order) (d : Datom) (ds : List Datom) → IsBelowAll order d ds → Contains ds d → ⊥
not_behind_itself order d ds before inside = not_below_itself order d (before_member order d ds d before inside)

-- datoms of one key are one
pub one_key : (order : Order) (table : List Datom) (x y : Datom) → HasNoTwins table → Contains table x → Contains table y
    → key_cmp order x y ≡ Equal → x ≡ y
one_key order table x y single x_in y_in equal = single x y x_in y_in (key_cmp-Equal order x y equal)

-- a list behind another one
abbrev pub AreBefore : Order → List Datom → List Datom → Type 0
AreBefore order xs ys = (x y : Datom) → Contains xs x → Contains ys y → key_cmp order x y ≡ Less

pub rising-append : (order : Order) (xs ys : List Datom) → IsRising order xs → IsRising order ys → AreBefore order xs ys
    → IsRising order (xs ++ ys)
rising-append order [] ys rising also before = also
rising-append order (x ∷ xs) ys rising also before = (
  both order x xs ys rising.0 (before_all order x ys (λ y inside. before x y (here x xs) inside)),
  rising-append order xs ys rising.1 also (λ z y z_in y_in. before z y (there x z xs z_in) y_in),
)
  where
    both : (order : Order) (x : Datom) (xs ys : List Datom) → IsBelowAll order x xs → IsBelowAll order x ys → IsBelowAll order x (xs ++ ys)
    both order x [] ys all also = also
    both order x (z ∷ zs) ys all also = (all.0, both order x zs ys all.1 also)

pub rising_parts : (order : Order) (xs ys : List Datom) → IsRising order (xs ++ ys) → AreBefore order xs ys
rising_parts order [] ys rising x y x_in y_in = absurd (none_of x x_in)
rising_parts order (z ∷ xs) ys rising x y x_in y_in =
    elim (cases_of z x xs x_in) [
      | inl same ↦
          subst (λ (w : Datom). key_cmp order w y ≡ Less) same
          (before_member order z (xs ++ ys) y rising.0 (Contains-append_right xs ys y y_in))
      | inr behind ↦ rising_parts order xs ys rising.1 x y behind y_in
    ]

pub rising_right : (order : Order) (xs ys : List Datom) → IsRising order (xs ++ ys) → IsRising order ys
rising_right order [] ys rising = rising
rising_right order (x ∷ xs) ys rising = rising_right order xs ys rising.1
