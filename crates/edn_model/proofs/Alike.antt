-- Each form is alike to itself.
use Rattle.std.proofs.Common.{◌≡◌, ℕ, Bool, true, false, List, refl, arith}
use Rattle.std.proofs.lemmas.Bool.Decides.{nat_tests, Decides-int_eq}
use Rattle.std.proofs.lemmas.Slice.Eq.{bytes_eq-Decides}
use Rattle.std.specs.Bool.{Decides}
use Rattle.std.specs.Ordering.{int_eq}
use Rattle.std.specs.Prelude.{ℤ, ◌==◌, ◌||◌, ◌&&◌, bytes_eq}
use Rattle.edn_model.specs.Form as form
use Rattle.edn_model.specs.Likeness.{alike, alike_in_order, forms_among, pairs_among, any, any_pair, count, count_pairs, bool_eq}
use Rattle.edn_model.proofs.Runs.{both_true}

decided : {P : Type 0} (b : Bool) → Decides b P → P → b ≡ true
decided b d p = d.1 p

same_int : (z : ℤ) → int_eq z z ≡ true
same_int z = decided (int_eq z z) (Decides-int_eq z z) refl

same_bytes : (s : List ℕ) → bytes_eq s s ≡ true
same_bytes s = decided (bytes_eq s s) (bytes_eq-Decides s s) refl

same_number : (n : ℕ) → (n == n) ≡ true
same_number n = grind (arith, nat_tests)

same_bool : (b : Bool) → bool_eq b b ≡ true
same_bool true = refl
same_bool false = refl

either_left : (a b : Bool) → a ≡ true → (a || b) ≡ true
either_left true b h = refl
either_left false b h = cc

either_right : (a b : Bool) → b ≡ true → (a || b) ≡ true
either_right true b h = refl
either_right false b h = h

mutual
  pub alike-self : (f : form.Form) → alike f f ≡ true
  alike-self form.nil = refl
  alike-self (form.boolean b) = same_bool b
  alike-self (form.integer z) = same_int z
  alike-self (form.string s) = same_bytes s
  alike-self (form.symbol s) = same_bytes s
  alike-self (form.keyword k) = same_bytes k
  alike-self (form.list fs) = in_order-self fs
  alike-self (form.vector fs) = in_order-self fs
  alike-self (form.map ps) =
      both_true (count_pairs ps == count_pairs ps) (pairs_among ps ps) (same_number (count_pairs ps)) (pairs_among-self ps ps (λ test h. h))
  alike-self (form.set fs) =
      both_true (count fs == count fs) (forms_among fs fs) (same_number (count fs)) (forms_among-self fs fs (λ test h. h))
  alike-self (form.instant z) = same_int z
  alike-self (form.uuid n) = same_number n

  in_order-self : (fs : form.Forms) → alike_in_order fs fs ≡ true
  in_order-self form.no_forms = refl
  in_order-self (form.form f fs) = both_true (alike f f) (alike_in_order fs fs) (alike-self f) (in_order-self fs)

  forms_among-self : (fs gs : form.Forms) → ((test : form.Form → Bool) → any test fs ≡ true → any test gs ≡ true) → forms_among fs gs ≡ true
  forms_among-self form.no_forms gs within = refl
  forms_among-self (form.form f fs) gs within =
      both_true (any (alike f) gs) (forms_among fs gs) (within (alike f) (either_left (alike f f) (any (alike f) fs) (alike-self f)))
      (forms_among-self fs gs (λ test h. within test (either_right (test f) (any test fs) h)))

  pairs_among-self : (ps qs : form.Pairs)
      → ((test : form.Form → form.Form → Bool) → any_pair test ps ≡ true → any_pair test qs ≡ true) → pairs_among ps qs ≡ true
  pairs_among-self form.no_pairs qs within = refl
  pairs_among-self (form.pair k v ps) qs within =
      let test : form.Form → form.Form → Bool = λ l w. alike k l && alike v w in
      both_true (any_pair test qs) (pairs_among ps qs)
      (within test (either_left (test k v) (any_pair test ps) (both_true (alike k k) (alike v v) (alike-self k) (alike-self v))))
      (pairs_among-self ps qs (λ other h. within other (either_right (other k v) (any_pair other ps) h)))
