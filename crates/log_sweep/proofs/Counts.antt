-- How many datoms of a group stand after one more datom that takes its turn.
use Rattle.std.proofs.Common.{◌≡◌, suc, ◌+◌, ◌-◌, Bool, true, false, cond, not, ◌&&◌, ◌||◌, List, [], ◌∷◌, ◌++◌, refl, ap, sym, ◌∙◌, subst}
use Rattle.std.proofs.Common.{arith, length, eqb, length-append}
use Rattle.std.specs.Prelude.{filter}
use Rattle.std.specs.List.{list_any}
use Rattle.std.proofs.lemmas.Bool.{true≢false, and_parts, or_parts, not-true, ne_eqb}
use Rattle.std.proofs.lemmas.List.{append-nil}
use Rattle.fb_values.specs.declared.facts.Datom.{Datom}
use Rattle.fb_model.specs.Facts.{is_of, standing}
use Rattle.fb_model.proofs.Members.{are_of_other_triples, standing-apart}
use Rattle.fb_model.proofs.Triples.{list_any-same, standing-append, not_followed}
use Rattle.fb_model.proofs.Untouched.{IsOnTriples, filter-append}
use Rattle.log_sweep.specs.declared.law.Law.TheVariants.{ChangesAlone}
use Rattle.log_sweep.specs.Groups.{alike, stands}
use Rattle.log_sweep.proofs.Orders.{alike-of, is_of-sym}

-- ---- none of a list passes, where none of it is counted

pub no_count : (q : Datom → Bool) (ds : List Datom) → eqb (length (filter q ds)) 0 ≡ not (list_any q ds)
no_count q [] = refl
no_count q (d ∷ ds) = go (q d) (no_count q ds)
  where
    go : (b : Bool) → eqb (length (filter q ds)) 0 ≡ not (list_any q ds)
        → eqb (length (cond b (d ∷ filter q ds) (filter q ds))) 0 ≡ not (b || list_any q ds)
    go true rest = ne_eqb (suc (length (filter q ds))) 0 (λ e. omega (arith, e))
    go false rest = rest

pub any-of : (x : Datom) (ds : List Datom) → list_any (alike ChangesAlone x) ds ≡ list_any (is_of x.e x.a x.v) ds
any-of x [] = refl
any-of x (d ∷ ds) = rw (alike-of x d, any-of x ds) refl

-- ---- the facts that are left after one more datom of their triple

module _ (x : Datom) where
  untold : (s : Datom) (b : Bool) → is_of x.e x.a x.v s ≡ b → not_followed (x ∷ []) s ≡ not b
  untold s true is = rw (is_of-sym x s, is) refl
  untold s false is = rw (is_of-sym x s, is) refl

  none_told : (S : List Datom) → list_any (is_of x.e x.a x.v) S ≡ false → filter (not_followed (x ∷ [])) S ≡ S
  none_told [] none = refl
  none_told (s ∷ S) none =
      let parts = or_parts (is_of x.e x.a x.v s) (list_any (is_of x.e x.a x.v) S) none in
      ap (λ b. cond b (s ∷ filter (not_followed (x ∷ [])) S) (filter (not_followed (x ∷ [])) S)) (untold s false parts.0)
      ∙ ap (λ l. s ∷ l) (none_told S parts.1)

  module _ (test : Datom → Bool) (on : IsOnTriples test) (passes : test x ≡ true) where
    one_more : (b : Bool) (s : Datom) (F G : List Datom) → length F + 1 ≡ length G → length (cond b (s ∷ F) F) + 1 ≡ length (cond b (s ∷ G) G)
    one_more true s F G is = omega (arith, is)
    one_more false s F G is = is

    one_less : (S : List Datom) → are_of_other_triples S ≡ true → list_any (is_of x.e x.a x.v) S ≡ true
        → length (filter test (filter (not_followed (x ∷ [])) S)) + 1 ≡ length (filter test S)
    one_less [] apart some = absurd (true≢false (sym some))
    one_less (s ∷ S) apart some =
        let parts = and_parts (not (list_any (is_of s.e s.a s.v) S)) (are_of_other_triples S) apart in
        go (is_of x.e x.a x.v s) refl some (not-true _ parts.0) (one_less S parts.1)
      where
        go : (b : Bool) → is_of x.e x.a x.v s ≡ b → (b || list_any (is_of x.e x.a x.v) S) ≡ true
            → list_any (is_of s.e s.a s.v) S ≡ false
            → (list_any (is_of x.e x.a x.v) S ≡ true → length (filter test (filter (not_followed (x ∷ [])) S)) + 1 ≡ length (filter test S))
            → length (filter test (filter (not_followed (x ∷ [])) (s ∷ S))) + 1 ≡ length (filter test (s ∷ S))
        go true is found alone rest =
            let none = none_told S (sym (list_any-same x.e x.a x.v s S is) ∙ alone) in
            ap (λ b. length (filter test (cond b (s ∷ filter (not_followed (x ∷ [])) S) (filter (not_followed (x ∷ [])) S))) + 1) (untold s true is)
            ∙ ap (λ l. length (filter test l) + 1) none
            ∙ more
            ∙ ap (λ b. length (cond b (s ∷ filter test S) (filter test S))) (sym (sym (on.same x s is) ∙ passes))
          where
            more : length (filter test S) + 1 ≡ suc (length (filter test S))
            more = omega arith
        go false is found alone rest =
            ap (λ b. length (filter test (cond b (s ∷ filter (not_followed (x ∷ [])) S) (filter (not_followed (x ∷ [])) S))) + 1) (untold s false is)
            ∙ one_more (test s) s (filter test (filter (not_followed (x ∷ [])) S)) (filter test S) (rest found)

    -- the datom takes its turn: it is an addition just where none of its triple stands
    pub stand-push : (p : List Datom)
        → cond x.added (eqb (length (filter (alike ChangesAlone x) (standing p))) 0) (not (eqb (length (filter (alike ChangesAlone x) (standing p))) 0))
        ≡ true
        → length (filter test (standing (p ++ x ∷ []))) ≡ stands (length (filter test (standing p))) x
    stand-push p turn =
        let told : eqb (length (filter (alike ChangesAlone x) (standing p))) 0 ≡ not (list_any (is_of x.e x.a x.v) (standing p)) =
        no_count (alike ChangesAlone x) (standing p) ∙ ap not (any-of x (standing p)) in
        ap (λ l. length (filter test l)) (standing-append p (x ∷ []))
        ∙ ap length (filter-append test (filter (not_followed (x ∷ [])) (standing p)) (standing (x ∷ [])))
        ∙ go x.added (subst (λ b. cond x.added b (not b) ≡ true) told turn)
      where
        go : (b : Bool) → cond b (not (list_any (is_of x.e x.a x.v) (standing p))) (not (not (list_any (is_of x.e x.a x.v) (standing p)))) ≡ true
            → length (filter test (filter (not_followed (x ∷ [])) (standing p)) ++ filter test (cond (b && true) (x ∷ []) []))
            ≡ cond b (length (filter test (standing p)) + 1) (length (filter test (standing p)) - 1)
        go true free =
            ap (λ l. length (filter test l ++ filter test (x ∷ []))) (none_told (standing p) (not-true _ free))
            ∙ ap (λ b. length (filter test (standing p) ++ cond b (x ∷ []) [])) passes
            ∙ length-append (filter test (standing p)) (x ∷ [])
        go false held =
            let less = one_less (standing p) (standing-apart p) (held_is (list_any (is_of x.e x.a x.v) (standing p)) held) in
            ap length (append-nil (filter test (filter (not_followed (x ∷ [])) (standing p)))) ∙ omega (arith, less)
          where
            held_is : (b : Bool) → not (not b) ≡ true → b ≡ true
            held_is true is = refl
            held_is false is = is
