-- By the lemmas on tuples in a view, where a list has exactly its facts.
use Rattle.std.proofs.Common.{◌≡◌, ◌≤◌, List, Bool, ap, subst, sym, ◌∙◌}
use Rattle.std.specs.Prelude.{◌↔◌, Contains, IsTrue}
use Rattle.fb_values.specs.declared.facts.Datom.{Datom}
use Rattle.fb_values.specs.declared.facts.Entry.{Entry}
use Rattle.fb_numbers.specs.Numbers.{greatest_t}
use Rattle.fb_model.specs.History.{basis}
use Rattle.fb_model.specs.Facts.{facts}
use Rattle.fb_model.specs.Lawful.{IsLawful}
use Rattle.fb_model.proofs.Members.{kept, keep}
use Rattle.fb_model.proofs.Times.{upto-basis}
use Rattle.view_model.specs.Window.{Window, whole, without_history}
use Rattle.view_model.specs.View.{InView, seen, is_selected_by, facts_seen}
use Rattle.tuple_model.specs.Tuples.{tuples_seen}
use Rattle.view_model.proofs.Views.{as_of_basis, as_of-upto}
use Rattle.tuple_model.proofs.TupleLists.{tuples-AreTuples}
use Rattle.tuple_model.proofs.SeenRows.{one_list_in, part_of_all, tuples_in_view, tuples_of_facts}
use Rattle.tuple_model.proofs.laws.tuples_in_a_view_are_one_list.Goals as goal

by_tests : (h : List Entry) (w : Window) (filters : List (Datom → Bool)) (d : Datom)
    → Contains (facts_seen h w filters) d ↔ InView h (without_history w) (λ x. IsTrue (is_selected_by filters x)) d
by_tests h w filters d = (
  λ member. let is = kept (is_selected_by filters) (seen h (without_history w)) d member in
      record { is_seen = is.member; is_selected = is.passes },
  λ is.
      keep (is_selected_by filters) (seen h (without_history w)) d is.is_seen is.is_selected,
)

in_whole : (h : List Entry) (Selects : Datom → Type 0) → IsLawful h → basis h ≤ greatest_t → ((d : Datom) → Selects d)
    → (d : Datom) → Contains (facts h) d ↔ InView h (without_history whole) Selects d
in_whole h Selects lawful small each d = (
  λ member. record { is_seen = subst (λ ds. Contains ds d) (sym all_seen) member; is_selected = each d },
  λ is.
      subst (λ ds. Contains ds d) all_seen is.is_seen,
)
  where
    all_seen : seen h (without_history whole) ≡ facts h
    all_seen = sym (as_of_basis h whole lawful) ∙ as_of-upto h (basis h) lawful small ∙ ap facts (upto-basis h lawful)

pub returns-clause-one : goal.returns-clause-one
returns-clause-one g c = λ h w. one_list_in h w _

pub returns-clause-computed : goal.returns-clause-computed
returns-clause-computed g c = λ h w filters attrs start end.
    part_of_all h w (λ d. IsTrue (is_selected_by filters d)) attrs start end (tuples_seen h w filters attrs)
    (tuples_of_facts h w (λ d. IsTrue (is_selected_by filters d)) (facts_seen h w filters) (by_tests h w filters) attrs
    (tuples_seen h w filters attrs) (tuples-AreTuples (facts_seen h w filters) attrs))

pub returns-clause-whole : goal.returns-clause-whole
returns-clause-whole g c = λ h attrs rows lawful small each. (
  tuples_in_view h whole _ (facts h) (in_whole h _ lawful small each) attrs rows,
  tuples_of_facts h whole _ (facts h) (in_whole h _ lawful small each) attrs rows,
)

pub returns-clause-of_a_range : goal.returns-clause-of_a_range
returns-clause-of_a_range g c = λ h w. part_of_all h w _
