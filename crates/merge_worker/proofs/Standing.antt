-- Trees of a history's first entries are of a longer history's too.
use Rattle.std.proofs.Common.{◌≡◌, ◌∙◌, ℕ, ◌+◌, ◌<◌, ◌≤◌, List, ◌++◌, length, length-append, sym, ap, subst, arith}
use Rattle.fb_values.specs.declared.facts.Entry.{Entry}
use Rattle.fb_values.specs.Lists.{list_in}
use Rattle.fb_model.specs.Rising.{IsRisingListOf}
use Rattle.fb_model.specs.History.{basis, upto}
use Rattle.fb_model.specs.Lawful.{IsLawful}
use Rattle.fb_model.proofs.LawfulHistories.{IsLawful-length}
use Rattle.fb_model.proofs.OneMoreEntry.{upto-append}
use Rattle.view_model.specs.Stands.{IsIndexed}
use Rattle.seg_tree.specs.Indexes.{trees_of}
use Rattle.fb_roots.specs.declared.bases.Base.{Base}
use Rattle.fb_roots.specs.Bases.{IsBaseOf}

pub of_longer : (base : Base) (h now rest : List Entry) (c : ℕ) → IsLawful h → IsLawful now → now ≡ h ++ rest → IsBaseOf base h c
    → IsBaseOf base now c
of_longer base h now rest c first lawful begins of =
    let few = IsLawful-length h first in let all = IsLawful-length now lawful in
    let longer : length now ≡ length h + length rest = ap (λ (l : List Entry). length l) begins ∙ length-append h rest in
    let bound : c ≤ basis h = of.1.bound in let within : c < length h = omega (arith, few, bound) in
    let past : upto now c ≡ upto h c = ap (λ (l : List Entry). upto l c) begins ∙ upto-append h rest c within in (
      of.0,
      record {
        bound = omega (arith, few, all, longer, bound);
        trees = λ order.
            subst (λ (l : List Entry). IsRisingListOf order (list_in (trees_of base.roots) order) (IsIndexed l order)) (sym past)
            (of.1.trees order);
      },
    )
