use Rattle.std.proofs.Common.{◌<◌, ◌∷◌, ◌++◌, length, ap, ◌∙◌, inl, inr, arith, sym, subst}
use Rattle.std.proofs.lemmas.Bool.Decides.{nat_tests}
use Rattle.edn_model.specs.Tokens.{IsName}
use Rattle.edn_token.proofs.Names.{name_bytes, whole_run, parted, one_name, two_names, no_names}
use Rattle.edn_token.proofs.name.are_names.Goals as goal

pub returns-in_default : goal.returns-in_default
returns-in_default c =
    let text = c.args.text.now in
    let first = c.split_name.result.0.now in
    let run = c.split_name.ensures in
    let none = c.in_default.ensures.cases in (
      λ e. inl
          (subst IsName (sym (whole_run text first _ run none)) ((let empty = c.is_empty.ensures in grind (arith, nat_tests)), run.each)),
      λ h. let one =
          one_name IsName name_bytes text first _ run none h in let some : 0 < length first = one.0 in let empty = c.is_empty.ensures in
          grind (arith, nat_tests),
    )

pub returns-then-b-ne47 : goal.returns-then-b-ne47
returns-then-b-ne47 c = (
  λ e. absurd (let wrong = e in cc),
  λ h. absurd (no_names IsName name_bytes c.args.text.now _ _ c.in-Some.second.now c.in-Some.b.now c.split_name.ensures
      c.in-Some.ensures.cases.0 (λ e. let other = c.if-b-ne47.true in omega arith) h),
)

pub returns-then-not-is_empty : goal.returns-then-not-is_empty
returns-then-not-is_empty c =
    let text = c.args.text.now in
    let first = c.split_name.result.0.now in
    let second = c.in-Some.second.now in
    let run = c.split_name.ensures in
    let is = c.in-Some.ensures.cases.0 in
    let some : 0 < length first = let empty = c.is_empty-2.ensures in let was = c.if-not-is_empty.true in grind (arith, nat_tests) in (
      λ e. inr (
        first,
        second,
        parted text first _ second _ run is ∙ ap (λ z. first ++ z ∷ second) c.if-b-ne47.false,
        (some, run.each),
        c.is_name.ensures.0 e,
      ),
      λ h. c.is_name.ensures.1 (two_names IsName name_bytes text first _ second _ run is c.if-b-ne47.false h).1,
    )

pub returns-else-not-is_empty : goal.returns-else-not-is_empty
returns-else-not-is_empty c =
    let first = c.split_name.result.0.now in (
      λ e. absurd (let wrong = e in cc),
      λ h. absurd (
          let some : 0 < length first =
          (two_names IsName name_bytes c.args.text.now first _ c.in-Some.second.now _ c.split_name.ensures c.in-Some.ensures.cases.0
          c.if-b-ne47.false h).0.0 in
          let empty = c.is_empty-2.ensures in let was = c.if-not-is_empty.false in grind (arith, nat_tests)
          ),
    )
