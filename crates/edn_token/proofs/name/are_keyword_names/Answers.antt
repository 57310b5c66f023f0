use Rattle.std.proofs.Common.{◌∷◌, ◌++◌, ap, ◌∙◌, inl, inr, sym, subst, arith}
use Rattle.edn_model.specs.Tokens.{IsKeywordName}
use Rattle.edn_token.proofs.Names.{keyword_name_bytes, whole_run, parted, one_name, two_names, no_names, begun_name}
use Rattle.edn_token.proofs.name.are_keyword_names.Goals as goal

pub returns-in_default : goal.returns-in_default
returns-in_default c =
    let text = c.args.text.now in
    let first = c.split_name.result.0.now in
    let run = c.split_name.ensures in
    let none = c.in_default.ensures.cases in (
      λ e. inl (subst IsKeywordName (sym (whole_run text first _ run none)) (begun_name first run.each (sym c.begins_keyword.ensures ∙ e))),
      λ h. c.begins_keyword.ensures ∙ (one_name IsKeywordName keyword_name_bytes text first _ run none h).1,
    )

pub returns-then-b-ne47 : goal.returns-then-b-ne47
returns-then-b-ne47 c = (
  λ e. absurd (let wrong = e in cc),
  λ h. absurd (no_names IsKeywordName keyword_name_bytes c.args.text.now _ _ c.in-Some.second.now c.in-Some.b.now c.split_name.ensures
      c.in-Some.ensures.cases.0 (λ e. let other = c.if-b-ne47.true in omega arith) h),
)

pub returns-then-begins_keyword : goal.returns-then-begins_keyword
returns-then-begins_keyword c =
    let text = c.args.text.now in
    let first = c.split_name.result.0.now in
    let second = c.in-Some.second.now in
    let run = c.split_name.ensures in
    let is = c.in-Some.ensures.cases.0 in
    let begun = begun_name first run.each (sym c.begins_keyword-2.ensures ∙ c.if-begins_keyword.true) in (
      λ e. inr (
        first,
        second,
        parted text first _ second _ run is ∙ ap (λ z. first ++ z ∷ second) c.if-b-ne47.false,
        begun,
        c.is_keyword_name.ensures.0 e,
      ),
      λ h. c.is_keyword_name.ensures.1 (two_names IsKeywordName keyword_name_bytes text first _ second _ run is c.if-b-ne47.false h).1,
    )

pub returns-else-begins_keyword : goal.returns-else-begins_keyword
returns-else-begins_keyword c =
    let first = c.split_name.result.0.now in (
      λ e. absurd (let wrong = e in cc),
      λ h. absurd (
          let begun =
          (two_names IsKeywordName keyword_name_bytes c.args.text.now first _ c.in-Some.second.now _ c.split_name.ensures
          c.in-Some.ensures.cases.0 c.if-b-ne47.false h).0.1 in
          let same = c.begins_keyword-2.ensures in let was = c.if-begins_keyword.false in cc
          ),
    )
