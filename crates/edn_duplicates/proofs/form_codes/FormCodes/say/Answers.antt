use Rattle.std.proofs.Common.{not, ap, ◌∙◌}
use Rattle.std.proofs.lemmas.Result.{IfOk-weaker}
use Rattle.edn_duplicates.specs.FormCodes.{codes_in}
use Rattle.edn_duplicates.specs.declared.coded.Coded.TheVariants.{Many}
use Rattle.edn_duplicates.proofs.Sayings.{held_is_alike, said_more}
use Rattle.edn_duplicates.proofs.form_codes.FormCodes.say.Goals as goal

pub returns-clause-fresh : goal.returns-clause-fresh
returns-clause-fresh c fs f s k d =
    let old = codes_in c.args.self.now in
    IfOk-weaker c.insert.result _ _ (λ fresh is. is ∙ ap not (held_is_alike fs f (Many c.args.code) old s k d)) c.insert.ensures.fresh

pub returns-clause-said : goal.returns-clause-said
returns-clause-said c fs f s k =
    let old = codes_in c.args.self.now in
    let new = codes_in c.insert.new.self in
    IfOk-weaker c.insert.result _ _ (λ _ more. said_more fs f (Many c.args.code) old new s k more) c.insert.ensures.added
