-- What a session was told of the log it was told for good.
use Rattle.std.proofs.Common.{ℕ, ◌≡◌, ◌⊎◌, inl, inr, true, List, [], ◌∷◌, Option, Some, None, ap, sym, ◌∙◌}
use Rattle.std.proofs.lemmas.Bool.{true≢false}
use Rattle.edn_model.specs.Form.{Form}
use Rattle.talk_model.specs.Commands.{Read, Command, transact, db, sync, read, command_in}
use Rattle.talk_model.specs.Session.{Setting, Standing, sight_of}
use Rattle.talk_model.specs.Talk.{IsNotTaken, IsStopped, IsReadAnswer, AnswersCommand, Exchange, Talk}
use Rattle.talk_model.proofs.Steps.{behind-told}

told_of : {x y : Standing} → x ≡ y → x.was_notified ≡ y.was_notified
told_of same = ap (λ (standing : Standing). standing.was_notified) same

module _ (s : Setting) where
  read_told : (before after : Standing) (line : List ℕ) (commit : Option ℕ) (asked : Option Read)
      → IsReadAnswer s before asked after line commit → before.was_notified ≡ true → after.was_notified ≡ true
  read_told before after line commit asked r told = told_of r.stands ∙ behind-told (sight_of s before) before asked ∙ told

  command_told : (before after : Standing) (line : List ℕ) (commit : Option ℕ) (command : Option Command)
      → AnswersCommand s before command after line commit → before.was_notified ≡ true → after.was_notified ≡ true
  command_told before after line commit (Some (transact asked)) a told =
      elim a [
        | inl a ↦ told_of a.stands ∙ told
        | inr a ↦ elim a [ inl a ↦ told_of a.stands ∙ told | inr a ↦ elim a [ inl a ↦ told_of a.stands | inr a ↦ told_of a.stands ] ]
      ]
  command_told before after line commit (Some db) a told = told_of a.stands ∙ told
  command_told before after line commit (Some sync) a told = told_of a.stands ∙ told
  command_told before after line commit (Some (read r)) a told = read_told before after line commit (Some r) a told
  command_told before after line commit None a told = read_told before after line commit None a told

  Talk-told : (before after : Standing) (talk : List Exchange) → Talk s before talk after → before.was_notified ≡ true
      → after.was_notified ≡ true
  Talk-told before after [] same told = told_of same ∙ told
  Talk-told before after (x ∷ talk) goes told =
      Talk-told goes.0 after talk goes.3 (command_told before goes.0 x.line x.commit (command_in x.form) goes.1 told)

  pub told_once : (one two three four : Standing) (talk : List Exchange) (f g : Form) (line other : List ℕ) (commit last : Option ℕ)
      → IsNotTaken s one f two line commit → Talk s two talk three → IsNotTaken s three g four other last → ⊥
  told_once one two three four talk f g line other commit last first between again =
      let told : three.was_notified ≡ true = Talk-told two three talk between (told_of first.stands) in
      true≢false (sym told ∙ again.not_notified)

  stopped_when_told : (asked : Form) (before after : Standing) (line : List ℕ) (commit : Option ℕ)
      → AnswersCommand s before (Some (transact asked)) after line commit → before.was_notified ≡ true
      → IsStopped s before after line commit
  stopped_when_told asked before after line commit a told =
      elim a [
        | inl a ↦ absurd (true≢false (sym told ∙ a.going))
        | inr a ↦ elim a [
          | inl a ↦ absurd (true≢false (sym told ∙ a.going))
          | inr a ↦ elim a [ inl a ↦ absurd (true≢false (sym told ∙ a.not_notified)) | inr a ↦ a ]
        ]
      ]

  pub told_for_good : (one two three four : Standing) (talk : List Exchange) (f g : Form) (line other : List ℕ) (commit last : Option ℕ)
      → IsNotTaken s one f two line commit ⊎ IsStopped s one two line commit → Talk s two talk three
      → AnswersCommand s three (Some (transact g)) four other last → IsStopped s three four other last
  told_for_good one two three four talk f g line other commit last first between again =
      let told : two.was_notified ≡ true = elim first [ inl a ↦ told_of a.stands | inr a ↦ told_of a.stands ] in
      stopped_when_told g three four other last again (Talk-told two three talk between told)
