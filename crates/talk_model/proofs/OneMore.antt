-- Talks: one form more, and the last form.
use Rattle.std.proofs.Common.{ℕ, ◌≡◌, List, [], ◌∷◌, ◌++◌, Option, Some, None, refl, ap, sym, ◌∙◌, subst}
use Rattle.std.specs.Prelude.{option_to_list}
use Rattle.std.proofs.lemmas.List.{map-append}
use Rattle.std.proofs.lemmas.List.Elements.{filter_map-append}
use Rattle.talk_model.specs.Session.{Setting, Standing}
use Rattle.talk_model.specs.Talk.{IsAnswered, Exchange, forms_of, places_of, lines_of, commits_of, Talk}

pub commits-one : (x : Exchange) → commits_of (x ∷ []) ≡ option_to_list x.commit
commits-one x = one x.commit
  where
    one : (commit : Option ℕ) → commits_of (record x { commit = commit } ∷ []) ≡ option_to_list commit
    one None = refl
    one (Some t) = refl

-- one form more commits what that commits
pub commits-push : (talk : List Exchange) (x : Exchange) → commits_of (talk ++ x ∷ []) ≡ commits_of talk ++ option_to_list x.commit
commits-push talk x =
    filter_map-append (λ (y : Exchange). y.commit) talk (x ∷ []) ∙ ap (λ (c : List ℕ). commits_of talk ++ c) (commits-one x)

pub forms-push : (talk : List Exchange) (x : Exchange) → forms_of (talk ++ x ∷ []) ≡ forms_of talk ++ x.form ∷ []
forms-push talk x = map-append (λ (y : Exchange). y.form) talk (x ∷ [])

pub places-push : (talk : List Exchange) (x : Exchange) → places_of (talk ++ x ∷ []) ≡ places_of talk ++ x.place ∷ []
places-push talk x = map-append (λ (y : Exchange). y.place) talk (x ∷ [])

pub lines-push : (talk : List Exchange) (x : Exchange) → lines_of (talk ++ x ∷ []) ≡ lines_of talk ++ x.line ∷ []
lines-push talk x = map-append (λ (y : Exchange). y.line) talk (x ∷ [])

pub Talk-push : (s : Setting) (before middle after : Standing) (talk : List Exchange) (x : Exchange)
    → Talk s before talk middle → IsAnswered s middle x.form after x.line x.commit → after.place ≡ x.place
    → Talk s before (talk ++ x ∷ []) after
Talk-push s before middle after [] x same answered place =
    let Answered : Standing → Type 0 = λ b. IsAnswered s b x.form after x.line x.commit in
    (after, subst Answered same answered, place, refl)
Talk-push s before middle after (y ∷ talk) x told answered place =
    (told.0, told.1, told.2, Talk-push s told.0 middle after talk x told.3 answered place)

-- the talk of the forms before the last one, and the answer to that
pub record Last (s : Setting) (before after : Standing) (talk : List Exchange) (x : Exchange) : Type 0 where
  pub middle : Standing
  pub talk_is : Talk s before talk middle
  pub answered : IsAnswered s middle x.form after x.line x.commit
  pub place : after.place ≡ x.place

pub Talk-last : (s : Setting) (before after : Standing) (talk : List Exchange) (x : Exchange) → Talk s before (talk ++ x ∷ []) after
    → Last s before after talk x
Talk-last s before after [] x told =
    let Answered : Standing → Type 0 = λ b. IsAnswered s before x.form b x.line x.commit in
    record {
      middle = before;
      talk_is = refl;
      answered = subst Answered (sym told.3) told.1;
      place = ap (λ (b : Standing). b.place) told.3 ∙ told.2;
    }
Talk-last s before after (y ∷ talk) x told =
    let last = Talk-last s told.0 after talk x told.3 in
    record { middle = last.middle; talk_is = (told.0, told.1, told.2, last.talk_is); answered = last.answered; place = last.place }
