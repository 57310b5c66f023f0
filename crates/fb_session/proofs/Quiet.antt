-- Exchanges that asked the desk for nothing.
use Rattle.std.proofs.Common.{◌≡◌, ℕ, false, List, [], ◌∷◌, ◌++◌, Option, Some, None, refl, sym, ap, ◌∙◌, subst, arith}
use Rattle.std.specs.Prelude.{option_to_list}
use Rattle.std.proofs.lemmas.List.{map-append}
use Rattle.std.proofs.lemmas.List.Elements.{filter_map-append}
use Rattle.edn_model.specs.Form.{Form}
use Rattle.talk_model.specs.Commands.{Command, transact, db, sync, read}
use Rattle.talk_model.specs.Session.{Setting, Standing}
use Rattle.talk_model.specs.Talk.{AnswersCommand, Exchange, forms_of, lines_of, commits_of}
use Rattle.talk_model.proofs.OneMore.{forms-push, commits-push}
use Rattle.fb_session.specs.Asks.{is_asked, is_db, is_sync, is_transact, is_for_desk, Counted}
use Rattle.fb_session.specs.Sessions.{AreQuiet}
use Rattle.fb_session.proofs.Counting.{counted-none, counted-push, count-append, counted_quiet}

-- a command for which the desk is not asked commits nothing
pub commits_nothing : (s : Setting) (before after : Standing) (line : List ℕ) (commit : Option ℕ) (command : Option Command)
    → is_asked command ≡ false → AnswersCommand s before command after line commit → commit ≡ None
commits_nothing s before after line commit (Some (transact asked)) quiet answers = absurd (cc)
commits_nothing s before after line commit (Some db) quiet answers = absurd (cc)
commits_nothing s before after line commit (Some sync) quiet answers = absurd (cc)
commits_nothing s before after line commit (Some (read r)) quiet answers = answers.commits
commits_nothing s before after line commit None quiet answers = answers.commits

pub quiet-none : AreQuiet []
quiet-none = record { asks = counted-none; commits = refl }

pub quiet-push : (held : List Exchange) (x : Exchange) → AreQuiet held → is_for_desk x.form ≡ false → x.commit ≡ None
    → AreQuiet (held ++ x ∷ [])
quiet-push held x are quiet none =
    record {
      asks = λ tally.
          rw (forms-push held x)
          (counted-push (forms_of held) x.form 0 0 tally tally tally (are.asks tally) (counted_quiet x.form quiet tally));
      commits =
          commits-push held x
          ∙ ap (λ commit. commits_of held ++ option_to_list commit) none
          ∙ ap (λ commits. commits ++ []) are.commits;
    }

no_last : (xs ys : List ℕ) → xs ++ ys ≡ [] → ys ≡ []
no_last [] ys none = none
no_last (x ∷ xs) ys none = absurd (cc)

pub quiet-rest : (front rest : List Exchange) → AreQuiet (front ++ rest) → AreQuiet rest
quiet-rest front rest are =
    record {
      asks = λ tally.
          let Asks : List Form → Type 0 = λ fs. Counted fs 0 tally tally in
          let all = subst Asks (map-append (λ (x : Exchange). x.form) front rest) (are.asks tally) in
          record {
            glances = omega (arith, all.glances, count-append is_db (forms_of front) (forms_of rest));
            loads =
                omega (
                  arith,
                  all.loads,
                  count-append is_sync (forms_of front) (forms_of rest),
                  count-append is_transact (forms_of front) (forms_of rest),
                );
          };
      commits =
          no_last (commits_of front) (commits_of rest)
          (sym (filter_map-append (λ (x : Exchange). x.commit) front rest) ∙ are.commits);
    }

-- ---- the exchange whose line broke off

pub record Split (held : List Exchange) (out : List (List ℕ)) (broken : List ℕ) (behind : List (List ℕ)) : Type 0 where
  pub front : List Exchange
  pub last : Exchange
  pub rest : List Exchange
  pub parts : held ≡ front ++ last ∷ rest
  pub lines : lines_of front ≡ out
  pub line : last.line ≡ broken
  pub others : lines_of rest ≡ behind

heads : (x y : List ℕ) (xs ys : List (List ℕ)) → x ∷ xs ≡ y ∷ ys → x ≡ y
heads x y xs ys same = cc

tails : (x y : List ℕ) (xs ys : List (List ℕ)) → x ∷ xs ≡ y ∷ ys → xs ≡ ys
tails x y xs ys same = cc

pub split_at : (held : List Exchange) (out : List (List ℕ)) (broken : List ℕ) (behind : List (List ℕ))
    → lines_of held ≡ out ++ broken ∷ behind → Split held out broken behind
split_at [] [] broken behind is = absurd (cc)
split_at [] (line ∷ out) broken behind is = absurd (cc)
split_at (x ∷ held) [] broken behind is =
    record {
      front = [];
      last = x;
      rest = held;
      parts = refl;
      lines = refl;
      line = heads x.line broken (lines_of held) behind is;
      others = tails x.line broken (lines_of held) behind is;
    }
split_at (x ∷ held) (line ∷ out) broken behind is =
    let later = split_at held out broken behind (tails x.line line (lines_of held) (out ++ broken ∷ behind) is) in
    record {
      front = x ∷ later.front;
      last = later.last;
      rest = later.rest;
      parts = ap (λ xs. x ∷ xs) later.parts;
      lines =
          ap (λ l. l ∷ lines_of later.front) (heads x.line line (lines_of held) (out ++ broken ∷ behind) is)
          ∙ ap (λ ls. line ∷ ls) later.lines;
      line = later.line;
      others = later.others;
    }
