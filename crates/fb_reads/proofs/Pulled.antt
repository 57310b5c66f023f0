-- What was pulled, or why nothing was, as a reply.
use Rattle.std.proofs.Common.{◌≡◌, ℕ, List, Some, None, Result, Ok, Err, refl, sym, ap, subst}
use Rattle.edn_model.specs.Form.{Form}
use Rattle.fb_values.specs.declared.facts.Datom.{Datom}
use Rattle.fb_values.specs.declared.facts.Entry.{Entry}
use Rattle.fb_model.specs.History.{basis}
use Rattle.view_model.specs.Window.{Window}
use Rattle.read_refusals.specs.declared.reasons.Reason.{Reason}
use Rattle.read_refusals.specs.declared.reasons.Reason.TheVariants.{BadPattern, NotAnEntity}
use Rattle.read_model.specs.Given.{refusal}
use Rattle.read_model.specs.Names.{IsEntityOf}
use Rattle.pull_model.specs.Patterns.{Pattern}
use Rattle.pull_model.specs.Pull.{IsPulled}
use Rattle.talk_model.specs.Replies.{pull_reply, IsLineOf}
use Rattle.talk_model.specs.Looks.{refused, pull_shown, HasTree, HasPull}
use Rattle.fb_reads.specs.Answers.{IsLineFor}

module _ (h : List Entry) (w : Window) (Selects : Datom → Type 0) (line : List ℕ) where
  pub told : (pattern : Pattern) (e : ℕ) (tree : Form) → IsPulled h w Selects pattern e (Ok tree)
      → IsLineOf (pull_reply (basis h) tree) line
      → IsLineFor (HasTree h w Selects pattern (Some e)) line
  told pattern e tree is says = (pull_reply (basis h) tree, λ db is_db. ap (pull_shown (basis h)) (is db is_db), says)

  pub not_told : (pattern : Pattern) (e : ℕ) (reason : Reason) → IsPulled h w Selects pattern e (Err reason)
      → IsLineOf (refused (basis h) (refusal reason 0)) line
      → IsLineFor (HasTree h w Selects pattern (Some e)) line
  not_told pattern e reason is says = (refused (basis h) (refusal reason 0), λ db is_db. ap (pull_shown (basis h)) (is db is_db), says)

  pub of_found : (pattern : Pattern) (entity : Form) (e : ℕ) → IsEntityOf h w Selects entity (Some e)
      → IsLineFor (HasTree h w Selects pattern (Some e)) line
      → IsLineFor (HasPull h w Selects (Ok pattern) entity) line
  of_found pattern entity e found says = (says.0, (Some e, found, says.1), says.2)

  pub of_none : (pattern : Pattern) (entity : Form) → IsEntityOf h w Selects entity None
      → IsLineOf (refused (basis h) (refusal NotAnEntity 2)) line
      → IsLineFor (HasPull h w Selects (Ok pattern) entity) line
  of_none pattern entity none says = (refused (basis h) (refusal NotAnEntity 2), (None, none, refl), says)

  pub by_pattern : (answer : Result Pattern ℕ) (pattern : Pattern) (entity : Form)
      → answer ≡ Ok pattern → IsLineFor (HasPull h w Selects (Ok pattern) entity) line
      → IsLineFor (HasPull h w Selects answer entity) line
  by_pattern answer pattern entity is says =
      subst (λ (answer : Result Pattern ℕ). IsLineFor (HasPull h w Selects answer entity) line) (sym is) says

  pub by_none : (answer : Result Pattern ℕ) (item : ℕ) (entity : Form) → answer ≡ Err item
      → IsLineOf (refused (basis h) (refusal BadPattern item)) line
      → IsLineFor (HasPull h w Selects answer entity) line
  by_none answer item entity is says =
      subst (λ (answer : Result Pattern ℕ). IsLineFor (HasPull h w Selects answer entity) line) (sym is)
      (refused (basis h) (refusal BadPattern item), refl, says)
