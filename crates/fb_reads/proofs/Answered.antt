-- The line of one form, as the answer to a read that is known.
use Rattle.std.proofs.Common.{◌≡◌, ℕ, Bool, List, Option, refl, sym, subst}
use Rattle.std.specs.Prelude.{Result, OnOk}
use Rattle.edn_model.specs.Form.{Form}
use Rattle.view_model.specs.Window.{Window}
use Rattle.talk_model.specs.Commands.{Read}
use Rattle.talk_model.specs.Replies.{IsLineOf}
use Rattle.talk_model.specs.Session.{Sight}
use Rattle.talk_model.specs.Reads.{IsReply, behind}
use Rattle.fb_reads.specs.Answers.{IsLineFor, standing_at}

pub said : (f : Form) (line : List ℕ) → IsLineOf f line → IsLineFor (λ reply. reply ≡ f) line
said f line says = (f, refl, says)

pub line_of : {T E : Type 0} (r : Result T E) (s : Sight) (asked known : Option Read) (line : List ℕ) → asked ≡ known
    → OnOk r (IsLineFor (IsReply s known) line) → OnOk r (IsLineFor (IsReply s asked) line)
line_of r s asked known line is says = subst (λ (asked : Option Read). OnOk r (IsLineFor (IsReply s asked) line)) (sym is) says

-- where the session stands behind it
abbrev Turns : Sight → Window → List (List ℕ) → Window → List (List ℕ) → Option Read → Type 0
Turns s was names is others asked =
    (place : ℕ) (told : Bool) → standing_at place told is others ≡ behind s (standing_at place told was names) asked

pub stands_of : {T E : Type 0} (r : Result T E) (s : Sight) (was : Window) (names : List (List ℕ)) (is : Window) (others : List (List ℕ))
    (asked known : Option Read)
    → asked ≡ known
    → OnOk r (Turns s was names is others known) → OnOk r (Turns s was names is others asked)
stands_of r s was names is others asked known same stands =
    subst (λ (asked : Option Read). OnOk r (Turns s was names is others asked)) (sym same) stands
