-- What a glance finds, in entries: the longer list has the longer list of codes.
use Rattle.std.proofs.Common.{◌≡◌, ℕ, Bool, true, false, ◌+◌, nat_lt, if◌then◌else◌, List, length, refl, ap, sym, subst, ◌∙◌}
use lib.ListN.{length-map}
use base.Stored.{Gv, Coded}
use Rattle.board_rule.specs.declared.view.Code.{Code}
use Rattle.board_rule.specs.declared.view.View.{View}
use Rattle.board_rule.specs.declared.view.Grab.TheVariants.{Free}
use Rattle.board_rule.specs.Views.{StartsWith, longer, code, codes}
use Rattle.board_rule.proofs.Codes.{starts_inj}
use Rattle.board_mail.specs.Mailbox.{peeked, took}
use Rattle.board_seats.specs.Sight.{Sees}

module _ {A : Type 0} (f : A → Gv) (l m : List A) where
  chosen : (b : Bool) → (if b then codes f m else codes f l) ≡ codes f (if b then m else l)
  chosen true = refl
  chosen false = refl

  longer_codes : longer (codes f l) (codes f m) ≡ codes f (longer l m)
  longer_codes = ap (λ (n : ℕ). if nat_lt n (length (codes f m)) then codes f m else codes f l) (length-map l (code f))
      ∙ (ap (λ (n : ℕ). if nat_lt (length l) n then codes f m else codes f l) (length-map m (code f))
      ∙ chosen (nat_lt (length l) (length m)))

module _ {A : Type 0} (c : Coded A) where
  pub finds : (v w : View Code) (last es : List A) → w ≡ took v (codes c.code es) → StartsWith w.seen v.seen
      → StartsWith w.seen (codes c.code es)
      → Sees c.code v last → Sees c.code w (longer last es) × StartsWith (longer last es) last × StartsWith (longer last es) es
  finds v w last es taken both mail sees =
      let now : Sees c.code w (longer last es) =
      ap (λ (z : View Code). z.seen) taken ∙ (ap (λ (z : List Code). longer z (codes c.code es)) sees ∙ longer_codes c.code last es) in (
        now,
        starts_inj c (longer last es) last
            (subst (λ (z : List Code). StartsWith z (codes c.code last)) now (subst (StartsWith w.seen) sees both)),
        starts_inj c (longer last es) es (subst (λ (z : List Code). StartsWith z (codes c.code es)) now mail),
      )

-- after want of memory the view says what was found, and no more was seen
pub glanced : (v w : View Code) (l : List Code) → w ≡ peeked v l
    → w ≡ record v { grab = Free; grabs = v.grabs + 1; met = 0; last_found = w.last_found }
glanced v w l e =
    let at = ap (λ (z : View Code). z.last_found) e in
    e ∙ (λ i. record v { grab = Free; grabs = v.grabs + 1; met = 0; last_found = sym at i })
