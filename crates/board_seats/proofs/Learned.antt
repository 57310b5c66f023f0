-- What a seat is told in codes, in entries.
use Rattle.std.proofs.Common.{◌≡◌, ℕ, List, subst, ◌∙◌}
use lib.ListN.{length-map}
use base.Stored.{Coded}
use Rattle.board_rule.specs.declared.view.Code.{Code}
use Rattle.board_rule.specs.declared.view.Marks.{Marks}
use Rattle.board_rule.specs.declared.view.View.{View}
use Rattle.board_rule.specs.Views.{StartsWith, IsLawful, AreLawful, Learned, code, codes, story, drew}
use Rattle.board_rule.proofs.Codes.{starts_inj}
use Rattle.board_seats.specs.Sight.{Sees, Learns}

module _ {A : Type 0} (c : Coded A) (follows : List A → A → Type 0) where
  pub learns : (v w : View Code) (t : ℕ) (last entries : List A) (authors : List ℕ) (marks : Marks) → w ≡ drew v t
      → Learned (AreLawful c.code follows) w (story (codes c.code entries) authors marks) → IsLawful follows entries → Sees c.code v last
      → Learns follows v last entries authors marks
  learns v w t last entries authors marks drawn told lawful sees =
      let all : Learned (AreLawful c.code follows) (drew v t) (story (codes c.code entries) authors marks)
      = subst (λ (z : View Code). Learned (AreLawful c.code follows) z (story (codes c.code entries) authors marks)) drawn told in
      record {
        lawful = lawful;
        seen = starts_inj c entries last (subst (StartsWith (codes c.code entries)) sees all.seen);
        commits = all.commits;
        counted = all.counted ∙ length-map entries (code c.code);
        stop = all.stop;
        own_stop = all.own_stop;
        covered = all.covered;
      }
