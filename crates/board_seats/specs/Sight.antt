-- What a seat has seen, has in its turn and learns, in lists of entries. `f` gives an entry's code.
-- This project's own choice.
use Rattle.std.specs.Prelude.{◌≡◌, ℕ, ◌+◌, List, length, Some}
use base.Stored.{Gv}
use Rattle.board_rule.specs.declared.view.Stop.{Stop}
use Rattle.board_rule.specs.declared.view.Marks.{Marks}
use Rattle.board_rule.specs.declared.view.At.TheVariants.{Away}
use Rattle.board_rule.specs.declared.view.Grab.TheVariants.{Free}
use Rattle.board_rule.specs.declared.view.Code.{Code}
use Rattle.board_rule.specs.declared.view.View.{View}
use Rattle.board_rule.specs.Views.{worker, StartsWith, IsLawful, codes, commits_of, story, named_of}

-- the seat has seen this list
abbrev pub Sees : {A : Type 0} → (A → Gv) → View Code → List A → Type 0
Sees f v l = v.seen ≡ codes f l

-- The seat has the turn, with the value of slot 0:
-- the history is this list, and these are its authors.
abbrev pub Holds : {A : Type 0} → (A → Gv) → View Code → List A → List ℕ → Type 0
Holds f v entries authors =
    (v.turn ≡ Some (story (codes f entries) authors (named_of v)))
    × (v.core ≡ Away)
    × (v.grab ≡ Free)

module _ {A : Type 0} where
  -- what a seat learns of slot 0's value as its turn begins, where it has seen the list `last`
  pub record Learns (follows : List A → A → Type 0) (v : View Code) (last : List A)
      (entries : List A) (authors : List ℕ) (marks : Marks) : Type 0 where
    pub lawful : IsLawful follows entries
    pub seen : StartsWith entries last
    pub commits : v.commits ≡ commits_of v.number (v.start + 1) authors
    pub counted : v.start + 1 + length authors ≡ length entries
    pub stop : (p : Stop) → v.stop ≡ Some p → marks.stop ≡ Some p
    pub own_stop : (p : Stop) → marks.stop ≡ Some p → v.number ≡ p.author → v.stop ≡ Some p
    pub covered : v.number ≡ worker → v.covered ≡ marks.covered
