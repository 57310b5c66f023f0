-- The order of tokens that their type gives: by kind, and then by what they hold.
-- This project's own choice.
use Rattle.std.specs.Prelude.{◌≡◌, Bool, List, [], ◌∷◌}
use Rattle.std.specs.declared.cmp.Ordering.{Ordering}
use Rattle.std.specs.Cmp.{IsTotalOrder}
use Rattle.std.specs.Ordering.{eq_by_cmp}
use Rattle.edn_duplicates.specs.contracts.token.CodeTokenPartialEq.TheImpl as token_test
use Rattle.edn_duplicates.specs.contracts.token.CodeTokenOrd.TheImpl as token_ord
use Rattle.edn_duplicates.specs.contracts.token.CodeTokenOrd.TheImpl.Laws as laws
use Rattle.edn_duplicates.specs.declared.coded.Coded.{Coded}
use Rattle.edn_duplicates.specs.declared.coded.Coded.TheVariants.{One, Many}
use Rattle.edn_duplicates.specs.declared.token.CodeToken.{CodeToken}

unfoldable pub token_cmp : CodeToken → CodeToken → Ordering
token_cmp = (token_ord.ghosts).cmp

-- The order of tokens is total, so the order of lists of them is total too.
pub token_total : IsTotalOrder token_cmp
unfolding token_cmp
token_total = laws.total-law

abbrev pub token_eq : CodeToken → CodeToken → Bool
token_eq = (token_test.ghosts).eq

-- Tokens are equal where the order says so.
pub token_ties : (a b : CodeToken) → token_eq a b ≡ eq_by_cmp token_cmp a b
unfolding token_cmp
token_ties = laws.matches_eq-law

-- a code as a set holds it
abbrev pub tokens_of : Coded → List CodeToken
tokens_of (One token) = token ∷ []
tokens_of (Many tokens) = tokens.items
