-- The forms that have a text: what a reader can give.
-- EDN, edn-format: "Built-in elements"; the limits are this project's own choice.
use Rattle.std.specs.Prelude.{ℕ, ◌-◌, ◌^◌, ◌<◌, IsTrue, IsUtf8}
use Rattle.edn_model.specs.Form as form
use Rattle.edn_model.specs.Tokens.{IsLong, IsKeyword, IsSymbol}
use Rattle.edn_model.specs.Instants.{in_range}
use Rattle.edn_model.specs.Likeness.{distinct, keys}

-- collections nest no deeper than the number
abbrev mutual
  pub IsReadable : ℕ → form.Form → Type 0
  IsReadable depth form.nil = Unit {0}
  IsReadable depth (form.boolean b) = Unit {0}
  IsReadable depth (form.integer z) = IsLong z
  IsReadable depth (form.string s) = IsUtf8 s
  IsReadable depth (form.symbol s) = IsSymbol s
  IsReadable depth (form.keyword k) = IsKeyword k
  IsReadable depth (form.list fs) = (0 < depth) × AreReadable (depth - 1) fs
  IsReadable depth (form.vector fs) = (0 < depth) × AreReadable (depth - 1) fs
  IsReadable depth (form.map ps) =
      (0 < depth) × ArePairsReadable (depth - 1) ps × IsTrue (distinct (keys ps))
  IsReadable depth (form.set fs) = (0 < depth) × AreReadable (depth - 1) fs × IsTrue (distinct fs)
  IsReadable depth (form.instant z) = IsTrue (in_range z)
  IsReadable depth (form.uuid n) = n < 2 ^ 128

  pub AreReadable : ℕ → form.Forms → Type 0
  AreReadable depth form.no_forms = Unit {0}
  AreReadable depth (form.form f fs) = IsReadable depth f × AreReadable depth fs

  pub ArePairsReadable : ℕ → form.Pairs → Type 0
  ArePairsReadable depth form.no_pairs = Unit {0}
  ArePairsReadable depth (form.pair k v ps) =
      IsReadable depth k × IsReadable depth v × ArePairsReadable depth ps
