-- The form that is printed:
-- an instant that no text names is the nearest one that has a text, and all else is as it was.
-- This project's own choice.
use Rattle.std.specs.Prelude.{ℤ, pos, negsuc}
use Rattle.std.specs.Int.{int_min, int_max}
use Rattle.edn_model.specs.Form as form

-- 0001-01-01T00:00:00.000Z and 9999-12-31T23:59:59.999Z
abbrev pub first_instant : ℤ
first_instant = negsuc 62135596799999

abbrev pub last_instant : ℤ
last_instant = pos 253402300799999

abbrev pub nearest : ℤ → ℤ
nearest z = int_max first_instant (int_min z last_instant)

abbrev mutual
  pub printable : form.Form → form.Form
  printable form.nil = form.nil
  printable (form.boolean b) = form.boolean b
  printable (form.integer z) = form.integer z
  printable (form.string s) = form.string s
  printable (form.symbol s) = form.symbol s
  printable (form.keyword k) = form.keyword k
  printable (form.list fs) = form.list (printables fs)
  printable (form.vector fs) = form.vector (printables fs)
  printable (form.map ps) = form.map (printable_pairs ps)
  printable (form.set fs) = form.set (printables fs)
  printable (form.instant z) = form.instant (nearest z)
  printable (form.uuid n) = form.uuid n

  pub printables : form.Forms → form.Forms
  printables form.no_forms = form.no_forms
  printables (form.form f fs) = form.form (printable f) (printables fs)

  pub printable_pairs : form.Pairs → form.Pairs
  printable_pairs form.no_pairs = form.no_pairs
  printable_pairs (form.pair k v ps) = form.pair (printable k) (printable v) (printable_pairs ps)
