-- The forms inside which there are no duplicates:
-- in each set no two members, and in each map no two keys, are alike.
-- EDN, edn-format: "Sets", "Maps".
use Rattle.std.specs.Prelude.{IsTrue}
use Rattle.edn_model.specs.Form as form
use Rattle.edn_model.specs.Likeness.{distinct, keys}

abbrev mutual
  pub IsDistinctInside : form.Form → Type 0
  IsDistinctInside form.nil = Unit {0}
  IsDistinctInside (form.boolean b) = Unit {0}
  IsDistinctInside (form.integer z) = Unit {0}
  IsDistinctInside (form.string s) = Unit {0}
  IsDistinctInside (form.symbol s) = Unit {0}
  IsDistinctInside (form.keyword k) = Unit {0}
  IsDistinctInside (form.list fs) = AreDistinctInside fs
  IsDistinctInside (form.vector fs) = AreDistinctInside fs
  IsDistinctInside (form.map ps) = ArePairsDistinctInside ps × IsTrue (distinct (keys ps))
  IsDistinctInside (form.set fs) = AreDistinctInside fs × IsTrue (distinct fs)
  IsDistinctInside (form.instant z) = Unit {0}
  IsDistinctInside (form.uuid n) = Unit {0}

  pub AreDistinctInside : form.Forms → Type 0
  AreDistinctInside form.no_forms = Unit {0}
  AreDistinctInside (form.form f fs) = IsDistinctInside f × AreDistinctInside fs

  pub ArePairsDistinctInside : form.Pairs → Type 0
  ArePairsDistinctInside form.no_pairs = Unit {0}
  ArePairsDistinctInside (form.pair k v ps) =
      IsDistinctInside k × IsDistinctInside v × ArePairsDistinctInside ps
