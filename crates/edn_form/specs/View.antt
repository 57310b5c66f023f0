-- The form that a value of `Edn` is.
-- EDN, edn-format: "Built-in elements" and "Built-in tagged elements".
use Rattle.std.specs.Prelude.{List, map}
use Rattle.edn_model.specs.Form as form
use Rattle.edn_form.specs.declared.form.Edn.{Edn}
use Rattle.edn_form.specs.declared.form.Edn.TheFolds.{fold-Edn}
use Rattle.edn_form.specs.declared.form.Edn.TheOpen.{Edn-F, Items-F, Pairs-F}
use Rattle.edn_form.specs.declared.form.Items.{Items, out-Items}
use Rattle.edn_form.specs.declared.form.Pairs.{Pairs, out-Pairs}

-- one level, with each form inside already seen as such
abbrev pub edn_step : Edn-F form.Form form.Forms form.Pairs → form.Form
edn_step Edn-F.Nil = form.nil
edn_step (Edn-F.Bool b) = form.boolean b
edn_step (Edn-F.Int z) = form.integer z
edn_step (Edn-F.Str s) = form.string s
edn_step (Edn-F.Sym s) = form.symbol s
edn_step (Edn-F.Key k) = form.keyword k
edn_step (Edn-F.List fs) = form.list fs
edn_step (Edn-F.Vector fs) = form.vector fs
edn_step (Edn-F.Map ps) = form.map ps
edn_step (Edn-F.Set fs) = form.set fs
edn_step (Edn-F.Inst z) = form.instant z
edn_step (Edn-F.Uuid n) = form.uuid n

abbrev pub items_step : Items-F form.Form form.Forms form.Pairs → form.Forms
items_step i = form.forms i.items.items

abbrev pub pairs_step : Pairs-F form.Form form.Forms form.Pairs → form.Pairs
pairs_step p = form.pairs p.pairs.items

abbrev pub form_of : Edn → form.Form
form_of = fold-Edn form.Form form.Forms form.Pairs edn_step items_step pairs_step

abbrev pub forms_of : List Edn → List form.Form
forms_of = map form_of

abbrev pub pairs_of : List (Edn × Edn) → List (form.Form × form.Form)
pairs_of = map (λ p. (form_of p.0, form_of p.1))

-- the members, and the keys with their values
abbrev pub members : Items → List Edn
members i = (out-Items i).items.items

abbrev pub entries : Pairs → List (Edn × Edn)
entries p = (out-Pairs p).pairs.items
