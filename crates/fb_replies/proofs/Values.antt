-- What is written of a value, an attribute and a text.
use Rattle.std.proofs.Common.{◌≡◌, ℕ, List, ◌∷◌, ◌++◌, Option, Some, None, refl, ap, ◌∙◌, subst}
use Rattle.std.specs.Prelude.{IsTrue}
use Rattle.std.specs.Option.{option_map_or}
use Rattle.edn_model.specs.Bytes.{colon}
use Rattle.edn_model.specs.Form as edn
use Rattle.edn_model.specs.Form.{Form}
use Rattle.edn_model.specs.Canon.{Canon, string_text}
use Rattle.edn_form.specs.declared.form.Edn.{Edn, Str as StrForm}
use Rattle.edn_form.specs.View.{form_of}
use Rattle.edn_form.proofs.Views.{form_of-Str}
use Rattle.edn_values.specs.Values.{form_of_value}
use Rattle.edn_print.specs.Printed.{Appends}
use Rattle.edn_print.specs.Printable.{printable}
use Rattle.edn_print.proofs.Moments.{nearest_itself}
use Rattle.fb_text.specs.declared.texts.Text.{Text}
use Rattle.fb_values.specs.declared.facts.Datom.{Datom}
use Rattle.fb_values.specs.declared.facts.Value.{Value}
use Rattle.fb_values.specs.declared.facts.Value.TheVariants.{Keyword, Str, Bool as Boolean, Long, Ref, Instant, Uuid, Symbol, Uri}
use Rattle.fb_model.specs.Schema as model
use Rattle.fb_model.specs.Schema.{attribute_of}
use Rattle.fb_schema.specs.declared.attribute.Attribute.{Attribute}
use Rattle.fb_schema.specs.Parts.{model_attribute}
use Rattle.talk_model.specs.Replies.{entity, attribute}
use Rattle.fb_replies.specs.Texts.{has_text}

-- a value that has a text is printed as it is
pub printable_value : (v : Value) → IsTrue (has_text v) → printable (form_of_value v) ≡ form_of_value v
printable_value (Keyword text) h = refl
printable_value (Str text) h = refl
printable_value (Boolean b) h = refl
printable_value (Long z) h = refl
printable_value (Ref e) h = refl
printable_value (Instant z) h = ap edn.instant (nearest_itself z h)
printable_value (Uuid n) h = refl
printable_value (Symbol text) h = refl
printable_value (Uri text) h = refl

-- a text as a string
pub string_behind : (e : Edn) (copy : Text) (text old new : List ℕ) → e ≡ StrForm copy → copy ≡ text
    → Appends (Canon (printable (form_of e))) old new → new ≡ old ++ string_text text
string_behind e copy text old new is same a =
    let seen : form_of e ≡ edn.string text = ap form_of is ∙ form_of-Str copy ∙ ap edn.string same in
    let b : Appends (Canon (edn.string text)) old new = subst (λ (f : Form). Appends (Canon (printable f)) old new) seen a in
    b.behind ∙ ap (λ (z : List ℕ). old ++ z) b.is

abbrev attribute_from : Option model.Attribute → ℕ → Form
attribute_from known a = option_map_or (λ known. edn.keyword known.name) known (entity a)

pub known_attribute : (facts : List Datom) (a : ℕ) (known : Attribute) (word old new : List ℕ)
    → Some (model_attribute known) ≡ attribute_of facts a → word ≡ known.ident → new ≡ old ++ colon ∷ word
    → Appends (Canon (attribute facts a)) old new
known_attribute facts a known word old new is same e =
    subst (λ (o : Option model.Attribute). Appends (Canon (attribute_from o a)) old new) is
    (record { text = colon ∷ known.ident; is = refl; behind = e ∙ ap (λ (z : List ℕ). old ++ colon ∷ z) same })

pub unknown_attribute : (facts : List Datom) (a : ℕ) (old new : List ℕ) → None ≡ attribute_of facts a → Appends (Canon (entity a)) old new
    → Appends (Canon (attribute facts a)) old new
unknown_attribute facts a old new is number = subst (λ (o : Option model.Attribute). Appends (Canon (attribute_from o a)) old new) is number
