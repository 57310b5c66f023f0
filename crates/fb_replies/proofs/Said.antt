-- What a lawful history says, and what a schema tells of it.
use Rattle.std.proofs.Common.{◌≡◌, ℕ, Bool, true, false, List, [], ◌∷◌, map, refl, ap, ◌∙◌, sym, subst}
use Rattle.std.specs.Prelude.{Contains, Option, Some, None}
use Rattle.std.specs.List.{list_all}
use Rattle.std.specs.Option.{option_map_or}
use Rattle.edn_model.specs.Form as edn
use Rattle.edn_model.specs.Form.{Form}
use Rattle.fb_values.specs.declared.facts.Datom.{Datom}
use Rattle.fb_values.specs.declared.facts.Entry.{Entry}
use Rattle.fb_values.specs.declared.facts.Value.{Value}
use Rattle.fb_values.specs.declared.facts.Value.TheVariants.{Keyword, Str, Bool as Boolean, Long, Ref, Instant, Uuid, Symbol, Uri}
use Rattle.fb_model.specs.Types.{is_of_type}
use Rattle.fb_model.specs.Facts.{facts}
use Rattle.fb_model.specs.History.{said}
use Rattle.fb_model.specs.Lawful.{IsLawful}
use Rattle.fb_model.specs.Schema.{Attribute, attribute_of}
use Rattle.fb_model.proofs.KnownFacts.{is_typed, said_typed}
use Rattle.talk_model.specs.Replies.{attribute, entity, datom_form, transaction_form}
use Rattle.fb_replies.specs.Texts.{has_text, have_texts, entries_have_texts}
use Rattle.std.proofs.Common.{◌<◌, length, get_or, codes}
use Rattle.std.proofs.lemmas.Bool.{and_parts, and_from}
use Rattle.std.proofs.lemmas.List.{get_or_default}
use Rattle.std.proofs.lemmas.List.Folds.{list_all-append}
use Rattle.std.proofs.lemmas.List.Sums.{AllPass-from_list_all, list_all-from_AllPass}
use Rattle.fb_model.specs.Types.{is_well_formed}
use Rattle.fb_numbers.specs.Numbers.{transaction_of}
use Rattle.edn_values.specs.Values.{form_of_value}
use Rattle.talk_model.specs.Replies.{vector, number, map_of, datom_forms, datoms_reply, transactions_reply}

-- ---- texts

well_formed_text : (v : Value) → is_well_formed v ≡ true → has_text v ≡ true
well_formed_text (Keyword text) well = refl
well_formed_text (Str text) well = refl
well_formed_text (Boolean b) well = refl
well_formed_text (Long z) well = refl
well_formed_text (Ref e) well = refl
well_formed_text (Instant z) well = well
well_formed_text (Uuid n) well = refl
well_formed_text (Symbol text) well = refl
well_formed_text (Uri text) well = refl

typed_text : (o : Option Attribute) (v : Value) → option_map_or (λ attribute. is_of_type attribute.kind v) o false ≡ true
    → has_text v ≡ true
typed_text None v typed = absurd (cc)
typed_text (Some attribute) v typed = well_formed_text v (and_parts _ _ (and_parts _ _ typed).0).1

pub said_texts : (h : List Entry) → IsLawful h → have_texts (said h) ≡ true
said_texts h lawful =
    list_all-from_AllPass (λ (d : Datom). has_text d.v) (said h)
    (λ k d below. typed_text (attribute_of (facts h) (get_or (said h) k d).a) (get_or (said h) k d).v
    (AllPass-from_list_all (is_typed (facts h)) (said h) (said_typed h lawful) k d below))

by_entry : (h : List Entry) → have_texts (said h) ≡ true → entries_have_texts h ≡ true
by_entry [] every = refl
by_entry (entry ∷ h) every =
    let parts =
    and_parts (have_texts entry.datoms) (have_texts (said h))
    (sym (list_all-append (λ (d : Datom). has_text d.v) entry.datoms (said h)) ∙ every) in
    and_from _ _ parts.0 (by_entry h parts.1)

pub entries_texts : (h : List Entry) → IsLawful h → entries_have_texts h ≡ true
entries_texts h lawful = by_entry h (said_texts h lawful)

same_read : {X : Type 0} (xs : List X) (k : ℕ) (d : X) → k < length xs → get_or xs k (get_or xs k d) ≡ get_or xs k d
same_read xs k d below = get_or_default xs k (get_or xs k d) d below

-- what each of some things passes, some of them pass
pub each_of : {X : Type 0} (p : X → Bool) (every some : List X) → list_all p every ≡ true
    → ((x : X) → Contains some x → Contains every x) → list_all p some ≡ true
each_of p every some pass within =
    list_all-from_AllPass p some (λ k d below.
    let member = within (get_or some k d) (k, below, same_read some k d below) in
    subst (λ x. p x ≡ true) member.2 (AllPass-from_list_all p every pass member.0 (get_or some k d) member.1))

-- ---- attributes

map_same : {X Y : Type 0} (f g : X → Y) → ((x : X) → f x ≡ g x) → (xs : List X) → map f xs ≡ map g xs
map_same f g same [] = refl
map_same f g same (x ∷ xs) = ap (λ y. y ∷ map f xs) (same x) ∙ ap (λ ys. g x ∷ ys) (map_same f g same xs)

datom_same : (one other : List Datom)
    → ((e : ℕ) → attribute_of one e ≡ attribute_of other e) → (d : Datom) → datom_form one d ≡ datom_form other d
datom_same one other same d =
    ap (λ (o : Option Attribute). vector (entity d.e ∷ option_map_or (λ known. edn.keyword known.name) o (entity d.a) ∷ form_of_value d.v
    ∷ entity (transaction_of d.t) ∷ edn.boolean d.added ∷ [])) (same d.a)

datoms_same : (one other : List Datom)
    → ((e : ℕ) → attribute_of one e ≡ attribute_of other e) → (ds : List Datom) → datom_forms one ds ≡ datom_forms other ds
datoms_same one other same ds = ap vector (map_same (datom_form one) (datom_form other) (datom_same one other same) ds)

pub datoms_reply_same : (basis : ℕ) (one other ds : List Datom)
    → ((e : ℕ) → attribute_of one e ≡ attribute_of other e) → datoms_reply basis one ds ≡ datoms_reply basis other ds
datoms_reply_same basis one other ds same =
    ap (λ (f : Form). map_of ((codes "basis", number basis) ∷ (codes "datoms", f) ∷ [])) (datoms_same one other same ds)

transaction_same : (one other : List Datom)
    → ((e : ℕ) → attribute_of one e ≡ attribute_of other e) → (entry : Entry) → transaction_form one entry ≡ transaction_form other entry
transaction_same one other same entry =
    ap (λ (f : Form). map_of ((codes "t", number entry.t) ∷ (codes "data", f) ∷ [])) (datoms_same one other same entry.datoms)

pub transactions_reply_same : (basis : ℕ) (one other : List Datom) (entries : List Entry)
    → ((e : ℕ) → attribute_of one e ≡ attribute_of other e) → transactions_reply basis one entries ≡ transactions_reply basis other entries
transactions_reply_same basis one other entries same =
    ap (λ (fs : List Form). map_of ((codes "basis", number basis) ∷ (codes "txs", vector fs) ∷ []))
    (map_same (transaction_form one) (transaction_form other) (transaction_same one other same) entries)
