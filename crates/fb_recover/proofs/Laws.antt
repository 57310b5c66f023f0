-- The first unlawful entry of a list, where one entry more stands behind it.
use Rattle.std.proofs.Common.{◌≡◌, ℕ, List, [], ◌∷◌, ◌++◌, length, Option, Some, None, sym, ◌∙◌, ap, subst, append_assoc}
use Rattle.std.specs.List.{slice_get}
use Rattle.std.specs.Option.{option_map_or}
use Rattle.std.proofs.lemmas.List.{append-nil}
use Rattle.fb_values.specs.declared.facts.Datom.{Datom}
use Rattle.fb_values.specs.declared.facts.Entry.{Entry}
use Rattle.fb_model.specs.FirstEntry.{first_entry}
use Rattle.fb_model.specs.Lawful.{IsLawful, IsLawfulFrom, least_law}
use Rattle.fb_model.proofs.Invariants.{least_law-lawful}
use Rattle.fb_schema.specs.Described.{SchemaStands}
use Rattle.log_model.specs.Log.{first_unlawful, hold, log_reading, judged, unlawful}
use Rattle.fb_recover.specs.declared.judging.Judged.{Judged}
use Rattle.fb_recover.specs.declared.judging.Judged.TheVariants.{Lawful, Unlawful}
use Rattle.fb_recover.specs.Judging.{IsJudged, IsFollowed}

-- the entry's t and the law, where it breaks one behind this history
abbrev pub unlawful_behind : List Entry → Entry → Option (ℕ × ℕ)
unlawful_behind h entry = option_map_or (λ (law : ℕ). Some (length h, law)) (least_law h entry) None

first_unlawful-push : (h entries : List Entry) (entry : Entry) → IsLawfulFrom h entries
    → first_unlawful h (entries ++ entry ∷ []) ≡ unlawful_behind (h ++ entries) entry
first_unlawful-push h [] entry lawful = ap (λ (l : List Entry). unlawful_behind l entry) (sym (append-nil h))
first_unlawful-push h (x ∷ rest) entry lawful =
    ap (λ (law : Option ℕ). option_map_or (λ (n : ℕ). Some (length h, n)) law (first_unlawful (h ++ x ∷ []) (rest ++ entry ∷ [])))
    (least_law-lawful h x lawful.0)
    ∙ first_unlawful-push (h ++ x ∷ []) rest entry lawful.1
    ∙ ap (λ (l : List Entry). unlawful_behind l entry) (append_assoc h (x ∷ []) rest)

stays_behind : (f : ℕ → Option (ℕ × ℕ)) (law : Option ℕ) (behind longer : Option (ℕ × ℕ)) (wrong : ℕ × ℕ)
    → (behind ≡ Some wrong → longer ≡ Some wrong)
    → option_map_or f law behind ≡ Some wrong → option_map_or f law longer ≡ Some wrong
stays_behind f None behind longer wrong later is = later is
stays_behind f (Some n) behind longer wrong later is = is

first_unlawful-stays : (h entries more : List Entry) (wrong : ℕ × ℕ) → first_unlawful h entries ≡ Some wrong
    → first_unlawful h (entries ++ more) ≡ Some wrong
first_unlawful-stays h [] more wrong is = absurd (cc)
first_unlawful-stays h (x ∷ rest) more wrong is =
    stays_behind (λ (n : ℕ). Some (length h, n)) (least_law h x) (first_unlawful (h ++ x ∷ []) rest)
    (first_unlawful (h ++ x ∷ []) (rest ++ more)) wrong
    (first_unlawful-stays (h ++ x ∷ []) rest more wrong) is

-- ---- what was judged, with one entry more

pub judged-stays : (entries : List Entry) (entry : Entry) (t law : ℕ) → IsJudged entries (Unlawful t law)
    → IsJudged (entries ++ entry ∷ []) (Unlawful t law)
judged-stays entries entry t law is = first_unlawful-stays (first_entry ∷ []) entries (entry ∷ []) (t, law) is

pub judged-followed : (entries : List Entry) (entry : Entry) (h : List Entry) (judged : Judged) → h ≡ first_entry ∷ entries → IsLawful h
    → IsFollowed h entry judged → IsJudged (entries ++ entry ∷ []) judged
judged-followed entries entry h (Lawful held schema) is lawful followed =
    (followed.0 ∙ ap (λ (l : List Entry). l ++ entry ∷ []) is, followed.1, followed.2)
judged-followed entries entry h (Unlawful t law) is lawful followed =
    let whole : IsLawful (first_entry ∷ entries) = subst IsLawful is lawful in
    let breaks : unlawful_behind h entry ≡ Some (length h, law) = ap
    (λ (o : Option ℕ). option_map_or (λ (n : ℕ). Some (length h, n)) o None) followed.1 in
    first_unlawful-push (first_entry ∷ []) entries entry whole.1
    ∙ ap (λ (l : List Entry). unlawful_behind l entry) (sym is)
    ∙ breaks
    ∙ ap (λ (n : ℕ). Some (n, law)) (sym followed.0)

-- ---- judging

pub first-judged : (held entries : List Entry) (entry : Entry) (schema : List Datom) → IsLawful (first_entry ∷ []) → held ≡ first_entry ∷ []
    → entries ≡ first_entry ∷ [] → slice_get entries 0 ≡ Some entry → SchemaStands schema (entry ∷ []) → IsJudged [] (Lawful held schema)
first-judged held entries entry schema lawful is others at stands =
    let first : entry ≡ first_entry = cc in (
      is,
      subst IsLawful (sym is) lawful,
      subst (λ (l : List Entry). SchemaStands schema l)
          (ap (λ (e : Entry). e ∷ []) first ∙ sym is) stands,
    )

pub lawful-followed : (h after : List Entry) (entry : Entry) (schema : List Datom) → IsLawful (h ++ entry ∷ []) → after ≡ h ++ entry ∷ []
    → SchemaStands schema (h ++ entry ∷ []) → IsFollowed h entry (Lawful after schema)
lawful-followed h after entry schema lawful is stands =
    (is, subst IsLawful (sym is) lawful, subst (λ (l : List Entry). SchemaStands schema l) (sym is) stands)

pub unlawful-told : (entries : List Entry) (t law : ℕ) → IsJudged entries (Unlawful t law) → log_reading (hold entries) ≡ unlawful t law
unlawful-told entries t law is = ap (judged entries) is
