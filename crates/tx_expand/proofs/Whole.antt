-- What the walk by numbers tells is what the definitions say of the forms.
use Rattle.std.proofs.Common.{◌≡◌, ℕ, ◌+◌, Bool, true, false, not, List, [], ◌∷◌, ◌++◌, ◌&&◌, ◌||◌, length, map, cond, refl, ap, sym, ◌∙◌}
use Rattle.std.proofs.Common.{subst, arith}
use Rattle.std.specs.Prelude.{filter, slice_index_or, Vec, Option, Some, None}
use Rattle.std.specs.declared.alloc.Global.{Global}
use Rattle.std.specs.List.{All}
use Rattle.std.proofs.lemmas.Bool.{false≢true}
use Rattle.edn_model.specs.Form.{Form}
use Rattle.fb_values.specs.declared.facts.Datom.{Datom}
use Rattle.fb_model.specs.Schema.{attribute_named}
use Rattle.tx_refusals.specs.declared.reasons.Reason.{Reason}
use Rattle.tx_refusals.specs.declared.reasons.Reason.TheVariants.{NotAnAttribute, ProtectedAttribute, WrongType, NotUniqueLookup}
use Rattle.tx_model.specs.Asks as model
use Rattle.tx_model.specs.Step.{first_yes, first_refusal}
use Rattle.tx_model.specs.Tempids.{Db}
use Rattle.tx_model.specs.Walk.{flat}
use Rattle.tx_forms.specs.Parts.{parts_in}
use Rattle.tx_asks.specs.Asks.{Legend, ask_of, part_of, old_part_of, name_of, matters, IsTyped, AreCounted, AreAsks}
use Rattle.tx_asks.specs.declared.asks.LookupRef.{LookupRef}
use Rattle.tx_asks.specs.declared.asks.Name.{Name}
use Rattle.tx_asks.specs.declared.asks.Name.TheVariants.{Number, Ident, Lookup, Tempid, Nameless}
use Rattle.tx_asks.specs.declared.asks.Operand.{Operand}
use Rattle.tx_asks.specs.declared.asks.Operand.TheVariants.{Plain, Entity}
use Rattle.tx_asks.specs.declared.asks.Ask.{Ask}
use Rattle.tx_asks.specs.declared.asks.Ask.TheVariants.{Adds, Retracts, RetractsAll, Compares, RetractsEntity, Meets}
use Rattle.tx_expand.specs.declared.faults.Faults.{Faults}
use Rattle.tx_expand.specs.declared.firsts.Firsts.{Firsts}
use Rattle.tx_expand.specs.declared.forms.Expanded.{Expanded}
use Rattle.tx_expand.specs.View.{model_name}
use Rattle.tx_expand.specs.Numbered.{walk_forms}
use Rattle.tx_expand.specs.Faults.{part_read, old_part_read, ask_read, form_faults, is_kept, is_of_unknown, has_wrong_value}
use Rattle.tx_expand.specs.Rules.{schema_rules, first_unknown, firsts_from, rules_of}
use Rattle.tx_expand.specs.Walked.{AreExpanded}
use Rattle.tx_expand.specs.Placed.{placed, part_placed, ask_placed}
use Rattle.tx_expand.proofs.LookupLists.{placed_lookup}
use Rattle.tx_expand.proofs.Renaming.{faults_placed, matters_placed}
use Rattle.tx_expand.proofs.FormsNumbered.{forms_numbered, all_apart, has_all}
use Rattle.tx_expand.proofs.OneMore.{no_some, append_none}
use Rattle.tx_expand.proofs.Below.{Each, IsAskBelow, all_of_each, counted_asks, kept_below, lists_below}
use Rattle.tx_expand.proofs.SameAttributes.{flat_same, faults_same}

-- what forms ask, by numbers
abbrev pub walked : List Datom → List Form → List (List model.Ask)
walked s fs = walk_forms s 0 (map parts_in fs)

-- ---- what is wrong, by the facts of a history

module _ (s facts : List Datom) (same : (k : List ℕ) → attribute_named s k ≡ attribute_named facts k) (fs : List Form) where
  abbrev pub places : List (List ℕ)
  places = (forms_numbered s 0 0 fs).places

  pub asks_are : (more : List (List ℕ)) → map (map (ask_placed (places ++ more))) (walked s fs) ≡ flat facts fs
  asks_are more =
      (forms_numbered s 0 0 fs).same ((forms_numbered s 0 0 fs).places ++ more) (has_all (forms_numbered s 0 0 fs).places more)
      ∙ flat_same s facts same fs

  tests_same : (test : Faults → Bool) (all : List (List ℕ)) (lists : List (List model.Ask))
      → map (λ form. test (form_faults s form)) lists ≡ map (λ form. test (form_faults facts form)) (map (map (ask_placed all)) lists)
  tests_same test all [] = refl
  tests_same test all (asks ∷ lists) =
      ap (λ found. test found ∷ map (λ form. test (form_faults s form)) lists)
      (sym (faults_placed all s asks) ∙ faults_same s facts same (map (ask_placed all) asks))
      ∙ ap (λ rest. test (form_faults facts (map (ask_placed all) asks)) ∷ rest) (tests_same test all lists)

  pub tests_are : (test : Faults → Bool)
      → map (λ form. test (form_faults s form)) (walked s fs) ≡ map (λ form. test (form_faults facts form)) (flat facts fs)
  tests_are test = tests_same test (places ++ []) (walked s fs) ∙ ap (map (λ form. test (form_faults facts form))) (asks_are [])

  abbrev first_where : (Faults → Bool) → Option ℕ
  first_where test = first_yes 0 (map (λ form. test (form_faults facts form)) (flat facts fs))

  first_is : (test : Faults → Bool) → first_yes 0 (map (λ form. test (form_faults s form)) (walked s fs)) ≡ first_where test
  first_is test = ap (first_yes 0) (tests_are test)

  pub rules_are : ◌≡◌ {A = List (Reason × Option ℕ)}
      ((NotAnAttribute, first_unknown s 0 (walked s fs)) ∷ rules_of (firsts_from s 0 (walked s fs)))
      ((NotAnAttribute, first_where (λ found. found.unknown)) ∷ (ProtectedAttribute, first_where (λ found. found.protected))
      ∷ (WrongType, first_where (λ found. found.wrong)) ∷ (NotUniqueLookup, first_where (λ found. found.not_unique)) ∷ [])
  rules_are =
      ap (λ o. (NotAnAttribute, o) ∷ rules_of (firsts_from s 0 (walked s fs))) (first_is (λ found. found.unknown))
      ∙ ap (λ o. (NotAnAttribute, first_where (λ found. found.unknown)) ∷ (ProtectedAttribute, o) ∷ (
        WrongType,
        (firsts_from s 0 (walked s fs)).wrong,
      ) ∷ (NotUniqueLookup, (firsts_from s 0 (walked s fs)).not_unique) ∷ []) (first_is (λ found. found.protected))
      ∙ ap (λ o. (NotAnAttribute, first_where (λ found. found.unknown)) ∷ (ProtectedAttribute, first_where (λ found. found.protected))
      ∷ (WrongType, o) ∷ (NotUniqueLookup, (firsts_from s 0 (walked s fs)).not_unique) ∷ []) (first_is (λ found. found.wrong))
      ∙ ap (λ o. (NotAnAttribute, first_where (λ found. found.unknown)) ∷ (ProtectedAttribute, first_where (λ found. found.protected))
      ∷ (WrongType, first_where (λ found. found.wrong)) ∷ (NotUniqueLookup, o) ∷ []) (first_is (λ found. found.not_unique))

  -- ---- the asks that stand are those that matter

  and_true : (a : Bool) → (a && true) ≡ a
  and_true true = refl
  and_true false = refl

  or_none : (a b : Bool) → (a || b) ≡ false → (a ≡ false) × (b ≡ false)
  or_none true b none = absurd (false≢true (sym none))
  or_none false b none = (refl, none)

  kept_one : (ask : model.Ask) → is_of_unknown s ask ≡ false → has_wrong_value s ask ≡ false → is_kept s ask ≡ matters ask
  kept_one ask known right =
      ap (λ b. matters ask && not (b || has_wrong_value s ask)) known
      ∙ ap (λ b. matters ask && not (false || b)) right
      ∙ and_true (matters ask)

  one_matters : (asks : List model.Ask) → (form_faults s asks).unknown ≡ false → (form_faults s asks).wrong ≡ false
      → filter (is_kept s) asks ≡ filter matters asks
  one_matters [] known right = refl
  one_matters (ask ∷ asks) known right =
      let unknown_parts = or_none _ _ known in
      let wrong_parts = or_none _ _ right in
      let unknown_here = or_none (is_of_unknown s ask) _ unknown_parts.0 in
      let wrong_here = or_none (has_wrong_value s ask) _ wrong_parts.0 in
      ap (λ b. cond b (ask ∷ filter (is_kept s) asks) (filter (is_kept s) asks)) (kept_one ask unknown_here.0 wrong_here.0)
      ∙ ap (λ rest. cond (matters ask) (ask ∷ rest) rest) (one_matters asks unknown_parts.1 wrong_parts.1)

  first_none : (b : Bool) (n : ℕ) (rest : Option ℕ) → cond b (Some n) rest ≡ None → (b ≡ false) × (rest ≡ None)
  first_none true n rest none = no_some none
  first_none false n rest none = (refl, none)

  all_matter : (n : ℕ) (lists : List (List model.Ask)) → first_unknown s n lists ≡ None → (firsts_from s n lists).wrong ≡ None
      → map (filter (is_kept s)) lists ≡ map (filter matters) lists
  all_matter n [] known right = refl
  all_matter n (asks ∷ lists) known right =
      let known_parts = first_none (form_faults s asks).unknown n (first_unknown s (n + 1) lists) known in
      let right_parts = first_none (form_faults s asks).wrong n (firsts_from s (n + 1) lists).wrong right in
      ap (λ kept. kept ∷ map (filter (is_kept s)) lists) (one_matters asks known_parts.0 right_parts.0)
      ∙ ap (λ rest. filter matters asks ∷ rest) (all_matter (n + 1) lists known_parts.1 right_parts.1)

  filter_placed : (all : List (List ℕ)) (asks : List model.Ask)
      → map (ask_placed all) (filter matters asks) ≡ filter matters (map (ask_placed all) asks)
  filter_placed all [] = refl
  filter_placed all (ask ∷ asks) =
      by_test (matters ask) (filter matters asks) (filter matters (map (ask_placed all) asks)) (filter_placed all asks)
      ∙ ap (λ b. cond b (ask_placed all ask ∷ filter matters (map (ask_placed all) asks)) (filter matters (map (ask_placed all) asks)))
      (sym (matters_placed all ask))
    where
      by_test : (b : Bool) (xs ys : List model.Ask) → map (ask_placed all) xs ≡ ys
          → map (ask_placed all) (cond b (ask ∷ xs) xs) ≡ cond b (ask_placed all ask ∷ ys) ys
      by_test true xs ys are = ap (λ rest. ask_placed all ask ∷ rest) are
      by_test false xs ys are = are

  filters_placed : (all : List (List ℕ)) (lists : List (List model.Ask))
      → map (map (ask_placed all)) (map (filter matters) lists) ≡ map (filter matters) (map (map (ask_placed all)) lists)
  filters_placed all [] = refl
  filters_placed all (asks ∷ lists) =
      ap (λ kept. kept ∷ map (map (ask_placed all)) (map (filter matters) lists)) (filter_placed all asks)
      ∙ ap (λ rest. filter matters (map (ask_placed all) asks) ∷ rest) (filters_placed all lists)

  -- ---- the asks of the program

  abbrev legend : List LookupRef → List (List ℕ) → Legend
  legend refs all = record { lookups = refs; places = all }

  name_is : (refs : List LookupRef) (all : List (List ℕ)) (name : Name) → name_of (legend refs all) name ≡ placed all (model_name refs name)
  name_is refs all (Number z) = refl
  name_is refs all (Ident k) = refl
  name_is refs all (Lookup n) = placed_lookup all refs n
  name_is refs all (Tempid text) = refl
  name_is refs all (Nameless n) = refl

  part_is : (refs : List LookupRef) (all : List (List ℕ)) (part : Operand)
      → part_of (legend refs all) part ≡ part_placed all (part_read refs part)
  part_is refs all (Plain f v) = refl
  part_is refs all (Entity name) = ap model.entity (name_is refs all name)

  old_part_is : (refs : List LookupRef) (all : List (List ℕ)) (part : Option Operand)
      → old_part_of (legend refs all) part ≡ part_placed all (old_part_read refs part)
  old_part_is refs all None = refl
  old_part_is refs all (Some part) = part_is refs all part

  ask_is : (refs : List LookupRef) (all : List (List ℕ)) (ask : Ask) → ask_of (legend refs all) ask ≡ ask_placed all (ask_read refs ask)
  ask_is refs all (Adds on attribute part) =
      ap (λ name. model.adds name attribute.now.ident (part_of (legend refs all) part)) (name_is refs all on)
      ∙ ap (model.adds (placed all (model_name refs on)) attribute.now.ident) (part_is refs all part)
  ask_is refs all (Retracts on attribute part) =
      ap (λ name. model.retracts name attribute.now.ident (part_of (legend refs all) part)) (name_is refs all on)
      ∙ ap (model.retracts (placed all (model_name refs on)) attribute.now.ident) (part_is refs all part)
  ask_is refs all (RetractsAll on attribute) = ap (λ name. model.retracts_all name attribute.now.ident) (name_is refs all on)
  ask_is refs all (Compares of) =
      ap (λ name. model.compares name of.attribute.now.ident (old_part_of (legend refs all) of.old) (part_of (legend refs all) of.new))
      (name_is refs all of.on)
      ∙ ap (λ part. model.compares (placed all (model_name refs of.on)) of.attribute.now.ident part (part_of (legend refs all) of.new))
      (old_part_is refs all of.old)
      ∙ ap (model.compares (placed all (model_name refs of.on)) of.attribute.now.ident (part_placed all (old_part_read refs of.old)))
      (part_is refs all of.new)
  ask_is refs all (RetractsEntity on) = ap model.retracts_entity (name_is refs all on)
  ask_is refs all (Meets on) = ap model.meets (name_is refs all on)

  form_is : (refs : List LookupRef) (all : List (List ℕ)) (xs : List Ask)
      → map (ask_of (legend refs all)) xs ≡ map (ask_placed all) (map (ask_read refs) xs)
  form_is refs all [] = refl
  form_is refs all (ask ∷ xs) =
      ap (λ first. first ∷ map (ask_of (legend refs all)) xs) (ask_is refs all ask)
      ∙ ap (λ rest. ask_placed all (ask_read refs ask) ∷ rest) (form_is refs all xs)

  forms_are : (refs : List LookupRef) (all : List (List ℕ)) (forms : List (Vec Ask Global))
      → map (λ form. map (ask_of (legend refs all)) form.items) forms
      ≡ map (map (ask_placed all)) (map (λ form. map (ask_read refs) form.items) forms)
  forms_are refs all [] = refl
  forms_are refs all (form ∷ forms) =
      ap (λ first. first ∷ map (λ other. map (ask_of (legend refs all)) other.items) forms) (form_is refs all form.items)
      ∙ ap (λ rest. map (ask_placed all) (map (ask_read refs) form.items) ∷ rest) (forms_are refs all forms)

  read_same : (ask : Ask) → IsTyped s ask → IsTyped facts ask
  read_same (Adds on attribute part) read = (sym (same attribute.now.ident) ∙ read.0, read.1)
  read_same (Retracts on attribute part) read = (sym (same attribute.now.ident) ∙ read.0, read.1)
  read_same (RetractsAll on attribute) read = sym (same attribute.now.ident) ∙ read
  read_same (Compares of) read = (sym (same of.attribute.now.ident) ∙ read.0, read.1, read.2)
  read_same (RetractsEntity on) read = tt
  read_same (Meets on) read = tt

  all_counted : (n : ℕ) (refs : List LookupRef) (forms : List (Vec Ask Global))
      → Each (Each (IsAskBelow n)) (map (λ form. map (ask_read refs) form.items) forms)
      → Each (λ form. All (AreCounted n) form.items) forms
  all_counted n refs [] below = tt
  all_counted n refs (form ∷ forms) below =
      (all_of_each (AreCounted n) form.items (counted_asks n refs form.items below.0), all_counted n refs forms below.1)

  pub placed_alone : map (map (ask_placed places)) (walked s fs) ≡ flat facts fs
  placed_alone = ap (λ all. map (map (ask_placed all)) (walked s fs)) (sym (append_none places)) ∙ asks_are []

  pub are_asks : (e : Expanded) → AreExpanded s (map parts_in fs) e → e.firsts.wrong ≡ None
      → AreAsks (record { forms = e.forms; lookups = e.lookups; nameless = e.nameless; lacking = e.firsts.lacking }) facts (flat facts fs)
  are_asks e are right =
      let wrong_none : (firsts_from s 0 (walked s fs)).wrong ≡ None = ap (λ firsts. firsts.wrong) (sym are.firsts_are) ∙ right in
      let counts : length places ≡ e.nameless = sym (are.counted ∙ (forms_numbered s 0 0 fs).next ∙ omega arith) in
      record {
        places = places;
        apart = all_apart places (forms_numbered s 0 0 fs).apart;
        counted = counts;
        same =
            forms_are e.lookups.items places e.forms.items
            ∙ ap (map (map (ask_placed places))) (are.asks_are ∙ all_matter 0 (walked s fs) are.known wrong_none)
            ∙ filters_placed places (walked s fs)
            ∙ ap (map (filter matters)) placed_alone;
        read =
            λ k d below.
            λ j ask inside. read_same (slice_index_or (slice_index_or e.forms.items k d).items j ask) (are.read k d below j ask inside);
        names_counted =
            subst (λ n. All (λ form. All (AreCounted n) form.items) e.forms.items) counts
            (all_of_each (λ form. All (AreCounted (length places)) form.items) e.forms.items
            (all_counted (length places) e.lookups.items e.forms.items
            (subst (λ lists. Each (Each (IsAskBelow (length places))) lists) (sym are.asks_are)
            (kept_below (length places) (is_kept s) (walked s fs)
            (lists_below places (walked s fs) (λ more. asks_are more ∙ sym placed_alone))))));
        lacking = ap (λ firsts. firsts.lacking) are.firsts_are ∙ first_is (λ found. found.lacking);
      }

-- ---- two databases

pub schema_rules_same : (one other : Db) (asks : List (List model.Ask))
    → ((k : List ℕ) → attribute_named one.facts k ≡ attribute_named other.facts k)
    → schema_rules one asks ≡ schema_rules other asks
schema_rules_same one other asks same =
    ap (λ o. (NotAnAttribute, o) ∷ (ProtectedAttribute, first_by one.facts (λ found. found.protected)) ∷ (
      WrongType,
      first_by one.facts (λ found. found.wrong),
    ) ∷ (NotUniqueLookup, first_by one.facts (λ found. found.not_unique)) ∷ []) (same_by (λ found. found.unknown))
    ∙ ap (λ o. (NotAnAttribute, first_by other.facts (λ found. found.unknown)) ∷ (ProtectedAttribute, o) ∷ (
      WrongType,
      first_by one.facts (λ found. found.wrong),
    ) ∷ (NotUniqueLookup, first_by one.facts (λ found. found.not_unique)) ∷ []) (same_by (λ found. found.protected))
    ∙ ap (λ o. (NotAnAttribute, first_by other.facts (λ found. found.unknown)) ∷ (
      ProtectedAttribute,
      first_by other.facts (λ found. found.protected),
    ) ∷ (WrongType, o) ∷ (NotUniqueLookup, first_by one.facts (λ found. found.not_unique)) ∷ []) (same_by (λ found. found.wrong))
    ∙ ap (λ o. (NotAnAttribute, first_by other.facts (λ found. found.unknown)) ∷ (
      ProtectedAttribute,
      first_by other.facts (λ found. found.protected),
    ) ∷ (WrongType, first_by other.facts (λ found. found.wrong)) ∷ (NotUniqueLookup, o) ∷ []) (same_by (λ found. found.not_unique))
  where
    first_by : List Datom → (Faults → Bool) → Option ℕ
    first_by facts test = first_yes 0 (map (λ form. test (form_faults facts form)) asks)

    same_tests : (test : Faults → Bool) (lists : List (List model.Ask))
        → map (λ form. test (form_faults one.facts form)) lists ≡ map (λ form. test (form_faults other.facts form)) lists
    same_tests test [] = refl
    same_tests test (form ∷ lists) =
        ap (λ found. test found ∷ map (λ form. test (form_faults one.facts form)) lists) (faults_same one.facts other.facts same form)
        ∙ ap (λ rest. test (form_faults other.facts form) ∷ rest) (same_tests test lists)

    same_by : (test : Faults → Bool)
        → first_yes 0 (map (λ form. test (form_faults one.facts form)) asks)
        ≡ first_yes 0 (map (λ form. test (form_faults other.facts form)) asks)
    same_by test = ap (first_yes 0) (same_tests test asks)

-- ---- no rule is broken

by_places : (p w u : Option ℕ) → first_refusal ((ProtectedAttribute, p) ∷ (WrongType, w) ∷ (NotUniqueLookup, u) ∷ []) ≡ None → w ≡ None
by_places None None u none = refl
by_places None (Some place) u none = no_some none
by_places (Some place) w u none = no_some none

pub none_wrong : (firsts : Firsts) → first_refusal (rules_of firsts) ≡ None → firsts.wrong ≡ None
none_wrong firsts none = by_places firsts.protected firsts.wrong firsts.not_unique none
