-- Each form that a reader can give has one canonical text, and is printed as it is.
use Rattle.std.proofs.Common.{◌≡◌, ℕ, ◌-◌, List, [], ◌∷◌, ◌++◌, refl, ap, ◌∙◌, sym, codes}
use Rattle.edn_model.specs.Form as form
use Rattle.edn_model.specs.Bytes.{open_paren, close_paren, open_bracket, close_bracket, open_brace, close_brace, hash}
use Rattle.edn_model.specs.Readable.{IsReadable, AreReadable, ArePairsReadable}
use Rattle.edn_model.specs.Canon.{string_text, Canon, CanonAll, CanonRest, CanonPairs, CanonRestPairs}
use Rattle.edn_print.specs.Printable.{printable, printables, printable_pairs}
use Rattle.edn_print.proofs.Moments as moment

-- ---- no form has two

mutual
  pub one_text : (f : form.Form) (a b : List ℕ) → Canon f a → Canon f b → a ≡ b
  one_text form.nil a b h k = h ∙ sym k
  one_text (form.boolean v) a b h k = h ∙ sym k
  one_text (form.integer z) a b h k = h ∙ sym k
  one_text (form.string s) a b h k = h ∙ sym k
  one_text (form.symbol s) a b h k = h ∙ sym k
  one_text (form.keyword s) a b h k = h ∙ sym k
  one_text (form.list fs) a b h k = h.2 ∙ ap (λ (z : List ℕ). open_paren ∷ (z ++ close_paren ∷ [])) (one_all fs h.0 k.0 h.1 k.1) ∙ sym k.2
  one_text (form.vector fs) a b h k =
      h.2 ∙ ap (λ (z : List ℕ). open_bracket ∷ (z ++ close_bracket ∷ [])) (one_all fs h.0 k.0 h.1 k.1) ∙ sym k.2
  one_text (form.map ps) a b h k = h.2 ∙ ap (λ (z : List ℕ). open_brace ∷ (z ++ close_brace ∷ [])) (one_pairs ps h.0 k.0 h.1 k.1) ∙ sym k.2
  one_text (form.set fs) a b h k =
      h.2 ∙ ap (λ (z : List ℕ). hash ∷ open_brace ∷ (z ++ close_brace ∷ [])) (one_all fs h.0 k.0 h.1 k.1) ∙ sym k.2
  one_text (form.instant z) a b h k =
      h.2 ∙ ap (λ (s : List ℕ). codes "#inst " ++ string_text s) (moment.one_text z h.0 k.0 h.1 k.1) ∙ sym k.2
  one_text (form.uuid n) a b h k = h ∙ sym k

  one_all : (fs : form.Forms) (a b : List ℕ) → CanonAll fs a → CanonAll fs b → a ≡ b
  one_all form.no_forms a b h k = h ∙ sym k
  one_all (form.form f fs) a b h k =
      h.4
      ∙ ap (λ (z : List ℕ). z ++ h.1) (one_text f h.0 k.0 h.2 k.2)
      ∙ ap (λ (z : List ℕ). k.0 ++ z) (one_rest fs h.1 k.1 h.3 k.3)
      ∙ sym k.4

  one_rest : (fs : form.Forms) (a b : List ℕ) → CanonRest fs a → CanonRest fs b → a ≡ b
  one_rest form.no_forms a b h k = h ∙ sym k
  one_rest (form.form f fs) a b h k =
      h.4
      ∙ ap (λ (z : List ℕ). 32 ∷ (z ++ h.1)) (one_text f h.0 k.0 h.2 k.2)
      ∙ ap (λ (z : List ℕ). 32 ∷ (k.0 ++ z)) (one_rest fs h.1 k.1 h.3 k.3)
      ∙ sym k.4

  one_pairs : (ps : form.Pairs) (a b : List ℕ) → CanonPairs ps a → CanonPairs ps b → a ≡ b
  one_pairs form.no_pairs a b h k = h ∙ sym k
  one_pairs (form.pair x y ps) a b h k =
      h.6
      ∙ ap (λ (z : List ℕ). z ++ 32 ∷ (h.1 ++ h.2)) (one_text x h.0 k.0 h.3 k.3)
      ∙ ap (λ (z : List ℕ). k.0 ++ 32 ∷ (z ++ h.2)) (one_text y h.1 k.1 h.4 k.4)
      ∙ ap (λ (z : List ℕ). k.0 ++ 32 ∷ (k.1 ++ z)) (one_later ps h.2 k.2 h.5 k.5) ∙ sym k.6

  one_later : (ps : form.Pairs) (a b : List ℕ) → CanonRestPairs ps a → CanonRestPairs ps b → a ≡ b
  one_later form.no_pairs a b h k = h ∙ sym k
  one_later (form.pair x y ps) a b h k =
      h.6
      ∙ ap (λ (z : List ℕ). 32 ∷ (z ++ 32 ∷ (h.1 ++ h.2))) (one_text x h.0 k.0 h.3 k.3)
      ∙ ap (λ (z : List ℕ). 32 ∷ (k.0 ++ 32 ∷ (z ++ h.2))) (one_text y h.1 k.1 h.4 k.4)
      ∙ ap (λ (z : List ℕ). 32 ∷ (k.0 ++ 32 ∷ (k.1 ++ z))) (one_later ps h.2 k.2 h.5 k.5) ∙ sym k.6

-- ---- each form that a reader can give has one

mutual
  pub has_text : (depth : ℕ) (f : form.Form) → IsReadable depth f → (bytes : List ℕ) × Canon f bytes
  has_text depth form.nil h = (_, refl)
  has_text depth (form.boolean b) h = (_, refl)
  has_text depth (form.integer z) h = (_, refl)
  has_text depth (form.string s) h = (_, refl)
  has_text depth (form.symbol s) h = (_, refl)
  has_text depth (form.keyword k) h = (_, refl)
  has_text depth (form.list fs) h = let all = has_all (depth - 1) fs h.1 in (_, (all.0, all.1, refl))
  has_text depth (form.vector fs) h = let all = has_all (depth - 1) fs h.1 in (_, (all.0, all.1, refl))
  has_text depth (form.map ps) h = let all = has_pairs (depth - 1) ps h.1 in (_, (all.0, all.1, refl))
  has_text depth (form.set fs) h = let all = has_all (depth - 1) fs h.1 in (_, (all.0, all.1, refl))
  has_text depth (form.instant z) h = let text = moment.has_text z h in (_, (text.0, text.1, refl))
  has_text depth (form.uuid n) h = (_, refl)

  has_all : (depth : ℕ) (fs : form.Forms) → AreReadable depth fs → (bytes : List ℕ) × CanonAll fs bytes
  has_all depth form.no_forms h = ([], refl)
  has_all depth (form.form f fs) h =
      let first = has_text depth f h.0 in
      let others = has_rest depth fs h.1 in
      (first.0 ++ others.0, (first.0, others.0, first.1, others.1, refl))

  has_rest : (depth : ℕ) (fs : form.Forms) → AreReadable depth fs → (bytes : List ℕ) × CanonRest fs bytes
  has_rest depth form.no_forms h = ([], refl)
  has_rest depth (form.form f fs) h =
      let first = has_text depth f h.0 in
      let others = has_rest depth fs h.1 in
      (32 ∷ (first.0 ++ others.0), (first.0, others.0, first.1, others.1, refl))

  has_pairs : (depth : ℕ) (ps : form.Pairs) → ArePairsReadable depth ps → (bytes : List ℕ) × CanonPairs ps bytes
  has_pairs depth form.no_pairs h = ([], refl)
  has_pairs depth (form.pair k v ps) h =
      let key = has_text depth k h.0 in
      let value = has_text depth v h.1 in
      let others = has_later depth ps h.2 in
      (key.0 ++ 32 ∷ (value.0 ++ others.0), (key.0, value.0, others.0, key.1, value.1, others.1, refl))

  has_later : (depth : ℕ) (ps : form.Pairs) → ArePairsReadable depth ps → (bytes : List ℕ) × CanonRestPairs ps bytes
  has_later depth form.no_pairs h = ([], refl)
  has_later depth (form.pair k v ps) h =
      let key = has_text depth k h.0 in
      let value = has_text depth v h.1 in
      let others = has_later depth ps h.2 in
      (32 ∷ (key.0 ++ 32 ∷ (value.0 ++ others.0)), (key.0, value.0, others.0, key.1, value.1, others.1, refl))

-- ---- it is printed as it is

mutual
  pub printable-readable : (depth : ℕ) (f : form.Form) → IsReadable depth f → printable f ≡ f
  printable-readable depth form.nil h = refl
  printable-readable depth (form.boolean b) h = refl
  printable-readable depth (form.integer z) h = refl
  printable-readable depth (form.string s) h = refl
  printable-readable depth (form.symbol s) h = refl
  printable-readable depth (form.keyword k) h = refl
  printable-readable depth (form.list fs) h = ap form.list (printables-readable (depth - 1) fs h.1)
  printable-readable depth (form.vector fs) h = ap form.vector (printables-readable (depth - 1) fs h.1)
  printable-readable depth (form.map ps) h = ap form.map (printable_pairs-readable (depth - 1) ps h.1)
  printable-readable depth (form.set fs) h = ap form.set (printables-readable (depth - 1) fs h.1)
  printable-readable depth (form.instant z) h = ap form.instant (moment.nearest_itself z h)
  printable-readable depth (form.uuid n) h = refl

  printables-readable : (depth : ℕ) (fs : form.Forms) → AreReadable depth fs → printables fs ≡ fs
  printables-readable depth form.no_forms h = refl
  printables-readable depth (form.form f fs) h =
      ap (λ z. form.form z (printables fs)) (printable-readable depth f h.0) ∙ ap (λ z. form.form f z) (printables-readable depth fs h.1)

  printable_pairs-readable : (depth : ℕ) (ps : form.Pairs) → ArePairsReadable depth ps → printable_pairs ps ≡ ps
  printable_pairs-readable depth form.no_pairs h = refl
  printable_pairs-readable depth (form.pair k v ps) h =
      ap (λ z. form.pair z (printable v) (printable_pairs ps)) (printable-readable depth k h.0)
      ∙ ap (λ z. form.pair k z (printable_pairs ps)) (printable-readable depth v h.1)
      ∙ ap (λ z. form.pair k v z) (printable_pairs-readable depth ps h.2)
