-- The scripts of the generator are forms, one on each line.
use Rattle.std.proofs.Common.{◌≡◌, ℕ, zero, suc, ◌+◌, ◌*◌, ◌%◌, ◌<◌, ◌≤◌, ◌^◌, Bool, true, false, inl, inr, pos, List, [], ◌∷◌, ◌++◌, length}
use Rattle.std.proofs.Common.{drop, length-append, refl, sym, ap, ◌∙◌, subst, arith}
use Rattle.std.proofs.lemmas.List.{append-nil, append_assoc}
use Rattle.std.proofs.lemmas.Nat.{mod_below}
use Rattle.std.proofs.lemmas.Str.{IsUtf8-append, IsUtf8-from_ascii}
use Rattle.std.proofs.lemmas.Fmt.{IsAscii-decimal, decimal_by_steps, length-decimal-le}
use Rattle.std.proofs.lemmas.Grind.{flat_map-append}
use Rattle.std.specs.Prelude.{IsUtf8, codes, decimal, flat_map, ◌==◌, if◌then◌else◌}
use Rattle.std.proofs.lemmas.Bool.{leb-true, le-leb}
use Rattle.edn_model.specs.Form as form
use Rattle.edn_model.specs.Bytes.{Each}
use Rattle.edn_model.specs.Tokens.{IsKeyword, IsKeywordName}
use Rattle.edn_model.proofs.Pieces.{is_ascii, ascii_utf8}
use Rattle.edn_model.specs.Readable.{IsReadable}
use Rattle.edn_model.specs.Canon.{Canon, escaped}
use Rattle.edn_model.specs.Grammar.{Gap, no_gap, blank, FormAt, max_depth}
use Rattle.edn_print.proofs.ReadBack.{stands}
use Rattle.talk_model.specs.Script.{Script, whole, FormsBetween, most_commands}
use Rattle.talk_model.proofs.PlainText.{text, text-Canon}
use Rattle.load_scripts.specs.Scripts.{sessions, installing, number, key, addition, retraction, commands, numbering, script_of}

-- ---- forms, one on each line

-- so many forms at most, behind the last of which a line feed stands, if anything does
record AreForms (n : ℕ) (bytes : List ℕ) : Type 0 where
  fs : List form.Form
  end : ℕ
  tail : List ℕ
  few : length fs ≤ n
  within : end ≤ length bytes
  left : (rest : List ℕ) → drop end (bytes ++ rest) ≡ tail ++ rest
  gap : (rest start : List ℕ) → Gap max_depth rest start → Gap max_depth (tail ++ rest) start
  forms : (rest : List ℕ) → FormsBetween (bytes ++ rest) 0 fs end

no_forms : AreForms 0 []
no_forms = record {
  fs = [];
  end = 0;
  tail = [];
  few = omega arith;
  within = omega arith;
  left = λ rest. refl;
  gap = λ rest start g. g;
  forms = λ rest. refl;
}

more_forms : (bytes : List ℕ) (at : ℕ) (fs : List form.Form) (end : ℕ) (f : form.Form) (next : ℕ) → FormsBetween bytes at fs end
    → FormAt bytes end f next → FormsBetween bytes at (fs ++ f ∷ []) next
more_forms bytes at [] end f next is one = (next, subst (λ n. FormAt bytes n f next) is one, refl)
more_forms bytes at (g ∷ fs) end f next all one = (all.0, all.1, more_forms bytes all.0 fs end f next all.2 one)

skipped : (before rest : List ℕ) → drop (length before) (before ++ rest) ≡ rest
skipped [] rest = refl
skipped (b ∷ before) rest = skipped before rest

skipped_two : (before one rest : List ℕ) → drop (length before + length one) (before ++ (one ++ rest)) ≡ rest
skipped_two before one rest =
    ap (λ n. drop n (before ++ (one ++ rest))) (sym (length-append before one))
    ∙ ap (λ (z : List ℕ). drop (length (before ++ one)) z) (sym (append_assoc before one rest))
    ∙ skipped (before ++ one) rest

module _ (n : ℕ) (bytes : List ℕ) (so : AreForms n bytes) (f : form.Form) (line : List ℕ) (readable : IsReadable max_depth f)
    (canon : Canon f line) where
  whole_is : (rest : List ℕ) → (bytes ++ (line ++ 10 ∷ [])) ++ rest ≡ bytes ++ (line ++ 10 ∷ rest)
  whole_is rest =
      append_assoc bytes (line ++ 10 ∷ []) rest ∙ ap (λ (z : List ℕ). bytes ++ z) (append_assoc line (10 ∷ []) rest)

  stands_behind : (rest : List ℕ) → FormAt (bytes ++ (line ++ 10 ∷ rest)) so.end f (length bytes + length line)
  stands_behind rest =
      let all = bytes ++ (line ++ 10 ∷ rest) in
      let at = stands f bytes line (10 ∷ rest) readable canon refl in
      let before : Gap max_depth (line ++ 10 ∷ rest) at.start =
      subst (λ (z : List ℕ). Gap max_depth z at.start) (skipped bytes (line ++ 10 ∷ rest)) at.before in
      record {
        order = (omega (arith, so.within, at.order.0), at.order.1);
        start = at.start;
        before = subst (λ (z : List ℕ). Gap max_depth z at.start) (sym (so.left (line ++ 10 ∷ rest)))
            (so.gap (line ++ 10 ∷ rest) at.start before);
        text = at.text;
      }

  one_more : AreForms (n + 1) (bytes ++ (line ++ 10 ∷ []))
  one_more = record {
    fs = so.fs ++ f ∷ [];
    end = length bytes + length line;
    tail = 10 ∷ [];
    few = omega (arith, so.few, length-append so.fs (f ∷ []));
    within = omega (arith, length-append bytes (line ++ 10 ∷ []), length-append line (10 ∷ []));
    left = λ rest.
        ap (λ (z : List ℕ). drop (length bytes + length line) z) (whole_is rest) ∙ skipped_two bytes line (10 ∷ rest);
    gap = λ rest start g. blank refl g;
    forms = λ rest.
        subst (λ (z : List ℕ). FormsBetween z 0 (so.fs ++ f ∷ []) (length bytes + length line)) (sym (whole_is rest))
        (more_forms (bytes ++ (line ++ 10 ∷ rest)) 0 so.fs so.end f (length bytes + length line) (so.forms (line ++ 10 ∷ rest))
        (stands_behind rest));
  }

as_script : (n : ℕ) (bytes : List ℕ) → AreForms n bytes → n ≤ most_commands → (fs : List form.Form) × Script bytes fs whole
as_script n bytes so few = (
  so.fs,
  record {
    end = so.end;
    forms = subst (λ (z : List ℕ). FormsBetween z 0 so.fs so.end) (append-nil bytes) (so.forms []);
    few = omega (arith, so.few, few);
    ends = subst (λ (z : List ℕ). Gap max_depth (drop so.end z) []) (append-nil bytes)
        (subst (λ (z : List ℕ). Gap max_depth z []) (sym (so.left [])) (so.gap [] [] no_gap));
  },
)

-- ---- the forms of the commands

transacts : IsKeyword (codes "transact")
transacts = (ascii_utf8 (codes "transact") refl, inl ((omega arith, refl), refl))

in_namespace : (first second : List ℕ) → Each is_ascii (first ++ 47 ∷ second) → IsKeywordName first → IsKeywordName second
    → IsKeyword (first ++ 47 ∷ second)
in_namespace first second ascii one other = (ascii_utf8 (first ++ 47 ∷ second) ascii, inr (first, second, refl, one, other))

retracts : IsKeyword (codes "db/retract")
retracts = in_namespace (codes "db") (codes "retract") refl ((omega arith, refl), refl) ((omega arith, refl), refl)

keys_it : IsKeyword (codes "load/key")
keys_it = in_namespace (codes "load") (codes "key") refl ((omega arith, refl), refl) ((omega arith, refl), refl)

numbers_it : IsKeyword (codes "load/num")
numbers_it = in_namespace (codes "load") (codes "num") refl ((omega arith, refl), refl) ((omega arith, refl), refl)

ident : IsKeyword (codes "db/ident")
ident = in_namespace (codes "db") (codes "ident") refl ((omega arith, refl), refl) ((omega arith, refl), refl)

value_type : IsKeyword (codes "db/valueType")
value_type = in_namespace (codes "db") (codes "valueType") refl ((omega arith, refl), refl) ((omega arith, refl), refl)

cardinality : IsKeyword (codes "db/cardinality")
cardinality = in_namespace (codes "db") (codes "cardinality") refl ((omega arith, refl), refl) ((omega arith, refl), refl)

unique : IsKeyword (codes "db/unique")
unique = in_namespace (codes "db") (codes "unique") refl ((omega arith, refl), refl) ((omega arith, refl), refl)

text_type : IsKeyword (codes "db.type/string")
text_type = in_namespace (codes "db.type") (codes "string") refl ((omega arith, refl), refl) ((omega arith, refl), refl)

long_type : IsKeyword (codes "db.type/long")
long_type = in_namespace (codes "db.type") (codes "long") refl ((omega arith, refl), refl) ((omega arith, refl), refl)

cardinality_one : IsKeyword (codes "db.cardinality/one")
cardinality_one = in_namespace (codes "db.cardinality") (codes "one") refl ((omega arith, refl), refl) ((omega arith, refl), refl)

identity : IsKeyword (codes "db.unique/identity")
identity = in_namespace (codes "db.unique") (codes "identity") refl ((omega arith, refl), refl) ((omega arith, refl), refl)

abbrev one_form : form.Form → form.Forms
one_form f = form.form f form.no_forms

abbrev asked : form.Form → form.Form
asked f = form.vector (form.form (form.keyword (codes "transact")) (one_form f))

abbrev addition_form : List ℕ → ℕ → form.Form
addition_form s n =
    asked (form.vector (one_form (form.map (form.pair (form.keyword (codes "load/key")) (form.string s)
    (form.pair (form.keyword (codes "load/num")) (form.integer (pos n)) form.no_pairs)))))

abbrev retraction_form : List ℕ → form.Form
retraction_form s =
    asked (form.vector (one_form (form.vector (form.form (form.keyword (codes "db/retract"))
    (form.form (form.vector (form.form (form.keyword (codes "load/key")) (one_form (form.string s))))
    (one_form (form.keyword (codes "load/num"))))))))

addition_readable : (s : List ℕ) (n : ℕ) → IsUtf8 s → IsReadable max_depth (form.integer (pos n)) → IsReadable max_depth (addition_form s n)
addition_readable s n utf8 long = (
  omega arith,
  (transacts, ((omega arith, ((omega arith, (keys_it, utf8, (numbers_it, long, tt)), refl), tt)), tt)),
)

retraction_readable : (s : List ℕ) → IsUtf8 s → IsReadable max_depth (retraction_form s)
retraction_readable s utf8 = (
  omega arith,
  (
    transacts,
    ((omega arith, ((omega arith, (retracts, ((omega arith, (keys_it, (utf8, tt))), (numbers_it, tt)))), tt)), tt),
  ),
)

-- ---- their texts

closed_map : (x : List ℕ) → ((((((x ++ 125 ∷ []) ++ []) ++ 93 ∷ []) ++ []) ++ 93 ∷ []) ++ 10 ∷ []) ≡ x ++ codes "}]]\n"
closed_map [] = refl
closed_map (b ∷ x) = ap (λ (z : List ℕ). b ∷ z) (closed_map x)

closed_vector : (x : List ℕ)
    → ((((((((x ++ []) ++ 93 ∷ []) ++ (32 ∷ codes ":load/num")) ++ 93 ∷ []) ++ []) ++ 93 ∷ []) ++ []) ++ 93 ∷ []) ++ 10 ∷ []
    ≡ x ++ codes "] :load/num]]]\n"
closed_vector [] = refl
closed_vector (b ∷ x) = ap (λ (z : List ℕ). b ∷ z) (closed_vector x)

addition_text : (s : List ℕ) (n : ℕ) → flat_map escaped s ≡ s → text (addition_form s n) ++ 10 ∷ []
    ≡ codes "[:transact [{:load/key \"" ++ (s ++ (codes "\" :load/num " ++ (decimal n ++ codes "}]]\n")))
addition_text s n plain =
    let e = flat_map escaped s in
    let later = 32 ∷ (codes ":load/num " ++ (decimal n ++ [])) in
    ap (λ (z : List ℕ). codes "[:transact [{:load/key \"" ++ z)
    (closed_map ((e ++ 34 ∷ []) ++ later)
    ∙ append_assoc (e ++ 34 ∷ []) later (codes "}]]\n")
    ∙ append_assoc e (34 ∷ []) (later ++ codes "}]]\n")
    ∙ ap (λ (z : List ℕ). z ++ 34 ∷ (later ++ codes "}]]\n")) plain
    ∙ ap (λ (z : List ℕ). s ++ (codes "\" :load/num " ++ (z ++ codes "}]]\n"))) (append-nil (decimal n)))

retraction_text : (s : List ℕ) → flat_map escaped s ≡ s → text (retraction_form s) ++ 10 ∷ []
    ≡ codes "[:transact [[:db/retract [:load/key \"" ++ (s ++ codes "\"] :load/num]]]\n")
retraction_text s plain =
    let e = flat_map escaped s in
    ap (λ (z : List ℕ). codes "[:transact [[:db/retract [:load/key \"" ++ z)
    (closed_vector (e ++ 34 ∷ []) ∙ append_assoc e (34 ∷ []) (codes "] :load/num]]]\n")
    ∙ ap (λ (z : List ℕ). z ++ codes "\"] :load/num]]]\n") plain)

-- ---- keys

unescaped_digit : (d : ℕ) → d < 10 → escaped (48 + d) ≡ (48 + d) ∷ []
unescaped_digit zero within = refl
unescaped_digit (suc zero) within = refl
unescaped_digit (suc (suc zero)) within = refl
unescaped_digit (suc (suc (suc zero))) within = refl
unescaped_digit (suc (suc (suc (suc zero)))) within = refl
unescaped_digit (suc (suc (suc (suc (suc zero))))) within = refl
unescaped_digit (suc (suc (suc (suc (suc (suc zero)))))) within = refl
unescaped_digit (suc (suc (suc (suc (suc (suc (suc zero))))))) within = refl
unescaped_digit (suc (suc (suc (suc (suc (suc (suc (suc zero)))))))) within = refl
unescaped_digit (suc (suc (suc (suc (suc (suc (suc (suc (suc zero))))))))) within = refl
unescaped_digit (suc (suc (suc (suc (suc (suc (suc (suc (suc (suc d)))))))))) within = absurd (omega (arith, within))

unescaped_decimal : (n : ℕ) → n < 2 ^ 64 → flat_map escaped (decimal n) ≡ decimal n
unescaped_decimal =
    decimal_by_steps (λ n ds. flat_map escaped ds ≡ ds)
    (λ n within. ap (λ (z : List ℕ). z ++ []) (unescaped_digit n within))
    (λ n ds some so. flat_map-append escaped ds ((48 + n % 10) ∷ [])
    ∙ ap (λ (z : List ℕ). z ++ flat_map escaped ((48 + n % 10) ∷ [])) so
    ∙ ap (λ (z : List ℕ). ds ++ (z ++ [])) (unescaped_digit (n % 10) (mod_below n 10 (omega arith))))

module _ (k i : ℕ) (few : k ≤ 4) (within : i < 5000) where
  small_k : k < 2 ^ 64
  small_k = omega (arith, few)

  small_i : i < 2 ^ 64
  small_i = omega (arith, within)

  unescaped_key : flat_map escaped (key k i) ≡ key k i
  unescaped_key =
      flat_map-append escaped (decimal k) (45 ∷ decimal i)
      ∙ ap (λ (z : List ℕ). z ++ flat_map escaped (45 ∷ decimal i)) (unescaped_decimal k small_k)
      ∙ ap (λ (z : List ℕ). decimal k ++ 45 ∷ z) (unescaped_decimal i small_i)

  utf8_key : IsUtf8 (key k i)
  utf8_key =
      IsUtf8-append (decimal k) (45 ∷ decimal i) (IsUtf8-from_ascii (decimal k) (IsAscii-decimal k small_k))
      (IsUtf8-append (45 ∷ []) (decimal i) (ascii_utf8 (45 ∷ []) refl) (IsUtf8-from_ascii (decimal i) (IsAscii-decimal i small_i)))

  length_key : length (key k i) ≤ 6
  length_key =
      let one = length-decimal-le 1 k (omega arith) (omega (arith, few)) small_k in
      let other = length-decimal-le 4 i (omega arith) (omega (arith, within)) small_i in
      omega (arith, one, other, length-append (decimal k) (45 ∷ decimal i))

  small_number : number k i < 1000
  small_number = mod_below (1000003 * k + 7919 * i) 1000 (omega arith)

  length_addition : length (addition k i) ≤ 49
  length_addition =
      let n = decimal (number k i) in
      let digits = length-decimal-le 3 (number k i) (omega arith) (omega (arith, small_number)) (omega (arith, small_number)) in
      omega (
        arith,
        digits,
        length_key,
        length-append (key k i) (codes "\" :load/num " ++ (n ++ codes "}]]\n")),
        length-append n (codes "}]]\n"),
      )

  length_retraction : length (retraction k i) ≤ 59
  length_retraction = omega (arith, length_key, length-append (key k i) (codes "\"] :load/num]]]\n"))

  long_number : IsReadable max_depth (form.integer (pos (number k i)))
  long_number = long (number k i) small_number
    where
      long : (n : ℕ) → n < 1000 → IsReadable max_depth (form.integer (pos n))
      long n small = le-leb n 9223372036854775807 (omega (arith, small))

  add : (n : ℕ) (bytes : List ℕ) → AreForms n bytes → AreForms (n + 1) (bytes ++ addition k i)
  add n bytes so =
      let f = addition_form (key k i) (number k i) in
      subst (λ (z : List ℕ). AreForms (n + 1) (bytes ++ z)) (addition_text (key k i) (number k i) unescaped_key)
      (one_more n bytes so f (text f) (addition_readable (key k i) (number k i) utf8_key long_number) (text-Canon f refl))

  retract : (n : ℕ) (bytes : List ℕ) → AreForms n bytes → AreForms (n + 1) (bytes ++ retraction k i)
  retract n bytes so =
      let f = retraction_form (key k i) in
      subst (λ (z : List ℕ). AreForms (n + 1) (bytes ++ z)) (retraction_text (key k i) unescaped_key)
      (one_more n bytes so f (text f) (retraction_readable (key k i) utf8_key) (text-Canon f refl))

  fewer : (m n : ℕ) (bytes : List ℕ) → m ≤ n → AreForms m bytes → AreForms n bytes
  fewer m n bytes less so = record {
    fs = so.fs;
    end = so.end;
    tail = so.tail;
    few = omega (arith, less, so.few);
    within = so.within;
    left = so.left;
    gap = so.gap;
    forms = so.forms;
  }

  command : (n : ℕ) (bytes : List ℕ) → AreForms n bytes → AreForms (n + 2) (bytes ++ commands k i)
  command n bytes so = go (i % 4 == 3)
    where
      go : (b : Bool) → AreForms (n + 2) (bytes ++ (if b then addition k i ++ retraction k i else addition k i))
      go true =
          subst (λ (z : List ℕ). AreForms (n + 2) z) (append_assoc bytes (addition k i) (retraction k i))
          (subst (λ m. AreForms m ((bytes ++ addition k i) ++ retraction k i)) (omega arith)
          (retract (n + 1) (bytes ++ addition k i) (add n bytes so)))
      go false = fewer (n + 1) (n + 2) (bytes ++ addition k i) (omega arith) (add n bytes so)

  length_command : length (commands k i) ≤ 110
  length_command = go (i % 4 == 3)
    where
      go : (b : Bool) → length (if b then addition k i ++ retraction k i else addition k i) ≤ 110
      go true = omega (arith, length_addition, length_retraction, length-append (addition k i) (retraction k i))
      go false = omega (arith, length_addition)

-- ---- the scripts

numbering_forms : (k count : ℕ) → k ≤ 4 → count ≤ 5000 → AreForms (2 * count) (numbering k count)
numbering_forms k zero few within = no_forms
numbering_forms k (suc i) few within =
    subst (λ n. AreForms n (numbering k (suc i))) (omega arith)
    (command k i few (omega (arith, within)) (2 * i) (numbering k i) (numbering_forms k i few (omega (arith, within))))

numbering_length : (k count : ℕ) → k ≤ 4 → count ≤ 5000 → length (numbering k count) ≤ 110 * count
numbering_length k zero few within = omega arith
numbering_length k (suc i) few within =
    omega (
      arith,
      numbering_length k i few (omega (arith, within)),
      length_command k i few (omega (arith, within)),
      length-append (numbering k i) (commands k i),
    )

abbrev described : List ℕ → List ℕ → form.Pairs → form.Pairs
described k v ps = form.pair (form.keyword k) (form.keyword v) ps

abbrev installing_form : form.Form
installing_form =
    asked (form.vector (form.form (form.map (described (codes "db/ident") (codes "load/key")
    (described (codes "db/valueType") (codes "db.type/string") (described (codes "db/cardinality") (codes "db.cardinality/one")
    (described (codes "db/unique") (codes "db.unique/identity") form.no_pairs)))))
    (one_form (form.map (described (codes "db/ident") (codes "load/num") (described (codes "db/valueType") (codes "db.type/long")
    (described (codes "db/cardinality") (codes "db.cardinality/one") form.no_pairs)))))))

installing_readable : IsReadable max_depth installing_form
installing_readable = (
  omega arith,
  (
    transacts,
    (
      (
        omega arith,
        (
          (omega arith, (ident, keys_it, (value_type, text_type, (cardinality, cardinality_one, (unique, identity, tt)))), refl),
          ((omega arith, (ident, numbers_it, (value_type, long_type, (cardinality, cardinality_one, tt))), refl), tt),
        ),
      ),
      tt,
    ),
  ),
)

installing_forms : AreForms 1 installing
installing_forms =
    one_more 0 [] no_forms installing_form (text installing_form) installing_readable (text-Canon installing_form refl)

module _ (k count : ℕ) (few : k ≤ 4) (within : count ≤ 5000) where
  pub script_forms : (fs : List form.Form) × Script (script_of k count) fs whole
  script_forms = go (k == sessions)
    where
      go : (b : Bool) → (fs : List form.Form) × Script (if b then installing else numbering k count) fs whole
      go true = as_script 1 installing installing_forms (omega arith)
      go false = as_script (2 * count) (numbering k count) (numbering_forms k count few within) (omega (arith, within))

  pub script_length : length (script_of k count) ≤ 1000000
  script_length = go (k == sessions)
    where
      go : (b : Bool) → length (if b then installing else numbering k count) ≤ 1000000
      go true = leb-true (length installing) 1000000 refl
      go false = omega (arith, numbering_length k count few within, within)
