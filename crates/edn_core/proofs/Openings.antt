-- What opens and what closes, by the bytes that stand next.
use Rattle.std.proofs.Common.{◌≡◌, ℕ, ◌+◌, ◌<◌, ◌≤◌, Bool, true, false, List, [], ◌∷◌, ◌++◌, length, drop, Vec, Global, refl, ap, ◌∙◌, sym}
use Rattle.std.proofs.Common.{subst, arith}
use Rattle.std.proofs.lemmas.List.{length-drop, drop-drop}
use Rattle.std.proofs.lemmas.Bool.Decides.{nat_tests}
use Rattle.std.specs.Prelude.{◌==◌, ◌&&◌, ◌||◌, not, Option, None, Result, Ok, Err, IfOk, OnErr}
use Rattle.edn_model.specs.Form as model
use Rattle.edn_model.specs.Bytes.{quote, hash, open_paren, semicolon, open_bracket, underscore, open_brace, is_blank, is_opening}
use Rattle.edn_model.specs.Bytes.{is_closing, is_token_byte}
use Rattle.edn_model.specs.Likeness.{distinct, keys}
use Rattle.edn_model.specs.Faults as faults
use Rattle.edn_model.specs.Faults.{opens_collection, opens_discard, begins_no_string}
use Rattle.edn_model.specs.Steps as steps
use Rattle.edn_model.specs.Steps.{Frames, frame, opens_of, State, going, Step, Reaches, Free, HasRoom, land}
use Rattle.edn_model.proofs.Fronts.{discard_of}
use Rattle.edn_model.proofs.Reached.{one}
use Rattle.edn_form.specs.View.{forms_of, pairs_of}
use Rattle.edn_form.specs.declared.form.Edn.{Edn}
use Rattle.edn_duplicates.specs.Inside.{IsDistinctInside, AreDistinctInside, ArePairsDistinctInside}
use Rattle.edn_duplicates.specs.FormCodes.{HasCodesOf}
use Rattle.edn_duplicates.specs.declared.form_codes.FormCodes.{FormCodes}
use Rattle.edn_core.specs.Answers.{MatchFault, fault_of}
use Rattle.edn_core.specs.Frames.{open_of, inside, frames_of, AreSound, ClosesAs, ClosesNothing, LeadsOn, LeadsAstray, Leads, Whole, Enters}
use Rattle.edn_core.specs.Frames.{Opens, RefusedAt}
use Rattle.edn_core.specs.Fronts.{BeginsToken}
use Rattle.edn_core.specs.declared.construct.Construct.{Construct}
use Rattle.edn_core.specs.declared.construct.Construct.TheVariants.{List as List', Vector, Map, Set, Discard}
use Rattle.edn_core.specs.declared.construct.Frame.{Frame}
use Rattle.edn_core.specs.declared.fault.EdnFault.{EdnFault}
use Rattle.edn_core.specs.declared.fault.EdnFault.TheVariants.{Bad, Unsupported, Deep, Cut, Memory}
use Rattle.edn_core.specs.declared.progress.Progress.{Progress}
use Rattle.edn_core.specs.declared.progress.Progress.TheVariants.{Further}
use Rattle.edn_core.proofs.Landings.{kept_outer, kept_inner}
use Rattle.edn_core.proofs.Leading.{stuck_at}
use Rattle.edn_core.proofs.Stacks.{framed, none_there, frames-last, kept_last}

-- ---- places

-- one byte further, and two
pub one_on : (bytes : List ℕ) (at a : ℕ) → drop at bytes ≡ a ∷ drop 1 (drop at bytes) → drop at bytes ≡ a ∷ drop (at + 1) bytes
one_on bytes at a is = is ∙ ap (λ z. a ∷ z) (drop-drop 1 at bytes)

pub two_on : (bytes : List ℕ) (at a b : ℕ) → drop at bytes ≡ a ∷ b ∷ drop 2 (drop at bytes) → drop at bytes ≡ a ∷ b ∷ drop (at + 2) bytes
two_on bytes at a b is = is ∙ ap (λ z. a ∷ b ∷ z) (drop-drop 2 at bytes)

pub one_fits : (bytes : List ℕ) (at a : ℕ) (rest : List ℕ) → drop at bytes ≡ a ∷ rest → at + 1 ≤ length bytes
one_fits bytes at a rest is = let size = length-drop at bytes in let some = ap length is in omega arith

pub two_fit : (bytes : List ℕ) (at a b : ℕ) (rest : List ℕ) → drop at bytes ≡ a ∷ b ∷ rest → at + 2 ≤ length bytes
two_fit bytes at a b rest is = let size = length-drop at bytes in let some = ap length is in omega arith

-- ---- what begins no string

no_discard_there : (b : ℕ) (rest : List ℕ) → (b == hash) ≡ false → opens_discard (b ∷ rest) ≡ false
no_discard_there b [] h = refl
no_discard_there b (c ∷ rest) h = ap (λ z. z && (c == underscore)) h

all_four : (p q r s : Bool) → p ≡ false → q ≡ false → r ≡ false → s ≡ false → (not p && (not q && (not r && not s))) ≡ true
all_four true q r s hp hq hr hs = absurd (let wrong = hp in cc)
all_four false true r s hp hq hr hs = absurd (let wrong = hq in cc)
all_four false false true s hp hq hr hs = absurd (let wrong = hr in cc)
all_four false false false true hp hq hr hs = absurd (let wrong = hs in cc)
all_four false false false false hp hq hr hs = refl

no_string_first : (b : ℕ) (rest : List ℕ) → is_blank b ≡ false → (b == semicolon) ≡ false → (b == quote) ≡ false
    → opens_discard (b ∷ rest) ≡ false → begins_no_string (b ∷ rest) ≡ true
no_string_first b rest p q r s = all_four (is_blank b) (b == semicolon) (b == quote) (opens_discard (b ∷ rest)) p q r s

pub no_string_paren : (here rest : List ℕ) → here ≡ open_paren ∷ rest → begins_no_string here ≡ true
no_string_paren here rest is =
    ap begins_no_string is ∙ no_string_first open_paren rest refl refl refl (no_discard_there open_paren rest refl)

pub no_string_bracket : (here rest : List ℕ) → here ≡ open_bracket ∷ rest → begins_no_string here ≡ true
no_string_bracket here rest is =
    ap begins_no_string is ∙ no_string_first open_bracket rest refl refl refl (no_discard_there open_bracket rest refl)

pub no_string_brace : (here rest : List ℕ) → here ≡ open_brace ∷ rest → begins_no_string here ≡ true
no_string_brace here rest is =
    ap begins_no_string is ∙ no_string_first open_brace rest refl refl refl (no_discard_there open_brace rest refl)

pub no_string_set : (here rest : List ℕ) → here ≡ hash ∷ open_brace ∷ rest → begins_no_string here ≡ true
no_string_set here rest is = ap begins_no_string is

token_no_blank : (b : ℕ) → is_token_byte b ≡ true → is_blank b ≡ false
token_no_blank b h = grind (arith, nat_tests)

token_no_comment : (b : ℕ) → is_token_byte b ≡ true → (b == semicolon) ≡ false
token_no_comment b h = grind (arith, nat_tests)

token_no_quote : (b : ℕ) → is_token_byte b ≡ true → (b == quote) ≡ false
token_no_quote b h = grind (arith, nat_tests)

not_there : (b : Bool) → (b ≡ true → ⊥) → b ≡ false
not_there true h = absurd (h refl)
not_there false h = refl

pub no_string_token : (here : List ℕ) → BeginsToken here → begins_no_string here ≡ true
no_string_token here h =
    let discards : opens_discard here ≡ false =
    not_there (opens_discard here) (λ e. let d = discard_of here e in h.no_discard d.inside d.is) in
    ap begins_no_string h.is
    ∙ no_string_first h.first h.behind (token_no_blank h.first h.may) (token_no_comment h.first h.may) (token_no_quote h.first h.may)
    (sym (ap opens_discard h.is) ∙ discards)

-- ---- what opens

opening_opens : (b : ℕ) (rest : List ℕ) → is_opening b ≡ true → opens_collection (b ∷ rest) ≡ true
opening_opens b [] h = h
opening_opens b (c ∷ rest) h = ap (λ z. z || (b == hash && c == open_brace)) h

pub discard_opens : (bytes : List ℕ) (frames : List Frame) (at : ℕ) → drop at bytes ≡ hash ∷ underscore ∷ drop 2 (drop at bytes)
    → Opens bytes frames Discard at (at + 2)
discard_opens bytes frames at is =
    record {
      enters = λ some. record {
        ahead = omega arith;
        within = two_fit bytes at hash underscore (drop 2 (drop at bytes)) is;
        kept = tt;
        step = steps.discard (two_on bytes at hash underscore is) some;
      };
      deep = λ none. faults.deep_discard none (ap opens_discard is);
    }

-- a bracket that opens a collection where there is no room
pub deep_opening : (frames : Frames) (here rest : List ℕ) (b : ℕ) → here ≡ b ∷ rest → is_opening b ≡ true → Free frames
    → faults.room (opens_of frames) ≡ 0
    → faults.Stuck (opens_of frames) here faults.deep here
deep_opening frames here rest b is opening free full =
    faults.deep_collection free full (ap opens_collection is ∙ opening_opens b rest opening)

pub deep_set : (frames : Frames) (here rest : List ℕ) → here ≡ hash ∷ open_brace ∷ rest → Free frames → faults.room (opens_of frames) ≡ 0
    → faults.Stuck (opens_of frames) here faults.deep here
deep_set frames here rest is free full = faults.deep_collection free full (ap opens_collection is)

pub list_enters : (bytes : List ℕ) (frames : List Frame) (at : ℕ) (v : Vec Edn Global) → v.items ≡ []
    → drop at bytes ≡ open_paren ∷ drop 1 (drop at bytes)
    → Free (frames_of bytes frames) → HasRoom (frames_of bytes frames) → Enters bytes frames (List' v) at (at + 1)
list_enters bytes frames at v none is free some =
    let F = frames_of bytes frames in
    record {
      ahead = omega arith;
      within = one_fits bytes at open_paren (drop 1 (drop at bytes)) is;
      kept = subst (λ (xs : List Edn). AreDistinctInside (model.forms (forms_of xs))) (sym none) tt;
      step =
          subst (λ (xs : List Edn). Step (going F (drop at bytes))
          (going (frame (faults.in_list (model.forms (forms_of xs))) (drop at bytes) F) (drop (at + 1) bytes))) (sym none)
          (steps.list (one_on bytes at open_paren is) free some);
    }

pub vector_enters : (bytes : List ℕ) (frames : List Frame) (at : ℕ) (v : Vec Edn Global) → v.items ≡ []
    → drop at bytes ≡ open_bracket ∷ drop 1 (drop at bytes)
    → Free (frames_of bytes frames) → HasRoom (frames_of bytes frames) → Enters bytes frames (Vector v) at (at + 1)
vector_enters bytes frames at v none is free some =
    let F = frames_of bytes frames in
    record {
      ahead = omega arith;
      within = one_fits bytes at open_bracket (drop 1 (drop at bytes)) is;
      kept = subst (λ (xs : List Edn). AreDistinctInside (model.forms (forms_of xs))) (sym none) tt;
      step =
          subst (λ (xs : List Edn). Step (going F (drop at bytes))
          (going (frame (faults.in_vector (model.forms (forms_of xs))) (drop at bytes) F) (drop (at + 1) bytes))) (sym none)
          (steps.vector (one_on bytes at open_bracket is) free some);
    }

pub map_enters : (bytes : List ℕ) (frames : List Frame) (at : ℕ) (v : Vec (Edn × Edn) Global) (said : FormCodes) → v.items ≡ []
    → HasCodesOf model.no_forms said
    → drop at bytes ≡ open_brace ∷ drop 1 (drop at bytes) → Free (frames_of bytes frames) → HasRoom (frames_of bytes frames)
    → Enters bytes frames (Map v None said) at (at + 1)
map_enters bytes frames at v said none has is free some =
    let F = frames_of bytes frames in
    record {
      ahead = omega arith;
      within = one_fits bytes at open_brace (drop 1 (drop at bytes)) is;
      kept = (
        subst (λ (xs : List (Edn × Edn)). HasCodesOf (keys (model.pairs (pairs_of xs))) said) (sym none) has,
        subst (λ (xs : List (Edn × Edn)). distinct (keys (model.pairs (pairs_of xs))) ≡ true) (sym none) refl,
        subst (λ (xs : List (Edn × Edn)). ArePairsDistinctInside (model.pairs (pairs_of xs))) (sym none) tt,
      );
      step =
          subst (λ (xs : List (Edn × Edn)). Step (going F (drop at bytes))
          (going (frame (faults.in_map (model.pairs (pairs_of xs))) (drop at bytes) F) (drop (at + 1) bytes))) (sym none)
          (steps.map (one_on bytes at open_brace is) free some);
    }

pub set_enters : (bytes : List ℕ) (frames : List Frame) (at : ℕ) (v : Vec Edn Global) (said : FormCodes) → v.items ≡ []
    → HasCodesOf model.no_forms said
    → drop at bytes ≡ hash ∷ open_brace ∷ drop 2 (drop at bytes) → Free (frames_of bytes frames) → HasRoom (frames_of bytes frames)
    → Enters bytes frames (Set v said) at (at + 2)
set_enters bytes frames at v said none has is free some =
    let F = frames_of bytes frames in
    record {
      ahead = omega arith;
      within = two_fit bytes at hash open_brace (drop 2 (drop at bytes)) is;
      kept = (
        subst (λ (xs : List Edn). HasCodesOf (model.forms (forms_of xs)) said) (sym none) has,
        subst (λ (xs : List Edn). distinct (model.forms (forms_of xs)) ≡ true) (sym none) refl,
        subst (λ (xs : List Edn). AreDistinctInside (model.forms (forms_of xs))) (sym none) tt,
      );
      step =
          subst (λ (xs : List Edn). Step (going F (drop at bytes))
          (going (frame (faults.in_set (model.forms (forms_of xs))) (drop at bytes) F) (drop (at + 2) bytes))) (sym none)
          (steps.set (two_on bytes at hash open_brace is) free some);
    }

-- where it is entered
entered : (bytes : List ℕ) (start : ℕ) (old new : List Frame) (f : Frame) (n : ℕ) → Enters bytes old f.construct f.at n
    → new ≡ old ++ f ∷ [] → start ≤ f.at → f.at ≤ length bytes
    → AreSound start (length bytes) old → LeadsOn bytes start f.at (going (frames_of bytes old) (drop f.at bytes)) n new
entered bytes start old new f n h is after within kept =
    record {
      ahead = h.ahead;
      within = h.within;
      kept =
          subst (AreSound start (length bytes)) (sym is) (kept_last old f kept (record { after = after; within = within; kept = h.kept }));
      runs =
          subst (λ z. Reaches (going (frames_of bytes old) (drop f.at bytes)) (going z (drop n bytes)))
          (sym (ap (frames_of bytes) is ∙ frames-last bytes old f)) (one h.step);
    }

-- the same, or memory is wanting
pub grown_enters : (bytes : List ℕ) (start at n : ℕ) (old new : List Frame) (slot : Option Edn) (o : Construct)
    (r : Result Progress EdnFault)
    → Enters bytes old o at n
    → IfOk r (λ q. (q ≡ Further n) × (new ≡ old ++ framed o at ∷ [])) → OnErr r (r ≡ Err Memory) → start ≤ at → at ≤ length bytes
    → AreSound start (length bytes) old
    → Leads bytes start at (going (frames_of bytes old) (drop at bytes)) r new slot
grown_enters bytes start at n old new slot o (Ok q) h grew err after within kept =
    subst (λ z. Leads bytes start at (going (frames_of bytes old) (drop at bytes)) (Ok z) new slot) (sym grew.0)
    (entered bytes start old new (framed o at) n h grew.1 after within kept)
grown_enters bytes start at n old new slot o (Err e) h grew err after within kept =
    subst (λ z. Leads bytes start at (going (frames_of bytes old) (drop at bytes)) z new slot) (sym err) tt

-- where none may open
pub refused_leads : (bytes : List ℕ) (start at : ℕ) (frames : Frames) (e : EdnFault) → RefusedAt at frames e
    → begins_no_string (drop at bytes) ≡ true
    → (Free frames → faults.room (opens_of frames) ≡ 0 → faults.Stuck (opens_of frames) (drop at bytes) faults.deep (drop at bytes))
    → start ≤ at → at ≤ length bytes
    → MatchFault (fault_of e) (LeadsAstray bytes start (going frames (drop at bytes)))
refused_leads bytes start at frames (Bad byte) h begins full after before =
    subst (λ b. LeadsAstray bytes start (going frames (drop at bytes)) faults.bad b) (sym h.0)
    (stuck_at at after before (faults.no_string h.1 begins))
refused_leads bytes start at frames (Deep byte) h begins full after before =
    subst (λ b. LeadsAstray bytes start (going frames (drop at bytes)) faults.deep b) (sym h.0) (stuck_at at after before (full h.1 h.2))
refused_leads bytes start at frames (Unsupported byte what) h begins full after before = absurd h
refused_leads bytes start at frames (Cut byte) h begins full after before = absurd h
refused_leads bytes start at frames Memory h begins full after before = absurd h

-- ---- what closes

closes_none : (bytes : List ℕ) (start at n b : ℕ) (frames : Frames) → faults.closes (opens_of frames) b ≡ false
    → drop at bytes ≡ b ∷ drop n bytes → is_closing b ≡ true
    → start ≤ at → at ≤ length bytes → LeadsAstray bytes start (going frames (drop at bytes)) faults.bad at
closes_none bytes start at n b frames not_this is closing after within =
    stuck_at at after within (subst (λ z. faults.Stuck (opens_of frames) z faults.bad z) (sym is) (faults.closes_nothing closing not_this))

pub closes_outermost : (bytes : List ℕ) (start at n b : ℕ) (fs : List Frame) → length fs ≡ 0 → drop at bytes ≡ b ∷ drop n bytes
    → is_closing b ≡ true
    → start ≤ at → at ≤ length bytes → LeadsAstray bytes start (going (frames_of bytes fs) (drop at bytes)) faults.bad at
closes_outermost bytes start at n b fs none is closing after within =
    closes_none bytes start at n b (frames_of bytes fs)
    (ap (λ xs. faults.closes (opens_of (frames_of bytes xs)) b) (none_there fs none)) is closing after within

pub closes_other : (bytes : List ℕ) (start at n b : ℕ) (old outer : List Frame) (i : Frame) → old ≡ outer ++ i ∷ []
    → ClosesNothing i.construct b
    → drop at bytes ≡ b ∷ drop n bytes → is_closing b ≡ true → start ≤ at → at ≤ length bytes
    → LeadsAstray bytes start (going (frames_of bytes old) (drop at bytes)) faults.bad at
closes_other bytes start at n b old outer i old_is nothing is closing after within =
    closes_none bytes start at n b (frames_of bytes old)
    (ap (λ z. faults.closes (opens_of z) b) (ap (frames_of bytes) old_is ∙ frames-last bytes outer i)
    ∙ nothing (opens_of (frames_of bytes outer))) is closing after within

pub closes_whole : (bytes : List ℕ) (start at n : ℕ) (old outer : List Frame) (i : Frame) (f : model.Form) → old ≡ outer ++ i ∷ []
    → IsDistinctInside f → at < n → n ≤ length bytes
    → AreSound start (length bytes) old → Whole bytes start at i.at n outer f
closes_whole bytes start at n old outer i f is inside ahead within kept =
    let inner = kept_inner bytes start old outer i is kept in
    record {
      inside = inside;
      after = inner.after;
      before = inner.within;
      ahead = ahead;
      within = within;
      kept = kept_outer bytes start old outer i is kept;
    }

-- a step out of the innermost construct
pub steps_out : (bytes : List ℕ) (here : List ℕ) (old outer : List Frame) (i : Frame) (t : State) → old ≡ outer ++ i ∷ []
    → Step (going (frame (open_of i.construct) (drop i.at bytes) (frames_of bytes outer)) here) t
    → Reaches (going (frames_of bytes old) here) t
steps_out bytes here old outer i t is step =
    subst (λ z. Reaches (going z here) t) (sym (ap (frames_of bytes) is ∙ frames-last bytes outer i)) (one step)

pub closes_leads : (bytes : List ℕ) (at n b : ℕ) (old outer : List Frame) (i : Frame) (f : model.Form) → old ≡ outer ++ i ∷ []
    → drop at bytes ≡ b ∷ drop n bytes → ClosesAs i.construct b f
    → Reaches (going (frames_of bytes old) (drop at bytes)) (land (frames_of bytes outer) f (drop i.at bytes) (drop n bytes))
closes_leads bytes at n b old outer i f old_is is h =
    steps_out bytes (drop at bytes) old outer i (land (frames_of bytes outer) f (drop i.at bytes) (drop n bytes)) old_is
    (subst (λ z. Step (going (frame (open_of i.construct) (drop i.at bytes) (frames_of bytes outer)) (drop at bytes))
    (land (frames_of bytes outer) z (drop i.at bytes) (drop n bytes))) (sym h.1)
    (steps.close is (h.0 (opens_of (frames_of bytes outer)))))
