-- Tokens, strings, and what stands between forms, by steps.
use Rattle.std.proofs.Common.{◌≡◌, ◌≢◌, ℕ, ◌+◌, ◌<◌, ◌≤◌, Bool, true, false, ℤ, List, [], ◌∷◌, ◌++◌, length, take, drop, refl, ap, ◌∙◌, sym}
use Rattle.std.proofs.Common.{subst, arith, codes}
use Rattle.std.proofs.lemmas.List.{drop-drop, drop_all}
use Rattle.std.specs.Prelude.{not, if◌then◌else◌, Some, None}
use Rattle.edn_model.specs.Form as model
use Rattle.edn_model.specs.Bytes.{quote, is_token_byte, ends_token, begins_no_token, TokenEnds, NoCharacter}
use Rattle.edn_model.specs.Instants.{IsInstant}
use Rattle.edn_model.specs.Uuids.{IsUuid}
use Rattle.edn_model.specs.Tokens.{IsAtom, StringAt}
use Rattle.edn_model.specs.Faults as faults
use Rattle.edn_model.specs.Faults.{TokenAt, StringFault}
use Rattle.edn_model.specs.Steps as steps
use Rattle.edn_model.specs.Steps.{Frames, frame, opens_of, going, ended, Step, Reaches, stay, next, Free, land}
use Rattle.edn_model.proofs.Reached.{joined, one}
use Rattle.edn_duplicates.specs.Inside.{IsDistinctInside}
use Rattle.edn_token.specs.Fronts.{TokenFront, BrokenRun, BrokenToken}
use Rattle.edn_token.specs.Gaps as gaps
use Rattle.edn_token.specs.Gaps.{Blanks, BrokenComment}
use Rattle.edn_core.specs.Frames.{open_of, frames_of, AreSound, LeadsAstray, Whole, Enters}
use Rattle.edn_core.specs.Fronts.{BeginsToken}
use Rattle.edn_core.specs.declared.construct.Construct.{Construct}
use Rattle.edn_core.specs.declared.construct.Construct.TheVariants.{List as List', Vector, Map, Set, Discard, Inst, Uuid}
use Rattle.edn_core.specs.declared.construct.Frame.{Frame}
use Rattle.edn_core.proofs.Leading.{stuck_at}
use Rattle.edn_core.proofs.Openings.{steps_out}
use Rattle.edn_core.proofs.Stacks.{frames-last, wants-last}

pub whole_is : {bytes : List ℕ} {start at n : ℕ} {frames : List Frame} {f : model.Form} → IsDistinctInside f → at < n → n ≤ length bytes
    → start ≤ at → at ≤ length bytes
    → AreSound start (length bytes) frames → Whole bytes start at at n frames f
whole_is inside ahead within after before kept =
    record { inside = inside; after = after; before = before; ahead = ahead; within = within; kept = kept }

-- ---- between forms

pub blanks_steps : {here rest : List ℕ} (frames : Frames) → Blanks here rest → Reaches (going frames here) (going frames rest)
blanks_steps frames gaps.no_blanks = stay
blanks_steps frames (gaps.blank p h) = next (steps.blank refl p) (blanks_steps frames h)
blanks_steps frames (gaps.comment s h) = next (steps.comment s) (blanks_steps frames h)
blanks_steps frames (gaps.last_comment s) = one (steps.last_comment s)

pub blanks_lead : (bytes ahead : List ℕ) (here n : ℕ) (frames : Frames) → ahead ≡ drop here bytes → Blanks ahead (drop n ahead)
    → Reaches (going frames (drop here bytes)) (going frames (drop (here + n) bytes))
blanks_lead bytes ahead here n frames is h =
    subst (λ z. Reaches (going frames (drop here bytes)) (going frames z)) (drop-drop n here bytes)
    (subst (λ z. Reaches (going frames z) (going frames (drop n z))) is (blanks_steps frames h))

comment_fails : (frames : Frames) (here place : List ℕ) → BrokenComment here place
    → Reaches (going frames here) (ended (steps.fault faults.bad place))
comment_fails frames here place h =
    one
    (steps.stuck (subst (λ z. faults.Stuck (opens_of frames) z faults.bad place) (sym h.is) (faults.in_comment h.one_line h.utf8 h.none)))

pub broken_leads : (bytes ahead comment : List ℕ) (start here n : ℕ) (frames : Frames) → ahead ≡ drop here bytes → start ≤ here
    → here ≤ length bytes → n < length ahead → length ahead + here ≡ length bytes
    → Blanks ahead comment → BrokenComment comment (drop n ahead)
    → LeadsAstray bytes start (going frames (drop here bytes)) faults.bad (here + n)
broken_leads bytes ahead comment start here n frames is after before inside size h broken =
    record {
      ahead = omega arith;
      within = omega arith;
      runs = subst (λ z. Reaches (going frames (drop here bytes)) (ended (steps.fault faults.bad z))) (drop-drop n here bytes)
          (subst (λ z. Reaches (going frames z) (ended (steps.fault faults.bad (drop n z)))) is
          (joined (blanks_steps frames h) (comment_fails frames comment (drop n ahead) broken)));
    }

-- ---- strings

pub string_leads : (bytes : List ℕ) (at n : ℕ) (frames : Frames) (s : List ℕ) → StringAt s (drop at bytes) (drop n bytes) → Free frames
    → Reaches (going frames (drop at bytes)) (land frames (model.string s) (drop at bytes) (drop n bytes))
string_leads bytes at n frames s h free = one (steps.string h free)

pub no_tag : (o : Construct) → o ≢ Inst → o ≢ Uuid → faults.is_tag (open_of o) ≡ false
no_tag (List' v) h k = refl
no_tag (Vector v) h k = refl
no_tag (Map v None said) h k = refl
no_tag (Map v (Some key) said) h k = refl
no_tag (Set v said) h k = refl
no_tag Discard h k = refl
no_tag Inst h k = absurd (h refl)
no_tag Uuid h k = absurd (k refl)

pub free_inside : (bytes : List ℕ) (old outer : List Frame) (i : Frame) → old ≡ outer ++ i ∷ [] → i.construct ≢ Inst → i.construct ≢ Uuid
    → Free (frames_of bytes old)
free_inside bytes old outer i is h k = wants-last bytes old outer i is ∙ no_tag i.construct h k

pub instant_leads : (bytes : List ℕ) (at n : ℕ) (old outer : List Frame) (i : Frame) (z : ℤ) (s : List ℕ) → old ≡ outer ++ i ∷ []
    → i.construct ≡ Inst → StringAt s (drop at bytes) (drop n bytes) → IsInstant z s
    → Reaches (going (frames_of bytes old) (drop at bytes))
    (land (frames_of bytes outer) (model.instant z) (drop i.at bytes) (drop n bytes))
instant_leads bytes at n old outer i z s is tag h k =
    let to = land (frames_of bytes outer) (model.instant z) (drop i.at bytes) (drop n bytes) in
    steps_out bytes (drop at bytes) old outer i to is
    (subst (λ o. Step (going (frame (open_of o) (drop i.at bytes) (frames_of bytes outer)) (drop at bytes)) to) (sym tag)
    (steps.instant h k))

pub identifier_leads : (bytes : List ℕ) (at n : ℕ) (old outer : List Frame) (i : Frame) (u : ℕ) (s : List ℕ) → old ≡ outer ++ i ∷ []
    → i.construct ≡ Uuid → StringAt s (drop at bytes) (drop n bytes) → IsUuid u s
    → Reaches (going (frames_of bytes old) (drop at bytes)) (land (frames_of bytes outer) (model.uuid u) (drop i.at bytes) (drop n bytes))
identifier_leads bytes at n old outer i u s is tag h k =
    let to = land (frames_of bytes outer) (model.uuid u) (drop i.at bytes) (drop n bytes) in
    steps_out bytes (drop at bytes) old outer i to is
    (subst (λ o. Step (going (frame (open_of o) (drop i.at bytes) (frames_of bytes outer)) (drop at bytes)) to) (sym tag)
    (steps.identifier h k))

frames_are : (bytes : List ℕ) (old outer : List Frame) (i : Frame) (o : Construct) → old ≡ outer ++ i ∷ [] → i.construct ≡ o
    → frames_of bytes old ≡ frame (open_of o) (drop i.at bytes) (frames_of bytes outer)
frames_are bytes old outer i o is tag =
    ap (frames_of bytes) is ∙ (frames-last bytes outer i ∙ ap (λ z. frame (open_of z) (drop i.at bytes) (frames_of bytes outer)) tag)

pub no_instant_there : (bytes : List ℕ) (start at n : ℕ) (old outer : List Frame) (i : Frame) (s : List ℕ) → old ≡ outer ++ i ∷ []
    → i.construct ≡ Inst → StringAt s (drop at bytes) (drop n bytes)
    → ((z : ℤ) → ¬ IsInstant z s) → start ≤ at → at ≤ length bytes
    → LeadsAstray bytes start (going (frames_of bytes old) (drop at bytes)) faults.bad at
no_instant_there bytes start at n old outer i s is tag h none after within =
    stuck_at at after within (subst (λ z. faults.Stuck (opens_of z) (drop at bytes) faults.bad (drop at bytes))
    (sym (frames_are bytes old outer i Inst is tag)) (faults.no_instant h none))

pub no_identifier_there : (bytes : List ℕ) (start at n : ℕ) (old outer : List Frame) (i : Frame) (s : List ℕ) → old ≡ outer ++ i ∷ []
    → i.construct ≡ Uuid → StringAt s (drop at bytes) (drop n bytes)
    → ((u : ℕ) → ¬ IsUuid u s) → start ≤ at → at ≤ length bytes
    → LeadsAstray bytes start (going (frames_of bytes old) (drop at bytes)) faults.bad at
no_identifier_there bytes start at n old outer i s is tag h none after within =
    stuck_at at after within (subst (λ z. faults.Stuck (opens_of z) (drop at bytes) faults.bad (drop at bytes))
    (sym (frames_are bytes old outer i Uuid is tag)) (faults.no_uuid h none))

string_fails : (bytes : List ℕ) (start at byte : ℕ) (why : faults.Fault) (frames : Frames) → drop at bytes ≡ quote ∷ drop (at + 1) bytes
    → StringFault (drop (at + 1) bytes) why (drop byte bytes)
    → start ≤ byte → byte ≤ length bytes → LeadsAstray bytes start (going frames (drop at bytes)) why byte
string_fails bytes start at byte why frames is h after within =
    stuck_at byte after within (subst (λ z. faults.Stuck (opens_of frames) z why (drop byte bytes)) (sym is) (faults.in_string h))

pub string_bad : (bytes inside : List ℕ) (start at n : ℕ) (frames : Frames) → drop at bytes ≡ quote ∷ drop (at + 1) bytes
    → inside ≡ drop (at + 1) bytes → n < length inside → length inside + (at + 1) ≡ length bytes
    → StringFault inside faults.bad (drop n inside) → start ≤ at
    → LeadsAstray bytes start (going frames (drop at bytes)) faults.bad (at + 1 + n)
string_bad bytes inside start at n frames is same within size h after =
    string_fails bytes start at (at + 1 + n) faults.bad frames is
    (subst (StringFault (drop (at + 1) bytes) faults.bad) (drop-drop n (at + 1) bytes)
    (subst (λ z. StringFault z faults.bad (drop n z)) same h)) (omega arith) (omega arith)

pub string_cut : (bytes inside : List ℕ) (start at : ℕ) (frames : Frames) → drop at bytes ≡ quote ∷ drop (at + 1) bytes
    → inside ≡ drop (at + 1) bytes
    → StringFault inside faults.cut [] → start ≤ at → at ≤ length bytes
    → LeadsAstray bytes start (going frames (drop at bytes)) faults.cut (length bytes)
string_cut bytes inside start at frames is same h after before =
    string_fails bytes start at (length bytes) faults.cut frames is
    (subst (StringFault (drop (at + 1) bytes) faults.cut) (sym (drop_all (length bytes) bytes (omega arith)))
    (subst (λ z. StringFault z faults.cut []) same h)) (omega arith) (omega arith)

pub string_stands : (bytes inside s : List ℕ) (at n : ℕ) → drop at bytes ≡ quote ∷ drop (at + 1) bytes → inside ≡ drop (at + 1) bytes
    → StringAt s (quote ∷ inside) (drop n inside)
    → StringAt s (drop at bytes) (drop (at + 1 + n) bytes)
string_stands bytes inside s at n is same h =
    subst (λ z. StringAt s z (drop (at + 1 + n) bytes)) (sym is)
    (subst (StringAt s (quote ∷ drop (at + 1) bytes)) (drop-drop n (at + 1) bytes) (subst (λ z. StringAt s (quote ∷ z) (drop n z)) same h))

-- ---- tokens

clash : (b : Bool) → b ≡ true → not b ≡ true → ⊥
clash true h k = let wrong = k in cc
clash false h k = let wrong = h in cc

some_token : (token rest here : List ℕ) → BeginsToken here → here ≡ token ++ rest → TokenEnds rest → 0 < length token
some_token [] [] here h is ends = absurd (let e = sym h.is ∙ is in cc)
some_token [] (b ∷ rest) here h is ends =
    let same : h.first ≡ b = (let e = sym h.is ∙ is in cc) in
    absurd (clash (ends_token b) ends (subst (λ z. is_token_byte z ≡ true) same h.may))
some_token (b ∷ token) rest here h is ends = omega arith

pub record TokenThere (bytes token : List ℕ) (at n : ℕ) : Type 0 where
  pub ahead : at < n
  pub within : n ≤ length bytes
  pub stands : TokenAt (drop at bytes) token (drop n bytes)
  pub ends : TokenEnds (drop n bytes)
  pub some : 0 < length token

pub token_there : (bytes here token : List ℕ) (at : ℕ) → here ≡ drop at bytes → length here + at ≡ length bytes
    → BeginsToken (drop at bytes) → length token ≤ length here
    → TokenFront here token (drop (length token) here) → TokenThere bytes token at (at + length token)
token_there bytes here token at is size begins fits h =
    let back = ap (drop (length token)) is ∙ drop-drop (length token) at bytes in
    let ends = subst TokenEnds back h.ends in
    let run : drop at bytes ≡ token ++ drop (at + length token) bytes = sym is ∙ (h.run.is ∙ ap (λ z. token ++ z) back) in
    let some = some_token token (drop (at + length token) bytes) (drop at bytes) begins run ends in
    record {
      ahead = omega arith;
      within = omega arith;
      stands = record { is = run; each = h.run.each; utf8 = h.run.utf8; no_discard = begins.no_discard; no_set = begins.no_set };
      ends = ends;
      some = some;
    }

begun_broken : (bytes here : List ℕ) (start at n : ℕ) (frames : Frames) → here ≡ drop at bytes → length here + at ≡ length bytes
    → BeginsToken (drop at bytes) → Free frames → start ≤ at
    → begins_no_token here ≡ false → BrokenRun is_token_byte here n
    → LeadsAstray bytes start (going frames (drop at bytes)) faults.bad (at + n)
begun_broken bytes here start at n frames is size begins free after begun h =
    let back = ap (drop n) is ∙ drop-drop n at bytes in
    let inside = h.inside in
    stuck_at (at + n) (omega arith) (omega arith)
    (faults.bad_character free (sym (ap begins_no_token is) ∙ begun)
    (record {
      is = sym is ∙ (h.run.is ∙ ap (λ z. take n here ++ z) back);
      each = h.run.each;
      utf8 = h.run.utf8;
      no_discard = begins.no_discard;
      no_set = begins.no_set;
    })
    (subst (λ z. NoCharacter z) back h.none))

none_begun : (bytes here : List ℕ) (start at : ℕ) (frames : Frames) → here ≡ drop at bytes → at ≤ length bytes → Free frames → start ≤ at
    → begins_no_token here ≡ true → LeadsAstray bytes start (going frames (drop at bytes)) faults.bad (at + 0)
none_begun bytes here start at frames is before free after none =
    stuck_at (at + 0) (omega arith) (omega arith)
    (subst (λ z. faults.Stuck (opens_of frames) (drop at bytes) faults.bad (drop z bytes)) (omega arith)
    (faults.no_token free (sym (ap begins_no_token is) ∙ none)))

either_way : (bytes here : List ℕ) (start at n : ℕ) (frames : Frames) (none : Bool) → here ≡ drop at bytes → length here + at ≡ length bytes
    → BeginsToken (drop at bytes) → Free frames → start ≤ at
    → begins_no_token here ≡ none → BrokenRun is_token_byte here n
    → LeadsAstray bytes start (going frames (drop at bytes)) faults.bad (at + (if none then 0 else n))
either_way bytes here start at n frames true is size begins free after e h =
    none_begun bytes here start at frames is (omega arith) free after e
either_way bytes here start at n frames false is size begins free after e h =
    begun_broken bytes here start at n frames is size begins free after e h

pub token_broken : (bytes here : List ℕ) (start at place : ℕ) (frames : Frames) → here ≡ drop at bytes → length here + at ≡ length bytes
    → BeginsToken (drop at bytes) → Free frames → start ≤ at
    → BrokenToken here place → LeadsAstray bytes start (going frames (drop at bytes)) faults.bad (at + place)
token_broken bytes here start at place frames is size begins free after h =
    subst (λ z. LeadsAstray bytes start (going frames (drop at bytes)) faults.bad (at + z)) (sym h.is)
    (either_way bytes here start at h.at frames (begins_no_token here) is size begins free after refl h.broken)

pub atom_leads : (bytes : List ℕ) (at n : ℕ) (frames : Frames) (token : List ℕ) (f : model.Form) → IsAtom f token
    → TokenAt (drop at bytes) token (drop n bytes) → TokenEnds (drop n bytes) → Free frames
    → Reaches (going frames (drop at bytes)) (land frames f (drop at bytes) (drop n bytes))
atom_leads bytes at n frames token f h stands ends free = one (steps.atom f token (drop n bytes) h stands.is ends free)

pub inst_enters : (bytes token : List ℕ) (frames : List Frame) (at n : ℕ) → at < n → n ≤ length bytes → token ≡ codes "#inst"
    → TokenAt (drop at bytes) token (drop n bytes) → TokenEnds (drop n bytes)
    → Free (frames_of bytes frames) → Enters bytes frames Inst at n
inst_enters bytes token frames at n ahead within is h ends free =
    record {
      ahead = ahead;
      within = within;
      kept = tt;
      step = steps.inst (record { is = h.is ∙ ap (λ z. z ++ drop n bytes) is; ends = ends }) free;
    }

pub uuid_enters : (bytes token : List ℕ) (frames : List Frame) (at n : ℕ) → at < n → n ≤ length bytes → token ≡ codes "#uuid"
    → TokenAt (drop at bytes) token (drop n bytes) → TokenEnds (drop n bytes)
    → Free (frames_of bytes frames) → Enters bytes frames Uuid at n
uuid_enters bytes token frames at n ahead within is h ends free =
    record {
      ahead = ahead;
      within = within;
      kept = tt;
      step = steps.uuid (record { is = h.is ∙ ap (λ z. z ++ drop n bytes) is; ends = ends }) free;
    }
