-- Reading step by step: what is open, with the bytes from where each construct opens,
-- and the bytes that are left. Laws on readings and faults, and a reader's loop, go by these steps;
-- the grammar and the faults alone say what they come to.
-- This project's own choice.
use Rattle.std.specs.Prelude.{◌≡◌, ℕ, ◌<◌, true, false, if◌then◌else◌, ℤ, List, [], ◌∷◌, ◌++◌}
use Rattle.std.specs.Prelude.{codes}
use Rattle.edn_model.specs.Form as form
use Rattle.edn_model.specs.Bytes.{hash, open_paren, open_bracket, underscore, open_brace, is_blank}
use Rattle.edn_model.specs.Bytes.{TokenEnds}
use Rattle.edn_model.specs.Tokens.{IsAtom, StringAt}
use Rattle.edn_model.specs.Instants.{IsInstant}
use Rattle.edn_model.specs.Uuids.{IsUuid}
use Rattle.edn_model.specs.Likeness.{alike, any, keys}
use Rattle.edn_model.specs.Grammar.{TagAt, CommentAt, LastComment}
use Rattle.edn_model.specs.Faults.{Open, in_list, in_vector, in_map, behind_key, in_set}
use Rattle.edn_model.specs.Faults.{behind_discard, behind_inst, behind_uuid, wants_string, room}
use Rattle.edn_model.specs.Faults.{closes, Fault, bad, Stuck}

-- what is open, the innermost first, each with the bytes from its first one on
pub data Frames : Type 0 where
  outermost : Frames
  frame : Open → List ℕ → Frames → Frames

abbrev pub opens_of : Frames → List Open
opens_of outermost = []
opens_of (frame inner at outer) = inner ∷ opens_of outer

-- what a reading comes to: a form and the bytes after its text,
-- the end, or a fault and the bytes from its place on
pub data Reading : Type 0 where
  read : form.Form → List ℕ → Reading
  nothing : Reading
  fault : Fault → List ℕ → Reading

pub data State : Type 0 where
  going : Frames → List ℕ → State
  ended : Reading → State

-- a whole form, from at to rest, falls to the innermost construct
abbrev pub land : Frames → form.Form → List ℕ → List ℕ → State
land outermost f at rest = ended (read f rest)
land (frame (in_list fs) opened outer) f at rest =
    going (frame (in_list (form.with_last fs f)) opened outer) rest
land (frame (in_vector fs) opened outer) f at rest =
    going (frame (in_vector (form.with_last fs f)) opened outer) rest
land (frame (in_map ps) opened outer) f at rest =
    if any (alike f) (keys ps)
    then ended (fault bad at)
    else going (frame (behind_key ps f) opened outer) rest
land (frame (behind_key ps k) opened outer) f at rest =
    going (frame (in_map (form.with_last_pair ps k f)) opened outer) rest
land (frame (in_set fs) opened outer) f at rest =
    if any (alike f) fs
    then ended (fault bad at)
    else going (frame (in_set (form.with_last fs f)) opened outer) rest
land (frame behind_discard opened outer) f at rest = going outer rest
land (frame behind_inst opened outer) f at rest = going outer rest
land (frame behind_uuid opened outer) f at rest = going outer rest

-- the form that a construct is once its bracket closes it
abbrev pub closed : Open → form.Form
closed (in_list fs) = form.list fs
closed (in_vector fs) = form.vector fs
closed (in_map ps) = form.map ps
closed (in_set fs) = form.set fs
closed _ = form.nil

-- a form may begin here that is no string
abbrev pub Free : Frames → Type 0
Free frames = wants_string (opens_of frames) ≡ false

-- one more may open
abbrev pub HasRoom : Frames → Type 0
HasRoom frames = 0 < room (opens_of frames)

pub data Step : State → State → Type 0 where
  blank : {frames : Frames} {b : ℕ} {here rest : List ℕ} → here ≡ b ∷ rest → is_blank b ≡ true
      → Step (going frames here) (going frames rest)
  comment : {frames : Frames} {here rest : List ℕ} → CommentAt here rest
      → Step (going frames here) (going frames rest)
  last_comment : {frames : Frames} {here : List ℕ} → LastComment here
      → Step (going frames here) (going frames [])
  discard : {frames : Frames} {here inside : List ℕ} → here ≡ hash ∷ underscore ∷ inside
      → HasRoom frames
      → Step (going frames here) (going (frame behind_discard here frames) inside)
  list : {frames : Frames} {here inside : List ℕ} → here ≡ open_paren ∷ inside → Free frames
      → HasRoom frames
      → Step (going frames here) (going (frame (in_list form.no_forms) here frames) inside)
  vector : {frames : Frames} {here inside : List ℕ} → here ≡ open_bracket ∷ inside → Free frames
      → HasRoom frames
      → Step (going frames here) (going (frame (in_vector form.no_forms) here frames) inside)
  map : {frames : Frames} {here inside : List ℕ} → here ≡ open_brace ∷ inside → Free frames
      → HasRoom frames
      → Step (going frames here) (going (frame (in_map form.no_pairs) here frames) inside)
  set : {frames : Frames} {here inside : List ℕ} → here ≡ hash ∷ open_brace ∷ inside → Free frames
      → HasRoom frames
      → Step (going frames here) (going (frame (in_set form.no_forms) here frames) inside)
  inst : {frames : Frames} {here inside : List ℕ} → TagAt (codes "inst") here inside
      → Free frames
      → Step (going frames here) (going (frame behind_inst here frames) inside)
  uuid : {frames : Frames} {here inside : List ℕ} → TagAt (codes "uuid") here inside
      → Free frames
      → Step (going frames here) (going (frame behind_uuid here frames) inside)
  atom : {frames : Frames} {here : List ℕ} → (f : form.Form) (token rest : List ℕ) → IsAtom f token
      → here ≡ token ++ rest → TokenEnds rest → Free frames
      → Step (going frames here) (land frames f here rest)
  string : {frames : Frames} {s here rest : List ℕ} → StringAt s here rest → Free frames
      → Step (going frames here) (land frames (form.string s) here rest)
  close : {inner : Open} {outer : Frames} {b : ℕ} {at here rest : List ℕ} → here ≡ b ∷ rest
      → closes (inner ∷ opens_of outer) b ≡ true
      → Step (going (frame inner at outer) here) (land outer (closed inner) at rest)
  instant : {outer : Frames} {z : ℤ} {s at here rest : List ℕ} → StringAt s here rest
      → IsInstant z s
      → Step (going (frame behind_inst at outer) here) (land outer (form.instant z) at rest)
  identifier : {outer : Frames} {n : ℕ} {s at here rest : List ℕ} → StringAt s here rest
      → IsUuid n s
      → Step (going (frame behind_uuid at outer) here) (land outer (form.uuid n) at rest)
  stuck : {frames : Frames} {why : Fault} {here place : List ℕ}
      → Stuck (opens_of frames) here why place → Step (going frames here) (ended (fault why place))
  end : Step (going outermost []) (ended nothing)

-- some steps lead from one state to another
pub data Reaches : State → State → Type 0 where
  stay : {s : State} → Reaches s s
  next : {s t u : State} → Step s t → Reaches t u → Reaches s u
