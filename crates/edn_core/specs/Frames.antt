-- What the constructs that the reader keeps open stand for, and what its steps come to.
-- This project's own choice.
use Rattle.std.specs.Prelude.{◌≡◌, ℕ, ◌<◌, ◌≤◌, true, false, IsTrue, List, [], ◌∷◌, length, drop}
use Rattle.std.specs.Prelude.{fold, Option, Some, None, Result, Ok, Err}
use Rattle.edn_model.specs.Form as model
use Rattle.edn_model.specs.Likeness.{distinct, keys}
use Rattle.edn_model.specs.Faults as faults
use Rattle.edn_model.specs.Steps.{Frames, outermost, frame, opens_of, State, going, ended, read}
use Rattle.edn_model.specs.Steps.{nothing, fault, Step, Reaches, land, closed, Free, HasRoom}
use Rattle.edn_form.specs.declared.form.Edn.{Edn}
use Rattle.edn_form.specs.View.{form_of, forms_of, pairs_of}
use Rattle.edn_duplicates.specs.Inside.{IsDistinctInside, AreDistinctInside, ArePairsDistinctInside}
use Rattle.edn_duplicates.specs.FormCodes.{HasCodesOf}
use Rattle.edn_core.specs.Answers.{MatchFault, fault_of}
use Rattle.edn_core.specs.declared.construct.Construct.{Construct}
use Rattle.edn_core.specs.declared.construct.Construct.TheVariants.{List as List', Vector, Map, Set}
use Rattle.edn_core.specs.declared.construct.Construct.TheVariants.{Discard, Inst, Uuid}
use Rattle.edn_core.specs.declared.construct.Frame.{Frame}
use Rattle.edn_core.specs.declared.fault.EdnFault.{EdnFault}
use Rattle.edn_core.specs.declared.fault.EdnFault.TheVariants.{Bad, Deep, Memory}
use Rattle.edn_core.specs.declared.progress.Progress.{Progress}
use Rattle.edn_core.specs.declared.progress.Progress.TheVariants.{Further, Read, End}

abbrev pub open_of : Construct → faults.Open
open_of (List' v) = faults.in_list (model.forms (forms_of v.items))
open_of (Vector v) = faults.in_vector (model.forms (forms_of v.items))
open_of (Map v None said) = faults.in_map (model.pairs (pairs_of v.items))
open_of (Map v (Some key) said) = faults.behind_key (model.pairs (pairs_of v.items)) (form_of key)
open_of (Set v said) = faults.in_set (model.forms (forms_of v.items))
open_of Discard = faults.behind_discard
open_of Inst = faults.behind_inst
open_of Uuid = faults.behind_uuid

-- a construct inside those that are open, in these bytes
abbrev pub inside : List ℕ → Frames → Frame → Frames
inside bytes outer f = frame (open_of f.construct) (drop f.at bytes) outer

-- the outermost is the first
abbrev pub frames_of : List ℕ → List Frame → Frames
frames_of bytes frames = fold (inside bytes) outermost frames

-- there are no duplicates inside its forms, nor among its members or keys, and their codes are kept
abbrev pub IsSoundOpen : Construct → Type 0
IsSoundOpen (List' v) = AreDistinctInside (model.forms (forms_of v.items))
IsSoundOpen (Vector v) = AreDistinctInside (model.forms (forms_of v.items))
IsSoundOpen (Map v None said) =
    HasCodesOf (keys (model.pairs (pairs_of v.items))) said
    × IsTrue (distinct (keys (model.pairs (pairs_of v.items))))
    × ArePairsDistinctInside (model.pairs (pairs_of v.items))
IsSoundOpen (Map v (Some key) said) =
    HasCodesOf (model.with_last (keys (model.pairs (pairs_of v.items))) (form_of key)) said
    × IsTrue (distinct (model.with_last (keys (model.pairs (pairs_of v.items))) (form_of key)))
    × ArePairsDistinctInside (model.pairs (pairs_of v.items)) × IsDistinctInside (form_of key)
IsSoundOpen (Set v said) =
    HasCodesOf (model.forms (forms_of v.items)) said
    × IsTrue (distinct (model.forms (forms_of v.items)))
    × AreDistinctInside (model.forms (forms_of v.items))
IsSoundOpen Discard = Unit {0}
IsSoundOpen Inst = Unit {0}
IsSoundOpen Uuid = Unit {0}

-- the frame opens between two places
pub record IsSoundFrame (start last : ℕ) (f : Frame) : Type 0 where
  pub after : start ≤ f.at
  pub within : f.at ≤ last
  pub kept : IsSoundOpen f.construct

abbrev pub AreSound : ℕ → ℕ → List Frame → Type 0
AreSound start last [] = Unit {0}
AreSound start last (f ∷ fs) = IsSoundFrame start last f × AreSound start last fs

-- what a whole form makes of the construct, as the steps have it
abbrev pub Becomes : Construct → model.Form → Construct → Type 0
Becomes o f p =
    IsSoundOpen p
    × ((outer : Frames) (opened at rest : List ℕ)
    → land (frame (open_of o) opened outer) f at rest ≡ going (frame (open_of p) opened outer) rest)

-- a form alike to it was there before
abbrev pub IsAgain : Construct → model.Form → Type 0
IsAgain o f =
    (outer : Frames) (opened at rest : List ℕ)
    → land (frame (open_of o) opened outer) f at rest ≡ ended (fault faults.bad at)

-- a whole form, from one place up to the next,
-- makes the one construct of the other, or is a duplicate; running out of memory says nothing
abbrev pub LandsAs : Construct → model.Form → ℕ → ℕ → Result Progress EdnFault → Construct → Type 0
LandsAs o f at next (Ok (Further n)) p = (n ≡ next) × Becomes o f p
LandsAs o f at next (Err (Bad byte)) p = (byte ≡ at) × IsAgain o f
LandsAs o f at next (Err Memory) p = Unit {0}
LandsAs o f at next _ p = ⊥

-- a discard has its form, and is over; so would be a tag
abbrev pub EndsWith : Construct → model.Form → Type 0
EndsWith o f =
    (outer : Frames) (opened at rest : List ℕ)
    → land (frame (open_of o) opened outer) f at rest ≡ going outer rest

abbrev pub ClosesAs : Construct → ℕ → model.Form → Type 0
ClosesAs o b f =
    ((outer : List faults.Open) → faults.closes (open_of o ∷ outer) b ≡ true)
    × (f ≡ closed (open_of o))

abbrev pub ClosesNothing : Construct → ℕ → Type 0
ClosesNothing o b = (outer : List faults.Open) → faults.closes (open_of o ∷ outer) b ≡ false

-- ---- what steps come to

-- steps lead further, and what is open is kept
pub record LeadsOn (bytes : List ℕ) (start here : ℕ) (begun : State) (next : ℕ)
    (frames : List Frame) : Type 0 where
  pub ahead : here < next
  pub within : next ≤ length bytes
  pub kept : AreSound start (length bytes) frames
  pub runs : Reaches begun (going (frames_of bytes frames) (drop next bytes))

pub record LeadsTo (bytes : List ℕ) (here : ℕ) (begun : State) (f : model.Form) (next : ℕ)
    : Type 0 where
  pub ahead : here < next
  pub within : next ≤ length bytes
  pub runs : Reaches begun (ended (read f (drop next bytes)))

pub record LeadsAstray (bytes : List ℕ) (start : ℕ) (begun : State) (why : faults.Fault) (byte : ℕ)
    : Type 0 where
  pub ahead : start ≤ byte
  pub within : byte ≤ length bytes
  pub runs : Reaches begun (ended (fault why (drop byte bytes)))

-- the steps from a state on come to this answer, after a place, and leave these open;
-- the form that is read lies in the slot
abbrev pub Leads : List ℕ → ℕ → ℕ → State → Result Progress EdnFault → List Frame → Option Edn
    → Type 0
Leads bytes start here begun (Ok (Further next)) frames slot =
    LeadsOn bytes start here begun next frames
Leads bytes start here begun (Ok (Read next)) frames (Some form) =
    LeadsTo bytes here begun (form_of form) next
Leads bytes start here begun (Ok (Read next)) frames None = ⊥
Leads bytes start here begun (Ok End) frames slot = Reaches begun (ended nothing)
Leads bytes start here begun (Err e) frames slot =
    MatchFault (fault_of e) (LeadsAstray bytes start begun)

-- the same from a place on, with what is open there
abbrev pub LeadsFrom : List ℕ → ℕ → List Frame → Result Progress EdnFault → List Frame → Option Edn
    → Type 0
LeadsFrom bytes at old result new slot =
    (start : ℕ) → start ≤ at → at ≤ length bytes → AreSound start (length bytes) old
    → Leads bytes start at (going (frames_of bytes old) (drop at bytes)) result new slot

-- ---- what one step asks for

-- a whole form, from a place up to the next
pub record Whole (bytes : List ℕ) (start here at next : ℕ) (frames : List Frame) (form : model.Form)
    : Type 0 where
  pub inside : IsDistinctInside form
  pub after : start ≤ at
  pub before : at ≤ length bytes
  pub ahead : here < next
  pub within : next ≤ length bytes
  pub kept : AreSound start (length bytes) frames

-- a construct opens by a step, and its inside begins at the next place
pub record Enters (bytes : List ℕ) (frames : List Frame) (o : Construct) (at next : ℕ)
    : Type 0 where
  pub ahead : at < next
  pub within : next ≤ length bytes
  pub kept : IsSoundOpen o
  pub step : Step (going (frames_of bytes frames) (drop at bytes))
      (going (frame (open_of o) (drop at bytes) (frames_of bytes frames)) (drop next bytes))

-- the same, or nothing can go on where too many are open
pub record Opens (bytes : List ℕ) (frames : List Frame) (o : Construct) (at next : ℕ) : Type 0 where
  pub enters : HasRoom (frames_of bytes frames) → Enters bytes frames o at next
  pub deep : faults.room (opens_of (frames_of bytes frames)) ≡ 0
      → faults.Stuck (opens_of (frames_of bytes frames)) (drop at bytes) faults.deep (drop at bytes)

-- why no collection may open at a place: a tag wants a string, or too many are open
abbrev pub RefusedAt : ℕ → Frames → EdnFault → Type 0
RefusedAt at frames (Bad byte) = (byte ≡ at) × (faults.wants_string (opens_of frames) ≡ true)
RefusedAt at frames (Deep byte) = (byte ≡ at) × Free frames × (faults.room (opens_of frames) ≡ 0)
RefusedAt at frames _ = ⊥
