-- What stands next in a text is reached by steps.
use Rattle.std.proofs.Common.{◌≡◌, ℕ, suc, ◌-◌, ◌<◌, ◌≤◌, Bool, true, false, List, ◌∷◌, refl, ap, ◌∙◌, sym, subst, arith, IsTrue}
use Rattle.std.specs.Prelude.{◌||◌, not, if◌then◌else◌}
use Rattle.edn_model.specs.Form as form
use Rattle.edn_model.specs.Likeness.{alike, any, distinct, distinct_from, keys}
use Rattle.edn_model.specs.Grammar as grammar
use Rattle.edn_model.specs.Grammar.{max_depth, Gap, Text, Members, Entries}
use Rattle.edn_model.specs.Faults.{Open, in_list, in_vector, in_map, behind_key, in_set, behind_discard, behind_inst, behind_uuid}
use Rattle.edn_model.specs.Faults.{is_discard, wants_string, depth_of, room, Opened, Faultless, outside, inside, Fault, bad, FaultIn}
use Rattle.edn_model.specs.Faults.{key_again, member_again, Stuck}
use Rattle.edn_model.specs.Faults as faults
use Rattle.edn_model.specs.Steps.{Frames, outermost, frame, opens_of, nothing, fault, State, going, ended, land, Free, Step, Reaches, stay}
use Rattle.edn_model.specs.Steps.{next}
use Rattle.edn_model.specs.Steps as steps
use Rattle.edn_model.proofs.Joined.{join, join_pairs, join-nothing, join-last, join_pairs-nothing, join_pairs-last, keys-last, apart_first}
use Rattle.edn_model.proofs.Joined.{distinct-before}
use Rattle.edn_model.proofs.OneForm.{not_true}

pub joined : {s t u : State} → Reaches s t → Reaches t u → Reaches s u
joined stay r = r
joined (next x q) r = next x (joined q r)

pub one : {s t : State} → Step s t → Reaches s t
one x = next x stay

-- ---- room

pub room_inside : (n depth : ℕ) → max_depth - n ≡ suc depth → max_depth - suc n ≡ depth
room_inside n depth e = omega arith

pub some_room : (n depth : ℕ) → n ≡ suc depth → 0 < n
some_room n depth e = omega arith

-- ---- collections of members

pub data Kind : Type 0 where
  a_list : Kind
  a_vector : Kind
  a_set : Kind

abbrev pub opened : Kind → form.Forms → Open
opened a_list fs = in_list fs
opened a_vector fs = in_vector fs
opened a_set fs = in_set fs

-- more members may come
abbrev pub Allowed : Kind → form.Forms → form.Forms → Type 0
Allowed a_list seen fs = Unit {0}
Allowed a_vector seen fs = Unit {0}
Allowed a_set seen fs = distinct_from seen fs ≡ true

depth_opened : (k : Kind) (fs : form.Forms) (outer : List Open) → depth_of (opened k fs ∷ outer) ≡ suc (depth_of outer)
depth_opened a_list fs outer = refl
depth_opened a_vector fs outer = refl
depth_opened a_set fs outer = refl

room_opened : (k : Kind) (fs gs : form.Forms) (outer : List Open) → room (opened k fs ∷ outer) ≡ room (opened k gs ∷ outer)
room_opened k fs gs outer = ap (λ n. max_depth - n) (depth_opened k fs outer ∙ sym (depth_opened k gs outer))

free_opened : (k : Kind) (fs : form.Forms) (outer : List Open) → wants_string (opened k fs ∷ outer) ≡ false
free_opened a_list fs outer = refl
free_opened a_vector fs outer = refl
free_opened a_set fs outer = refl

pub by_likeness : (b : Bool) (x y : State) → b ≡ false → (if b then x else y) ≡ y
by_likeness true x y h = absurd (let wrong = h in cc)
by_likeness false x y h = refl

pub by_unlikeness : (b : Bool) (x y : State) → b ≡ true → (if b then x else y) ≡ x
by_unlikeness true x y h = refl
by_unlikeness false x y h = absurd (let wrong = h in cc)

land_opened : (k : Kind) (seen : form.Forms) (f : form.Form) (fs : form.Forms) (at here rest : List ℕ) (outer : Frames)
    → Allowed k seen (form.form f fs)
    → land (frame (opened k seen) at outer) f here rest ≡ going (frame (opened k (form.with_last seen f)) at outer) rest
land_opened a_list seen f fs at here rest outer h = refl
land_opened a_vector seen f fs at here rest outer h = refl
land_opened a_set seen f fs at here rest outer h =
    by_likeness (any (alike f) seen) (ended (fault bad here)) (going (frame (in_set (form.with_last seen f)) at outer) rest)
    (apart_first seen f fs h).first

allowed_others : (k : Kind) (seen : form.Forms) (f : form.Form) (fs : form.Forms) → Allowed k seen (form.form f fs)
    → Allowed k (form.with_last seen f) fs
allowed_others a_list seen f fs h = tt
allowed_others a_vector seen f fs h = tt
allowed_others a_set seen f fs h = (apart_first seen f fs h).others

land_key : (seen : form.Pairs) (k : form.Form) (at here rest : List ℕ) (outer : Frames) → any (alike k) (keys seen) ≡ false
    → land (frame (in_map seen) at outer) k here rest ≡ going (frame (behind_key seen k) at outer) rest
land_key seen k at here rest outer h =
    by_likeness (any (alike k) (keys seen)) (ended (fault bad here)) (going (frame (behind_key seen k) at outer) rest) h

-- ---- from the grammar

mutual
  pub run_gap : {depth : ℕ} {here rest : List ℕ} → Gap depth here rest → (frames : Frames) → room (opens_of frames) ≡ depth
      → Reaches (going frames here) (going frames rest)
  run_gap grammar.no_gap frames e = stay
  run_gap (grammar.blank p g) frames e = next (steps.blank refl p) (run_gap g frames e)
  run_gap (grammar.comment c g) frames e = next (steps.comment c) (run_gap g frames e)
  run_gap (grammar.last_comment c) frames e = next (steps.last_comment c) stay
  run_gap (grammar.discard {depth = depth} {here = here} is g t h) frames e =
      let within = room_inside (depth_of (opens_of frames)) depth e in
      next (steps.discard is (some_room (room (opens_of frames)) depth e))
      (joined (run_gap g (frame behind_discard here frames) within)
      (joined (run_text t (frame behind_discard here frames) within refl)
      (run_gap h frames e)))

  pub run_text : {depth : ℕ} {f : form.Form} {here rest : List ℕ} → Text depth f here rest
      → (frames : Frames) → room (opens_of frames) ≡ depth → Free frames
      → Reaches (going frames here) (land frames f here rest)
  run_text {f = f} {rest = rest} (grammar.atom token h is ends) frames e free = one (steps.atom f token rest h is ends free)
  run_text (grammar.string h) frames e free = one (steps.string h free)
  run_text (grammar.list {depth = depth} {here = here} is m) frames e free =
      let within = room_inside (depth_of (opens_of frames)) depth e in
      next (steps.list is free (some_room (room (opens_of frames)) depth e))
      (joined (run_members m a_list form.no_forms here frames within tt) (one (steps.close refl refl)))
  run_text (grammar.vector {depth = depth} {here = here} is m) frames e free =
      let within = room_inside (depth_of (opens_of frames)) depth e in
      next (steps.vector is free (some_room (room (opens_of frames)) depth e))
      (joined (run_members m a_vector form.no_forms here frames within tt) (one (steps.close refl refl)))
  run_text (grammar.map {depth = depth} {here = here} is m d) frames e free =
      let within = room_inside (depth_of (opens_of frames)) depth e in
      next (steps.map is free (some_room (room (opens_of frames)) depth e))
      (joined (run_entries m form.no_pairs here frames within d) (one (steps.close refl refl)))
  run_text (grammar.set {depth = depth} {here = here} is m d) frames e free =
      let within = room_inside (depth_of (opens_of frames)) depth e in
      next (steps.set is free (some_room (room (opens_of frames)) depth e))
      (joined (run_members m a_set form.no_forms here frames within d) (one (steps.close refl refl)))
  run_text (grammar.instant {here = here} tag gap h i) frames e free =
      next (steps.inst tag free) (joined (run_gap gap (frame behind_inst here frames) e) (one (steps.instant h i)))
  run_text (grammar.uuid {here = here} tag gap h i) frames e free =
      next (steps.uuid tag free) (joined (run_gap gap (frame behind_uuid here frames) e) (one (steps.identifier h i)))

  pub run_members : {depth : ℕ} {fs : form.Forms} {here rest : List ℕ} → Members depth fs here rest
      → (k : Kind) (seen : form.Forms) (at : List ℕ) (outer : Frames)
      → room (opened k seen ∷ opens_of outer) ≡ depth → Allowed k seen fs
      → Reaches (going (frame (opened k seen) at outer) here) (going (frame (opened k (join seen fs)) at outer) rest)
  run_members {here = here} {rest = rest} (grammar.no_members g) k seen at outer e h =
      subst (λ z. Reaches (going (frame (opened k seen) at outer) here) (going (frame (opened k z) at outer) rest))
      (sym (join-nothing seen)) (run_gap g (frame (opened k seen) at outer) e)
  run_members {rest = rest} (grammar.member {f = f} {fs = fs} {at = from} {after = after} g t m) k seen at outer e h =
      let inner = opened k seen in
      let first = run_text t (frame (opened k seen) at outer) e (free_opened k seen (opens_of outer)) in
      let landed =
      subst (λ z. Reaches (going (frame (opened k seen) at outer) from) z) (land_opened k seen f fs at from after outer h) first in
      let others =
      run_members m k (form.with_last seen f) at outer (room_opened k (form.with_last seen f) seen (opens_of outer) ∙ e)
      (allowed_others k seen f fs h) in
      joined (run_gap g (frame (opened k seen) at outer) e)
      (joined landed
      (subst (λ z. Reaches (going (frame (opened k (form.with_last seen f)) at outer) after) (going (frame (opened k z) at outer) rest))
      (join-last seen f fs) others))

  pub run_entries : {depth : ℕ} {ps : form.Pairs} {here rest : List ℕ} → Entries depth ps here rest
      → (seen : form.Pairs) (at : List ℕ) (outer : Frames)
      → room (in_map seen ∷ opens_of outer) ≡ depth → distinct_from (keys seen) (keys ps) ≡ true
      → Reaches (going (frame (in_map seen) at outer) here) (going (frame (in_map (join_pairs seen ps)) at outer) rest)
  run_entries {here = here} {rest = rest} (grammar.no_entries g) seen at outer e h =
      subst (λ z. Reaches (going (frame (in_map seen) at outer) here) (going (frame (in_map z) at outer) rest))
      (sym (join_pairs-nothing seen)) (run_gap g (frame (in_map seen) at outer) e)
  run_entries {rest = rest}
      (grammar.entry {k = k} {v = v} {ps = ps} {at = from} {between = between} {after = after} g t o w m) seen at outer e h =
      let apart = apart_first (keys seen) k (keys ps) h in
      let key =
      subst (λ z. Reaches (going (frame (in_map seen) at outer) from) z) (land_key seen k at from between outer apart.first)
      (run_text t (frame (in_map seen) at outer) e refl) in
      let others =
      run_entries m (form.with_last_pair seen k v) at outer e
      (subst (λ z. distinct_from z (keys ps) ≡ true) (sym (keys-last seen k v)) apart.others) in
      joined (run_gap g (frame (in_map seen) at outer) e)
      (joined key
      (joined (run_gap o (frame (behind_key seen k) at outer) e)
      (joined (run_text w (frame (behind_key seen k) at outer) e refl)
      (subst (λ z. Reaches (going (frame (in_map (form.with_last_pair seen k v)) at outer) after) (going (frame (in_map z) at outer) rest))
      (join_pairs-last seen k v ps) others))))

-- ---- from what is open

-- no string is wanted where no tag is
free_of : (b : Bool) → IsTrue (not b) → b ≡ false
free_of b h = not_true b h

room_for : (n : ℕ) → suc n ≤ max_depth → 0 < max_depth - n
room_for n h = omega arith

enter : (inner : Open) (frames : Frames) (at here : List ℕ) → IsTrue (is_discard inner || not (wants_string (opens_of frames)))
    → depth_of (inner ∷ opens_of frames) ≤ max_depth
    → Opened (room (inner ∷ opens_of frames)) inner at here → Reaches (going frames at) (going (frame inner at frames) here)
enter (in_list fs) frames at here ok fits o =
    next (steps.list o.1 (free_of (wants_string (opens_of frames)) ok) (room_for (depth_of (opens_of frames)) fits))
    (run_members o.2 a_list form.no_forms at frames refl tt)
enter (in_vector fs) frames at here ok fits o =
    next (steps.vector o.1 (free_of (wants_string (opens_of frames)) ok) (room_for (depth_of (opens_of frames)) fits))
    (run_members o.2 a_vector form.no_forms at frames refl tt)
enter (in_map ps) frames at here ok fits o =
    next (steps.map o.1 (free_of (wants_string (opens_of frames)) ok) (room_for (depth_of (opens_of frames)) fits))
    (run_entries o.2 form.no_pairs at frames refl o.3)
enter (behind_key ps k) frames at here ok fits o =
    let parts = distinct-before form.no_forms (keys ps) k o.7 in
    let key =
    subst (λ z. Reaches (going (frame (in_map ps) at frames) o.1) z) (land_key ps k at o.1 o.2 frames parts.last)
    (run_text o.5 (frame (in_map ps) at frames) refl refl) in
    next (steps.map o.3 (free_of (wants_string (opens_of frames)) ok) (room_for (depth_of (opens_of frames)) fits))
    (joined (run_entries o.4 form.no_pairs at frames refl parts.before) (joined key (run_gap o.6 (frame (behind_key ps k) at frames) refl)))
enter (in_set fs) frames at here ok fits o =
    next (steps.set o.1 (free_of (wants_string (opens_of frames)) ok) (room_for (depth_of (opens_of frames)) fits))
    (run_members o.2 a_set form.no_forms at frames refl o.3)
enter behind_discard frames at here ok fits o =
    next (steps.discard o.1 (room_for (depth_of (opens_of frames)) fits)) (run_gap o.2 (frame behind_discard at frames) refl)
enter behind_inst frames at here ok fits o =
    next (steps.inst o.1 (free_of (wants_string (opens_of frames)) ok)) (run_gap o.2 (frame behind_inst at frames) refl)
enter behind_uuid frames at here ok fits o =
    next (steps.uuid o.1 (free_of (wants_string (opens_of frames)) ok)) (run_gap o.2 (frame behind_uuid at frames) refl)

pub record Framed (bytes : List ℕ) (opens : List Open) (here : List ℕ) : Type 0 where
  pub frames : Frames
  pub same : opens_of frames ≡ opens
  pub runs : Reaches (going outermost bytes) (going frames here)

pub framed : {bytes here : List ℕ} {opens : List Open} → Faultless bytes opens here → Framed bytes opens here
framed (outside g) = record { frames = outermost; same = refl; runs = run_gap g outermost refl }
framed (inside {at = at} {here = here} {inner = inner} {outer = outer} s ok fits o) =
    let below = framed s in
    let back = sym below.same in
    record {
      frames = frame inner at below.frames;
      same = ap (λ z. inner ∷ z) below.same;
      runs = joined below.runs
          (enter inner below.frames at here
          (subst (λ z. IsTrue (is_discard inner || not (wants_string z))) back ok)
          (subst (λ z. depth_of (inner ∷ z) ≤ max_depth) back fits)
          (subst (λ z. Opened (room (inner ∷ z)) inner at here) back o));
    }

-- ---- from a fault

open_heads : {a b : Open} {x y : List Open} → a ∷ x ≡ b ∷ y → a ≡ b
open_heads e = cc

open_tails : {a b : Open} {x y : List Open} → a ∷ x ≡ b ∷ y → x ≡ y
open_tails e = cc

key_fails : (ps : form.Pairs) (outer : List Open) (k : form.Form) (here rest : List ℕ) (frames : Frames)
    → Text (room (in_map ps ∷ outer)) k here rest → any (alike k) (keys ps) ≡ true
    → opens_of frames ≡ in_map ps ∷ outer → Reaches (going frames here) (ended (fault bad here))
key_fails ps outer k here rest outermost t again e = absurd (let wrong = e in cc)
key_fails ps outer k here rest (frame inner at frames) t again e =
    let step = run_text t (frame (in_map ps) at frames) (ap (λ z. room (in_map ps ∷ z)) (open_tails e)) refl in
    let landed = by_unlikeness (any (alike k) (keys ps)) (ended (fault bad here)) (going (frame (behind_key ps k) at frames) rest) again in
    subst (λ z. Reaches (going (frame z at frames) here) (ended (fault bad here))) (sym (open_heads e))
    (subst (λ z. Reaches (going (frame (in_map ps) at frames) here) z) landed step)

member_fails : (fs : form.Forms) (outer : List Open) (f : form.Form) (here rest : List ℕ) (frames : Frames)
    → Text (room (in_set fs ∷ outer)) f here rest → any (alike f) fs ≡ true
    → opens_of frames ≡ in_set fs ∷ outer → Reaches (going frames here) (ended (fault bad here))
member_fails fs outer f here rest outermost t again e = absurd (let wrong = e in cc)
member_fails fs outer f here rest (frame inner at frames) t again e =
    let step = run_text t (frame (in_set fs) at frames) (ap (λ z. room (in_set fs ∷ z)) (open_tails e)) refl in
    let landed =
    by_unlikeness (any (alike f) fs) (ended (fault bad here)) (going (frame (in_set (form.with_last fs f)) at frames) rest) again in
    subst (λ z. Reaches (going (frame z at frames) here) (ended (fault bad here))) (sym (open_heads e))
    (subst (λ z. Reaches (going (frame (in_set fs) at frames) here) z) landed step)

pub fails : {opens : List Open} {why : Fault} {here place : List ℕ} → FaultIn opens here why place
    → (frames : Frames) → opens_of frames ≡ opens → Reaches (going frames here) (ended (fault why place))
fails {why = why} {here = here} {place = place} (faults.stuck k) frames e =
    one (steps.stuck (subst (λ z. Stuck z here why place) (sym e) k))
fails {here = here} (key_again {ps = ps} {outer = outer} {k = k} {rest = rest} t again) frames e =
    key_fails ps outer k here rest frames t again e
fails {here = here} (member_again {fs = fs} {outer = outer} {f = f} {rest = rest} t again) frames e =
    member_fails fs outer f here rest frames t again e
