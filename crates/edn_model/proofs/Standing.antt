-- What steps lead to stands in the text.
use Rattle.std.proofs.Common.{◌≡◌, ℕ, suc, ◌+◌, ◌-◌, ◌<◌, ◌≤◌, Bool, true, false, List, [], ◌∷◌, length, drop, refl, ap, ◌∙◌, sym, subst}
use Rattle.std.proofs.Common.{arith, IsTrue, inl, inr, lit≤}
use Rattle.std.proofs.lemmas.Bool.{cases_Bool}
use Rattle.std.proofs.lemmas.Bool.Decides.{nat_tests}
use Rattle.std.specs.Prelude.{◌==◌, ◌||◌, not}
use Rattle.edn_model.specs.Form as form
use Rattle.edn_model.specs.Bytes.{close_paren, close_bracket, close_brace}
use Rattle.edn_model.specs.Likeness.{alike, any, distinct, keys}
use Rattle.edn_model.specs.Grammar as grammar
use Rattle.edn_model.specs.Grammar.{max_depth, Gap, Text, Members, no_members, member, Entries, no_entries, entry, FormAt, OnlyGap}
use Rattle.edn_model.specs.Faults as faults
use Rattle.edn_model.specs.Faults.{Open, in_list, in_vector, in_map, behind_key, in_set, behind_discard, behind_inst, behind_uuid}
use Rattle.edn_model.specs.Faults.{is_discard, wants_string, depth_of, room, Opened, Faultless, Fault, bad, FaultIn, FaultAt, closes}
use Rattle.edn_model.specs.Faults.{key_again, member_again}
use Rattle.edn_model.specs.Steps as steps
use Rattle.edn_model.specs.Steps.{Frames, outermost, frame, opens_of, read, nothing, fault, State, going, ended, land, closed, Free, Step}
use Rattle.edn_model.specs.Steps.{Reaches, stay, next}
use Rattle.edn_model.proofs.Joined.{keys-last, not_false, distinct-last}
use Rattle.edn_model.proofs.OneForm.{not_true}
use Rattle.edn_model.proofs.Reached.{by_likeness, by_unlikeness}

-- as `Stands`, with the bytes from where each construct opens
pub data Standing (bytes : List ℕ) : Frames → List ℕ → Type 0 where
  outside : {here : List ℕ} → Gap max_depth bytes here → Standing bytes outermost here
  inside : {inner : Open} {at here : List ℕ} {outer : Frames} → Standing bytes outer at
      → IsTrue (is_discard inner || not (wants_string (opens_of outer)))
      → depth_of (inner ∷ opens_of outer) ≤ max_depth → Opened (room (inner ∷ opens_of outer)) inner at here
      → Standing bytes (frame inner at outer) here

stands : {bytes here : List ℕ} {frames : Frames} → Standing bytes frames here → Faultless bytes (opens_of frames) here
stands (outside g) = faults.outside g
stands (inside s ok fits o) = faults.inside (stands s) ok fits o

fits_in : {bytes here : List ℕ} {frames : Frames} → Standing bytes frames here → depth_of (opens_of frames) ≤ max_depth
fits_in (outside g) = lit≤ tt
fits_in (inside s ok fits o) = fits

-- ---- more of a gap, and one more form

gap_end : {depth : ℕ} {here rest : List ℕ} → Gap depth here rest → here ≡ [] → rest ≡ []
gap_end grammar.no_gap e = e
gap_end (grammar.blank p g) e = absurd (let wrong = e in cc)
gap_end (grammar.comment c g) e = absurd (let wrong = sym c.is ∙ e in cc)
gap_end (grammar.last_comment c) e = refl
gap_end (grammar.discard is g t h) e = absurd (let wrong = sym is ∙ e in cc)

gap_on : {depth : ℕ} {a b c : List ℕ} → Gap depth a b → Gap depth b c → Gap depth a c
gap_on grammar.no_gap h = h
gap_on (grammar.blank p g) h = grammar.blank p (gap_on g h)
gap_on (grammar.comment c g) h = grammar.comment c (gap_on g h)
gap_on {depth = depth} {a = a} (grammar.last_comment c) h = subst (Gap depth a) (sym (gap_end h refl)) (grammar.last_comment c)
gap_on (grammar.discard is g t k) h = grammar.discard is g t (gap_on k h)

members_on : {depth : ℕ} {fs : form.Forms} {a b c : List ℕ} → Members depth fs a b → Gap depth b c → Members depth fs a c
members_on (no_members g) h = no_members (gap_on g h)
members_on (member g t m) h = member g t (members_on m h)

entries_on : {depth : ℕ} {ps : form.Pairs} {a b c : List ℕ} → Entries depth ps a b → Gap depth b c → Entries depth ps a c
entries_on (no_entries g) h = no_entries (gap_on g h)
entries_on (entry g t k v m) h = entry g t k v (entries_on m h)

members_last : {depth : ℕ} {fs : form.Forms} {f : form.Form} {a b c : List ℕ} → Members depth fs a b → Text depth f b c
    → Members depth (form.with_last fs f) a c
members_last (no_members g) t = member g t (no_members grammar.no_gap)
members_last (member g u m) t = member g u (members_last m t)

entries_last : {depth : ℕ} {ps : form.Pairs} {k v : form.Form} {a b c d e : List ℕ} → Entries depth ps a b → Text depth k b c
    → Gap depth c d → Text depth v d e
    → Entries depth (form.with_last_pair ps k v) a e
entries_last (no_entries g) t h u = entry g t h u (no_entries grammar.no_gap)
entries_last (entry g s o w m) t h u = entry g s o w (entries_last m t h u)

opened_on : (depth : ℕ) (inner : Open) (at here rest : List ℕ) → Opened depth inner at here → Gap depth here rest
    → Opened depth inner at rest
opened_on depth (in_list fs) at here rest o h = (o.0, o.1, members_on o.2 h)
opened_on depth (in_vector fs) at here rest o h = (o.0, o.1, members_on o.2 h)
opened_on depth (in_map ps) at here rest o h = (o.0, o.1, entries_on o.2 h, o.3)
opened_on depth (behind_key ps k) at here rest o h = (o.0, o.1, o.2, o.3, o.4, o.5, gap_on o.6 h, o.7)
opened_on depth (in_set fs) at here rest o h = (o.0, o.1, members_on o.2 h, o.3)
opened_on depth behind_discard at here rest o h = (o.0, o.1, gap_on o.2 h)
opened_on depth behind_inst at here rest o h = (o.0, o.1, gap_on o.2 h)
opened_on depth behind_uuid at here rest o h = (o.0, o.1, gap_on o.2 h)

passed : {bytes here rest : List ℕ} {frames : Frames} → Standing bytes frames here → Gap (room (opens_of frames)) here rest
    → Standing bytes frames rest
passed (outside g) h = outside (gap_on g h)
passed {rest = rest} (inside {inner = inner} {at = at} {here = here} {outer = outer} s ok fits o) h =
    inside s ok fits (opened_on (room (inner ∷ opens_of outer)) inner at here rest o h)

-- ---- what a state says

abbrev pub Sound : List ℕ → State → Type 0
Sound bytes (going frames here) = Standing bytes frames here
Sound bytes (ended (read f rest)) = (start : List ℕ) × Gap max_depth bytes start × Text max_depth f start rest
Sound bytes (ended nothing) = Gap max_depth bytes []
Sound bytes (ended (fault why place)) = (opens : List Open) × (here : List ℕ) × Faultless bytes opens here × FaultIn opens here why place

free_of : (b : Bool) → IsTrue (not b) → b ≡ false
free_of b h = not_true b h

one_more : (n : ℕ) → suc n ≤ max_depth → suc (max_depth - suc n) ≡ max_depth - n
one_more n h = omega arith

land_sound : {bytes : List ℕ} (frames : Frames) (f : form.Form) (at rest : List ℕ) → Standing bytes frames at → Free frames
    → Text (room (opens_of frames)) f at rest → Sound bytes (land frames f at rest)
land_sound outermost f at rest (outside g) free t = (at, g, t)
land_sound (frame (in_list fs) opened outer) f at rest (inside s ok fits o) free t = inside s ok fits (o.0, o.1, members_last o.2 t)
land_sound (frame (in_vector fs) opened outer) f at rest (inside s ok fits o) free t = inside s ok fits (o.0, o.1, members_last o.2 t)
land_sound {bytes = bytes} (frame (in_map ps) opened outer) f at rest (inside s ok fits o) free t =
    let again = ended (fault bad at) in
    let goes = going (frame (behind_key ps f) opened outer) rest in
    elim (cases_Bool (any (alike f) (keys ps))) [
      | inl h ↦
          subst (Sound bytes) (sym (by_unlikeness (any (alike f) (keys ps)) again goes h))
          (in_map ps ∷ opens_of outer, at, faults.inside (stands s) ok fits o, key_again t h)
      | inr h ↦ subst (Sound bytes) (sym (by_likeness (any (alike f) (keys ps)) again goes h))
          (inside s ok fits (o.0, at, rest, o.1, o.2, t, grammar.no_gap, distinct-last form.no_forms (keys ps) f o.3 h))
    ]
land_sound (frame (behind_key ps k) opened outer) f at rest (inside s ok fits o) free t =
    inside s ok fits (o.0, o.3, entries_last o.4 o.5 o.6 t, subst (λ z. IsTrue (distinct z)) (sym (keys-last ps k f)) o.7)
land_sound {bytes = bytes} (frame (in_set fs) opened outer) f at rest (inside s ok fits o) free t =
    let again = ended (fault bad at) in
    let goes = going (frame (in_set (form.with_last fs f)) opened outer) rest in
    elim (cases_Bool (any (alike f) fs)) [
      | inl h ↦
          subst (Sound bytes) (sym (by_unlikeness (any (alike f) fs) again goes h))
          (in_set fs ∷ opens_of outer, at, faults.inside (stands s) ok fits o, member_again t h)
      | inr h ↦ subst (Sound bytes) (sym (by_likeness (any (alike f) fs) again goes h))
          (inside s ok fits (o.0, o.1, members_last o.2 t, distinct-last form.no_forms fs f o.3 h))
    ]
land_sound (frame behind_discard opened outer) f at rest (inside s ok fits o) free t =
    passed s (subst (λ z. Gap z opened rest) (one_more (depth_of (opens_of outer)) fits) (grammar.discard o.1 o.2 t grammar.no_gap))
land_sound (frame behind_inst opened outer) f at rest s free t = absurd (let wrong : true ≡ false = free in cc)
land_sound (frame behind_uuid opened outer) f at rest s free t = absurd (let wrong : true ≡ false = free in cc)

-- ---- closing brackets

closing : (a b : ℕ) (here rest : List ℕ) → here ≡ a ∷ rest → (a == b) ≡ true → here ≡ b ∷ rest
closing a b here rest e h = let same : a ≡ b = grind (arith, nat_tests) in e ∙ ap (λ z. z ∷ rest) same

close_sound : {bytes : List ℕ} (inner : Open) (outer : Frames) (b : ℕ) (at here rest : List ℕ) → Standing bytes (frame inner at outer) here
    → here ≡ b ∷ rest → closes (inner ∷ opens_of outer) b ≡ true
    → Sound bytes (land outer (closed inner) at rest)
close_sound (in_list fs) outer b at here rest (inside s ok fits o) e h =
    let members = subst (Members (room (in_list fs ∷ opens_of outer)) fs o.0) (closing b close_paren here rest e h) o.2 in
    land_sound outer (form.list fs) at rest s (free_of (wants_string (opens_of outer)) ok)
    (subst (λ z. Text z (form.list fs) at rest) (one_more (depth_of (opens_of outer)) fits) (grammar.list o.1 members))
close_sound (in_vector fs) outer b at here rest (inside s ok fits o) e h =
    let members = subst (Members (room (in_vector fs ∷ opens_of outer)) fs o.0) (closing b close_bracket here rest e h) o.2 in
    land_sound outer (form.vector fs) at rest s (free_of (wants_string (opens_of outer)) ok)
    (subst (λ z. Text z (form.vector fs) at rest) (one_more (depth_of (opens_of outer)) fits) (grammar.vector o.1 members))
close_sound (in_map ps) outer b at here rest (inside s ok fits o) e h =
    let entries = subst (Entries (room (in_map ps ∷ opens_of outer)) ps o.0) (closing b close_brace here rest e h) o.2 in
    land_sound outer (form.map ps) at rest s (free_of (wants_string (opens_of outer)) ok)
    (subst (λ z. Text z (form.map ps) at rest) (one_more (depth_of (opens_of outer)) fits) (grammar.map o.1 entries o.3))
close_sound (in_set fs) outer b at here rest (inside s ok fits o) e h =
    let members = subst (Members (room (in_set fs ∷ opens_of outer)) fs o.0) (closing b close_brace here rest e h) o.2 in
    land_sound outer (form.set fs) at rest s (free_of (wants_string (opens_of outer)) ok)
    (subst (λ z. Text z (form.set fs) at rest) (one_more (depth_of (opens_of outer)) fits) (grammar.set o.1 members o.3))
close_sound (behind_key ps k) outer b at here rest s e h = absurd (let wrong : false ≡ true = h in cc)
close_sound behind_discard outer b at here rest s e h = absurd (let wrong : false ≡ true = h in cc)
close_sound behind_inst outer b at here rest s e h = absurd (let wrong : false ≡ true = h in cc)
close_sound behind_uuid outer b at here rest s e h = absurd (let wrong : false ≡ true = h in cc)

-- ---- steps

ok_inside : (b : Bool) → b ≡ false → IsTrue (not b)
ok_inside b h = not_false b h

room_fits : (n : ℕ) → 0 < max_depth - n → suc n ≤ max_depth
room_fits n h = omega arith

blank_here : {depth b : ℕ} (here rest : List ℕ) → here ≡ b ∷ rest → Gap depth (b ∷ rest) rest → Gap depth here rest
blank_here {depth = depth} here rest e g = subst (λ z. Gap depth z rest) (sym e) g

step_sound : (bytes : List ℕ) {s t : State} → Step s t → Sound bytes s → Sound bytes t
step_sound bytes (steps.blank {here = here} {rest = rest} e p) s = passed s (blank_here here rest e (grammar.blank p grammar.no_gap))
step_sound bytes (steps.comment c) s = passed s (grammar.comment c grammar.no_gap)
step_sound bytes (steps.last_comment c) s = passed s (grammar.last_comment c)
step_sound bytes (steps.discard {frames = frames} {inside = within} e r) s =
    inside s refl (room_fits (depth_of (opens_of frames)) r) (within, e, grammar.no_gap)
step_sound bytes (steps.list {frames = frames} {inside = within} e f r) s =
    inside s (ok_inside (wants_string (opens_of frames)) f) (room_fits (depth_of (opens_of frames)) r)
    (within, e, no_members grammar.no_gap)
step_sound bytes (steps.vector {frames = frames} {inside = within} e f r) s =
    inside s (ok_inside (wants_string (opens_of frames)) f) (room_fits (depth_of (opens_of frames)) r)
    (within, e, no_members grammar.no_gap)
step_sound bytes (steps.map {frames = frames} {inside = within} e f r) s =
    inside s (ok_inside (wants_string (opens_of frames)) f) (room_fits (depth_of (opens_of frames)) r)
    (within, e, no_entries grammar.no_gap, refl)
step_sound bytes (steps.set {frames = frames} {inside = within} e f r) s =
    inside s (ok_inside (wants_string (opens_of frames)) f) (room_fits (depth_of (opens_of frames)) r)
    (within, e, no_members grammar.no_gap, refl)
step_sound bytes (steps.inst {frames = frames} {inside = within} t f) s =
    inside s (ok_inside (wants_string (opens_of frames)) f) (fits_in s) (within, t, grammar.no_gap)
step_sound bytes (steps.uuid {frames = frames} {inside = within} t f) s =
    inside s (ok_inside (wants_string (opens_of frames)) f) (fits_in s) (within, t, grammar.no_gap)
step_sound bytes (steps.atom {frames = frames} {here = here} f token rest h is ends free) s =
    land_sound frames f here rest s free (grammar.atom token h is ends)
step_sound bytes (steps.string {frames = frames} {s = text} {here = here} {rest = rest} h free) s =
    land_sound frames (form.string text) here rest s free (grammar.string h)
step_sound bytes (steps.close {inner = inner} {outer = outer} {b = b} {at = at} {here = here} {rest = rest} e h) s =
    close_sound inner outer b at here rest s e h
step_sound bytes (steps.instant {outer = outer} {z = z} {at = at} {rest = rest} h i) (inside s ok fits o) =
    land_sound outer (form.instant z) at rest s (free_of (wants_string (opens_of outer)) ok) (grammar.instant o.1 o.2 h i)
step_sound bytes (steps.identifier {outer = outer} {n = n} {at = at} {rest = rest} h i) (inside s ok fits o) =
    land_sound outer (form.uuid n) at rest s (free_of (wants_string (opens_of outer)) ok) (grammar.uuid o.1 o.2 h i)
step_sound bytes (steps.stuck {frames = frames} {here = here} k) s = (opens_of frames, here, stands s, faults.stuck k)
step_sound bytes steps.end (outside g) = g

pub reach_sound : (bytes : List ℕ) {s t : State} → Reaches s t → Sound bytes s → Sound bytes t
reach_sound bytes stay h = h
reach_sound bytes (next x r) h = reach_sound bytes r (step_sound bytes x h)

-- ---- what a reading says

pub reads_form : (bytes : List ℕ) (at to : ℕ) (f : form.Form) → at < to → to ≤ length bytes
    → Reaches (going outermost (drop at bytes)) (ended (read f (drop to bytes))) → FormAt bytes at f to
reads_form bytes at to f below within r =
    let found = reach_sound (drop at bytes) r (outside grammar.no_gap) in
    record { order = (below, within); start = found.0; before = found.1; text = found.2 }

pub reads_end : (bytes : List ℕ) (at : ℕ) → Reaches (going outermost (drop at bytes)) (ended nothing) → OnlyGap bytes at
reads_end bytes at r = reach_sound (drop at bytes) r (outside grammar.no_gap)

pub reads_fault : (bytes : List ℕ) (at byte : ℕ) (why : Fault) (place : List ℕ) → byte + length place ≡ length bytes
    → Reaches (going outermost (drop at bytes)) (ended (fault why place)) → FaultAt bytes at why byte
reads_fault bytes at byte why place is r =
    let found = reach_sound (drop at bytes) r (outside grammar.no_gap) in
    record { opens = found.0; here = found.1; place = place; stands = found.2; is = found.3; byte_is = is }
