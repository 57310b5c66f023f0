-- In a form that has a text nothing is said twice.
use Rattle.std.proofs.Common.{ℕ, List}
use Rattle.edn_model.specs.Form as form
use Rattle.edn_model.specs.Tokens.{IsAtom}
use Rattle.edn_model.specs.Grammar.{Text, atom, string, list, vector, map, set, instant, uuid, Members, no_members, member, Entries}
use Rattle.edn_model.specs.Grammar.{no_entries, entry}
use Rattle.edn_duplicates.specs.Inside.{IsDistinctInside, AreDistinctInside, ArePairsDistinctInside}

atom_inside : (f : form.Form) (token : List ℕ) → IsAtom f token → IsDistinctInside f
atom_inside form.nil token a = tt
atom_inside (form.boolean b) token a = tt
atom_inside (form.integer z) token a = tt
atom_inside (form.string s) token a = tt
atom_inside (form.symbol s) token a = tt
atom_inside (form.keyword k) token a = tt
atom_inside (form.list fs) token a = absurd a
atom_inside (form.vector fs) token a = absurd a
atom_inside (form.map ps) token a = absurd a
atom_inside (form.set fs) token a = absurd a
atom_inside (form.instant z) token a = tt
atom_inside (form.uuid n) token a = tt

mutual
  pub text_inside : {depth : ℕ} {f : form.Form} {here rest : List ℕ} → Text depth f here rest → IsDistinctInside f
  text_inside {f = f} (atom token a e t) = atom_inside f token a
  text_inside (string s) = tt
  text_inside (list e m) = members_inside m
  text_inside (vector e m) = members_inside m
  text_inside (map e m d) = (entries_inside m, d)
  text_inside (set e m d) = (members_inside m, d)
  text_inside (instant t g s i) = tt
  text_inside (uuid t g s i) = tt

  members_inside : {depth : ℕ} {fs : form.Forms} {here rest : List ℕ} → Members depth fs here rest → AreDistinctInside fs
  members_inside (no_members g) = tt
  members_inside (member g t m) = (text_inside t, members_inside m)

  entries_inside : {depth : ℕ} {ps : form.Pairs} {here rest : List ℕ} → Entries depth ps here rest → ArePairsDistinctInside ps
  entries_inside (no_entries g) = tt
  entries_inside (entry g k h v m) = (text_inside k, text_inside v, entries_inside m)
