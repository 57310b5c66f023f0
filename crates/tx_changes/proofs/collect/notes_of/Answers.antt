use Rattle.std.proofs.Common.{◌≡◌, List, ◌++◌, ap, sym, ◌∙◌, subst}
use Rattle.std.specs.List.{All}
use Rattle.tx_sweep.specs.Sweep.{acts_of}
use Rattle.tx_changes.specs.declared.noted.AskedAs.TheVariants.{Added}
use Rattle.tx_changes.specs.declared.noted.Noted.{Noted}
use Rattle.tx_changes.specs.Asked.{asked_from}
use Rattle.tx_changes.specs.Noted.{noted_from, AreNoted, IsFoundHeld}
use Rattle.tx_changes.proofs.Replacing.{replaced_held}
use Rattle.tx_changes.proofs.Ways.{all_noted, all_are_noted, noted_held}
use Rattle.tx_changes.proofs.collect.notes_of.Goals as goal

pub returns-clause-noted : goal.returns-clause-noted
returns-clause-noted g c = λ tx db_is are.
    let h = g.F.Facts.history c.args.facts.now in
    let schema = c.args.schema.now in
    let acts = acts_of c.args.forms.now in
    let swept = c.in_ok-swept.swept.items in
    let all : c.note_forms.new.notes.noted.items ≡ all_noted h schema swept acts =
    c.in_ok-note_forms.ensures.noted
    ∙ ap (λ (ns : List Noted). ns ++ noted_from h schema 0 acts) c.in_ok-notes.ensures.noted in
    subst (AreNoted tx) (sym all)
    (all_are_noted c.the_lists_are_the_rising_ones.ensures h schema
    (λ x. c.schemas_tell_of_attributes.ensures.attribute schema h x c.requires.schema) acts tx db_is are
    (λ ask. c.acts_ask_what_asks_do.ensures.added tx.db tx.names ask) (λ ask. c.acts_ask_what_asks_do.ensures.retracted tx.db tx.names ask)
    swept (c.in_ok-swept.ensures.all tx db_is are))

pub returns-clause-found : goal.returns-clause-found
returns-clause-found g c =
    let h = g.F.Facts.history c.args.facts.now in
    let schema = c.args.schema.now in
    let acts = acts_of c.args.forms.now in
    let swept = c.in_ok-swept.swept.items in
    let all : c.note_forms.new.notes.noted.items ≡ all_noted h schema swept acts =
    c.in_ok-note_forms.ensures.noted
    ∙ ap (λ (ns : List Noted). ns ++ noted_from h schema 0 acts) c.in_ok-notes.ensures.noted in
    subst (λ (ns : List Noted). All (IsFoundHeld h) ns) (sym all)
    (noted_held h schema swept acts c.in_ok-swept.ensures.held
    (replaced_held c.the_lists_are_the_rising_ones.ensures h schema (asked_from Added 0 acts) c.facts_are_what_holds.ensures))
