use Rattle.fb_values.specs.declared.facts.Datom.{Datom}
use Rattle.fb_values.specs.declared.facts.Entry.{Entry}
use Rattle.fb_model.specs.History.{said}
use Rattle.fb_replies.specs.Texts.{has_text, have_texts}
use Rattle.fb_replies.proofs.Said.{said_texts, entries_texts, each_of}
use Rattle.fb_replies.proofs.laws.what_is_said_has_a_text.Goals as goal

pub returns-clause-all : goal.returns-clause-all
returns-clause-all c = said_texts

pub returns-clause-some : goal.returns-clause-some
returns-clause-some c = λ h ds lawful within. each_of (λ (d : Datom). has_text d.v) (said h) ds (said_texts h lawful) within

pub returns-clause-entries : goal.returns-clause-entries
returns-clause-entries c =
    λ h entries lawful within. each_of (λ (entry : Entry). have_texts entry.datoms) h entries (entries_texts h lawful) within
