use Rattle.std.proofs.Common.{◌∙◌, ◌≤◌, ap, sym, subst, length, List}
use Rattle.std.specs.Prelude.{IsTrue}
use Rattle.fb_values.specs.declared.facts.Entry.{Entry}
use Rattle.fb_model.specs.History.{basis}
use Rattle.fb_schema.specs.Described.{described}
use Rattle.view_model.specs.View.{seen, is_selected_by}
use Rattle.view_model.specs.Scan.{IsScan}
use Rattle.fb_core.proofs.laws.adopting_changes_no_view.Goals as goal

pub returns : goal.returns
returns c =
    record {
      seen = λ core rebased w is. ap (λ (h : List Entry). seen h w) is.entries;
      scans = λ core rebased w filters order range ds is. (
        subst (λ (h : List Entry). IsScan h w (λ d. IsTrue (is_selected_by filters d)) order range ds) is.entries,
        subst (λ (h : List Entry). IsScan h w (λ d. IsTrue (is_selected_by filters d)) order range ds) (sym is.entries),
      );
      schema = λ core rebased stands is. is.stands.schema_is ∙ ap described is.entries ∙ sym stands.snapshot.schema_is;
      stands = λ core rebased stands is.
          record {
            snapshot = is.stands;
            authors = subst (λ (h : List Entry). length core.authors ≤ basis h) (sym is.entries) stands.authors;
          };
    }
