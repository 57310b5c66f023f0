use Rattle.std.proofs.Common.{◌≡◌, true, subst, sym, length}
use Rattle.std.specs.Prelude.{◌&&◌}
use Rattle.std.specs.List.{list_all}
use Rattle.std.proofs.lemmas.Bool.{and_parts}
use Rattle.log_model.specs.Storable.{is_u32, is_i64, is_storable_datom}
use Rattle.fb_codec.specs.Entries.{has_storable_value}
use Rattle.fb_codec.proofs.Rows.{values_storable}
use Rattle.fb_codec.proofs.entries.entry_bytes.Goals as goal

pub put_datoms-requires : goal.put_datoms-requires
put_datoms-requires c =
    let entry = c.args.entry.now in
    let head = is_u32 entry.t && is_i64 entry.instant && is_u32 (length entry.datoms) in
    let parts = and_parts head (list_all (is_storable_datom 2 entry.t) entry.datoms) c.requires in
    subst (λ ds. list_all has_storable_value ds ≡ true) (sym c.as_slice-datoms.ensures) (values_storable entry.t entry.datoms parts.1)
