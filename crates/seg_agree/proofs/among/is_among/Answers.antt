use Rattle.std.proofs.Common.{◌≡◌, sym, length, refl, Some}
use Rattle.std.specs.List.{slice_get}
use Rattle.std.proofs.lemmas.Bool.{true≢false}
use Rattle.std.proofs.lemmas.Option.{slice_get_past, slice_get_read}
use Rattle.seg_agree.proofs.Searching.{nothing_there, what_is_there, is_there}
use Rattle.seg_agree.proofs.among.is_among.Goals as goal

pub returns-in-None : goal.returns-in-None
returns-in-None c = (
  (λ is. absurd (true≢false (sym is))),
  (λ member. absurd (nothing_there c.args.datoms.now c.args.d.now c.place_of_datom-place.result c.requires c.place_of_datom-place.ensures
      (slice_get_past c.args.datoms.now c.place_of_datom-place.result c.in-None.ensures.lookup.3) member)),
)

pub returns-in-Some : goal.returns-in-Some
returns-in-Some c =
    let read : slice_get c.args.datoms.now c.place_of_datom-place.result ≡ Some c.in-Some.found.now =
    slice_get_read c.args.datoms.now (length c.args.datoms.now) c.place_of_datom-place.result c.in-Some.found.now refl
    c.in-Some.ensures.lookup.3.0 c.in-Some.ensures.lookup.1 in (
      (λ is. is_there c.args.datoms.now c.args.d.now c.in-Some.found.now c.place_of_datom-place.result read (c.is_same.ensures.0 is)),
      (λ member. c.is_same.ensures.1 (what_is_there c.args.datoms.now c.args.d.now c.in-Some.found.now c.place_of_datom-place.result
          c.requires c.place_of_datom-place.ensures read member)),
    )
