use Rattle.std.proofs.Common.{◌-◌, ◌∙◌, length, take, drop, ap}
use Rattle.tx_after.specs.Places.{place_of, front_of}
use Rattle.tx_after.proofs.Drops.{whole_rest}
use Rattle.tx_after.proofs.Searching.{part-filter}
use Rattle.tx_after.proofs.parts.part_of.Goals as goal

pub returns : goal.returns
returns c =
    let changes = c.args.changes.now in
    let e = c.args.e in
    let rest = whole_rest changes c.place_of.result ∙ ap (λ n. drop n changes) c.place_of.ensures.place in
    ap (λ n. take n (take (length changes - c.place_of.result) (drop c.place_of.result changes)))
    (c.front_of.ensures.front ∙ ap (front_of e) rest)
    ∙ ap (take (front_of e (drop (place_of e changes) changes))) rest
    ∙ part-filter e changes c.requires
