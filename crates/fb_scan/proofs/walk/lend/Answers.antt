use Rattle.std.proofs.Common.{◌≡◌, ◌∙◌, ◌++◌, ◌∷◌, [], ℕ, Bor, ap, sym, subst, refl, Some, List, length, map, arith}
use Rattle.std.proofs.lemmas.List.{map-append, length-map}
use Rattle.fb_values.specs.declared.facts.Datom.{Datom}
use Rattle.fb_db.specs.Seen.{window_of}
use Rattle.fb_scan.specs.Steps.{HasGiven}
use Rattle.fb_scan.proofs.Stepping.{walk_ends, walk_is_full, none_upto, upto_more, full_is, not_full_is}
use Rattle.fb_scan.proofs.walk.lend.Goals as goal

-- the datoms that are lent
abbrev lent : List (Bor Datom) → List Datom
lent ds = map (λ (d : Bor Datom). d.now) ds

lent_more : (ds new : List (Bor Datom)) (d : Bor Datom) → new ≡ ds ++ d ∷ [] → lent new ≡ lent ds ++ d.now ∷ []
lent_more ds new d is = ap lent is ∙ map-append (λ (x : Bor Datom). x.now) ds (d ∷ [])

counted : (n : ℕ) (ds : List (Bor Datom)) → n ≡ length ds → n ≡ length (lent ds)
counted n ds is = is ∙ sym (length-map ds (λ (d : Bor Datom). d.now))

pub loop-scan-init : goal.loop-scan-init
loop-scan-init g c =
    let none = ap lent c.new-found.ensures.items in
    record {
      given =
          subst (λ (l : List Datom). HasGiven c.args.db.now (g.S.Selector.selects c.args.db.now.filter) c.args.from.now c.args.end
          c.start-scan.result l) (sym none) c.start-scan.ensures;
      upto = none_upto c.args.most (lent c.new-found.result.items) none;
    }

pub returns-in_default : goal.returns-in_default
returns-in_default g c =
    let found = lent c.loop-scan.found.items in
    walk_ends c.args.db.now.snapshot.entries (window_of c.args.db.now) (g.S.Selector.selects c.args.db.now.filter) c.args.from.now
    c.args.end found c.args.most found c.loop-scan.invariant.upto
    (c.in_default.ensures.next c.args.db.now c.args.from.now c.args.end found c.loop-scan.invariant.given) refl

pub loop-scan-preserved : goal.loop-scan-preserved
loop-scan-preserved g c =
    let found = lent c.loop-scan.found.items in
    let more = lent_more c.loop-scan.found.items c.push.new.self.items c.in-Some.datom c.in_ok-push.ensures.items in
    record {
      given =
          subst (λ (l : List Datom). HasGiven c.args.db.now (g.S.Selector.selects c.args.db.now.filter) c.args.from.now c.args.end
          c.next.new.self l) (sym more)
          (c.in-Some.ensures.next c.args.db.now c.args.from.now c.args.end found c.loop-scan.invariant.given);
      upto =
          upto_more c.args.most found (lent c.push.new.self.items) c.in-Some.datom.now c.loop-scan.invariant.upto
          (let count : c.len.result ≡ length found =
          counted c.len.result c.loop-scan.found.items (omega arith) in
          λ full. not_full_is c.args.most c.len.result c.ne.result c.ne.ensures c.loop-scan-test.true (full ∙ ap Some (sym count)))
          more;
    }

pub loop-scan-smaller : goal.loop-scan-smaller
loop-scan-smaller g c = c.in-Some.ensures.less

pub returns : goal.returns
returns g c =
    let found = lent c.loop-scan.found.items in
    let count : c.len.result ≡ length found = counted c.len.result c.loop-scan.found.items (omega arith) in
    walk_is_full c.args.db.now.snapshot.entries (window_of c.args.db.now) (g.S.Selector.selects c.args.db.now.filter) c.args.from.now
    c.args.end found _ _ c.loop-scan.invariant.given.going c.args.most found
    (full_is c.args.most c.len.result c.ne.result c.ne.ensures c.loop-scan-test.false ∙ ap Some count) refl
