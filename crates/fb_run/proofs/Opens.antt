-- What is opened one after another changes nothing that the host tells of other names.
use Rattle.std.proofs.Common.{◌≡◌, ◌≢◌, inl, inr, ℕ, zero, suc, ◌-◌, ◌≤◌, List, [], ◌∷◌, map, length, Some, refl, sym, ap, ◌∙◌}
use Rattle.std.proofs.Common.{subst, arith, get_or, take, drop}
use Rattle.std.proofs.lemmas.List.{take-map}
use Rattle.std.specs.Prelude.{Contains, Result, Ok, Err, IfErr}
use Rattle.std.specs.Borrow.{Bor}
use Rattle.command_line.specs.Words.{sink_of}
use Rattle.command_line.specs.Views.{names_in}
use Rattle.fb_ports.specs.Faults.{Rose}
use Rattle.fb_ports.specs.HostSpec.{HostSpec}
use Rattle.fb_ports.specs.HostCalls.{StaysButSource, StaysButSink, StaysButDisk}
use Rattle.fb_ports.specs.declared.hosts.Part.{Part}
use Rattle.fb_run.specs.declared.opening.Unopened.{Unopened}
use Rattle.fb_run.specs.declared.opening.Unopened.TheVariants.{CannotOpen, Memory}
use Rattle.fb_run.specs.Outside.{Ports, of_sources, of_sinks, of_scripts, OpensOnly, OpensUpTo}
use Rattle.fb_run.specs.Opening.{HostRefuses, HostRefusesOne, IsUnopened}
use Rattle.fb_run.proofs.Lists.{names_cut}

-- ---- names

pub first_in : (name : List ℕ) (names : List (List ℕ)) → Contains (name ∷ names) name
first_in name names = (0, omega arith, refl)

pub later_in : (name other : List ℕ) (names : List (List ℕ)) → Contains names other → Contains (name ∷ names) other
later_in name other names has = (suc has.0, omega (arith, has.1), has.2)

pub none_in : {X : Type 0} (other : List ℕ) → Contains [] other → X
none_in other has = absurd (omega (arith, has.1))

pub only_in : (name other : List ℕ) (names : List (List ℕ)) → Contains (name ∷ []) other → Contains (name ∷ names) other
only_in name other names (zero, within, is) = (zero, omega arith, is)
only_in name other names (suc k, within, is) = absurd (omega (arith, within))

-- one has all names that the other has
pub record HaveAll (few many : Ports) : Type 0 where
  pub sources : (other : List ℕ) → Contains few.sources other → Contains many.sources other
  pub sinks : (other : List ℕ) → Contains few.sinks other → Contains many.sinks other
  pub directories : (other : List ℕ) → Contains few.directories other → Contains many.directories other

-- ---- what is opened

pub opens_nothing : (ports : Ports) (spec : HostSpec) → OpensOnly ports spec spec
opens_nothing ports spec = record {
  sources = λ other not. refl;
  source_faults = λ other not. refl;
  sinks = λ other not. refl;
  sink_faults = λ other not. refl;
  disks = λ other not part. refl;
  disk_faults = λ other not part. refl;
  disk_images = λ other not part image. (λ x. x, λ x. x);
  disk_moment = λ other not part. refl;
}

pub opens_more : (few many : Ports) (old new : HostSpec) → HaveAll few many → OpensOnly few old new → OpensOnly many old new
opens_more few many old new all only = record {
  sources = λ other not. only.sources other (λ has. not (all.sources other has));
  source_faults = λ other not. only.source_faults other (λ has. not (all.sources other has));
  sinks = λ other not. only.sinks other (λ has. not (all.sinks other has));
  sink_faults = λ other not. only.sink_faults other (λ has. not (all.sinks other has));
  disks = λ other not part. only.disks other (λ has. not (all.directories other has)) part;
  disk_faults = λ other not part. only.disk_faults other (λ has. not (all.directories other has)) part;
  disk_images = λ other not part. only.disk_images other (λ has. not (all.directories other has)) part;
  disk_moment = λ other not part. only.disk_moment other (λ has. not (all.directories other has)) part;
}

pub opens_then : (ports : Ports) (old mid new : HostSpec) → OpensOnly ports old mid → OpensOnly ports mid new → OpensOnly ports old new
opens_then ports old mid new first then = record {
  sources = λ other not. then.sources other not ∙ first.sources other not;
  source_faults = λ other not. then.source_faults other not ∙ first.source_faults other not;
  sinks = λ other not. then.sinks other not ∙ first.sinks other not;
  sink_faults = λ other not. then.sink_faults other not ∙ first.sink_faults other not;
  disks = λ other not part. then.disks other not part ∙ first.disks other not part;
  disk_faults = λ other not part. then.disk_faults other not part ∙ first.disk_faults other not part;
  disk_images = λ other not part image.
      let a = first.disk_images other not part image in
      let b = then.disk_images other not part image in (λ x. a.0 (b.0 x), λ x. b.1 (a.1 x));
  disk_moment = λ other not part. then.disk_moment other not part ∙ first.disk_moment other not part;
}

pub opens_source : (name : List ℕ) (old new : HostSpec) → StaysButSource name old new → OpensOnly (of_sources (name ∷ [])) old new
opens_source name old new stays =
    let differs : (other : List ℕ) → (Contains (name ∷ []) other → ⊥) → other ≢ name = λ other not same.
    not (subst (Contains (name ∷ [])) (sym same) (first_in name [])) in record {
      sources = λ other not. stays.sources other (differs other not);
      source_faults = λ other not. stays.source_faults other (differs other not);
      sinks = λ other not. stays.sinks other;
      sink_faults = λ other not. stays.sink_faults other;
      disks = λ other not part. stays.disks other part;
      disk_faults = λ other not part. stays.disk_faults other part;
      disk_images = λ other not part. stays.disk_images other part;
      disk_moment = λ other not part. stays.disk_moment other part;
    }

pub opens_sink : (name : List ℕ) (old new : HostSpec) → StaysButSink (sink_of name) old new → OpensOnly (of_sinks (name ∷ [])) old new
opens_sink name old new stays =
    let differs : (other : List ℕ) → (Contains (sink_of name ∷ []) other → ⊥) → other ≢ sink_of name = λ other not same.
    not (subst (Contains (sink_of name ∷ [])) (sym same) (first_in (sink_of name) [])) in record {
      sources = λ other not. stays.sources other;
      source_faults = λ other not. stays.source_faults other;
      sinks = λ other not. stays.sinks other (differs other not);
      sink_faults = λ other not. stays.sink_faults other (differs other not);
      disks = λ other not part. stays.disks other part;
      disk_faults = λ other not part. stays.disk_faults other part;
      disk_images = λ other not part. stays.disk_images other part;
      disk_moment = λ other not part. stays.disk_moment other part;
    }

pub opens_part : (ports : Ports) (name : List ℕ) (part : Part) (old new : HostSpec) → ports.directories ≡ name ∷ []
    → StaysButDisk name part old new → OpensOnly ports old new
opens_part ports name part old new is stays =
    let has : Contains ports.directories name = subst (λ (names : List (List ℕ)). Contains names name) (sym is) (first_in name []) in
    let differs : (other : List ℕ) (its : Part) → (Contains ports.directories other → ⊥) → other ≡ name → its ≡ part → ⊥ =
    λ other its not same also. not (subst (Contains ports.directories) (sym same) has) in record {
      sources = λ other not. stays.sources other;
      source_faults = λ other not. stays.source_faults other;
      sinks = λ other not. stays.sinks other;
      sink_faults = λ other not. stays.sink_faults other;
      disks = λ other not its. stays.disks other its (differs other its not);
      disk_faults = λ other not its. stays.disk_faults other its (differs other its not);
      disk_images = λ other not its. stays.disk_images other its (differs other its not);
      disk_moment = λ other not its. stays.disk_moment other its (differs other its not);
    }

-- ---- one after another

-- the ports of a list of names, in which more names stand for more ports
pub record GrowsWith (ports : List (List ℕ) → Ports) : Type 0 where
  pub one : (name : List ℕ) (names : List (List ℕ)) → HaveAll (ports (name ∷ [])) (ports (name ∷ names))
  pub more : (name : List ℕ) (names : List (List ℕ)) → HaveAll (ports names) (ports (name ∷ names))

pub sources_grow : GrowsWith of_sources
sources_grow = record {
  one = λ name names. record {
    sources = λ other has. only_in name other names has;
    sinks = λ other has. none_in other has;
    directories = λ other has. none_in other has;
  };
  more = λ name names. record {
    sources = λ other has. later_in name other names has;
    sinks = λ other has. none_in other has;
    directories = λ other has. none_in other has;
  };
}

pub sinks_grow : GrowsWith of_sinks
sinks_grow = record {
  one = λ name names. record {
    sources = λ other has. none_in other has;
    sinks = λ other has. only_in (sink_of name) other (map sink_of names) has;
    directories = λ other has. none_in other has;
  };
  more = λ name names. record {
    sources = λ other has. none_in other has;
    sinks = λ other has. later_in (sink_of name) other (map sink_of names) has;
    directories = λ other has. none_in other has;
  };
}

module _ (ports : List (List ℕ) → Ports) (grows : GrowsWith ports) where
  pub first_opens : (name : List ℕ) (names : List (List ℕ)) (old new : HostSpec) → OpensOnly (ports (name ∷ [])) old new
      → OpensOnly (ports (name ∷ names)) old new
  first_opens name names old new only = opens_more (ports (name ∷ [])) (ports (name ∷ names)) old new (grows.one name names) only

  pub rest_opens : (name : List ℕ) (names : List (List ℕ)) (old mid new : HostSpec) → OpensOnly (ports (name ∷ [])) old mid
      → OpensOnly (ports names) mid new → OpensOnly (ports (name ∷ names)) old new
  rest_opens name names old mid new first then =
      opens_then (ports (name ∷ names)) old mid new (first_opens name names old mid first)
      (opens_more (ports names) (ports (name ∷ names)) mid new (grows.more name names) then)

  -- the first of the names could not be opened
  first_stuck : (name : List ℕ) (names : List (List ℕ)) (old new : HostSpec) (why : Unopened) → OpensOnly (ports (name ∷ [])) old new
      → HostRefuses name old new why → HostRefusesOne ports (name ∷ names) old new why
  first_stuck name names old new (CannotOpen why) only not =
      record { place = 0; named = ap Some (sym not.0); behind = only; host = not.1 }
  first_stuck name names old new Memory only not = tt

  later_stuck : (name : List ℕ) (names : List (List ℕ)) (old mid new : HostSpec) (why : Unopened) → mid.faults ≡ old.faults
      → OpensOnly (ports (name ∷ [])) old mid → HostRefusesOne ports names mid new why → HostRefusesOne ports (name ∷ names) old new why
  later_stuck name names old mid new (CannotOpen why) same only not = record {
    place = suc not.place;
    named = not.named;
    behind = rest_opens name (take (suc not.place) names) old mid new only not.behind;
    host = subst (λ (n : ℕ). Rose n new.faults) same not.host;
  }
  later_stuck name names old mid new Memory same only not = tt

  -- in the words of the functions that open them one after another
  module _ (scripts : List (Bor (List ℕ))) (d : Bor (List ℕ)) (some : 1 ≤ length scripts) where
    abbrev name : List ℕ
    name = (get_or scripts 0 d).now

    abbrev rest : List (List ℕ)
    rest = names_in (take (length scripts - 1) (drop 1 scripts))

    pub opens_first : (old new : HostSpec) → OpensOnly (ports (name ∷ [])) old new → OpensOnly (ports (names_in scripts)) old new
    opens_first old new only =
        subst (λ (names : List (List ℕ)). OpensOnly (ports names) old new) (sym (names_cut scripts d some))
        (first_opens name rest old new only)

    pub opens_rest : (old mid new : HostSpec) → OpensOnly (ports (name ∷ [])) old mid → OpensOnly (ports rest) mid new
        → OpensOnly (ports (names_in scripts)) old new
    opens_rest old mid new first then =
        subst (λ (names : List (List ℕ)). OpensOnly (ports names) old new) (sym (names_cut scripts d some))
        (rest_opens name rest old mid new first then)

    pub stuck_first : (old new : HostSpec) (why : Unopened) → OpensOnly (ports (name ∷ [])) old new → HostRefuses name old new why
        → HostRefusesOne ports (names_in scripts) old new why
    stuck_first old new why only not =
        subst (λ (names : List (List ℕ)). HostRefusesOne ports names old new why) (sym (names_cut scripts d some))
        (first_stuck name rest old new why only not)

    pub stuck_later : {T : Type 0} (r : Result T Unopened) (old mid new : HostSpec) → mid.faults ≡ old.faults
        → OpensOnly (ports (name ∷ [])) old mid → IfErr r (HostRefusesOne ports rest mid new)
        → IfErr r (HostRefusesOne ports (names_in scripts) old new)
    stuck_later (Ok x) old mid new same only not = tt
    stuck_later (Err why) old mid new same only not =
        subst (λ (names : List (List ℕ)). HostRefusesOne ports names old new why) (sym (names_cut scripts d some))
        (later_stuck name rest old mid new why same only not)

-- ---- all sources, and then all sinks

module _ (scripts : List (List ℕ)) where
  pub opens_sources : (old new : HostSpec) → OpensOnly (of_sources scripts) old new → OpensOnly (of_scripts scripts) old new
  opens_sources old new only = opens_more (of_sources scripts) (of_scripts scripts) old new (record {
    sources = λ other has. has;
    sinks = λ other has. none_in other has;
    directories = λ other has. has;
  }) only

  pub opens_both : (old mid new : HostSpec) → OpensOnly (of_sources scripts) old mid → OpensOnly (of_sinks scripts) mid new
      → OpensOnly (of_scripts scripts) old new
  opens_both old mid new first then =
      opens_then (of_scripts scripts) old mid new (opens_sources old mid first)
      (opens_more (of_sinks scripts) (of_scripts scripts) mid new (record {
        sources = λ other has. none_in other has;
        sinks = λ other has. has;
        directories = λ other has. has;
      }) then)

  pub source_stuck : (old new : HostSpec) (why : Unopened) → HostRefusesOne of_sources scripts old new why → IsUnopened scripts old new why
  source_stuck old new (CannotOpen why) not =
      record { place = not.place; named = not.named; behind = inl not.behind; host = not.host }
  source_stuck old new Memory not = tt

  pub sink_stuck : (old mid new : HostSpec) (why : Unopened) → mid.faults ≡ old.faults → OpensOnly (of_sources scripts) old mid
      → HostRefusesOne of_sinks scripts mid new why → IsUnopened scripts old new why
  sink_stuck old mid new (CannotOpen why) same first not =
      let upto : Ports = record (of_scripts scripts) { sinks = take (suc not.place) (map sink_of scripts) } in
      let its : Ports = record (of_sinks (take (suc not.place) scripts)) { sinks = take (suc not.place) (map sink_of scripts) } in
      let ours : OpensOnly its mid new = subst (λ (sinks : List (List ℕ)). OpensOnly (record (of_sinks (take (suc not.place) scripts)) {
        sinks =
            sinks;
      }) mid new) (sym (take-map sink_of (suc not.place) scripts)) not.behind in
      record {
        place = not.place;
        named = not.named;
        behind = inr (opens_then upto old mid new
            (opens_more (of_sources scripts) upto old mid (record {
              sources = λ other has. has;
              sinks = λ other has. none_in other has;
              directories = λ other has. has;
            }) first)
            (opens_more its upto mid new (record {
              sources = λ other has. none_in other has;
              sinks = λ other has. has;
              directories = λ other has. has;
            }) ours));
        host = subst (λ (n : ℕ). Rose n new.faults) same not.host;
      }
  sink_stuck old mid new Memory same first not = tt

-- ---- behind a directory

-- the directory alone, of some ports
pub with_directory : (ports : Ports) (dir : List ℕ) → ports.directories ≡ dir ∷ []
    → HaveAll (record { sources = []; sinks = []; directories = dir ∷ [] }) ports
with_directory ports dir is = record {
  sources = λ other has. none_in other has;
  sinks = λ other has. none_in other has;
  directories = λ other has. subst (λ (names : List (List ℕ)). Contains names other) (sym is) has;
}

-- other ports with a directory
pub beside_directory : (ports : Ports) (dir : List ℕ)
    → HaveAll (record ports { directories = [] }) (record ports { directories = dir ∷ [] })
beside_directory ports dir =
    record { sources = λ other has. has; sinks = λ other has. has; directories = λ other has. none_in other has }

module _ (ports : Ports) (dir : List ℕ) (old mid new : HostSpec)
    (first : OpensOnly (record { sources = []; sinks = []; directories = dir ∷ [] }) old mid) where
  abbrev with_dir : Ports
  with_dir = record ports { directories = dir ∷ [] }

  pub opens_behind : OpensOnly (record ports { directories = [] }) mid new → OpensOnly with_dir old new
  opens_behind then =
      opens_then with_dir old mid new
      (opens_more (record { sources = []; sinks = []; directories = dir ∷ [] }) with_dir old mid (with_directory with_dir dir refl) first)
      (opens_more (record ports { directories = [] }) with_dir mid new (beside_directory ports dir) then)

pub up_to_behind : (ports : Ports) (dir : List ℕ) (old mid new : HostSpec) (n : ℕ)
    → OpensOnly (record { sources = []; sinks = []; directories = dir ∷ [] }) old mid
    → OpensUpTo (record ports { directories = [] }) (suc n) mid new → OpensUpTo (record ports { directories = dir ∷ [] }) (suc n) old new
up_to_behind ports dir old mid new n first (inl then) =
    inl (opens_behind (record ports { sources = take (suc n) ports.sources; sinks = [] }) dir old mid new first then)
up_to_behind ports dir old mid new n first (inr then) =
    inr (opens_behind (record ports { sinks = take (suc n) ports.sinks }) dir old mid new first then)
