-- What a host tells of scripts that are opened one after another is what it told at first.
use Rattle.std.proofs.Common.{◌≡◌, ◌≢◌, ℕ, ◌+◌, Bool, true, false, List, [], ◌∷◌, ◌++◌, map, length, length-append, refl, sym}
use Rattle.std.proofs.Common.{ap, ◌∙◌, subst, arith}
use Rattle.std.proofs.lemmas.Bool.{not-true}
use Rattle.std.proofs.lemmas.List.{append-nil, append_assoc, append_cancel_right}
use Rattle.std.proofs.lemmas.Slice.Eq.{bytes_eq-Decides}
use Rattle.std.specs.Prelude.{◌-◌, ◌<◌, ◌≤◌, ◌&&◌, ◌||◌, not, bytes_eq, codes, get_or, take, drop, if◌then◌else◌, Result, Ok, Err, OnOk}
use Rattle.std.specs.Borrow.{Bor}
use lib.ListN.{length-map}
use Rattle.command_line.specs.Views.{names_in}
use Rattle.fb_run.proofs.Lists.{each_len, names_cut}
use Rattle.std.specs.List.{list_any, AllByRecursion}
use Rattle.fb_ports.specs.HostSpec.{HostSpec}
use Rattle.fb_ports.specs.HostCalls.{Same, SameBut}
use Rattle.command_line.specs.Words.{standard, sink_of, is_out_of, clash, are_apart}
use Rattle.fb_run.specs.declared.outcome.SessionOut.{SessionOut}
use Rattle.fb_run.specs.Outside.{StreamSpec, IsSourceOf, IsSinkOf, EachOf}
use Rattle.fb_run.specs.Opening.{AddsSource, OpensSources, AddsSession, AddsSessions, IsOpenedFor, HasOpened}

-- ---- names that are apart

both : (a b : Bool) → (a && b) ≡ true → (a ≡ true) × (b ≡ true)
both true b e = (refl, e)
both false b e = absurd (cc)

neither : (a b : Bool) → (a || b) ≡ false → (a ≡ false) × (b ≡ false)
neither true b e = absurd (cc)
neither false b e = (refl, e)

differs : (a b : List ℕ) → bytes_eq a b ≡ false → a ≢ b
differs a b other same = let yes : bytes_eq a b ≡ true = (bytes_eq-Decides a b).1 same in cc

others : (name : List ℕ) (names : List (List ℕ)) → list_any (clash name) names ≡ false → AllByRecursion (λ other. other ≢ name) names
others name [] e = tt
others name (x ∷ xs) e =
    let parts = neither (clash name x) (list_any (clash name) xs) e in (
      (λ same. differs name x (neither (bytes_eq name x) (is_out_of name x || is_out_of x name) parts.0).0 (sym same)),
      others name xs
          parts.1,
    )

-- the first of names that are apart differs from the others, which are apart too
pub first_apart : (name : List ℕ) (names : List (List ℕ)) → are_apart (name ∷ names) ≡ true
    → AllByRecursion (λ other. other ≢ name) names × (are_apart names ≡ true)
first_apart name names apart =
    let parts = both (not (list_any (clash name) names)) (are_apart names) apart in (
      others name names (not-true (list_any (clash name)
          names) parts.0),
      parts.1,
    )

sinks_apart : (a b : List ℕ) (t u : Bool) → bytes_eq a standard ≡ t → bytes_eq b standard ≡ u
    → (if t then standard else a ++ codes ".out") ≡ (if u then standard else b ++ codes ".out") → a ≡ b
sinks_apart a b true true is_a is_b e = (bytes_eq-Decides a standard).0 is_a ∙ sym ((bytes_eq-Decides b standard).0 is_b)
sinks_apart a b true false is_a is_b e =
    let n : 1 ≡ length (b ++ codes ".out") = ap length e in let four : length (codes ".out") ≡ 4 = refl in absurd (omega (
      arith,
      n,
      four,
      length-append b (codes ".out"),
    ))
sinks_apart a b false true is_a is_b e =
    let n : length (a ++ codes ".out") ≡ 1 = ap length e in let four : length (codes ".out") ≡ 4 = refl in absurd (omega (
      arith,
      n,
      four,
      length-append a (codes ".out"),
    ))
sinks_apart a b false false is_a is_b e = append_cancel_right a b (codes ".out") e

sinks_differ : (a b : List ℕ) → a ≢ b → sink_of a ≢ sink_of b
sinks_differ a b ne e = ne (sinks_apart a b (bytes_eq a standard) (bytes_eq b standard) refl refl e)

-- ---- sources

module _ {I O : Type 0} (io : StreamSpec I O) where
  pub no_sources : (had : List I) (spec : HostSpec) → OpensSources io [] had had spec spec
  no_sources had spec = record {
    opened = [];
    each = tt;
    added = sym (append-nil had);
    faults = refl;
    sinks = λ n. refl;
    sink_faults = λ n.
        refl;
  }

  each_source : (name : List ℕ) (old mid : HostSpec) → SameBut name old.sources mid.sources
      → SameBut name old.source_faults mid.source_faults
      → (n m : ℕ) (names : List (List ℕ)) (opened : List I) → AllByRecursion (λ other. other ≢ name) names
      → EachOf (λ k x s. IsSourceOf mid io x s) n names opened → EachOf (λ k x s. IsSourceOf old io x s) m names opened
  each_source name old mid bytes counts n m [] [] differ each = tt
  each_source name old mid bytes counts n m [] (s ∷ ss) differ each = absurd each
  each_source name old mid bytes counts n m (x ∷ xs) [] differ each = absurd each
  each_source name old mid bytes counts n m (x ∷ xs) (s ∷ ss) differ each = (
    record { left = each.0.left ∙ bytes x differ.0; faults = each.0.faults ∙ counts x differ.0 },
    each_source name old mid bytes counts (n + 1) (m + 1) xs ss differ.1 each.1,
  )

  pub more_sources : (name : List ℕ) (names : List (List ℕ)) (had mid has : List I) (old spec new : HostSpec)
      → are_apart (name ∷ names) ≡ true
      → AddsSource io name had mid old spec → OpensSources io names mid has spec new → OpensSources io (name ∷ names) had has old
      new
  more_sources name names had mid has old spec new apart first rest = record {
    opened = first.source ∷ rest.opened;
    each = (
      first.is,
      each_source name old spec first.sources first.source_faults 0 1 names rest.opened (first_apart name names apart).0
          rest.each,
    );
    added = rest.added ∙ (ap (λ l. l ++ rest.opened) first.added ∙ append_assoc had (first.source ∷ []) rest.opened);
    faults = rest.faults ∙ first.faults;
    sinks = λ n. rest.sinks n ∙ first.sinks n;
    sink_faults = λ n. rest.sink_faults n ∙ first.sink_faults n;
  }

  -- ---- sinks

  pub no_sessions : (sources : List I) (had : List (SessionOut I O)) (spec : HostSpec) → [] ≡ sources → AddsSessions io [] sources had had
      spec spec
  no_sessions sources had spec none = record { opened = []; each = tt; sources_are = none; added = sym (append-nil had); faults = refl }

  each_sink : (name : List ℕ) (old mid : HostSpec) → SameBut (sink_of name) old.sinks mid.sinks → SameBut (sink_of name) old.sink_faults
      mid.sink_faults
      → (n m : ℕ) (names : List (List ℕ)) (opened : List (SessionOut I O)) → AllByRecursion (λ other. other ≢ name) names
      → EachOf (λ k x (s : SessionOut I O). IsSinkOf mid io x s.sink) n names opened → EachOf (λ k x (s : SessionOut I O). IsSinkOf old
      io x s.sink) m names opened
  each_sink name old mid bytes counts n m [] [] differ each = tt
  each_sink name old mid bytes counts n m [] (s ∷ ss) differ each = absurd each
  each_sink name old mid bytes counts n m (x ∷ xs) [] differ each = absurd each
  each_sink name old mid bytes counts n m (x ∷ xs) (s ∷ ss) differ each =
      let apart = sinks_differ x name differ.0 in (
        record { contents = each.0.contents ∙ bytes (sink_of x) apart; faults = each.0.faults ∙ counts (sink_of x) apart },
        each_sink name old mid bytes counts (n + 1) (m + 1) xs ss differ.1 each.1,
      )

  pub more_sessions : (name : List ℕ) (names : List (List ℕ)) (sources behind : List I) (had mid has : List (SessionOut I O)) (old spec new
      : HostSpec)
      → are_apart (name ∷ names) ≡ true → AddsSession io name sources behind had mid old spec → AddsSessions io names behind mid has
      spec new
      → AddsSessions io (name ∷ names) sources had has old new
  more_sessions name names sources behind had mid has old spec new apart first rest = record {
    opened = first.session ∷ rest.opened;
    each = (
      first.opens.is,
      each_sink name old spec first.opens.sinks first.opens.sink_faults 0 1 names rest.opened (first_apart name names
          apart).0 rest.each,
    );
    sources_are = ap (λ l. first.session.source ∷ l) rest.sources_are ∙ sym first.source;
    added = rest.added ∙ (ap (λ l. l ++ rest.opened) first.added ∙ append_assoc had (first.session ∷ []) rest.opened);
    faults = rest.faults ∙ first.opens.faults;
  }

  -- ---- both

  each_both : (old mid : HostSpec) → Same old.sinks mid.sinks → Same old.sink_faults mid.sink_faults
      → (n : ℕ) (names : List (List ℕ)) (opened
      : List (SessionOut I O))
      → EachOf (λ k x s. IsSourceOf old io x s) n names (map (λ (s : SessionOut I O). s.source) opened)
      → EachOf (λ k x (s : SessionOut I O). IsSinkOf mid io x s.sink) n names opened
      → EachOf (λ k x (s : SessionOut I O). IsOpenedFor old io x s) n names opened
  each_both old mid bytes counts n [] [] sources sinks = tt
  each_both old mid bytes counts n [] (s ∷ ss) sources sinks = absurd sinks
  each_both old mid bytes counts n (x ∷ xs) [] sources sinks = absurd sinks
  each_both old mid bytes counts n (x ∷ xs) (s ∷ ss) sources sinks = (
    record {
      source = sources.0;
      sink = record { contents = sinks.0.contents ∙ bytes (sink_of x); faults = sinks.0.faults ∙ counts (sink_of x) };
    },
    each_both old mid bytes counts (n + 1) xs ss sources.1 sinks.1,
  )

  -- the sources were put into a list without others, and so were the sessions
  pub opened_all : (names : List (List ℕ)) (sources : List I) (sessions : List (SessionOut I O)) (old mid new : HostSpec)
      → OpensSources io names [] sources old mid → AddsSessions io names sources [] sessions mid new → HasOpened io names old new
      sessions
  opened_all names sources sessions old mid new first second =
      let P : List I → Type 0 = λ xs. EachOf (λ k x s. IsSourceOf old io x s) 0 names xs in
      let ours = subst P (sym first.added ∙ sym second.sources_are) first.each in
      let Q : List (SessionOut I O) → Type 0 = λ ss. EachOf (λ k x (s : SessionOut I O). IsOpenedFor old io x s) 0 names ss in
      record {
        each = subst Q (sym second.added) (each_both old mid first.sinks first.sink_faults 0 names second.opened ours second.each);
        faults = second.faults ∙ first.faults;
      }

omega_eq : (a b c : ℕ) → b ≡ a → b ≡ c → a ≡ c
omega_eq a b c e f = sym e ∙ f

-- ---- in the words of the functions that open them one after another

module _ {I O : Type 0} (io : StreamSpec I O) where
  pub sources_none : (scripts : List (Bor (List ℕ))) (had : List I) (spec : HostSpec) → length scripts < 1 → OpensSources io (names_in
      scripts) had had spec spec
  sources_none [] had spec none = no_sources io had spec
  sources_none (x ∷ xs) had spec none = absurd (omega (arith, none))

  pub sources_step : {E : Type 0} (r : Result (Unit {0}) E) (scripts : List (Bor (List ℕ))) (d : Bor (List ℕ)) (had mid has : List I) (old
      spec new : HostSpec)
      → 1 ≤ length scripts → are_apart (names_in scripts) ≡ true → AddsSource io (get_or scripts 0 d).now had mid old spec
      → OnOk r (OpensSources io (names_in (take (length scripts - 1) (drop 1 scripts))) mid has spec new) → OnOk r (OpensSources io
      (names_in scripts) had has old new)
  sources_step (Err e) scripts d had mid has old spec new some apart first rest = tt
  sources_step (Ok x) scripts d had mid has old spec new some apart first rest =
      let cut = names_cut scripts d some in
      subst (λ (names : List (List ℕ)). OpensSources io names had has old new) (sym cut)
      (more_sources io (get_or scripts 0 d).now (names_in (take (length scripts - 1) (drop 1 scripts))) had mid has old spec new
      (subst (λ (names : List (List ℕ)). are_apart names ≡ true) cut apart) first rest)

  pub sessions_step : {E : Type 0} (r : Result (Unit {0}) E) (scripts : List (Bor (List ℕ))) (d : Bor (List ℕ)) (sources behind : List I)
      (had mid has : List (SessionOut I O))
      (old spec new : HostSpec) → 1 ≤ length scripts → are_apart (names_in scripts) ≡ true → AddsSession io (get_or scripts 0 d).now sources
      behind had mid old spec
      → OnOk r (AddsSessions io (names_in (take (length scripts - 1) (drop 1 scripts))) behind mid has spec new)
      → OnOk r (AddsSessions io (names_in scripts) sources had has old new)
  sessions_step (Err e) scripts d sources behind had mid has old spec new some apart first rest = tt
  sessions_step (Ok x) scripts d sources behind had mid has old spec new some apart first rest =
      let cut = names_cut scripts d some in
      subst (λ (names : List (List ℕ)). AddsSessions io names sources had has old new) (sym cut)
      (more_sessions io (get_or scripts 0 d).now (names_in (take (length scripts - 1) (drop 1 scripts))) sources behind had mid has old
      spec new
      (subst (λ (names : List (List ℕ)). are_apart names ≡ true) cut apart) first rest)

  pub count_sources : (scripts : List (Bor (List ℕ))) (had has : List I) (old new : HostSpec) → OpensSources io (names_in scripts) had has
      old new → had ≡ [] → length has ≡ length scripts
  count_sources scripts had has old new opens none =
      let wide = each_len (λ n name source. IsSourceOf old io name source) 0 (names_in scripts) opens.opened opens.each in
      let whole : has ≡ opens.opened = opens.added ∙ ap (λ (l : List I). l ++ opens.opened) none in
      ap (length {A = I}) whole ∙ omega_eq (length opens.opened) (length (names_in scripts)) (length scripts) wide (length-map scripts (λ
      s. s.now))

  pub opened_by : (names : List (List ℕ)) (had has items : List I) (fresh sessions : List (SessionOut I O)) (old mid new : HostSpec)
      → had ≡ []
      → fresh ≡ [] → items ≡ has
      → OpensSources io names had has old mid → AddsSessions io names items fresh sessions mid new → HasOpened io names old new
      sessions
  opened_by names had has items fresh sessions old mid new no_had no_fresh same first second =
      opened_all io names has sessions old mid new (subst (λ (l : List I). OpensSources io names l has old mid) no_had first)
      (subst (λ (l : List (SessionOut I O)). AddsSessions io names has l sessions mid new) no_fresh
      (subst (λ (l : List I). AddsSessions io names l fresh sessions mid new) same second))
