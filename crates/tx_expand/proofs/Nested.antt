-- What a map inside another asks: its entry, and then its pairs. What a pair asks.
use Rattle.std.proofs.Common.{◌≡◌, ℕ, Bool, true, false, [], ◌∷◌, ◌++◌, List, refl, ap, sym, ◌∙◌}
use Rattle.std.proofs.lemmas.Bool.{false≢true}
use Rattle.edn_model.specs.Form as edn
use Rattle.edn_model.specs.Form.{Form, Pairs}
use Rattle.fb_values.specs.declared.facts.Datom.{Datom}
use Rattle.tx_model.specs.Asks.{Name, plain, entity, Ask, adds, mentions, Key, own, forward, backward}
use Rattle.tx_model.specs.Walk.{has_ref, links, scalar_asks}
use Rattle.tx_expand.specs.Numbered.{Visited, visited, takes_maps, walk_nested, entry_asks, walk_pair, walk_map, walk_value, walk_member}
use Rattle.tx_expand.specs.Numbered.{name_at, behind}

-- ---- maps

entered : (facts : List Datom) (self : Name) (key : Key) (n : ℕ) (ps : Pairs) (inner : Visited) → takes_maps facts key ≡ true
    → visited (entry_asks facts self key n ps ++ inner.asks) inner.next ≡ walk_nested facts self key n ps inner
entered facts self own n ps inner takes = absurd (false≢true takes)
entered facts self (forward k) n ps inner takes = rw takes refl
entered facts self (backward k) n ps inner takes = refl

-- the map's own pairs, where it goes by this name and the next map by this number
pub entered_as : (facts : List Datom) (self : Name) (key : Key) (n : ℕ) (ps : Pairs) (name : Name) (m : ℕ) → takes_maps facts key ≡ true
    → name ≡ name_at n ps → m ≡ behind (name_at n ps) n
    → visited (entry_asks facts self key n ps ++ (walk_map facts name m ps).asks) (walk_map facts name m ps).next
    ≡ walk_value facts self key n (edn.map ps)
entered_as facts self key n ps name m takes called counted =
    ap (λ s. visited (entry_asks facts self key n ps ++ (walk_map facts s m ps).asks) (walk_map facts s m ps).next) called
    ∙ ap
    (λ k. visited (entry_asks facts self key n ps ++ (walk_map facts (name_at n ps) k ps).asks) (walk_map facts (name_at n ps) k ps).next)
    counted
    ∙ entered facts self key n ps (walk_map facts (name_at n ps) (behind (name_at n ps) n) ps) takes

not_entered : (facts : List Datom) (self : Name) (key : Key) (n : ℕ) (ps : Pairs) (inner : Visited) → takes_maps facts key ≡ false
    → visited (links self key (plain (edn.map ps))) n ≡ walk_nested facts self key n ps inner
not_entered facts self own n ps inner takes = refl
not_entered facts self (forward k) n ps inner takes = rw takes refl
not_entered facts self (backward k) n ps inner takes = absurd (false≢true (sym takes))

-- a map that is no value

pub plain_map : (facts : List Datom) (self : Name) (key : Key) (n : ℕ) (ps : Pairs) (f : Form) → f ≡ edn.map ps
    → takes_maps facts key ≡ false
    → visited (links self key (plain f)) n ≡ walk_value facts self key n f
plain_map facts self key n ps f is takes =
    ap (λ g. visited (links self key (plain g)) n) is
    ∙ not_entered facts self key n ps (walk_map facts (name_at n ps) (behind (name_at n ps) n) ps) takes
    ∙ ap (walk_value facts self key n) (sym is)

pub plain_member : (facts : List Datom) (self : Name) (key : Key) (n : ℕ) (ps : Pairs) (f : Form) → f ≡ edn.map ps
    → takes_maps facts key ≡ false
    → visited (links self key (plain f)) n ≡ walk_member facts self key n f
plain_member facts self key n ps f is takes =
    ap (λ g. visited (links self key (plain g)) n) is
    ∙ not_entered facts self key n ps (walk_map facts (name_at n ps) (behind (name_at n ps) n) ps) takes
    ∙ ap (walk_member facts self key n) (sym is)

-- what is none

abbrev pub is_scalar_value : Form → Bool
is_scalar_value (edn.list fs) = false
is_scalar_value (edn.vector fs) = false
is_scalar_value (edn.map ps) = false
is_scalar_value (edn.set fs) = false
is_scalar_value f = true

pub scalar_value : (facts : List Datom) (self : Name) (key : Key) (n : ℕ) (f : Form) → is_scalar_value f ≡ true
    → visited (scalar_asks facts self key f) n ≡ walk_value facts self key n f
scalar_value facts self key n edn.nil is = refl
scalar_value facts self key n (edn.boolean b) is = refl
scalar_value facts self key n (edn.integer z) is = refl
scalar_value facts self key n (edn.string s) is = refl
scalar_value facts self key n (edn.symbol s) is = refl
scalar_value facts self key n (edn.keyword k) is = refl
scalar_value facts self key n (edn.list fs) is = absurd (false≢true is)
scalar_value facts self key n (edn.vector fs) is = absurd (false≢true is)
scalar_value facts self key n (edn.map ps) is = absurd (false≢true is)
scalar_value facts self key n (edn.set fs) is = absurd (false≢true is)
scalar_value facts self key n (edn.instant z) is = refl
scalar_value facts self key n (edn.uuid u) is = refl

abbrev pub is_scalar_member : Form → Bool
is_scalar_member (edn.vector fs) = false
is_scalar_member (edn.map ps) = false
is_scalar_member f = true

pub scalar_member : (facts : List Datom) (self : Name) (key : Key) (n : ℕ) (f : Form) → is_scalar_member f ≡ true
    → visited (scalar_asks facts self key f) n ≡ walk_member facts self key n f
scalar_member facts self key n edn.nil is = refl
scalar_member facts self key n (edn.boolean b) is = refl
scalar_member facts self key n (edn.integer z) is = refl
scalar_member facts self key n (edn.string s) is = refl
scalar_member facts self key n (edn.symbol s) is = refl
scalar_member facts self key n (edn.keyword k) is = refl
scalar_member facts self key n (edn.list fs) is = refl
scalar_member facts self key n (edn.vector fs) is = absurd (false≢true is)
scalar_member facts self key n (edn.map ps) is = absurd (false≢true is)
scalar_member facts self key n (edn.set fs) is = refl
scalar_member facts self key n (edn.instant z) is = refl
scalar_member facts self key n (edn.uuid u) is = refl

-- ---- pairs

pub pair_forward : (facts : List Datom) (self : Name) (key : Key) (k : List ℕ) (n : ℕ) (values : Visited) → key ≡ forward k
    → visited (mentions k ∷ values.asks) values.next ≡ walk_pair facts self key n values
pair_forward facts self key k n values is = ap (λ other. walk_pair facts self other n values) (sym is)

pub pair_backward : (facts : List Datom) (self : Name) (key : Key) (k : List ℕ) (n : ℕ) (values : Visited) → key ≡ backward k
    → has_ref facts k ≡ true
    → visited (mentions k ∷ values.asks) values.next ≡ walk_pair facts self key n values
pair_backward facts self key k n values is refers = here ∙ ap (λ other. walk_pair facts self other n values) (sym is)
  where
    here : visited (mentions k ∷ values.asks) values.next ≡ walk_pair facts self (backward k) n values
    here = rw refers refl

pub pair_wrong : (facts : List Datom) (self : Name) (key : Key) (k : List ℕ) (n : ℕ) (values : Visited) → key ≡ backward k
    → has_ref facts k ≡ false
    → visited (mentions k ∷ adds self k (entity self) ∷ []) n ≡ walk_pair facts self key n values
pair_wrong facts self key k n values is other = here ∙ ap (λ key. walk_pair facts self key n values) (sym is)
  where
    here : visited (mentions k ∷ adds self k (entity self) ∷ []) n ≡ walk_pair facts self (backward k) n values
    here = rw other refl
