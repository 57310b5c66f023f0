-- The walk by numbers is the walk by places, where a list of places gives each number its place.
use Rattle.std.proofs.Common.{◌≡◌, ℕ, ◌+◌, Bool, true, false, List, [], ◌∷◌, ◌++◌, ◌⊎◌, inl, inr, ◌≤◌, ◌≢◌, not, ◌&&◌, length, drop, map}
use Rattle.std.proofs.Common.{cond, refl, ap, sym, ◌∙◌, subst, arith, append_assoc, length-append}
use Rattle.std.specs.Prelude.{slice_index_or, unwrap_or, Option, Some, None, ⊤}
use Rattle.std.proofs.lemmas.Bool.{false≢true}
use Rattle.edn_model.specs.Form as edn
use Rattle.edn_model.specs.Form.{Form, Forms, no_forms, form, Pairs, no_pairs, pair}
use Rattle.fb_values.specs.declared.facts.Datom.{Datom}
use Rattle.tx_model.specs.Asks.{Name, number, ident, lookup, tempid, nameless, plain, entity, Ask, adds, lookup_in, name_in, name_of_pair}
use Rattle.tx_model.specs.Asks.{Key, own, forward, backward, key_in}
use Rattle.tx_model.specs.Walk.{has_ref, has_many, has_uniqueness, name_of_map, named_by, links, nested_asks, scalar_asks, vector_asks}
use Rattle.tx_model.specs.Walk.{sequence_asks, pair_asks, map_asks, value_asks, members_asks, member_asks}
use Rattle.tx_expand.specs.Numbered.{Visited, visited, then_walk, name_at, behind, takes_maps, is_collection, takes_values, walk_nested}
use Rattle.tx_expand.specs.Numbered.{walk_vector, walk_list, walk_pair, walk_map, walk_value, walk_members, walk_member}
use Rattle.tx_expand.specs.Placed.{placed, ask_placed}
use Rattle.tx_expand.proofs.Renaming.{map_append, links_placed, scalar_asks_placed, nested_asks_placed, vector_asks_placed}
use Rattle.tx_expand.proofs.Renaming.{sequence_asks_placed, pair_asks_placed}

-- the numbers from n on have these places
abbrev pub Has : List (List ℕ) → ℕ → List (List ℕ) → Type 0
Has all n [] = ⊤
Has all n (p ∷ ps) = (slice_index_or all n [] ≡ p) × Has all (n + 1) ps

pub has_at : (all : List (List ℕ)) (n m : ℕ) (ps : List (List ℕ)) → n ≡ m → Has all n ps → Has all m ps
has_at all n m ps same has = subst (λ k. Has all k ps) same has

pub has_first : (all : List (List ℕ)) (n : ℕ) (ps qs : List (List ℕ)) → Has all n (ps ++ qs) → Has all n ps
has_first all n [] qs has = tt
has_first all n (p ∷ ps) qs has = (has.0, has_first all (n + 1) ps qs has.1)

pub has_second : (all : List (List ℕ)) (n : ℕ) (ps qs : List (List ℕ)) → Has all n (ps ++ qs) → Has all (n + length ps) qs
has_second all n [] qs has = has_at all n (n + 0) qs (omega arith) has
has_second all n (p ∷ ps) qs has =
    has_at all (n + 1 + length ps) (n + length (p ∷ ps)) qs (omega arith) (has_second all (n + 1) ps qs has.1)

-- ---- places that differ

abbrev pub In : (List ℕ → Type 0) → List (List ℕ) → Type 0
In U [] = ⊤
In U (p ∷ ps) = U p × In U ps

abbrev pub IsNot : List ℕ → List (List ℕ) → Type 0
IsNot p [] = ⊤
IsNot p (q ∷ qs) = (p ≢ q) × IsNot p qs

abbrev pub NoneTwice : List (List ℕ) → Type 0
NoneTwice [] = ⊤
NoneTwice (p ∷ ps) = IsNot p ps × NoneTwice ps

-- the place is inside another, or is it
abbrev pub IsUnder : List ℕ → List ℕ → Type 0
IsUnder path q = (x : List ℕ) × (q ≡ x ++ path)

-- the place is in one of the parts from the k-th on
abbrev pub IsFrom : List ℕ → ℕ → List ℕ → Type 0
IsFrom path k q = (x : List ℕ) × ((j : ℕ) × ((k ≤ j) × (q ≡ x ++ (j ∷ path))))

pub in_map : (U V : List ℕ → Type 0) → ((p : List ℕ) → U p → V p) → (ps : List (List ℕ)) → In U ps → In V ps
in_map U V to [] all = tt
in_map U V to (p ∷ ps) all = (to p all.0, in_map U V to ps all.1)

pub in_append : (U : List ℕ → Type 0) (ps qs : List (List ℕ)) → In U ps → In U qs → In U (ps ++ qs)
in_append U [] qs a b = b
in_append U (p ∷ ps) qs a b = (a.0, in_append U ps qs a.1 b)

not_append : (p : List ℕ) (ps qs : List (List ℕ)) → IsNot p ps → IsNot p qs → IsNot p (ps ++ qs)
not_append p [] qs a b = b
not_append p (x ∷ ps) qs a b = (a.0, not_append p ps qs a.1 b)

not_in : (V : List ℕ → Type 0) (p : List ℕ) → ((q : List ℕ) → V q → p ≢ q) → (qs : List (List ℕ)) → In V qs → IsNot p qs
not_in V p other [] all = tt
not_in V p other (q ∷ qs) all = (other q all.0, not_in V p other qs all.1)

pub none_twice_append : (U V : List ℕ → Type 0) → ((p q : List ℕ) → U p → V q → p ≢ q) → (ps qs : List (List ℕ))
    → In U ps → In V qs → NoneTwice ps → NoneTwice qs → NoneTwice (ps ++ qs)
none_twice_append U V other [] qs a b c d = d
none_twice_append U V other (p ∷ ps) qs a b c d =
    (not_append p ps qs c.0 (not_in V p (λ q v. other p q a.0 v) qs b), none_twice_append U V other ps qs a.1 b c.1 d)

-- the first number of a list
abbrev first_of : List ℕ → ℕ
first_of [] = 0
first_of (n ∷ rest) = n

-- ends of one list that are as long as each other are one
same_end : (x y a b : List ℕ) → x ++ a ≡ y ++ b → length a ≡ length b → a ≡ b
same_end [] [] a b same len = same
same_end [] (m ∷ y) a b same len = absurd (omega (arith, ap length same, length-append (m ∷ y) b))
same_end (n ∷ x) [] a b same len = absurd (omega (arith, ap length same, length-append (n ∷ x) a))
same_end (n ∷ x) (m ∷ y) a b same len = same_end x y a b (ap (drop 1) same) len

first_same : (n m : ℕ) (a b : List ℕ) → n ∷ a ≡ m ∷ b → n ≡ m
first_same n m a b same = ap first_of same

pub parts_differ : (path : List ℕ) (k : ℕ) (p q : List ℕ) → IsUnder (k ∷ path) p → IsFrom path (k + 1) q → p ≢ q
parts_differ path k p q a b = λ same.
    let ends : a.0 ++ (k ∷ path) ≡ b.0 ++ (b.1.0 ∷ path) = sym a.1 ∙ same ∙ b.1.1.1 in
    let is : k ≡ b.1.0 = first_same k b.1.0 path path (same_end a.0 b.0 (k ∷ path) (b.1.0 ∷ path) ends refl) in
    omega (arith, is, b.1.1.0)

whole_differs : (path : List ℕ) (p q : List ℕ) → p ≡ path → IsFrom path 0 q → p ≢ q
whole_differs path p q a b = λ same.
    let ends : path ≡ b.0 ++ (b.1.0 ∷ path) = sym a ∙ same ∙ b.1.1.1 in
    omega (arith, ap length ends, length-append b.0 (b.1.0 ∷ path))

pub under_is_from : (path : List ℕ) (k : ℕ) (p : List ℕ) → IsUnder (k ∷ path) p → IsFrom path k p
under_is_from path k p a = (a.0, (k, (omega arith, a.1)))

pub later_is_from : (path : List ℕ) (k : ℕ) (p : List ℕ) → IsFrom path (k + 1) p → IsFrom path k p
later_is_from path k p a = (a.0, (a.1.0, (omega (arith, a.1.1.0), a.1.1.1)))

from_is_under : (path : List ℕ) (k : ℕ) (p : List ℕ) → IsFrom path k p → IsUnder path p
from_is_under path k p a = (a.0 ++ (a.1.0 ∷ []), a.1.1.1 ∙ sym (append_assoc a.0 (a.1.0 ∷ []) path))

-- ---- what a part of the walk tells by numbers and asks by places, all of which U holds of

pub record Numbering (U : List ℕ → Type 0) (self_n self : Name) (n : ℕ) (t : Visited) (asks : List Ask) : Type 0 where
  pub places : List (List ℕ)
  pub next : t.next ≡ n + length places
  pub same : (all : List (List ℕ)) → Has all n places → placed all self_n ≡ self → map (ask_placed all) t.asks ≡ asks
  pub within : In U places
  pub apart : NoneTwice places

-- no map without a name
pub none : (U : List ℕ → Type 0) (self_n self : Name) (n : ℕ) (asks_n asks : List Ask)
    → ((all : List (List ℕ)) → placed all self_n ≡ self → map (ask_placed all) asks_n ≡ asks)
    → Numbering U self_n self n (visited asks_n n) asks
none U self_n self n asks_n asks are =
    record { places = []; next = omega arith; same = λ all has is. are all is; within = tt; apart = tt }

at_next : (U : List ℕ → Type 0) (self_n self : Name) (n m : ℕ) (f : ℕ → Visited) (asks : List Ask) → m ≡ n
    → Numbering U self_n self n (f n) asks → Numbering U self_n self m (f m) asks
at_next U self_n self n m f asks is it = subst (λ k. Numbering U self_n self k (f k) asks) (sym is) it

wider : (U V : List ℕ → Type 0) → ((p : List ℕ) → U p → V p) → (self_n self : Name) (n : ℕ) (t : Visited) (asks : List Ask)
    → Numbering U self_n self n t asks → Numbering V self_n self n t asks
wider U V to self_n self n t asks it =
    record { places = it.places; next = it.next; same = it.same; within = in_map U V to it.places it.within; apart = it.apart }

-- with other asks round those of the part
wrapped : (U : List ℕ → Type 0) (self_n self : Name) (n : ℕ) (t : Visited) (asks : List Ask) (round_n round : List Ask → List Ask)
    → ((all : List (List ℕ)) → placed all self_n ≡ self → map (ask_placed all) (round_n t.asks) ≡ round (map (ask_placed all) t.asks))
    → Numbering U self_n self n t asks → Numbering U self_n self n (visited (round_n t.asks) t.next) (round asks)
wrapped U self_n self n t asks round_n round through it =
    record {
      places = it.places;
      next = it.next;
      same = λ all has is. through all is ∙ ap round (it.same all has is);
      within = it.within;
      apart = it.apart;
    }

either_way : (U : List ℕ → Type 0) (self_n self : Name) (n : ℕ) (b : Bool) (x y : Visited) (asks : List Ask)
    → (b ≡ true → Numbering U self_n self n x asks) → (b ≡ false → Numbering U self_n self n y asks)
    → Numbering U self_n self n (cond b x y) asks
either_way U self_n self n true x y asks always never = always refl
either_way U self_n self n false x y asks always never = never refl

-- one part, and those behind it
both : (U V W : List ℕ → Type 0) → ((p : List ℕ) → U p → W p) → ((p : List ℕ) → V p → W p) → ((p q : List ℕ) → U p → V q → p ≢ q)
    → (self_n self : Name) (n : ℕ) (t : Visited) (rest : ℕ → Visited) (asks more : List Ask)
    → Numbering U self_n self n t asks → Numbering V self_n self t.next (rest t.next) more
    → Numbering W self_n self n (then_walk t rest) (asks ++ more)
both U V W to_first to_second other self_n self n t rest asks more one two =
    record {
      places = one.places ++ two.places;
      next = omega (arith, one.next, two.next, length-append one.places two.places);
      same = λ all has is.
          map_append all t.asks (rest t.next).asks
          ∙ ap (λ xs. xs ++ map (ask_placed all) (rest t.next).asks) (one.same all (has_first all n one.places two.places has) is)
          ∙ ap (λ xs. asks ++ xs) (two.same all
          (has_at all (n + length one.places) t.next two.places (sym one.next) (has_second all n one.places two.places has)) is);
      within = in_append W one.places two.places (in_map U W to_first one.places one.within) (in_map V W to_second two.places two.within);
      apart = none_twice_append U V other one.places two.places one.within two.within one.apart two.apart;
    }

-- ---- the entity of a map

pub record IsNamed (name : Name) : Type 0 where
  pub stays : (all : List (List ℕ)) → placed all name ≡ name
  pub takes_none : (n : ℕ) → behind name n ≡ n

abbrev pub Names : Pairs → Type 0
Names ps = ((name : Name) × (IsNamed name × ((q : List ℕ) → name_of_map q ps ≡ name))) ⊎ ((q : List ℕ) → name_of_map q ps ≡ nameless q)

found_named : (found : Option (List ℕ × Form))
    → ((other : Name) → unwrap_or (name_of_pair found) other ≡ other)
    ⊎ ((name : Name) × (IsNamed name × ((other : Name) → unwrap_or (name_of_pair found) other ≡ name)))
found_named None = inl (λ other. refl)
found_named (Some p) = inr (lookup p.0 p.1, (record { stays = λ all. refl; takes_none = λ n. refl }, λ other. refl))

form_named : (f : Form)
    → ((other : Name) → unwrap_or (name_in f) other ≡ other)
    ⊎ ((name : Name) × (IsNamed name × ((other : Name) → unwrap_or (name_in f) other ≡ name)))
form_named (edn.integer z) = inr (number z, (record { stays = λ all. refl; takes_none = λ n. refl }, λ other. refl))
form_named (edn.keyword k) = inr (ident k, (record { stays = λ all. refl; takes_none = λ n. refl }, λ other. refl))
form_named (edn.string s) = inr (tempid s, (record { stays = λ all. refl; takes_none = λ n. refl }, λ other. refl))
form_named (edn.vector fs) = found_named (lookup_in fs)
form_named f = inl (λ other. refl)

key_named : (key : Key) (f : Form)
    → ((other : Name) → named_by key f other ≡ other) ⊎ ((name : Name) × (IsNamed name × ((other : Name) → named_by key f other ≡ name)))
key_named own f = form_named f
key_named (forward k) f = inl (λ other. refl)
key_named (backward k) f = inl (λ other. refl)

pub map_names : (ps : Pairs) → Names ps
map_names no_pairs = inr (λ q. refl)
map_names (pair key value rest) = by_key (key_named (key_in key) value) (map_names rest)
  where
    by_key : (((other : Name) → named_by (key_in key) value other ≡ other)
        ⊎ ((name : Name) × (IsNamed name × ((other : Name) → named_by (key_in key) value other ≡ name))))
        → Names rest → Names (pair key value rest)
    by_key (inr named) behind_it = inl (named.0, (named.1.0, λ q. named.1.1 (name_of_map q rest)))
    by_key (inl other) (inl named) = inl (named.0, (named.1.0, λ q. other (name_of_map q rest) ∙ named.1.1 q))
    by_key (inl other) (inr unnamed) = inr (λ q. other (name_of_map q rest) ∙ unnamed q)

-- a map, with what is asked inside: its own place first, where it has never name
pub inside : (self_n self : Name) (path : List ℕ) (n : ℕ) (ps : Pairs) (told_inside : Name → ℕ → Visited) (asks : Name → List Ask)
    (round_n round : Name → List Ask → List Ask)
    → ((all : List (List ℕ)) (name_n : Name) (xs : List Ask) → placed all self_n ≡ self
    → map (ask_placed all) (round_n name_n xs) ≡ round (placed all name_n) (map (ask_placed all) xs))
    → ((name_n name : Name) (m : ℕ) → Numbering (IsFrom path 0) name_n name m (told_inside name_n m) (asks name))
    → Numbering (IsUnder path) self_n self n
    (visited (round_n (name_at n ps) (told_inside (name_at n ps) (behind (name_at n ps) n)).asks)
    (told_inside (name_at n ps) (behind (name_at n ps) n)).next)
    (round (name_of_map path ps) (asks (name_of_map path ps)))
inside self_n self path n ps told_inside asks round_n round through it = by_name (map_names ps)
  where
    at_name : (name_n name : Name) (m : ℕ) (own_places : List (List ℕ)) → name_at n ps ≡ name_n → name_of_map path ps ≡ name
        → behind name_n n ≡ m → m ≡ n + length own_places
        → ((all : List (List ℕ)) → Has all n own_places → placed all name_n ≡ name) → In (λ p. p ≡ path) own_places → NoneTwice own_places
        → Numbering (IsUnder path) self_n self n
        (visited (round_n (name_at n ps) (told_inside (name_at n ps) (behind (name_at n ps) n)).asks)
        (told_inside (name_at n ps) (behind (name_at n ps) n)).next)
        (round (name_of_map path ps) (asks (name_of_map path ps)))
    at_name name_n name m own_places is_n is is_m counts are whole once =
        subst (λ x. Numbering (IsUnder path) self_n self n (visited (round_n x (told_inside x (behind x n)).asks)
        (told_inside x (behind x n)).next) (round (name_of_map path ps) (asks (name_of_map path ps)))) (sym is_n)
        (subst (λ x. Numbering (IsUnder path) self_n self n (visited (round_n name_n (told_inside name_n (behind name_n n)).asks)
        (told_inside name_n (behind name_n n)).next) (round x (asks x))) (sym is)
        (subst (λ k. Numbering (IsUnder path) self_n self n
        (visited (round_n name_n (told_inside name_n k).asks) (told_inside name_n k).next) (round name (asks name))) (sym is_m)
        (let inner = it name_n name m in
        record {
          places = own_places ++ inner.places;
          next = omega (arith, inner.next, counts, length-append own_places inner.places);
          same = λ all has self_is.
              through all name_n (told_inside name_n m).asks self_is
              ∙ ap (λ x. round x (map (ask_placed all) (told_inside name_n m).asks)) (are all (has_first all n own_places inner.places has))
              ∙ ap (round name) (inner.same all (has_at all (n + length own_places) m inner.places (sym counts)
              (has_second all n own_places inner.places has)) (are all (has_first all n own_places inner.places has)));
          within =
              in_append (IsUnder path) own_places inner.places
              (in_map (λ p. p ≡ path) (IsUnder path) (λ p is_path. ([], is_path)) own_places whole)
              (in_map (IsFrom path 0) (IsUnder path) (from_is_under path 0) inner.places inner.within);
          apart =
              none_twice_append (λ p. p ≡ path) (IsFrom path 0)
              (whole_differs path) own_places inner.places whole inner.within once inner.apart;
        })))

    by_name : Names ps → Numbering (IsUnder path) self_n self n
        (visited (round_n (name_at n ps) (told_inside (name_at n ps) (behind (name_at n ps) n)).asks)
        (told_inside (name_at n ps) (behind (name_at n ps) n)).next)
        (round (name_of_map path ps) (asks (name_of_map path ps)))
    by_name (inl named) =
        at_name named.0 named.0 n [] (named.1.1 (n ∷ [])) (named.1.1 path) (named.1.0.takes_none n) (omega arith)
        (λ all has. named.1.0.stays all) tt tt
    by_name (inr unnamed) =
        at_name (nameless (n ∷ [])) (nameless path) (n + 1) (path ∷ []) (unnamed (n ∷ [])) (unnamed path) refl (omega arith)
        (λ all has. ap nameless has.0) (refl, tt) (tt, tt)

-- ---- where values are not looked into, they tell nothing

vector_alone : (facts : List Datom) (self : Name) (key : Key) (fs : Forms) (found : Option (List ℕ × Form)) (members : List Ask)
    → is_collection facts key found ≡ false → vector_asks facts self key fs found [] ≡ vector_asks facts self key fs found members
vector_alone facts self own fs found members never = refl
vector_alone facts self (forward k) fs None members never = rw never refl
vector_alone facts self (forward k) fs (Some found) members never =
    by_two (has_many facts k) (has_ref facts k && has_uniqueness facts found.0) never
  where
    by_two : (many looks : Bool) → (many && not looks) ≡ false
        → cond looks (adds self k (entity (lookup found.0 found.1)) ∷ [])
        (cond many [] (adds self k (cond (has_ref facts k) (entity (lookup found.0 found.1)) (plain (edn.vector fs))) ∷ []))
        ≡ cond looks (adds self k (entity (lookup found.0 found.1)) ∷ [])
        (cond many members (adds self k (cond (has_ref facts k) (entity (lookup found.0 found.1)) (plain (edn.vector fs))) ∷ []))
    by_two many true alone = refl
    by_two false false alone = refl
    by_two true false alone = absurd (false≢true (sym alone))
vector_alone facts self (backward k) fs None members never = absurd (false≢true (sym never))
vector_alone facts self (backward k) fs (Some found) members never = by_one (has_uniqueness facts found.0) never
  where
    by_one : (unique : Bool) → not unique ≡ false
        → cond unique (links self (backward k) (entity (lookup found.0 found.1))) []
        ≡ cond unique (links self (backward k) (entity (lookup found.0 found.1))) members
    by_one true alone = refl
    by_one false alone = absurd (false≢true (sym alone))

vector_members : (facts : List Datom) (self : Name) (key : Key) (fs : Forms) (found : Option (List ℕ × Form)) (members : List Ask)
    → is_collection facts key found ≡ true → members ≡ vector_asks facts self key fs found members
vector_members facts self own fs found members always = absurd (false≢true always)
vector_members facts self (forward k) fs None members always = rw always refl
vector_members facts self (forward k) fs (Some found) members always =
    by_two (has_many facts k) (has_ref facts k && has_uniqueness facts found.0) always
  where
    by_two : (many looks : Bool) → (many && not looks) ≡ true
        → members
        ≡ cond looks (adds self k (entity (lookup found.0 found.1)) ∷ [])
        (cond many members (adds self k (cond (has_ref facts k) (entity (lookup found.0 found.1)) (plain (edn.vector fs))) ∷ []))
    by_two true false both_are = refl
    by_two true true both_are = absurd (false≢true both_are)
    by_two false looks both_are = absurd (false≢true both_are)
vector_members facts self (backward k) fs None members always = refl
vector_members facts self (backward k) fs (Some found) members always = by_one (has_uniqueness facts found.0) always
  where
    by_one : (unique : Bool) → not unique ≡ true → members ≡ cond unique (links self (backward k) (entity (lookup found.0 found.1))) members
    by_one false it = refl
    by_one true it = absurd (false≢true it)

list_alone : (facts : List Datom) (self : Name) (key : Key) (f : Form) (members : List Ask)
    → is_collection facts key None ≡ false → sequence_asks facts self key f [] ≡ sequence_asks facts self key f members
list_alone facts self own f members never = refl
list_alone facts self (forward k) f members never = rw never refl
list_alone facts self (backward k) f members never = absurd (false≢true (sym never))

list_members : (facts : List Datom) (self : Name) (key : Key) (f : Form) (members : List Ask)
    → is_collection facts key None ≡ true → members ≡ sequence_asks facts self key f members
list_members facts self own f members always = absurd (false≢true always)
list_members facts self (forward k) f members always = rw always refl
list_members facts self (backward k) f members always = refl

nested_alone : (facts : List Datom) (self : Name) (key : Key) (name other : Name) (ps : Pairs) (inner : List Ask)
    → takes_maps facts key ≡ false → nested_asks facts self key name ps [] ≡ nested_asks facts self key other ps inner
nested_alone facts self own name other ps inner never = refl
nested_alone facts self (forward k) name other ps inner never = rw never refl
nested_alone facts self (backward k) name other ps inner never = absurd (false≢true (sym never))

pair_alone : (facts : List Datom) (self : Name) (key : Key) (values : List Ask)
    → takes_values facts key ≡ false → pair_asks facts self key [] ≡ pair_asks facts self key values
pair_alone facts self own values never = refl
pair_alone facts self (forward k) values never = absurd (false≢true (sym never))
pair_alone facts self (backward k) values never = rw never refl

-- ---- one value

scalar_numbered : (facts : List Datom) (self_n self : Name) (key : Key) (path : List ℕ) (f : Form) (n : ℕ)
    → Numbering (IsUnder path) self_n self n (visited (scalar_asks facts self_n key f) n) (scalar_asks facts self key f)
scalar_numbered facts self_n self key path f n =
    none (IsUnder path) self_n self n (scalar_asks facts self_n key f) (scalar_asks facts self key f)
    (λ all is. scalar_asks_placed all facts self_n key f ∙ ap (λ name. scalar_asks facts name key f) is)

member_vector_numbered : (facts : List Datom) (self_n self : Name) (key : Key) (path : List ℕ) (fs : Forms) (n : ℕ)
    → Numbering (IsUnder path) self_n self n
    (visited (vector_asks facts self_n key fs (lookup_in fs) (links self_n key (plain (edn.vector fs)))) n)
    (vector_asks facts self key fs (lookup_in fs) (links self key (plain (edn.vector fs))))
member_vector_numbered facts self_n self key path fs n =
    none (IsUnder path) self_n self n (vector_asks facts self_n key fs (lookup_in fs) (links self_n key (plain (edn.vector fs))))
    (vector_asks facts self key fs (lookup_in fs) (links self key (plain (edn.vector fs))))
    (λ all is.
    vector_asks_placed all facts self_n key fs (lookup_in fs) (links self_n key (plain (edn.vector fs)))
    ∙ ap (vector_asks facts (placed all self_n) key fs (lookup_in fs)) (links_placed all self_n key (plain (edn.vector fs)))
    ∙ ap (λ name. vector_asks facts name key fs (lookup_in fs) (links name key (plain (edn.vector fs)))) is)

vector_numbered : (facts : List Datom) (self_n self : Name) (key : Key) (path : List ℕ) (fs : Forms) (n : ℕ) (members : Visited)
    (asks : List Ask)
    → Numbering (IsFrom path 0) self_n self n members asks
    → Numbering (IsUnder path) self_n self n (walk_vector facts self_n key n fs members) (vector_asks facts self key fs (lookup_in fs) asks)
vector_numbered facts self_n self key path fs n members asks it =
    either_way (IsUnder path) self_n self n (is_collection facts key (lookup_in fs)) members
    (visited (vector_asks facts self_n key fs (lookup_in fs) []) n)
    (vector_asks facts self key fs (lookup_in fs) asks)
    (λ is. subst (λ xs. Numbering (IsUnder path) self_n self n members xs) (vector_members facts self key fs (lookup_in fs) asks is)
    (wider (IsFrom path 0) (IsUnder path) (from_is_under path 0) self_n self n members asks it))
    (λ is. none (IsUnder path) self_n self n (vector_asks facts self_n key fs (lookup_in fs) [])
    (vector_asks facts self key fs (lookup_in fs) asks)
    (λ all self_is.
    vector_asks_placed all facts self_n key fs (lookup_in fs) []
    ∙ ap (λ name. vector_asks facts name key fs (lookup_in fs) []) self_is
    ∙ vector_alone facts self key fs (lookup_in fs) asks is))

list_numbered : (facts : List Datom) (self_n self : Name) (key : Key) (path : List ℕ) (fs : Forms) (n : ℕ) (members : Visited)
    (asks : List Ask)
    → Numbering (IsFrom path 0) self_n self n members asks
    → Numbering (IsUnder path) self_n self n (walk_list facts self_n key n fs members) (sequence_asks facts self key (edn.list fs) asks)
list_numbered facts self_n self key path fs n members asks it =
    either_way (IsUnder path) self_n self n (is_collection facts key None) members
    (visited (sequence_asks facts self_n key (edn.list fs) []) n)
    (sequence_asks facts self key (edn.list fs) asks)
    (λ is. subst (λ xs. Numbering (IsUnder path) self_n self n members xs) (list_members facts self key (edn.list fs) asks is)
    (wider (IsFrom path 0) (IsUnder path) (from_is_under path 0) self_n self n members asks it))
    (λ is.
    none (IsUnder path) self_n self n (sequence_asks facts self_n key (edn.list fs) []) (sequence_asks facts self key (edn.list fs) asks)
    (λ all self_is.
    sequence_asks_placed all facts self_n key (edn.list fs) []
    ∙ ap (λ name. sequence_asks facts name key (edn.list fs) []) self_is
    ∙ list_alone facts self key (edn.list fs) asks is))

nested_numbered : (facts : List Datom) (self_n self : Name) (key : Key) (path : List ℕ) (ps : Pairs) (n : ℕ)
    → ((name_n name : Name) (m : ℕ) → Numbering (IsFrom path 0) name_n name m (walk_map facts name_n m ps) (map_asks facts name path 0 ps))
    → Numbering (IsUnder path) self_n self n
    (walk_nested facts self_n key n ps (walk_map facts (name_at n ps) (behind (name_at n ps) n) ps))
    (nested_asks facts self key (name_of_map path ps) ps (map_asks facts (name_of_map path ps) path 0 ps))
nested_numbered facts self_n self key path ps n it =
    let inner = walk_map facts (name_at n ps) (behind (name_at n ps) n) ps in
    let asks = map_asks facts (name_of_map path ps) path 0 ps in
    either_way (IsUnder path) self_n self n (takes_maps facts key)
    (visited (nested_asks facts self_n key (name_at n ps) ps inner.asks) inner.next)
    (visited (nested_asks facts self_n key (name_at n ps) ps []) n) (nested_asks facts self key (name_of_map path ps) ps asks)
    (λ is. inside self_n self path n ps (λ name m. walk_map facts name m ps) (λ name. map_asks facts name path 0 ps)
    (λ name xs. nested_asks facts self_n key name ps xs) (λ name xs. nested_asks facts self key name ps xs)
    (λ all name_n xs self_is. nested_asks_placed all facts self_n key name_n ps xs
    ∙ ap (λ name. nested_asks facts name key (placed all name_n) ps (map (ask_placed all) xs)) self_is) it)
    (λ is. none (IsUnder path) self_n self n (nested_asks facts self_n key (name_at n ps) ps [])
    (nested_asks facts self key (name_of_map path ps) ps asks)
    (λ all self_is.
    nested_asks_placed all facts self_n key (name_at n ps) ps []
    ∙ ap (λ name. nested_asks facts name key (placed all (name_at n ps)) ps []) self_is
    ∙ nested_alone facts self key (placed all (name_at n ps)) (name_of_map path ps) ps asks is))

pair_numbered : (facts : List Datom) (self_n self : Name) (key : Key) (path : List ℕ) (n : ℕ) (values : Visited) (asks : List Ask)
    → Numbering (IsUnder path) self_n self n values asks
    → Numbering (IsUnder path) self_n self n (walk_pair facts self_n key n values) (pair_asks facts self key asks)
pair_numbered facts self_n self key path n values asks it =
    either_way (IsUnder path) self_n self n (takes_values facts key) (visited (pair_asks facts self_n key values.asks) values.next)
    (visited (pair_asks facts self_n key []) n) (pair_asks facts self key asks)
    (λ is. wrapped (IsUnder path) self_n self n values asks (pair_asks facts self_n key) (pair_asks facts self key)
    (λ all self_is. pair_asks_placed all facts self_n key values.asks
    ∙ ap (λ name. pair_asks facts name key (map (ask_placed all) values.asks)) self_is) it)
    (λ is. none (IsUnder path) self_n self n (pair_asks facts self_n key []) (pair_asks facts self key asks)
    (λ all self_is.
    pair_asks_placed all facts self_n key [] ∙ ap (λ name. pair_asks facts name key []) self_is ∙ pair_alone facts self key asks is))

-- ---- the walk

mutual
  pub map_numbered : (facts : List Datom) (self_n self : Name) (path : List ℕ) (k : ℕ) (ps : Pairs) (n : ℕ)
      → Numbering (IsFrom path k) self_n self n (walk_map facts self_n n ps) (map_asks facts self path k ps)
  map_numbered facts self_n self path k no_pairs n = none (IsFrom path k) self_n self n [] [] (λ all is. refl)
  map_numbered facts self_n self path k (pair key value rest) n =
      both (IsUnder (k ∷ path)) (IsFrom path (k + 1)) (IsFrom path k) (under_is_from path k) (later_is_from path k)
      (parts_differ path k) self_n self n
      (walk_pair facts self_n (key_in key) n (walk_value facts self_n (key_in key) n value)) (λ m. walk_map facts self_n m rest)
      (pair_asks facts self (key_in key) (value_asks facts self (key_in key) (k ∷ path) value)) (map_asks facts self path (k + 1) rest)
      (pair_numbered facts self_n self (key_in key) (k ∷ path) n (walk_value facts self_n (key_in key) n value)
      (value_asks facts self (key_in key) (k ∷ path) value)
      (value_numbered facts self_n self (key_in key) (k ∷ path) value n))
      (map_numbered facts self_n self path (k + 1) rest
      (walk_pair facts self_n (key_in key) n (walk_value facts self_n (key_in key) n value)).next)

  value_numbered : (facts : List Datom) (self_n self : Name) (key : Key) (path : List ℕ) (f : Form) (n : ℕ)
      → Numbering (IsUnder path) self_n self n (walk_value facts self_n key n f) (value_asks facts self key path f)
  value_numbered facts self_n self key path (edn.map ps) n =
      nested_numbered facts self_n self key path ps n (λ name_n name m. map_numbered facts name_n name path 0 ps m)
  value_numbered facts self_n self key path (edn.set fs) n =
      wider (IsFrom path 0) (IsUnder path) (from_is_under path 0) self_n self n (walk_members facts self_n key n fs)
      (members_asks facts self key path 0 fs)
      (members_numbered facts self_n self key path 0 fs n)
  value_numbered facts self_n self key path (edn.vector fs) n =
      vector_numbered facts self_n self key path fs n (walk_members facts self_n key n fs) (members_asks facts self key path 0 fs)
      (members_numbered facts self_n self key path 0 fs n)
  value_numbered facts self_n self key path (edn.list fs) n =
      list_numbered facts self_n self key path fs n (walk_members facts self_n key n fs) (members_asks facts self key path 0 fs)
      (members_numbered facts self_n self key path 0 fs n)
  value_numbered facts self_n self key path f n = scalar_numbered facts self_n self key path f n

  members_numbered : (facts : List Datom) (self_n self : Name) (key : Key) (path : List ℕ) (k : ℕ) (fs : Forms) (n : ℕ)
      → Numbering (IsFrom path k) self_n self n (walk_members facts self_n key n fs) (members_asks facts self key path k fs)
  members_numbered facts self_n self key path k no_forms n = none (IsFrom path k) self_n self n [] [] (λ all is. refl)
  members_numbered facts self_n self key path k (form f fs) n =
      both (IsUnder (k ∷ path)) (IsFrom path (k + 1)) (IsFrom path k) (under_is_from path k) (later_is_from path k)
      (parts_differ path k) self_n self n
      (walk_member facts self_n key n f) (λ m. walk_members facts self_n key m fs) (member_asks facts self key (k ∷ path) f)
      (members_asks facts self key path (k + 1) fs)
      (member_numbered facts self_n self key (k ∷ path) f n)
      (members_numbered facts self_n self key path (k + 1) fs (walk_member facts self_n key n f).next)

  member_numbered : (facts : List Datom) (self_n self : Name) (key : Key) (path : List ℕ) (f : Form) (n : ℕ)
      → Numbering (IsUnder path) self_n self n (walk_member facts self_n key n f) (member_asks facts self key path f)
  member_numbered facts self_n self key path (edn.map ps) n =
      nested_numbered facts self_n self key path ps n (λ name_n name m. map_numbered facts name_n name path 0 ps m)
  member_numbered facts self_n self key path (edn.vector fs) n = member_vector_numbered facts self_n self key path fs n
  member_numbered facts self_n self key path f n = scalar_numbered facts self_n self key path f n
