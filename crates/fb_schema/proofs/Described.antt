-- The facts that describe: how an entry changes them, and that what is asked of the schema is asked of them alone.
use Rattle.std.proofs.Common.{◌≡◌, ℕ, ◌+◌, ◌<◌, Bool, true, false, cond, not, ◌&&◌, ◌||◌, List, [], ◌∷◌, ◌++◌, length, get_or, take}
use Rattle.std.proofs.Common.{append_assoc, refl, ap, sym, ◌∙◌}
use Rattle.std.specs.Prelude.{filter, nat_le}
use Rattle.std.specs.List.{list_any}
use Rattle.std.proofs.lemmas.Bool.{true≢false}
use Rattle.std.proofs.lemmas.List.{take_more}
use Rattle.fb_values.specs.declared.facts.Datom.{Datom}
use Rattle.fb_values.specs.declared.facts.Entry.{Entry}
use Rattle.fb_model.specs.History.{said}
use Rattle.fb_model.specs.Facts.{is_of, standing}
use Rattle.fb_model.proofs.Triples.{is_of-true}
use Rattle.fb_model.proofs.Members.{filter-standing}
use Rattle.fb_model.proofs.NewFacts.{standing_none}
use Rattle.fb_model.proofs.Invariants.{facts-push}
use Rattle.fb_schema.specs.Described.{describes, described}

any-append : (p : Datom → Bool) (xs ys : List Datom) → list_any p (xs ++ ys) ≡ (list_any p xs || list_any p ys)
any-append p [] ys = refl
any-append p (x ∷ xs) ys = go (p x) (any-append p xs ys)
  where
    go : (b : Bool) → list_any p (xs ++ ys) ≡ (list_any p xs || list_any p ys)
        → (b || list_any p (xs ++ ys)) ≡ ((b || list_any p xs) || list_any p ys)
    go true rest = refl
    go false rest = rest

filter-append : (p : Datom → Bool) (xs ys : List Datom) → filter p (xs ++ ys) ≡ filter p xs ++ filter p ys
filter-append p [] ys = refl
filter-append p (x ∷ xs) ys = go (p x) (filter-append p xs ys)
  where
    go : (b : Bool) → filter p (xs ++ ys) ≡ filter p xs ++ filter p ys
        → cond b (x ∷ filter p (xs ++ ys)) (filter p (xs ++ ys)) ≡ cond b (x ∷ filter p xs) (filter p xs) ++ filter p ys
    go true rest = ap (λ l. x ∷ l) rest
    go false rest = rest

-- a datom before others, where those behind it changed to others that stand alike
standing-cons : (x : Datom) (xs ys zs : List Datom) → standing zs ≡ standing (xs ++ ys)
    → (list_any (is_of x.e x.a x.v) xs ≡ false → list_any (is_of x.e x.a x.v) zs ≡ list_any (is_of x.e x.a x.v) (xs ++ ys))
    → zs ≡ standing xs ++ ys → standing (standing (x ∷ xs) ++ ys) ≡ standing (x ∷ (xs ++ ys))
standing-cons x xs ys zs rest same is = go x.added refl (list_any (is_of x.e x.a x.v) xs) refl
  where
    goal_of : Bool → Bool → Type 0
    goal_of b c =
        standing (cond (b && not c) (x ∷ standing xs) (standing xs) ++ ys)
        ≡ cond (b && not (list_any (is_of x.e x.a x.v) (xs ++ ys))) (x ∷ standing (xs ++ ys)) (standing (xs ++ ys))

    left : standing (standing xs ++ ys) ≡ standing (xs ++ ys)
    left = ap standing (sym is) ∙ rest

    go : (b : Bool) → x.added ≡ b → (c : Bool) → list_any (is_of x.e x.a x.v) xs ≡ c → goal_of b c
    go false added c some = left
    go true added true some =
        left
        ∙ ap (λ any. cond (not any) (x ∷ standing (xs ++ ys)) (standing (xs ++ ys)))
        (sym (any-append (is_of x.e x.a x.v) xs ys ∙ ap (λ b. b || list_any (is_of x.e x.a x.v) ys) some))
    go true added false none =
        ap (λ b. cond (b && not (list_any (is_of x.e x.a x.v) (standing xs ++ ys))) (x ∷ standing (standing xs ++ ys))
        (standing (standing xs ++ ys))) added
        ∙ ap (λ any. cond (not any) (x ∷ standing (standing xs ++ ys)) (standing (standing xs ++ ys)))
        (ap (list_any (is_of x.e x.a x.v)) (sym is) ∙ same none)
        ∙ ap (λ l. cond (not (list_any (is_of x.e x.a x.v) (xs ++ ys))) (x ∷ l) l) left

-- what stood before more was said decides what stands afterwards
pub standing-twice : (xs ys : List Datom) → standing (standing xs ++ ys) ≡ standing (xs ++ ys)
standing-twice [] ys = refl
standing-twice (x ∷ xs) ys = standing-cons x xs ys (standing xs ++ ys) (standing-twice xs ys)
    (λ none.
    any-append (is_of x.e x.a x.v) (standing xs) ys
    ∙ ap (λ b. b || list_any (is_of x.e x.a x.v) ys) (standing_none (is_of x.e x.a x.v) xs none ∙ sym none)
    ∙ sym (any-append (is_of x.e x.a x.v) xs ys))
    refl

pub same_describes : (d other : Datom) → is_of d.e d.a d.v other ≡ true → describes d ≡ describes other
same_describes d other is = ap (λ a. nat_le 1 a && nat_le a 6) (sym (is_of-true d.e d.a d.v other is).a_is)

-- the schema's facts after an entry
pub described-push : (h : List Entry) (entry : Entry)
    → described (h ++ entry ∷ []) ≡ standing (described h ++ filter describes entry.datoms)
described-push h entry =
    ap (filter describes) (facts-push h entry)
    ∙ filter-standing describes same_describes (said h ++ entry.datoms)
    ∙ ap standing (filter-append describes (said h) entry.datoms)
    ∙ sym (standing-twice (filter describes (said h)) (filter describes entry.datoms))
    ∙ ap (λ l. standing (l ++ filter describes entry.datoms)) (sym (filter-standing describes same_describes (said h)))

append-nil : (xs : List Datom) → xs ++ [] ≡ xs
append-nil [] = refl
append-nil (x ∷ xs) = ap (λ l. x ∷ l) (append-nil xs)

filter-none : (ds : List Datom) → list_any describes ds ≡ false → filter describes ds ≡ []
filter-none [] none = refl
filter-none (d ∷ ds) none = go (describes d) none (filter-none ds)
  where
    go : (b : Bool) → (b || list_any describes ds) ≡ false → (list_any describes ds ≡ false → filter describes ds ≡ [])
        → cond b (d ∷ filter describes ds) (filter describes ds) ≡ []
    go true some next = absurd (true≢false some)
    go false rest next = next rest

-- and where the entry says nothing of it
pub described-same : (h : List Entry) (entry : Entry) → list_any describes entry.datoms ≡ false → described (h ++ entry ∷ []) ≡ described h
described-same h entry none =
    ap (filter describes) (facts-push h entry)
    ∙ filter-standing describes same_describes (said h ++ entry.datoms)
    ∙ ap standing
    (filter-append describes (said h) entry.datoms
    ∙ ap (λ l. filter describes (said h) ++ l) (filter-none entry.datoms none)
    ∙ append-nil (filter describes (said h)))
    ∙ sym (filter-standing describes same_describes (said h))

-- ---- datoms one after another

pub standing-nothing : (ds : List Datom) → standing ds ≡ ds → standing (ds ++ []) ≡ ds
standing-nothing ds stands = ap standing (append-nil ds) ∙ stands

pub said-more : (before ds : List Datom) (i : ℕ) (d : Datom) → i < length ds → d ≡ get_or ds i d → describes d ≡ true
    → standing (standing (before ++ filter describes (take i ds)) ++ d ∷ []) ≡ standing (before ++ filter describes (take (i + 1) ds))
said-more before ds i d within at is =
    standing-twice (before ++ filter describes (take i ds)) (d ∷ [])
    ∙ ap standing
    (append_assoc before (filter describes (take i ds)) (d ∷ [])
    ∙ ap (λ l. before ++ l)
    (ap (λ b. filter describes (take i ds) ++ cond b (d ∷ []) []) (sym is)
    ∙ sym (filter-append describes (take i ds) (d ∷ []))
    ∙ ap (filter describes) (ap (λ x. take i ds ++ x ∷ []) at ∙ sym (take_more ds i d within))))

pub said-less : (before ds : List Datom) (i : ℕ) (d : Datom) → i < length ds → d ≡ get_or ds i d → describes d ≡ false
    → standing (before ++ filter describes (take i ds)) ≡ standing (before ++ filter describes (take (i + 1) ds))
said-less before ds i d within at is =
    ap (λ l. standing (before ++ l))
    (sym (append-nil (filter describes (take i ds)))
    ∙ ap (λ b. filter describes (take i ds) ++ cond b (d ∷ []) []) (sym is)
    ∙ sym (filter-append describes (take i ds) (d ∷ []))
    ∙ ap (filter describes) (ap (λ x. take i ds ++ x ∷ []) at ∙ sym (take_more ds i d within)))
