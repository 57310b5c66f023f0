-- What a seat learns by each step.
-- `m` is the seat before the step and `m'` after it, and `n` the number found, or the one stored.
-- This project's own choice.
use Rattle.std.specs.Prelude.{Bool, true, ◌≡◌, ◌≢◌, ℕ, ◌+◌, ◌-◌, ◌<◌, List, [], ◌∷◌, length, Option}
use Rattle.std.specs.Prelude.{Some, None}
use Rattle.atomic_table.specs.Table.{Me, Step}
use Rattle.board_rule.specs.declared.board.SlotValue.{SlotValue}
use Rattle.board_rule.specs.declared.board.SlotValue.TheVariants.{Core, Mail}
use Rattle.board_rule.specs.declared.view.Marks.{Marks}
use Rattle.board_rule.specs.declared.view.At.{At}
use Rattle.board_rule.specs.declared.view.At.TheVariants.{Home, Away, Hand}
use Rattle.board_rule.specs.declared.view.Content.{Content}
use Rattle.board_rule.specs.declared.view.Content.TheVariants.{InHand, Empty, Full}
use Rattle.board_rule.specs.declared.view.Grab.TheVariants.{Free}
use Rattle.board_rule.specs.declared.view.View.{View}
use Rattle.board_rule.specs.Views.{StartsWith, HasTurn, history_of, content_of, found_of, refilled}
use Rattle.board_rule.specs.Views.{drew, noted, added, ended, counted, grabbed, passed, found}
use Rattle.board_rule.specs.Views.{let_go, writing, skipped, Looks}

abbrev pub at_of : {H : Type 0} → Option H → At
at_of None = Away
at_of (Some h) = Home

-- where slot 0's value is once the seat gives back the slot that it has in hand
abbrev pub core_in : {H S : Type 0} → List (ℕ × SlotValue H S) → At
core_in [] = Hand
core_in ((k, Core o) ∷ more) = at_of o
core_in ((k, Mail o) ∷ more) = Hand

-- what a mail slot has once the seat gives it back
abbrev pub filled_by : {S E : Type 0} → (S → List E) → Option S → Content E
filled_by mailed None = Empty
filled_by mailed (Some s) = Full (mailed s)

abbrev pub mail_in : {H S E : Type 0} → (S → List E) → List (ℕ × SlotValue H S) → Content E
mail_in mailed [] = InHand
mail_in mailed ((k, Core o) ∷ more) = InHand
mail_in mailed ((k, Mail o) ∷ more) = filled_by mailed o

-- a mail slot had this content
abbrev pub MailHas : {S E : Type 0} → (S → List E) → Content E → Option S → Type 0
MailHas mailed InHand o = ⊥
MailHas mailed Empty o = o ≡ None
MailHas {S} mailed (Full l) o = (s : S) × (o ≡ Some s) × (mailed s ≡ l)

-- slot 0 had this, where its value was so: `fits` holds of a value
abbrev pub CoreHas : {H : Type 0} → (H → Type 0) → At → Option H → Type 0
CoreHas {H} fits Home o = (h : H) × (o ≡ Some h) × fits h
CoreHas fits Away o = o ≡ None
CoreHas fits Hand o = ⊥

abbrev Said : Type 0 → Type 0 → Type 0
Said H S = Step (SlotValue H S)

abbrev Sat : Type 0 → Type 0 → Type 0 → Type 0
Sat H S E = Me (SlotValue H S) (View E)

module _ {H S E : Type 0} where
  -- the greatest ticket, that of 2^31 + 1 seats which draw 2^32 times each, is below this
  abbrev pub draws_ticket : Said H S → Sat H S E → ℕ → Sat H S E → Type 0
  draws_ticket st m n m' = (m' ≡ (drew m.0 n, m.1)) × (n < 9223372041149743104)

  abbrev pub looks : (List E → Type 0) → Said H S → Sat H S E → ℕ → Sat H S E → Type 0
  looks lawful st m n m' = Looks lawful m.0.turn m.0 n m'.0 × (m'.1 ≡ m.1)

  abbrev pub notes_marks : Marks → Said H S → Sat H S E → ℕ → Sat H S E → Type 0
  notes_marks k st m n m' = m' ≡ (noted m.0 k, m.1)

  abbrev pub notes_found : Said H S → Sat H S E → ℕ → Sat H S E → Type 0
  notes_found st m n m' = (l : List E) × (m' ≡ (found m.0 l, m.1))

  abbrev pub commits : List E → List ℕ → Said H S → Sat H S E → ℕ → Sat H S E → Type 0
  commits entries authors st m n m' = m' ≡ (added m.0 entries authors n, m.1)

  abbrev pub leaves : Said H S → Sat H S E → ℕ → Sat H S E → Type 0
  leaves st m n m' = m' ≡ (ended m.0, m.1)

  abbrev pub counts : Said H S → Sat H S E → ℕ → Sat H S E → Type 0
  counts st m n m' =
      (l : List E)
      × (m' ≡ (counted m.0 l, m.1))
      × (n + 1 ≡ length l)
      × (n < 4294967296)
      × StartsWith l m.0.seen
      × (HasTurn m.0 → l ≡ history_of m.0)

  abbrev pub puts_core : Said H S → Sat H S E → ℕ → Sat H S E → Type 0
  puts_core st m n m' = m' ≡ (record m.0 { core = core_in m.1 }, [])

  abbrev pub grabs_own : Said H S → Sat H S E → ℕ → Sat H S E → Type 0
  grabs_own st m n m' =
      (m'.0.met ≡ n) × (n ≡ 0 → m' ≡ (grabbed m.0, m.1)) × (n ≢ 0 → m' ≡ (passed m.0, m.1))

  abbrev pub lets_own_go : Bool → Said H S → Sat H S E → ℕ → Sat H S E → Type 0
  lets_own_go kept st m n m' =
      (m' ≡ (let_go m.0 kept, m.1))
      × StartsWith m'.0.seen m.0.seen
      × (kept ≡ true → StartsWith m'.0.seen (found_of m.0.grab))

  abbrev pub grabs_mail : Said H S → Sat H S E → ℕ → Sat H S E → Type 0
  grabs_mail st m n m' =
      (m'.0.met ≡ n)
      × (n ≡ 0 → (l : List E) × (m' ≡ (writing m.0 (st.word - 3) l, m.1)))
      × (n ≢ 0 → m' ≡ (skipped m.0 (st.word - 3), m.1))

  abbrev pub lets_mail_go : Said H S → Sat H S E → ℕ → Sat H S E → Type 0
  lets_mail_go st m n m' = m' ≡ (record m.0 { grab = Free }, m.1)

  abbrev pub puts_mail : (S → List E) → Said H S → Sat H S E → ℕ → Sat H S E → Type 0
  puts_mail mailed st m n m' =
      m' ≡ (record m.0 { grab = refilled m.0.grab (mail_in mailed m.1) }, [])

  abbrev pub takes_mail : (S → List E) → Said H S → Sat H S E → ℕ → Sat H S E → Type 0
  takes_mail mailed st m n m' =
      (o : Option S)
      × (m' ≡ (record m.0 { grab = refilled m.0.grab InHand }, (st.word - 2, Mail o) ∷ []))
      × MailHas mailed (content_of m.0.grab) o

  abbrev pub takes_core : (H → View E → Type 0) → Said H S → Sat H S E → ℕ → Sat H S E → Type 0
  takes_core fits st m n m' =
      (o : Option H)
      × (m' ≡ (record m.0 { core = Hand }, (0, Core o) ∷ []))
      × CoreHas (λ h. fits h m.0) m.0.core o
