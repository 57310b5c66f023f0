-- A reason is found again from its number, and from its keyword.
use Rattle.std.proofs.Common.{◌≡◌, ◌≤◌, ℕ, List, [], ◌∷◌, cond, refl, sym, ap, ◌∙◌, lit≤, get_or}
use Rattle.std.specs.Prelude.{bytes_eq}
use Rattle.tx_refusals.specs.declared.reasons.Bar.TheVariants.{AttrPred, MissingRequired, UniqueTuple}
use Rattle.tx_refusals.specs.declared.reasons.Reason.{Reason}
use Rattle.tx_refusals.specs.declared.reasons.Reason.TheVariants.{NotAForm, NotAnAttribute, ProtectedAttribute, WrongType, NotUniqueLookup}
use Rattle.tx_refusals.specs.declared.reasons.Reason.TheVariants.{NotAnEntity, NestedWithoutId, TempidConflict, TempidNotAnEntity, CasMany}
use Rattle.tx_refusals.specs.declared.reasons.Reason.TheVariants.{CasFailed, DatomsConflict, UniqueConflict, IncompleteAttribute}
use Rattle.tx_refusals.specs.declared.reasons.Reason.TheVariants.{AttributeFixed, TooLarge, Full, AlterationConflict, Barred}
use Rattle.tx_refusals.specs.Reasons.{keyword_of, number_of}

abbrev all : List Reason
all =
    NotAForm ∷ NotAnAttribute ∷ ProtectedAttribute ∷ WrongType ∷ NotUniqueLookup ∷ NotAnEntity ∷ NestedWithoutId ∷ TempidConflict
    ∷ TempidNotAnEntity ∷ CasMany ∷ CasFailed ∷ DatomsConflict ∷ UniqueConflict ∷ IncompleteAttribute ∷ AttributeFixed ∷ TooLarge
    ∷ Full ∷ AlterationConflict ∷ Barred AttrPred ∷ Barred MissingRequired ∷ Barred UniqueTuple ∷ []

-- the reason with the number, and any other where there is none
abbrev numbered : ℕ → Reason
numbered n = get_or (NotAForm ∷ all) n NotAForm

numbered_is : (reason : Reason) → numbered (number_of reason) ≡ reason
numbered_is NotAForm = refl
numbered_is NotAnAttribute = refl
numbered_is ProtectedAttribute = refl
numbered_is WrongType = refl
numbered_is NotUniqueLookup = refl
numbered_is NotAnEntity = refl
numbered_is NestedWithoutId = refl
numbered_is TempidConflict = refl
numbered_is TempidNotAnEntity = refl
numbered_is CasMany = refl
numbered_is CasFailed = refl
numbered_is DatomsConflict = refl
numbered_is UniqueConflict = refl
numbered_is IncompleteAttribute = refl
numbered_is AttributeFixed = refl
numbered_is TooLarge = refl
numbered_is Full = refl
numbered_is AlterationConflict = refl
numbered_is (Barred AttrPred) = refl
numbered_is (Barred MissingRequired) = refl
numbered_is (Barred UniqueTuple) = refl

pub same_number : (reason other : Reason) → number_of reason ≡ number_of other → reason ≡ other
same_number reason other e = sym (numbered_is reason) ∙ ap numbered e ∙ numbered_is other

-- the first of the reasons with the keyword, and any other where there is none
abbrev named_in : List Reason → List ℕ → Reason
named_in [] k = NotAForm
named_in (reason ∷ rest) k = cond (bytes_eq (keyword_of reason) k) reason (named_in rest k)

named_is : (reason : Reason) → named_in all (keyword_of reason) ≡ reason
named_is NotAForm = refl
named_is NotAnAttribute = refl
named_is ProtectedAttribute = refl
named_is WrongType = refl
named_is NotUniqueLookup = refl
named_is NotAnEntity = refl
named_is NestedWithoutId = refl
named_is TempidConflict = refl
named_is TempidNotAnEntity = refl
named_is CasMany = refl
named_is CasFailed = refl
named_is DatomsConflict = refl
named_is UniqueConflict = refl
named_is IncompleteAttribute = refl
named_is AttributeFixed = refl
named_is TooLarge = refl
named_is Full = refl
named_is AlterationConflict = refl
named_is (Barred AttrPred) = refl
named_is (Barred MissingRequired) = refl
named_is (Barred UniqueTuple) = refl

pub same_keyword : (reason other : Reason) → keyword_of reason ≡ keyword_of other → reason ≡ other
same_keyword reason other e = sym (named_is reason) ∙ ap (named_in all) e ∙ named_is other

pub first_and_last : (reason : Reason) → (1 ≤ number_of reason) × (number_of reason ≤ 21)
first_and_last NotAForm = (lit≤ tt, lit≤ tt)
first_and_last NotAnAttribute = (lit≤ tt, lit≤ tt)
first_and_last ProtectedAttribute = (lit≤ tt, lit≤ tt)
first_and_last WrongType = (lit≤ tt, lit≤ tt)
first_and_last NotUniqueLookup = (lit≤ tt, lit≤ tt)
first_and_last NotAnEntity = (lit≤ tt, lit≤ tt)
first_and_last NestedWithoutId = (lit≤ tt, lit≤ tt)
first_and_last TempidConflict = (lit≤ tt, lit≤ tt)
first_and_last TempidNotAnEntity = (lit≤ tt, lit≤ tt)
first_and_last CasMany = (lit≤ tt, lit≤ tt)
first_and_last CasFailed = (lit≤ tt, lit≤ tt)
first_and_last DatomsConflict = (lit≤ tt, lit≤ tt)
first_and_last UniqueConflict = (lit≤ tt, lit≤ tt)
first_and_last IncompleteAttribute = (lit≤ tt, lit≤ tt)
first_and_last AttributeFixed = (lit≤ tt, lit≤ tt)
first_and_last TooLarge = (lit≤ tt, lit≤ tt)
first_and_last Full = (lit≤ tt, lit≤ tt)
first_and_last AlterationConflict = (lit≤ tt, lit≤ tt)
first_and_last (Barred AttrPred) = (lit≤ tt, lit≤ tt)
first_and_last (Barred MissingRequired) = (lit≤ tt, lit≤ tt)
first_and_last (Barred UniqueTuple) = (lit≤ tt, lit≤ tt)
