-- What lists of counts, and histories, tell of pages that went out.
use Rattle.std.proofs.Common.{◌≡◌, ◌≢◌, ℕ, ◌==◌, List, [], ◌∷◌, ◌++◌, Bool, true, false, if◌then◌else◌, refl, ap, sym, ◌∙◌, eq-eqb, ne_eqb}
use Rattle.std.proofs.lemmas.List.{append_assoc, append-nil}
use Rattle.std.specs.List.{AllByRecursion}
use Rattle.pool_model.specs.declared.event.Event.{Event}
use Rattle.pool_model.specs.declared.event.Event.TheVariants.{PinLoad, StartWrite}
use Rattle.pool_model.specs.declared.entry.Entry.{Entry}
use Rattle.store_api.specs.Entries.{by}
use Rattle.pin_core.specs.declared.tally.Tally.{Tally}
use Rattle.session_calls.specs.declared.count.Count.{Count}
use Rattle.session_calls.specs.declared.count.Count.TheVariants.{Opening, Out}
use Rattle.session_calls.specs.Moving.{rests}
use Rattle.session_calls.specs.Outgoing.{no_tally, opening_tally, page_out, pages_counted, pages_out, tally_or}
use Rattle.session_calls.proofs.Resting.{AllRest}

pub tally_append : (t : Tally) (p : ℕ) (a b : List Count) → tally_or t p (a ++ b) ≡ tally_or (tally_or t p a) p b
tally_append t p [] b = refl
tally_append t p (Opening u ∷ a) b = tally_append t p a b
tally_append t p (Out q u ∷ a) b = tally_append (if q == p then u else t) p a b

-- the count of another page says nothing of this one
passed : (q p : ℕ) → q ≢ p → (t u : Tally) → (if q == p then u else t) ≡ t
passed q p apart t u = ap (λ (b : Bool). if b then u else t) (ne_eqb q p apart)

pub tally_other : (counts : List Count) (q p : ℕ) (u : Tally) → q ≢ p → tally_or no_tally p (counts ++ Out q u ∷ []) ≡ tally_or no_tally p counts
tally_other counts q p u apart = tally_append no_tally p counts (Out q u ∷ []) ∙ passed q p apart (tally_or no_tally p counts) u

-- the last count of a page is what it counts
pub tally_last : (counts : List Count) (p : ℕ) (t : Tally) → tally_or no_tally p (counts ++ Out p t ∷ []) ≡ t
tally_last counts p t =
    tally_append no_tally p counts (Out p t ∷ []) ∙ ap (λ (b : Bool). if b then t else tally_or no_tally p counts) (eq-eqb p p refl)

-- none of these pages is this one
abbrev pub NoneIs : ℕ → List ℕ → Type 0
NoneIs p pages = AllByRecursion (λ q. q ≢ p) pages

pub none_both : (p : ℕ) (a b : List ℕ) → NoneIs p a → NoneIs p b → NoneIs p (a ++ b)
none_both p [] b one two = two
none_both p (q ∷ a) b one two = (one.0, none_both p a b one.1 two)

pub tally_kept : (t : Tally) (p : ℕ) (counts : List Count) → NoneIs p (pages_counted counts) → tally_or t p counts ≡ t
tally_kept t p [] none = refl
tally_kept t p (Opening u ∷ counts) none = tally_kept t p counts none
tally_kept t p (Out q u ∷ counts) none = tally_kept (if q == p then u else t) p counts none.1 ∙ passed q p none.0 t u

-- what slots counted at the opening stays so
pub opening_still : (counts : List Count) (p : ℕ) (t : Tally) → opening_tally (counts ++ Out p t ∷ []) ≡ opening_tally counts
opening_still [] p t = refl
opening_still (Opening u ∷ counts) p t = refl
opening_still (Out q u ∷ counts) p t = refl

-- pages of lists one after the other
pub counted_append : (a b : List Count) → pages_counted (a ++ b) ≡ pages_counted a ++ pages_counted b
counted_append [] b = refl
counted_append (Opening t ∷ a) b = counted_append a b
counted_append (Out p t ∷ a) b = ap (λ (pages : List ℕ). p ∷ pages) (counted_append a b)

pub out_append : (a b : List Entry) → pages_out (a ++ b) ≡ pages_out a ++ pages_out b
out_append [] b = refl
out_append (e ∷ a) b = ap (λ (pages : List ℕ). page_out e.event ++ pages) (out_append a b) ∙ sym (append_assoc (page_out e.event) (pages_out a) (pages_out b))

-- no page went out with more entries
pub out_same : (h more : List Entry) → pages_out more ≡ [] → pages_out (h ++ more) ≡ pages_out h
out_same h more none = out_append h more ∙ ap (λ (pages : List ℕ). pages_out h ++ pages) none ∙ append-nil (pages_out h)

rest_out : (e : Event) → rests e ≡ true → page_out e ≡ []
rest_out (PinLoad p) rest = let never : false ≡ true = rest in cc
rest_out (StartWrite p) rest = let never : false ≡ true = rest in cc
rest_out _ rest = refl

pub none_out : (m : ℕ) (events : List Event) → AllRest events → pages_out (by m events) ≡ []
none_out m [] rest = refl
none_out m (e ∷ events) rest = ap (λ (pages : List ℕ). pages ++ pages_out (by m events)) (rest_out e rest.0) ∙ none_out m events rest.1
