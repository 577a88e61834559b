use Rattle.std.proofs.Common.{◌≡◌, ◌∙◌, ℕ, ◌+◌, ◌-◌, ◌<◌, List, [], ◌∷◌, ◌++◌, length, Some, None, Option, IfSome, refl, ap, ap₂, sym, subst, arith, length-append}
use Rattle.std.specs.List.{slice_get}
use Rattle.std.proofs.lemmas.List.{nil_from_length}
use Rattle.store_api.specs.Holdings.{Holdings}
use Rattle.store_api.specs.Signs.{Signs}
use Rattle.tuple_stream.specs.Streamed.{OpenPage, Streamed}
use Rattle.tuple_stream.specs.Streams.{IsOpen}
use Rattle.tuple_stream.specs.Families.{AreShaped, family}
use Rattle.tuple_stream.proofs.PageLists.{at_end}
use Rattle.partition_stack.specs.Changes.{Owns}
use Rattle.partition_stack.proofs.Coming.{top_goes}
use Rattle.tests_stores.proofs.tests.stacks.pop_empty.Goals as goal

none_open : (s : Streamed) (h : Holdings) (o : Option OpenPage) → s.pages ≡ [] → IfSome o (IsOpen s h) → o ≡ None
none_open s h None none opened = refl
none_open s h (Some page) none opened =
    let inside : page.place < length s.pages = opened.inside in
    let long : length s.pages ≡ 0 = ap length none in
    absurd (omega (arith, inside, long))

-- a top partition without pages has none that is pinned
closed_last : (t : ℕ) (h : Holdings) (signs : Signs) (all front : List Streamed) (s : Streamed) → all ≡ front ++ s ∷ [] → AreShaped t (family all h signs) → s.pages ≡ [] → s.pinned ≡ None
closed_last t h signs all front s split shaped none =
    let at : slice_get all (length front) ≡ Some s = ap (λ (ss : List Streamed). slice_get ss (length front)) split ∙ at_end front s in
    none_open s h s.pinned none (shaped.each (length front) s at).opened

-- and when it goes the others are all that the client has
kept_popped : (t : ℕ) (all front : List Streamed) (s : Streamed) (h : Holdings) (signs : Signs) → all ≡ front ++ s ∷ [] → s.pages ≡ [] → Owns t 0 (family all h signs) → Owns t 0 (family front h signs)
kept_popped t all front s h signs split none owns =
    (top_goes t 0 front s h signs none (closed_last t h signs all front s split owns.shaped none)).owns
    (subst (λ (ss : List Streamed). Owns t 0 (family ss h signs)) split owns)

-- the top partition has no pages where its number of pages is 0
no_pages_on_top : (all front : List Streamed) (s : Streamed) (at pages : ℕ) → all ≡ front ++ s ∷ [] → at ≡ length all - 1 → IfSome (slice_get all at) (λ r. pages ≡ length r.pages) → pages ≡ 0 → s.pages ≡ []
no_pages_on_top all front s at pages split top counted none =
    let long : length all ≡ length front + 1 = ap length split ∙ length-append front (s ∷ []) in
    let place : at ≡ length front = omega (arith, top, long) in
    let there : slice_get all at ≡ Some s = ap₂ (λ (ss : List Streamed) (n : ℕ). slice_get ss n) split place ∙ at_end front s in
    let same : pages ≡ length s.pages = subst (λ (o : Option Streamed). IfSome o (λ r. pages ≡ length r.pages)) there counted in
    nil_from_length s.pages (sym same ∙ none)

pub end-requires-clause-closed : goal.end-requires-clause-closed
end-requires-clause-closed c =
    let top = ap (λ (n : ℕ). n - 1) c.len-len.ensures in
    let none = no_pages_on_top _ _ _ _ _ c.pop-top.ensures.streams top c.pages.ensures c.if-pages-ne0.false in
    closed_last _ _ _ _ _ _ c.pop-top.ensures.streams c.requires.3 none

pub returns : goal.returns
returns c = λ t h signs owns.
    let top = ap (λ (n : ℕ). n - 1) c.len-len.ensures in
    let none = no_pages_on_top _ _ _ _ _ c.pop-top.ensures.streams top c.pages.ensures c.if-pages-ne0.false in
    kept_popped t _ _ _ h signs c.pop-top.ensures.streams none owns
