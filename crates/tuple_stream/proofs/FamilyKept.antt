-- Rows are dealt to streams that had none, and then all pages rest.
use Rattle.std.proofs.Common.{◌≡◌, ◌∙◌, ℕ, suc, ◌+◌, ◌<◌, ◌==◌, Bool, true, false, if◌then◌else◌, drop, List, [], ◌∷◌, length, map, Option, Some, None, refl, ap, sym, subst, inl, inr, arith}
use Rattle.std.specs.List.{All, slice_get, sum_by}
use Rattle.std.proofs.lemmas.List.Elements.{All-nil}
use Rattle.std.proofs.lemmas.List.Sums.{sum_by-cons}
use Rattle.std.proofs.lemmas.Option.{none-some, slice_get_within}
use Rattle.store_api.specs.Tokens.{PageToken}
use Rattle.store_api.specs.Conditions.{IsBlockCount}
use Rattle.store_api.specs.Holdings.{Holdings}
use Rattle.tuple_stream.specs.Streamed.{OpenPage, Streamed, len_in, page_rows, rows_of, all_bytes, rows_by_page}
use Rattle.tuple_stream.specs.Streams.{HasRows, IsApart, IsPacked, unspent}
use Rattle.tuple_stream.specs.Trails.{Left, left_page, rested, resting_in}
use Rattle.tuple_stream.specs.Families.{AllClosed, AllSized, AreDisjoint, AreShaped, Family, FamilySteps, LaysAll, ShowAll}
use Rattle.tuple_stream.specs.FamilyCalls.{AllAtEnd, AllWhole, AreEmpty, AreSteady, FeedsAll, HasKept, HoldAll, RestsSome}
use Rattle.tuple_stream.proofs.Empty.{empty, empty_shaped}
use Rattle.tuple_stream.proofs.FamilyChains.{lays_both}
use Rattle.tuple_stream.proofs.FamilyHolds.{have_laid, hold_all}
use Rattle.tuple_stream.proofs.Sinces.{since_so}

empty_at_end : (f : Family) → AreEmpty f → AllAtEnd f
empty_at_end f empty = λ i s there some. absurd (let none : length s.pages ≡ 0 = ap length (empty i s there).0 in omega (arith, none, some))

-- new streams of one length beside each other
pub new_family : (t blocks : ℕ) (f : Family) → IsBlockCount blocks → ((i : ℕ) (s : Streamed) → slice_get f.streams i ≡ Some s → s ≡ empty blocks) → AreShaped t f × AreEmpty f × AllSized blocks f
new_family t blocks f sized new = (
  record {
    each = λ i s there. empty_shaped t blocks s f.held (new i s there) sized;
    apart = λ i j a b differ first second. subst (λ (r : Streamed). AreDisjoint a r) (sym (new j b second)) (All-nil (λ p. IsApart p.name a.pages));
  },
  λ i s there. subst (λ (r : Streamed). (r.pages ≡ []) × (r.pinned ≡ None) × (r.spent ≡ 0) × (r.count ≡ 0)) (sym (new i s there)) (refl, refl, refl, refl),
  λ i s there. ap (λ (r : Streamed). r.page_blocks) (new i s there),
)

unspent_none : (len : ℕ) (b : Bool) → IsPacked len (if b then [] else drop 1 [])
unspent_none len true = tt
unspent_none len false = tt

-- a stream without pages has no rows
pub none_shown : (s : Streamed) (h : Holdings) → s.pages ≡ [] → s.count ≡ 0 → HasRows [] s h
none_shown s h none count =
    let rows : page_rows s h ≡ [] = ap (λ (pages : List PageToken). rows_by_page s.spent (all_bytes s h pages)) none in
    record {
      are = ap (λ (pages : List PageToken). rows_of (record s { pages = pages }) h) none;
      counted = count;
      filled = λ place p there last. absurd (none-some p (ap (λ (pages : List PageToken). slice_get pages place) (sym none) ∙ there));
      each = subst (All (λ (rows : List (List ℕ)). 0 < length rows)) (sym rows) (All-nil (λ rows. 0 < length rows));
      packed = subst (λ (rs : List (List (List ℕ))). IsPacked (len_in s h) (unspent s rs)) (sym rows) (unspent_none (len_in s h) (s.spent == 0));
    }

empty_weight : (w : Left → ℕ) (h : Holdings) (streams : List Streamed) → ((i : ℕ) (s : Streamed) → slice_get streams i ≡ Some s → (s.pages ≡ []) × (s.pinned ≡ None)) → sum_by (λ s. sum_by w (rested s h)) streams ≡ 0
empty_weight w h [] empty = refl
empty_weight w h (s ∷ streams) empty =
    let is = empty 0 s refl in
    let none : rested s h ≡ [] = ap (λ (o : Option OpenPage). map (left_page h) (resting_in o s.pages)) is.1 ∙ ap (map (left_page h)) is.0 in
    let head : sum_by w (rested s h) ≡ 0 = ap (sum_by w) none in
    let rest = empty_weight w h streams (λ i r there. empty (suc i) r there) in
    let all : sum_by (λ s. sum_by w (rested s h)) (s ∷ streams) ≡ sum_by w (rested s h) + sum_by (λ s. sum_by w (rested s h)) streams = sum_by-cons (λ s. sum_by w (rested s h)) s streams in
    omega (arith, head, rest, all)

pub has_kept : (t many : ℕ) (fed : ℕ → List (List ℕ)) (f g h : Family) → AreEmpty f → many ≡ length g.streams → FeedsAll t fed f g → RestsSome t many g h → HasKept t fed f h
has_kept t many fed f g h empty long feeds rests =
    let ends : AllAtEnd f = empty_at_end f empty in
    let steady : AreSteady g = λ i s there. inl (feeds.at_end ends i s there) in
    let closed : AllClosed h = λ i s there. rests.closed i s there (let inside = slice_get_within h.streams i s there in let same = rests.steps.long in omega (arith, inside, same, long)) in
    let whole : AllWhole h = rests.whole (feeds.whole (λ j r at. (empty j r at).2)) in
    let shows : ShowAll fed h = rests.rows fed (feeds.rows (λ i. []) (inr ends) (λ i s there. let is = empty i s there in none_shown s f.held is.0 is.3)) in
    let steps : FamilySteps (LaysAll (AllAtEnd f) ⊥ f h) t f h = lays_both f g h t (λ all. steady) (λ never. absurd never) feeds.steps rests.steps in
    record {
      shaped = steps.shaped;
      closed = closed;
      whole = whole;
      shows = shows;
      held = since_so (LaysAll (AllAtEnd f) ⊥ f h) (HoldAll fed h) f.signs.trail h.signs.trail
          (λ events lays.
          hold_all t h fed events steps.shaped closed whole shows
          (have_laid f h events ends (λ w. empty_weight w f.held f.streams (λ i s there. let is = empty i s there in (is.0, is.1))) lays))
          steps.trail;
    }
