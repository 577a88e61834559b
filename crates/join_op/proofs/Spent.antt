-- Of which partitions something is spent.
use Rattle.std.proofs.Common.{◌≡◌, ◌≢◌, ◌∙◌, inl, inr, ℕ, zero, suc, ◌+◌, ◌-◌, ◌≤◌, ◌==◌, if◌then◌else◌, Bool, true, false, List, [], ◌∷◌, ◌++◌, length, replicate, Option, Some, None, option_map, refl, ap, sym, subst, arith, eq-eqb}
use Rattle.std.specs.Prelude.{map, slice_get}
use Rattle.std.proofs.lemmas.Bool.{cases_eq}
use Rattle.std.proofs.lemmas.List.Sums.{sum_by-cons}
use Rattle.std.proofs.lemmas.Option.{none-some, same_Some, slice_get-map}
use Rattle.store_api.specs.Holdings.{Holdings}
use Rattle.store_api.specs.Signs.{Signs}
use Rattle.tuple_stream.specs.Bounds.{AllFew}
use Rattle.tuple_stream.specs.Families.{AreShaped, Family, family}
use Rattle.tuple_stream.specs.FamilyCalls.{AllWhole}
use Rattle.tuple_stream.specs.Streamed.{Streamed}
use Rattle.tuple_stream.specs.Streams.{HasRows}
use Rattle.tuple_stream.proofs.PageLists.{no_length, still_at}
use Rattle.partition_stack.specs.Changes.{ChangesAt}
use Rattle.partition_stack.specs.Laws.{begun_in}
use Rattle.partition_stack.specs.Stack.{Stack, divided, empty, over}
use Rattle.partition_stack.proofs.ListPlaces.{front_or_behind, of_replicate}
use Rattle.join_op.specs.Dividing.{HasDealt, WholeBut}
use Rattle.join_op.specs.Stored.{Side}

-- the partition at that place was called
pub whole_called : (at : ℕ) (p q : Stack) (h h1 : Holdings) (s s1 : Signs) → ChangesAt at p q → WholeBut at (over p h s) → WholeBut at (over q h1 s1)
whole_called at p q h h1 s s1 changes whole i x there apart = whole i x (sym (changes.others i apart) ∙ there) apart

same_spent : (o : Option Streamed) (n : ℕ) → option_map (λ s. s.spent) o ≡ Some n → (y : Streamed) × (o ≡ Some y) × (y.spent ≡ n)
same_spent None n there = absurd (none-some n there)
same_spent (Some y) n there = (y, refl, same_Some y.spent n there)

-- rows were appended
pub whole_sent : (at : ℕ) (p q : Stack) (h h1 : Holdings) (s s1 : Signs) → map (λ s. s.spent) q.streams ≡ map (λ s. s.spent) p.streams → WholeBut at (over p h s) → WholeBut at (over q h1 s1)
whole_sent at p q h h1 s s1 same whole i x there apart =
    let now : option_map (λ s. s.spent) (slice_get p.streams i) ≡ Some x.spent =
    sym (slice_get-map (λ (s : Streamed). s.spent) p.streams i) ∙ ap (λ (ns : List ℕ). slice_get ns i) (sym same) ∙ slice_get-map (λ (s : Streamed). s.spent) q.streams i ∙ ap (option_map (λ (s : Streamed). s.spent)) there in
    let was = same_spent (slice_get p.streams i) x.spent now in
    sym was.2 ∙ whole i was.0 was.1 apart

-- sixteen more came
pub whole_divided : (at level : ℕ) (p : Stack) (h : Holdings) (s : Signs) → AllWhole (over p h s) → AllWhole (over (divided at level p) h s)
whole_divided at level p h s whole i x there = elim (front_or_behind p.streams (replicate 16 (empty p.page_blocks)) i x there) [
  | inl front ↦ whole i x front
  | inr behind ↦ ap (λ (r : Streamed). r.spent) (of_replicate 16 (empty p.page_blocks) (i - length p.streams) x behind.1)
]

-- the top one went
pub whole_front : (front : List Streamed) (x : Streamed) (h h1 : Holdings) (s s1 : Signs) → AllWhole (family (front ++ x ∷ []) h s) → AllWhole (family front h1 s1)
whole_front front x h h1 s s1 whole i y there = whole i y (still_at front x y i there)

-- a partition that has no row has no page, and begins anew
pub whole_again : AllFew → (t : ℕ) (side : Side) (level at : ℕ) (rows : ℕ → List (List ℕ)) (f : Family) → AreShaped t f → HasDealt side level at rows (rows at) [] f → WholeBut at f → AllWhole f
whole_again few_pages t side level at rows f shaped has whole i x there = elim (cases_eq i at) [
  | inr apart ↦ whole i x there apart
  | inl same ↦
      let none : has.now i ≡ [] = ap has.now same ∙ has.here in
      let shows : HasRows [] x f.held = subst (λ (rs : List (List ℕ)). HasRows rs x f.held) none (has.shows i x there) in
      let few = (few_pages t [] x f.held (shaped.each i x there) shows).by_rows in
      ((shaped.each i x there).begins (no_length x.pages (omega (arith, few)))).0
]

-- ---- how many are being spent

none_begun : (streams : List Streamed) → ((i : ℕ) (s : Streamed) → slice_get streams i ≡ Some s → s.spent ≡ 0) → begun_in streams ≡ 0
none_begun [] whole = refl
none_begun (s ∷ streams) whole =
    let rest = none_begun streams (λ i r at. whole (suc i) r at) in
    let one : ◌≡◌ {A = ℕ} (if s.spent == 0 then 0 else 1) 0 = rw (eq-eqb s.spent 0 (whole 0 s refl)) refl in
    let all : begun_in (s ∷ streams) ≡ (if s.spent == 0 then 0 else 1) + begun_in streams = sum_by-cons (λ (s : Streamed). if s.spent == 0 then 0 else 1) s streams in
    omega (arith, rest, one, all)

at_most_one : (b : Bool) → (if b then 0 else 1) ≤ 1
at_most_one true = omega arith
at_most_one false = omega arith

-- of all but one nothing is spent
pub one_begun : (at : ℕ) (streams : List Streamed) → ((i : ℕ) (s : Streamed) → slice_get streams i ≡ Some s → i ≢ at → s.spent ≡ 0) → begun_in streams ≤ 1
one_begun at [] whole = omega arith
one_begun zero (s ∷ streams) whole =
    let rest = none_begun streams (λ i r there. whole (suc i) r there (λ same. omega (arith, same))) in
    let one = at_most_one (s.spent == 0) in
    let all : begun_in (s ∷ streams) ≡ (if s.spent == 0 then 0 else 1) + begun_in streams = sum_by-cons (λ (s : Streamed). if s.spent == 0 then 0 else 1) s streams in
    omega (arith, rest, one, all)
one_begun (suc at) (s ∷ streams) whole =
    let rest = one_begun at streams (λ i r there apart. whole (suc i) r there (λ same. apart (omega (arith, same)))) in
    let one : ◌≡◌ {A = ℕ} (if s.spent == 0 then 0 else 1) 0 = rw (eq-eqb s.spent 0 (whole 0 s refl (λ same. omega (arith, same)))) refl in
    let all : begun_in (s ∷ streams) ≡ (if s.spent == 0 then 0 else 1) + begun_in streams = sum_by-cons (λ (s : Streamed). if s.spent == 0 then 0 else 1) s streams in
    omega (arith, rest, one, all)

-- or of all
pub none_is_begun : (f : Family) → AllWhole f → begun_in f.streams ≤ 1
none_is_begun f whole = let none = none_begun f.streams whole in omega (arith, none)
